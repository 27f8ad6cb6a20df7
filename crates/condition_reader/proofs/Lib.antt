pub mod Passing
pub mod Places
pub mod Equations
pub mod Signs
pub mod Cycle
