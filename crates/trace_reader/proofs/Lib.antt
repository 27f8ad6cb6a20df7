pub mod Alike
pub mod OneStep
pub mod AllSteps
pub mod Whole
pub mod HeldBack
