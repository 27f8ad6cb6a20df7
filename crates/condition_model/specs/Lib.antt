pub mod Grammar
pub mod Reader
pub mod Truth
pub mod Answers
pub mod Worked
pub mod Faults
pub mod WorkedCalls
pub mod Mixtures
