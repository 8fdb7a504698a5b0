pub mod SlabSteps
pub mod Lines
