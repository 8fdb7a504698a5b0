pub mod Lines
pub mod PageSteps
pub mod HalftoneSteps
pub mod SlabReads
