pub mod Places
pub mod EdgeLaws
pub mod TopLaws
pub mod AtHand
pub mod Kernels
pub mod HandedLaws
