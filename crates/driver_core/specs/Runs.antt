-- What the commands have in common: a whole run.
pub mod Fitting
pub mod Outcome
pub mod Prepared
pub mod Asking
pub mod Promises
pub mod AllPromises
