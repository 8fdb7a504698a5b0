pub mod WholeCommands
pub mod Ends
pub mod Runs
pub mod PageStates
pub mod CutJobs
pub mod PrintedJobs
