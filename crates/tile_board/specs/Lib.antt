pub mod Slabs
pub mod Hand
pub mod Front
pub mod Room
pub mod Tasks
pub mod Board
pub mod Closing
pub mod Emptying
