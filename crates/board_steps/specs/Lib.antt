pub mod Graph
pub mod Content
pub mod Rule
pub mod Steps
pub mod Clauses
pub mod Shown
pub mod Examples
