pub mod Places
pub mod Settled
pub mod Pages
pub mod PlaneDots
