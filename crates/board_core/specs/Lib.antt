pub mod Numbers
pub mod States
pub mod Steps
pub mod Legal
pub mod Records
pub mod Inside
