pub mod KindRows
pub mod Packets
pub mod GroupLaws
pub mod GroupFaults
pub mod PageLaws
pub mod HeaderLaws
pub mod PageSpelling
pub mod PageReading
