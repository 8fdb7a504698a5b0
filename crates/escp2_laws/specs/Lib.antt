pub mod Examples
pub mod Machines
pub mod Said
pub mod Coded
pub mod PacketStands
