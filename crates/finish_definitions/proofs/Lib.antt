pub mod WholeCommands
