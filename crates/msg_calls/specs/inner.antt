pub mod Cursors
pub mod Running
