-- Definitions of packed fields and of the three calls on codes, in reading order.
pub mod Code
pub mod Field
pub mod Words
pub mod Reading
pub mod Packer
pub mod Spread
pub mod Calls
