-- Definitions of digit lists and codes, in reading order.
pub mod Lists
pub mod Order
pub mod Code
pub mod Between
pub mod Thirds
