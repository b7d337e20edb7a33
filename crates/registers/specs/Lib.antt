-- A register's layout, its entries as bytes and as read, and what it holds, in reading order. Assumes nothing.
pub mod Layout
pub mod Entries
pub mod Holds
pub mod Sound
pub mod Questions
