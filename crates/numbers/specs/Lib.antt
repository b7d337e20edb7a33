-- The words of the crate's contracts. Assumes nothing.
pub mod Bytes
