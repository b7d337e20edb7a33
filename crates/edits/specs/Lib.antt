-- The bytes of an edited register, and the outcome of an edit, in reading order. Assumes nothing.
pub mod Splice
pub mod Search
pub mod Edits
pub mod Plans
