-- The text of an entry and of a table, and what a text is read as, in reading order. Assumes nothing.
pub mod Printed
pub mod Reading
pub mod Answers
pub mod Cursor
