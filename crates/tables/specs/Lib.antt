-- A table's rows, its rules, one row by its number, what is accepted, the walk of first labelling and its outcome, in reading order.
-- Assumes nothing.
pub mod Table
pub mod Rules
pub mod Rows
pub mod Accepted
pub mod Walk
pub mod Walker
pub mod Labelling
