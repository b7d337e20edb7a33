-- The paper's numbers for each answer, and what a call that writes into a lent buffer does.
pub mod Number
pub mod Signed
pub mod Outcome
