-- Laws of outcomes and of signed answers.
pub mod OutcomeLaws
pub mod SignedLaws
