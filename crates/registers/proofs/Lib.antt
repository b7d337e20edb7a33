-- Laws of a register's bytes. Assumes nothing.
pub mod WriteLaws
pub mod EntryLaws
pub mod SoundLaws
pub mod RowLaws
pub mod BytesLaws
pub mod TreeLaws
pub mod ReadLaws
pub mod QuestionLaws
pub mod ReadingLaws
pub mod HoldsLaws
pub mod AnswerLaws
