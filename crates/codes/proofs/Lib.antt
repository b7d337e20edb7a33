-- Laws of packed fields and of the three calls, in reading order.
pub mod FieldLaws
pub mod TestLaws
pub mod WordLaws
pub mod CompareLaws
pub mod DigitLaws
pub mod ClosedLaws
pub mod ReadingLaws
pub mod SpreadLaws
pub mod PackerLaws
pub mod WriteLaws
pub mod CallLaws
pub mod SignableLaws
