-- Laws of a table's rows, of its rules and of the labelling it leaves, in reading order. Assumes nothing.
pub mod RowLaws
pub mod RuleLaws
pub mod AcceptedLaws
pub mod Examples
pub mod WalkLaws
pub mod GapLaws
pub mod TourLaws
pub mod LabelLaws
pub mod SignableLaws
pub mod HoldsLaws
