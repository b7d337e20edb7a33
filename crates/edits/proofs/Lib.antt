-- Laws of edits: bytes moved, neighbours found, outcomes, what the buffer holds. Assumes nothing.
pub mod SpliceLaws
pub mod SearchLaws
pub mod PlaceLaws
pub mod OutcomeLaws
pub mod SignableLaws
pub mod HoldsLaws
pub mod PlanLaws
pub mod LengthLaws
