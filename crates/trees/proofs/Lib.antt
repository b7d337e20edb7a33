-- Laws of ordered forests and labelled forests, in reading order. Assumes nothing.
pub mod ListLaws
pub mod ForestLaws
pub mod DistinctLaws
pub mod ImageLaws
pub mod TableLaws
pub mod DepthLaws
pub mod TourLaws
pub mod KinLaws
pub mod UniqueLaws
pub mod LabelledLaws
pub mod EditLaws
pub mod NeighbourLaws
pub mod PlaceLaws
pub mod SearchLaws
pub mod Examples
pub mod WalkLaws
pub mod CheckLaws
