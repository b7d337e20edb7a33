-- Definitions of ordered forests and labelled forests, in reading order. Assumes nothing.
pub mod Lists
pub mod Forest
pub mod Axes
pub mod Table
pub mod Tour
pub mod Questions
pub mod Labelled
pub mod Edit
pub mod Neighbours
pub mod Search
pub mod Check
