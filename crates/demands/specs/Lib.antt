-- The worked examples; a run of edits; right answers; the demands. Assumes nothing.
pub mod Worked
pub mod Run
pub mod Answers
pub mod Demands
pub mod OneAnswer
