-- The worked examples, and the demands with the laws behind them. Assumes nothing.
pub mod Examples
pub mod RightLaws
pub mod RunLaws
pub mod Demands
pub mod Instance
pub mod OneAnswer
