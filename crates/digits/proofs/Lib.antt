-- Laws of digit lists and codes, in reading order.
pub mod ListLaws
pub mod OrderLaws
pub mod CodeLaws
pub mod BetweenLaws
pub mod ThirdsLaws
pub mod CountLaws
pub mod Table3
