-- Laws of decimals, of an entry's line and of reading, in reading order; `TextLaws` has the two directions. Assumes nothing.
pub mod DecimalLaws
pub mod CodeTextLaws
pub mod LineLaws
pub mod CursorLaws
pub mod ReadingLaws
pub mod TableLaws
pub mod NumberTextLaws
pub mod TextLaws
pub mod Worked
