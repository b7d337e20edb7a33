-- Labels and the four questions on two of them, in reading order.
pub mod Label
pub mod Questions
