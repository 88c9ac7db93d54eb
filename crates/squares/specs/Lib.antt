-- In reading order.
pub mod Bit
pub mod Board
pub mod Kinds
pub mod Sets
pub mod Answers
pub mod Inner
