-- In reading order.
pub mod Machine
pub mod Sound
pub mod Answers
pub mod Moves
pub mod Games
pub mod Edits
pub mod Inner
pub mod Plans
