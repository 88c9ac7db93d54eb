-- Crates above cite Laws alone.
mod Cases
mod Cut
mod Boards
mod Sums
mod Bound
mod Counts
mod Writing
mod Unique
mod Demand3
mod Theorems
mod Marked
pub mod Laws
