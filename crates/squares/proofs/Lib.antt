-- Crates above cite Laws alone. The rest is about words, and private to this crate's proofs.
pub mod Laws
mod Lists
mod Bits
mod Steps
mod Tests
mod Members
mod Rules
mod Words
mod ByCell
mod Shifts
mod Counts
mod Least
mod Lowest
mod Exact
mod Families
mod Files
mod Flips
mod Numbers
mod Marking
mod Pieces
mod Unique
mod Marked
