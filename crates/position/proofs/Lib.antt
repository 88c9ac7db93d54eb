-- Crates above cite Laws alone.
mod Agree
mod Sizes
mod Reading
mod Elsewhere
mod Tidiness
mod Stores
mod InOrder
mod Asking
mod Once
mod Pieces
mod Kings
mod Carrying
mod Playing
mod Tallies
mod Ladder
mod Kept
mod Halves
mod Exact
mod Theorems
mod Editing
pub mod Laws
