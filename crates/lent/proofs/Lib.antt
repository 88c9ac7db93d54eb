-- Crates above cite Laws alone.
mod Ends
pub mod Laws
