mod Asked
mod Unique
