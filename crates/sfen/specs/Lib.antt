-- In reading order.
pub mod Text
pub mod Writes
pub mod Lists
pub mod Inner
