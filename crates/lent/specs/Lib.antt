pub mod InPlace
