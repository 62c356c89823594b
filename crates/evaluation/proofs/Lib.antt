pub mod Lists
pub mod Parameters
