pub mod Fills
pub mod Listings
