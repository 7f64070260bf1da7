pub mod Fitting
mod Listing
mod Prepared
