pub mod Datums
pub mod Chains
pub mod Answer
pub mod Listing
pub mod packed
pub mod routing
