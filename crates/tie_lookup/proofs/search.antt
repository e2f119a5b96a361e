-- Laws of the scan for a key.
pub mod OnlyOne
pub mod OnCard
pub mod InHeader
pub mod Defined
