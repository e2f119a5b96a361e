pub mod Card
pub mod Found
