pub mod Offences
