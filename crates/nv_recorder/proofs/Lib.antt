pub mod FoundPlaces
pub mod Lending
