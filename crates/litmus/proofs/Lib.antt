pub mod Models
pub mod Given
pub mod Represented
pub mod RoundTrip
pub mod OrderAnswers
pub mod NameParts
pub mod StructClaim
pub mod FirstBadField
