pub mod TypeTrip
pub mod AttrTrip
pub mod OpTrip
pub mod TypeOpens
pub mod AttrOpens
pub mod OpOpens
