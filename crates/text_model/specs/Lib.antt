-- The texts of modules.
pub mod PrintedPlaces
pub mod PrintedNames
pub mod PrintedOps
pub mod Printed
pub mod PrintedLaws
