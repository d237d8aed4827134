pub mod Lists
pub mod Derivations
pub mod Casts
pub mod CastForms
pub mod ChosenLaws
