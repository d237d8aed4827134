pub mod RoundLaws
pub mod GraphLaws
