pub mod DraftLaws
pub mod CastLaws
pub mod GivenLaws
pub mod OwnLaws
pub mod ChoiceLaws
pub mod OrderLaws
