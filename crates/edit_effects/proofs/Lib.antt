pub mod EffectLaws
pub mod UseLaws
pub mod MoveLaws
pub mod InlineLaws
pub mod ShownLaws
