pub mod PlaceLaws
pub mod KindLaws
