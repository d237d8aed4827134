pub mod SeenSome
pub mod ReadingLaws
