pub mod EntriesLaws
pub mod InterningLaws
pub mod PlaceLaws
pub mod ReadLaws
pub mod EmptyLaws
pub mod RecentLaws
pub mod TogetherLaws
