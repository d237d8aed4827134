pub mod GrowthLaws
pub mod PushLaws
pub mod RenamedLaws
