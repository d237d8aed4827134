pub mod CallLaws
pub mod GatherLaws
