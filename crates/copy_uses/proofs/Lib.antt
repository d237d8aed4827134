pub mod FollowLaws
pub mod UseLayers
