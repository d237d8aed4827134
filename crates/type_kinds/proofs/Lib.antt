pub mod FirstIn
pub mod PartLaws
pub mod DepthLaws
pub mod RangeLaws
pub mod CountLaws
