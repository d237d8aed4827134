pub mod SameLaws
pub mod FlatLaws
pub mod RowLaws
pub mod PlaceLaws
pub mod ClashLaws
pub mod TypeLaws
pub mod OrderLaws
