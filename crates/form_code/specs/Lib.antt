pub mod Views
pub mod ClassViews
pub mod SeenViews
