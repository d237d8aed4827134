pub mod RisingLaws
pub mod LineLaws
pub mod NameLaws
pub mod StepLaws
