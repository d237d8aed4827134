pub mod SeenLaws
pub mod MadeLaws
pub mod TableLaws
pub mod LoopLaws
pub mod ProductLaws
