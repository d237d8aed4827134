pub mod JournalLaws
pub mod StepLaws
pub mod WriterLaws
pub mod LastLaws
pub mod NewOpLaws
pub mod CutLaws
