pub mod WrittenLaws
mod AttrExamples
mod NumberExamples
mod LevelExamples
mod TextExamples
