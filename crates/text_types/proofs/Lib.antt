pub mod StackLaws
pub mod PlainLaws
pub mod MarkLaws
pub mod BegunLaws
pub mod AliasLaws
