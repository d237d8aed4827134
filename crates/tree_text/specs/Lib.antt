pub mod Joined
pub mod Grew
pub mod NameText
pub mod TypeText
pub mod AttrText
pub mod Laws
