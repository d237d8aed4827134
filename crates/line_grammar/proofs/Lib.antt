pub mod Tests
pub mod Sound
pub mod Stacks
pub mod Complete
pub mod Made
pub mod Theorems
pub mod Texts
