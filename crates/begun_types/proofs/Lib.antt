pub mod Effects
pub mod TypeLines
pub mod Wholes
pub mod Signs
pub mod Known
pub mod Texts
