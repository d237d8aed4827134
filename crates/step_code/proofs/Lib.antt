pub mod ActLaws
pub mod FindLaws
pub mod PairLaws
pub mod StepLaws
pub mod TurnLaws
