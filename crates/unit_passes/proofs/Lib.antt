pub mod MakesLaws
