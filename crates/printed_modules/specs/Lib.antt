pub mod ModuleWords
