-- What the printer's table of names stands for.
pub mod Counters
pub mod NamesIn
