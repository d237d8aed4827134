pub mod SameCodes
