pub mod PlainCodes
