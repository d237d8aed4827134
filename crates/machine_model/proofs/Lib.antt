pub mod Examples
pub mod Spending
pub mod Forms
pub mod Fuel
