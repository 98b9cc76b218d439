pub mod Again
pub mod InScope
pub mod Growing
pub mod Uses
pub mod Laws
pub mod Words
