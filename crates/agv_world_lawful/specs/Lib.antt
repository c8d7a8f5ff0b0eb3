pub mod Values
pub mod LawfulTests
pub mod LoadTests
