pub mod BodyCalls
pub mod CommandBodies
pub mod CsvBodies
pub mod Members
pub mod OrderBody
pub mod StateBody
