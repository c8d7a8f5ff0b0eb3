pub mod ActInsertions
pub mod ActsPut
pub mod ChangesFound
pub mod ChangesRun
pub mod OwnKeys
pub mod RowsStay
