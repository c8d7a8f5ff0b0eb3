pub mod QueriedRows
