-- What SQL does to one table somewhere in a schema, and to a connection: entries, keys, selections, failures.
pub mod CountRows
pub mod EntryEdits
pub mod Failing
pub mod NoReferences
pub mod OneTableReads
pub mod OneTableTerms
pub mod OneTableTexts
pub mod OneTableWrites
pub mod QueryRows
pub mod ReadFailing
pub mod Selecting
