pub mod DeskSchema
pub mod DeskTables
pub mod MakingFault
pub mod NewDesk
pub mod Refusals
pub mod SchemaTexts
pub mod StandingTables
pub mod TextsRun
