-- A new desk, as the queries see it.
use Rattle.sqlite.specs.Effect.{Database}
use Rattle.agv_world_core.specs.Worlds.{empty_world}
use Rattle.agv_store_schema.specs.DeskRows.{Placing}
use Rattle.agv_store_read.specs.WorldAnswers.{HasWorld}

-- the database has the desk's tables, with the rows of the empty world
abbrev pub KnowsNothing : Database → Type 0
KnowsNothing db = (desk : Placing) × HasWorld desk db empty_world
