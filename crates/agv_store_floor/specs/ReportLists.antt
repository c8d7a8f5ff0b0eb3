-- The lists of a report and of the exports. No public clause cites this.
use Rattle.std.specs.Prelude.{List, [], ◌∷◌, Option, None, Some}
use Rattle.std.specs.FinMap.{insert}
use Rattle.agv_header.specs.declared.key.Thing.{Thing}
use Rattle.agv_header.specs.declared.key.VehicleKey.{VehicleKey}
use Rattle.agv_layout.specs.Layout.{Layout}
use Rattle.agv_layout.specs.LayoutOf.{rows_in}
use Rattle.agv_layout.specs.declared.row.LayoutRow.{LayoutRow}
use Rattle.agv_track_holds.specs.Holds.{Holds}
use Rattle.agv_count_exports.specs.declared.told.VehicleTold.{VehicleTold}
use Rattle.agv_world_core.specs.Questions.{trip_of}
use Rattle.agv_world_core.specs.Worlds.{World}
use Rattle.agv_world_core.specs.declared.row.VehicleRow.{VehicleRow}

-- the table with these pairs added, one after the other
abbrev pub entered : Holds → List (Thing × VehicleKey) → Holds
entered table [] = table
entered table (pair ∷ pairs) = entered (insert table pair.0 pair.1) pairs

-- a vehicle with its row, and its open trip in the world, if any
abbrev pub with_trip : World → VehicleKey × VehicleRow → VehicleTold
with_trip world entry = record { key = entry.0; row = entry.1; trip = trip_of world entry.0 }

-- the rows of a layout, if there is one
abbrev pub rows_of : Option Layout → List LayoutRow
rows_of None = []
rows_of (Some layout) = rows_in layout
