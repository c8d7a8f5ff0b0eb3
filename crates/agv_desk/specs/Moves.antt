-- The moves of loads among the rows that a call changes.
use Rattle.std.specs.Prelude.{ℕ, List, map, filter_map, Option, None, Some}
use Rattle.agv_stock.specs.declared.place.Place.{Place}
use Rattle.agv_world_core.specs.declared.change.Change.{Change}
use Rattle.agv_world_core.specs.declared.change.Change.TheVariants as row
use Rattle.agv_desk.specs.Outcomes.{Effect, Move}

-- the load and its place, if the change is of a load's row
abbrev pub move_in : Change → Option (List ℕ × Place)
move_in (row.Node id) = None
move_in (row.Edge id ends) = None
move_in (row.Station id site) = None
move_in (row.Vehicle key vehicle) = None
move_in (row.Trip order trip) = None
move_in (row.Leg key edge) = None
move_in (row.Load load place) = Some (load, place)
move_in (row.Job job written) = None
move_in (row.Hold thing holder) = None
move_in (row.Used key) = None

-- the load and the place of each load's row, in the order of the changes
abbrev pub moves_in : List Change → List (List ℕ × Place)
moves_in changes = filter_map move_in changes

-- the load and the place of each move of an effect, in their order
abbrev pub moves_made : Effect → List (List ℕ × Place)
moves_made effect = map (λ (move : Move). (move.load, move.place)) effect.moves
