-- The rows of loads among the rows that a call changes.
use Rattle.std.proofs.Common.{◌≡◌, ℕ, true, false, cond, List, [], ◌∷◌, ◌++◌, map, Option, None, Some, refl, ap, ◌∙◌}
use Rattle.std.proofs.lemmas.List.Elements.{filter_map-append}
use Rattle.std.specs.FinMap as finite
use Rattle.std.specs.List.{enumerate_from, cons_option}
use Rattle.agv_header.specs.declared.key.Thing.{Thing}
use Rattle.agv_header.specs.declared.key.VehicleKey.{VehicleKey}
use Rattle.agv_layout.specs.Layout.{Layout}
use Rattle.agv_layout.specs.LayoutOf.{nodes_of}
use Rattle.agv_layout.specs.declared.edge.Edge.{Edge}
use Rattle.agv_layout.specs.declared.edge.EdgeEnds.{EdgeEnds}
use Rattle.agv_layout.specs.declared.station.StationSite.{StationSite}
use Rattle.agv_order.specs.declared.trip.Trip.{Trip}
use Rattle.agv_track_holds.specs.Footprints.{footprint_of}
use Rattle.agv_track_holds.specs.Holders.{gained}
use Rattle.agv_world_core.specs.Maps.{standing_of, trip_row}
use Rattle.agv_world_core.specs.SameRows.{same_row, same_trip_row}
use Rattle.agv_world_core.specs.VehicleChanges.{own_changes, trip_changes, hold_changes, row_before, trip_before, held_before}
use Rattle.agv_world_core.specs.declared.change.Change.{Change}
use Rattle.agv_world_core.specs.declared.change.Change.TheVariants as row
use Rattle.agv_world_core.specs.declared.key.UseKey.{UseKey}
use Rattle.agv_world_core.specs.declared.row.JobRow.{JobRow}
use Rattle.agv_world_core.specs.declared.row.VehicleRow.{VehicleRow}
use Rattle.agv_desk.specs.Moves.{move_in, moves_in, moves_made}
use Rattle.agv_desk.specs.Outcomes.{Effect, Move, VehicleChange, Nothing, RowOnly, Whole, laid_changes, touched_changes, changes_of}

-- no load's row is among the changes
record HasNone (changes : List Change) : Type 0 where
  none : moves_in changes ≡ []

-- of two lists of changes, where no load's row is in the first
after_none : (changes others : List Change) → HasNone changes → moves_in (changes ++ others) ≡ moves_in others
after_none changes others first = filter_map-append move_in changes others ∙ ap (λ moves. moves ++ moves_in others) first.none

both_none : {changes others : List Change} → HasNone changes → HasNone others → HasNone (changes ++ others)
both_none {changes = changes} {others = others} first second = record { none = after_none changes others first ∙ second.none }

-- rows of another table
none_of : {X : Type 0} (made : X → Change) → ((x : X) → move_in (made x) ≡ None) → (xs : List X) → HasNone (map made xs)
none_of made each [] = record { none = refl }
none_of made each (x ∷ xs) = record { none = ap (λ move. cons_option move (moves_in (map made xs))) (each x) ∙ (none_of made each xs).none }

-- rows of loads, and then none
moves_first : (moves : List Move) (others : List Change) → HasNone others
    → moves_in (map (λ (move : Move). row.Load move.load move.place) moves ++ others) ≡ map (λ (move : Move). (move.load, move.place)) moves
moves_first [] others rest = rest.none
moves_first (move ∷ moves) others rest = ap (λ more. (move.load, move.place) ∷ more) (moves_first moves others rest)

-- the layout
layout_none : (layout : Option Layout) → HasNone (laid_changes layout)
layout_none None = record { none = refl }
layout_none (Some layout) =
    both_none (none_of (λ id. row.Node id) (λ id. refl) (nodes_of layout))
    (both_none (none_of (λ (edge : List ℕ × EdgeEnds). row.Edge edge.0 edge.1) (λ edge. refl) (finite.entries layout.edges))
    (none_of (λ (station : List ℕ × StationSite). row.Station station.0 station.1) (λ station. refl) (finite.entries layout.stations)))

-- a vehicle's own row
own_none : (key : VehicleKey) (old : Option VehicleRow) (new : VehicleRow) → HasNone (own_changes key old new)
own_none key None new = record { none = refl }
own_none key (Some old) new = elim (same_row old new) as (λ same. HasNone (cond same [] (row.Vehicle key new ∷ []))) [
  | true ↦ record { none = refl }
  | false ↦ record { none = refl }
]

-- a vehicle's trip
trip_none : (key : VehicleKey) (old new : Option Trip) → HasNone (trip_changes key old new)
trip_none key None None = record { none = refl }
trip_none key None (Some new) =
    let legs = none_of (λ (numbered : ℕ × Edge). row.Leg (record { order = new.order; k = numbered.0 }) (Some numbered.1.id)) (λ numbered. refl) (enumerate_from 0 new.edges) in
    record { none = legs.none }
trip_none key (Some old) None =
    let legs = none_of (λ (numbered : ℕ × Edge). row.Leg (record { order = old.order; k = numbered.0 }) None) (λ numbered. refl) (enumerate_from 0 old.edges) in
    record { none = legs.none }
trip_none key (Some old) (Some new) = elim (same_trip_row old new) as (λ same. HasNone (cond same [] (row.Trip new.order (Some (trip_row key new)) ∷ []))) [
  | true ↦ record { none = refl }
  | false ↦ record { none = refl }
]

-- what a vehicle holds
hold_none : (key : VehicleKey) (old new : List Thing) → HasNone (hold_changes key old new)
hold_none key old new =
    both_none (none_of (λ (thing : Thing). row.Hold thing (Some key)) (λ thing. refl) (gained old new))
    (none_of (λ (thing : Thing). row.Hold thing None) (λ thing. refl) (gained new old))

-- the vehicle
touched_none : (touched : VehicleChange) → HasNone (touched_changes touched)
touched_none Nothing = record { none = refl }
touched_none (RowOnly key old new) = own_none key (Some old) new
touched_none (Whole key old new) =
    both_none (own_none key (row_before old) new.row)
    (both_none (trip_none key (trip_before old) new.trip) (hold_none key (held_before old) (footprint_of (standing_of new))))

pub moves_told : (effect : Effect) → moves_in (changes_of effect) ≡ moves_made effect
moves_told effect =
    let loads = map (λ (move : Move). row.Load move.load move.place) effect.moves in
    let jobs = map (λ (job : List ℕ × JobRow). row.Job job.0 job.1) effect.jobs in
    let uses = map (λ (key : UseKey). row.Used key) effect.uses in
    let others = both_none
    (none_of (λ (job : List ℕ × JobRow). row.Job job.0 job.1) (λ job. refl) effect.jobs)
    (none_of (λ (key : UseKey). row.Used key) (λ key. refl) effect.uses) in
    after_none (laid_changes effect.layout) (touched_changes effect.touched ++ (loads ++ (jobs ++ uses))) (layout_none effect.layout)
    ∙ after_none (touched_changes effect.touched) (loads ++ (jobs ++ uses)) (touched_none effect.touched)
    ∙ moves_first effect.moves (jobs ++ uses) others
