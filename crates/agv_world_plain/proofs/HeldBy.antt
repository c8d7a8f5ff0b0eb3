-- Whether a vehicle holds a node or an edge, read off its rows.
use Rattle.std.proofs.Common.{◌≡◌, ◌≢◌, ◌||◌, ◌-◌, ℕ, suc, Bool, true, false, not, cond, List, [], ◌∷◌, filter, Option, option_map, arith, refl, sym, ap, ◌∙◌}
use Rattle.std.specs.List.{list_any, slice_get}
use Rattle.std.proofs.lemmas.Option.{slice_get-map}
use Rattle.agv_header.specs.ThingOrder.{thing_eq, thing_cmp-IsAntisymmetric}
use Rattle.agv_header.specs.declared.key.Thing.{Thing}
use Rattle.agv_header.specs.declared.key.Thing.TheVariants as thing
use Rattle.agv_header.specs.declared.key.VehicleKey.{VehicleKey}
use Rattle.agv_layout.specs.declared.edge.Edge.{Edge}
use Rattle.agv_order.specs.Trips.{nodes_on}
use Rattle.agv_order.specs.declared.trip.Trip.{Trip}
use Rattle.agv_track_holds.specs.Footprints.{along, footprint_of, once, things_by}
use Rattle.agv_track_holds.specs.Holds.{is_in}
use Rattle.agv_world_core.specs.Told.{is_held_by, open_trip}
use Rattle.agv_world_core.specs.declared.row.VehicleRow.{VehicleRow}
use Rattle.agv_world_core.specs.declared.world.World.{World as Tables}
use Rattle.agv_world_core.proofs.lists.Entries.{is_same}

module _ (held : Thing) where
  -- what is left out is another thing
  kept_apart : (first x : Thing) (rest : List Thing) (b : Bool) → thing_eq held first ≡ false → thing_eq first x ≡ b
      → is_in held (cond (not b) (x ∷ rest) rest) ≡ (thing_eq held x || is_in held rest)
  kept_apart first x rest true apart same = ap (λ b. b || is_in held rest) (sym apart ∙ ap (thing_eq held) (is_same thing_cmp-IsAntisymmetric first x same))
  kept_apart first x rest false apart other = refl

  among-others : (first : Thing) → thing_eq held first ≡ false → (things : List Thing)
      → is_in held (filter (λ (other : Thing). not (thing_eq first other)) things) ≡ is_in held things
  among-others first apart [] = refl
  among-others first apart (x ∷ things) =
      kept_apart first x (filter (λ (other : Thing). not (thing_eq first other)) things) (thing_eq first x) apart refl
      ∙ ap (λ b. thing_eq held x || b) (among-others first apart things)

  then_among : (first : Thing) (things all : List Thing) (b : Bool) → thing_eq held first ≡ b → is_in held things ≡ is_in held all
      → (b || is_in held (filter (λ (other : Thing). not (thing_eq first other)) things)) ≡ (b || is_in held all)
  then_among first things all true found same = refl
  then_among first things all false apart same = among-others first apart things ∙ same

  -- each thing stands once among what is among all
  among-once : (things : List Thing) → is_in held (once things) ≡ is_in held things
  among-once [] = refl
  among-once (first ∷ things) = then_among first (once things) things (thing_eq held first) refl (among-once things)

  either : (a b c : Bool) → ((a || (b || false)) || c) ≡ (a || (b || c))
  either true b c = refl
  either false true c = refl
  either false false c = refl

  -- edge by edge
  pub among-along : (edges : List Edge) → list_any (λ (edge : Edge). is_in held (along (edge ∷ []))) edges ≡ is_in held (along edges)
  among-along [] = refl
  among-along (edge ∷ edges) =
      ap (λ b. is_in held (along (edge ∷ [])) || b) (among-along edges)
      ∙ either (thing_eq held (thing.Edge edge.id)) (thing_eq held (thing.Node edge.finish)) (is_in held (along edges))

-- with its trip the vehicle holds what is on the way, and where it stands without
pub held_by : (tables : Tables) (held : Thing) (key : VehicleKey) (row : VehicleRow) (trip : Option Trip) → open_trip tables key ≡ trip
    → is_held_by tables held (key, row) ≡ is_in held (things_by row.node row.rest trip)
unfolding footprint_of
held_by tables held key row trip is =
    among-once held (things_by row.node row.rest (open_trip tables key)) ∙ ap (λ t. is_in held (things_by row.node row.rest t)) is

-- a node past the start is the finish of the edge before it
pub node_past : (start : List ℕ) (edges : List Edge) (k : ℕ) (edge : Option Edge) → k ≢ 0 → edge ≡ slice_get edges (k - 1)
    → option_map (λ (e : Edge). e.finish) edge ≡ slice_get (nodes_on start edges) k
node_past start edges k edge apart is =
    ap (option_map (λ (e : Edge). e.finish)) is
    ∙ sym (slice_get-map (λ (e : Edge). e.finish) edges (k - 1))
    ∙ ap (slice_get (nodes_on start edges)) one_more
  where
    one_more : suc (k - 1) ≡ k
    one_more = omega arith
