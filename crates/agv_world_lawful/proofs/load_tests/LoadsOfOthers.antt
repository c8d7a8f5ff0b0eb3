-- The loads that are loads_of_others on a vehicle are found among the loads on vehicles.
use Rattle.std.proofs.Common.{◌≡◌, ℕ, ◌+◌, ◌&&◌, not, nat_le, Bool, true, false, cond, count_by, List, [], ◌∷◌, length, refl, sym, ap, ◌∙◌}
use Rattle.std.proofs.lemmas.Bool.{false≢true}
use Rattle.std.proofs.lemmas.List.Sums.{length-filter}
use Rattle.std.specs.FinMap as finite
use Rattle.std.specs.List.{filter, list_all}
use Rattle.agv_header.specs.declared.key.VehicleKey.{VehicleKey}
use Rattle.agv_order.specs.declared.act.Act.{Act}
use Rattle.agv_stock.specs.Rooms.{is_on}
use Rattle.agv_stock.specs.declared.place.Place.{Place}
use Rattle.agv_stock.specs.declared.place.Place.TheVariants as place
use Rattle.agv_world_core.specs.Lawful.{is_to_drop}
use Rattle.agv_world_lawful.specs.LoadTests.{acts_of, are_within_capacity, are_within_capacity_among, is_on_vehicle, is_load_by, loads_on_vehicles, loads_of_others, loads_of_others_among}
use Rattle.agv_world_core.specs.declared.row.VehicleRow.{VehicleRow}
use Rattle.agv_world_core.specs.declared.world.World.{World as Tables}

abbrev Load : Type 0
Load = List ℕ × Place

abbrev on_vehicle : Load → Bool
on_vehicle load = is_on_vehicle load.1

off : (key : VehicleKey) (where_is : Place) (b : Bool) → is_on_vehicle where_is ≡ false → (is_on key where_is && b) ≡ false
off key (place.Station id) b e = refl
off key (place.Vehicle other) b e = absurd (false≢true (sym e))
off key place.Checking b e = refl
off key place.Left b e = refl

module _ (key : VehicleKey) (acts : List Act) where
  abbrev is_load_of_others : Load → Bool
  is_load_of_others load = is_on key load.1 && not (is_load_by load.0 acts)

  among : (loads : List Load) → filter is_load_of_others (filter on_vehicle loads) ≡ filter is_load_of_others loads
  among [] = refl
  among (load ∷ loads) =
      elim (is_on_vehicle load.1) as (λ b. is_on_vehicle load.1 ≡ b → filter is_load_of_others (cond b (load ∷ filter on_vehicle loads) (filter on_vehicle loads)) ≡ cond (is_load_of_others load) (load ∷ filter is_load_of_others loads) (filter is_load_of_others loads)) [
        | true ↦ λ _ i. cond (is_load_of_others load) (load ∷ among loads i) (among loads i)
        | false ↦ λ away. among loads ∙ sym (ap (λ b. cond b (load ∷ filter is_load_of_others loads) (filter is_load_of_others loads)) (off key load.1 (not (is_load_by load.0 acts)) away))
      ] refl

  pub loads_of_others_on_vehicles : (tables : Tables) → loads_of_others_among (loads_on_vehicles tables) key acts ≡ loads_of_others tables key acts
  loads_of_others_on_vehicles tables =
      sym (length-filter is_load_of_others (loads_on_vehicles tables))
      ∙ ap length (among (finite.entries tables.loads))
      ∙ length-filter is_load_of_others (finite.entries tables.loads)

-- so each vehicle may be tested over the loads on vehicles
pub within_capacity_on_vehicle : (tables : Tables) → are_within_capacity_among tables (loads_on_vehicles tables) ≡ are_within_capacity tables
within_capacity_on_vehicle tables = λ i. list_all (λ (entry : VehicleKey × VehicleRow). nat_le (loads_of_others_on_vehicles entry.0 (acts_of tables entry.0) tables i + count_by is_to_drop (acts_of tables entry.0)) entry.1.capacity) (finite.entries tables.vehicles)
