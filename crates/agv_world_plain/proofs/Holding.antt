-- Who holds a node or an edge in the world that the tables tell.
use Rattle.std.proofs.Common.{◌≡◌, Bool, true, false, cond, List, [], ◌∷◌, Option, option_map, Some, None, refl, ap, ◌∙◌}
use Rattle.std.specs.FinMap as finite
use Rattle.std.specs.List.{find, flat_map}
use Rattle.std.specs.Option.{option_or}
use Rattle.agv_header.specs.Key.{thing_cmp}
use Rattle.agv_header.specs.ThingOrder.{thing_cmp-total}
use Rattle.agv_header.specs.declared.key.Thing.{Thing}
use Rattle.agv_header.specs.declared.key.VehicleKey.{VehicleKey}
use Rattle.agv_track_holds.specs.Footprints.{footprint_of}
use Rattle.agv_world_core.specs.Questions.{holder_of}
use Rattle.agv_world_core.specs.Maps.{hold_rows, standing_of}
use Rattle.agv_header.specs.Spread.{spread}
use Rattle.agv_world_core.specs.Told.{is_held_by, vehicle_in, vehicles_in, vehicles_of, world_of}
use Rattle.agv_world_core.specs.Worlds.{Vehicle}
use Rattle.agv_world_core.specs.declared.row.VehicleRow.{VehicleRow}
use Rattle.agv_world_core.specs.declared.world.World.{World as Tables}
use Rattle.agv_world_core.proofs.told_worlds.Counts.{entries-vehicles_of}
use Rattle.agv_world_core.proofs.world_rows.Holders.{find-run}
use Rattle.agv_world_core.proofs.world_rows.Spreads.{find-append}

abbrev pub its_key : VehicleKey × VehicleRow → VehicleKey
its_key entry = entry.0

abbrev all_holds : List (VehicleKey × Vehicle) → List (Thing × VehicleKey)
all_holds es = flat_map (λ (entry : VehicleKey × Vehicle). hold_rows entry.0 entry.1) es

chosen : (b : Bool) (entry : VehicleKey × VehicleRow) (rest : Option (VehicleKey × VehicleRow)) → option_or (cond b (Some entry.0) None) (option_map its_key rest) ≡ option_map its_key (cond b (Some entry) rest)
chosen true entry rest = refl
chosen false entry rest = refl

module _ (tables : Tables) (thing : Thing) where
  find-holds : (es : List (VehicleKey × VehicleRow)) → finite.find thing_cmp thing (all_holds (vehicles_in tables es)) ≡ option_map its_key (find (is_held_by tables thing) es)
  find-holds [] = refl
  find-holds (e ∷ es) =
      let things = footprint_of (standing_of (vehicle_in tables e.0 e.1)) in
      find-append thing_cmp thing (hold_rows e.0 (vehicle_in tables e.0 e.1)) (all_holds (vehicles_in tables es))
      ∙ (λ i. option_or (find-run e.0 thing things i) (find-holds es i))
      ∙ chosen (is_held_by tables thing e) e (find (is_held_by tables thing) es)

  -- it is the first vehicle whose footprint has it
  pub holder_of-told : holder_of (world_of tables) thing ≡ option_map its_key (find (is_held_by tables thing) (finite.entries tables.vehicles))
  unfolding holder_of spread
  holder_of-told =
      finite.get-from_entries thing_cmp-total (all_holds (finite.entries (vehicles_of tables))) thing
      ∙ ap (λ es. finite.find thing_cmp thing (all_holds es)) (entries-vehicles_of tables)
      ∙ find-holds (finite.entries tables.vehicles)
