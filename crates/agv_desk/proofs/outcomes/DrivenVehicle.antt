-- A drive changes nothing but its vehicle, and the names of orders that are used.
use Rattle.std.proofs.Common.{◌≡◌, ◌≢◌, ◌||◌, ℕ, Bool, true, false, cond, List, Option, Some, refl, ◌∙◌}
use Rattle.std.specs.Cmp.{Equal-is}
use Rattle.std.specs.Cmp.Lexicographic.{nat_list_cmp_total}
use Rattle.std.specs.FinMap as finite
use Rattle.std.specs.FinSet as set
use Rattle.std.specs.Ordering.{eq_by_cmp}
use Rattle.agv_header.specs.Key.{key_cmp}
use Rattle.agv_header.specs.KeyOrder.{key_cmp-total, key_cmp-IsAntisymmetric}
use Rattle.agv_header.specs.Name.{name_cmp}
use Rattle.agv_header.specs.declared.key.VehicleKey.{VehicleKey}
use Rattle.agv_order.specs.declared.trip.Trip.{Trip}
use Rattle.agv_world_core.specs.Worlds.{Vehicle, World}
use Rattle.agv_world_core.specs.declared.row.VehicleRow.{VehicleRow}
use Rattle.agv_desk.specs.DriveSteps.{AskedDrive, drive_sent, start_drive}
use Rattle.agv_desk.specs.Outcomes.{Effect, Made, Outcome, Refused, after, with_effect}
use Rattle.agv_desk.specs.Unchanged.{ChangesOnly}
use Rattle.agv_desk.proofs.outcomes.Ladders.{IfMade, made_refuse_if_none, made_refuse_unless, made_unheld}
use Rattle.agv_desk.proofs.row_changes.OrderRows.{made_planned}

-- what is told of a vehicle that was not written
other_vehicle : (vehicles : finite.FinMap key_cmp Vehicle) (key : VehicleKey) (new : Vehicle) (other : VehicleKey) → other ≢ key → finite.get (finite.insert vehicles key new) other ≡ finite.get vehicles other
other_vehicle vehicles key new other apart = finite.get-insert key_cmp-total vehicles key new other ∙ by_tie (eq_by_cmp key_cmp other key) refl
  where
    by_tie : (tie : Bool) → eq_by_cmp key_cmp other key ≡ tie → cond tie (Some new) (finite.get vehicles other) ≡ finite.get vehicles other
    by_tie true ties = absurd (apart (key_cmp-IsAntisymmetric other key ((Equal-is (key_cmp other key)).0 ties)))
    by_tie false ties = refl

-- another name is in a set as it was
other_name : (names : set.FinSet name_cmp) (name other : List ℕ) → other ≢ name → set.contains (set.insert names name) other ≡ set.contains names other
other_name names name other apart = set.contains-insert nat_list_cmp_total names name other ∙ by_tie (eq_by_cmp name_cmp other name) refl
  where
    by_tie : (tie : Bool) → eq_by_cmp name_cmp other name ≡ tie → (tie || set.contains names other) ≡ set.contains names other
    by_tie true ties = absurd (apart (set.slice_cmp-IsAntisymmetric set.nat_cmp-IsAntisymmetric other name ((Equal-is (name_cmp other name)).0 ties)))
    by_tie false ties = refl

module _ (world : World) (asked : AskedDrive) where
  abbrev P : Effect → Type 0
  P effect = ChangesOnly asked.key asked.order world (with_effect world effect)

  sent : (row : VehicleRow) (trip : Option Trip) (number : ℕ) → P (drive_sent asked row trip number)
  sent row trip number = record {
    layout = refl;
    vehicles = λ other apart. other_vehicle world.vehicles asked.key _ other apart;
    places = refl;
    jobs = refl;
    orders = λ name apart. other_name world.orders asked.order name apart;
    references = refl;
  }

  made : IfMade P (start_drive world asked)
  made =
      made_refuse_unless P _ _ _ (λ unused. made_refuse_if_none P _ _ _ (λ row there. made_refuse_unless P _ _ _ (λ node.
      made_refuse_unless P _ _ _ (λ new. made_refuse_unless P _ _ _ (λ idle. made_refuse_unless P _ _ _ (λ no_rest.
      made_refuse_unless P _ _ _ (λ ready. made_refuse_unless P _ _ _ (λ going. made_refuse_if_none P _ _ _ (λ layout is_set.
      made_planned P _ _ (λ trip is. made_unheld P _ _ (λ opened. made_refuse_if_none P _ _ _ (λ number next. made_refuse_unless P _ _ _ (λ few.
      sent row (Some trip) number)))))))))))))

  after_made : (outcome : Outcome) → IfMade P outcome → ChangesOnly asked.key asked.order world (after world outcome)
  unfolding after
  after_made (Refused why) holds = record {
    layout = refl;
    vehicles = λ other apart. refl;
    places = refl;
    jobs = refl;
    orders = λ name apart. refl;
    references = refl;
  }
  after_made (Made effect) holds = holds

  pub drives_one : ChangesOnly asked.key asked.order world (after world (start_drive world asked))
  drives_one = after_made (start_drive world asked) made
