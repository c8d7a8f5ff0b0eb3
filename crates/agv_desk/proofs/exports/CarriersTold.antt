-- The vehicle that is told for a job is the one whose open trip has an unfinished drop of it.
use Rattle.std.proofs.Common.{◌≡◌, ◌||◌, ℕ, Bool, true, false, not, cond, nat_eq, List, [], ◌∷◌, map, find, Option, None, Some, refl, sym, ap, subst, ◌∙◌}
use Rattle.std.specs.Cmp.Lexicographic.{pointwise}
use Rattle.std.specs.FinMap as finite
use Rattle.std.specs.List.{AllByRecursion, list_any}
use Rattle.std.proofs.lemmas.Bool.{and_from, and_parts, true≢false, false≢true}
use Rattle.std.proofs.lemmas.List.Folds.{Any-from_list_any, list_any-from_Any}
use Rattle.agv_world_core.specs.Carriers.{has_drop_of, is_drop_of}
use Rattle.agv_count_exports.specs.Exports.{carrier_of, vehicles_told}
use Rattle.agv_count_exports.specs.declared.told.VehicleTold.{VehicleTold}
use Rattle.agv_header.specs.KeyOrder.{key_cmp-total, key_cmp-IsAntisymmetric}
use Rattle.agv_header.specs.declared.key.VehicleKey.{VehicleKey}
use Rattle.agv_message_core.specs.declared.order.ActKind.{ActKind}
use Rattle.agv_message_core.specs.declared.order.ActKind.TheVariants.{Pick, Drop}
use Rattle.agv_order.specs.Statuses.{is_finished}
use Rattle.agv_order.specs.Stops.{is_drop}
use Rattle.agv_order.specs.declared.trip.Trip.{Trip}
use Rattle.agv_stock.specs.declared.job.Phase.{Phase}
use Rattle.agv_stock.specs.declared.job.Phase.TheVariants as phase
use Rattle.agv_world_core.specs.ConsistentTrips.{IsVehicle}
use Rattle.agv_world_core.specs.Lawful.{IsJob, IsLawful, IsToDrop, JoinsJobsAndLoads, is_to_drop}
use Rattle.agv_world_core.specs.Worlds.{Vehicle, World}
use Rattle.agv_world_core.specs.declared.row.JobRow.{JobRow}
use Rattle.agv_world_core.proofs.lists.EachEntry.{any-entry}
use Rattle.agv_world_core.proofs.lists.Entries.{entries_found, no_more, same_Some}
use Rattle.agv_desk.specs.Exported.{IsCarrier}
use Rattle.agv_desk.proofs.lists.SameNames.{name_itself, same_name}

-- ---- the first of a list that passes a test

module _ {X Y : Type 0} (test : Y → Bool) (made : X → Y) where
  -- what is found was made of an element, and passes
  record IsFound (P : X → Type 0) (y : Y) : Type 0 where
    from : X
    has : P from
    is : made from ≡ y
    passes : test y ≡ true

  found : (P : X → Type 0) (xs : List X) → AllByRecursion P xs → (y : Y) → find test (map made xs) ≡ Some y → IsFound P y
  found P [] each y at = absurd (no_more y at)
  found P (x ∷ xs) each y at =
      elim (test (made x)) as (λ b. test (made x) ≡ b → cond b (Some (made x)) (find test (map made xs)) ≡ Some y → IsFound P y) [
        | true ↦ λ passes is. let same = same_Some (made x) y is in record { from = x; has = each.0; is = same; passes = ap test (sym same) ∙ passes }
        | false ↦ λ passes is. found P xs each.1 y is
      ] refl at

  -- where nothing is found, nothing passes
  none : (xs : List X) → find test (map made xs) ≡ None → list_any (λ x. test (made x)) xs ≡ false
  none [] at = refl
  none (x ∷ xs) at =
      elim (test (made x)) as (λ b. cond b (Some (made x)) (find test (map made xs)) ≡ None → (b || list_any (λ x. test (made x)) xs) ≡ false) [
        | true ↦ λ is. absurd (no_more (made x) (sym is))
        | false ↦ λ is. none xs is
      ] at

-- ---- unfinished drops of a job

is_a_drop : (kind : ActKind) → is_drop kind ≡ true → kind ≡ Drop
is_a_drop Pick e = absurd (false≢true e)
is_a_drop Drop e = refl

undone : (b : Bool) → not b ≡ true → b ≡ false
undone true e = absurd (false≢true e)
undone false e = refl

module _ (world : World) (job : List ℕ) where
  -- a vehicle of the world whose trip has such a drop
  dropped : (key : VehicleKey) (vehicle : Vehicle) (trip : Trip) → IsVehicle world key vehicle → vehicle.trip ≡ Some trip → has_drop_of job (Some trip) ≡ true
      → (to_drop : IsToDrop world job) × (to_drop.key ≡ key) × (to_drop.trip ≡ trip)
  dropped key vehicle trip here open_trip has =
      let some = Any-from_list_any (is_drop_of job) trip.acts has in
      let act = some.1 in
      let parts = and_parts (is_to_drop act) (pointwise nat_eq act.job job) some.4 in
      let both = and_parts (is_drop act.kind) (not (is_finished act.status)) parts.0 in (
        record {
          key = key;
          trip = trip;
          act = act;
          has = record { open_trip = (vehicle, here, open_trip); among = (some.0, some.2, some.3) };
          drop = is_a_drop act.kind both.0;
          of_job = same_name act.job job parts.1;
          undone = undone (is_finished act.status) both.1;
        },
        refl,
        refl,
      )

  -- and the test passes where there is one
  tested : (to_drop : IsToDrop world job) → has_drop_of job (Some to_drop.trip) ≡ true
  tested to_drop =
      let act = to_drop.act in
      let among = to_drop.has.among in
      let same : pointwise nat_eq act.job job ≡ true = subst (λ (name : List ℕ). pointwise nat_eq name job ≡ true) (sym to_drop.of_job) (name_itself job) in
      let left : is_to_drop act ≡ true = and_from (is_drop act.kind) (not (is_finished act.status)) (ap is_drop to_drop.drop) (ap not to_drop.undone) in
      list_any-from_Any (is_drop_of job) to_drop.trip.acts (among.0, act, among.1, among.2, and_from (is_to_drop act) (pointwise nat_eq act.job job) left same)

  -- ---- the vehicle that is told

  told_of : VehicleKey × Vehicle → VehicleTold
  told_of entry = record { key = entry.0; row = entry.1.row; trip = entry.1.trip }

  -- what is told carries the job out
  carries : JoinsJobsAndLoads world → (vehicle : VehicleTold) → carrier_of (vehicles_told world) job ≡ Some vehicle → IsCarrier world job vehicle
  unfolding told_of
  carries joins vehicle told =
      let one = found (λ (one : VehicleTold). has_drop_of job one.trip) told_of (λ (e : VehicleKey × Vehicle). IsVehicle world e.0 e.1)
      (finite.entries world.vehicles) (entries_found key_cmp-total world.vehicles) vehicle told in
      let known : IsVehicle world vehicle.key (record { row = vehicle.row; trip = vehicle.trip }) =
      subst (λ (v : VehicleTold). IsVehicle world v.key (record { row = v.row; trip = v.trip })) one.is one.has in
      by_trip vehicle.trip refl known one.passes
    where
      by_trip : (trip : Option Trip) → vehicle.trip ≡ trip → IsVehicle world vehicle.key (record { row = vehicle.row; trip = vehicle.trip }) → has_drop_of job vehicle.trip ≡ true → IsCarrier world job vehicle
      by_trip None is known passes = absurd (false≢true (ap (has_drop_of job) (sym is) ∙ passes))
      by_trip (Some trip) is known passes =
          let drops = dropped vehicle.key (record { row = vehicle.row; trip = vehicle.trip }) trip known is (ap (has_drop_of job) (sym is) ∙ passes) in
          record {
            known = known;
            to_drop = drops.0;
            own = drops.1;
            open_trip = is ∙ ap Some (sym drops.2);
            only = λ key further act has of_job. joins.one_vehicle key drops.0.key further drops.0.trip act drops.0.act has drops.0.has (of_job ∙ sym drops.0.of_job) ∙ drops.1;
          }

  -- a vehicle is told where some trip has such a drop
  some_told : (to_drop : IsToDrop world job) → carrier_of (vehicles_told world) job ≡ None → ⊥
  unfolding told_of
  some_told to_drop told =
      let opened = to_drop.has.open_trip in
      let passes : has_drop_of job opened.0.trip ≡ true = ap (has_drop_of job) opened.2 ∙ tested to_drop in
      let any = any-entry key_cmp-total key_cmp-IsAntisymmetric (λ (e : VehicleKey × Vehicle). has_drop_of job e.1.trip) world.vehicles to_drop.key opened.0 opened.1 passes in
      true≢false (sym any ∙ none (λ (one : VehicleTold). has_drop_of job one.trip) told_of (finite.entries world.vehicles) told)

-- ---- waiting jobs and riding ones

pub not_both : (at : Phase) → at ≡ phase.Waiting → at ≡ phase.Riding → ⊥
not_both at waits rides = cc

module _ (seats : ℕ) (world : World) (job : List ℕ) (row : JobRow) (lawful : IsLawful seats world) (here : IsJob world job row) where
  pub none_told : row.phase ≡ phase.Waiting → carrier_of (vehicles_told world) job ≡ None
  none_told waits =
      elim (carrier_of (vehicles_told world) job) as (λ carrier. carrier_of (vehicles_told world) job ≡ carrier → carrier ≡ None) [
        | None ↦ λ told. refl
        | Some vehicle ↦ λ told. absurd (not_both row.phase waits ((lawful.jobs.riding job row here).1 (carries world job lawful.jobs vehicle told).to_drop))
      ] refl

  pub carrier_told : row.phase ≡ phase.Riding → (vehicle : VehicleTold) × (carrier_of (vehicles_told world) job ≡ Some vehicle) × IsCarrier world job vehicle
  carrier_told rides =
      elim (carrier_of (vehicles_told world) job) as (λ carrier. carrier_of (vehicles_told world) job ≡ carrier → (vehicle : VehicleTold) × (carrier ≡ Some vehicle) × IsCarrier world job vehicle) [
        | None ↦ λ told. absurd (some_told world job ((lawful.jobs.riding job row here).0 rides) told)
        | Some vehicle ↦ λ told. (vehicle, refl, carries world job lawful.jobs vehicle told)
      ] refl
