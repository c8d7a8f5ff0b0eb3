use Rattle.std.proofs.Common.{rules, ◌≡◌, ◌∙◌, ℕ, List, Option, None, Some, cond, is_some, option_map, true, refl, sym, ap}
use Rattle.std.specs.FinMap.{entries}
use Rattle.std.specs.List.{find}
use Rattle.agv_world_core.specs.Told.{names_vehicle, open_trip, order_in, trip_in}
use Rattle.agv_world_core.specs.declared.row.TripRow.{TripRow}
use Rattle.agv_world_core.proofs.told_worlds.Telling.{trip_of-told}
use Rattle.agv_world_plain.proofs.questions.has_trip.Goals as goal

-- the order of a row is there just where the row is
is_some-order_in : {X : Type 0} (f : List ℕ × TripRow → X) (o : Option (List ℕ × TripRow)) → is_some (order_in o) ≡ is_some (option_map f o)
is_some-order_in f None = refl
is_some-order_in f (Some entry) = refl

pub returns : goal.returns
unfolding open_trip
returns c =
    let tables = c.args.world.now in
    let key = c.args.key.now in
    let known : is_some c.vehicle.result ≡ true = search rules in
    let trip = trip_of-told tables key c.vehicle.result c.vehicle.ensures ∙ ap (λ b. cond b (open_trip tables key) None) known in
    c.is_some.ensures
    ∙ ap is_some c.first_order.ensures
    ∙ is_some-order_in (trip_in tables) (find (names_vehicle key) (entries tables.trips))
    ∙ sym (ap is_some trip)
