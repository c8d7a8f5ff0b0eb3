use Rattle.std.proofs.Common.{◌≡◌, true, subst, sym, ◌∙◌}
use Rattle.std.specs.Cmp.{Equal-is}
use Rattle.agv_header.specs.Key.{key_cmp}
use Rattle.agv_header.specs.KeyOrder.{key_cmp-IsAntisymmetric, key_cmp-ties, key_eq}
use Rattle.agv_header.specs.declared.key.VehicleKey.{VehicleKey}
use Rattle.agv_order.specs.declared.trip.Trip.{Trip}
use Rattle.agv_world_core.specs.Maps.{Maps}
use Rattle.agv_store_known.specs.KeptTrips.{AreOpen, IsTripOf}
use Rattle.agv_store_known.proofs.kept_trips.trip_of_vehicle.Goals as goal

same_key : (a b : VehicleKey) → key_eq a b ≡ true → a ≡ b
same_key a b is = key_cmp-IsAntisymmetric a b ((Equal-is (key_cmp a b)).0 (sym (key_cmp-ties a b) ∙ is))

pub returns-then-eq : goal.returns-then-eq
returns-then-eq c =
    subst (λ (trip : Trip). (trip.vehicle ≡ c.args.key.now) × ((maps : Maps) → AreOpen c.args.trips.now maps → IsTripOf maps c.args.order trip)) (sym c.in_ok-copy-in-Some.ensures)
    (same_key _ _ (sym c.eq.ensures ∙ c.if-eq.true), λ maps are. are c.args.order c.in-Some.trip.now (sym c.in-Some.ensures.value))
