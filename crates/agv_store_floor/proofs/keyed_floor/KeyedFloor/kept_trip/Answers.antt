use Rattle.std.proofs.Common.{IfOk, Err, Ok, Result, sym}
use Rattle.std.proofs.lemmas.Option.{IfSome_then}
use Rattle.agv_world_core.specs.Maps.{maps_of}
use Rattle.agv_store_floor.specs.Floors.{world_at}
use Rattle.agv_store_floor.proofs.Asked.{known_seen}
use Rattle.agv_store_floor.proofs.keyed_floor.KeyedFloor.kept_trip.Goals as goal

found_then : {A E : Type 0} {P Q : A → Type 0} (r : Result A E) → IfOk r P → ((a : A) → P a → Q a) → IfOk r Q
found_then (Ok a) is so = so a is
found_then (Err e) is so = tt

pub returns : goal.returns
returns g c =
    found_then c.trip_of_vehicle.result c.trip_of_vehicle.ensures (λ kept found. IfSome_then kept found (λ trip is clean still.
    let world = world_at g.S.Store c.args.self.now.held in
    let its = is.1 (maps_of world) (known_seen g.S.Store c.self.inside.conn c.self.inside.known c.self.inside.failed c.self.inside.in_doubt c.self.invariant c.args.self.now c.self.view_is clean still).trips_are.0 in
    sym ((c.rows_have_trips.ensures world (c.knows.ensures clean still).has.lawful c.args.key.now trip).1 (is.0, its.1))))
