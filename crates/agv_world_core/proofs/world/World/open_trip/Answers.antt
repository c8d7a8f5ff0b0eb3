use Rattle.std.proofs.Common.{◌∙◌, sym, ap, cond, option_map, Some}
use Rattle.std.specs.List.{find}
use Rattle.agv_world_core.specs.Told.{names_vehicle, open_trip, trip_in}
use Rattle.agv_world_core.proofs.world.World.open_trip.Goals as goal

pub returns-then-eq : goal.returns-then-eq
unfolding open_trip
returns-then-eq c =
    let tables = c.args.self.now in
    let test = names_vehicle c.args.key in
    ap Some c.in_ok-trip.ensures
    ∙ ap (λ b. option_map (trip_in tables) (cond b (Some (c.in-Some.order.now, c.in-Some.row.now)) (find test c.next.new.self))) c.if-eq.ensures
    ∙ ap (λ es. option_map (trip_in tables) (find test es)) (sym c.in-Some.ensures.steps)
    ∙ ap (option_map (trip_in tables)) c.loop-order.invariant

pub returns : goal.returns
unfolding open_trip
returns c =
    let tables = c.args.self.now in
    ap (λ es. option_map (trip_in tables) (find (names_vehicle c.args.key) es)) (sym c.in-None.ensures.steps.0)
    ∙ ap (option_map (trip_in tables)) c.loop-order.invariant
