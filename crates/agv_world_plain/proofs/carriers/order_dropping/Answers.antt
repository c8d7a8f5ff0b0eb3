use Rattle.std.proofs.Common.{◌≡◌, ◌∙◌, sym, ap, cond, option_map, Some, None}
use Rattle.std.specs.Bool.{then_some}
use Rattle.std.specs.List.{find, list_any}
use Rattle.agv_world_core.specs.Carriers.{is_drop_of}
use Rattle.agv_world_core.specs.Told.{names_vehicle, open_trip, trip_in}
use Rattle.agv_world_plain.specs.Carrying.{order_dropping}
use Rattle.agv_world_plain.proofs.carriers.order_dropping.Goals as goal

pub returns-then-eq : goal.returns-then-eq
unfolding open_trip
returns-then-eq c =
    let tables = c.args.world.now in
    let test = names_vehicle c.args.key in
    let trip = trip_in tables (c.in-Some.order.now, c.in-Some.trip.now) in
    let is : Some trip ≡ open_trip tables c.args.key =
    ap (λ b. option_map (trip_in tables) (cond b (Some (c.in-Some.order.now, c.in-Some.trip.now)) (find test c.next.new.self))) (sym c.if-eq.true ∙ c.eq.ensures)
    ∙ ap (λ es. option_map (trip_in tables) (find test es)) (sym c.in-Some.ensures.steps)
    ∙ ap (option_map (trip_in tables)) c.loop-order.invariant in
    c.then_some.ensures
    ∙ ap (λ b. then_some b c.in-Some.order.now) (c.has_drop_among.ensures ∙ ap (list_any (is_drop_of c.args.job)) c.as_slice.ensures)
    ∙ ap (order_dropping c.args.job) is

pub returns : goal.returns
unfolding open_trip
returns c =
    let tables = c.args.world.now in
    let is : None ≡ open_trip tables c.args.key =
    ap (λ es. option_map (trip_in tables) (find (names_vehicle c.args.key) es)) (sym c.in-None.ensures.steps.0)
    ∙ ap (option_map (trip_in tables)) c.loop-order.invariant in
    ap (order_dropping c.args.job) is
