use Rattle.std.proofs.Common.{None, Some, List, take, drop, sym, ap, ◌∙◌}
use Rattle.std.specs.FinMap as finite
use Rattle.std.specs.Map.Iter.{deref_pair}
use Rattle.std.proofs.lemmas.Map.Iter.{rest_more, rest_all}
use Rattle.agv_store_rows.proofs.TripsFrom.{Journey, none_left, rows_left, told_just_so, told_more, told_nothing, trips_from}
use Rattle.agv_store_rows.proofs.trip_telling.trips_told.Goals as goal

pub loop-order-preserved : goal.loop-order-preserved
loop-order-preserved c =
    let jobs = c.args.jobs.now in
    let more = rest_more deref_pair _ _ _ _ c.in-Some.is c.next.ensures.steps in
    let own = c.split_at.ensures.front ∙ ap (λ n. take n c.loop-order.rest.now) c.count_first.ensures in
    let others = c.split_at.ensures.back ∙ ap (λ n. drop n c.loop-order.rest.now) c.count_first.ensures in
    let acts = sym c.in_ok-told.ensures ∙ c.in-Some-told.is in
    ap (λ table. trips_from jobs table c.next.new.self c.split_at.result.1.now) (c.in_ok-insert-in-Some-told.ensures.ok ∙ ap (finite.insert c.loop-order.trips c.in-Some.order.now) c.trip.ensures)
    ∙ sym (told_more jobs c.loop-order.trips (c.in-Some.order.now, c.in-Some.journey.now) c.next.new.self c.loop-order.rest.now _ _ own others c.in-Some-told.acts acts)
    ∙ ap (λ (journeys : List Journey). trips_from jobs c.loop-order.trips journeys c.loop-order.rest.now) (sym more)
    ∙ c.loop-order.invariant

pub returns-in-None-told : goal.returns-in-None-told
returns-in-None-told c =
    let jobs = c.args.jobs.now in
    let more = rest_more deref_pair _ _ _ _ c.in-Some.is c.next.ensures.steps in
    let own = c.split_at.ensures.front ∙ ap (λ n. take n c.loop-order.rest.now) c.count_first.ensures in
    let others = c.split_at.ensures.back ∙ ap (λ n. drop n c.loop-order.rest.now) c.count_first.ensures in
    λ trips. told_just_so c.args.journeys.now c.args.acts.now jobs trips None
    (sym c.loop-order.invariant
    ∙ ap (λ (journeys : List Journey). trips_from jobs c.loop-order.trips journeys c.loop-order.rest.now) more
    ∙ told_nothing jobs c.loop-order.trips (c.in-Some.order.now, c.in-Some.journey.now) c.next.new.self c.loop-order.rest.now _ _ own others (sym c.in_ok-told.ensures ∙ c.in-None-told.is))

pub returns-then-is_empty : goal.returns-then-is_empty
returns-then-is_empty c =
    let jobs = c.args.jobs.now in
    λ trips. told_just_so c.args.journeys.now c.args.acts.now jobs trips (Some c.loop-order.trips)
    (sym c.loop-order.invariant
    ∙ ap (λ (journeys : List Journey). trips_from jobs c.loop-order.trips journeys c.loop-order.rest.now) (rest_all deref_pair _ _ _ c.in-None.is c.next.ensures.steps)
    ∙ none_left jobs c.loop-order.trips c.loop-order.rest.now (sym c.is_empty.ensures ∙ c.if-is_empty.true))

pub returns : goal.returns
returns c =
    let jobs = c.args.jobs.now in
    λ trips. told_just_so c.args.journeys.now c.args.acts.now jobs trips None
    (sym c.loop-order.invariant
    ∙ ap (λ (journeys : List Journey). trips_from jobs c.loop-order.trips journeys c.loop-order.rest.now) (rest_all deref_pair _ _ _ c.in-None.is c.next.ensures.steps)
    ∙ rows_left jobs c.loop-order.trips c.loop-order.rest.now (sym c.is_empty.ensures ∙ c.if-is_empty.false))
