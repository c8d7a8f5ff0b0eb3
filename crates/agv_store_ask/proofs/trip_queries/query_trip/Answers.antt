use Rattle.std.proofs.Common.{None, Ok, Some, ap, sym, ◌∙◌}
use Rattle.std.specs.Option.{option_and_then}
use Rattle.agv_world_core.specs.Maps.{maps_of}
use Rattle.agv_store_rows.specs.DecodedTrips.{told_by_journey}
use Rattle.agv_store_read.proofs.Asking.{follows, passes, then_follows, then_passes}
use Rattle.agv_store_ask.proofs.trip_queries.query_trip.Goals as goal

pub returns-in_err-journey : goal.returns-in_err-journey
returns-in_err-journey g c = passes g.S.Store c.args.conn.now c.query_journey.new.conn c.in_err-journey.field-0.0 _ _ c.from_residual.result c.from_residual.ensures.1 c.in_err-journey.ensures

pub returns-in-None : goal.returns-in-None
returns-in-None g c =
    follows g.S.Store c.args.conn.now c.query_journey.new.conn c.in_ok-journey.journey _ _ (Ok None)
    (λ world lawful one _. sym (c.rows_tell_trips.ensures.trip world lawful c.args.key.now ∙ ap (option_and_then (told_by_journey (maps_of world))) (sym one ∙ c.in-None.is))) c.in_ok-journey.ensures

pub returns-in_err-trip-in-Some : goal.returns-in_err-trip-in-Some
returns-in_err-trip-in-Some g c =
    then_passes g.S.Store c.args.conn.now c.query_journey.new.conn c.query_told_trip.new.conn c.in_ok-journey.journey _ c.in_ok-journey.ensures
    c.in_err-trip-in-Some.field-0.0 _ _ c.from_residual-in_err-trip-in-Some.result c.from_residual-in_err-trip-in-Some.ensures.1 c.in_err-trip-in-Some.ensures

pub returns-in_ok-trip-in-Some : goal.returns-in_ok-trip-in-Some
returns-in_ok-trip-in-Some g c =
    then_follows g.S.Store c.args.conn.now c.query_journey.new.conn c.query_told_trip.new.conn c.in_ok-journey.journey _ c.in_ok-journey.ensures
    c.in_ok-trip-in-Some.trip _ _ (Ok (Some c.in_ok-trip-in-Some.trip))
    (λ world lawful one two agrees.
    sym (two agrees)
    ∙ sym (c.rows_tell_trips.ensures.trip world lawful c.args.key.now ∙ ap (option_and_then (told_by_journey (maps_of world))) (sym one ∙ c.in-Some.is)))
    c.in_ok-trip-in-Some.ensures
