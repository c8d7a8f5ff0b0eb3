use Rattle.std.proofs.Common.{◌==◌, ℕ, Ok, is_some, not, refl, sym, ap, subst, ◌∙◌}
use Rattle.agv_world_core.specs.Maps.{maps_of}
use Rattle.agv_store_rows.specs.DecodedTrips.{journey_for}
use Rattle.agv_store_sql.specs.RowQueries.{FitsColumns, columns_asked, table_asked}
use Rattle.agv_store_schema.specs.declared.rows_by.RowsBy.TheVariants as by
use Rattle.agv_store_read.proofs.Asking.{follows, passes}
use Rattle.agv_store_ask.proofs.TripAnswers.{tells_driven, trip_there}
use Rattle.agv_store_ask.proofs.trip_queries.query_has_trip.Goals as goal

pub query_rows_by-requires : goal.query_rows_by-requires
query_rows_by-requires g c = subst (FitsColumns (table_asked by.VehicleJourney) (columns_asked by.VehicleJourney)) (sym c.vehicle_key_values.ensures) refl

pub returns-in_err-rows : goal.returns-in_err-rows
returns-in_err-rows g c = passes g.S.Store c.args.conn.now c.query_rows_by.new.conn c.in_err-rows.field-0.0 _ _ c.from_residual.result c.from_residual.ensures.1 c.in_err-rows.ensures

pub returns : goal.returns
returns g c =
    let laws = c.rows_tell_trips.ensures in
    let key = c.args.key.now in
    follows g.S.Store c.args.conn.now c.query_rows_by.new.conn c.in_ok-rows.rows _ _ (Ok (not c.is_empty.result))
    (λ world lawful shown.
    ap not (c.is_empty.ensures ∙ ap (λ (n : ℕ). n == 0) c.in_ok-rows.rows.ok.0)
    ∙ tells_driven world (laws.one world lawful) key _ c.vehicle_key_values.ensures c.in_ok-rows.rows.items shown
    ∙ sym (ap is_some (laws.trip world lawful key) ∙ trip_there world (laws.acts world lawful) (journey_for (maps_of world) key))) c.in_ok-rows.ensures
