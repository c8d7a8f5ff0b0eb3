use Rattle.std.proofs.Common.{refl, sym, ap, subst, ◌∙◌}
use Rattle.agv_store_rows.specs.Columns.{journey_in}
use Rattle.agv_store_read.specs.FirstRow.{first_whole_in}
use Rattle.agv_store_sql.specs.RowQueries.{FitsColumns, columns_asked, table_asked}
use Rattle.agv_store_schema.specs.declared.rows_by.RowsBy.TheVariants as by
use Rattle.agv_store_read.proofs.Asking.{follows, passes}
use Rattle.agv_store_ask.proofs.TripAnswers.{tells_journey}
use Rattle.agv_store_ask.proofs.trip_queries.query_journey.Goals as goal

pub query_rows_by-requires : goal.query_rows_by-requires
query_rows_by-requires g c = subst (FitsColumns (table_asked by.VehicleJourney) (columns_asked by.VehicleJourney)) (sym c.vehicle_key_values.ensures) refl

pub returns-in_err-rows : goal.returns-in_err-rows
returns-in_err-rows g c = passes g.S.Store c.args.conn.now c.query_rows_by.new.conn c.in_err-rows.field-0.0 _ _ c.from_residual.result c.from_residual.ensures.1 c.in_err-rows.ensures

pub returns : goal.returns
returns g c =
    let laws = c.rows_tell_trips.ensures in
    follows g.S.Store c.args.conn.now c.query_rows_by.new.conn c.in_ok-rows.rows _ _ c.journey_in_rows.result
    (λ world lawful shown. tells_journey world (laws.one world lawful) (laws.journeys world lawful) c.args.key.now _ c.vehicle_key_values.ensures c.in_ok-rows.rows.items shown c.journey_in_rows.result (c.journey_in_rows.ensures ∙ ap (first_whole_in journey_in) c.as_slice.ensures.value))
    c.in_ok-rows.ensures
