use Rattle.agv_store_migrate.proofs.CarriedSingly.{lawful_single}
use Rattle.agv_store_migrate.proofs.TripRows.{values_by}
use Rattle.agv_store_migrate.proofs.WorldTold.{world_told}
use Rattle.agv_store_migrate.proofs.first_laws.first_rows_tell_their_world.Goals as goal

pub returns : goal.returns
returns c world lists lawful served alike =
    let values = c.lawful_rows_have_values.ensures in
    let rows = c.tables_have_rows.ensures in
    world_told world lawful (c.has_consistent_trips.ensures 1 world lawful) (lawful_single c.stops_twice.ensures world lawful served) (values_by values.journeys values.acts rows.journeys rows.acts world lawful) lists alike
