use Rattle.std.proofs.Common.{sym, ◌∙◌}
use Rattle.agv_world_core.specs.Maps.{maps_of}
use Rattle.agv_store_rows.specs.DecodedTrips.{journey_for}
use Rattle.agv_store_schema.specs.SchemaNumbers.{desk_seats}
use Rattle.agv_store_rows.proofs.LawfulTrips.{act_key_typed, act_typed, journey_typed, one_journey}
use Rattle.agv_store_rows.proofs.TripsTell.{acts_known, all_told, told_way, trip_again}
use Rattle.agv_store_rows.proofs.trip_laws.rows_tell_trips.Goals as goal

pub returns : goal.returns
returns c = record {
  trip = λ world lawful.
      trip_again c.rows_have_keys.ensures.journeys_listed c.rows_have_keys.ensures.acts_listed c.rows_are_of_trips.ensures.acts c.rows_tell_one_table.ensures.acts world (c.lawful_rows_tell_trips.ensures.all desk_seats world lawful).of_jobs
      c.tables_tell_the_world.ensures (c.has_consistent_trips.ensures desk_seats world lawful);
  one = λ world lawful. one_journey c.tables_have_rows.ensures.journeys world;
  acts = λ world lawful.
      acts_known c.rows_have_keys.ensures.journeys_listed c.rows_have_keys.ensures.acts_listed c.rows_are_of_trips.ensures.acts c.rows_tell_one_table.ensures.acts world (c.lawful_rows_tell_trips.ensures.all desk_seats world lawful).of_jobs;
  all = λ world lawful.
      all_told c.rows_have_keys.ensures.journeys_listed c.rows_have_keys.ensures.acts_listed c.rows_are_of_trips.ensures.acts c.rows_tell_one_table.ensures.acts world (c.lawful_rows_tell_trips.ensures.all desk_seats world lawful).of_jobs;
  journeys = λ world lawful order journey at. let value = c.lawful_rows_have_values.ensures.journeys desk_seats world lawful order journey at in (value.0, journey_typed journey value.1);
  act_values = λ world lawful key act at. let value = c.lawful_rows_have_values.ensures.acts desk_seats world lawful key act at in (act_key_typed key value.0, act_typed act value.1);
  ways = λ world lawful key trip is.
      told_way world (journey_for (maps_of world) key) trip
      (sym (trip_again c.rows_have_keys.ensures.journeys_listed c.rows_have_keys.ensures.acts_listed c.rows_are_of_trips.ensures.acts c.rows_tell_one_table.ensures.acts world (c.lawful_rows_tell_trips.ensures.all desk_seats world lawful).of_jobs
      c.tables_tell_the_world.ensures (c.has_consistent_trips.ensures desk_seats world lawful) key) ∙ is);
}
