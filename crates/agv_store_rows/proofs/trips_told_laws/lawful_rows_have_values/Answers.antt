use Rattle.agv_store_rows.proofs.TripRowValues.{act_values, journey_values}
use Rattle.agv_store_rows.proofs.trips_told_laws.lawful_rows_have_values.Goals as goal

pub returns : goal.returns
returns c = record { journeys = journey_values c.joins_nodes.ensures; acts = act_values c.joins_nodes.ensures }
