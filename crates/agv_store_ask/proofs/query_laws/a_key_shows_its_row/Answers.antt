use Rattle.agv_store_ask.proofs.KeysShown.{meta_shown, node_shown, edge_shown, station_shown, vehicle_shown, capacity_shown, journey_shown, act_shown, leg_shown, load_shown, job_shown, hold_shown, used_shown}
use Rattle.agv_store_ask.proofs.query_laws.a_key_shows_its_row.Goals as goal

pub returns : goal.returns
returns c = record {
  meta = meta_shown;
  node = node_shown;
  edge = edge_shown;
  station = station_shown;
  vehicle = vehicle_shown;
  capacity = capacity_shown;
  journey = journey_shown;
  act = act_shown;
  leg = leg_shown;
  load = load_shown;
  job = job_shown;
  hold = hold_shown;
  used = used_shown;
}
