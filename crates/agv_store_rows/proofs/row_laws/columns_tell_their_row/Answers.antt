use Rattle.agv_store_rows.proofs.CellLemmas.{name_kept}
use Rattle.agv_store_rows.proofs.ColumnsKept.{meta_kept, edge_kept, station_kept, vehicle_kept, capacity_kept, journey_kept, act_kept, leg_kept, load_kept, job_kept, hold_kept, used_kept}
use Rattle.agv_store_rows.proofs.row_laws.columns_tell_their_row.Goals as goal

pub returns : goal.returns
returns c = record {
  meta = meta_kept;
  node = name_kept;
  edge = edge_kept;
  station = station_kept;
  vehicle = vehicle_kept;
  capacity = capacity_kept;
  journey = journey_kept;
  act = act_kept;
  leg = leg_kept;
  load = load_kept;
  job = job_kept;
  hold = hold_kept;
  used = used_kept;
}
