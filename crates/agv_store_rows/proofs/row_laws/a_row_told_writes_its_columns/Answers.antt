use Rattle.agv_store_rows.proofs.ColumnsWritten.{meta_written, node_written, edge_written, station_written, vehicle_written, capacity_written, journey_written, act_written, leg_written, load_written, job_written, hold_written, used_written}
use Rattle.agv_store_rows.proofs.row_laws.a_row_told_writes_its_columns.Goals as goal

pub returns : goal.returns
returns c = record {
  meta = meta_written;
  node = node_written;
  edge = edge_written;
  station = station_written;
  vehicle = vehicle_written;
  capacity = capacity_written;
  journey = journey_written;
  act = act_written;
  leg = leg_written;
  load = load_written;
  job = job_written;
  hold = hold_written;
  used = used_written;
}
