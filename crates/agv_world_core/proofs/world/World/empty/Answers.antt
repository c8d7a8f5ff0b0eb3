use Rattle.std.proofs.Common.{sym, ◌∙◌}
use Rattle.agv_header.specs.Key.{key_cmp}
use Rattle.agv_header.specs.Name.{name_cmp}
use Rattle.agv_world_core.specs.Keys.{leg_cmp}
use Rattle.agv_world_core.specs.Maps.{vehicle_rows, trip_rows, leg_rows}
use Rattle.agv_world_core.proofs.world_rows.Empty.{spread-empty, used-empty}
use Rattle.agv_world_core.proofs.world.World.empty.Goals as goal

pub returns : goal.returns
returns c = record {
  nodes = c.new.ensures;
  edges = c.new-2.ensures;
  stations = c.new-3.ensures;
  vehicles = c.new-4.ensures ∙ sym (spread-empty key_cmp key_cmp vehicle_rows);
  trips = c.new-5.ensures ∙ sym (spread-empty key_cmp name_cmp trip_rows);
  legs = c.new-6.ensures ∙ sym (spread-empty key_cmp leg_cmp leg_rows);
  loads = c.new-7.ensures;
  jobs = c.new-8.ensures;
  used = c.new-9.ensures ∙ sym used-empty;
}
