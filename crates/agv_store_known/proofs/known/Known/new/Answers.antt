use Rattle.agv_world_core.specs.Maps.{maps_of}
use Rattle.agv_store_known.proofs.known.Known.new.Goals as goal

pub returns : goal.returns
returns c world counted agrees = record {
  counted = counted;
  agrees = agrees;
  fits = c.none.ensures (maps_of world);
  trips_are = c.none-2.ensures (maps_of world);
  vehicles_are = c.none-3.ensures (maps_of world);
  jobs_are = tt;
}
