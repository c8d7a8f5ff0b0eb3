use Rattle.agv_header.specs.Key.{key_cmp}
use Rattle.agv_header.specs.Name.{name_cmp}
use Rattle.agv_stock.specs.Rooms.{is_at as is_at_station, is_on, is_checking}
use Rattle.agv_count.proofs.LoadsByPlaceLemmas.{loads_at-empty, one_more_there}
use Rattle.agv_count.proofs.loads_by_place.LoadsByPlace.of_loads.Goals as goal

pub loop-load-init : goal.loop-load-init
loop-load-init c = record {
  stations = loads_at-empty name_cmp c.new.result c.new.ensures.empty;
  vehicles = loads_at-empty key_cmp c.new-2.result c.new-2.ensures.empty;
  checking = c.new-3.ensures.items;
}

pub loop-load-preserved : goal.loop-load-preserved
loop-load-preserved c =
    let loads = c.args.loads.now in
    let i = c.loop-load.load-index in
    let so_far = c.loop-load.invariant in
    let more = c.in_ok-add.ensures in
    record {
      stations = λ id. one_more_there (is_at_station id) loads i c.loop-load-item.result _ _ c.loop-load-test.true c.loop-load-item.is (so_far.stations id) (more.stations id);
      vehicles = λ key. one_more_there (is_on key) loads i c.loop-load-item.result _ _ c.loop-load-test.true c.loop-load-item.is (so_far.vehicles key) (more.vehicles key);
      checking = one_more_there is_checking loads i c.loop-load-item.result _ _ c.loop-load-test.true c.loop-load-item.is so_far.checking more.checking;
    }
