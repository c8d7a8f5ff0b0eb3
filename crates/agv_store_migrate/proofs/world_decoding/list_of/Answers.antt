use Rattle.std.proofs.Common.{◌≤◌, Vec, Global, length, sym, subst, arith}
use Rattle.sqlite_value.specs.Order.{Row}
use Rattle.agv_store_schema.specs.DeskRows.{place_of}
use Rattle.agv_store_migrate.proofs.NoList.{none_at}
use Rattle.agv_store_migrate.proofs.world_decoding.list_of.Goals as goal

pub returns-in-None : goal.returns-in-None
returns-in-None c =
    let high : length c.args.lists.now ≤ c.place_of.result = omega (arith, c.in-None.ensures.lookup) in
    sym (none_at (λ (rows : Vec Row Global). rows.items) (place_of c.args.table) c.args.lists.now (subst (λ at. length c.args.lists.now ≤ at) c.place_of.ensures high))
