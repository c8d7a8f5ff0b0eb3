use Rattle.std.proofs.Common.{ap, ◌∙◌}
use Rattle.std.specs.FinMap as finite
use Rattle.std.specs.FinSet as set
use Rattle.agv_header.specs.Name.{name_cmp}
use Rattle.agv_layout.specs.declared.edge.EdgeEnds.{EdgeEnds}
use Rattle.agv_world_core.specs.Worlds.{World}
use Rattle.agv_store_floor.proofs.Asked.{answered_open}
use Rattle.agv_store_floor.proofs.InTurn.{asked_both}
use Rattle.agv_store_floor.proofs.ReportLists.{counted, few_things}
use Rattle.agv_store_floor.proofs.keyed_floor.KeyedFloor.things_counted.Goals as goal

pub returns-in-Some : goal.returns-in-Some
returns-in-Some g c = answered_open g.S.Store c.args.self.now c.settle.new.self c.in_ok-settle.ensures.asks c.in_ok-settle.ensures.knows c.in-Some.ensures

pub returns : goal.returns
returns g c =
    let first = c.in_ok-nodes.ensures in
    asked_both first c.in_ok-edges.ensures (λ clean nodes edges lawful.
    counted _ _ _ _ _ _ (few_things _ lawful) (c.len.ensures ∙ ap (λ (s : set.FinSet name_cmp). set.len s) nodes)
    (c.len-2.ensures ∙ ap (λ (m : finite.FinMap name_cmp EdgeEnds). finite.len m) edges ∙ ap (λ (w : World). finite.len w.layout.edges) (first.world clean))
    c.saturating_add.ensures c.told_number.ensures)
