use Rattle.std.proofs.Common.{ap, ◌∙◌}
use Rattle.std.specs.FinMap as finite
use Rattle.std.specs.FinSet as set
use Rattle.agv_layout.specs.Layout.{Layout}
use Rattle.agv_store_known.proofs.KeptLayout.{agreed_layout}
use Rattle.agv_store_floor.specs.Floors.{world_at}
use Rattle.agv_store_floor.proofs.Asked.{known_seen}
use Rattle.agv_store_floor.proofs.ReportLists.{counted, few_things}
use Rattle.agv_store_floor.proofs.keyed_floor.KeyedFloor.kept_things.Goals as goal

pub returns-in-Some : goal.returns-in-Some
returns-in-Some g c clean still lawful =
    let world = world_at g.S.Store c.args.self.now.held in
    let agrees = (known_seen g.S.Store c.self.inside.conn c.self.inside.known c.self.inside.failed c.self.inside.in_doubt c.self.invariant c.args.self.now c.self.view_is clean still).agrees in
    let same = agreed_layout c.self.inside.known.layout world c.in-Some.layout c.in-Some.is agrees in
    counted _ _ _ _ _ _ (few_things _ lawful) (c.node_count.ensures ∙ ap (λ (l : Layout). set.len l.nodes) same) (c.edge_count.ensures ∙ ap (λ (l : Layout). finite.len l.edges) same)
    c.saturating_add.ensures c.told_number.ensures
