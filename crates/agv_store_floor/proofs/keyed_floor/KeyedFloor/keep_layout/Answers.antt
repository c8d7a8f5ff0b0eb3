use Rattle.std.proofs.Common.{◌≡◌, subst, sym, ◌∙◌}
use Rattle.agv_world_core.specs.Questions.{layout_set}
use Rattle.agv_store_schema.specs.Connections.{IsClean, IsOpen}
use Rattle.agv_store_known.proofs.KeptLayout.{agrees_set}
use Rattle.agv_store_known.proofs.Knowing.{with_layout}
use Rattle.agv_store_floor.specs.Floors.{Keyed, world_at}
use Rattle.agv_store_floor.proofs.Asked.{known_so}
use Rattle.agv_store_floor.proofs.keyed_floor.KeyedFloor.keep_layout.Goals as goal

pub invariant_of-self : goal.invariant_of-self
invariant_of-self g c =
    let there = subst (λ (desk : Keyed g.row.S.Denot). IsClean g.S.Store desk.held → IsOpen g.S.Store desk.held → c.args.layout.now ≡ layout_set (world_at g.S.Store desk.held)) (sym c.self.view_is) c.requires in
    known_so g.S.Store c.self.inside.conn c.self.inside.known _ c.self.inside.failed c.self.inside.in_doubt c.self.invariant
    (λ clean still. with_layout (agrees_set c.gives_itself.ensures c.needs_a_node.ensures (world_at g.S.Store c.self.inside.conn) (c.self.invariant.knows clean still).has.lawful.limits.laid c.in_ok-copy.copy
    (c.in_ok-copy.ensures ∙ there clean still)))
