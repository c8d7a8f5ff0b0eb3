use Rattle.std.proofs.Common.{sym, subst, List, ℕ, ◌∙◌}
use Rattle.std.specs.List.{AllByRecursion}
use Rattle.agv_header.specs.Name.{IsName}
use Rattle.agv_world_core.proofs.lists.Orders.{names_apart}
use Rattle.agv_world_core.proofs.lists.EachEntry.{entry-has}
use Rattle.agv_world_core.proofs.tables.by_name.ByName.names_law.Goals as goal

pub loop-id-init : goal.loop-id-init
loop-id-init g c each = entry-has names_apart (λ (e : List ℕ × g.row.V.Denot). IsName e.0) c.args.self.now (subst (AllByRecursion (λ (e : List ℕ × g.row.V.Denot). IsName e.0)) (c.into_iter-id-iterator.ensures.into_iter_gives ∙ c.iter-id-items.ensures) each)

pub loop-id-preserved : goal.loop-id-preserved
loop-id-preserved g c more = c.loop-id.invariant (subst (AllByRecursion (λ (e : List ℕ × g.row.V.Denot). IsName e.0)) (sym c.in-Some.ensures.steps) (c.as_bytes-bytes.ensures.name, more))

pub returns : goal.returns
returns g c = c.loop-id.invariant (subst (AllByRecursion (λ (e : List ℕ × g.row.V.Denot). IsName e.0)) (sym c.in-None.ensures.steps.0) tt)
