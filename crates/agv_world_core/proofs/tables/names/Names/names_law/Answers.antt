use Rattle.std.proofs.Common.{sym, subst, List, ℕ}
use Rattle.std.specs.List.{AllByRecursion}
use Rattle.agv_header.specs.Name.{IsName}
use Rattle.agv_world_core.proofs.lists.Orders.{names_total, names_apart}
use Rattle.agv_world_core.proofs.lists.EachEntry.{member-has}
use Rattle.agv_world_core.proofs.tables.names.Names.names_law.Goals as goal

pub loop-id-init : goal.loop-id-init
loop-id-init c each = member-has names_total names_apart (λ (id : List ℕ). IsName id) c.iter-id-items.result c.args.self.now c.iter-id-items.ensures.all (subst (AllByRecursion (λ (id : List ℕ). IsName id)) c.into_iter-id-iterator.ensures.into_iter_gives each)

pub loop-id-preserved : goal.loop-id-preserved
loop-id-preserved c more = c.loop-id.invariant (subst (AllByRecursion (λ (id : List ℕ). IsName id)) (sym c.in-Some.ensures.steps) (c.as_bytes-bytes.ensures.name, more))

pub returns : goal.returns
returns c = c.loop-id.invariant (subst (AllByRecursion (λ (id : List ℕ). IsName id)) (sym c.in-None.ensures.steps.0) tt)
