use Rattle.std.proofs.Common.{sym, subst}
use Rattle.std.specs.List.{AllByRecursion}
use Rattle.agv_header.specs.Name.{IsName}
use Rattle.agv_world_core.specs.declared.key.UseKey.{UseKey}
use Rattle.agv_world_core.specs.KeyOrders.{use_cmp-total, use_cmp-IsAntisymmetric}
use Rattle.agv_world_core.proofs.lists.EachEntry.{member-has}
use Rattle.agv_world_core.proofs.tables.used_names.UsedNames.names_law.Goals as goal

pub loop-key-init : goal.loop-key-init
loop-key-init c each = member-has use_cmp-total use_cmp-IsAntisymmetric (λ (key : UseKey). IsName key.name) c.iter-key-items.result c.args.self.now c.iter-key-items.ensures.all (subst (AllByRecursion (λ (key : UseKey). IsName key.name)) c.into_iter-key-iterator.ensures.into_iter_gives each)

pub loop-key-preserved : goal.loop-key-preserved
loop-key-preserved c more = c.loop-key.invariant (subst (AllByRecursion (λ (key : UseKey). IsName key.name)) (sym c.in-Some.ensures.steps) (c.as_bytes-bytes.ensures.name, more))

pub returns : goal.returns
returns c = c.loop-key.invariant (subst (AllByRecursion (λ (key : UseKey). IsName key.name)) (sym c.in-None.ensures.steps.0) tt)
