use Rattle.std.proofs.Common.{◌≡◌, length, sym, subst, ◌∙◌}
use Rattle.std.proofs.lemmas.Bool.{eqb-true}
use Rattle.std.proofs.lemmas.List.{nil_from_length}
use Rattle.agv_world_core.specs.Changes.{changed}
use Rattle.agv_world_core.specs.Kept.{Agrees}
use Rattle.agv_world_core.specs.Maps.{maps_of}
use Rattle.agv_world_core.proofs.world.World.apply.Goals as goal

pub returns-then-is_empty-clause-applied : goal.returns-then-is_empty-clause-applied
unfolding changed
returns-then-is_empty-clause-applied c world next keeps leads =
    let none = nil_from_length c.args.changes.now (eqb-true (length c.args.changes.now) 0 (sym c.is_empty.ensures ∙ c.if-is_empty.true)) in
    subst (Agrees c.args.self.now) (subst (λ changes. changed changes (maps_of world) ≡ maps_of next) none leads) keeps

pub returns-then-is_empty-clause-agrees : goal.returns-then-is_empty-clause-agrees
unfolding changed
returns-then-is_empty-clause-agrees c maps agrees =
    let none = nil_from_length c.args.changes.now (eqb-true (length c.args.changes.now) 0 (sym c.is_empty.ensures ∙ c.if-is_empty.true)) in
    subst (λ changes. Agrees c.args.self.now (changed changes maps)) (sym none) agrees
