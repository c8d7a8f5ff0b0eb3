use Rattle.std.proofs.Common.{rules, ◌+◌, ◌<◌, ◌≤◌, ◌∙◌, ap, sym, subst, drop, length}
use Rattle.std.proofs.lemmas.List.{at_drop_more, at_drop_all}
use Rattle.agv_world_core.specs.Changes.{change, changed}
use Rattle.agv_world_core.specs.Kept.{Agrees}
use Rattle.agv_world_core.proofs.world.World.put_all.Goals as goal

pub loop-written-preserved : goal.loop-written-preserved
unfolding changed
loop-written-preserved c maps agrees =
    let so_far = c.loop-written.invariant maps agrees in
    let more : c.loop-written.written-index < length c.args.changes.now = search rules in (
      change so_far.0 _,
      c.in_ok-put.ensures so_far.0 so_far.1,
      ap (λ one. changed (drop (c.loop-written.written-index + 1) c.args.changes.now) (change so_far.0 one)) c.written-item.is
          ∙ sym (at_drop_more (λ changes. changed changes so_far.0) c.args.changes.now c.loop-written.written-index _ more)
          ∙ so_far.2,
    )

pub returns : goal.returns
unfolding changed
returns c maps agrees =
    let all = c.loop-written.invariant maps agrees in
    let none : length c.args.changes.now ≤ c.loop-written.written-index = search rules in
    subst (Agrees c.loop-written.self) (sym (at_drop_all (λ changes. changed changes all.0) c.args.changes.now c.loop-written.written-index none) ∙ all.2) all.1
