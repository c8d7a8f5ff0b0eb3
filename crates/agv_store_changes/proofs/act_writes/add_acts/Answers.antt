use Rattle.std.proofs.Common.{◌≡◌, ◌∙◌, ◌+◌, ◌<◌, ◌++◌, take, length, ap, subst, rules, arith}
use Rattle.agv_store_sql.proofs.Refusing.{ends_as, fails_early, fails_then, RunInside, runs_none, runs_then}
use Rattle.agv_store_sql.proofs.WritesThen.{retold, writes_none, writes_then}
use Rattle.agv_store_sql.specs.Refusals.{EndsInside}
use Rattle.agv_store_changes.proofs.ActInsertions.{inserted, inserted_all, inserted_next, inserted_parts, inserted_rest, one_inserted}
use Rattle.agv_store_changes.proofs.ChangesRun.{adds_all, adds_next, makes_nothing}
use Rattle.agv_store_changes.proofs.act_writes.add_acts.Goals as goal

pub loop-n-init : goal.loop-n-init
loop-n-init g c = (writes_none g.S.Store c.args.tx.now (makes_nothing _), λ few. runs_none g.S.Store c.args.tx.now)

pub returns-in_err-add_act-clause-made : goal.returns-in_err-add_act-clause-made
returns-in_err-add_act-clause-made g c = writes_then g.S.Store c.loop-n.invariant.0 c.add_act.ensures.made (λ _ _ _ _. search rules)

pub returns-in_err-add_act-clause-ends : goal.returns-in_err-add_act-clause-ends
returns-in_err-add_act-clause-ends g c few =
    let order = c.args.order.now in
    let acts = c.args.acts.now in
    let n = c.loop-n.n in
    let low : n < length acts = c.loop-n-test.true in
    let so_far = c.loop-n.invariant in
    let e = c.in_err-add_act.field-0.0 in
    let next : inserted order 0 (take n acts) ++ one_inserted order n c.index-acts-n.result ≡ inserted order 0 (take (n + 1) acts) = inserted_next order acts n c.index-acts-n.result low c.index-acts-n.is in
    let fails = fails_then g.S.Store c.args.tx.now c.loop-n.tx c.add_act.new.tx (inserted order 0 (take n acts)) (one_inserted order n c.index-acts-n.result) so_far.0.survives c.add_act.ensures.made.survives (so_far.1 few) e
    (c.in_err-add_act.ensures.ends (omega (arith, low, few))) in
    subst (λ all. EndsInside g.S.Store c.args.tx.now c.add_act.new.tx all c.from_residual.result) (ap (λ first. first ++ inserted_rest order acts (n + 1)) next ∙ inserted_parts order acts (n + 1))
    (ends_as g.S.Store c.args.tx.now c.add_act.new.tx _ e c.from_residual.result c.from_residual.ensures.1
    (fails_early g.S.Store c.args.tx.now c.add_act.new.tx (inserted order 0 (take n acts) ++ one_inserted order n c.index-acts-n.result) (inserted_rest order acts (n + 1)) e fails))

pub loop-n-preserved : goal.loop-n-preserved
loop-n-preserved g c =
    let order = c.args.order.now in
    let acts = c.args.acts.now in
    let n = c.loop-n.n in
    let act = c.index-acts-n.result in
    let low : n < length acts = c.loop-n-test.true in
    let so_far = c.loop-n.invariant in (
      writes_then g.S.Store so_far.0 c.in_ok-add_act.ensures.made (λ _ before adds inside. adds_next order acts n act _ _ _ low c.index-acts-n.is (before inside) adds),
      λ few. subst (RunInside g.S.Store c.args.tx.now c.add_act.new.tx) (inserted_next order acts n act low c.index-acts-n.is)
          (runs_then g.S.Store c.args.tx.now c.loop-n.tx c.add_act.new.tx (inserted order 0 (take n acts)) (one_inserted order n act) so_far.0.survives c.in_ok-add_act.ensures.made.survives (so_far.1 few) (c.in_ok-add_act.ensures.ends (omega (arith, low, few)))),
    )

pub returns-clause-made : goal.returns-clause-made
returns-clause-made g c = retold g.S.Store c.loop-n.invariant.0 (λ _ adds inside. adds_all c.args.order.now c.args.acts.now c.loop-n.n _ _ c.loop-n-test.false (adds inside))

pub returns-clause-ends : goal.returns-clause-ends
returns-clause-ends g c few = subst (RunInside g.S.Store c.args.tx.now c.loop-n.tx) (inserted_all c.args.order.now c.args.acts.now c.loop-n.n c.loop-n-test.false) (c.loop-n.invariant.1 few)
