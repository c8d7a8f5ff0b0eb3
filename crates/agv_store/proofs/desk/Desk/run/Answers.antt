use Rattle.std.proofs.Common.{◌≡◌, false, true, inl, inr, refl, length, ap, arith}
use Rattle.std.specs.Vec.{vec_capacity}
use Rattle.agv_store.proofs.CallsInTurn.{crash_at_fault, found_at_end, longer_by_one, run_to_end, run_to_fault, served_more, served_none, stopped_at_fault, stopped_to_end, stopped_unreserved}
use Rattle.agv_store.proofs.Crashes.{has_weaker}
use Rattle.agv_store.proofs.desk.Desk.run.Goals as goal

-- ---- no memory for the answers

pub returns-in-Err-clause-crash : goal.returns-in-Err-clause-crash
returns-in-Err-clause-crash g c clean knew trees left =
    let old = c.args.self.now in
    let none = served_none g.S.Store c.other_tables_stay.ensures.itself old c.args.calls.now c.new.result.items c.new.ensures.items c.knows.ensures in
    has_weaker (λ found has. inl has) (found_at_end g.S.Store old old c.args.calls.now c.new.result.items none g.met.S.Store.settled clean knew trees left)

pub returns-in-Err-clause-fails : goal.returns-in-Err-clause-fails
returns-in-Err-clause-fails g c had_failed =
    stopped_unreserved c.args.self.now c.args.calls.now (vec_capacity c.new.result) c.new.result.items c.new.ensures.items
    (λ fits. let none : length c.args.calls.now ≡ 0 = omega (arith, fits, c.new.ensures.capacity) in absurd (let e : false ≡ true = c.in-Err.ensures.succeeds none in cc))

pub returns-in-Err-clause-reserves : goal.returns-in-Err-clause-reserves
returns-in-Err-clause-reserves g c = inr (refl, c.new.ensures.items, refl)

-- ---- the calls in turn

pub loop-made-init : goal.loop-made-init
loop-made-init g c = (
  ap length c.in-Ok.ensures.items,
  c.in-Ok.ensures.len,
  c.in-Ok.ensures.capacity,
  served_none g.S.Store c.other_tables_stay.ensures.itself c.args.self.now c.args.calls.now c.in-Ok.given.items c.in-Ok.ensures.items c.knows.ensures,
)

pub loop-made-preserved : goal.loop-made-preserved
loop-made-preserved g c =
    let so_far = c.loop-made.invariant in
    let its = c.in-Ok-served.ensures in
    let pushed = c.push_reserved.ensures in (
      omega (arith, so_far.0, longer_by_one c.push_reserved.new.self.items c.loop-made.given.items c.in-Ok-served.answer pushed.items),
      omega (arith, so_far.1, pushed.len),
      omega (arith, so_far.2, pushed.capacity),
      served_more g.S.Store c.args.self.now c.loop-made.self c.serve-served.new.self c.args.calls.now c.loop-made.given.items so_far.3
          c.loop-made.made-index so_far.0 c.made-item.result c.loop-made-test.true c.made-item.is its.crash
          c.a_database_tells_its_world.ensures c.other_tables_stay.ensures.next c.serves_in_turn.ensures.world c.serves_in_turn.ensures.answers c.in-Ok-served.answer its.knew its.serves its.ends its.fails
          c.push_reserved.new.self.items pushed.items,
    )

-- ---- a fault

pub returns-in-Err-served-clause-runs : goal.returns-in-Err-served-clause-runs
returns-in-Err-served-clause-runs g c =
    let so_far = c.loop-made.invariant in
    let its = c.in-Err-served.ensures in
    run_to_fault g.S.Store c.args.self.now c.loop-made.self c.serve-served.new.self c.args.calls.now c.loop-made.given.items so_far.3
    c.loop-made.made-index so_far.0 c.made-item.result c.loop-made-test.true c.made-item.is its.crash
    c.in-Err-served.why its.unchanged_on_err its.was_open c.knows-in-Err-served.ensures

pub returns-in-Err-served-clause-crash : goal.returns-in-Err-served-clause-crash
returns-in-Err-served-clause-crash g c =
    let so_far = c.loop-made.invariant in
    let its = c.in-Err-served.ensures in
    crash_at_fault g.S.Store c.args.self.now c.loop-made.self c.serve-served.new.self c.args.calls.now c.loop-made.given.items so_far.3
    c.loop-made.made-index so_far.0 c.made-item.result c.loop-made-test.true c.made-item.is its.crash
    g.met.S.Store.settled c.serves_in_turn.ensures.world c.in-Err-served.why

pub returns-in-Err-served-clause-fails : goal.returns-in-Err-served-clause-fails
returns-in-Err-served-clause-fails g c =
    let so_far = c.loop-made.invariant in
    let its = c.in-Err-served.ensures in
    stopped_at_fault g.S.Store c.args.self.now c.loop-made.self c.serve-served.new.self c.args.calls.now c.loop-made.given.items so_far.3
    c.loop-made.made-index so_far.0 c.made-item.result c.loop-made-test.true c.made-item.is its.crash
    c.in-Err-served.why its.unchanged_on_err its.was_open c.knows-in-Err-served.ensures (vec_capacity c.loop-made.given) its.stopped

pub returns-in-Err-served-clause-reserves : goal.returns-in-Err-served-clause-reserves
returns-in-Err-served-clause-reserves g c = inl c.loop-made.invariant.2

-- ---- all served

pub returns-clause-runs : goal.returns-clause-runs
returns-clause-runs g c = run_to_end g.S.Store c.args.self.now c.loop-made.self c.args.calls.now c.loop-made.given.items c.loop-made.invariant.3

pub returns-clause-crash : goal.returns-clause-crash
returns-clause-crash g c =
    found_at_end g.S.Store c.args.self.now c.loop-made.self c.args.calls.now c.loop-made.given.items c.loop-made.invariant.3 g.met.S.Store.settled

pub returns-clause-fails : goal.returns-clause-fails
returns-clause-fails g c =
    stopped_to_end g.S.Store c.args.self.now c.loop-made.self c.args.calls.now c.loop-made.given.items c.loop-made.invariant.3 (vec_capacity c.loop-made.given) (omega (arith, c.loop-made.invariant.0, c.loop-made-test.false))

pub returns-clause-reserves : goal.returns-clause-reserves
returns-clause-reserves g c = inl c.loop-made.invariant.2
