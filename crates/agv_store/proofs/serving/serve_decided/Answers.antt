use Rattle.std.proofs.Common.{refl}
use Rattle.agv_store.proofs.CallsServed.{asked_till, crash_then, fails_again, faulted_leaves, faulted_till, had_not_failed, knew_then, knows_before, left_then, nothing_left, opens_then, serves_then, stays_failed, told}
use Rattle.agv_store.proofs.serving.serve_decided.Goals as goal

-- ---- no decision

pub returns-in_err-decision-clause-unchanged_on_err : goal.returns-in_err-decision-clause-unchanged_on_err
returns-in_err-decision-clause-unchanged_on_err g c = faulted_leaves g.S.Store c.args.floor.now.held c.decided.new.floor.held (faulted_till g.S.Store c.args.floor.now c.decided.new.floor c.in_err-decision.field-0.0 c.in_err-decision.ensures.decides) c.knows.ensures c.from_residual.result

pub returns-in_err-decision-clause-was_open : goal.returns-in_err-decision-clause-was_open
returns-in_err-decision-clause-was_open g c = (faulted_till g.S.Store c.args.floor.now c.decided.new.floor c.in_err-decision.field-0.0 c.in_err-decision.ensures.decides).was_open

pub returns-in_err-decision-clause-crash : goal.returns-in_err-decision-clause-crash
returns-in_err-decision-clause-crash g c = nothing_left g.S.Store c.args.floor.now.held c.decided.new.floor.held (faulted_till g.S.Store c.args.floor.now c.decided.new.floor c.in_err-decision.field-0.0 c.in_err-decision.ensures.decides) c.knows.ensures c.args.at c.args.call.now

pub returns-in_err-decision-clause-fails : goal.returns-in_err-decision-clause-fails
returns-in_err-decision-clause-fails g c = fails_again g.S.Store c.args.floor.now c.decided.new.floor c.in_err-decision.field-0.0 c.in_err-decision.ensures.decides

-- ---- nothing to write

pub returns-then-is_empty-clause-knew : goal.returns-then-is_empty-clause-knew
returns-then-is_empty-clause-knew g c clean = knows_before g.S.Store c.args.floor.now.held c.decided.new.floor.held (asked_till g.S.Store c.args.floor.now c.decided.new.floor c.in_ok-decision.ensures.decides) c.knows.ensures clean (c.in_ok-decision.ensures.knows clean).is_open

pub returns-then-is_empty-clause-serves : goal.returns-then-is_empty-clause-serves
returns-then-is_empty-clause-serves g c =
    told g.S.Store c.args.floor.now.held c.decided.new.floor.held (asked_till g.S.Store c.args.floor.now c.decided.new.floor c.in_ok-decision.ensures.decides) c.knows.ensures c.args.at c.args.call.now c.in_ok-decision.decision c.in_ok-decision.ensures.decides.told c.in_ok-decision.ensures.knows c.has_consistent_trips.ensures c.maps_tell_the_world.ensures (c.if-is_empty.ensures.0 refl)

pub returns-then-is_empty-clause-was_open : goal.returns-then-is_empty-clause-was_open
returns-then-is_empty-clause-was_open g c = (asked_till g.S.Store c.args.floor.now c.decided.new.floor c.in_ok-decision.ensures.decides).was_open

pub returns-then-is_empty-clause-crash : goal.returns-then-is_empty-clause-crash
returns-then-is_empty-clause-crash g c = nothing_left g.S.Store c.args.floor.now.held c.decided.new.floor.held (asked_till g.S.Store c.args.floor.now c.decided.new.floor c.in_ok-decision.ensures.decides) c.knows.ensures c.args.at c.args.call.now

pub returns-then-is_empty-clause-fails : goal.returns-then-is_empty-clause-fails
returns-then-is_empty-clause-fails g c = stays_failed g.S.Store c.args.floor.now c.decided.new.floor c.in_ok-decision.ensures.decides

-- ---- written

pub returns-clause-knew : goal.returns-clause-knew
returns-clause-knew g c = knew_then g.S.Store c.args.floor.now.held c.decided.new.floor.held (asked_till g.S.Store c.args.floor.now c.decided.new.floor c.in_ok-decision.ensures.decides) c.knows.ensures c.args.at c.args.call.now c.in_ok-decision.decision c.in_ok-decision.ensures.decides.told c.in_ok-decision.ensures.knows c.write.new.floor.held c.write.result c.write.ensures.crash

pub returns-clause-serves : goal.returns-clause-serves
returns-clause-serves g c = serves_then g.S.Store c.args.floor.now.held c.decided.new.floor.held (asked_till g.S.Store c.args.floor.now c.decided.new.floor c.in_ok-decision.ensures.decides) c.knows.ensures c.args.at c.args.call.now c.in_ok-decision.decision c.in_ok-decision.ensures.decides.told c.in_ok-decision.ensures.knows c.write.new.floor.held c.write.result c.write.ensures.crash c.write.ensures.serves

pub returns-clause-unchanged_on_err : goal.returns-clause-unchanged_on_err
returns-clause-unchanged_on_err g c = left_then g.S.Store c.args.floor.now.held c.decided.new.floor.held (asked_till g.S.Store c.args.floor.now c.decided.new.floor c.in_ok-decision.ensures.decides) c.knows.ensures c.args.at c.args.call.now c.in_ok-decision.decision c.in_ok-decision.ensures.decides.told c.in_ok-decision.ensures.knows c.write.new.floor.held c.write.result c.write.ensures.crash c.write.ensures.unchanged_on_err

pub returns-clause-was_open : goal.returns-clause-was_open
returns-clause-was_open g c = opens_then g.S.Store c.args.floor.now.held c.decided.new.floor.held (asked_till g.S.Store c.args.floor.now c.decided.new.floor c.in_ok-decision.ensures.decides) c.knows.ensures c.args.at c.args.call.now c.in_ok-decision.decision c.in_ok-decision.ensures.decides.told c.in_ok-decision.ensures.knows c.write.new.floor.held c.write.result c.write.ensures.crash c.write.ensures.was_open

pub returns-clause-crash : goal.returns-clause-crash
returns-clause-crash g c = crash_then g.S.Store c.args.floor.now.held c.decided.new.floor.held (asked_till g.S.Store c.args.floor.now c.decided.new.floor c.in_ok-decision.ensures.decides) c.knows.ensures c.args.at c.args.call.now c.in_ok-decision.decision c.in_ok-decision.ensures.decides.told c.in_ok-decision.ensures.knows c.write.new.floor.held c.write.result c.write.ensures.crash

pub returns-clause-fails : goal.returns-clause-fails
returns-clause-fails g c = had_not_failed g.S.Store c.args.floor.now c.decided.new.floor c.write.new.floor.failed c.in_ok-decision.ensures.decides c.in_ok-decision.ensures.ends
