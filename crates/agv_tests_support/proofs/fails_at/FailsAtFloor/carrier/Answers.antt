use Rattle.std.proofs.Common.{rules, ◌≡◌, false, Err, refl}
use Rattle.agv_world_core.specs.declared.fault.Fault.TheVariants.{Storage}
use Rattle.agv_tests_support.proofs.Within.{asked_inside, failed_outside}
use Rattle.agv_tests_support.proofs.fails_at.FailsAtFloor.carrier.Goals as goal

pub returns-in_err-ask : goal.returns-in_err-ask
returns-in_err-ask c =
    let fault : c.from_residual.result ≡ Err Storage = search rules in
    rw fault (failed_outside (λ store. store.floor) (λ store. store.failed) (record { world = _; is_clean = _; is_open = _; failed = λ floor. false; seats = _; is_later = _ }) c.args.self.now _ c.in_err-ask.ensures.floor_stays c.in_err-ask.ensures.fails.1)

pub returns : goal.returns
returns c =
    asked_inside (λ store. store.floor) (λ store. store.failed) _ c.args.self.now _ _ (λ floor. refl) c.ask.new.self.floor c.in_ok-ask.ensures.floor_stays
    c.in_ok-ask.ensures.answers c.carrier.result c.carrier.ensures
