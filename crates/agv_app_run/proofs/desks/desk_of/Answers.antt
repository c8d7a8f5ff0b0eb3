use Rattle.std.proofs.Common.{◌≡◌, ◌⊎◌, sym, subst}
use Rattle.agv_app_run.specs.declared.outcome.RunFault.TheVariants as fault
use Rattle.agv_app_run.proofs.NewDesks.{new_desk, new_fault}
use Rattle.agv_app_run.proofs.desks.desk_of.Goals as goal

pub returns-in-Ok-open-clause-new : goal.returns-in-Ok-open-clause-new
returns-in-Ok-open-clause-new g c =
    new_desk g.S.Store c.args.opened c.in-Ok.conn c.in-Ok.is c.in-Ok-open.desk c.in-Ok-open.ensures.opened c.a_database_tells_its_world.ensures

pub returns-clause-fault : goal.returns-clause-fault
returns-clause-fault g c = λ new.
    subst (λ why. (why ≡ fault.Memory) ⊎ (why ≡ fault.Storage)) (sym c.from.ensures)
    (new_fault g.S.Store c.args.opened c.in-Ok.conn c.in-Ok.is c.in-Err-open.field-0-0 c.in-Err-open.why c.in-Err-open.ensures.damaged new)
