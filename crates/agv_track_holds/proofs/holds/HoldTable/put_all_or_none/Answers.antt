use Rattle.agv_track_holds.proofs.Claims.{undone, on_err_then}
use Rattle.agv_track_holds.proofs.holds.HoldTable.put_all_or_none.Goals as goal

pub returns-then-is_err-clause-err : goal.returns-then-is_err-clause-err
returns-then-is_err-clause-err c =
    on_err_then _ c.put_all-done.ensures.err (λ same. undone c.args.self.now c.put_all-done.new.self c.free_all.new.self c.args.things.now c.requires same c.free_all.ensures)
