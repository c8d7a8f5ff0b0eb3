use Rattle.std.proofs.Common.{◌≡◌, true, sym, ap, subst, ◌∙◌}
use Rattle.agv_track_holds.specs.Holds.{is_in, claimed}
use Rattle.agv_track_holds.proofs.Claims.{unheld_are_free, claimed-unheld}
use Rattle.agv_track_holds.proofs.holds.HoldTable.claim.Goals as goal

pub put_all_or_none-requires : goal.put_all_or_none-requires
put_all_or_none-requires c thing among =
    unheld_are_free c.args.self.now c.args.things.now thing (subst (λ xs. is_in thing xs ≡ true) (c.deref.ensures.value ∙ c.in_ok-unheld.ensures) among)

pub returns-clause-claimed : goal.returns-clause-claimed
returns-clause-claimed c =
    c.in_ok-put_all_or_none.ensures.ok
    ∙ ap (claimed c.args.self.now c.args.key) (c.deref.ensures.value ∙ c.in_ok-unheld.ensures)
    ∙ claimed-unheld c.args.self.now c.args.key c.args.things.now (sym c.first_held.ensures ∙ c.in_default.is)
