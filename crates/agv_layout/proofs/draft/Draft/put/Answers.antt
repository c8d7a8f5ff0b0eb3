use Rattle.std.proofs.Common.{not, refl, sym, ap, ◌∙◌}
use Rattle.agv_layout.proofs.Drafts.{same_parts}
use Rattle.agv_layout.proofs.Maps.{contains-shown, insert-shown, set_insert-shown, new-shown}
use Rattle.agv_layout.proofs.draft.Draft.put.Goals as goal

pub returns-in_ok-insert-in-Node-clause-added : goal.returns-in_ok-insert-in-Node-clause-added
returns-in_ok-insert-in-Node-clause-added c _ =
    rw c.in-Node.is (same_parts _ _ _ _ _ _ (set_insert-shown _ _ _ c.in_ok-insert-in-Node.ensures.updates.0) refl refl)

pub returns-in_ok-insert-in-Node-clause-new : goal.returns-in_ok-insert-in-Node-clause-new
returns-in_ok-insert-in-Node-clause-new c =
    rw c.in-Node.is (c.in_ok-insert-in-Node.ensures.added ∙ ap not (sym (contains-shown _ _)))

pub returns-in_ok-insert-in-Edge-clause-added : goal.returns-in_ok-insert-in-Edge-clause-added
returns-in_ok-insert-in-Edge-clause-added c _ =
    rw c.in-Edge.is (same_parts _ _ _ _ _ _ refl (insert-shown _ _ _ _ c.in_ok-insert-in-Edge.ensures.updates.0) refl)

pub returns-in_ok-insert-in-Edge-clause-new : goal.returns-in_ok-insert-in-Edge-clause-new
returns-in_ok-insert-in-Edge-clause-new c =
    rw c.in-Edge.is (new-shown _ _ _ _ c.in_ok-insert-in-Edge.ensures.old c.is_none.ensures)

pub returns-in_ok-insert-in-Station-clause-added : goal.returns-in_ok-insert-in-Station-clause-added
returns-in_ok-insert-in-Station-clause-added c _ =
    rw c.in-Station.is (same_parts _ _ _ _ _ _ refl refl (insert-shown _ _ _ _ c.in_ok-insert-in-Station.ensures.updates.0))

pub returns-in_ok-insert-in-Station-clause-new : goal.returns-in_ok-insert-in-Station-clause-new
returns-in_ok-insert-in-Station-clause-new c =
    rw c.in-Station.is (new-shown _ _ _ _ c.in_ok-insert-in-Station.ensures.old c.is_none-in-Station.ensures)
