use Rattle.std.proofs.Common.{◌≡◌, ◌++◌, ◌∷◌, [], ℕ, List, sym, ap, ◌∙◌, append_assoc, append-nil}
use Rattle.std.specs.FinMap as map
use Rattle.std.specs.Map.Iter.{deref_pair}
use Rattle.std.proofs.lemmas.Map.Iter.{rest_more, rest_all}
use Rattle.agv_world_core.proofs.lists.Orders.{names_total}
use Rattle.agv_world_core.proofs.lists.Shown.{entries-shown}
use Rattle.agv_world_core.proofs.tables.by_name.ByName.list.Goals as goal

pub loop-key-init : goal.loop-key-init
loop-key-init g c =
    ap (λ (es : List (List ℕ × g.row.V.Denot)). es ++ c.into_iter-key-iterator.result) c.new-list.ensures.items ∙ c.into_iter-key-iterator.ensures.into_iter_gives ∙ c.iter-key-items.ensures.rest ∙ sym (entries-shown names_total c.self.inside.kept.entries c.iter-key-items.ensures.ordered) ∙ ap map.entries c.self.view_is

pub loop-key-preserved : goal.loop-key-preserved
loop-key-preserved g c =
    let same : c.in_ok-clone.field-0 ≡ c.in-Some.row.now = g.met.V.Row.same _ _ c.in_ok-clone.ensures.cases in
    let rest = rest_more deref_pair _ _ _ _ c.in-Some.is c.next.ensures.steps in
    ap (λ (es : List (List ℕ × g.row.V.Denot)). es ++ c.next.new.self) (c.in_ok-push.ensures.items ∙ ap (λ row. c.loop-key.list.items ++ (c.in-Some.key.now, row) ∷ []) same)
    ∙ append_assoc c.loop-key.list.items ((c.in-Some.key.now, c.in-Some.row.now) ∷ []) c.next.new.self
    ∙ ap (λ (es : List (List ℕ × g.row.V.Denot)). c.loop-key.list.items ++ es) (sym rest)
    ∙ c.loop-key.invariant

pub returns : goal.returns
returns g c =
    sym (append-nil c.loop-key.list.items)
    ∙ ap (λ (es : List (List ℕ × g.row.V.Denot)). c.loop-key.list.items ++ es) (sym (rest_all deref_pair _ _ _ c.in-None.is c.next.ensures.steps))
    ∙ c.loop-key.invariant
