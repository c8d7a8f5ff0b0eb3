use Rattle.std.proofs.Common.{◌++◌, ◌∷◌, [], List, sym, ap, ◌∙◌, append_assoc, append-nil}
use Rattle.std.specs.FinMap as map
use Rattle.std.specs.Map.Iter.{deref_pair}
use Rattle.std.proofs.lemmas.Map.Iter.{rest_more, rest_all}
use Rattle.agv_world_core.proofs.lists.InOrder.{entries-shown}
use Rattle.agv_store_rows.specs.ActKeys.{act_cmp-IsAntisymmetric, act_cmp-total}
use Rattle.agv_store_rows.specs.declared.act_key.ActKey.{ActKey}
use Rattle.agv_store_rows.specs.declared.act_row.ActRow.{ActRow}
use Rattle.agv_store_rows.proofs.by_act.ByAct.list.Goals as goal

pub loop-key-init : goal.loop-key-init
loop-key-init c =
    ap (λ (es : List (ActKey × ActRow)). es ++ c.into_iter-key-iterator.result) c.new-list.ensures.items
    ∙ c.into_iter-key-iterator.ensures.into_iter_gives ∙ c.iter-key-items.ensures.rest
    ∙ sym (entries-shown act_cmp-total act_cmp-IsAntisymmetric c.self.inside.kept.entries c.iter-key-items.ensures.ordered)
    ∙ ap map.entries c.self.view_is

pub loop-key-preserved : goal.loop-key-preserved
loop-key-preserved c =
    let rest = rest_more deref_pair _ _ _ _ c.in-Some.is c.next.ensures.steps in
    ap (λ (es : List (ActKey × ActRow)). es ++ c.next.new.self) c.in_ok-push.ensures.items
    ∙ append_assoc c.loop-key.list.items ((c.in-Some.key.now, c.in-Some.row.now) ∷ []) c.next.new.self
    ∙ ap (λ (es : List (ActKey × ActRow)). c.loop-key.list.items ++ es) (sym rest)
    ∙ c.loop-key.invariant

pub returns : goal.returns
returns c =
    sym (append-nil c.loop-key.list.items)
    ∙ ap (λ (es : List (ActKey × ActRow)). c.loop-key.list.items ++ es) (sym (rest_all deref_pair _ _ _ c.in-None.is c.next.ensures.steps))
    ∙ c.loop-key.invariant
