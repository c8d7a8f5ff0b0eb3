use Rattle.std.proofs.Common.{◌≡◌, ◌++◌, ◌∷◌, ◌+◌, [], sym, ap, subst, take, drop, true, false, ◌∙◌}
use Rattle.std.proofs.lemmas.List.{take_more, take_all}
use Rattle.std.proofs.lemmas.List.Elements.{All-nil, All-push}
use Rattle.agv_header.specs.Name.{IsName}
use Rattle.agv_layout.specs.Draft.{has_id, with_row}
use Rattle.agv_layout.specs.LayoutOf.{layout_in}
use Rattle.agv_layout.specs.Rows.{AreNamed, IsEachOnce, id_in}
use Rattle.agv_layout.proofs.Rows.{AreDistinct, distinct_none, once_from, plan_more, distinct_more, twice, split_at}
use Rattle.agv_layout.proofs.draft.Draft.of_rows.Goals as goal

pub loop-row-init : goal.loop-row-init
loop-row-init c = record { drawn = c.new-draft.ensures; distinct = distinct_none; named = All-nil _ }

pub returns-in_err-add-clause-bad : goal.returns-in_err-add-clause-bad
returns-in_err-add-clause-bad c is once =
    let rows = c.args.rows.now in
    let i = c.loop-row.row-index in
    let row = c.row-item.result in
    let told = rw is at c.from_residual.ensures.1 in
    let has : has_id (layout_in (take i rows)) row ≡ true = subst (λ plan. has_id plan row ≡ true) c.loop-row.invariant.drawn (c.in_err-add.ensures.again (cc told)) in
    twice (take i rows) (drop (i + 1) rows) row has (subst IsEachOnce (split_at rows i row c.loop-row-test.true c.row-item.is) once)

pub loop-row-preserved : goal.loop-row-preserved
loop-row-preserved c =
    let rows = c.args.rows.now in
    let i = c.loop-row.row-index in
    let row = c.row-item.result in
    let new : has_id (layout_in (take i rows)) row ≡ false = subst (λ plan. has_id plan row ≡ false) c.loop-row.invariant.drawn c.in_ok-add.ensures.new in
    let more : take (i + 1) rows ≡ take i rows ++ row ∷ [] = take_more rows i row c.loop-row-test.true ∙ ap (λ x. take i rows ++ x ∷ []) (sym c.row-item.is) in
    record {
      drawn = c.in_ok-add.ensures.added ∙ ap (λ plan. with_row plan row) c.loop-row.invariant.drawn ∙ sym (plan_more (take i rows) row new) ∙ ap layout_in (sym more);
      distinct = subst AreDistinct (sym more) (distinct_more (take i rows) row c.loop-row.invariant.distinct new);
      named = subst AreNamed (sym more) (All-push (λ r. IsName (id_in r)) (take i rows) row c.loop-row.invariant.named c.in_ok-add.ensures.named);
    }

pub returns-clause-once : goal.returns-clause-once
returns-clause-once c =
    subst IsEachOnce (take_all c.loop-row.row-index c.args.rows.now c.loop-row-test.false) (once_from _ c.loop-row.invariant.distinct)

pub returns-clause-named : goal.returns-clause-named
returns-clause-named c =
    subst AreNamed (take_all c.loop-row.row-index c.args.rows.now c.loop-row-test.false) c.loop-row.invariant.named
