use Rattle.std.proofs.Common.{◌≡◌, ◌++◌, ◌∷◌, ◌+◌, [], sym, ap, subst, take, ◌∙◌}
use Rattle.std.proofs.lemmas.List.{take_more, take_all}
use Rattle.std.proofs.lemmas.List.Elements.{All-nil, All-push}
use Rattle.agv_header.specs.Name.{IsName}
use Rattle.agv_layout.specs.Rows.{AreNamed, id_in}
use Rattle.agv_desk.proofs.call.names_law.Goals as goal

pub loop-row-init : goal.loop-row-init
loop-row-init c = All-nil _

pub loop-row-preserved : goal.loop-row-preserved
loop-row-preserved c =
    let rows = c.args.rows.now in
    let i = c.loop-row.row-index in
    let row = c.row-item.result in
    let more : take (i + 1) rows ≡ take i rows ++ row ∷ [] = take_more rows i row c.loop-row-test.true ∙ ap (λ x. take i rows ++ x ∷ []) (sym c.row-item.is) in
    subst AreNamed (sym more) (All-push (λ r. IsName (id_in r)) (take i rows) row c.loop-row.invariant c.name_law.ensures)

pub returns : goal.returns
returns c = subst AreNamed (take_all c.loop-row.row-index c.args.rows.now c.loop-row-test.false) c.loop-row.invariant
