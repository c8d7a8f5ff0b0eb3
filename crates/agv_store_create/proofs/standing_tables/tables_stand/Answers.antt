use Rattle.std.proofs.Common.{◌≡◌, ◌∙◌, Bor, ℕ, List, Ok, ap, drop, sym, subst, take}
use Rattle.std.proofs.lemmas.List.{drop-map, take-map}
use Rattle.std.specs.List.{AllZip}
use Rattle.sqlite_schema.specs.declared.schema.Table.{Table}
use Rattle.sqlite_resolve.specs.Compile.{table_defined_by}
use Rattle.agv_store_create.proofs.TableTexts.{all_defined}
use Rattle.agv_store_create.proofs.TablesStand.{each_alike, others_plain, stands_allowed, the_others, told_so}
use Rattle.agv_store_create.proofs.standing_tables.tables_stand.Goals as goal

pub returns-then-not-allows_desk : goal.returns-then-not-allows_desk
returns-then-not-allows_desk c = ((λ yes. absurd (cc)), (λ stand. let allows = c.allows_desk.ensures.1 (stands_allowed c.args.schema.now stand) in absurd (cc)))

pub returns-then-not-has_meta : goal.returns-then-not-has_meta
returns-then-not-has_meta c = ((λ yes. absurd (cc)), (λ stand. let one = c.in_ok-has_meta.ensures.1 (each_alike c.args.schema.now stand).0 in absurd (cc)))

pub returns : goal.returns
returns c =
    let allows = c.allows_desk.ensures.0 c.if-not-allows_desk.false in
    let meta = c.in_ok-has_meta.ensures.0 c.if-not-has_meta.false in
    let text : Bor (List ℕ) → List ℕ = λ it. it.now in
    let all = c.creation_texts.result in
    let texts = sym (take-map text 13 (drop 1 all)) ∙ ap (take 13) (sym (drop-map text 1 all) ∙ ap (drop 1) c.creation_texts.ensures) in
    let defined = subst (λ (texts : List (List ℕ)). AllZip (λ text (table : Table). table_defined_by text ≡ Ok table) texts the_others) (sym texts) all_defined.1 in
    told_so c.args.schema.now c.stand_by.result allows meta (c.stand_by.ensures the_others defined others_plain)
