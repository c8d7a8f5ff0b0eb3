use Rattle.std.proofs.Common.{◌≡◌, ◌≢◌, ◌∙◌, Bor, List, Ok, drop, false, take, true, ap, subst, sym, ℕ}
use Rattle.std.proofs.lemmas.Bool.{both_ways}
use Rattle.std.proofs.lemmas.List.{drop-map, take-map}
use Rattle.std.specs.List.{AllZip}
use Rattle.sqlite_resolve.specs.Compile.{table_defined_by}
use Rattle.sqlite_schema.specs.declared.schema.Table.{Table}
use Rattle.sqlite_trees.specs.Tree.{IsAscending}
use Rattle.agv_store_schema.specs.Schema.{desk_tables}
use Rattle.agv_store_migrate.proofs.TablesStanding.{are_apart, are_unreferred, each_alike, none_refers, ten_defined, ten_plain, the_ten, told_so}
use Rattle.agv_store_migrate.proofs.standing.first_tables_stand.Goals as goal

pub returns-then-not-are_unreferred : goal.returns-then-not-are_unreferred
returns-then-not-are_unreferred c =
    let s = c.args.schema.now in
    let same : c.as_slice-tables.result.now ≡ s.tables = c.as_slice-tables.ensures in
    let told : c.are_unreferred.result ≡ are_unreferred c.as_slice-tables.result.now = c.are_unreferred.ensures in
    let none : are_unreferred s.tables ≡ false = sym (told ∙ ap are_unreferred same) ∙ c.if-not-are_unreferred.true in
    ((λ yes. absurd (cc yes)), (λ stand. absurd (both_ways (are_unreferred s.tables) none (none_refers s stand))))

pub returns-then-not-are_apart : goal.returns-then-not-are_apart
returns-then-not-are_apart c =
    let s = c.args.schema.now in
    let same : c.as_slice-tables.result.now ≡ s.tables = c.as_slice-tables.ensures in
    ((λ yes. absurd (cc yes)), (λ stand. absurd (both_ways _ c.if-not-are_apart.true (c.are_apart.ensures.1 (subst (IsAscending (λ (t u : Table). t.tree ≢ u.tree)) (sym same) (are_apart s stand))))))

pub returns-then-not-has_meta : goal.returns-then-not-has_meta
returns-then-not-has_meta c = ((λ yes. absurd (cc yes)), (λ stand. let one = c.in_ok-has_meta.ensures.1 (each_alike c.args.schema.now stand).0 in absurd (cc)))

pub returns : goal.returns
returns c =
    let s = c.args.schema.now in
    let same : c.as_slice-tables.result.now ≡ s.tables = c.as_slice-tables.ensures in
    let told : c.are_unreferred.result ≡ are_unreferred c.as_slice-tables.result.now = c.are_unreferred.ensures in
    let free : are_unreferred s.tables ≡ true = sym (told ∙ ap are_unreferred same) ∙ c.if-not-are_unreferred.false in
    let apart = subst (IsAscending (λ (t u : Table). t.tree ≢ u.tree)) same (c.are_apart.ensures.0 c.if-not-are_apart.false) in
    let meta = c.in_ok-has_meta.ensures.0 c.if-not-has_meta.false in
    let text : Bor (List ℕ) → List ℕ = λ it. it.now in
    let texts = sym (take-map text 10 (drop 1 c.creation_texts-texts.result)) ∙ ap (take 10) (sym (drop-map text 1 c.creation_texts-texts.result) ∙ ap (drop 1) c.creation_texts-texts.ensures) in
    let defined = subst (λ (texts : List (List ℕ)). AllZip (λ text (table : Table). table_defined_by text ≡ Ok table) texts (the_ten desk_tables)) (sym texts) (ten_defined c.texts_define_the_tables.ensures) in
    told_so s c.stand_by.result free apart meta (c.stand_by.ensures (the_ten desk_tables) defined ten_plain)
