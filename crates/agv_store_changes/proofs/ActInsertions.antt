-- The INSERTs of the acts of an order, one after the other.
use Rattle.std.proofs.Common.{◌≡◌, ◌∙◌, ◌+◌, ◌<◌, ◌≤◌, ◌++◌, ℕ, List, [], ◌∷◌, take, take_all, drop, length, get_or, refl, sym, ap, arith}
use Rattle.std.proofs.lemmas.List.{length-take-le, take-append-drop, take_more}
use Rattle.agv_order.specs.declared.act.Act.{Act}
use Rattle.agv_store_rows.specs.Columns.{act_columns}
use Rattle.agv_store_rows.specs.Rows.{rows_of_acts}
use Rattle.agv_store_rows.specs.TripRows.{act_key, act_row, act_rows_from}
use Rattle.agv_store_schema.specs.declared.table_name.TableName.TheVariants as the
use Rattle.agv_store_sql.specs.Refusals.{Statement, insertions}

-- the INSERTs of acts that are numbered from a number on
abbrev pub inserted : List ℕ → ℕ → List Act → List Statement
inserted order n acts = insertions the.Act (rows_of_acts (act_rows_from order n acts))

abbrev pub one_inserted : List ℕ → ℕ → Act → List Statement
one_inserted order n act = insertions the.Act (act_columns (act_key order n) (act_row act) ∷ [])

appended : (order : List ℕ) (n : ℕ) (acts more : List Act) → inserted order n (acts ++ more) ≡ inserted order n acts ++ inserted order (n + length acts) more
appended order n [] more = let at : n ≡ n + 0 = omega arith in ap (λ k. inserted order k more) at
appended order n (first ∷ acts) more =
    let at : n + 1 + length acts ≡ n + length (first ∷ acts) = omega arith in
    ap (λ rest. one_inserted order n first ++ rest) (appended order (n + 1) acts more ∙ ap (λ k. inserted order (n + 1) acts ++ inserted order k more) at)

-- the act at a place, after those before it
pub inserted_next : (order : List ℕ) (acts : List Act) (n : ℕ) (act : Act) → n < length acts → act ≡ get_or acts n act
    → inserted order 0 (take n acts) ++ one_inserted order n act ≡ inserted order 0 (take (n + 1) acts)
inserted_next order acts n act low is =
    let long : length (take n acts) ≡ n = length-take-le n acts (omega (arith, low)) in
    let at : n ≡ 0 + length (take n acts) = omega (arith, long) in
    let whole : take n acts ++ act ∷ [] ≡ take (n + 1) acts = ap (λ x. take n acts ++ x ∷ []) is ∙ sym (take_more acts n act low) in
    ap (λ k. inserted order 0 (take n acts) ++ one_inserted order k act) at ∙ sym (appended order 0 (take n acts) (act ∷ [])) ∙ ap (inserted order 0) whole

-- all of them
pub inserted_all : (order : List ℕ) (acts : List Act) (n : ℕ) → length acts ≤ n → inserted order 0 (take n acts) ≡ inserted order 0 acts
inserted_all order acts n whole = ap (inserted order 0) (take_all n acts whole)

-- those after the first
abbrev pub inserted_rest : List ℕ → List Act → ℕ → List Statement
inserted_rest order acts n = inserted order (0 + length (take n acts)) (drop n acts)

pub inserted_parts : (order : List ℕ) (acts : List Act) (n : ℕ) → inserted order 0 (take n acts) ++ inserted_rest order acts n ≡ inserted order 0 acts
inserted_parts order acts n = sym (appended order 0 (take n acts) (drop n acts)) ∙ ap (inserted order 0) (take-append-drop n acts)
