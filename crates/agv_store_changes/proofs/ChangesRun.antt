-- Rows that are put, acts that are added, and changes that are made in turn, inside a transaction.
use Rattle.std.proofs.Common.{◌≡◌, ◌∙◌, ◌+◌, ◌<◌, ◌≤◌, ◌++◌, ℕ, List, [], ◌∷◌, take, take_all, length, get_or, IsTrue, OnOk, Result, refl, sym, ap, subst, arith}
use Rattle.std.proofs.lemmas.List.{length-take-le, take_more}
use Rattle.sqlite_value.specs.Order.{Row}
use Rattle.sqlite.specs.declared.error.Error.{Error}
use Rattle.sqlite.specs.Effect.{Database}
use Rattle.sqlite.specs.State.{State}
use Rattle.agv_order.specs.declared.act.Act.{Act}
use Rattle.agv_store_rows.specs.TripRows.{act_key, act_row, act_rows_from}
use Rattle.agv_world_core.specs.declared.change.Change.{Change}
use Rattle.agv_store_changes.specs.ChangesMade.{ChangesWorlds, MakesChanges}
use Rattle.agv_store_rows.specs.Columns.{act_columns}
use Rattle.agv_store_schema.specs.DeskRows.{FitsTable, Makes, table_for, with_put_by, with_row, with_rows}
use Rattle.agv_store_rows.specs.Rows.{listed, listed_all, rows_of_acts}
use Rattle.agv_store_schema.specs.RowTexts.{columns_deleted}
use Rattle.agv_store_sql.specs.RowUpdates.{IsKeyOf}
use Rattle.agv_store_schema.specs.declared.table_name.TableName.{TableName}
use Rattle.agv_store_schema.specs.declared.table_name.TableName.TheVariants as the
use Rattle.agv_store_sql.proofs.DeskStatements.{keeps_others_as_is, makes_then}
use Rattle.agv_store_rows.proofs.ListsFollow.{listed_in_turn}
use Rattle.agv_store_rows.proofs.ListsHeld.{FollowAll, held_changed}

pub makes_nothing : (a : State) → IsTrue a.in_transaction → Makes (λ lists. lists) a a
makes_nothing a inside = record {
  made = λ desk is lists h. h;
  others = λ desk is has. keeps_others_as_is desk a.now;
  listed = λ desk is has whole. whole;
  kept = refl;
  mode = inside;
}

-- ---- one row

-- what is put as values is the row that these are
pub puts : (name : TableName) (given_key key given row : Row) (a b : State) (r : Result ℕ Error) → given_key ≡ key → given ≡ row → FitsTable name row
    → (FitsTable name given → OnOk r (Makes (with_put_by name (columns_deleted name) given_key given) a b)) → OnOk r (Makes (with_put_by name (columns_deleted name) key row) a b)
puts name given_key key given row a b r keyed valued fit made =
    subst (λ (k : Row). OnOk r (Makes (with_put_by name (columns_deleted name) k row) a b)) keyed
    (subst (λ (v : Row). FitsTable name v → OnOk r (Makes (with_put_by name (columns_deleted name) given_key v) a b)) valued made fit)

-- and so is what is written over the row of its key
pub puts_over : (name : TableName) (given_key key given row : Row) (a b : State) (r : Result ℕ Error) → given_key ≡ key → given ≡ row → FitsTable name row
    → columns_deleted name ≡ (table_for name).primary → IsKeyOf (columns_deleted name) key row
    → (FitsTable name given → columns_deleted name ≡ (table_for name).primary → IsKeyOf (columns_deleted name) given_key given → OnOk r (Makes (with_put_by name (columns_deleted name) given_key given) a b))
    → OnOk r (Makes (with_put_by name (columns_deleted name) key row) a b)
puts_over name given_key key given row a b r keyed valued fit same is_key made =
    let columns = columns_deleted name in
    subst (λ (k : Row). IsKeyOf columns k row → OnOk r (Makes (with_put_by name columns k row) a b)) keyed
    (subst (λ (v : Row). FitsTable name v → IsKeyOf columns given_key v → OnOk r (Makes (with_put_by name columns given_key v) a b)) valued (λ fits keys. made fits same keys) fit) is_key

-- ---- the acts of an order

-- the changes that add acts which are numbered from a number on
abbrev added : List ℕ → ℕ → List Act → List (List Row) → List (List Row)
added order n acts = with_rows the.Act (rows_of_acts (act_rows_from order n acts))

abbrev one_added : List ℕ → ℕ → Act → List (List Row) → List (List Row)
one_added order n act = with_row the.Act (act_columns (act_key order n) (act_row act))

added_in_turn : (order : List ℕ) (n : ℕ) (acts : List Act) (act : Act) (lists : List (List Row)) → added order n (acts ++ act ∷ []) lists ≡ one_added order (n + length acts) act (added order n acts lists)
added_in_turn order n [] act lists = let at : n ≡ n + 0 = omega arith in ap (λ k. one_added order k act lists) at
added_in_turn order n (first ∷ acts) act lists =
    let at : n + 1 + length acts ≡ n + length (first ∷ acts) = omega arith in
    added_in_turn order (n + 1) acts act (one_added order n first lists) ∙ ap (λ k. one_added order k act (added order n (first ∷ acts) lists)) at

-- the act at a place, after those before it
pub adds_next : (order : List ℕ) (acts : List Act) (n : ℕ) (act : Act) (a b c : State) → n < length acts → act ≡ get_or acts n act
    → Makes (added order 0 (take n acts)) a b → Makes (one_added order n act) b c → Makes (added order 0 (take (n + 1) acts)) a c
adds_next order acts n act a b c low is p q =
    let long : length (take n acts) ≡ n = length-take-le n acts (omega (arith, low)) in
    let at : 0 + length (take n acts) ≡ n = omega (arith, long) in
    let front = take n acts in
    let whole : front ++ act ∷ [] ≡ take (n + 1) acts = ap (λ x. front ++ x ∷ []) is ∙ sym (take_more acts n act low) in
    let same : (lists : List (List Row)) → one_added order n act (added order 0 front lists) ≡ added order 0 (take (n + 1) acts) lists =
    λ lists. ap (λ k. one_added order k act (added order 0 front lists)) (sym at) ∙ sym (added_in_turn order 0 front act lists) ∙ ap (λ acts. added order 0 acts lists) whole in
    subst (λ (change : List (List Row) → List (List Row)). Makes change a c) (λ i lists. same lists i) (makes_then (added order 0 front) (one_added order n act) a b c p q)

pub adds_all : (order : List ℕ) (acts : List Act) (n : ℕ) (a b : State) → length acts ≤ n → Makes (added order 0 (take n acts)) a b → Makes (added order 0 acts) a b
adds_all order acts n a b whole p = subst (λ acts. Makes (added order 0 acts) a b) (take_all n acts whole) p

-- ---- a list of changes

pub makes_none : (a : State) → IsTrue a.in_transaction → Makes (listed_all []) a a
unfolding listed_all
makes_none a inside = makes_nothing a inside

one_more : (so_far : List Change) (one : Change) (a b c : State) → Makes (listed_all so_far) a b → Makes (listed one) b c → Makes (listed_all (so_far ++ one ∷ [])) a c
unfolding listed_all
one_more so_far one a b c p q =
    subst (λ (change : List (List Row) → List (List Row)). Makes change a c) (λ i lists. sym (listed_in_turn so_far (one ∷ []) lists) i)
    (makes_then (listed_all so_far) (listed one) a b c p q)

-- the change at a place, after those before it
pub makes_next : (all : List Change) (i : ℕ) (one : Change) (a b c : State) → i < length all → one ≡ get_or all i one → Makes (listed_all (take i all)) a b → Makes (listed one) b c → Makes (listed_all (take (i + 1) all)) a c
makes_next all i one a b c low is p q =
    subst (λ changes. Makes (listed_all changes) a c) (ap (λ x. take i all ++ x ∷ []) is ∙ sym (take_more all i one low)) (one_more (take i all) one a b c p q)

pub all_made : (all : List Change) (i : ℕ) (a b : State) → length all ≤ i → Makes (listed_all (take i all)) a b → MakesChanges all a.now b.now
all_made all i a b whole p =
    let q = subst (λ changes. Makes (listed_all changes) a b) (take_all i all whole) p in
    record { rows = q.made; others = q.others; listed = q.listed }

pub worlds_changed : FollowAll → (changes : List Change) (old new : Database) → MakesChanges changes old new → ChangesWorlds changes old new
worlds_changed follow changes old new all desk is maps = held_changed follow desk old new changes maps (all.rows desk is)
