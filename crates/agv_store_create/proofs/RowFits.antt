-- SQL does not refuse the row of `meta`, where no table has a row and no index more than two columns.
use Rattle.std.proofs.Common.{◌≡◌, ◌<◌, ◌∙◌, ◌+◌, ◌*◌, ◌==◌, ◌&&◌, not, ℕ, zero, suc, true, false, nat_lt, List, [], ◌∷◌, ◌++◌, length, fold, slice_index_or, pos, Option, Err, inl, inr, refl, sym, ap, subst, arith, ltb-true, lit<}
use Rattle.std.specs.List.{AllByRecursion, list_all}
use Rattle.std.specs.Float.{NotNan}
use Rattle.std.specs.Int.{bit_at}
use Rattle.std.proofs.lemmas.Bool.{both_ways, cases_Bool}
use Rattle.std.proofs.lemmas.Nat.Bits.{bit_at-zero}
use Rattle.sqlite_value.specs.declared.keys.Order.{Order}
use Rattle.sqlite_value.specs.declared.value.Value.{Value}
use Rattle.sqlite_value.specs.declared.value.Value.TheVariants.{Int}
use Rattle.sqlite_value.specs.Order.{Row, bytes, column, number, value_cmp}
use Rattle.sqlite_trees.specs.Tree.{Trees, rowid, with_tree}
use Rattle.sqlite_trees.specs.View.{IsStorable}
use Rattle.sqlite_sql.specs.Catalog.{entry_of}
use Rattle.sqlite_sql.specs.Ops.{binary, fits_i64}
use Rattle.sqlite_schema.specs.declared.schema.Constraint.TheVariants.{Datatype, NotNull, Check, PrimaryKey, Unique, ForeignKey}
use Rattle.sqlite_schema.specs.declared.schema.Index.{Index}
use Rattle.sqlite_schema.specs.declared.schema.Keys.TheVariants.{Enforced}
use Rattle.sqlite_schema.specs.declared.schema.Schema.{Schema}
use Rattle.sqlite_schema.specs.declared.schema.Table.{Table}
use Rattle.sqlite_schema.specs.Rules.{agree, clashes, differ, guards, index_reals, passes}
use Rattle.sqlite_rules.specs.declared.error.Refusal.{Refusal}
use Rattle.sqlite_rules.specs.declared.error.Refusal.TheVariants.{Violates, Mismatch, NoRowid, BadReference, TooDeep}
use Rattle.sqlite_rules.specs.Action.{Leads, Work, Writes}
use Rattle.sqlite_rules.specs.Edit.{Edit, IsOversized, IsRefused, are_fresh, edited, have_rowids, id_in, is_referred}
use Rattle.sqlite_rules.specs.Lists.{Has}
use Rattle.sqlite_rules.proofs.ListLemmas.{all_from, test_from, test_has}
use Rattle.agv_store_schema.specs.Schema.{meta_table}
use Rattle.agv_store_create.proofs.MetaRow.{meta_row, no_works}

-- the row, under the first number
abbrev pub first_row : Row
first_row = Int (pos 1) ∷ meta_row

-- ---- it can be stored

record IsPlain (v : Value) : Type 0 where
  pub number_is : NotNan (number v)
  pub bytes_are : bytes v ≡ []

plain_at : (c : ℕ) → IsPlain (column first_row c)
unfolding lib.Ieee.is_nan
plain_at zero = record { number_is = tt; bytes_are = refl }
plain_at (suc zero) = record { number_is = tt; bytes_are = refl }
plain_at (suc (suc zero)) = record { number_is = tt; bytes_are = refl }
plain_at (suc (suc (suc c))) = record { number_is = tt; bytes_are = refl }

all_at : (vs : Row) → AllByRecursion IsPlain vs → (k : ℕ) (d : Value) → k < length vs → NotNan (number (slice_index_or vs k d))
all_at [] plain k d low = absurd (omega (arith, low))
all_at (v ∷ vs) plain zero d low = plain.0.number_is
all_at (v ∷ vs) plain (suc k) d low = all_at vs plain.1 k d (omega (arith, low))

abbrev size : Value → ℕ
size v = 18 + length (bytes v)

sizes : (vs : Row) → AllByRecursion IsPlain vs → (n : ℕ) → fold (λ a v. a + size v) n vs ≡ n + 18 * length vs
sizes [] plain n = omega arith
sizes (v ∷ vs) plain n =
    let none : length (bytes v) ≡ 0 = ap (λ (bs : List ℕ). length bs) plain.0.bytes_are in
    let rest = sizes vs plain.1 (n + size v) in
    omega (arith, none, rest)

storable : (reals : ℕ) (entry : Row) → reals ≡ 0 → AllByRecursion IsPlain entry → 0 < length entry → length entry < 4 → IsStorable reals entry
storable reals entry none plain filled few =
    let sum = sizes entry plain 0 in record {
      typed = λ c bit. absurd (let wrong = sym (bit_at-zero c) ∙ subst (λ r. bit_at r c ≡ 1) none bit in cc);
      columns = (filled, omega (arith, few));
      numbers = all_at entry plain;
      short = omega (arith, sum, few);
    }

entry_plain : (columns : List ℕ) → AllByRecursion IsPlain (entry_of columns first_row)
entry_plain [] = (plain_at 0, tt)
entry_plain (c ∷ columns) = (plain_at c, entry_plain columns)

entry_length : (columns : List ℕ) → length (entry_of columns first_row) ≡ length columns + 1
entry_length [] = refl
entry_length (c ∷ columns) = let rest = entry_length columns in omega (arith, rest)

no_reals : (columns : List ℕ) → index_reals 0 columns ≡ 0
no_reals [] = refl
no_reals (c ∷ columns) = rw (bit_at-zero c, no_reals columns) refl

-- ---- it clashes with no other

differs_not : differ (Int (pos 1)) (Int (pos 1)) ≡ false
unfolding binary value_cmp lib.Ieee.is_nan lib.Ieee.lt
differs_not = refl

clashes_not : (o : Order) (columns : List ℕ) → clashes o columns (first_row ∷ []) first_row ≡ false
clashes_not o columns = elim (cases_Bool (agree o columns first_row columns first_row)) [
  | inl agrees ↦ rw (agrees, differs_not) refl
  | inr other ↦ rw other refl
]

module _ (s : Schema) (tree : ℕ) (db : Trees) (none : db tree ≡ []) where
  abbrev table : Table
  table = record meta_table { tree = tree }

  abbrev lone : Edit
  lone = record { table = table; gone = []; news = first_row ∷ [] }

  abbrev next : Trees
  next = with_tree db tree (edited db lone)

  -- ---- no rule refuses it

  one_keeps : (rows : List Row) → rows ≡ first_row ∷ [] → (t : Table) → AllByRecursion (λ (row : Row). list_all (λ (i : Index). not (guards i t && clashes i.order i.columns rows row)) s.indexes ≡ true) rows
  one_keeps rows is t = rw is (
    test_from (λ (i : Index). not (guards i t && clashes i.order i.columns (first_row ∷ []) first_row)) s.indexes (λ i has. elim (cases_Bool (guards i t)) [
      | inl guarded ↦ rw (guarded, clashes_not i.order i.columns) refl
      | inr other ↦ rw other refl
    ]),
    tt,
  )

  none_keeps : (rows : List Row) → rows ≡ [] → (t : Table) → AllByRecursion (λ (row : Row). list_all (λ (i : Index). not (guards i t && clashes i.order i.columns rows row)) s.indexes ≡ true) rows
  none_keeps rows is t = rw is tt

  module _ (empty : (t : Table) → Has s.tables t → db t.tree ≡ []) where
    all_keep : AllByRecursion (λ (t : Table). AllByRecursion (λ (row : Row). passes Unique s next t row ≡ true) (next t.tree)) s.tables
    all_keep = all_from (λ (t : Table). AllByRecursion (λ (row : Row). passes Unique s next t row ≡ true) (next t.tree)) s.tables (λ t has. elim (cases_Bool (t.tree == tree)) [
      | inl here ↦ one_keeps (next t.tree) (rw (here, none) refl) t
      | inr other ↦ none_keeps (next t.tree) (rw other (empty t has)) t
    ])

    allowed : (why : Refusal) → IsRefused s Enforced db lone why → ⊥
    allowed (Violates Datatype) h = both_ways (list_all (passes Datatype s db table) (first_row ∷ [])) h refl
    allowed (Violates NotNull) h = both_ways (list_all (passes NotNull s db table) (first_row ∷ [])) h refl
    allowed (Violates Check) h = both_ways (list_all (passes Check s db table) (first_row ∷ [])) h refl
    allowed (Violates PrimaryKey) h = both_ways (are_fresh (db tree) (first_row ∷ [])) h (rw none refl)
    allowed (Violates Unique) h = h all_keep
    allowed (Violates ForeignKey) h = h
    allowed Mismatch h = both_ways (have_rowids (first_row ∷ [])) h refl
    allowed NoRowid h = both_ways (list_all (λ (r : Row). fits_i64 (id_in (rowid r))) (first_row ∷ [])) h refl
    allowed BadReference h = both_ways (is_referred s Enforced lone) h refl
    allowed TooDeep h = h

    -- ---- it is written

    module _ (few : list_all (λ (i : Index). nat_lt (length i.columns) 3) s.indexes ≡ true) where
      fits : IsOversized s table first_row → ⊥
      fits (inl big) = big (storable 0 first_row refl (plain_at 0, (plain_at 1, (plain_at 2, tt))) (lit< tt) (lit< tt), lit< tt)
      fits (inr entry) =
          let i = entry.0 in
          let low = ltb-true _ _ (test_has (λ (j : Index). nat_lt (length j.columns) 3) s.indexes i few entry.1) in
          let is = entry_length i.columns in
          entry.3 (storable _ _ (no_reals i.columns) (entry_plain i.columns) (omega (arith, is)) (omega (arith, is, low)))

      not_last : (below : List Work) (w : Work) → [] ≡ below ++ w ∷ [] → ⊥
      not_last [] w e = cc
      not_last (v ∷ below) w e = cc

      settles : (why : Option Refusal) (n : ℕ) (mid : Trees) (stack : List Work) → stack ≡ [] → Leads s Enforced n mid stack (Err why) → ⊥
      settles why zero mid stack is h = let wrong = h.1 in cc
      settles why (suc n) mid stack is h = not_last h.0 h.1 (sym is ∙ h.2)

      pub row_written : (why : Option Refusal) → Writes s Enforced db lone (Err why) → ⊥
      row_written why (inl refused) = allowed refused.0 refused.1
      row_written why (inr (inl big)) = elim big.1 [ inl is ↦ fits (subst (IsOversized s table) is big.2) | inr never ↦ never ]
      row_written why (inr (inr went)) = settles why went.2.0 went.0 _ (no_works s Enforced 0 tree (first_row ∷ [])) went.2.1
