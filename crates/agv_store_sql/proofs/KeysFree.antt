-- A row that SQL adds had none of its key before it, since each key of a table has its index; and a row that it refuses changes nothing.
use Rattle.std.proofs.Common.{◌≡◌, ◌≢◌, ◌∙◌, ◌&&◌, inl, inr, [], ◌∷◌, ℕ, zero, suc, ℤ, Bool, true, false, not, List, Option, Some, Result, Ok, Err, OnOk, IfErr, IfOk, Ordering, Less, Equal, Greater, filter, length, map, slice_get, slice_index_or, refl, sym, ap, ap₂, subst}
use Rattle.std.specs.List.{AllByRecursion, list_all, list_any}
use Rattle.std.specs.Ordering.{is_eq, is_ne}
use Rattle.std.proofs.lemmas.Bool.{and_from, cases_Bool, eq-eqb, false_from_ne_true, not-true}
use Rattle.std.proofs.lemmas.List.{length-map}
use Rattle.std.proofs.lemmas.List.Sorted.{length_permutation}
use Rattle.sqlite_value.specs.declared.value.Value.TheVariants.{Int, Null}
use Rattle.sqlite_value.specs.Order.{Row, value_cmp}
use Rattle.sqlite_value.specs.declared.keys.Order.{Order}
use Rattle.sqlite_value.specs.Keys.{first_key, plain}
use Rattle.sqlite_trees.specs.Tree.{rowid}
use Rattle.sqlite_trees.proofs.ListLemmas.{IsPermutation-filter}
use Rattle.sqlite_sql.specs.Ops.{binary}
use Rattle.sqlite_schema.specs.declared.schema.Constraint.{Constraint}
use Rattle.sqlite_schema.specs.declared.schema.Constraint.TheVariants.{Unique}
use Rattle.sqlite_schema.specs.declared.schema.Index.{Index}
use Rattle.sqlite_schema.specs.declared.schema.Table.{Table}
use Rattle.sqlite_schema.specs.declared.schema.Schema.{Schema}
use Rattle.sqlite_schema.specs.Rules.{agree, clashes, differ, guards}
use Rattle.sqlite_rules.specs.Lists.{Has}
use Rattle.sqlite_rules.specs.Edit.{are_fresh, id_in, next_rowid}
use Rattle.sqlite_rules.proofs.ListLemmas.{all_has, some_from, test_has}
use Rattle.sqlite_rules.proofs.TableLemmas.{has_put, int_is, put_all_keeps}
use Rattle.sqlite_catalog.specs.Listing.{IsGuarded, IsSound, automatic}
use Rattle.sqlite_trees.specs.declared.error.StoreError.{StoreError}
use Rattle.sqlite_trees.specs.declared.error.StoreError.TheVariants.{OutOfMemory, Io, Corrupt, Full, Broken, Unstorable}
use Rattle.sqlite.specs.declared.error.Error.{Error}
use Rattle.sqlite.specs.declared.error.Error.TheVariants.{SqliteFailure}
use Rattle.sqlite.specs.declared.error.ErrorCode.TheVariants.{ConstraintViolation}
use Rattle.sqlite.specs.Effect.{Database, IsDatabase}
use Rattle.sqlite.specs.State.{State, ExecutesIn, Fails, IsNotRun, IsUnchanged, shows_rows, store_error}
use Rattle.agv_store_schema.specs.DeskRows.{Placing, AreKeyed, FitsTable, HasKey, Holds, IsDesk, KeepsOthers, Makes, RowidColumn, SameColumns, SameKeys, has_columns, has_key, indexed_by, place_of, shown_in, table_at, table_for, table_in, with_put_by, with_row}
use Rattle.agv_store_schema.specs.RowTexts.{insertion_text, is_written}
use Rattle.agv_store_sql.specs.RowUpdates.{Counts, IsBrokenRule, TellsAlike}
use Rattle.agv_store_schema.specs.declared.table_name.TableName.{TableName}
use Rattle.agv_store_schema.specs.declared.table_name.TableName.TheVariants as the
use Rattle.agv_store_schema.proofs.OnTables.{on_table-same}
use Rattle.agv_store_schema.proofs.DeskPlaces.{HasNoRowidColumn, is_among, table_has}
use Rattle.agv_store_sql.proofs.sql.EntryEdits.{filter_of_map}
use Rattle.agv_store_schema.proofs.Truths.{truth_of}
use Rattle.agv_store_sql.proofs.sql.QueryRows.{entry_passes, passes}
use Rattle.agv_store_sql.proofs.DeskStatements.{RunsInside, added_one, key_passes, within}
use Rattle.agv_store_sql.proofs.RowForms.{Inserted, new_entry, pass_alike, rowid_is_new, stands_with_them}
use Rattle.agv_store_sql.proofs.RowMeanings.{key_terms, written_no_rowid_column}
use Rattle.agv_store_sql.proofs.UpdateMeanings.{on_table-agree, remade}

-- ---- keys and their indexes

no_other : (o : Ordering) → is_eq o ≡ false → is_ne o ≡ true
no_other Less h = refl
no_other Equal h = absurd (cc)
no_other Greater h = refl

-- rowids that are not tied differ, as SQL's <> has it
differ_if_apart : (a b : ℤ) → is_eq (value_cmp (Int a) (Int b)) ≡ false → differ (Int a) (Int b) ≡ true
unfolding binary
differ_if_apart a b apart = truth_of (is_ne (value_cmp (Int a) (Int b))) ∙ no_other _ apart

none_is : {X : Type 0} (p : X → Bool) (xs : List X) (x : X) → list_any p xs ≡ false → Has xs x → p x ≡ false
none_is p xs x none there = false_from_ne_true _ (λ yes. let some = some_from p xs x there yes in cc)

left_fails : (a b : Bool) → (a && b) ≡ false → b ≡ true → a ≡ false
left_fails true b both right = absurd (cc)
left_fails false b both right = refl

none_left : {X : Type 0} (p : X → Bool) (xs : List X) → ((x : X) → Has xs x → p x ≡ false) → filter p xs ≡ []
none_left p [] none = refl
none_left p (x ∷ xs) none = rw (none x (inl refl), none_left p xs (λ y there. none y (inr there)))

-- the primary key is one of the keys
primary_is_key : (name : TableName) → Has (table_for name).uniques (table_for name).primary
primary_is_key the.Meta = inl refl
primary_is_key _ = inl refl

-- a key with its columns stands somewhere among those that are written
pub record IsPlaced (keys : List (List ℕ)) (key : List ℕ) : Type 0 where
  at : ℕ
  written : List ℕ
  there : slice_get keys at ≡ Some written
  same : SameColumns key written

placed : (keys : List (List ℕ)) (key : List ℕ) → HasKey keys key → IsPlaced keys key
placed [] key has = absurd has
placed (k ∷ keys) key (inl same) = record { at = 0; written = k; there = refl; same = same }
placed (k ∷ keys) key (inr later) = let it = placed keys key later in record { at = suc it.at; written = it.written; there = it.there; same = it.same }

primary_at : (desk : Placing) (is : IsDesk desk) (name : TableName) → HasNoRowidColumn desk name → IsPlaced (desk.keys name).indexed (table_for name).primary
primary_at desk is name none =
    let all = (desk.keys name).indexed in
    let same = subst (λ (r : Option RowidColumn). SameKeys all (indexed_by r (table_for name).uniques)) none (is.stands name).same_keys in
    placed all (table_for name).primary (all_has (HasKey all) (table_for name).uniques (table_for name).primary same.other (primary_is_key name))

-- its index is ordered as any other
all_plain : (keys : List (List ℕ)) (at : ℕ) → slice_index_or (map (λ (_ : List ℕ). plain) keys) at plain ≡ plain
all_plain [] at = refl
all_plain (k ∷ keys) zero = refl
all_plain (k ∷ keys) (suc at) = all_plain keys at

-- two entries agree in a column
abbrev agree_at : Row → Row → ℕ → Bool
agree_at a b place = agree plain (place ∷ []) a (place ∷ []) b

each_agrees : (places : List ℕ) (a b : Row) → agree plain places a places b ≡ list_all (agree_at a b) places
unfolding first_key
each_agrees [] a b = refl
each_agrees (p ∷ places) a b = ap₂ ◌&&◌ (with_true _) (each_agrees places a b)
  where
    with_true : (x : Bool) → x ≡ (x && true)
    with_true true = refl
    with_true false = refl

all_pass : (p : ℕ → Bool) (xs ys : List ℕ) → AllByRecursion (λ y. Has xs y) ys → list_all p xs ≡ true → list_all p ys ≡ true
all_pass p xs [] among all = refl
all_pass p xs (y ∷ ys) among all = and_from _ _ (test_has p xs y all among.0) (all_pass p xs ys among.1 all)

both_or_none : (a b : Bool) → (a ≡ true → b ≡ true) → (b ≡ true → a ≡ true) → a ≡ b
both_or_none true b f g = sym (f refl)
both_or_none false true f g = g refl
both_or_none false false f g = refl

-- entries that agree in some columns agree in them in any order
agree_alike : (one other : List ℕ) (a b : Row) → SameColumns one other → agree plain one a one b ≡ agree plain other a other b
agree_alike one other a b same =
    each_agrees one a b
    ∙ both_or_none _ _ (all_pass (agree_at a b) one other same.other) (all_pass (agree_at a b) other one same.one)
    ∙ sym (each_agrees other a b)

-- that index tells entries apart as the statements on a key do
agrees : (name : TableName) (row e : Row) (id : ℤ) → agree plain (table_for name).primary e (table_for name).primary (Int id ∷ row) ≡ entry_passes (key_terms name) row e
unfolding first_key
agrees the.Meta row e id = refl
agrees _ row e id = refl

module _ (desk : Placing) (is : IsDesk desk) (name : TableName) (no_rowid : HasNoRowidColumn desk name) (old new : State) (has : old.now.schema ≡ desk.schema) (row : Row) (it : Inserted desk is name old new has row) where
  abbrev table : Table
  table = table_in desk name

  abbrev entries : List Row
  entries = old.now.trees table.tree

  abbrev entry : Row
  entry = new_entry desk is name old new has row

  there : Has desk.schema.tables table
  there = is_among desk.schema.tables (is.stands name).at table (is.stands name).there

  abbrev id : ℤ
  id = next_rowid entries

  sound : IsSound desk.schema it.next
  sound = subst (λ (s : Schema). IsSound s it.next) has (subst (λ (d : Database). IsSound d.schema d.trees) it.now it.sound)

  -- where a key with the columns of the primary one is written
  abbrev key : IsPlaced (desk.keys name).indexed (table_for name).primary
  key = primary_at desk is name no_rowid

  guard : (tree : ℕ) × Has desk.schema.indexes (automatic table key.at key.written tree)
  guard = all_has (IsGuarded desk.schema.indexes) desk.schema.tables table sound.lists.guarded there key.at key.written key.there

  abbrev index : Index
  index = automatic table key.at key.written guard.0

  guards_it : guards index table ≡ true
  guards_it = eq-eqb _ _ refl

  no_clash : clashes plain key.written (it.next table.tree) entry ≡ false
  no_clash =
      let rows = all_has _ desk.schema.tables table (sound.obeys.rules Unique) there in
      let passed = all_has _ (it.next table.tree) entry rows (subst (λ es. Has es entry) (sym (stands_with_them desk is name old new has (Null ∷ row) entry it)) (has_put entry entries)) in
      let free = not-true _ (test_has _ desk.schema.indexes index passed guard.1) in
      let none = subst (λ (b : Bool). (b && clashes index.order index.columns (it.next table.tree) entry) ≡ false) guards_it free in
      subst (λ (order : Order). clashes order index.columns (it.next table.tree) entry ≡ false) (all_plain (desk.keys name).indexed key.at) none

  other_keys : AreKeyed entries → (e : Row) → Has entries e → entry_passes (key_terms name) row e ≡ false
  other_keys keyed e was =
      let free = rowid_is_new desk is name old new has (Null ∷ row) entry it in
      let stays = subst (λ es. Has es e) (sym (stands_with_them desk is name old new has (Null ∷ row) entry it)) (put_all_keeps (entry ∷ []) entries e (subst (λ ns. are_fresh entries ns ≡ true) it.news it.step.fresh) was) in
      let whole = int_is (rowid e) (all_has _ entries e keyed.whole was) in
      let apart = subst (λ v. is_eq (value_cmp v (Int id)) ≡ false) whole (none_is _ entries e free was) in
      let differs : differ (rowid e) (rowid entry) ≡ true = ap (λ v. differ v (Int id)) whole ∙ differ_if_apart (id_in (rowid e)) id apart in
      sym (agrees name row e id) ∙ agree_alike (table_for name).primary key.written e entry key.same ∙ left_fails _ _ (none_is _ (it.next table.tree) e no_clash stays) differs

  -- no row had its key
  key_was_free : (lists : List (List Row)) → Holds desk old.now lists → 0 ≡ length (filter (has_key name row) (table_at (place_of name) lists))
  key_was_free lists h =
      let was = table_has desk name old.now.trees lists h.rows in
      let p = passes (key_terms name) row in
      let rows = table_at (place_of name) lists in
      let none : filter (entry_passes (key_terms name) row) entries ≡ [] = none_left _ entries (other_keys was.0) in
      sym (ap (λ (q : Row → Bool). length (filter q rows)) (sym (key_passes name row)) ∙ sym (length_permutation _ _ (IsPermutation-filter p _ _ was.1))
      ∙ ap length (filter_of_map p (shown_in desk name) entries) ∙ length-map (filter (λ e. p (shown_in desk name e)) entries) (shown_in desk name)
      ∙ ap length (sym (pass_alike desk name no_rowid (key_terms name) row (within name) entries)) ∙ ap length none)

pub inserts_free : (name : TableName) → is_written name ≡ true → (sql : List ℕ) → sql ≡ insertion_text name → (row : Row) → FitsTable name row → (old new : State) (r : Result ℕ Error) → RunsInside sql row old new r
    → IfOk r (λ _. Counts name (table_for name).primary row old 0)
inserts_free name written sql text row fit old new r ran = free r (subst (λ t. RunsInside t row old new r) text ran)
  where
    free : (q : Result ℕ Error) → RunsInside (insertion_text name) row old new q → IfOk q (λ _. Counts name (table_for name).primary row old 0)
    free (Err e) runs = tt
    free (Ok count) runs = elim (cases_Bool old.in_transaction) [
      | inl inside ↦ λ desk is lists h. key_was_free desk is name (written_no_rowid_column name written (desk.keys name)) old new h.schema_is row (added_one name written desk is old new h.schema_is row fit count (runs.1 inside).0) lists h
      | inr outside ↦ absurd (let e = runs.0 outside in cc)
    ]

-- ---- a row that is refused

-- no failure of the store is a rule that is broken
no_fault : (cause : StoreError) (rule : Constraint) → SqliteFailure (ConstraintViolation rule) ≢ store_error cause
no_fault OutOfMemory rule is = cc
no_fault Io rule is = cc
no_fault Corrupt rule is = cc
no_fault Full rule is = cc
no_fault Broken rule is = cc
no_fault Unstorable rule is = cc

never_failed : (old new : State) (big : Type 0) (e : Error) → IsBrokenRule e → Fails old new big e → ⊥
never_failed old new big e broken failed = no_fault failed.0 broken.0 (sym broken.1 ∙ failed.1)

refused_alone : (sql : List ℕ) (row : Row) (old new : State) (e : Error) → IsBrokenRule e → ExecutesIn false sql row old new (Err e) → IsUnchanged old new
unfolding ExecutesIn IsNotRun
refused_alone sql row old new e broken (inl (inl none)) = none.1
refused_alone sql row old new e broken (inl (inr failed)) = absurd (never_failed old new ⊥ e broken failed)
refused_alone sql row old new e broken (inr ran) = elim (cases_Bool (shows_rows false ran.0)) [
  | inl shows ↦ (rw shows at ran.2).1
  | inr runs ↦ elim (rw runs at ran.2) [ inl refused ↦ refused.1 | inr failed ↦ absurd (never_failed old new _ e broken failed) ]
]

pub refuses_row : (sql : List ℕ) (row : Row) (old new : State) (r : Result ℕ Error) → RunsInside sql row old new r → IfErr r (λ e. IsBrokenRule e → IsUnchanged old new)
refuses_row sql row old new (Ok count) ran = tt
refuses_row sql row old new (Err e) ran = λ broken. elim (cases_Bool old.in_transaction) [
  | inl inside ↦ elim (ran.1 inside) [ inl it ↦ refused_alone sql row old new e broken it.0 | inr scope ↦ scope.2 ]
  | inr outside ↦ absurd (let none = ran.0 outside in let is = broken.1 in cc)
]

-- ---- a row in the place of that of its key

all_stay : (p q : Row → Bool) → ((x : Row) → q x ≡ p x) → (rows : List Row) → 0 ≡ length (filter p rows) → filter (λ x. not (q x)) rows ≡ rows
all_stay p q alike [] none = refl
all_stay p q alike (x ∷ rows) none = elim (cases_Bool (p x)) [
  | inl same ↦ absurd (let some = rw same at none in cc)
  | inr other ↦ rw (alike x, other) (ap (λ more. x ∷ more) (all_stay p q alike rows (rw other at none)))
]

-- none had its key, and it is added
put_free : (name : TableName) (columns : List ℕ) (key row : Row) (a b : State) → TellsAlike columns key row → Counts name columns row a 0 → Makes (with_row name row) a b → Makes (with_put_by name columns key row) a b
put_free name columns key row a b alike none added =
    remade (with_row name row) (with_put_by name columns key row) a b added (λ desk is lists h.
    ap (with_row name row) (sym (on_table-agree (place_of name) _ (λ rows. rows) lists (all_stay (has_columns columns row) (has_columns columns key) alike _ (none desk is lists h)) ∙ on_table-same (place_of name) lists)))

-- it was refused, and then something else was made
after_refusal : (change : List (List Row) → List (List Row)) (a b c : State) → IsUnchanged a b → Makes change b c → Makes change a c
after_refusal change a b c same made =
    let now : a.now ≡ b.now = sym same.0.now_is in
    record {
      made = λ desk is lists h. made.made desk is lists (subst (λ (d : Database). Holds desk d lists) now h);
      others = λ desk is has. subst (λ (d : Database). KeepsOthers desk d c.now) (sym now) (made.others desk is (subst (λ (d : Database). d.schema ≡ desk.schema) now has));
      listed = λ desk is has whole. made.listed desk is (subst (λ (d : Database). d.schema ≡ desk.schema) now has) (subst (λ (d : Database). IsDatabase d) now whole);
      kept = made.kept ∙ same.0.committed_is;
      mode = made.mode;
    }

-- the same of what an INSERT says
pub put_if_free : (name : TableName) (columns : List ℕ) → columns ≡ (table_for name).primary → (key row : Row) → TellsAlike columns key row → (a b : State) (r : Result ℕ Error)
    → IfOk r (λ _. Counts name (table_for name).primary row a 0) → OnOk r (Makes (with_row name row) a b) → OnOk r (Makes (with_put_by name columns key row) a b)
put_if_free name columns is key row alike a b (Ok count) none added = put_free name columns key row a b alike (subst (λ (cs : List ℕ). Counts name cs row a 0) (sym is) none) added
put_if_free name columns is key row alike a b (Err e) none added = tt

pub put_if_refused : (change : List (List Row) → List (List Row)) (a b c : State) → IsUnchanged a b → (r : Result ℕ Error) → OnOk r (Makes change b c) → OnOk r (Makes change a c)
put_if_refused change a b c same (Ok count) made = after_refusal change a b c same made
put_if_refused change a b c same (Err e) made = tt
