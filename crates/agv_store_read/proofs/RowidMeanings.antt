-- What the texts that show rowids mean, wherever the desk's tables stand.
use Rattle.std.proofs.Common.{◌≡◌, ◌^◌, ℕ, Bool, true, false, nat_le, nat_lt, List, [], ◌∷◌, codes, Option, None, Some, refl, sym, subst, lit≤, rules}
use Rattle.sqlite_ast.specs.declared.Core.{out-Core}
use Rattle.sqlite_ast.specs.declared.Expr.{Expr}
use Rattle.sqlite_ast.specs.declared.Expr.TheOpen.{Shown-F}
use Rattle.sqlite_ast.specs.declared.Select.{out-Select}
use Rattle.sqlite_ast.specs.declared.Shown.{Shown, out-Shown}
use Rattle.sqlite_ast.specs.Layer.{ShownLayer}
use Rattle.sqlite_schema.specs.declared.command.Command.TheVariants.{Select}
use Rattle.sqlite_schema.specs.declared.schema.Schema.{Schema}
use Rattle.sqlite_sql.specs.Term.{Term, col}
use Rattle.sqlite_tied.specs.Compute.{everything}
use Rattle.agv_store_read.specs.Rowids.{rowids_text}
use Rattle.agv_store_schema.specs.DeskRows.{RowidColumn, TableKeys, rowid_column_of, table_for, table_written}
use Rattle.agv_store_schema.specs.declared.table_name.TableName.{TableName}
use Rattle.agv_store_schema.specs.declared.table_name.TableName.TheVariants as the
use Rattle.agv_store_schema.proofs.OneTable.{IsIn, IsPlainFrom, Means, parsed, query_by, selection, head_of, sole}
use Rattle.agv_store_sql.proofs.sql.OneTableReads.{ShowsRowid, rowids_named, select_means}
use Rattle.agv_store_sql.proofs.sql.ReadFailing.{IsTypedTo, IsWholeText}
use Rattle.agv_store_sql.proofs.sql.Selecting.{IsSelectText}

abbrev IsFilled : List Shown → Type 0
IsFilled [] = ⊥
IsFilled (x ∷ xs) = Unit {0}

abbrev first_of_all : (xs : List Shown) → IsFilled xs → Shown
first_of_all [] is = absurd is
first_of_all (x ∷ xs) is = x

abbrev IsOne : ShownLayer → Type 0
IsOne (Shown-F.One e alias text) = Unit {0}
IsOne _ = ⊥

abbrev expr_in : (x : ShownLayer) → IsOne x → Expr
expr_in (Shown-F.One e alias text) is = e
expr_in _ is = absurd is

abbrev pub rowid_terms : List Term
rowid_terms = col 1 0 ∷ []

-- under what name: that of the column that it is, if it is one
abbrev pub rowid_heads : Option RowidColumn → List (List ℕ)
rowid_heads None = codes "rowid" ∷ []
rowid_heads (Some first) = codes "id" ∷ []

abbrev pub rowid_names : TableName → TableKeys → List (List ℕ)
rowid_names name keys = rowid_heads (rowid_column_of name keys)

is_low : (tree : ℕ) → nat_le (2 ^ 31) tree ≡ false → nat_lt tree (2 ^ 31) ≡ true
is_low tree low = search (rules, low)

-- SQL takes the text for a query of the table that shows the rowid of each row
abbrev pub AsksRowids : TableName → TableKeys → Type 0
AsksRowids name keys = (s : Schema) (at tree : ℕ) → IsIn s (table_for name).name (table_written name tree keys) at
    → Means s (rowids_text name) (Select (record { lets = []; body = query_by tree [] rowid_terms }) (rowid_names name keys))

-- of `meta`, whether its first column is the rowid or not
meta_rowids : (primary : List ℕ) (indexed : List (List ℕ)) (rowid : Option RowidColumn) → AsksRowids the.Meta (record { primary = primary; indexed = indexed; rowid_column = rowid })
unfolding everything
meta_rowids primary indexed None s at tree stands =
    let table = table_written the.Meta tree (record { primary = primary; indexed = indexed; rowid_column = None }) in
    let p = parsed (rowids_text the.Meta) in
    let sel = selection p.statement tt in
    let core = (out-Select sel).first in
    let shown = (out-Core core).shown in
    let low = is_low tree stands.low in
    let plain : IsPlainFrom core (codes "meta") = record { source = head_of (out-Core core).from tt; from = refl; origin = refl; alias = refl; on = refl; using = refl; inner = refl; group = refl; having = refl; repeats = refl } in
    let shows : ShowsRowid table shown (expr_in (out-Shown (first_of_all shown tt)) tt) = record { one = first_of_all shown tt; text = _; word = _; all_is = refl; one_is = refl; expr_is = refl; names = record { unnamed = refl; rowid = refl; low = low } } in
    select_means s (codes "meta") table at stands (rowids_text the.Meta) p refl refl sel refl
    (record { with = refl; others = refl; order = refl; limit = refl; offset = refl }) plain [] rowid_terms (rowid_heads None) (None ∷ []) (rw low refl) refl refl
    (rowids_named table (codes "meta") core plain _ shows refl (sole table) 0 refl refl) refl
meta_rowids primary indexed (Some first) s at tree stands =
    let table = table_written the.Meta tree (record { primary = primary; indexed = indexed; rowid_column = Some first }) in
    let p = parsed (rowids_text the.Meta) in
    let sel = selection p.statement tt in
    let core = (out-Select sel).first in
    let shown = (out-Core core).shown in
    let low = is_low tree stands.low in
    let plain : IsPlainFrom core (codes "meta") = record { source = head_of (out-Core core).from tt; from = refl; origin = refl; alias = refl; on = refl; using = refl; inner = refl; group = refl; having = refl; repeats = refl } in
    let shows : ShowsRowid table shown (expr_in (out-Shown (first_of_all shown tt)) tt) = record { one = first_of_all shown tt; text = _; word = _; all_is = refl; one_is = refl; expr_is = refl; names = record { unnamed = refl; rowid = refl; low = low } } in
    select_means s (codes "meta") table at stands (rowids_text the.Meta) p refl refl sel refl
    (record { with = refl; others = refl; order = refl; limit = refl; offset = refl }) plain [] rowid_terms (rowid_heads (Some first)) (None ∷ []) (rw low refl) refl refl
    (rowids_named table (codes "meta") core plain _ shows refl (sole table) 0 refl refl) refl

pub rowids_asked : (name : TableName) (keys : TableKeys) → AsksRowids name keys
unfolding everything
rowids_asked the.Meta keys s at tree stands = meta_rowids keys.primary keys.indexed keys.rowid_column s at tree stands
rowids_asked name keys s at tree stands =
    let p = parsed (rowids_text name) in
    let sel = selection p.statement tt in
    let core = (out-Select sel).first in
    let all = (out-Core core).shown in
    let low = is_low tree stands.low in
    let plain : IsPlainFrom core (table_for name).name = record { source = head_of (out-Core core).from tt; from = refl; origin = refl; alias = refl; on = refl; using = refl; inner = refl; group = refl; having = refl; repeats = refl } in
    let shows : ShowsRowid (table_written name tree keys) all (expr_in (out-Shown (first_of_all all tt)) tt) = record { one = first_of_all all tt; text = _; word = _; all_is = refl; one_is = refl; expr_is = refl; names = record { unnamed = refl; rowid = refl; low = low } } in
    select_means s (table_for name).name (table_written name tree keys) at stands (rowids_text name) p refl refl sel refl
    (record { with = refl; others = refl; order = refl; limit = refl; offset = refl }) plain [] rowid_terms (rowid_heads None) (None ∷ []) (rw low refl) refl refl
    (rowids_named (table_written name tree keys) (table_for name).name core plain _ shows refl (sole (table_written name tree keys)) 0 refl refl) refl

pub rowids_typed : (name : TableName) → IsTypedTo name [] rowid_terms []
rowids_typed the.Meta = refl
rowids_typed _ = refl

pub rowids_whole : (name : TableName) → IsWholeText (rowids_text name) 0
unfolding everything
rowids_whole the.Meta = (lit≤ tt, refl)
rowids_whole _ = (lit≤ tt, refl)

select_texts : (name : TableName) → IsSelectText (rowids_text name)
unfolding everything
select_texts the.Meta = tt
select_texts _ = tt

pub rowids_select : (name : TableName) (sql : List ℕ) → sql ≡ rowids_text name → IsSelectText sql
rowids_select name sql text = subst IsSelectText (sym text) (select_texts name)
