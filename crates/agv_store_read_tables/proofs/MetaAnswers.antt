-- What the rows of `meta` tell, in a lawful world and in any.
use Rattle.std.proofs.Common.{◌≡◌, ℕ, true, false, cond, List, [], ◌∷◌, map, Option, None, Some, Ok, Err, Result, IfOk, IsPermutation, refl, sym, ap, subst, ◌∙◌, arith}
use Rattle.std.proofs.lemmas.Bool.{and_parts}
use Rattle.std.specs.Cmp.{nat_cmp_total, unsigned_Decides}
use Rattle.std.specs.FinMap as finite
use Rattle.std.specs.FinMap.{nat_cmp-IsAntisymmetric}
use Rattle.std.specs.Ordering.{nat_cmp}
use Rattle.sqlite.proofs.Callers.{one_permutation}
use Rattle.sqlite_value.specs.Order.{Row}
use Rattle.agv_world_core.specs.Worlds.{World}
use Rattle.agv_store_rows.specs.Columns.{meta_columns, meta_in}
use Rattle.agv_store_read.specs.TableChecks.{is_desk_meta, meta_read}
use Rattle.agv_store_rows.specs.Rows.{row_lists, rows_in, rows_of}
use Rattle.agv_store_schema.specs.SchemaNumbers.{schema_number}
use Rattle.agv_store_sql.specs.RowQueries.{all_rows_of}
use Rattle.agv_store_read.specs.TablesRead.{desk_meta}
use Rattle.agv_store_read.specs.declared.open_fault.OpenFault.{OpenFault}
use Rattle.agv_store_read.specs.declared.open_fault.OpenFault.TheVariants as fault
use Rattle.agv_store_schema.specs.declared.table_name.TableName.TheVariants as the
use Rattle.agv_store_read.proofs.Asking.{Follows}
use Rattle.agv_store_read.proofs.AskingAll.{IsNoStorage}
use Rattle.agv_store_rows.proofs.ColumnsKept.{meta_kept}
use Rattle.agv_store_rows.proofs.ColumnsWritten.{meta_written}
use Rattle.agv_store_read.proofs.TableReading.{added, no_entries}

-- the one row
one_entry : finite.entries desk_meta ≡ (1, schema_number) ∷ []
one_entry =
    one_permutation (1, schema_number) (finite.entries desk_meta)
    (subst (λ l. IsPermutation ((1, schema_number) ∷ l) (finite.entries desk_meta)) (no_entries {X = ℕ} nat_cmp) (added nat_cmp_total nat_cmp-IsAntisymmetric (finite.empty {X = ℕ} {R = nat_cmp}) 1 schema_number (finite.get-empty {X = ℕ} nat_cmp 1)))

one_row : rows_in meta_columns desk_meta ≡ meta_columns 1 schema_number ∷ []
one_row = ap (map (λ (e : ℕ × ℕ). meta_columns e.0 e.1)) one_entry

is_read : meta_read (meta_columns 1 schema_number ∷ []) ≡ Ok tt
is_read = ap (λ (o : Option (ℕ × ℕ)). cond (is_desk_meta o) (Ok tt) (Err fault.Damaged)) (meta_kept 1 schema_number (omega arith) (omega arith))

pub tells_meta : (world : World) (rows : List Row) → IsPermutation (all_rows_of the.Meta (rows_of world)) rows → (r : Result (Unit {0}) OpenFault) → r ≡ meta_read rows → Follows r (λ nothing. Unit {0})
unfolding row_lists
tells_meta world rows shown r read =
    let alone = one_permutation (meta_columns 1 schema_number) rows (subst (λ l. IsPermutation l rows) one_row shown) in
    subst (λ q. Follows q (λ nothing. Unit {0})) (sym (read ∙ ap meta_read alone ∙ is_read)) tt

-- no row of it is a fault of the store
read_no_storage : (rows : List Row) → IsNoStorage (meta_read rows)
read_no_storage [] = λ is. cc is
read_no_storage (row ∷ []) =
    elim (is_desk_meta (meta_in row)) as (λ b. IsNoStorage {A = Unit {0}} (cond b (Ok tt) (Err fault.Damaged))) [
      | true ↦ tt
      | false ↦ λ is. cc is
    ]
read_no_storage (row ∷ (other ∷ rows)) = λ is. cc is

pub meta_no_storage : (rows : List Row) (r : Result (Unit {0}) OpenFault) → r ≡ meta_read rows → IsNoStorage r
meta_no_storage rows r read = subst (λ (q : Result (Unit {0}) OpenFault). IsNoStorage q) (sym read) (read_no_storage rows)

first_is : (row : Row) (o : Option (ℕ × ℕ)) → meta_in row ≡ o → is_desk_meta o ≡ true → row ≡ meta_columns 1 schema_number
first_is row None from is = absurd (cc is)
first_is row (Some told) from is =
    let both = and_parts _ _ is in
    let id : told.0 ≡ 1 = (unsigned_Decides told.0 1).0 both.0 in
    let schema : told.1 ≡ schema_number = (unsigned_Decides told.1 schema_number).0 both.1 in
    meta_written row told.0 told.1 from ∙ (λ i. meta_columns (id i) (schema i))

pub shows_meta : (asked rows : List Row) (r : Result (Unit {0}) OpenFault) → r ≡ meta_read rows → IsPermutation asked rows → IfOk r (λ nothing. IsPermutation asked (rows_in meta_columns desk_meta))
shows_meta asked rows (Err f) read shown = tt
shows_meta asked [] (Ok nothing) read shown = absurd (cc read)
shows_meta asked (row ∷ []) (Ok nothing) read shown =
    elim (is_desk_meta (meta_in row)) as (λ b. is_desk_meta (meta_in row) ≡ b → Ok nothing ≡ cond b (Ok tt) (Err fault.Damaged) → IsPermutation asked (rows_in meta_columns desk_meta)) [
      | true ↦ λ is _. subst (IsPermutation asked) (ap (λ (y : Row). y ∷ []) (first_is row (meta_in row) refl is) ∙ sym one_row) shown
      | false ↦ λ _ wrong. absurd (cc wrong)
    ] refl read
shows_meta asked (row ∷ (other ∷ rows)) (Ok nothing) read shown = absurd (cc read)
