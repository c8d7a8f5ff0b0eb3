-- What is said of the table that was read is said of what is held.
use Rattle.std.proofs.Common.{◌≡◌, ◌++◌, ◌∙◌, ◌+◌, ◌<◌, ℕ, append-nil, drop, get_or, length, List, [], ◌∷◌, Option, None, Some, Ok, Err, Result, IfOk, IsPermutation, ap, sym, subst}
use Rattle.std.proofs.lemmas.List.{at_drop_more}
use Rattle.std.proofs.lemmas.List.Sorted.{IsPermutation-cons, IsPermutation-middle, IsPermutation-refl, IsPermutation-sym, IsPermutation-trans}
use Rattle.std.specs.FinMap as map
use Rattle.agv_header.specs.Key.{thing_cmp}
use Rattle.agv_header.specs.ThingOrder.{thing_cmp-IsAntisymmetric, thing_cmp-total}
use Rattle.agv_header.specs.declared.key.Thing.{Thing}
use Rattle.agv_header.specs.declared.key.VehicleKey.{VehicleKey}
use Rattle.agv_track_holds.specs.Holds.{Holds}
use Rattle.sqlite_value.specs.Order.{Row}
use Rattle.agv_store_rows.specs.ValueEncodings.{if_some}
use Rattle.agv_store_rows.specs.Columns.{hold_in}
use Rattle.agv_store_read.specs.TableChecks.{table_read}
use Rattle.agv_store_read.specs.ReadTables.{if_free, read_rows}
use Rattle.agv_store_read.specs.declared.held_things.HeldThings.{HeldThings}
use Rattle.agv_store_read.specs.declared.open_fault.OpenFault.{OpenFault}
use Rattle.agv_store_read.specs.declared.open_fault.OpenFault.TheVariants as fault
use Rattle.agv_store_read.proofs.Asking.{Follows}
use Rattle.agv_store_read.proofs.AskingAll.{IsNoStorage}
use Rattle.agv_store_read.proofs.TableReading.{added, no_entries}

pub table_follows : (r : Result HeldThings OpenFault) (says : Holds → Type 0) → Follows (table_read r) says → Follows r (λ held. says held.table)
table_follows (Ok held) says h = h
table_follows (Err fault.Memory) says h = h
table_follows (Err fault.Storage) says h = h
table_follows (Err fault.Damaged) says h = h

pub table_if_ok : (r : Result HeldThings OpenFault) (says : Holds → Type 0) → IfOk (table_read r) says → IfOk r (λ held. says held.table)
table_if_ok (Ok held) says h = h
table_if_ok (Err why) says h = h

pub table_no_storage : (r : Result HeldThings OpenFault) → IsNoStorage (table_read r) → IsNoStorage r
table_no_storage (Ok held) h = h
table_no_storage (Err why) h = h

-- ---- the list of what is held

pub none_listed : (table : Holds) → table ≡ map.empty → (pairs : List (Thing × VehicleKey)) → pairs ≡ [] → IsPermutation (map.entries table) pairs
none_listed table is pairs none =
    subst (λ (t : Holds). IsPermutation (map.entries t) pairs) (sym is)
    (subst (λ (es : List (Thing × VehicleKey)). IsPermutation es pairs) (sym (no_entries {X = VehicleKey} thing_cmp)) (subst (λ (es : List (Thing × VehicleKey)). IsPermutation [] es) (sym none) (IsPermutation-refl [])))

-- the row of what nobody held is read
pub reads_on : (table : Holds) (rows : List Row) (i : ℕ) (row : Row) (thing : Thing) (key : VehicleKey) → i < length rows → row ≡ get_or rows i row → hold_in row ≡ Some (thing, key) → map.get table thing ≡ None
    → (new : Holds) → new ≡ map.insert table thing key → read_rows hold_in table (drop i rows) ≡ read_rows hold_in new (drop (i + 1) rows)
reads_on table rows i row thing key low is told free new noted =
    at_drop_more (read_rows hold_in table) rows i row low
    ∙ ap (λ (r : Row). read_rows hold_in table (r ∷ drop (i + 1) rows)) (sym is)
    ∙ ap (λ (o : Option (Thing × VehicleKey)). if_some o (λ entry. if_free (map.get table entry.0) (read_rows hold_in (map.insert table entry.0 entry.1) (drop (i + 1) rows)))) told
    ∙ ap (λ (o : Option VehicleKey). if_free o (read_rows hold_in (map.insert table thing key) (drop (i + 1) rows))) free
    ∙ ap (λ (t : Holds). read_rows hold_in t (drop (i + 1) rows)) (sym noted)

-- what nobody held is one entry more
pub one_more_listed : (table : Holds) (pairs : List (Thing × VehicleKey)) (thing : Thing) (key : VehicleKey) → map.get table thing ≡ None → IsPermutation (map.entries table) pairs
    → (new : Holds) → new ≡ map.insert table thing key → (more : List (Thing × VehicleKey)) → more ≡ pairs ++ (thing, key) ∷ [] → IsPermutation (map.entries new) more
one_more_listed table pairs thing key free listed new is more now =
    let entry : Thing × VehicleKey = (thing, key) in
    let first : IsPermutation (entry ∷ map.entries table) (entry ∷ pairs) = IsPermutation-cons entry (map.entries table) pairs listed in
    let last : IsPermutation (pairs ++ entry ∷ []) (entry ∷ pairs) = subst (λ (es : List (Thing × VehicleKey)). IsPermutation (pairs ++ entry ∷ []) (entry ∷ es)) (append-nil pairs) (IsPermutation-middle pairs entry []) in
    subst (λ (t : Holds). IsPermutation (map.entries t) more) (sym is)
    (subst (λ (es : List (Thing × VehicleKey)). IsPermutation (map.entries (map.insert table thing key)) es) (sym now)
    (IsPermutation-trans _ _ _ (IsPermutation-sym _ _ (added thing_cmp-total thing_cmp-IsAntisymmetric table thing key free)) (IsPermutation-trans _ _ _ first (IsPermutation-sym _ _ last))))
