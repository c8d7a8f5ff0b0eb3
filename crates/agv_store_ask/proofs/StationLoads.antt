-- The loads at a station as a table of their own, which their rows give.
use Rattle.std.proofs.Common.{Ok, Err, Result, ◌≡◌, ◌&&◌, ℕ, Bool, true, false, cond, T, List, [], ◌∷◌, filter, Some, Ordering, IsPermutation, refl, sym, ap, subst, ◌∙◌}
use Rattle.std.proofs.lemmas.Option.{same_Some}
use Rattle.std.specs.Cmp.{Equal-is, IsTotalOrder}
use Rattle.std.specs.Cmp.Lexicographic.{nat_list_cmp_total}
use Rattle.std.specs.FinMap as finite
use Rattle.std.specs.FinMap.Entries.{below_all}
use Rattle.std.specs.List.{AllByRecursion}
use Rattle.std.specs.Map.{keys_of}
use Rattle.std.specs.Ordering.{eq_by_cmp}
use Rattle.std.specs.Result.{IsErrAnd}
use Rattle.sqlite_value.specs.Order.{Row}
use Rattle.agv_header.specs.Name.{name_cmp}
use Rattle.agv_stock.specs.Rooms.{is_at}
use Rattle.agv_stock.specs.declared.place.Place.{Place}
use Rattle.agv_world_core.specs.Lawful.{IsLawful}
use Rattle.agv_world_core.specs.Questions.{loads_at}
use Rattle.agv_world_core.specs.Worlds.{World}
use Rattle.agv_store_ask.specs.QueriedRows.{loads_shown}
use Rattle.agv_store_rows.specs.Columns.{load_columns, load_in}
use Rattle.agv_store_read.specs.ReadTables.{Reads, read_rows}
use Rattle.agv_store_rows.specs.RowKeys.{name_key}
use Rattle.agv_store_sql.specs.RowQueries.{rows_asked}
use Rattle.agv_store_schema.specs.SchemaNumbers.{desk_seats}
use Rattle.agv_store_read.specs.declared.open_fault.OpenFault.{OpenFault}
use Rattle.agv_store_schema.specs.declared.rows_by.RowsBy.TheVariants as by
use Rattle.agv_store_read.proofs.Asking.{Follows}
use Rattle.agv_store_rows.proofs.ColumnsKept.{load_kept}
use Rattle.agv_store_rows.proofs.LawfulValues.{place_value}
use Rattle.agv_store_rows.proofs.KeyTests.{names_apart}
use Rattle.agv_store_rows.specs.Rows.{rows_of}
use Rattle.agv_store_ask.proofs.LoadAnswers.{shows_loads_at}
use Rattle.agv_store_schema.proofs.MapEntries.{left, right}
use Rattle.agv_store_schema.proofs.SpreadRows.{entries_found}
use Rattle.agv_store_read.proofs.TableReading.{reads_all, reads_fails}

both : (a b : Bool) → T a → T b → T (a && b)
both true b p q = q
both false b p q = absurd p

module _ {K X : Type 0} (R : K → K → Ordering) (p : K × X → Bool) where
  below-filter : (k : K) (es : List (K × X)) → T (below_all R k es) → T (below_all R k (filter p es))
  below-filter k [] h = tt
  below-filter k (e ∷ es) h = elim (p e) as (λ b. T (below_all R k (cond b (e ∷ filter p es) (filter p es)))) [
    | true ↦ both _ _ (left _ _ h) (below-filter k es (right _ _ h))
    | false ↦ below-filter k es (right _ _ h)
  ]

  -- entries in order are so where some are left out
  pub is_sorted-filter : (es : List (K × X)) → T (finite.is_sorted R es) → T (finite.is_sorted R (filter p es))
  is_sorted-filter [] h = tt
  is_sorted-filter (e ∷ es) h = elim (p e) as (λ b. T (finite.is_sorted R (cond b (e ∷ filter p es) (filter p es)))) [
    | true ↦ both _ _ (below-filter e.0 es (left _ _ h)) (is_sorted-filter es (right _ _ h))
    | false ↦ is_sorted-filter es (right _ _ h)
  ]

-- the entries of a map that pass a test, as a map
abbrev pub passing : {K X : Type 0} {R : K → K → Ordering} → (K × X → Bool) → finite.FinMap R X → finite.FinMap R X
passing p m = finite.from_sorted (filter p (finite.entries m))

pub entries-passing : {K X : Type 0} {R : K → K → Ordering} (p : K × X → Bool) (m : finite.FinMap R X) → finite.entries (passing p m) ≡ filter p (finite.entries m)
entries-passing {K} {X} {R} p m = finite.entries-from_sorted R (filter p (finite.entries m)) (is_sorted-filter R p (finite.entries m) (finite.entries_sorted m))

pub all-filter : {A : Type 0} (P : A → Type 0) (p : A → Bool) (xs : List A) → AllByRecursion P xs → AllByRecursion P (filter p xs)
all-filter P p [] h = tt
all-filter {A} P p (x ∷ xs) h = elim (p x) as (λ b. AllByRecursion P (cond b (x ∷ filter p xs) (filter p xs))) [ true ↦ (h.0, all-filter P p xs h.1) | false ↦ all-filter P p xs h.1 ]

found_from : {K X : Type 0} (R : K → K → Ordering) (P : K × X → Type 0) (k : K) (x : X) (es : List (K × X)) → AllByRecursion P es → finite.find R k es ≡ Some x → (q : K) × (eq_by_cmp R k q ≡ true) × P (q, x)
found_from R P k x [] h is = absurd (cc is)
found_from {K} {X} R P k x (e ∷ es) h is =
    elim (eq_by_cmp R k e.0) as (λ b. eq_by_cmp R k e.0 ≡ b → cond b (Some e.1) (finite.find R k es) ≡ Some x → (q : K) × (eq_by_cmp R k q ≡ true) × P (q, x)) [
      | true ↦ λ tied same. let it : e.1 ≡ x = cc same in (e.0, tied, subst (λ y. P (e.0, y)) it h.0)
      | false ↦ λ _ more. found_from R P k x es h.1 more
    ] refl is

-- what the passing entries have at a key is what the map has
pub get-passing : {K X : Type 0} {R : K → K → Ordering} → IsTotalOrder R → finite.IsAntisymmetric R → (p : K × X → Bool) (m : finite.FinMap R X) (k : K) (x : X) → finite.get (passing p m) k ≡ Some x → finite.get m k ≡ Some x
get-passing {K} {X} {R} total apart p m k x at =
    let found = sym (finite.get-entries (passing p m) k ∙ ap (finite.find R k) (entries-passing p m)) ∙ at in
    let from = found_from R (λ (e : K × X). finite.get m e.0 ≡ Some e.1) k x (filter p (finite.entries m)) (all-filter (λ (e : K × X). finite.get m e.0 ≡ Some e.1) p (finite.entries m) (entries_found total m)) found in
    ap (finite.get m) (apart k from.0 ((Equal-is (R k from.0)).0 from.1)) ∙ from.2

module _ (world : World) (lawful : IsLawful desk_seats world) (station : List ℕ) where
  abbrev pub is_there : List ℕ × Place → Bool
  is_there load = is_at station load.1

  abbrev pub loads_there : finite.FinMap name_cmp Place
  loads_there = passing is_there world.places

  place_of : (id : List ℕ) (where_is : Place) → finite.get loads_there id ≡ Some where_is → finite.get world.places id ≡ Some where_is
  place_of id where_is at = get-passing nat_list_cmp_total names_apart is_there world.places id where_is at

  -- the rows of the loads at a station give the table of them
  pub reads_there : (rows : List Row) → IsPermutation (loads_shown (filter is_there (finite.entries world.places))) rows → read_rows load_in finite.empty rows ≡ Some loads_there
  reads_there rows shown =
      reads_all nat_list_cmp_total names_apart loads_there load_columns load_in (λ id where_is at. load_kept id where_is (lawful.names.loads_named id where_is (place_of id where_is at)) (place_value world lawful id where_is (place_of id where_is at))) rows
      (subst (λ es. IsPermutation (loads_shown es) rows) (sym (entries-passing is_there world.places)) shown)

  pub names_there : keys_of (finite.entries loads_there) ≡ loads_at world station
  unfolding loads_at
  names_there = ap keys_of (entries-passing is_there world.places)

  module _ (values : Row) (is : values ≡ name_key station) (rows : List Row) (shown : IsPermutation (rows_asked by.StationLoads values (rows_of world)) rows) where
    given : read_rows load_in finite.empty rows ≡ Some loads_there
    given = reads_there rows (shows_loads_at world lawful station values is rows shown)

    -- the reading of these rows fails for want of memory alone
    pub fails_there : {B : Type 0} (f : OpenFault) → Reads {A = finite.FinMap name_cmp Place} (Err f) (read_rows load_in finite.empty rows) → (r : Result B OpenFault) → IsErrAnd r (λ why. why ≡ f) → (says : B → Type 0) → Follows r says
    fails_there f read r fails says = reads_fails loads_there f (read_rows load_in finite.empty rows) read given r fails says

    -- and the names of the table are those of the loads
    pub names_told : (table : finite.FinMap name_cmp Place) → Reads {A = finite.FinMap name_cmp Place} (Ok table) (read_rows load_in finite.empty rows) → keys_of (finite.entries table) ≡ loads_at world station
    names_told table read = ap (λ (t : finite.FinMap name_cmp Place). keys_of (finite.entries t)) (same_Some table loads_there (sym read ∙ given)) ∙ names_there
