-- The trips that rows tell, journey by journey: they have just these rows, and trips that have these rows are told.
use Rattle.std.proofs.Common.{◌≡◌, ℕ, ◌+◌, ◌↔◌, nat_eq, arith, Bool, true, false, cond, List, [], ◌∷◌, ◌++◌, length, take, drop, Option, None, Some, Less, is_eq, add-one, refl, sym, ap, ap₂, subst, ◌∙◌}
use Rattle.std.proofs.Math.Seq.{take-append_seam, drop-append_seam}
use Rattle.std.proofs.lemmas.Bool.{eqb-true}
use Rattle.std.proofs.lemmas.List.{take-append-drop}
use Rattle.std.proofs.lemmas.List.Sums.{take_while-cons}
use Rattle.std.specs.Cmp.{tied_itself}
use Rattle.std.specs.FinMap as finite
use Rattle.std.specs.FinMap.{find}
use Rattle.std.specs.List.{AllByRecursion, prefix_len, take_while}
use Rattle.std.specs.Option.{option_and_then, option_or}
use Rattle.std.specs.Ordering.{eq_by_cmp}
use Rattle.agv_header.specs.Name.{name_cmp}
use Rattle.agv_order.specs.declared.act.Act.{Act}
use Rattle.agv_world_core.specs.declared.row.JobRow.{JobRow}
use Rattle.agv_world_core.specs.declared.row.TripRow.{TripRow}
use Rattle.agv_world_core.proofs.lists.EachEntry.{entry-has}
use Rattle.agv_world_core.proofs.lists.Entries.{entries_found, is_same, same_Some}
use Rattle.agv_world_core.proofs.lists.InOrder.{entries-shown}
use Rattle.agv_world_core.proofs.lists.Orders.{names_total, names_apart}
use Rattle.agv_store_rows.specs.ActKeys.{act_cmp}
use Rattle.agv_store_rows.specs.TripRows.{act_rows, act_rows_from, is_of, journey_of}
use Rattle.agv_store_rows.specs.TripsTold.{AreTripsOf, IsOfJob, acts_told, trip_told}
use Rattle.agv_store_rows.specs.declared.act_row.ActRow.{ActRow}
use Rattle.agv_store_rows.specs.declared.journey_row.JourneyRow.{JourneyRow}
use Rattle.agv_store_rows.proofs.RowsTellActs.{Row, rows_tell_acts, acts_give_rows}
use Rattle.agv_store_rows.proofs.Elements.{all_weaker, all-flat_map}
use Rattle.agv_store_rows.proofs.TripRowKeys.{AreAfter, DoRise, acts_in, acts_tested, journeys_in, not_after, rise_as_journeys, rise_from_sorted, sorted_from_rise}
use Rattle.agv_store_rows.proofs.TripTables.{entries-acts, entries-journeys}

abbrev pub Journey : Type 0
Journey = List ℕ × JourneyRow

abbrev pub Entry : Type 0
Entry = List ℕ × TripRow

abbrev pub Trips : Type 0
Trips = finite.FinMap name_cmp TripRow

-- ---- the first rows that are of an order

module _ (p : Row → Bool) where
  one_plus : (n m : ℕ) → n ≡ m → 1 + n ≡ m + 1
  one_plus n m e = omega (arith, e)

  first_pass : (rows : List Row) → AllByRecursion (λ row. p row ≡ true) (take_while p rows)
  first_pass [] = tt
  first_pass (row ∷ rows) =
      subst (AllByRecursion (λ r. p r ≡ true)) (sym (take_while-cons p row rows))
      (elim (p row) as (λ b. p row ≡ b → AllByRecursion (λ r. p r ≡ true) (cond b (row ∷ take_while p rows) [])) [
        | true ↦ λ is. (is, first_pass rows)
        | false ↦ λ is. tt
      ] refl)

  none_first : (ys : List Row) → AllByRecursion (λ row. p row ≡ false) ys → prefix_len p ys ≡ 0
  none_first [] h = refl
  none_first (y ∷ ys) h = ap (λ b. cond b (1 + prefix_len p ys) 0) h.0

  pub prefix_of : (xs ys : List Row) → AllByRecursion (λ row. p row ≡ true) xs → AllByRecursion (λ row. p row ≡ false) ys → prefix_len p (xs ++ ys) ≡ length xs
  prefix_of [] ys h k = none_first ys k
  prefix_of (x ∷ xs) ys h k = ap (λ b. cond b (1 + prefix_len p (xs ++ ys)) 0) h.0 ∙ one_plus _ _ (prefix_of xs ys h.1 k) ∙ add-one (length xs)

-- the rows of the order at the front, and those after them
abbrev pub own_rows : List ℕ → List Row → List Row
own_rows order rows = take (prefix_len (is_of order) rows) rows

abbrev pub other_rows : List ℕ → List Row → List Row
other_rows order rows = drop (prefix_len (is_of order) rows) rows

-- ---- trips that are written one after the other

abbrev pub put_all : Trips → List Entry → Trips
put_all trips [] = trips
put_all trips (e ∷ es) = put_all (finite.insert trips e.0 e.1) es

get-put_all : (trips : Trips) (es : List Entry) → DoRise name_cmp es → (q : List ℕ) → finite.get (put_all trips es) q ≡ option_or (find name_cmp q es) (finite.get trips q)
get-put_all trips [] h q = refl
get-put_all trips (e ∷ es) h q =
    get-put_all (finite.insert trips e.0 e.1) es h.1 q
    ∙ ap (option_or (find name_cmp q es)) (finite.get-insert names_total trips e.0 e.1 q)
    ∙ elim (eq_by_cmp name_cmp q e.0) as (λ b. eq_by_cmp name_cmp q e.0 ≡ b → option_or (find name_cmp q es) (cond b (Some e.1) (finite.get trips q)) ≡ option_or (cond b (Some e.1) (find name_cmp q es)) (finite.get trips q)) [
      | true ↦ λ tied. ap (λ (o : Option TripRow). option_or o (Some e.1)) (not_after name_cmp q es (subst (λ k. AreAfter name_cmp k es) (sym (is_same names_apart q e.0 tied)) h.0))
      | false ↦ λ _. refl
    ] refl

none_more : (o : Option TripRow) → option_or o None ≡ o
none_more None = refl
none_more (Some x) = refl

get-written : (es : List Entry) → DoRise name_cmp es → (q : List ℕ) → finite.get (put_all finite.empty es) q ≡ find name_cmp q es
get-written es h q = get-put_all finite.empty es h q ∙ ap (option_or (find name_cmp q es)) (finite.get-empty name_cmp q) ∙ none_more _

-- the trips of entries in order are those entries
entries-written : (es : List Entry) → DoRise name_cmp es → finite.entries (put_all finite.empty es) ≡ es
entries-written es h =
    ap finite.entries (finite.same_map names_total names_apart (put_all finite.empty es) (finite.from_entries es) (λ q. get-written es h q ∙ sym (finite.get-from_entries names_total es q)))
    ∙ entries-shown names_total names_apart es (sorted_from_rise name_cmp es h)

written-entries : (trips : Trips) → put_all finite.empty (finite.entries trips) ≡ trips
written-entries trips =
    finite.same_entries_map _ _ (entries-written (finite.entries trips) (rise_from_sorted name_cmp _ (finite.entries_sorted trips)))

-- ---- the trips, journey by journey

module _ (jobs : finite.FinMap name_cmp JobRow) where
  -- each journey has the rows of its order that come next; none where one tells no acts, or rows are left
  abbrev pub trips_from : Trips → List Journey → List Row → Option Trips
  trips_from trips [] [] = Some trips
  trips_from trips [] (row ∷ rows) = None
  trips_from trips (journey ∷ journeys) rows =
      option_and_then (λ (acts : List Act). trips_from (finite.insert trips journey.0 (trip_told journey.1 acts)) journeys (other_rows journey.0 rows)) (acts_told jobs 0 (own_rows journey.0 rows))

  abbrev pub AreOfJobs : List Entry → Type 0
  AreOfJobs = AllByRecursion (λ (e : Entry). AllByRecursion (IsOfJob jobs) e.1.acts)

  -- trips are told by their rows
  own_acts : (order : List ℕ) (n : ℕ) (acts : List Act) → AllByRecursion (λ row. is_of order row ≡ true) (act_rows_from order n acts)
  own_acts order n acts = all_weaker _ _ (λ row is. is ∙ ap is_eq (tied_itself names_total order)) _ (acts_tested order order n acts)

  other_order : (order q : List ℕ) → name_cmp order q ≡ Less → eq_by_cmp name_cmp order q ≡ false
  other_order order q before = ap is_eq before

  other_acts : (order : List ℕ) (es : List Entry) → AreAfter name_cmp order es → AllByRecursion (λ row. is_of order row ≡ false) (acts_in es)
  other_acts order es h = all-flat_map _ _ es (all_weaker _ _ (λ e before. all_weaker _ _ (λ row is. is ∙ other_order order e.0 before) _ (acts_tested order e.0 0 e.1.acts)) es h)

  pub told_again : (trips : Trips) (es : List Entry) → DoRise name_cmp es → AreOfJobs es → trips_from trips (journeys_in es) (acts_in es) ≡ Some (put_all trips es)
  told_again trips [] h are = refl
  told_again trips (e ∷ es) h are =
      let rows = act_rows e.0 e.1 in
      let first : prefix_len (is_of e.0) (rows ++ acts_in es) ≡ length rows = prefix_of (is_of e.0) rows (acts_in es) (own_acts e.0 0 e.1.acts) (other_acts e.0 es h.0) in
      let own : own_rows e.0 (rows ++ acts_in es) ≡ rows = ap (λ n. take n (rows ++ acts_in es)) first ∙ take-append_seam rows (acts_in es) in
      let others : other_rows e.0 (rows ++ acts_in es) ≡ acts_in es = ap (λ n. drop n (rows ++ acts_in es)) first ∙ drop-append_seam rows (acts_in es) in
      ap₂ (λ (mine : List Row) (more : List Row). option_and_then (λ (acts : List Act). trips_from (finite.insert trips e.0 (trip_told (journey_of e.1) acts)) (journeys_in es) more) (acts_told jobs 0 mine)) own others
      ∙ ap (option_and_then (λ (acts : List Act). trips_from (finite.insert trips e.0 (trip_told (journey_of e.1) acts)) (journeys_in es) (acts_in es))) (rows_tell_acts jobs e.0 0 e.1.acts are.0)
      ∙ told_again (finite.insert trips e.0 e.1) es h.1 are.1

  -- and trips that are told have just these rows
  pub record HaveRows (trips : Trips) (journeys : List Journey) (rows : List Row) (told : Trips) : Type 0 where
    pub es : List Entry
    pub of_journeys : journeys ≡ journeys_in es
    pub of_acts : rows ≡ acts_in es
    pub of_jobs : AreOfJobs es
    pub written : put_all trips es ≡ told

  pub rows_told : (trips : Trips) (journeys : List Journey) (rows : List Row) (told : Trips) → trips_from trips journeys rows ≡ Some told → HaveRows trips journeys rows told
  rows_told trips [] [] told is = record { es = []; of_journeys = refl; of_acts = refl; of_jobs = tt; written = same_Some _ _ is }
  rows_told trips [] (row ∷ rows) told is = absurd (cc is)
  rows_told trips (journey ∷ journeys) rows told is =
      with_acts (λ acts some. rows_told (finite.insert trips journey.0 (trip_told journey.1 acts)) journeys (other_rows journey.0 rows) told some) (acts_told jobs 0 (own_rows journey.0 rows)) refl is
    where
      with_acts : ((acts : List Act) → trips_from (finite.insert trips journey.0 (trip_told journey.1 acts)) journeys (other_rows journey.0 rows) ≡ Some told
          → HaveRows (finite.insert trips journey.0 (trip_told journey.1 acts)) journeys (other_rows journey.0 rows) told)
          → (o : Option (List Act)) → acts_told jobs 0 (own_rows journey.0 rows) ≡ o
          → option_and_then (λ (acts : List Act). trips_from (finite.insert trips journey.0 (trip_told journey.1 acts)) journeys (other_rows journey.0 rows)) o ≡ Some told
          → HaveRows trips (journey ∷ journeys) rows told
      with_acts further None none is = absurd (cc is)
      with_acts further (Some acts) some is =
          let own = acts_give_rows jobs journey.0 0 (own_rows journey.0 rows) acts (first_pass (is_of journey.0) rows) some in
          let later = further acts is in
          record {
            es = (journey.0, trip_told journey.1 acts) ∷ later.es;
            of_journeys = ap (λ (l : List Journey). journey ∷ l) later.of_journeys;
            of_acts = sym (take-append-drop (prefix_len (is_of journey.0) rows) rows) ∙ ap₂ ◌++◌ own.0 later.of_acts;
            of_jobs = (own.1, later.of_jobs);
            written = later.written;
          }

  -- ---- one journey more

  module _ (trips : Trips) (journey : Journey) (journeys : List Journey) (rest own others : List Row)
      (is_own : own ≡ own_rows journey.0 rest) (are_others : others ≡ other_rows journey.0 rest) where
    pub told_more : (acts : List Act) → acts_told jobs 0 own ≡ Some acts
        → trips_from trips (journey ∷ journeys) rest ≡ trips_from (finite.insert trips journey.0 (trip_told journey.1 acts)) journeys others
    told_more acts told =
        ap (option_and_then (λ (acts : List Act). trips_from (finite.insert trips journey.0 (trip_told journey.1 acts)) journeys (other_rows journey.0 rest))) (ap (acts_told jobs 0) (sym is_own) ∙ told)
        ∙ ap (trips_from (finite.insert trips journey.0 (trip_told journey.1 acts)) journeys) (sym are_others)

    pub told_nothing : acts_told jobs 0 own ≡ None → trips_from trips (journey ∷ journeys) rest ≡ None
    told_nothing none =
        ap (option_and_then (λ (acts : List Act). trips_from (finite.insert trips journey.0 (trip_told journey.1 acts)) journeys (other_rows journey.0 rest))) (ap (acts_told jobs 0) (sym is_own) ∙ none)

  pub rows_left : (trips : Trips) (rows : List Row) → nat_eq (length rows) 0 ≡ false → trips_from trips [] rows ≡ None
  rows_left trips [] h = absurd (cc h)
  rows_left trips (row ∷ rows) h = refl

  pub none_left : (trips : Trips) (rows : List Row) → nat_eq (length rows) 0 ≡ true → trips_from trips [] rows ≡ Some trips
  none_left trips [] h = refl
  none_left trips (row ∷ rows) h = let none : length (row ∷ rows) ≡ 0 = eqb-true (length (row ∷ rows)) 0 h in absurd (omega (arith, none))

-- ---- whole tables

module _ (journeys : finite.FinMap name_cmp JourneyRow) (acts : finite.FinMap act_cmp ActRow) (jobs : finite.FinMap name_cmp JobRow) (trips : Trips) where
  -- trips that have these rows are told
  pub are_told : AreTripsOf journeys acts jobs trips → trips_from jobs finite.empty (finite.entries journeys) (finite.entries acts) ≡ Some trips
  are_told are =
      ap₂ (trips_from jobs finite.empty) (ap finite.entries are.has_journeys ∙ entries-journeys trips) (ap finite.entries are.has_acts ∙ entries-acts trips)
      ∙ told_again jobs finite.empty (finite.entries trips) (rise_from_sorted name_cmp _ (finite.entries_sorted trips)) (all_weaker _ _ (λ (e : Entry) at. are.of_jobs e.0 e.1 at) (finite.entries trips) (entries_found names_total trips))
      ∙ ap Some (written-entries trips)

  -- trips that are told have these rows
  pub told_are : trips_from jobs finite.empty (finite.entries journeys) (finite.entries acts) ≡ Some trips → AreTripsOf journeys acts jobs trips
  told_are is =
      let rows = rows_told jobs finite.empty (finite.entries journeys) (finite.entries acts) trips is in
      let rises : DoRise name_cmp rows.es = rise_as_journeys rows.es (subst (DoRise name_cmp) rows.of_journeys (rise_from_sorted name_cmp _ (finite.entries_sorted journeys))) in
      let listed : finite.entries trips ≡ rows.es = ap finite.entries (sym rows.written) ∙ entries-written rows.es rises in
      record {
        has_journeys = finite.same_entries_map _ _ (rows.of_journeys ∙ ap journeys_in (sym listed) ∙ sym (entries-journeys trips));
        has_acts = finite.same_entries_map _ _ (rows.of_acts ∙ ap acts_in (sym listed) ∙ sym (entries-acts trips));
        of_jobs = λ order trip at. entry-has names_apart (λ (e : Entry). AllByRecursion (IsOfJob jobs) e.1.acts) trips (subst (AreOfJobs jobs) (sym listed) rows.of_jobs) order trip at;
      }

  pub told_just_so : (told : Option Trips) → trips_from jobs finite.empty (finite.entries journeys) (finite.entries acts) ≡ told → (told ≡ Some trips) ↔ AreTripsOf journeys acts jobs trips
  told_just_so told is = (λ some. told_are (is ∙ some), λ are. sym is ∙ are_told are)

-- rows tell no other trips
pub one_told : (journeys : finite.FinMap name_cmp JourneyRow) (acts : finite.FinMap act_cmp ActRow) (jobs : finite.FinMap name_cmp JobRow) (trips others : Trips)
    → AreTripsOf journeys acts jobs trips → AreTripsOf journeys acts jobs others → trips ≡ others
one_told journeys acts jobs trips others one other = same_Some _ _ (sym (are_told journeys acts jobs trips one) ∙ are_told journeys acts jobs others other)
