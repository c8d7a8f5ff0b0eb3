-- What the rows of a journey, of acts and of edges answer, in a lawful world.
use Rattle.std.proofs.Common.{◌≡◌, ◌+◌, ◌++◌, ◌==◌, ℕ, nat_eq, Bool, true, false, not, cond, is_some, List, [], ◌∷◌, filter, length, Option, None, Some, Ok, Err, Result, IsPermutation, refl, sym, ap, ap₂, subst, ◌∙◌, append-nil, append_assoc}
use Rattle.std.proofs.lemmas.Bool.{eqb-true}
use Rattle.std.proofs.lemmas.List.{length-append}
use Rattle.std.proofs.lemmas.Option.{same_Some}
use Rattle.std.specs.Cmp.Lexicographic.{nat_list_cmp_total}
use Rattle.std.specs.FinMap as finite
use Rattle.std.specs.List.{AllByRecursion, cons_option, filter_map}
use Rattle.std.specs.Option.{option_and_then, option_map}
use Rattle.std.specs.Result.{IsErrAnd}
use Rattle.sqlite_value.specs.Order.{Row}
use Rattle.agv_header.specs.Name.{IsName, name_cmp}
use Rattle.agv_header.specs.declared.key.VehicleKey.{VehicleKey}
use Rattle.agv_layout.specs.Layout.{Layout}
use Rattle.agv_layout.specs.declared.edge.Edge.{Edge}
use Rattle.agv_layout.specs.declared.edge.EdgeEnds.{EdgeEnds}
use Rattle.agv_order.specs.declared.act.Act.{Act}
use Rattle.agv_store_rows.specs.ActKeys.{act_cmp, act_cmp-IsAntisymmetric, act_cmp-total}
use Rattle.agv_store_rows.specs.TripRows.{acts_of, is_of, journeys_of}
use Rattle.agv_store_rows.specs.TripsTold.{act_told, acts_told, trip_told}
use Rattle.agv_store_rows.specs.declared.act_key.ActKey.{ActKey}
use Rattle.agv_store_rows.specs.declared.act_row.ActRow.{ActRow}
use Rattle.agv_store_rows.specs.declared.journey_row.JourneyRow.{JourneyRow}
use Rattle.agv_world_core.specs.ConsistentTrips.{HasConsistentTrips}
use Rattle.agv_world_core.specs.KeyOrders.{leg_cmp-IsAntisymmetric, leg_cmp-total}
use Rattle.agv_world_core.specs.Keys.{leg_cmp}
use Rattle.agv_world_core.specs.Lawful.{IsLawful}
use Rattle.agv_world_core.specs.Maps.{maps_of}
use Rattle.agv_world_core.specs.Told.{edge_named, edges_of, is_of_order, trip_in}
use Rattle.agv_world_core.specs.Worlds.{World}
use Rattle.agv_world_core.specs.declared.key.LegKey.{LegKey}
use Rattle.agv_world_core.specs.declared.row.JobRow.{JobRow}
use Rattle.agv_store_read.specs.WorldAnswers.{AgreesWith}
use Rattle.agv_store_ask.specs.QueriedRows.{journeys_shown, legs_shown}
use Rattle.agv_store_rows.specs.Columns.{act_columns, act_in, journey_columns, journey_in, leg_columns, leg_in}
use Rattle.agv_store_read.specs.FirstRow.{first_whole_in, whole_of}
use Rattle.agv_store_read.specs.ReadTables.{Reads, read_rows}
use Rattle.agv_store_rows.specs.RowKeys.{name_key, vehicle_key}
use Rattle.agv_store_rows.specs.Rows.{TellRows, row_if, rows_of, rows_of_acts}
use Rattle.agv_store_sql.specs.RowQueries.{rows_asked}
use Rattle.agv_store_schema.specs.SchemaNumbers.{desk_seats}
use Rattle.agv_store_rows.specs.DecodedTrips.{is_driven_by, journey_for, tables_of, told_by_journey, trip_told_by}
use Rattle.agv_store_rows.specs.TypedRows.{IsActRow, IsActRowKey, IsJourneyRow}
use Rattle.agv_store_read.specs.declared.open_fault.OpenFault.{OpenFault}
use Rattle.agv_store_schema.specs.declared.rows_by.RowsBy.TheVariants as by
use Rattle.agv_store_read.proofs.Asking.{Follows}
use Rattle.agv_store_ask.proofs.AskedShown.{shown_asked}
use Rattle.agv_store_rows.proofs.ColumnsKept.{act_kept, journey_kept, leg_kept}
use Rattle.agv_store_schema.proofs.FewEntries.{found_entry, listed, one_passes}
use Rattle.agv_store_ask.proofs.KeyAnswers.{only}
use Rattle.agv_store_rows.proofs.LawfulTrips.{leg_value}
use Rattle.agv_store_rows.proofs.ListsHeld.{alike_itself}
use Rattle.agv_store_ask.proofs.LoadAnswers.{again}
use Rattle.agv_store_schema.proofs.SpreadRows.{entries_found}
use Rattle.agv_store_ask.proofs.StationLoads.{all-filter, entries-passing, get-passing, passing}
use Rattle.agv_store_read.proofs.TableReading.{reads_all, reads_fails}

-- ---- the journey of a vehicle

abbrev pub Entry : Type 0
Entry = List ℕ × JourneyRow

abbrev entry_columns : Entry → Row
entry_columns e = journey_columns e.0 e.1

one_shown : (o : Option Entry) → journeys_shown (listed o) ≡ row_if entry_columns o
one_shown None = refl
one_shown (Some e) = refl

row_there : (o : Option Entry) → not (length (row_if entry_columns o) == 0) ≡ is_some o
row_there None = refl
row_there (Some e) = refl

first_journey : (o : Option Entry) → ((e : Entry) → o ≡ Some e → journey_in (entry_columns e) ≡ Some e) → first_whole_in journey_in (row_if entry_columns o) ≡ Ok o
first_journey None back = refl
first_journey (Some e) back = ap whole_of (back e refl)

-- the journeys that name a vehicle are of one order
abbrev pub OneDrives : World → Type 0
OneDrives world = (key : VehicleKey) (a b : Entry) → finite.get (journeys_of (maps_of world).trips) a.0 ≡ Some a.1 → finite.get (journeys_of (maps_of world).trips) b.0 ≡ Some b.1
    → is_driven_by key a ≡ true → is_driven_by key b ≡ true → a.0 ≡ b.0

-- each journey has its values
abbrev pub JourneysAreTyped : World → Type 0
JourneysAreTyped world = (order : List ℕ) (journey : JourneyRow) → finite.get (journeys_of (maps_of world).trips) order ≡ Some journey → IsName order × IsJourneyRow journey

module _ (world : World) where
  abbrev lists : List (List Row)
  lists = rows_of world

  its_own : TellRows lists (maps_of world)
  its_own = alike_itself lists

  -- the rows that are shown are that of the journey, where there is one
  alone : OneDrives world → (key : VehicleKey) (values : Row) → values ≡ vehicle_key key → (rows : List Row) → IsPermutation (rows_asked by.VehicleJourney values lists) rows → rows ≡ row_if entry_columns (journey_for (maps_of world) key)
  alone one key values is rows shown =
      let journeys = journeys_of (maps_of world).trips in
      let perm = again ((shown_asked lists (maps_of world) its_own).journey key) (subst (λ v. IsPermutation (rows_asked by.VehicleJourney v lists) rows) is shown) in
      let few = ap journeys_shown (one_passes nat_list_cmp_total journeys (is_driven_by key) (one key)) ∙ one_shown (journey_for (maps_of world) key) in
      only entry_columns (journey_for (maps_of world) key) rows (subst (λ l. IsPermutation l rows) few perm)

  pub tells_journey : OneDrives world → JourneysAreTyped world → (key : VehicleKey) (values : Row) → values ≡ vehicle_key key → (rows : List Row) → IsPermutation (rows_asked by.VehicleJourney values lists) rows
      → (r : Result (Option Entry) OpenFault) → r ≡ first_whole_in journey_in rows → Follows r (λ journey. journey ≡ journey_for (maps_of world) key)
  tells_journey one typed key values is rows shown r given =
      let journeys = journeys_of (maps_of world).trips in
      let found = journey_for (maps_of world) key in
      let so : r ≡ Ok found =
      given ∙ ap (first_whole_in journey_in) (alone one key values is rows shown)
      ∙ first_journey found (λ e at. let its = typed e.0 e.1 (found_entry nat_list_cmp_total journeys (is_driven_by key) e at).0 in journey_kept e.0 e.1 its.0 its.1) in
      subst (λ q. Follows q (λ journey. journey ≡ found)) (sym so) refl

  -- there is a row just where there is a journey
  pub tells_driven : OneDrives world → (key : VehicleKey) (values : Row) → values ≡ vehicle_key key → (rows : List Row) → IsPermutation (rows_asked by.VehicleJourney values lists) rows
      → not (length rows == 0) ≡ is_some (journey_for (maps_of world) key)
  tells_driven one key values is rows shown =
      ap (λ (l : List Row). not (length l == 0)) (alone one key values is rows shown) ∙ row_there (journey_for (maps_of world) key)

-- ---- the acts of an order

-- the acts of a world's order, as they are told
abbrev pub acts_for : World → List ℕ → Option (List Act)
acts_for world order = acts_told (maps_of world).jobs 0 (filter (is_of order) (finite.entries (acts_of (maps_of world).trips)))

-- each act has its values
abbrev pub ActsAreTyped : World → Type 0
ActsAreTyped world = (key : ActKey) (act : ActRow) → finite.get (acts_of (maps_of world).trips) key ≡ Some act → IsActRowKey key × IsActRow act

-- what is left tells more acts, which follow those so far
pub record Told (jobs : finite.FinMap name_cmp JobRow) (acts : List Act) (rest : List (ActKey × ActRow)) (all : Option (List Act)) : Type 0 where
  pub more : List Act
  pub told : acts_told jobs (length acts) rest ≡ Some more
  pub are : all ≡ Some (acts ++ more)

abbrev pub GoesActs : List Act → List (ActKey × ActRow) → List ℕ → World → Unit {0} → Type 0
GoesActs acts rest order world nothing = Told (maps_of world).jobs acts rest (acts_for world order)

module _ (world : World) (typed : ActsAreTyped world) (order : List ℕ) where
  abbrev acts_there : finite.FinMap act_cmp ActRow
  acts_there = passing (is_of order) (acts_of (maps_of world).trips)

  module _ (values : Row) (is : values ≡ name_key order) (rows : List Row) (shown : IsPermutation (rows_asked by.OrderActs values (rows_of world)) rows) where
    given_acts : read_rows act_in finite.empty rows ≡ Some acts_there
    given_acts =
        let lists = rows_of world in
        let perm = again ((shown_asked lists (maps_of world) (alike_itself lists)).acts order) (subst (λ v. IsPermutation (rows_asked by.OrderActs v lists) rows) is shown) in
        reads_all act_cmp-total act_cmp-IsAntisymmetric acts_there act_columns act_in
        (λ key act at. let its = typed key act (get-passing act_cmp-total act_cmp-IsAntisymmetric (is_of order) (acts_of (maps_of world).trips) key act at) in act_kept key act its.0 its.1) rows
        (subst (λ es. IsPermutation (rows_of_acts es) rows) (sym (entries-passing (is_of order) (acts_of (maps_of world).trips))) perm)

    -- the reading of these rows fails for want of memory alone
    pub acts_fail : {B : Type 0} (f : OpenFault) → Reads {A = finite.FinMap act_cmp ActRow} (Err f) (read_rows act_in finite.empty rows) → (r : Result B OpenFault) → IsErrAnd r (λ why. why ≡ f) → (says : B → Type 0) → Follows r says
    acts_fail f read r fails says = reads_fails acts_there f (read_rows act_in finite.empty rows) read given_acts r fails says

    -- and with the table the acts begin
    pub acts_begin : (those : List Act) → acts_for world order ≡ Some those → (table : finite.FinMap act_cmp ActRow) → Reads {A = finite.FinMap act_cmp ActRow} (Ok table) (read_rows act_in finite.empty rows)
        → (acts : List Act) (rest : List (ActKey × ActRow)) → acts ≡ [] → rest ≡ finite.entries table → GoesActs acts rest order world tt
    acts_begin those known table read acts rest none all =
        let same : table ≡ acts_there = same_Some table acts_there (sym read ∙ given_acts) in
        let listed_there : rest ≡ filter (is_of order) (finite.entries (acts_of (maps_of world).trips)) = all ∙ ap finite.entries same ∙ entries-passing (is_of order) (acts_of (maps_of world).trips) in
        record {
          more = those;
          told = ap₂ (λ (a : List Act) l. acts_told (maps_of world).jobs (length a) l) none listed_there ∙ known;
          are = known ∙ ap (λ (a : List Act). Some (a ++ those)) (sym none);
        }

-- ---- one act after the other

-- the act of a row: its number and its job are known, and the others follow
record Next (jobs : finite.FinMap name_cmp JobRow) (n : ℕ) (row : ActKey × ActRow) (rows : List (ActKey × ActRow)) (all : List Act) : Type 0 where
  number : nat_eq row.0.n n ≡ true
  job : JobRow
  known : finite.get jobs row.1.job ≡ Some job
  more : List Act
  told : acts_told jobs (n + 1) rows ≡ Some more
  are : all ≡ act_told row.1 job ∷ more

next_of : (jobs : finite.FinMap name_cmp JobRow) (n : ℕ) (row : ActKey × ActRow) (rows : List (ActKey × ActRow)) (all : List Act) → acts_told jobs n (row ∷ rows) ≡ Some all → Next jobs n row rows all
next_of jobs n row rows all is = at (nat_eq row.0.n n) refl (finite.get jobs row.1.job) refl (acts_told jobs (n + 1) rows) refl is
  where
    at : (b : Bool) → nat_eq row.0.n n ≡ b → (o : Option JobRow) → finite.get jobs row.1.job ≡ o → (t : Option (List Act)) → acts_told jobs (n + 1) rows ≡ t
        → cond b (option_and_then (λ (job : JobRow). option_map (λ (acts : List Act). act_told row.1 job ∷ acts) t) o) None ≡ Some all → Next jobs n row rows all
    at true number (Some job) known (Some more) told same = record { number = number; job = job; known = known; more = more; told = told; are = sym (same_Some _ _ same) }
    at true number (Some job) known None told same = absurd (cc same)
    at true number None known t told same = absurd (cc same)
    at false number o known t told same = absurd (cc same)

module _ (world : World) (order : List ℕ) (acts : List Act) (rest : List (ActKey × ActRow)) (row : ActKey × ActRow) (rows : List (ActKey × ActRow)) (goes : GoesActs acts rest order world tt) (next : rest ≡ row ∷ rows) where
  next_act : Next (maps_of world).jobs (length acts) row rows goes.more
  next_act = next_of (maps_of world).jobs (length acts) row rows goes.more (ap (acts_told (maps_of world).jobs (length acts)) (sym next) ∙ goes.told)

  -- its number is that of the acts so far
  pub act_numbered : row.0.n ≡ length acts
  act_numbered = eqb-true row.0.n (length acts) next_act.number

  -- its job is known
  pub act_known : ¬ (None ≡ finite.get world.jobs row.1.job)
  act_known none =
      let wrong : ◌≡◌ {A = Option JobRow} None (Some next_act.job) = none ∙ next_act.known in
      cc wrong

  -- with it the acts go on
  pub acts_go_on : (job : JobRow) → Some job ≡ finite.get world.jobs row.1.job → (now : List Act) → now ≡ acts ++ act_told row.1 job ∷ [] → GoesActs now rows order world tt
  acts_go_on job there now pushed =
      let one = next_act in
      let same : one.job ≡ job = same_Some _ _ (sym one.known ∙ sym there) in
      record {
        more = one.more;
        told = ap (λ n. acts_told (maps_of world).jobs n rows) (ap length pushed ∙ length-append acts (act_told row.1 job ∷ [])) ∙ one.told;
        are =
            goes.are ∙ ap (λ (l : List Act). Some (acts ++ l)) (one.are ∙ ap (λ j. act_told row.1 j ∷ one.more) same)
            ∙ ap Some (sym (append_assoc acts (act_told row.1 job ∷ []) one.more) ∙ ap (λ (l : List Act). l ++ one.more) (sym pushed));
      }

-- they are at their end
pub acts_end : (world : World) (order : List ℕ) (acts : List Act) (rest : List (ActKey × ActRow)) → GoesActs acts rest order world tt → rest ≡ [] → (all : List Act) → all ≡ acts → acts_for world order ≡ Some all
acts_end world order acts rest goes none all are =
    let no_more : goes.more ≡ [] = same_Some _ _ (sym goes.told ∙ ap (acts_told (maps_of world).jobs (length acts)) none) in
    goes.are ∙ ap (λ (l : List Act). Some (acts ++ l)) no_more ∙ ap Some (append-nil acts ∙ sym are)

-- ---- the edges of an order

-- the layout has the edge of a row
abbrev pub IsKnown : World → LegKey × List ℕ → Type 0
IsKnown world leg = (ends : EdgeEnds) × (finite.get world.layout.edges leg.1 ≡ Some ends)

abbrev pub edge_at : World → LegKey × List ℕ → Option Edge
edge_at world leg = edge_named world.layout.edges leg.1

-- the layout has what is left; and the edges so far, with those of what is left, are those of the order, where a known layout is the world's
abbrev pub Goes : Option Layout → List Edge → List (LegKey × List ℕ) → List ℕ → World → Unit {0} → Type 0
Goes known edges rest order world nothing =
    (AgreesWith known world → edges ++ filter_map (edge_at world) rest ≡ edges_of (tables_of (maps_of world)) order) × AllByRecursion (IsKnown world) rest

pub all_of : {A : Type 0} (P Q : A → Type 0) → ((a : A) → P a → Q a) → (xs : List A) → AllByRecursion P xs → AllByRecursion Q xs
all_of P Q so [] h = tt
all_of P Q so (x ∷ xs) h = (so x h.0, all_of P Q so xs h.1)

module _ (world : World) (lawful : IsLawful desk_seats world) (good : HasConsistentTrips world) (order : List ℕ) where
  abbrev pub legs_there : finite.FinMap leg_cmp (List ℕ)
  legs_there = passing (is_of_order order) (maps_of world).legs

  module _ (values : Row) (is : values ≡ name_key order) (rows : List Row) (shown : IsPermutation (rows_asked by.OrderLegs values (rows_of world)) rows) where
    given : read_rows leg_in finite.empty rows ≡ Some legs_there
    given =
        let lists = rows_of world in
        let perm = again ((shown_asked lists (maps_of world) (alike_itself lists)).legs order) (subst (λ v. IsPermutation (rows_asked by.OrderLegs v lists) rows) is shown) in
        reads_all leg_cmp-total leg_cmp-IsAntisymmetric legs_there leg_columns leg_in
        (λ key id at. let its = leg_value world lawful good key id (get-passing leg_cmp-total leg_cmp-IsAntisymmetric (is_of_order order) (maps_of world).legs key id at) in leg_kept key id its.0 its.1) rows
        (subst (λ es. IsPermutation (legs_shown es) rows) (sym (entries-passing (is_of_order order) (maps_of world).legs)) perm)

    -- the reading of these rows fails for want of memory alone
    pub fails_there : {B : Type 0} (f : OpenFault) → Reads {A = finite.FinMap leg_cmp (List ℕ)} (Err f) (read_rows leg_in finite.empty rows) → (r : Result B OpenFault) → IsErrAnd r (λ why. why ≡ f) → (says : B → Type 0) → Follows r says
    fails_there f read r fails says = reads_fails legs_there f (read_rows leg_in finite.empty rows) read given r fails says

    -- and with the table the way begins
    pub begins : (table : finite.FinMap leg_cmp (List ℕ)) → Reads {A = finite.FinMap leg_cmp (List ℕ)} (Ok table) (read_rows leg_in finite.empty rows)
        → (known : Option Layout) (edges : List Edge) (rest : List (LegKey × List ℕ)) → edges ≡ [] → rest ≡ finite.entries table → Goes known edges rest order world tt
    unfolding edges_of
    begins table read known edges rest none all =
        let same : table ≡ legs_there = same_Some table legs_there (sym read ∙ given) in
        let listed_there : rest ≡ filter (is_of_order order) (finite.entries (maps_of world).legs) = all ∙ ap finite.entries same ∙ entries-passing (is_of_order order) (maps_of world).legs in (
          λ _. ap₂ (λ (es : List Edge) l. es ++ filter_map (edge_at world) l) none listed_there,
          subst (AllByRecursion (IsKnown world)) (sym listed_there)
              (all-filter (IsKnown world) (is_of_order order) (finite.entries (maps_of world).legs)
              (all_of _ (IsKnown world) (λ e at. let its = leg_value world lawful good e.0 e.1 at in (its.2, its.3)) (finite.entries (maps_of world).legs) (entries_found leg_cmp-total (maps_of world).legs))),
        )

-- ---- one edge after the other

module _ (known : Option Layout) (world : World) (order : List ℕ) (edges : List Edge) (rest : List (LegKey × List ℕ)) (goes : Goes known edges rest order world tt) where
  module _ (leg : LegKey × List ℕ) (more : List (LegKey × List ℕ)) (next : rest ≡ leg ∷ more) where
    goes_next : Goes known edges (leg ∷ more) order world tt
    goes_next = subst (λ l. Goes known edges l order world tt) next goes

    -- the edge of the next row
    pub goes_on : (edge : Edge) (now : List Edge) → (AgreesWith known world → Some edge ≡ edge_at world leg) → now ≡ edges ++ edge ∷ [] → Goes known now more order world tt
    goes_on edge now there pushed = (
      λ agrees.
          ap (λ es. es ++ filter_map (edge_at world) more) pushed
          ∙ append_assoc edges (edge ∷ []) (filter_map (edge_at world) more)
          ∙ ap (λ (o : Option Edge). edges ++ cons_option o (filter_map (edge_at world) more)) (there agrees)
          ∙ goes_next.0 agrees,
      goes_next.1.1,
    )

    -- the layout has it
    pub goes_known : ¬ (None ≡ finite.get world.layout.edges leg.1)
    goes_known none =
        let wrong : ◌≡◌ {A = Option EdgeEnds} None (Some goes_next.1.0.0) = none ∙ goes_next.1.0.1 in
        cc wrong

  -- the way is at its end
  pub goes_all : rest ≡ [] → AgreesWith known world → edges ≡ edges_of (tables_of (maps_of world)) order
  goes_all none agrees = sym (append-nil edges) ∙ (subst (λ l. Goes known edges l order world tt) none goes).0 agrees

-- ---- what is told of the journey

pub told_journey : (world : World) (journey : Entry) (acts : List Act) (edges : List Edge) → acts_for world journey.0 ≡ Some acts → edges ≡ edges_of (tables_of (maps_of world)) journey.0
    → told_by_journey (maps_of world) journey ≡ Some (trip_told_by journey edges acts)
told_journey world journey acts edges told way =
    ap (λ (o : Option (List Act)). option_map (trip_in (tables_of (maps_of world))) (option_map (λ (acts : List Act). (journey.0, trip_told journey.1 acts)) o)) told
    ∙ ap (λ (es : List Edge). Some (trip_told_by journey es acts)) (sym way)

-- a trip is told just where there is a journey, since the acts of each order are told
pub trip_there : (world : World) → ((order : List ℕ) → (acts : List Act) × (acts_for world order ≡ Some acts)) → (journey : Option Entry) → is_some (option_and_then (told_by_journey (maps_of world)) journey) ≡ is_some journey
trip_there world told None = refl
trip_there world told (Some e) = ap is_some (told_journey world e (told e.0).0 (edges_of (tables_of (maps_of world)) e.0) (told e.0).1 refl)
