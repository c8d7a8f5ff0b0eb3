-- What reports and exports list, as the world has it.
use Rattle.std.proofs.Common.{◌≡◌, ◌+◌, ◌-◌, ◌<◌, ◌≤◌, ◌^◌, ◌⊎◌, ℕ, Bool, true, false, cond, not, min, T, ◌&&◌, ◌||◌, List, [], ◌∷◌, ◌++◌, map, length, get_or, drop, Option, None, Some, Result, Ok, Err, Ordering, Less, append_assoc, arith, inl, inr, refl, sym, ap, subst, ◌∙◌}
use Rattle.std.proofs.lemmas.Bool.{and_parts}
use Rattle.std.proofs.lemmas.List.{at_drop_more, nil_from_length}
use Rattle.std.proofs.lemmas.List.Concat.{flat_map_single}
use Rattle.std.proofs.lemmas.List.Sums.{count_by-le-length}
use Rattle.std.proofs.lemmas.Map.Keys.{sorted_head, sorted_tail}
use Rattle.std.specs.Prelude.{⊤}
use Rattle.std.specs.BTreeMap.{is_at}
use Rattle.std.specs.Cmp.{Equal-is, IsTotalOrder, eq_by_cmp_equiv, tied_itself}
use Rattle.std.specs.FinMap as finite
use Rattle.std.specs.FinMap.Entries.{below_all, is_sorted, same_entries}
use Rattle.std.specs.FinSet as set
use Rattle.std.specs.List.{AllByRecursion, list_all, list_any}
use Rattle.std.specs.List.Sorted.{IsStrictlySortedBy}
use Rattle.std.specs.Map.{keys_of, lookup}
use Rattle.std.specs.Option.{option_and_then}
use Rattle.std.specs.Ordering.{eq_by_cmp, is_eq, is_lt}
use Rattle.agv_header.specs.Key.{key_cmp, thing_cmp}
use Rattle.agv_header.specs.KeyOrder.{key_cmp-IsAntisymmetric, key_cmp-ties, key_cmp-total}
use Rattle.agv_header.specs.ThingOrder.{thing_cmp-IsAntisymmetric, thing_cmp-total}
use Rattle.agv_header.specs.declared.key.Thing.{Thing}
use Rattle.agv_header.specs.declared.key.VehicleKey.{VehicleKey}
use Rattle.agv_header.specs.Name.{name_cmp}
use Rattle.agv_layout.specs.Layout.{KeepsRules, Layout, station_of}
use Rattle.agv_layout.specs.LayoutOf.{edge_row, layout_of, rows_in, station_row}
use Rattle.agv_layout.specs.declared.edge.EdgeEnds.{EdgeEnds}
use Rattle.agv_layout.specs.declared.fault.LayoutFault.{LayoutFault}
use Rattle.agv_layout.specs.declared.row.LayoutRow.TheVariants as row
use Rattle.agv_layout.specs.declared.station.StationSite.{StationSite}
use Rattle.agv_layout.specs.declared.station.Station.{Station}
use Rattle.agv_track_holds.specs.Holds.{Holds, is_own}
use Rattle.agv_world_core.specs.Lawful.{IsLawful}
use Rattle.agv_world_core.specs.Questions.{given, is_live_to, layout_set, reserved, trip_of}
use Rattle.agv_world_core.specs.Maps.{maps_of}
use Rattle.agv_header.specs.Spread.{spread}
use Rattle.agv_world_core.specs.Worlds.{Vehicle, World, empty_layout}
use Rattle.agv_world_core.specs.declared.row.JobRow.{JobRow}
use Rattle.agv_world_core.specs.declared.row.VehicleRow.{VehicleRow}
use Rattle.agv_world_core.proofs.lists.Entries.{entries_found}
use Rattle.agv_world_core.proofs.lists.Orders.{names_total}
use Rattle.agv_order.specs.declared.trip.Trip.{Trip}
use Rattle.agv_count_exports.specs.Exports.{vehicles_told}
use Rattle.agv_count_exports.specs.declared.told.VehicleTold.{VehicleTold}
use Rattle.agv_store_known.proofs.KeptLayout.{GivesItself, NeedsANode}
use Rattle.agv_store_read.specs.HeldThings.{HasEach, are_entries}
use Rattle.agv_store_schema.specs.SchemaNumbers.{desk_seats}
use Rattle.agv_store_floor.specs.ReportLists.{entered, rows_of, with_trip}

-- ---- lists in order

both : (a b : Bool) → T a → T b → T (a && b)
both true b p q = q
both false b p q = absurd p

module _ {K X : Type 0} (R : K → K → Ordering) where
  below_each : (k : K) (es : List (K × X)) → AllByRecursion (λ y. R k y ≡ Less) (keys_of es) → T (below_all R k es)
  below_each k [] each = tt
  below_each k (e ∷ es) each = both (is_lt (R k e.0)) (below_all R k es) (subst (λ o. T (is_lt o)) (sym each.0) tt) (below_each k es each.1)

  rising : (es : List (K × X)) → IsStrictlySortedBy R (keys_of es) → T (is_sorted R es)
  rising [] ordered = tt
  rising (e ∷ es) ordered = both (below_all R e.0 es) (is_sorted R es) (below_each e.0 es (sorted_head R e.0 (keys_of es) ordered)) (rising es (sorted_tail R e.0 (keys_of es) ordered))

  find-lookup : (q : K) (es : List (K × X)) → finite.find R q es ≡ lookup (is_at (R q)) es
  find-lookup q [] = refl
  find-lookup q (e ∷ es) = ap (cond (eq_by_cmp R q e.0) (Some e.1)) (find-lookup q es)

module _ {K X : Type 0} {R : K → K → Ordering} (total : IsTotalOrder R) (apart : finite.IsAntisymmetric R) where
  -- the map of entries in order lists them
  listed_again : (es : List (K × X)) → T (is_sorted R es) → finite.entries (finite.from_entries {R = R} es) ≡ es
  listed_again es sorted = same_entries R total apart _ es (finite.entries_sorted _) sorted (λ q. sym (finite.get-entries _ q) ∙ finite.get-from_entries total es q)

  pub listed_in_order : (es : List (K × X)) → IsStrictlySortedBy R (keys_of es) → finite.entries (finite.from_entries {R = R} es) ≡ es
  listed_in_order es ordered = listed_again es (rising R es ordered)

  shown : (es : List (K × X)) (q : K) → finite.get (finite.from_entries {R = R} es) q ≡ lookup (is_at (R q)) es
  shown es q = finite.get-from_entries total es q ∙ find-lookup R q es

  -- the map of the entries that `insert` leaves has one entry more
  pub inserted : (old new : List (K × X)) (k : K) (x : X) → ((q : K) → lookup (is_at (R q)) new ≡ cond (is_at (R k) q) (Some x) (lookup (is_at (R q)) old))
      → finite.from_entries {R = R} new ≡ finite.insert (finite.from_entries old) k x
  inserted old new k x updates =
      finite.same_map total apart _ _ (λ q.
      shown new q
      ∙ updates q
      ∙ ap (λ b. cond b (Some x) (lookup (is_at (R q)) old)) ((eq_by_cmp_equiv total).symm k q)
      ∙ ap (cond (eq_by_cmp R q k) (Some x)) (sym (shown old q))
      ∙ sym (finite.get-insert total _ k x q))

-- ---- what is held

abbrev Pair : Type 0
Pair = Thing × VehicleKey

own_of : (key : VehicleKey) (o : Option VehicleKey) → is_own key o ≡ true → o ≡ Some key
own_of key None is = absurd (cc is)
own_of key (Some by) is = ap Some (key_cmp-IsAntisymmetric by key ((Equal-is (key_cmp by key)).0 (sym (key_cmp-ties by key) ∙ is)))

-- the thing stands in a pair
abbrev stands : Thing → List Pair → Bool
stands q pairs = list_any (λ (pair : Pair). eq_by_cmp thing_cmp q pair.0) pairs

written_first : (q thing : Thing) (key : VehicleKey) (table : Holds) (stood : Option VehicleKey) (later tied : Bool) → eq_by_cmp thing_cmp q thing ≡ tied → finite.get table thing ≡ Some key
    → cond later (finite.get table q) (cond tied (Some key) stood) ≡ cond (cond tied true later) (finite.get table q) stood
written_first q thing key table stood true true is has = refl
written_first q thing key table stood true false is has = refl
written_first q thing key table stood false true is has = sym has ∙ ap (finite.get table) (sym (thing_cmp-IsAntisymmetric q thing ((Equal-is (thing_cmp q thing)).0 is)))
written_first q thing key table stood false false is has = refl

or_cond : (b c : Bool) → cond b true c ≡ (b || c)
or_cond true c = refl
or_cond false c = refl

-- pairs that are entries of a table write what it has
get-entered : (table : Holds) (pairs : List Pair) → are_entries table pairs ≡ true → (start : Holds) (q : Thing) → finite.get (entered start pairs) q ≡ cond (stands q pairs) (finite.get table q) (finite.get start q)
get-entered table [] are start q = refl
get-entered table (pair ∷ pairs) are start q =
    let parts = and_parts (is_own pair.1 (finite.get table pair.0)) (are_entries table pairs) are in
    get-entered table pairs parts.1 (finite.insert start pair.0 pair.1) q
    ∙ ap (cond (stands q pairs) (finite.get table q)) (finite.get-insert thing_cmp-total start pair.0 pair.1 q)
    ∙ written_first q pair.0 pair.1 table (finite.get start q) (stands q pairs) (eq_by_cmp thing_cmp q pair.0) refl (own_of pair.1 _ parts.0)
    ∙ ap (λ b. cond b (finite.get table q) (finite.get start q)) (or_cond (eq_by_cmp thing_cmp q pair.0) (stands q pairs))

apart_from : (q : Thing) (pairs : List Pair) → stands q pairs ≡ false → list_all (λ (pair : Pair). not (eq_by_cmp thing_cmp q pair.0)) pairs ≡ true
apart_from q [] none = refl
apart_from q (pair ∷ pairs) none =
    elim (eq_by_cmp thing_cmp q pair.0) as (λ b. (b || stands q pairs) ≡ false → (not b && list_all (λ (pair : Pair). not (eq_by_cmp thing_cmp q pair.0)) pairs) ≡ true) [
      | true ↦ λ wrong. absurd (cc wrong)
      | false ↦ λ more. apart_from q pairs more
    ] none

-- what stands in no pair has no entry
no_entry : (table : Holds) (pairs : List Pair) → HasEach table pairs → (q : Thing) → stands q pairs ≡ false → (o : Option VehicleKey) → finite.get table q ≡ o → None ≡ o
no_entry table pairs each q none None is = refl
no_entry table pairs each q none (Some key) is =
    let wrong : not (eq_by_cmp thing_cmp q q) ≡ true = each (λ (pair : Pair). not (eq_by_cmp thing_cmp q pair.0)) (apart_from q pairs none) q key is in
    absurd (cc (sym wrong ∙ ap not (ap is_eq (tied_itself thing_cmp-total q))))

as_in : (table : Holds) (pairs : List Pair) → HasEach table pairs → (q : Thing) (b : Bool) → stands q pairs ≡ b → cond b (finite.get table q) None ≡ finite.get table q
as_in table pairs each q true is = refl
as_in table pairs each q false is = no_entry table pairs each q is _ refl

-- the pairs are the table
pub all_entered : (table : Holds) (pairs : List Pair) → are_entries table pairs ≡ true → HasEach table pairs → entered finite.empty pairs ≡ table
all_entered table pairs are each =
    finite.same_map thing_cmp-total thing_cmp-IsAntisymmetric _ _ (λ q.
    get-entered table pairs are finite.empty q
    ∙ ap (cond (stands q pairs) (finite.get table q)) (finite.get-empty thing_cmp q)
    ∙ as_in table pairs each q (stands q pairs) refl)

-- ---- the vehicles

append_one : {A : Type 0} (xs more : List A) (x : A) (rest : List A) → more ≡ xs ++ x ∷ [] → more ++ rest ≡ xs ++ x ∷ rest
append_one xs more x rest is = ap (λ ys. ys ++ rest) is ∙ append_assoc xs (x ∷ []) rest

abbrev own_row : VehicleKey × Vehicle → VehicleKey × VehicleRow
own_row entry = (entry.0, entry.1.row)

keys_same : (es : List (VehicleKey × Vehicle)) → keys_of (map own_row es) ≡ keys_of es
keys_same [] = refl
keys_same (e ∷ es) = ap (λ ks. e.0 ∷ ks) (keys_same es)

below_same : (key : VehicleKey) (es : List (VehicleKey × Vehicle)) → below_all key_cmp key (map own_row es) ≡ below_all key_cmp key es
below_same key [] = refl
below_same key (e ∷ es) = ap (λ b. is_lt (key_cmp key e.0) && b) (below_same key es)

sorted_same : (es : List (VehicleKey × Vehicle)) → is_sorted key_cmp (map own_row es) ≡ is_sorted key_cmp es
sorted_same [] = refl
sorted_same (e ∷ es) = λ i. below_same e.0 es i && sorted_same es i

-- the table of vehicles has the row of each vehicle
rows_same : (world : World) → finite.entries (maps_of world).vehicles ≡ map own_row (finite.entries world.vehicles)
unfolding spread
rows_same world =
    let es = finite.entries world.vehicles in
    ap (λ (rows : List (VehicleKey × VehicleRow)). finite.entries (finite.from_entries {R = key_cmp} rows)) (flat_map_single own_row es)
    ∙ listed_again key_cmp-total key_cmp-IsAntisymmetric (map own_row es) (subst T (sym (sorted_same es)) (finite.entries_sorted world.vehicles))

pub vehicles_same : (world : World) → keys_of (finite.entries (maps_of world).vehicles) ≡ keys_of (finite.entries world.vehicles)
vehicles_same world = ap keys_of (rows_same world) ∙ keys_same (finite.entries world.vehicles)

-- the vehicles with their trips
trip_in : (world : World) (es : List (VehicleKey × Vehicle)) → AllByRecursion (λ (e : VehicleKey × Vehicle). finite.get world.vehicles e.0 ≡ Some e.1) es
    → map (with_trip world) (map own_row es) ≡ map (λ (e : VehicleKey × Vehicle). record { key = e.0; row = e.1.row; trip = e.1.trip }) es
trip_in world [] found = refl
trip_in world (e ∷ es) found = λ i. record { key = e.0; row = e.1.row; trip = option_and_then (λ (vehicle : Vehicle). vehicle.trip) (found.0 i) } ∷ trip_in world es found.1 i

pub trips_same : (world : World) → map (with_trip world) (finite.entries (maps_of world).vehicles) ≡ vehicles_told world
trips_same world = ap (map (with_trip world)) (rows_same world) ∙ trip_in world (finite.entries world.vehicles) (entries_found key_cmp-total world.vehicles)

-- one vehicle more is listed
pub one_more_vehicle : (world now : World) (entry : VehicleKey × VehicleRow) (trip : Option Trip) (so_far more : List VehicleTold) (rest : List (VehicleKey × VehicleRow)) (all : List VehicleTold) → now ≡ world
    → trip ≡ trip_of now entry.0 → more ≡ so_far ++ record { key = entry.0; row = entry.1; trip = trip } ∷ [] → so_far ++ map (with_trip world) (entry ∷ rest) ≡ all → more ++ map (with_trip world) rest ≡ all
one_more_vehicle world now entry trip so_far more rest all same told pushed before =
    append_one so_far more (record { key = entry.0; row = entry.1; trip = trip }) (map (with_trip world) rest) pushed
    ∙ ap (λ (t : Option Trip). so_far ++ record { key = entry.0; row = entry.1; trip = t } ∷ map (with_trip world) rest) (told ∙ ap (λ (w : World). trip_of w entry.0) same)
    ∙ before

-- ---- the layout

none_given : (r : Result Layout LayoutFault) → ((layout : Layout) → ¬ (r ≡ Ok layout)) → rows_of (given r) ≡ []
none_given (Ok layout) none = absurd (none layout refl)
none_given (Err why) none = refl

none_listed : {X : Type 0} → finite.entries (finite.empty {X = X} {R = name_cmp}) ≡ []
none_listed {X} = nil_from_length _ (sym (finite.len-entries _) ∙ finite.len-empty name_cmp X)

no_names : (names : List (List ℕ)) → ((q : List ℕ) → list_any (eq_by_cmp name_cmp q) names ≡ false) → names ≡ []
no_names [] none = refl
no_names (name ∷ names) none = absurd (cc (sym (none name) ∙ ap (λ o. is_eq o || list_any (eq_by_cmp name_cmp name) names) (tied_itself names_total name)))

no_nodes : set.items (set.empty {R = name_cmp}) ≡ []
no_nodes = no_names _ (λ q. sym (set.contains-items set.empty q) ∙ set.contains-empty name_cmp q)

none_laid : rows_in empty_layout ≡ []
none_laid =
    (λ i. map (λ id. row.Node id) (finite.keys (finite.from_entries {X = ⊤} {R = name_cmp} (map (λ id. (id, tt)) (no_nodes i)))) ++ (map edge_row (none_listed i) ++ map station_row (none_listed i)))
    ∙ ap (λ (es : List (List ℕ × ⊤)). map (λ (id : List ℕ). row.Node id) (map (λ (e : List ℕ × ⊤). e.0) es) ++ []) none_listed

-- the layout that is set has the rows of the world's
pub rows_given : GivesItself → NeedsANode → (world : World) → (world.layout ≡ empty_layout) ⊎ KeepsRules world.layout → rows_of (layout_set world) ≡ rows_in world.layout
unfolding layout_set
rows_given gives needs world (inl empty) = none_given (layout_of (rows_in world.layout)) (λ layout. needs world.layout layout (ap (λ (l : Layout). l.nodes) empty)) ∙ sym (ap rows_in empty ∙ none_laid)
rows_given gives needs world (inr rules) = ap (λ (r : Result Layout LayoutFault). rows_of (given r)) (gives world.layout rules)

-- ---- numbers

pub few_jobs : (world : World) (station : List ℕ) → IsLawful desk_seats world → reserved world station < 2 ^ 32
unfolding reserved
few_jobs world station lawful =
    let some : reserved world station ≤ length (finite.entries world.jobs) = count_by-le-length (λ (job : List ℕ × JobRow). is_live_to station job.1) (finite.entries world.jobs) in
    let all : length (finite.entries world.jobs) ≤ 1000000 = subst (λ n. n ≤ 1000000) (finite.len-entries world.jobs) lawful.limits.few_jobs in
    omega (arith, some, all)

few_laid : (layout : Layout) → (layout ≡ empty_layout) ⊎ KeepsRules layout → set.len layout.nodes + finite.len layout.edges ≤ 2000
few_laid layout (inl empty) =
    subst (λ (l : Layout). set.len l.nodes + finite.len l.edges ≤ 2000) (sym empty)
    (let nodes = set.len-empty name_cmp in let edges = finite.len-empty name_cmp EdgeEnds in omega (arith, nodes, edges))
few_laid layout (inr rules) = let nodes = rules.few_nodes in let edges = rules.few_edges in omega (arith, nodes, edges)

pub few_things : (world : World) → IsLawful desk_seats world → set.len world.layout.nodes + finite.len world.layout.edges ≤ 2000
few_things world lawful = few_laid world.layout lawful.limits.laid

-- nodes and edges, counted together
pub counted : (nodes edges n m sum told : ℕ) → nodes + edges ≤ 2000 → n ≡ nodes → m ≡ edges → sum ≡ min (n + m) (2 ^ 64 - 1) → (sum < 2 ^ 32 → told ≡ sum) → told ≡ nodes + edges
counted nodes edges n m sum told few n_is m_is sum_is told_is =
    let sum_so : sum ≡ nodes + edges = omega (arith, few, n_is, m_is, sum_is) in
    let low : sum < 2 ^ 32 = omega (arith, few, sum_so) in
    told_is low ∙ sum_so

-- ---- the stations

-- a station with its name, and the live jobs to it
abbrev pub with_jobs_to : World → List ℕ × StationSite → Station × ℕ
with_jobs_to world site = (station_of site.0 site.1, reserved world site.0)

-- one station more is listed
pub one_more_station : (world now : World) (sites : List (List ℕ × StationSite)) (i : ℕ) (site : List ℕ × StationSite) (jobs : ℕ) (so_far more : List (Station × ℕ)) → now ≡ world
    → i < length sites → site ≡ get_or sites i site → (IsLawful desk_seats now → jobs ≡ reserved now site.0) → more ≡ so_far ++ (station_of site.0 site.1, jobs) ∷ []
    → (IsLawful desk_seats world → so_far ++ map (with_jobs_to world) (drop i sites) ≡ map (with_jobs_to world) sites)
    → IsLawful desk_seats world → more ++ map (with_jobs_to world) (drop (i + 1) sites) ≡ map (with_jobs_to world) sites
one_more_station world now sites i site jobs so_far more same low is told pushed before lawful =
    let jobs_are : jobs ≡ reserved world site.0 = told (subst (IsLawful desk_seats) (sym same) lawful) ∙ ap (λ (w : World). reserved w site.0) same in
    append_one so_far more (station_of site.0 site.1, jobs) (map (with_jobs_to world) (drop (i + 1) sites)) pushed
    ∙ ap (λ (n : ℕ). so_far ++ (station_of site.0 site.1, n) ∷ map (with_jobs_to world) (drop (i + 1) sites)) jobs_are
    ∙ ap (λ (x : List ℕ × StationSite). so_far ++ with_jobs_to world x ∷ map (with_jobs_to world) (drop (i + 1) sites)) is
    ∙ sym (at_drop_more (λ (xs : List (List ℕ × StationSite)). so_far ++ map (with_jobs_to world) xs) sites i site low)
    ∙ before lawful
