-- The rows of the open trips of the first schema: a row that tells a trip is its row, and those of a lawful world tell its trips.
use Rattle.std.proofs.Common.{◌≡◌, ◌++◌, ℕ, ◌≤◌, List, [], ◌∷◌, flat_map, map, Option, None, Some, IfSome, IsPermutation, slice_get, refl, sym, ap, ap₂, subst, ◌∙◌, arith}
use Rattle.std.proofs.lemmas.Option.{same_Some}
use Rattle.std.specs.Cmp.Lexicographic.{nat_list_cmp_total}
use Rattle.std.specs.FinMap as finite
use Rattle.std.specs.List.{AllByRecursion}
use Rattle.std.specs.Option.{option_and_then, option_map}
use Rattle.sqlite_trees.proofs.ListLemmas.{all_weaker}
use Rattle.sqlite_value.specs.Order.{Row}
use Rattle.agv_header.specs.Name.{IsName, name_cmp}
use Rattle.agv_message_core.specs.declared.order.ActKind.TheVariants.{Pick, Drop}
use Rattle.agv_order.specs.declared.act.Act.{Act}
use Rattle.agv_store_rows.specs.RowValues.{IsActKey, IsActValue, IsJourneyValue}
use Rattle.agv_store_rows.specs.TripRows as rows_of_trips
use Rattle.agv_store_rows.specs.TripRows.{act_row, journey_of, journeys_of}
use Rattle.agv_store_rows.specs.declared.act_key.ActKey.{ActKey}
use Rattle.agv_store_rows.specs.declared.act_row.ActRow.{ActRow}
use Rattle.agv_store_rows.specs.declared.journey_row.JourneyRow.{JourneyRow}
use Rattle.agv_world_core.specs.Lawful.{IsKey, IsLawful}
use Rattle.agv_world_core.specs.Maps.{Maps, maps_of}
use Rattle.agv_world_core.specs.Worlds.{World}
use Rattle.agv_world_core.specs.declared.row.JobRow.{JobRow}
use Rattle.agv_world_core.specs.declared.row.TripRow.{TripRow}
use Rattle.agv_store_rows.specs.ValueEncodings.{if_some}
use Rattle.agv_store_rows.specs.TypedRows.{IsNumber}
use Rattle.agv_store_read.specs.ReadTables.{read_rows}
use Rattle.agv_store_rows.specs.Rows.{row_if}
use Rattle.agv_store_migrate.specs.FirstColumns.{trip_columns, trip_in, trip_with}
use Rattle.agv_store_migrate.specs.FirstRows.{trip_rows}
use Rattle.agv_store_migrate.specs.TripLines.{line_of, trip_told}
use Rattle.agv_store_migrate.specs.declared.trip_line.TripLine.{TripLine}
use Rattle.agv_store_migrate.proofs.CarriedSingly.{CarriesOneEach, IsTripOfJob}
use Rattle.agv_store_migrate.proofs.TripLineLemmas.{line_kept, trip_told_back}
use Rattle.agv_store_read.proofs.TableReading.{reads_all}
use Rattle.agv_store_rows.proofs.CellLemmas.{if_some_parts, name_kept, name_written, number_kept, number_written, status_kept, status_written}
use Rattle.agv_store_rows.proofs.ColumnsKept.{key_kept, maybe_number_kept}
use Rattle.agv_store_rows.proofs.ColumnsWritten.{all_columns, in_columns, key_written, maybe_number_written, next, some_same}
use Rattle.agv_store_schema.proofs.SpreadRows.{entries_found}
use Rattle.agv_store_rows.proofs.KeyTests.{names_apart}

-- ---- one row

-- names are names, and numbers are in their ranges
pub record IsTripLine (line : TripLine) : Type 0 where
  pub order : IsName line.order
  pub vehicle : IsKey line.vehicle
  pub job : IsName line.job
  pub start : IsName line.start
  pub first : IsNumber line.first
  pub base : IsNumber line.base
  pub sent : IsNumber line.sent
  pub confirmed : IfSome line.confirmed IsNumber
  pub seen : IsNumber line.seen
  pub pick_at : IsNumber line.pick_at
  pub drop_at : IsNumber line.drop_at

trip_kept : (line : TripLine) → IsTripLine line → trip_in (trip_columns line) ≡ Some line
unfolding trip_in
trip_kept line is =
    rw (name_kept line.order is.order, key_kept line.vehicle is.vehicle, name_kept line.job is.job, name_kept line.start is.start, number_kept line.first is.first, number_kept line.base is.base, number_kept line.sent is.sent, maybe_number_kept line.confirmed is.confirmed, number_kept line.seen is.seen, number_kept line.pick_at is.pick_at, number_kept line.drop_at is.drop_at, status_kept line.pick_status, status_kept line.drop_status)

trip_written : (row : Row) (line : TripLine) → trip_in row ≡ Some line → row ≡ trip_columns line
unfolding trip_in
trip_written row line e =
    let shape = in_columns 14 row _ _ e in
    let order = if_some_parts _ _ _ shape.1 in
    let keyed = if_some_parts _ _ _ order.2 in
    let keyed_cells = key_written _ _ keyed.0 keyed.1 in
    let job = if_some_parts _ _ _ keyed.2 in
    let start = if_some_parts _ _ _ job.2 in
    let first = if_some_parts _ _ _ start.2 in
    let base = if_some_parts _ _ _ first.2 in
    let sent = if_some_parts _ _ _ base.2 in
    let confirmed = if_some_parts _ _ _ sent.2 in
    let seen = if_some_parts _ _ _ confirmed.2 in
    let pick_at = if_some_parts _ _ _ seen.2 in
    let drop_at = if_some_parts _ _ _ pick_at.2 in
    let pick_status = if_some_parts _ _ _ drop_at.2 in
    let drop_status = if_some_parts _ _ _ pick_status.2 in
    all_columns 14 row shape.0 ∙ next (name_written _ order.0 order.1) (next keyed_cells.0 (next keyed_cells.1 (next (name_written _ job.0 job.1) (next (name_written _ start.0 start.1) (next (number_written _ first.0 first.1) (next (number_written _ base.0 base.1) (next (number_written _ sent.0 sent.1) (next (maybe_number_written _ confirmed.0 confirmed.1) (next (number_written _ seen.0 seen.1) (next (number_written _ pick_at.0 pick_at.1) (next (number_written _ drop_at.0 drop_at.1) (next (status_written _ pick_status.0 pick_status.1) (next (status_written _ drop_status.0 drop_status.1) refl))))))))))))) ∙ ap trip_columns (some_same drop_status.2)

-- a row that tells a trip is its row
pub trip_row_written : (jobs : finite.FinMap name_cmp JobRow) (row : Row) (e : List ℕ × TripRow) → trip_with jobs row ≡ Some e → row_if trip_columns (line_of e.0 e.1) ≡ row ∷ []
trip_row_written jobs row e is =
    elim (trip_in row) as (λ (o : Option TripLine). trip_in row ≡ o → if_some o (λ l. if_some (finite.get jobs l.job) (λ job. Some (l.order, trip_told l job))) ≡ Some e → row_if trip_columns (line_of e.0 e.1) ≡ row ∷ []) [
      | None ↦ λ _ found. absurd (cc found)
      | Some line ↦ λ from. elim (finite.get jobs line.job) as (λ (o : Option JobRow). if_some o (λ job. Some (line.order, trip_told line job)) ≡ Some e → row_if trip_columns (line_of e.0 e.1) ≡ row ∷ []) [
        | None ↦ λ found. absurd (cc found)
        | Some job ↦ λ found.
            let same : (line.order, trip_told line job) ≡ e = same_Some (line.order, trip_told line job) e found in
            ap (λ (x : List ℕ × TripRow). row_if trip_columns (line_of x.0 x.1)) (sym same)
            ∙ ap (row_if trip_columns) (line_kept line job)
            ∙ ap (λ (r : Row). r ∷ []) (sym (trip_written row line from))
      ]
    ] refl is

-- ---- the trips of a lawful world

-- the rows of trips and their acts have values: names are names, and numbers are low
pub record HaveValues (trips : finite.FinMap name_cmp TripRow) : Type 0 where
  pub journeys : (order : List ℕ) (trip : TripRow) → finite.get trips order ≡ Some trip → IsName order × IsJourneyValue (journey_of trip)
  pub acts : (order : List ℕ) (trip : TripRow) (k : ℕ) (act : Act) → finite.get trips order ≡ Some trip → slice_get trip.acts k ≡ Some act → IsActValue (act_row act)

low : (n : ℕ) → n ≤ 200 → IsNumber n
low n is = omega arith

low_if : (o : Option ℕ) → ((n : ℕ) → o ≡ Some n → n ≤ 200) → IfSome o IsNumber
low_if None each = tt
low_if (Some n) each = low n (each n refl)

-- the row of a trip that has a line
row_or : Option TripLine → Row
row_or None = []
row_or (Some line) = trip_columns line

abbrev columns_of : List ℕ → TripRow → Row
columns_of order trip = row_or (line_of order trip)

abbrev HasLine : List ℕ × TripRow → Type 0
HasLine e = (line : TripLine) × (line_of e.0 e.1 ≡ Some line)

one_row : (o : Option TripLine) (line : TripLine) → o ≡ Some line → row_if trip_columns o ≡ row_or o ∷ []
unfolding row_or
one_row None line is = absurd (cc is)
one_row (Some other) line is = refl

lined : (es : List (List ℕ × TripRow)) → AllByRecursion HasLine es → flat_map (λ (e : List ℕ × TripRow). row_if trip_columns (line_of e.0 e.1)) es ≡ map (λ (e : List ℕ × TripRow). columns_of e.0 e.1) es
lined [] are = refl
lined (e ∷ es) are = ap₂ ◌++◌ (one_row (line_of e.0 e.1) are.0.0 are.0.1) (lined es are.1)

module _ (maps : Maps) (single : CarriesOneEach maps) (values : HaveValues maps.trips) where
  typed : (order : List ℕ) (trip : TripRow) → finite.get maps.trips order ≡ Some trip → (one : IsTripOfJob maps order trip) → IsTripLine one.line
  typed order trip at one =
      let line = one.line in
      let its = trip_told line one.job in
      let there : finite.get maps.trips order ≡ Some its = at ∙ ap Some (sym one.told) in
      let journey = values.journeys order its there in
      let pick : IsActValue (act_row (record { kind = Pick; job = line.job; load = one.job.load; station = one.job.origin; place_at = line.pick_at; status = line.pick_status })) = values.acts order its 0 _ there refl in
      let dropped : IsActValue (act_row (record { kind = Drop; job = line.job; load = one.job.load; station = one.job.target; place_at = line.drop_at; status = line.drop_status })) = values.acts order its 1 _ there refl in
      record {
        order = subst IsName (sym (trip_told_back order trip line one.is).order) journey.0;
        vehicle = journey.1.vehicle;
        job = pick.job;
        start = journey.1.start;
        first = low line.first journey.1.first;
        base = low line.base journey.1.base;
        sent = low line.sent journey.1.sent;
        confirmed = low_if line.confirmed journey.1.confirmed;
        seen = low line.seen journey.1.seen;
        pick_at = low line.pick_at pick.place_at;
        drop_at = low line.drop_at dropped.place_at;
      }

  trip_there : (order : List ℕ) (trip : TripRow) → finite.get maps.trips order ≡ Some trip → trip_with maps.jobs (columns_of order trip) ≡ Some (order, trip)
  unfolding row_or
  trip_there order trip at =
      let one = single.trips order trip at in
      let line = one.line in
      let named = (trip_told_back order trip line one.is).order in
      ap (λ (o : Option TripLine). trip_with maps.jobs (row_or o)) one.is
      ∙ ap (λ (o : Option TripLine). if_some o (λ l. if_some (finite.get maps.jobs l.job) (λ job. Some (l.order, trip_told l job)))) (trip_kept line (typed order trip at one))
      ∙ ap (λ (o : Option JobRow). if_some o (λ job. Some (line.order, trip_told line job))) one.known
      ∙ (λ i. Some (named i, one.told i))

  -- all rows of trips, in any order, give them
  pub reads_trips : (shown : List Row) → IsPermutation (trip_rows maps.trips) shown → read_rows (trip_with maps.jobs) finite.empty shown ≡ Some maps.trips
  reads_trips shown same =
      let have = all_weaker _ HasLine (λ e at. let one = single.trips e.0 e.1 at in (one.line, one.is)) (finite.entries maps.trips) (entries_found nat_list_cmp_total maps.trips) in
      reads_all nat_list_cmp_total names_apart maps.trips columns_of (trip_with maps.jobs) trip_there shown (subst (λ l. IsPermutation l shown) (lined (finite.entries maps.trips) have) same)

-- ---- the values of a lawful world's rows, as the laws of journeys and acts have them

abbrev pub JourneysHaveValues : Type 0
JourneysHaveValues =
    (seats : ℕ) (world : World) → IsLawful seats world → (order : List ℕ) (row : JourneyRow) → finite.get (journeys_of (maps_of world).trips) order ≡ Some row → IsName order × IsJourneyValue row

abbrev pub ActsHaveValues : Type 0
ActsHaveValues = (seats : ℕ) (world : World) → IsLawful seats world → (key : ActKey) (row : ActRow) → finite.get (rows_of_trips.acts_of (maps_of world).trips) key ≡ Some row → IsActKey key × IsActValue row

abbrev pub JourneysAreOfTrips : Type 0
JourneysAreOfTrips = (trips : finite.FinMap name_cmp TripRow) (order : List ℕ) → finite.get (journeys_of trips) order ≡ option_map journey_of (finite.get trips order)

abbrev pub ActsAreOfTrips : Type 0
ActsAreOfTrips =
    (trips : finite.FinMap name_cmp TripRow) (key : ActKey) → finite.get (rows_of_trips.acts_of trips) key ≡ option_and_then (λ trip. option_map act_row (slice_get trip.acts key.n)) (finite.get trips key.order)

pub values_by : JourneysHaveValues → ActsHaveValues → JourneysAreOfTrips → ActsAreOfTrips → (world : World) → IsLawful 1 world → HaveValues (maps_of world).trips
values_by journeys acts journeys_of_trips acts_of_trips world lawful =
    let trips = (maps_of world).trips in
    record {
      journeys = λ order trip at. journeys 1 world lawful order (journey_of trip) (journeys_of_trips trips order ∙ ap (option_map journey_of) at);
      acts = λ order trip k act at is.
          let key : ActKey = record { order = order; n = k } in
          (acts 1 world lawful key (act_row act)
          (acts_of_trips trips key ∙ ap (option_and_then (λ (t : TripRow). option_map act_row (slice_get t.acts k))) at ∙ ap (option_map act_row) is)).1;
    }
