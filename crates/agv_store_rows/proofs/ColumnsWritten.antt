-- The columns that tell a row of the world are those that the row writes.
use Rattle.std.proofs.Common.{◌≡◌, ◌==◌, ℕ, zero, suc, pos, Bool, true, false, cond, List, [], ◌∷◌, length, Option, None, Some, refl, ap, ap₂, ◌∙◌, arith}
use Rattle.std.proofs.lemmas.Bool.{eqb-true}
use Rattle.sqlite.specs.Values.{or_null}
use Rattle.sqlite_value.specs.Order.{Row, column}
use Rattle.sqlite_value.specs.declared.value.Value.{Value}
use Rattle.sqlite_value.specs.declared.value.Value.TheVariants.{Int, Text}
use Rattle.agv_header.specs.declared.key.Thing.{Thing}
use Rattle.agv_header.specs.declared.key.VehicleKey.{VehicleKey}
use Rattle.agv_layout.specs.declared.edge.EdgeEnds.{EdgeEnds}
use Rattle.agv_layout.specs.declared.station.StationSite.{StationSite}
use Rattle.agv_message_core.specs.Instant.{instant_name}
use Rattle.agv_message_core.specs.declared.instant.InstantKind.{InstantKind}
use Rattle.agv_stock.specs.declared.place.Place.{Place}
use Rattle.agv_store_rows.specs.declared.act_key.ActKey.{ActKey}
use Rattle.agv_store_rows.specs.declared.act_row.ActRow.{ActRow}
use Rattle.agv_store_rows.specs.declared.journey_row.JourneyRow.{JourneyRow}
use Rattle.agv_world_core.specs.declared.key.LegKey.{LegKey}
use Rattle.agv_world_core.specs.declared.key.UseKey.{UseKey}
use Rattle.agv_world_core.specs.declared.row.JobRow.{JobRow}
use Rattle.agv_world_core.specs.declared.row.Sent.{Sent}
use Rattle.agv_world_core.specs.declared.row.VehicleRow.{VehicleRow}
use Rattle.agv_store_rows.specs.ValueEncodings.{name_in, number_cell, number_in, instant_in, maybe_in, place_name, thing_name}
use Rattle.agv_store_rows.specs.Columns.{if_columns, meta_columns, meta_in, node_columns, node_in, edge_columns, edge_in, station_columns, station_in, key_in, rest_of, rest_in, sent_in, vehicle_columns, vehicle_in, capacity_columns, capacity_in, journey_columns, journey_in, act_columns, act_in, leg_columns, leg_in, place_of, load_columns, load_in, job_columns, job_in, thing_of, hold_columns, hold_in, used_columns, used_in}
use Rattle.agv_store_rows.specs.declared.capacity_row.CapacityRow.{CapacityRow}
use Rattle.agv_store_rows.specs.declared.words.PlaceKind.{PlaceKind}
use Rattle.agv_store_rows.specs.declared.words.PlaceKind.TheVariants as kind
use Rattle.agv_store_rows.specs.declared.words.ThingKind.{ThingKind}
use Rattle.agv_store_rows.specs.declared.words.ThingKind.TheVariants as held
use Rattle.agv_store_rows.proofs.CellLemmas.{if_some_parts, name_written, number_written, moment_written, flag_written, phase_written, status_written, instant_written, act_kind_written, use_written, place_kind_written, thing_kind_written, maybe_written}

-- ---- columns one by one

-- the first values of a numbering
abbrev listed : ℕ → (ℕ → Value) → Row
listed zero value = []
listed (suc n) value = value 0 ∷ listed n (λ i. value (suc i))

pub all_columns : (n : ℕ) (row : Row) → length row ≡ n → row ≡ listed n (column row)
all_columns zero [] h = refl
all_columns zero (v ∷ row) h = absurd (omega arith)
all_columns (suc n) [] h = absurd (omega arith)
all_columns (suc n) (v ∷ row) h = ap₂ ◌∷◌ refl (all_columns n row (omega arith))

pub next : {v w : Value} {row more : Row} → v ≡ w → row ≡ more → v ∷ row ≡ w ∷ more
next same rest = ap₂ ◌∷◌ same rest

pub some_same : {A : Type 0} {x y : A} → ◌≡◌ {A = Option A} (Some x) (Some y) → x ≡ y
some_same e = cc e

pub in_columns : {A : Type 0} (n : ℕ) (row : Row) (told : Option A) (x : A) → if_columns n row told ≡ Some x → (length row ≡ n) × (told ≡ Some x)
in_columns {A} n row told x e = tested (length row == n) refl e
  where
    tested : (b : Bool) → (length row == n) ≡ b → cond b told None ≡ Some x → (length row ≡ n) × (told ≡ Some x)
    tested true h same = (eqb-true (length row) n h, same)
    tested false h same = absurd (cc same)

-- ---- parts

maybe_name_written : (v : Value) (name : Option (List ℕ)) → maybe_in name_in v ≡ Some name → v ≡ or_null Text name
maybe_name_written v name e = maybe_written name_in Text name_written v name e

pub maybe_number_written : (v : Value) (n : Option ℕ) → maybe_in number_in v ≡ Some n → v ≡ or_null number_cell n
maybe_number_written v n e = maybe_written number_in number_cell number_written v n e

pub key_written : (a b : Value) (key : VehicleKey) → key_in a b ≡ Some key → (a ≡ Text key.manufacturer) × (b ≡ Text key.serial)
unfolding key_in
key_written a b key e =
    let m = if_some_parts _ _ _ e in
    let s = if_some_parts _ _ _ m.2 in
    let same = some_same s.2 in
    (name_written a m.0 m.1 ∙ ap (λ (k : VehicleKey). Text k.manufacturer) same, name_written b s.0 s.1 ∙ ap (λ (k : VehicleKey). Text k.serial) same)

maybe_instant_written : (v : Value) (kind : Option InstantKind) → maybe_in instant_in v ≡ Some kind → v ≡ or_null (λ kind. Text (instant_name kind)) kind
maybe_instant_written v kind e = maybe_written instant_in (λ kind. Text (instant_name kind)) instant_written v kind e

abbrev edge_cell : Option (List ℕ × List ℕ) → Value
edge_cell = or_null (λ (rest : List ℕ × List ℕ). Text rest.0)

abbrev node_cell : Option (List ℕ × List ℕ) → Value
node_cell = or_null (λ (rest : List ℕ × List ℕ). Text rest.1)

rest_of_written : (edge node : Option (List ℕ)) (rest : Option (List ℕ × List ℕ)) → rest_of edge node ≡ Some rest → (or_null Text edge ≡ edge_cell rest) × (or_null Text node ≡ node_cell rest)
rest_of_written None None rest e = let same = some_same e in (ap edge_cell same, ap node_cell same)
rest_of_written None (Some node) rest e = absurd (cc e)
rest_of_written (Some edge) None rest e = absurd (cc e)
rest_of_written (Some edge) (Some node) rest e = let same = some_same e in (ap edge_cell same, ap node_cell same)

rest_written : (a b : Value) (rest : Option (List ℕ × List ℕ)) → rest_in a b ≡ Some rest → (a ≡ edge_cell rest) × (b ≡ node_cell rest)
unfolding rest_in
rest_written a b rest e =
    let edge = if_some_parts _ _ _ e in
    let node = if_some_parts _ _ _ edge.2 in
    let both = rest_of_written edge.0 node.0 rest node.2 in
    (maybe_name_written a edge.0 edge.1 ∙ both.0, maybe_name_written b node.0 node.1 ∙ both.1)

sent_written : (a b : Value) (sent : Sent) → sent_in a b ≡ Some sent → (a ≡ number_cell sent.count) × (b ≡ Int (pos sent.at))
unfolding sent_in
sent_written a b sent e =
    let count = if_some_parts _ _ _ e in
    let at = if_some_parts _ _ _ count.2 in
    let same = some_same at.2 in
    (number_written a count.0 count.1 ∙ ap (λ (s : Sent). number_cell s.count) same, moment_written b at.0 at.1 ∙ ap (λ (s : Sent). Int (pos s.at)) same)

place_written : (id : List ℕ) (kind : PlaceKind) (station manufacturer serial : Option (List ℕ)) (place : Place) → place_of kind station manufacturer serial ≡ Some place
    → Text id ∷ Text (place_name kind) ∷ or_null Text station ∷ or_null Text manufacturer ∷ or_null Text serial ∷ [] ≡ load_columns id place
place_written id kind.Station None None None place e = absurd (cc e)
place_written id kind.Station None None (Some serial) place e = absurd (cc e)
place_written id kind.Station None (Some manufacturer) None place e = absurd (cc e)
place_written id kind.Station None (Some manufacturer) (Some serial) place e = absurd (cc e)
place_written id kind.Station (Some station) None None place e = ap (load_columns id) (some_same e)
place_written id kind.Station (Some station) None (Some serial) place e = absurd (cc e)
place_written id kind.Station (Some station) (Some manufacturer) None place e = absurd (cc e)
place_written id kind.Station (Some station) (Some manufacturer) (Some serial) place e = absurd (cc e)
place_written id kind.Vehicle None None None place e = absurd (cc e)
place_written id kind.Vehicle None None (Some serial) place e = absurd (cc e)
place_written id kind.Vehicle None (Some manufacturer) None place e = absurd (cc e)
place_written id kind.Vehicle None (Some manufacturer) (Some serial) place e = ap (load_columns id) (some_same e)
place_written id kind.Vehicle (Some station) None None place e = absurd (cc e)
place_written id kind.Vehicle (Some station) None (Some serial) place e = absurd (cc e)
place_written id kind.Vehicle (Some station) (Some manufacturer) None place e = absurd (cc e)
place_written id kind.Vehicle (Some station) (Some manufacturer) (Some serial) place e = absurd (cc e)
place_written id kind.Checking None None None place e = ap (load_columns id) (some_same e)
place_written id kind.Checking None None (Some serial) place e = absurd (cc e)
place_written id kind.Checking None (Some manufacturer) None place e = absurd (cc e)
place_written id kind.Checking None (Some manufacturer) (Some serial) place e = absurd (cc e)
place_written id kind.Checking (Some station) None None place e = absurd (cc e)
place_written id kind.Checking (Some station) None (Some serial) place e = absurd (cc e)
place_written id kind.Checking (Some station) (Some manufacturer) None place e = absurd (cc e)
place_written id kind.Checking (Some station) (Some manufacturer) (Some serial) place e = absurd (cc e)
place_written id kind.Left None None None place e = ap (load_columns id) (some_same e)
place_written id kind.Left None None (Some serial) place e = absurd (cc e)
place_written id kind.Left None (Some manufacturer) None place e = absurd (cc e)
place_written id kind.Left None (Some manufacturer) (Some serial) place e = absurd (cc e)
place_written id kind.Left (Some station) None None place e = absurd (cc e)
place_written id kind.Left (Some station) None (Some serial) place e = absurd (cc e)
place_written id kind.Left (Some station) (Some manufacturer) None place e = absurd (cc e)
place_written id kind.Left (Some station) (Some manufacturer) (Some serial) place e = absurd (cc e)

thing_written : (kind : ThingKind) (id : List ℕ) (key : VehicleKey) → Text (thing_name kind) ∷ Text id ∷ Text key.manufacturer ∷ Text key.serial ∷ [] ≡ hold_columns (thing_of kind id) key
thing_written held.Node id key = refl
thing_written held.Edge id key = refl

-- ---- rows

pub meta_written : (row : Row) (id : ℕ) (schema : ℕ) → meta_in row ≡ Some (id, schema) → row ≡ meta_columns id schema
meta_written row id schema e =
    let shape = in_columns 2 row _ _ e in
    let a = if_some_parts _ _ _ shape.1 in
    let b = if_some_parts _ _ _ a.2 in
    all_columns 2 row shape.0 ∙ next (number_written _ a.0 a.1) (next (number_written _ b.0 b.1) refl) ∙ ap (λ (p : ℕ × ℕ). meta_columns p.0 p.1) (some_same b.2)

pub node_written : (row : Row) (id : List ℕ) → node_in row ≡ Some id → row ≡ node_columns id
node_written row id e =
    let shape = in_columns 1 row _ _ e in
    all_columns 1 row shape.0 ∙ next (name_written _ id shape.1) refl

pub edge_written : (row : Row) (id : List ℕ) (ends : EdgeEnds) → edge_in row ≡ Some (id, ends) → row ≡ edge_columns id ends
edge_written row id ends e =
    let shape = in_columns 3 row _ _ e in
    let a = if_some_parts _ _ _ shape.1 in
    let b = if_some_parts _ _ _ a.2 in
    let c = if_some_parts _ _ _ b.2 in
    all_columns 3 row shape.0 ∙ next (name_written _ a.0 a.1) (next (name_written _ b.0 b.1) (next (name_written _ c.0 c.1) refl)) ∙ ap (λ (p : List ℕ × EdgeEnds). edge_columns p.0 p.1) (some_same c.2)

pub station_written : (row : Row) (id : List ℕ) (site : StationSite) → station_in row ≡ Some (id, site) → row ≡ station_columns id site
station_written row id site e =
    let shape = in_columns 3 row _ _ e in
    let a = if_some_parts _ _ _ shape.1 in
    let b = if_some_parts _ _ _ a.2 in
    let c = if_some_parts _ _ _ b.2 in
    all_columns 3 row shape.0 ∙ next (name_written _ a.0 a.1) (next (name_written _ b.0 b.1) (next (number_written _ c.0 c.1) refl)) ∙ ap (λ (p : List ℕ × StationSite). station_columns p.0 p.1) (some_same c.2)

pub vehicle_written : (row : Row) (key : VehicleKey) (vehicle : VehicleRow) → vehicle_in row ≡ Some (key, vehicle) → row ≡ vehicle_columns key vehicle
unfolding vehicle_in
vehicle_written row key vehicle e =
    let shape = in_columns 14 row _ _ e in
    let keyed = if_some_parts _ _ _ shape.1 in
    let keyed_cells = key_written _ _ keyed.0 keyed.1 in
    let at = if_some_parts _ _ _ keyed.2 in
    let rest = if_some_parts _ _ _ at.2 in
    let rest_cells = rest_written _ _ rest.0 rest.1 in
    let last = if_some_parts _ _ _ rest.2 in
    let reported = if_some_parts _ _ _ last.2 in
    let ready = if_some_parts _ _ _ reported.2 in
    let paused = if_some_parts _ _ _ ready.2 in
    let orders = if_some_parts _ _ _ paused.2 in
    let orders_cells = sent_written _ _ orders.0 orders.1 in
    let instants = if_some_parts _ _ _ orders.2 in
    let instants_cells = sent_written _ _ instants.0 instants.1 in
    let pending = if_some_parts _ _ _ instants.2 in
    all_columns 14 row shape.0 ∙ next keyed_cells.0 (next keyed_cells.1 (next (name_written _ at.0 at.1) (next rest_cells.0 (next rest_cells.1 (next (maybe_number_written _ last.0 last.1) (next (maybe_name_written _ reported.0 reported.1) (next (flag_written _ ready.0 ready.1) (next (flag_written _ paused.0 paused.1) (next orders_cells.0 (next orders_cells.1 (next instants_cells.0 (next instants_cells.1 (next (maybe_instant_written _ pending.0 pending.1) refl))))))))))))) ∙ ap (λ (p : VehicleKey × VehicleRow). vehicle_columns p.0 p.1) (some_same pending.2)

pub capacity_written : (row : Row) (key : VehicleKey) (own : CapacityRow) → capacity_in row ≡ Some (key, own) → row ≡ capacity_columns key own
unfolding capacity_in
capacity_written row key own e =
    let shape = in_columns 3 row _ _ e in
    let keyed = if_some_parts _ _ _ shape.1 in
    let keyed_cells = key_written _ _ keyed.0 keyed.1 in
    let capacity = if_some_parts _ _ _ keyed.2 in
    all_columns 3 row shape.0 ∙ next keyed_cells.0 (next keyed_cells.1 (next (number_written _ capacity.0 capacity.1) refl)) ∙ ap (λ (p : VehicleKey × CapacityRow). capacity_columns p.0 p.1) (some_same capacity.2)

pub journey_written : (row : Row) (order : List ℕ) (journey : JourneyRow) → journey_in row ≡ Some (order, journey) → row ≡ journey_columns order journey
unfolding journey_in
journey_written row order journey e =
    let shape = in_columns 9 row _ _ e in
    let named = if_some_parts _ _ _ shape.1 in
    let keyed = if_some_parts _ _ _ named.2 in
    let keyed_cells = key_written _ _ keyed.0 keyed.1 in
    let start = if_some_parts _ _ _ keyed.2 in
    let first = if_some_parts _ _ _ start.2 in
    let base = if_some_parts _ _ _ first.2 in
    let sent = if_some_parts _ _ _ base.2 in
    let confirmed = if_some_parts _ _ _ sent.2 in
    let seen = if_some_parts _ _ _ confirmed.2 in
    all_columns 9 row shape.0 ∙ next (name_written _ named.0 named.1) (next keyed_cells.0 (next keyed_cells.1 (next (name_written _ start.0 start.1) (next (number_written _ first.0 first.1) (next (number_written _ base.0 base.1) (next (number_written _ sent.0 sent.1) (next (maybe_number_written _ confirmed.0 confirmed.1) (next (number_written _ seen.0 seen.1) refl)))))))) ∙ ap (λ (p : List ℕ × JourneyRow). journey_columns p.0 p.1) (some_same seen.2)

pub act_written : (row : Row) (key : ActKey) (act : ActRow) → act_in row ≡ Some (key, act) → row ≡ act_columns key act
unfolding act_in
act_written row key act e =
    let shape = in_columns 6 row _ _ e in
    let order = if_some_parts _ _ _ shape.1 in
    let n = if_some_parts _ _ _ order.2 in
    let job = if_some_parts _ _ _ n.2 in
    let of = if_some_parts _ _ _ job.2 in
    let place_at = if_some_parts _ _ _ of.2 in
    let reported = if_some_parts _ _ _ place_at.2 in
    all_columns 6 row shape.0 ∙ next (name_written _ order.0 order.1) (next (number_written _ n.0 n.1) (next (name_written _ job.0 job.1) (next (act_kind_written _ of.0 of.1) (next (number_written _ place_at.0 place_at.1) (next (status_written _ reported.0 reported.1) refl))))) ∙ ap (λ (p : ActKey × ActRow). act_columns p.0 p.1) (some_same reported.2)

pub leg_written : (row : Row) (key : LegKey) (edge : List ℕ) → leg_in row ≡ Some (key, edge) → row ≡ leg_columns key edge
leg_written row key edge e =
    let shape = in_columns 3 row _ _ e in
    let a = if_some_parts _ _ _ shape.1 in
    let b = if_some_parts _ _ _ a.2 in
    let c = if_some_parts _ _ _ b.2 in
    all_columns 3 row shape.0 ∙ next (name_written _ a.0 a.1) (next (number_written _ b.0 b.1) (next (name_written _ c.0 c.1) refl)) ∙ ap (λ (p : LegKey × List ℕ). leg_columns p.0 p.1) (some_same c.2)

pub load_written : (row : Row) (id : List ℕ) (place : Place) → load_in row ≡ Some (id, place) → row ≡ load_columns id place
unfolding load_in
load_written row id place e =
    let shape = in_columns 5 row _ _ e in
    let a = if_some_parts _ _ _ shape.1 in
    let of = if_some_parts _ _ _ a.2 in
    let station = if_some_parts _ _ _ of.2 in
    let manufacturer = if_some_parts _ _ _ station.2 in
    let serial = if_some_parts _ _ _ manufacturer.2 in
    let placed = if_some_parts _ _ _ serial.2 in
    all_columns 5 row shape.0 ∙ next (name_written _ a.0 a.1) (next (place_kind_written _ of.0 of.1) (next (maybe_name_written _ station.0 station.1) (next (maybe_name_written _ manufacturer.0 manufacturer.1) (next (maybe_name_written _ serial.0 serial.1) refl)))) ∙ place_written a.0 of.0 station.0 manufacturer.0 serial.0 placed.0 placed.1 ∙ ap (λ (p : List ℕ × Place). load_columns p.0 p.1) (some_same placed.2)

pub job_written : (row : Row) (id : List ℕ) (job : JobRow) → job_in row ≡ Some (id, job) → row ≡ job_columns id job
unfolding job_in
job_written row id job e =
    let shape = in_columns 5 row _ _ e in
    let a = if_some_parts _ _ _ shape.1 in
    let load = if_some_parts _ _ _ a.2 in
    let origin = if_some_parts _ _ _ load.2 in
    let target = if_some_parts _ _ _ origin.2 in
    let now = if_some_parts _ _ _ target.2 in
    all_columns 5 row shape.0 ∙ next (name_written _ a.0 a.1) (next (name_written _ load.0 load.1) (next (name_written _ origin.0 origin.1) (next (name_written _ target.0 target.1) (next (phase_written _ now.0 now.1) refl)))) ∙ ap (λ (p : List ℕ × JobRow). job_columns p.0 p.1) (some_same now.2)

pub hold_written : (row : Row) (thing : Thing) (key : VehicleKey) → hold_in row ≡ Some (thing, key) → row ≡ hold_columns thing key
unfolding hold_in
hold_written row thing key e =
    let shape = in_columns 4 row _ _ e in
    let of = if_some_parts _ _ _ shape.1 in
    let id = if_some_parts _ _ _ of.2 in
    let keyed = if_some_parts _ _ _ id.2 in
    let keyed_cells = key_written _ _ keyed.0 keyed.1 in
    all_columns 4 row shape.0 ∙ next (thing_kind_written _ of.0 of.1) (next (name_written _ id.0 id.1) (next keyed_cells.0 (next keyed_cells.1 refl))) ∙ thing_written of.0 id.0 keyed.0 ∙ ap (λ (p : Thing × VehicleKey). hold_columns p.0 p.1) (some_same keyed.2)

pub used_written : (row : Row) (key : UseKey) → used_in row ≡ Some key → row ≡ used_columns key
used_written row key e =
    let shape = in_columns 2 row _ _ e in
    let of = if_some_parts _ _ _ shape.1 in
    let name = if_some_parts _ _ _ of.2 in
    all_columns 2 row shape.0 ∙ next (use_written _ of.0 of.1) (next (name_written _ name.0 name.1) refl) ∙ ap used_columns (some_same name.2)
