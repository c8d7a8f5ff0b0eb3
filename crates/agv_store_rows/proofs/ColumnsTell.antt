-- The columns of a row tell all that lies in them: two rows of one key with the same columns are one.
use Rattle.std.proofs.Common.{◌≡◌, ℕ, Bool, List, Option, Some, None, refl, sym, ap, ◌∙◌}
use Rattle.std.proofs.lemmas.Option.{same_Some}
use Rattle.sqlite.specs.Values.{or_null}
use Rattle.sqlite_value.specs.declared.value.Value.{Value}
use Rattle.sqlite_value.specs.declared.value.Value.TheVariants.{Null, Text}
use Rattle.sqlite_value.specs.Order.{Row, column}
use Rattle.agv_header.specs.declared.key.Thing.{Thing}
use Rattle.agv_header.specs.declared.key.Thing.TheVariants as thing
use Rattle.agv_header.specs.declared.key.VehicleKey.{VehicleKey}
use Rattle.agv_layout.specs.declared.edge.EdgeEnds.{EdgeEnds}
use Rattle.agv_layout.specs.declared.station.StationSite.{StationSite}
use Rattle.agv_message_core.specs.Instant.{instant_name}
use Rattle.agv_message_core.specs.Order.{act_name}
use Rattle.agv_message_core.specs.Status.{status_name}
use Rattle.agv_message_core.specs.declared.instant.InstantKind.{InstantKind}
use Rattle.agv_message_core.specs.declared.order.ActKind.{ActKind}
use Rattle.agv_message_core.specs.declared.status.Status.{Status}
use Rattle.agv_stock.specs.declared.job.Phase.{Phase}
use Rattle.agv_stock.specs.declared.place.Place.{Place}
use Rattle.agv_stock.specs.declared.place.Place.TheVariants as place
use Rattle.agv_store_rows.specs.declared.act_key.ActKey.{ActKey}
use Rattle.agv_store_rows.specs.declared.act_row.ActRow.{ActRow}
use Rattle.agv_store_rows.specs.declared.journey_row.JourneyRow.{JourneyRow}
use Rattle.agv_world_core.specs.declared.key.LegKey.{LegKey}
use Rattle.agv_world_core.specs.declared.row.JobRow.{JobRow}
use Rattle.agv_world_core.specs.declared.row.VehicleRow.{VehicleRow}
use Rattle.agv_stock.specs.Phase.{phase_name}
use Rattle.agv_store_rows.specs.ValueEncodings.{number_cell, flag_cell, flag_in, phase_in, status_in, instant_in, act_kind_in}
use Rattle.agv_store_rows.specs.Columns.{meta_columns, edge_columns, station_columns, vehicle_columns, vehicle_capacity_columns, journey_columns, act_columns, leg_columns, load_columns, job_columns, hold_columns}
use Rattle.agv_store_rows.proofs.CellLemmas.{flag_kept, phase_kept, status_kept, instant_kept, act_kind_kept}

-- ---- values

text : {a b : List ℕ} → Text a ≡ Text b → a ≡ b
text e = cc

number : (a b : ℕ) → number_cell a ≡ number_cell b → a ≡ b
number a b e = cc

flag : (a b : Bool) → flag_cell a ≡ flag_cell b → a ≡ b
flag a b e = same_Some a b (sym (flag_kept a) ∙ ap flag_in e ∙ flag_kept b)

phase : (a b : Phase) → Text (phase_name a) ≡ Text (phase_name b) → a ≡ b
phase a b e = same_Some a b (sym (phase_kept a) ∙ ap phase_in e ∙ phase_kept b)

status : (a b : Status) → Text (status_name a) ≡ Text (status_name b) → a ≡ b
status a b e = same_Some a b (sym (status_kept a) ∙ ap status_in e ∙ status_kept b)

instant : (a b : InstantKind) → Text (instant_name a) ≡ Text (instant_name b) → a ≡ b
instant a b e = same_Some a b (sym (instant_kept a) ∙ ap instant_in e ∙ instant_kept b)

act_kind : (a b : ActKind) → Text (act_name a) ≡ Text (act_name b) → a ≡ b
act_kind a b e = same_Some a b (sym (act_kind_kept a) ∙ ap act_kind_in e ∙ act_kind_kept b)

maybe : {X : Type 0} (write : X → Value) → ((x : X) → ¬ (Null ≡ write x)) → ((x y : X) → write x ≡ write y → x ≡ y) → (a b : Option X) → or_null write a ≡ or_null write b → a ≡ b
maybe write there same None None e = refl
maybe write there same None (Some y) e = absurd (there y e)
maybe write there same (Some x) None e = absurd (there x (sym e))
maybe write there same (Some x) (Some y) e = ap Some (same x y e)

not_number : (n : ℕ) → ¬ (Null ≡ number_cell n)
not_number n e = cc

not_text : (bytes : List ℕ) → ¬ (Null ≡ Text bytes)
not_text bytes e = cc

maybe_number : (a b : Option ℕ) → or_null number_cell a ≡ or_null number_cell b → a ≡ b
maybe_number = maybe number_cell not_number number

maybe_text : (a b : Option (List ℕ)) → or_null Text a ≡ or_null Text b → a ≡ b
maybe_text = maybe Text not_text (λ a b e. text e)

maybe_instant : (a b : Option InstantKind) → or_null (λ kind. Text (instant_name kind)) a ≡ or_null (λ kind. Text (instant_name kind)) b → a ≡ b
maybe_instant = maybe (λ kind. Text (instant_name kind)) (λ kind. not_text (instant_name kind)) instant

rest : (a b : Option (List ℕ × List ℕ)) → or_null (λ (rest : List ℕ × List ℕ). Text rest.0) a ≡ or_null (λ (rest : List ℕ × List ℕ). Text rest.0) b
    → or_null (λ (rest : List ℕ × List ℕ). Text rest.1) a ≡ or_null (λ (rest : List ℕ × List ℕ). Text rest.1) b → a ≡ b
rest None None e f = refl
rest None (Some y) e f = absurd (cc e)
rest (Some x) None e f = absurd (cc e)
rest (Some x) (Some y) e f = let edge = text e in let node = text f in λ i. Some (edge i, node i)

-- ---- rows

same_at : (a b : Row) (i : ℕ) → a ≡ b → column a i ≡ column b i
same_at a b i e = ap (λ (row : Row). column row i) e

pub meta_tells : (id a b : ℕ) → meta_columns id a ≡ meta_columns id b → a ≡ b
meta_tells id a b e = number a b (same_at _ _ 1 e)

pub edge_tells : (id : List ℕ) (a b : EdgeEnds) → edge_columns id a ≡ edge_columns id b → a ≡ b
edge_tells id a b e =
    let start : a.start ≡ b.start = text (same_at _ _ 1 e) in
    let finish : a.finish ≡ b.finish = text (same_at _ _ 2 e) in
    λ i. record { start = start i; finish = finish i }

pub station_tells : (id : List ℕ) (a b : StationSite) → station_columns id a ≡ station_columns id b → a ≡ b
station_tells id a b e =
    let node : a.node ≡ b.node = text (same_at _ _ 1 e) in
    let capacity = number a.capacity b.capacity (same_at _ _ 2 e) in
    λ i. record { node = node i; capacity = capacity i }

pub capacity_tells : (key : VehicleKey) (a b : VehicleRow) → vehicle_capacity_columns key a ≡ vehicle_capacity_columns key b → a.capacity ≡ b.capacity
capacity_tells key a b e = number a.capacity b.capacity (same_at _ _ 2 e)

-- its capacity isn't there
pub vehicle_tells : (key : VehicleKey) (a b : VehicleRow) → a.capacity ≡ b.capacity → vehicle_columns key a ≡ vehicle_columns key b → a ≡ b
vehicle_tells key a b capacity e =
    let node : a.node ≡ b.node = text (same_at _ _ 2 e) in
    let stood = rest a.rest b.rest (same_at _ _ 3 e) (same_at _ _ 4 e) in
    let last_header = maybe_number a.last_header b.last_header (same_at _ _ 5 e) in
    let reported = maybe_text a.reported b.reported (same_at _ _ 6 e) in
    let ready = flag a.ready b.ready (same_at _ _ 7 e) in
    let paused = flag a.paused b.paused (same_at _ _ 8 e) in
    let order_count = number a.orders.count b.orders.count (same_at _ _ 9 e) in
    let order_at = number a.orders.at b.orders.at (same_at _ _ 10 e) in
    let instant_count = number a.instants.count b.instants.count (same_at _ _ 11 e) in
    let instant_at = number a.instants.at b.instants.at (same_at _ _ 12 e) in
    let pending = maybe_instant a.pending b.pending (same_at _ _ 13 e) in
    λ i. record {
      capacity = capacity i;
      node = node i;
      rest = stood i;
      last_header = last_header i;
      reported = reported i;
      ready = ready i;
      paused = paused i;
      orders = record { count = order_count i; at = order_at i };
      instants = record { count = instant_count i; at = instant_at i };
      pending = pending i;
    }

pub journey_tells : (order : List ℕ) (a b : JourneyRow) → journey_columns order a ≡ journey_columns order b → a ≡ b
journey_tells order a b e =
    let manufacturer : a.vehicle.manufacturer ≡ b.vehicle.manufacturer = text (same_at _ _ 1 e) in
    let serial : a.vehicle.serial ≡ b.vehicle.serial = text (same_at _ _ 2 e) in
    let start : a.start ≡ b.start = text (same_at _ _ 3 e) in
    let first = number a.first b.first (same_at _ _ 4 e) in
    let base = number a.base b.base (same_at _ _ 5 e) in
    let sent = number a.sent b.sent (same_at _ _ 6 e) in
    let confirmed = maybe_number a.confirmed b.confirmed (same_at _ _ 7 e) in
    let seen = number a.seen b.seen (same_at _ _ 8 e) in
    λ i. record {
      vehicle = record { manufacturer = manufacturer i; serial = serial i };
      start = start i;
      first = first i;
      base = base i;
      sent = sent i;
      confirmed = confirmed i;
      seen = seen i;
    }

pub act_tells : (key : ActKey) (a b : ActRow) → act_columns key a ≡ act_columns key b → a ≡ b
act_tells key a b e =
    let job : a.job ≡ b.job = text (same_at _ _ 2 e) in
    let kind = act_kind a.kind b.kind (same_at _ _ 3 e) in
    let place_at = number a.place_at b.place_at (same_at _ _ 4 e) in
    let reported = status a.status b.status (same_at _ _ 5 e) in
    λ i. record { job = job i; kind = kind i; place_at = place_at i; status = reported i }

pub leg_tells : (key : LegKey) (a b : List ℕ) → leg_columns key a ≡ leg_columns key b → a ≡ b
leg_tells key a b e = text (same_at _ _ 2 e)

pub load_tells : (id : List ℕ) (a b : Place) → load_columns id a ≡ load_columns id b → a ≡ b
load_tells id (place.Station a) (place.Station b) e = ap place.Station (text (same_at _ _ 2 e))
load_tells id (place.Station a) (place.Vehicle b) e = absurd (cc (same_at _ _ 2 e))
load_tells id (place.Station a) place.Checking e = absurd (cc (same_at _ _ 2 e))
load_tells id (place.Station a) place.Left e = absurd (cc (same_at _ _ 2 e))
load_tells id (place.Vehicle a) (place.Station b) e = absurd (cc (same_at _ _ 2 e))
load_tells id (place.Vehicle a) (place.Vehicle b) e =
    let manufacturer : a.manufacturer ≡ b.manufacturer = text (same_at _ _ 3 e) in
    let serial : a.serial ≡ b.serial = text (same_at _ _ 4 e) in
    λ i. place.Vehicle (record { manufacturer = manufacturer i; serial = serial i })
load_tells id (place.Vehicle a) place.Checking e = absurd (cc (same_at _ _ 3 e))
load_tells id (place.Vehicle a) place.Left e = absurd (cc (same_at _ _ 3 e))
load_tells id place.Checking (place.Station b) e = absurd (cc (same_at _ _ 2 e))
load_tells id place.Checking (place.Vehicle b) e = absurd (cc (same_at _ _ 3 e))
load_tells id place.Checking place.Checking e = refl
load_tells id place.Checking place.Left e = absurd (cc (same_at _ _ 1 e))
load_tells id place.Left (place.Station b) e = absurd (cc (same_at _ _ 2 e))
load_tells id place.Left (place.Vehicle b) e = absurd (cc (same_at _ _ 3 e))
load_tells id place.Left place.Checking e = absurd (cc (same_at _ _ 1 e))
load_tells id place.Left place.Left e = refl

pub job_tells : (id : List ℕ) (a b : JobRow) → job_columns id a ≡ job_columns id b → a ≡ b
job_tells id a b e =
    let load : a.load ≡ b.load = text (same_at _ _ 1 e) in
    let origin : a.origin ≡ b.origin = text (same_at _ _ 2 e) in
    let target : a.target ≡ b.target = text (same_at _ _ 3 e) in
    let stage = phase a.phase b.phase (same_at _ _ 4 e) in
    λ i. record { load = load i; origin = origin i; target = target i; phase = stage i }

key_in_columns : (a b : VehicleKey) → Text a.manufacturer ≡ Text b.manufacturer → Text a.serial ≡ Text b.serial → a ≡ b
key_in_columns a b first second =
    let manufacturer : a.manufacturer ≡ b.manufacturer = text first in
    let serial : a.serial ≡ b.serial = text second in
    λ i. record { manufacturer = manufacturer i; serial = serial i }

pub hold_tells : (held : Thing) (a b : VehicleKey) → hold_columns held a ≡ hold_columns held b → a ≡ b
hold_tells (thing.Node id) a b e = key_in_columns a b (same_at _ _ 2 e) (same_at _ _ 3 e)
hold_tells (thing.Edge id) a b e = key_in_columns a b (same_at _ _ 2 e) (same_at _ _ 3 e)
