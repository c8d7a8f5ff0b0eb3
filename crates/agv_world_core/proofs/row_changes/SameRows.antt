-- A row of which every field stays is the row that it was.
use Rattle.std.proofs.Common.{◌≡◌, ℕ, nat_eq, Bool, true, List, [], ◌∷◌, Option, Some, None, refl, ap}
use Rattle.std.specs.Cmp.{first_so, second_so, unsigned_Decides, booleans_Decides}
use Rattle.std.specs.Cmp.Lexicographic.{pointwise, bytes_decides}
use Rattle.std.specs.Option.{option_eq}
use denote.Enum.Bare.{sameb, same_true}
use Rattle.agv_header.specs.declared.key.VehicleKey.{VehicleKey}
use Rattle.agv_message_core.specs.contracts.instant.InstantKind.{the_type as InstantKinds}
use Rattle.agv_message_core.specs.contracts.order.ActKind.{the_type as ActKinds}
use Rattle.agv_message_core.specs.contracts.status.Status.{the_type as Statuses}
use Rattle.agv_order.specs.declared.act.Act.{Act}
use Rattle.agv_order.specs.declared.trip.Trip.{Trip}
use Rattle.agv_world_core.specs.Maps.{trip_row}
use Rattle.agv_world_core.specs.SameRows.{same_name, same_rest, same_sent, same_act, same_row, same_trip_row}
use Rattle.agv_world_core.specs.declared.row.Sent.{Sent}
use Rattle.agv_world_core.specs.declared.row.VehicleRow.{VehicleRow}

-- ---- fields
number : (a b : ℕ) → nat_eq a b ≡ true → a ≡ b
number a b = (unsigned_Decides a b).0

name : (a b : List ℕ) → same_name a b ≡ true → a ≡ b
name a b = (bytes_decides a b).0

maybe : {X : Type 0} (E : X → X → Bool) → ((a b : X) → E a b ≡ true → a ≡ b) → (a b : Option X) → option_eq E a b ≡ true → a ≡ b
maybe E is None None e = refl
maybe E is None (Some b) e = cc
maybe E is (Some a) None e = cc
maybe E is (Some a) (Some b) e = ap Some (is a b e)

rest : (a b : List ℕ × List ℕ) → same_rest a b ≡ true → a ≡ b
rest a b e =
    let edge = name a.0 b.0 (first_so _ _ e) in
    let node = name a.1 b.1 (second_so _ _ e) in
    λ i. (edge i, node i)

sent : (a b : Sent) → same_sent a b ≡ true → a ≡ b
sent a b e =
    let count = number a.count b.count (first_so _ _ e) in
    let at = number a.at b.at (second_so _ _ e) in
    λ i. record { count = count i; at = at i }

act : (a b : Act) → same_act a b ≡ true → a ≡ b
act a b e =
    let after_kind = second_so _ _ e in
    let after_job = second_so _ _ after_kind in
    let after_load = second_so _ _ after_job in
    let after_station = second_so _ _ after_load in
    let kind = same_true ActKinds tt a.kind b.kind (first_so _ _ e) in
    let job = name a.job b.job (first_so _ _ after_kind) in
    let load = name a.load b.load (first_so _ _ after_job) in
    let station = name a.station b.station (first_so _ _ after_load) in
    let place_at = number a.place_at b.place_at (first_so _ _ after_station) in
    let status = same_true Statuses tt a.status b.status (second_so _ _ after_station) in
    λ i. record { kind = kind i; job = job i; load = load i; station = station i; place_at = place_at i; status = status i }

acts : (a b : List Act) → pointwise same_act a b ≡ true → a ≡ b
acts [] [] e = refl
acts [] (y ∷ b) e = cc
acts (x ∷ a) [] e = cc
acts (x ∷ a) (y ∷ b) e =
    let one = act x y (first_so _ _ e) in
    let more = acts a b (second_so _ _ e) in
    λ i. one i ∷ more i

-- ---- rows
pub row_stays : (a b : VehicleRow) → same_row a b ≡ true → a ≡ b
row_stays a b e =
    let after_capacity = second_so _ _ e in
    let after_node = second_so _ _ after_capacity in
    let after_rest = second_so _ _ after_node in
    let after_last = second_so _ _ after_rest in
    let after_reported = second_so _ _ after_last in
    let after_ready = second_so _ _ after_reported in
    let after_paused = second_so _ _ after_ready in
    let after_orders = second_so _ _ after_paused in
    let capacity = number a.capacity b.capacity (first_so _ _ e) in
    let node = name a.node b.node (first_so _ _ after_capacity) in
    let stood = maybe same_rest rest a.rest b.rest (first_so _ _ after_node) in
    let last = maybe nat_eq number a.last_header b.last_header (first_so _ _ after_rest) in
    let reported = maybe same_name name a.reported b.reported (first_so _ _ after_last) in
    let ready = (booleans_Decides a.ready b.ready).0 (first_so _ _ after_reported) in
    let paused = (booleans_Decides a.paused b.paused).0 (first_so _ _ after_ready) in
    let orders = sent a.orders b.orders (first_so _ _ after_paused) in
    let instants = sent a.instants b.instants (first_so _ _ after_orders) in
    let pending = maybe (sameb InstantKinds) (same_true InstantKinds tt) a.pending b.pending (second_so _ _ after_orders) in
    λ i. record {
      capacity = capacity i;
      node = node i;
      rest = stood i;
      last_header = last i;
      reported = reported i;
      ready = ready i;
      paused = paused i;
      orders = orders i;
      instants = instants i;
      pending = pending i;
    }

pub trip_row_stays : (key : VehicleKey) (a b : Trip) → same_trip_row a b ≡ true → trip_row key a ≡ trip_row key b
trip_row_stays key a b e =
    let after_start = second_so _ _ e in
    let after_first = second_so _ _ after_start in
    let after_base = second_so _ _ after_first in
    let after_sent = second_so _ _ after_base in
    let after_confirmed = second_so _ _ after_sent in
    let start = name a.start b.start (first_so _ _ e) in
    let first = number a.first b.first (first_so _ _ after_start) in
    let base = number a.base b.base (first_so _ _ after_first) in
    let last = number a.sent b.sent (first_so _ _ after_base) in
    let confirmed = maybe nat_eq number a.confirmed b.confirmed (first_so _ _ after_sent) in
    let seen = number a.seen b.seen (first_so _ _ after_confirmed) in
    let done = acts a.acts b.acts (second_so _ _ after_confirmed) in
    λ i. record {
      vehicle = key;
      start = start i;
      first = first i;
      base = base i;
      sent = last i;
      confirmed = confirmed i;
      seen = seen i;
      acts = done i;
    }
