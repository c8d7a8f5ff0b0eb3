-- What the rows of a vehicle say of their keys.
use Rattle.std.proofs.Common.{◌≡◌, ℕ, ◌+◌, ◌≤◌, arith, true, false, cond, List, [], ◌∷◌, map, Option, Some, None, Ordering, is_eq, refl, sym, ap}
use Rattle.std.specs.Cmp.{IsTotalOrder, tied_itself}
use Rattle.std.specs.FinMap.{IsAntisymmetric, find}
use Rattle.std.specs.List.{enumerate_from}
use Rattle.std.specs.Ordering.{eq_by_cmp}
use Rattle.agv_header.specs.Name.{name_cmp}
use Rattle.agv_header.specs.declared.key.VehicleKey.{VehicleKey}
use Rattle.agv_layout.specs.declared.edge.Edge.{Edge}
use Rattle.agv_order.specs.declared.trip.Trip.{Trip}
use Rattle.agv_world_core.specs.KeyOrders.{leg_cmp-total, leg_cmp-IsAntisymmetric}
use Rattle.agv_world_core.specs.Keys.{leg_cmp}
use Rattle.agv_world_core.specs.Maps.{rows_of_trip, trip_row, legs_of_trip, leg_row}
use Rattle.agv_world_core.specs.declared.key.LegKey.{LegKey}
use Rattle.agv_world_core.specs.declared.row.TripRow.{TripRow}
use Rattle.agv_world_core.proofs.lists.Entries.{no_more, same_Some, is_same}
use Rattle.agv_world_core.proofs.lists.Orders.{names_apart}

-- ---- one row
pub one_key : {Q Y : Type 0} {S : Q → Q → Ordering} → IsAntisymmetric S → (q k : Q) (v y : Y) → cond (eq_by_cmp S q k) (Some v) None ≡ Some y → (q ≡ k) × (y ≡ v)
one_key {S} apart q k v y = elim (eq_by_cmp S q k) as (λ b. eq_by_cmp S q k ≡ b → cond b (Some v) None ≡ Some y → (q ≡ k) × (y ≡ v)) [
  | true ↦ λ s e. (is_same apart q k s, sym (same_Some v y e))
  | false ↦ λ s e. absurd (no_more y e)
] refl

pub own_key : {Q Y : Type 0} {S : Q → Q → Ordering} → IsTotalOrder S → (k : Q) (v : Y) → cond (eq_by_cmp S k k) (Some v) None ≡ Some v
own_key total k v = ap (λ o. cond (is_eq o) (Some v) None) (tied_itself total k)

-- ---- trips
pub trip_at : (key : VehicleKey) (o : Option Trip) (q : List ℕ) (y : TripRow) → find name_cmp q (rows_of_trip key o) ≡ Some y → (t : Trip) × (o ≡ Some t) × (q ≡ t.order) × (y ≡ trip_row key t)
trip_at key None q y e = absurd (no_more y e)
trip_at key (Some t) q y e = let one = one_key names_apart q t.order (trip_row key t) y e in (t, refl, one.0, one.1)

-- ---- legs
abbrev pub numbered : List ℕ → ℕ → List Edge → List (LegKey × List ℕ)
numbered order i edges = map (leg_row order) (enumerate_from i edges)

abbrev pub leg_at : List ℕ → ℕ → LegKey
leg_at order i = record { order = order; k = i }

-- a row of an edge is of the trip's order, from the first number on
pub number_key : (order : List ℕ) (i : ℕ) (edges : List Edge) (q : LegKey) (y : List ℕ) → find leg_cmp q (numbered order i edges) ≡ Some y → (q.order ≡ order) × (i ≤ q.k)
number_key order i [] q y f = absurd (no_more y f)
number_key order i (edge ∷ edges) q y f = elim (eq_by_cmp leg_cmp q (leg_at order i)) as (λ b. eq_by_cmp leg_cmp q (leg_at order i) ≡ b → cond b (Some edge.id) (find leg_cmp q (numbered order (i + 1) edges)) ≡ Some y → (q.order ≡ order) × (i ≤ q.k)) [
  | true ↦ λ s e. let key = is_same leg_cmp-IsAntisymmetric q (leg_at order i) s in let k : q.k ≡ i = ap (λ (l : LegKey). l.k) key in (ap (λ (l : LegKey). l.order) key, omega (arith, k))
  | false ↦ λ s e. let later = number_key order (i + 1) edges q y e in let low : i + 1 ≤ q.k = later.1 in (later.0, omega (arith, low))
] refl f

pub leg_of : (o : Option Trip) (q : LegKey) (y : List ℕ) → find leg_cmp q (legs_of_trip o) ≡ Some y → (t : Trip) × (o ≡ Some t) × (q.order ≡ t.order)
leg_of None q y e = absurd (no_more y e)
leg_of (Some t) q y e = (t, refl, (number_key t.order 0 t.edges q y e).0)

pub first_leg : (order : List ℕ) (i : ℕ) (edge : Edge) (edges : List Edge) → find leg_cmp (leg_at order i) (numbered order i (edge ∷ edges)) ≡ Some edge.id
first_leg order i edge edges = ap (λ o. cond (is_eq o) (Some edge.id) (find leg_cmp (leg_at order i) (numbered order (i + 1) edges))) (tied_itself leg_cmp-total (leg_at order i))

pub later_leg : (order : List ℕ) (i : ℕ) (edge : Edge) (edges more : List Edge) (q : LegKey) (y : List ℕ) → find leg_cmp q (numbered order (i + 1) more) ≡ Some y
    → find leg_cmp q (numbered order i (edge ∷ edges)) ≡ find leg_cmp q (numbered order (i + 1) edges)
later_leg order i edge edges more q y f =
    elim (eq_by_cmp leg_cmp q (leg_at order i)) as (λ b. eq_by_cmp leg_cmp q (leg_at order i) ≡ b → cond b (Some edge.id) (find leg_cmp q (numbered order (i + 1) edges)) ≡ find leg_cmp q (numbered order (i + 1) edges)) [
      | true ↦ λ s. let low : i + 1 ≤ q.k = (number_key order (i + 1) more q y f).1 in let k : q.k ≡ i = ap (λ (l : LegKey). l.k) (is_same leg_cmp-IsAntisymmetric q (leg_at order i) s) in absurd (omega (arith, low, k))
      | false ↦ λ s. refl
    ] refl
