-- A plan has at most 200 edges.
use Rattle.std.proofs.Common.{◌≡◌, ℕ, ◌≤◌, Bool, true, false, nat_lt, List, [], ◌∷◌, length, Option, Some, None, Result, Ok, Err, refl, subst, if◌then◌else◌}
use Rattle.std.proofs.lemmas.Bool.{ltb-false}
use Rattle.agv_header.specs.declared.key.VehicleKey.{VehicleKey}
use Rattle.agv_layout.specs.Layout.{Layout}
use Rattle.agv_layout.specs.declared.edge.Edge.{Edge}
use Rattle.agv_order.specs.Drives.{drive_along, drive_edges, drive_over, drive_planned}
use Rattle.agv_order.specs.Plans.{stop_routes_to, planned, trip_along, trip_over, way_of}
use Rattle.agv_order.specs.declared.fault.PlanFault.{PlanFault}
use Rattle.agv_order.specs.declared.stop.Stop.{Stop}
use Rattle.agv_order.specs.declared.trip.Trip.{Trip}
use Rattle.agv_stock.specs.declared.job.Job.{Job}

-- what is made where the way is not too long, and the base does not pass its end
made_short : (made trip : Trip) (long further : PlanFault) (too_long passes : Bool) → nat_lt 200 (length made.edges) ≡ too_long
    → ◌≡◌ {A = Result Trip PlanFault} (if too_long then Err long else (if passes then Err further else Ok made)) (Ok trip) → length trip.edges ≤ 200
made_short made trip long further true passes over is = cc
made_short made trip long further false true over is = cc
made_short made trip long further false false over is =
    let same : made ≡ trip = cc in
    subst (λ (one : Trip). length one.edges ≤ 200) same (ltb-false 200 (length made.edges) over)

pub planned_short : (layout : Layout) (vehicle : VehicleKey) (jobs : List Job) (stops : List Stop) (order at : List ℕ) (base : ℕ) (trip : Trip)
    → planned layout vehicle jobs stops order at base ≡ Ok trip → length trip.edges ≤ 200
planned_short layout vehicle jobs stops order at base trip =
    elim (stop_routes_to layout jobs at stops) as (λ legs. trip_along vehicle order at base legs ≡ Ok trip → length trip.edges ≤ 200) [
      | None ↦ λ e. cc
      | Some legs ↦ made_short (trip_over vehicle order at base legs) trip _ _ _ (nat_lt (length (way_of legs)) base) refl
    ]

pub drive_short : (layout : Layout) (vehicle : VehicleKey) (order at to : List ℕ) (base : ℕ) (trip : Trip)
    → drive_planned layout vehicle order at to base ≡ Ok trip → length trip.edges ≤ 200
drive_short layout vehicle order at to base trip = by_edges (drive_edges layout at to)
  where
    by_edges : (found : Option (List Edge)) → drive_along vehicle order at base found ≡ Ok trip → length trip.edges ≤ 200
    by_edges None e = cc
    by_edges (Some []) e = cc
    by_edges (Some (edge ∷ edges)) e = made_short (drive_over vehicle order at base (edge ∷ edges)) trip _ _ _ (nat_lt (length (edge ∷ edges)) base) refl e
