-- What the calls of orders leave of the history of a world: a new trip is of an order that was not used, and a released trip goes on.
use Rattle.std.proofs.Common.{◌≡◌, inl, inr, ℕ, Bool, true, false, cond, nat_eq, List, [], Option, None, Some, Result, Ok, Err, refl, sym, ap, subst, ◌∙◌, arith}
use Rattle.std.specs.Cmp.Lexicographic.{pointwise}
use Rattle.std.specs.FinSet as set
use Rattle.agv_header.specs.declared.key.VehicleKey.{VehicleKey}
use Rattle.agv_order.specs.Releases.{released}
use Rattle.agv_order.specs.declared.fault.PlanFault.{PlanFault}
use Rattle.agv_order.specs.declared.trip.Trip.{Trip}
use Rattle.agv_stock.specs.declared.job.Job.{Job}
use Rattle.agv_world_core.specs.Questions.{row_of, trip_of, is_used}
use Rattle.agv_world_core.specs.Worlds.{World}
use Rattle.agv_world_core.specs.declared.key.UseKind.TheVariants as used
use Rattle.agv_world_core.specs.declared.row.VehicleRow.{VehicleRow}
use Rattle.agv_desk.specs.DriveSteps.{AskedDrive, start_drive}
use Rattle.agv_desk.specs.OrderParts.{order_of_drive, send_trip}
use Rattle.agv_desk.specs.OrderSteps.{AskedOrder, if_planned, start_order, trip_for, send_update, advance}
use Rattle.agv_desk.specs.Outcomes.{Effect, Outcome}
use Rattle.agv_desk.proofs.histories.GoingAlong.{GoesAlong, RowGoesOn}
use Rattle.agv_desk.proofs.outcomes.Keeping.{Continues}
use Rattle.agv_desk.proofs.outcomes.Known.{has_trip, none_some, same_some}
use Rattle.agv_desk.proofs.outcomes.Ladders.{IfMade, made_refuse_unless, made_refuse_if_none, made_unheld}
use Rattle.agv_desk.proofs.row_changes.DriveRows.{drive_begins}
use Rattle.agv_desk.proofs.row_changes.OrderRows.{plan_of_order}
use Rattle.agv_desk.proofs.histories.PlainAlong.{puts_known}
use Rattle.agv_desk.proofs.row_changes.Steps.{not_true}
use Rattle.agv_desk.proofs.histories.TripsFollow.{trip_itself}

-- go on with the plan where there is one
made_by_plan : (P : Effect → Type 0) (plan : Result Trip PlanFault) (rest : Trip → Outcome) → ((trip : Trip) → plan ≡ Ok trip → IfMade P (rest trip)) → IfMade P (if_planned plan rest)
unfolding if_planned
made_by_plan P (Ok trip) rest h = h trip refl
made_by_plan P (Err why) rest h = tt

-- a row after an order message
message_sent : (forgotten : Type 0) (row : VehicleRow) (at number : ℕ) → RowGoesOn forgotten row (record row { orders = record { count = number; at = at } })
message_sent forgotten row at number = record { count = omega arith; pending = λ same kind is. is; header = λ last is. inl (last, is, omega arith) }

-- the trip of an order is the open trip
trip_is : (there : Option Trip) (order : List ℕ) (trip : Trip) → trip_for there order ≡ Some trip → there ≡ Some trip
trip_is None order trip h = none_some h
trip_is (Some other) order trip h = by_test (pointwise nat_eq other.order order) h
  where
    by_test : (same : Bool) → cond same (Some other) None ≡ Some trip → Some other ≡ Some trip
    by_test true e = e
    by_test false e = none_some e

-- a trip of which more is released
released_goes_on : (trip : Trip) (edges : ℕ) → Continues trip (released trip edges)
released_goes_on trip edges = let same = trip_itself trip in record { order = refl; further = omega arith; acts = same.acts }

module _ (world : World) (forgets : VehicleKey → Type 0) where
  abbrev P : Effect → Type 0
  P = GoesAlong world forgets

  unused_order : (order : List ℕ) → is_used world used.Order order ≡ false → set.contains world.orders order ≡ false
  unfolding is_used
  unused_order order unused = unused

  sends_trip : (asked : AskedOrder) (row : VehicleRow) (jobs : List Job) (trip : Trip)
      → is_used world used.Order asked.order ≡ false → row_of world asked.key ≡ Some row → trip.order ≡ asked.order → IfMade P (send_trip world asked row jobs trip)
  sends_trip asked row jobs trip unused there named =
      made_unheld P _ _ (λ opened. made_refuse_if_none P _ _ _ (λ number next. made_refuse_unless P _ _ _ (λ few.
      puts_known world forgets _ asked.key _ _ row refl (record { once = λ kind order job. inl refl }) there (message_sent (forgets asked.key) row asked.at number)
      (λ new same. inr (ap (λ (one : Trip). set.contains world.orders one.order) (sym (same_some same)) ∙ ap (set.contains world.orders) named ∙ unused_order asked.order unused)))))

  pub starts_order : (asked : AskedOrder) → IfMade P (start_order world asked)
  starts_order asked =
      made_refuse_unless P _ _ _ (λ unused. made_refuse_if_none P _ _ _ (λ row there. made_refuse_unless P _ _ _ (λ fit. made_refuse_if_none P _ _ _ (λ jobs are.
      made_refuse_unless P _ _ _ (λ a. made_refuse_unless P _ _ _ (λ b. made_refuse_unless P _ _ _ (λ idle.
      made_refuse_unless P _ _ _ (λ c. made_refuse_unless P _ _ _ (λ d. made_refuse_unless P _ _ _ (λ e. made_refuse_unless P _ _ _ (λ f.
      made_refuse_if_none P _ _ _ (λ layout is_set. made_by_plan P _ _ (λ trip is_plan.
      sends_trip asked row jobs trip (not_true _ unused) there (plan_of_order layout asked.key jobs asked.stops asked.order row.node asked.edges trip is_plan))))))))))))))

  pub starts_drive : (asked : AskedDrive) → IfMade P (start_drive world asked)
  starts_drive asked =
      made_refuse_unless P _ _ _ (λ unused. made_refuse_if_none P _ _ _ (λ row there. made_refuse_unless P _ _ _ (λ node.
      made_refuse_unless P _ _ _ (λ a. made_refuse_unless P _ _ _ (λ idle. made_refuse_unless P _ _ _ (λ c.
      made_refuse_unless P _ _ _ (λ d. made_refuse_unless P _ _ _ (λ e.
      made_refuse_if_none P _ _ _ (λ layout is_set. made_by_plan P _ _ (λ trip is_plan.
      sends_trip (order_of_drive asked) row [] trip (not_true _ unused) there (drive_begins layout asked.key asked.order row.node asked.to asked.edges trip is_plan).of_order))))))))))

  sends_update : (at : ℕ) (key : VehicleKey) (row : VehicleRow) (trip : Trip) (update edges : ℕ) → row_of world key ≡ Some row → trip_of world key ≡ Some trip
      → IfMade P (send_update world at key row trip update edges)
  sends_update at key row trip update edges there open_trip =
      made_refuse_unless P _ _ _ (λ a. made_unheld P _ _ (λ opened. made_refuse_if_none P _ _ _ (λ number next.
      puts_known world forgets _ key _ _ row refl (record { once = λ kind order job. inl refl }) there (message_sent (forgets key) row at number)
      (λ new same. inl (trip, has_trip world key trip open_trip, subst (Continues trip) (same_some same) (released_goes_on trip edges))))))

  pub advances_trip : (at : ℕ) (key : VehicleKey) (order : List ℕ) (update edges : ℕ) → IfMade P (advance world at key order update edges)
  advances_trip at key order update edges =
      made_refuse_if_none P _ _ _ (λ row there. made_refuse_if_none P _ _ _ (λ trip is_trip. made_refuse_unless P _ _ _ (λ a.
      made_refuse_unless P _ _ _ (λ b. made_refuse_unless P _ _ _ (λ c. made_refuse_unless P _ _ _ (λ d.
      sends_update at key row trip update edges there (trip_is (trip_of world key) order trip is_trip)))))))
