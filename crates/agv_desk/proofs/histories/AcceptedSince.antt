-- What stays of a state message that was accepted: the number of the vehicle's last state, the number of its instant actions, and how far the message has brought its trip.
use Rattle.std.proofs.Common.{◌≡◌, ◌≤◌, inl, inr, ℕ, true, false, IsTrue, List, [], ◌∷◌, Option, Some, sym, ap, ◌∙◌, arith}
use Rattle.std.specs.FinSet as set
use Rattle.std.specs.List.{slice_get}
use Rattle.std.proofs.lemmas.Bool.{false≢true}
use Rattle.agv_header.specs.declared.key.VehicleKey.{VehicleKey}
use Rattle.agv_message_core.specs.Order.{act_id}
use Rattle.agv_message_core.specs.declared.instant.InstantKind.{InstantKind}
use Rattle.agv_message_core.specs.declared.state.StateMessage.{StateMessage}
use Rattle.agv_message_core.specs.declared.status.Status.{Status}
use Rattle.agv_order.specs.Statuses.{may_follow}
use Rattle.agv_order.specs.declared.act.Act.{Act}
use Rattle.agv_order.specs.declared.trip.Trip.{Trip}
use Rattle.agv_track.specs.Reached.{reported_node}
use Rattle.agv_track.specs.Reports.{is_cancelled, told}
use Rattle.agv_track.specs.declared.pending.Pending.{Pending}
use Rattle.agv_world_core.proofs.LawfulInParts.{vehicles_of}
use Rattle.agv_world_core.specs.ConsistentTrips.{HasTrip}
use Rattle.agv_world_core.specs.Lawful.{IsLawful}
use Rattle.agv_world_core.specs.Questions.{row_of}
use Rattle.agv_world_core.specs.Worlds.{World}
use Rattle.agv_world_core.specs.declared.row.VehicleRow.{VehicleRow}
use Rattle.agv_desk.specs.Histories.{HasNoResync}
use Rattle.agv_desk.specs.Outcomes.{Outcome, Refused, Made, after}
use Rattle.agv_desk.specs.Step.{step, steps}
use Rattle.agv_desk.specs.WellTyped.{AreWellTyped}
use Rattle.agv_desk.specs.declared.call.Call.{Call}
use Rattle.agv_desk.proofs.histories.AllAlong.{Forgets, goes_along, not_forgotten}
use Rattle.agv_desk.proofs.row_changes.Given.{AdvancesTrips}
use Rattle.agv_desk.proofs.histories.GoingAlong.{GoesAlong, RowGoesOn, row_after, row_itself}
use Rattle.agv_desk.proofs.outcomes.Keeping.{Continues, Follows}
use Rattle.agv_desk.proofs.outcomes.Ladders.{IfMade}
use Rattle.agv_desk.proofs.histories.LawfulLists.{KeepsLawful}
use Rattle.agv_desk.proofs.histories.TripLeft.{PairsAsSaid}
use Rattle.agv_desk.proofs.histories.TripsFollow.{status_through}

-- ---- numbers

-- the last state of the vehicle has this number or a greater one
abbrev pub IsAccepted : VehicleKey → ℕ → World → Type 0
IsAccepted key number world = (row : VehicleRow) × (last : ℕ) × (row_of world key ≡ Some row) × (row.last_header ≡ Some last) × (number ≤ last)

-- since this row the number of the vehicle's instantActions messages has not fallen, and what is pending under the same number was pending
abbrev pub IsInstructedSince : VehicleKey → VehicleRow → World → Type 0
IsInstructedSince key earlier world = (row : VehicleRow) × (row_of world key ≡ Some row) × (earlier.instants.count ≤ row.instants.count)
    × (row.instants.count ≡ earlier.instants.count → (kind : InstantKind) → row.pending ≡ Some kind → earlier.pending ≡ Some kind)

-- the row of a vehicle after a call
row_made : (world : World) (forgets : VehicleKey → Type 0) (outcome : Outcome) → IfMade (GoesAlong world forgets) outcome → (key : VehicleKey) (row : VehicleRow) → row_of world key ≡ Some row
    → (next : VehicleRow) × (row_of (after world outcome) key ≡ Some next) × RowGoesOn (forgets key) row next
unfolding after
row_made world forgets (Refused why) goes key row there = (row, there, row_itself (forgets key) row)
row_made world forgets (Made effect) goes key row there = row_after world forgets effect goes.rows key row there

accepted_on : (world next : World) (forgotten : Type 0) (key : VehicleKey) (number : ℕ) → ((row : VehicleRow) → row_of world key ≡ Some row → (after : VehicleRow) × (row_of next key ≡ Some after) × RowGoesOn forgotten row after)
    → (forgotten → ⊥) → IsAccepted key number world → IsAccepted key number next
accepted_on world next forgotten key number goes kept accepted =
    let now = goes accepted.0 accepted.2 in
    elim (now.2.header accepted.1 accepted.3) [
      | inl last ↦ (now.0, last.0, now.1, last.1, greater number accepted.1 last.0 accepted.4 last.2)
      | inr lost ↦ absurd (kept lost)
    ]
  where
    greater : (a b c : ℕ) → a ≤ b → b ≤ c → a ≤ c
    greater a b c first second = omega (arith, first, second)

instructed_on : (world next : World) (forgotten : Type 0) (key : VehicleKey) (earlier : VehicleRow) → ((row : VehicleRow) → row_of world key ≡ Some row → (after : VehicleRow) × (row_of next key ≡ Some after) × RowGoesOn forgotten row after)
    → IsInstructedSince key earlier world → IsInstructedSince key earlier next
instructed_on world next forgotten key earlier goes since =
    let now = goes since.0 since.1 in (
      now.0,
      now.1,
      greater _ _ _ since.2 now.2.count,
      λ same kind is.
          let between = equal _ _ _ since.2 now.2.count same in
          since.3 between.0 kind (now.2.pending between.1 kind is),
    )
  where
    greater : (a b c : ℕ) → a ≤ b → b ≤ c → a ≤ c
    greater a b c first second = omega (arith, first, second)

    equal : (a b c : ℕ) → a ≤ b → b ≤ c → c ≡ a → (b ≡ a) × (c ≡ b)
    equal a b c first second same = (omega (arith, first, second, same), omega (arith, first, second, same))

-- ---- trips

-- the trip is as far as the message says, and its acts too; and the message did not cancel it
pub record IsAsTold (state : StateMessage) (pending : Option Pending) (trip : Trip) : Type 0 where
  pub reached : reported_node state ≤ trip.seen
  pub acts : (k : ℕ) (act : Act) (status : Status) → slice_get trip.acts k ≡ Some act → told state.actions (act_id trip.order k) ≡ Some status → IsTrue (may_follow status act.status)
  pub open_still : is_cancelled state.actions pending ≡ false

-- the name of the order is used, and its trip is as the message said
pub record IsTold (state : StateMessage) (order : List ℕ) (pending : Option Pending) (world : World) : Type 0 where
  pub used : set.contains world.orders order ≡ true
  pub trips : (key : VehicleKey) (trip : Trip) → HasTrip world key trip → trip.order ≡ order → IsAsTold state pending trip

as_told_on : (state : StateMessage) (pending : Option Pending) (before after : Trip) → Continues before after → IsAsTold state pending before → IsAsTold state pending after
as_told_on state pending before after goes as_told = record {
  reached = omega (arith, as_told.reached, goes.further);
  acts = λ k act status there told_so.
      let was = goes.acts k act there in
      status_through status was.0.status act.status (as_told.acts k was.0 status was.1 (ap (λ order. told state.actions (act_id order k)) (sym goes.order) ∙ told_so)) was.2.follows;
  open_still = as_told.open_still;
}

pub told_on : (state : StateMessage) (order : List ℕ) (pending : Option Pending) (before after : World) → Follows before after → IsTold state order pending before → IsTold state order pending after
told_on state order pending before after follows is = record {
  used = follows.orders order is.used;
  trips = λ key trip has same. elim (follows.trips key trip has) [
    | inl old ↦ as_told_on state pending old.0 trip old.2 (is.trips key old.0 old.1 (sym old.2.order ∙ same))
    | inr unused ↦ absurd (false≢true (sym unused ∙ ap (set.contains before.orders) same ∙ is.used))
  ];
}

-- ---- over a list of calls

module _ (advances : AdvancesTrips) (fits : PairsAsSaid) (seats : ℕ) (keeps : KeepsLawful seats) where
  pub accepted_since : (world : World) (calls : List (ℕ × Call)) → IsLawful seats world → AreWellTyped calls → (key : VehicleKey) (number : ℕ) → HasNoResync key calls
      → IsAccepted key number world → IsAccepted key number (steps seats world calls)
  accepted_since world [] lawful typed key number none accepted = accepted
  accepted_since world (made ∷ calls) lawful typed key number none accepted =
      let outcome = step seats world made.0 made.1 in
      let next = after world outcome in
      accepted_since next calls (keeps world made.0 made.1 lawful typed.0 typed.1) typed.2 key number none.1
      (accepted_on world next (Forgets made.1 key) key number (row_made world (Forgets made.1) outcome (goes_along advances fits seats world (vehicles_of lawful) made.0 made.1) key)
      (not_forgotten made.1 key none.0) accepted)

  pub instructed_since : (world : World) (calls : List (ℕ × Call)) → IsLawful seats world → AreWellTyped calls → (key : VehicleKey) (earlier : VehicleRow)
      → IsInstructedSince key earlier world → IsInstructedSince key earlier (steps seats world calls)
  instructed_since world [] lawful typed key earlier since = since
  instructed_since world (made ∷ calls) lawful typed key earlier since =
      let outcome = step seats world made.0 made.1 in
      let next = after world outcome in
      instructed_since next calls (keeps world made.0 made.1 lawful typed.0 typed.1) typed.2 key earlier
      (instructed_on world next (Forgets made.1 key) key earlier (row_made world (Forgets made.1) outcome (goes_along advances fits seats world (vehicles_of lawful) made.0 made.1) key) since)
