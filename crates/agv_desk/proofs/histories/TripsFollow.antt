-- Trips that go on, and worlds that come after others: with no change, and one after the other.
use Rattle.std.proofs.Common.{◌≡◌, inl, inr, ℕ, Bool, true, false, not, IsTrue, List, refl, sym, ap, subst, ◌∙◌, arith}
use Rattle.std.specs.FinSet as set
use Rattle.std.proofs.lemmas.Bool.{false≢true}
use Rattle.agv_message_core.specs.declared.status.Status.{Status}
use Rattle.agv_message_core.specs.declared.status.Status.TheVariants.{Waiting, Initializing, Running, Paused, Finished, Failed}
use Rattle.agv_order.specs.Statuses.{is_waiting, is_final, may_follow}
use Rattle.agv_order.specs.declared.act.Act.{Act}
use Rattle.agv_order.specs.declared.trip.Trip.{Trip}
use Rattle.agv_track.specs.Progressed.{ActGoesOn}
use Rattle.agv_world_core.specs.Worlds.{World}
use Rattle.agv_desk.proofs.outcomes.Keeping.{Continues, Follows}

-- ---- statuses

pub status_itself : (status : Status) → IsTrue (may_follow status status)
status_itself Waiting = refl
status_itself Initializing = refl
status_itself Running = refl
status_itself Paused = refl
status_itself Finished = refl
status_itself Failed = refl

-- a final status stays
pub final_stays : (old new : Status) → IsTrue (is_final old) → IsTrue (may_follow old new) → new ≡ old
final_stays Waiting new over follows = cc
final_stays Initializing new over follows = cc
final_stays Running new over follows = cc
final_stays Paused new over follows = cc
final_stays Finished Waiting over follows = cc
final_stays Finished Initializing over follows = cc
final_stays Finished Running over follows = cc
final_stays Finished Paused over follows = cc
final_stays Finished Finished over follows = refl
final_stays Finished Failed over follows = cc
final_stays Failed Waiting over follows = cc
final_stays Failed Initializing over follows = cc
final_stays Failed Running over follows = cc
final_stays Failed Paused over follows = cc
final_stays Failed Finished over follows = cc
final_stays Failed Failed over follows = refl

-- what has begun stays so
still_begun : (old new : Status) → IsTrue (not (is_waiting old)) → IsTrue (may_follow old new) → IsTrue (not (is_waiting new))
still_begun Waiting new begun follows = cc
still_begun Initializing new begun follows = follows
still_begun Running new begun follows = follows
still_begun Paused new begun follows = follows
still_begun Finished new begun follows = subst (λ status. IsTrue (not (is_waiting status))) (sym (final_stays Finished new refl follows)) refl
still_begun Failed new begun follows = subst (λ status. IsTrue (not (is_waiting status))) (sym (final_stays Failed new refl follows)) refl

pub status_through : (one two three : Status) → IsTrue (may_follow one two) → IsTrue (may_follow two three) → IsTrue (may_follow one three)
status_through Waiting two three first second = refl
status_through Initializing two three first second = still_begun two three first second
status_through Running two three first second = still_begun two three first second
status_through Paused two three first second = still_begun two three first second
status_through Finished two three first second = subst (λ status. IsTrue (may_follow status three)) (final_stays Finished two refl first) second
status_through Failed two three first second = subst (λ status. IsTrue (may_follow status three)) (final_stays Failed two refl first) second

-- ---- acts and trips

act_itself : (act : Act) → ActGoesOn act act
act_itself act = record { task = refl; follows = status_itself act.status }

act_through : (one two three : Act) → ActGoesOn one two → ActGoesOn two three → ActGoesOn one three
act_through one two three first second = record {
  task = second.task ∙ first.task;
  follows = status_through one.status two.status three.status first.follows second.follows;
}

pub trip_itself : (trip : Trip) → Continues trip trip
trip_itself trip = record { order = refl; further = omega arith; acts = λ k act there. (act, there, act_itself act) }

pub trip_through : (one two three : Trip) → Continues one two → Continues two three → Continues one three
trip_through one two three first second = record {
  order = second.order ∙ first.order;
  further = omega (arith, first.further, second.further);
  acts = λ k act there.
      let between = second.acts k act there in
      let old = first.acts k between.0 between.1 in
      (old.0, old.1, act_through old.0 between.0 act old.2 between.2);
}

-- ---- worlds

pub world_itself : (world : World) → Follows world world
world_itself world = record { orders = λ order used. used; trips = λ key trip has. inl (trip, has, trip_itself trip) }

-- an order that is not used now was not used before
pub unused_before : (before after : World) → Follows before after → (order : List ℕ) → set.contains after.orders order ≡ false → set.contains before.orders order ≡ false
unused_before before after follows order unused = by_test (set.contains before.orders order) refl
  where
    by_test : (used : Bool) → set.contains before.orders order ≡ used → used ≡ false
    by_test true is = absurd (false≢true (sym unused ∙ follows.orders order is))
    by_test false is = refl

pub world_through : (one two three : World) → Follows one two → Follows two three → Follows one three
world_through one two three first second = record {
  orders = λ order used. second.orders order (first.orders order used);
  trips = λ key trip has. elim (second.trips key trip has) [
    | inl between ↦ elim (first.trips key between.0 between.1) [
      | inl old ↦ inl (old.0, old.1, trip_through old.0 between.0 trip old.2 between.2)
      | inr unused ↦ inr (ap (set.contains one.orders) between.2.order ∙ unused)
    ]
    | inr unused ↦ inr (unused_before one two first trip.order unused)
  ];
}
