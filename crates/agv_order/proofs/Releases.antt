-- A well-formed trip after a release.
use Rattle.std.proofs.Common.{arith, ◌≡◌, ℕ, Option, Some, refl, sym, subst, inr}
use Rattle.agv_layout.specs.Layout.{Layout}
use Rattle.agv_order.specs.Releases.{CanRelease, released}
use Rattle.agv_order.specs.WellFormed.{IsConfirmed, IsUnderWay, IsWellFormed}
use Rattle.agv_order.specs.declared.trip.Trip.{Trip}

-- what was confirmed as the last update is now the one before it
confirmed_before : (trip : Trip) (n : ℕ) → IsUnderWay trip → (confirmed : Option ℕ) → confirmed ≡ Some trip.sent → IsConfirmed (released trip n) confirmed
confirmed_before trip n way confirmed e =
    subst (λ o. IsConfirmed (released trip n) o) (sym e) (inr (refl, way.seen_released))

-- the plan stays, and the trip stays under way
pub released_well : (layout : Layout) (trip : Trip) (n : ℕ) → IsWellFormed layout trip → trip.confirmed ≡ Some trip.sent → CanRelease trip n
    → IsWellFormed layout (released trip n)
released_well layout trip n formed e can =
    let way = formed.under_way in
    record {
      planned = formed.planned;
      under_way = record {
        in_base = omega (arith, can.0);
        on_way = can.1;
        seen_released = omega (arith, way.seen_released);
        sent_released = omega (arith, way.sent_released, can.0);
        begins = λ none. absurd (omega (arith, none));
        grows = λ _. omega (arith, can.0);
        confirmed = confirmed_before trip n way trip.confirmed e;
        reached = way.reached;
        in_turn = way.in_turn;
        is_open = way.is_open;
      };
    }
