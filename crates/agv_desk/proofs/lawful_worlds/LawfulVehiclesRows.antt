-- The row of a vehicle after a call is as it has to be: where a message was sent, a state was accepted, or the vehicle is somewhere else.
use Rattle.std.proofs.Common.{arith, ◌≡◌, ◌+◌, ◌<◌, ◌≤◌, ◌&&◌, ℕ, Bool, true, false, cond, count_by, nat_lt, nat_le, List, Option, None, Some, refl, sym, ap, subst, ltb-true, leb-true, ◌∙◌}
use Rattle.std.proofs.lemmas.Bool.{and_parts}
use Rattle.agv_header.specs.Count.{next_number}
use Rattle.agv_header.specs.Name.{IsName, as_name, is_name}
use Rattle.agv_header.specs.declared.key.VehicleKey.{VehicleKey}
use Rattle.agv_layout.specs.Layout.{Layout, IsNode}
use Rattle.agv_message_core.specs.declared.instant.InstantKind.{InstantKind}
use Rattle.agv_message_core.specs.declared.state.StateMessage.{StateMessage}
use Rattle.agv_order.specs.declared.trip.Trip.{Trip}
use Rattle.agv_world_core.specs.Lawful.{IsRestAt, IsSent, picks}
use Rattle.agv_world_core.specs.LawfulParts.{IsTripOf, IsVehicleOf}
use Rattle.agv_world_core.specs.declared.row.Sent.{Sent}
use Rattle.agv_world_core.specs.declared.row.VehicleRow.{VehicleRow}
use Rattle.agv_desk.specs.OrderSteps.{sent_on}
use Rattle.agv_desk.specs.StateSteps.{with_state}
use Rattle.agv_desk.specs.VehicleSteps.{new_vehicle, placed}
use Rattle.agv_desk.specs.WellTyped.{IsMoment}
use Rattle.agv_desk.proofs.outcomes.Known.{none_some, same_some}

-- ---- what was sent

-- the next number is one more, and in its range
pub next_of : (sent : Sent) (number : ℕ) → next_number sent.count ≡ Some number → (number ≡ sent.count + 1) × (number ≤ 4294967295)
next_of sent number = by_test (nat_lt sent.count 4294967295) refl
  where
    by_test : (few : Bool) → nat_lt sent.count 4294967295 ≡ few → cond few (Some (sent.count + 1)) None ≡ Some number → (number ≡ sent.count + 1) × (number ≤ 4294967295)
    by_test true few e = let is = same_some e in (sym is, omega (arith, is, ltb-true sent.count 4294967295 few))
    by_test false few e = none_some e

pub some_sent : (sent : Sent) (number : ℕ) → next_number sent.count ≡ Some number → 0 < number
some_sent sent number next = omega (arith, (next_of sent number next).0)

pub is_sent : (sent : Sent) (number at : ℕ) → next_number sent.count ≡ Some number → IsMoment at → IsSent (record { count = number; at = at })
is_sent sent number at next moment = record {
  number = (next_of sent number next).1;
  moment = moment;
  none = λ zero. absurd (omega (arith, zero, (next_of sent number next).0));
}

-- ---- what was accepted

spelled : (bytes name : List ℕ) (spells : Bool) → is_name bytes ≡ spells → cond spells (Some bytes) None ≡ Some name → IsName name
spelled bytes name true is e = subst IsName (same_some e) is
spelled bytes name false is e = none_some e

-- what is spelled is a name
as_name-IsName : (bytes name : List ℕ) → as_name bytes ≡ Some name → IsName name
as_name-IsName bytes name = spelled bytes name (is_name bytes) refl

-- an action that is still pending was pending before
pends : (over : Bool) (pending : Option InstantKind) (kind : InstantKind) → cond over None pending ≡ Some kind → pending ≡ Some kind
pends true pending kind e = none_some e
pends false pending kind e = e

module _ (seats : ℕ) (layout : Layout) (row : VehicleRow) (lawful : IsVehicleOf seats layout row) where
  pub accepted_row : (state : StateMessage) (over : Bool) → state.header_id ≤ 4294967295 → IsVehicleOf seats layout (with_state row state over)
  accepted_row state over numbered = record {
    carries = lawful.carries;
    seated = lawful.seated;
    node = lawful.node;
    rest = lawful.rest;
    header = λ number e. subst (λ n. n ≤ 4294967295) (same_some e) numbered;
    reported = λ order e. as_name-IsName state.order_id order e;
    orders = lawful.orders;
    instants = lawful.instants;
    pending = λ kind e. lawful.pending kind (pends over row.pending kind e);
  }

  -- the vehicle is at a node, with a rest that begins there
  pub moved_row : (node : List ℕ) (rest : Option (List ℕ × List ℕ)) → IsNode layout node → IsRestAt layout node rest → IsVehicleOf seats layout (record row { node = node; rest = rest })
  moved_row node rest is begins = record {
    carries = lawful.carries;
    seated = lawful.seated;
    node = is;
    rest = begins;
    header = lawful.header;
    reported = lawful.reported;
    orders = lawful.orders;
    instants = lawful.instants;
    pending = lawful.pending;
  }

  -- a person has put it at a node
  pub placed_row : (node : List ℕ) → IsNode layout node → IsVehicleOf seats layout (placed row node).row
  placed_row node is = record {
    carries = lawful.carries;
    seated = lawful.seated;
    node = is;
    rest = tt;
    header = lawful.header;
    reported = lawful.reported;
    orders = lawful.orders;
    instants = lawful.instants;
    pending = λ kind e. none_some e;
  }

  -- the number of its last state is forgotten
  pub forgotten_row : IsVehicleOf seats layout (record row { last_header = None })
  forgotten_row = record {
    carries = lawful.carries;
    seated = lawful.seated;
    node = lawful.node;
    rest = lawful.rest;
    header = λ number e. none_some e;
    reported = lawful.reported;
    orders = lawful.orders;
    instants = lawful.instants;
    pending = lawful.pending;
  }

  -- it was sent an instant action
  pub instructed_row : (number at : ℕ) (kind : InstantKind) → next_number row.instants.count ≡ Some number → IsMoment at
      → IsVehicleOf seats layout (record row { instants = record { count = number; at = at }; pending = Some kind })
  instructed_row number at kind next moment = record {
    carries = lawful.carries;
    seated = lawful.seated;
    node = lawful.node;
    rest = lawful.rest;
    header = lawful.header;
    reported = lawful.reported;
    orders = lawful.orders;
    instants = is_sent row.instants number at next moment;
    pending = λ other e. some_sent row.instants number next;
  }

  -- it was sent an order message
  pub ordered_row : (number at : ℕ) (trip : Option Trip) → next_number row.orders.count ≡ Some number → IsMoment at → IsVehicleOf seats layout (sent_on row at number trip).row
  ordered_row number at trip next moment = record {
    carries = lawful.carries;
    seated = lawful.seated;
    node = lawful.node;
    rest = lawful.rest;
    header = lawful.header;
    reported = lawful.reported;
    orders = is_sent row.orders number at next moment;
    instants = lawful.instants;
    pending = lawful.pending;
  }

-- a new vehicle has 1 to `seats` places
pub new_row : (seats : ℕ) (layout : Layout) (capacity : ℕ) (node : List ℕ) → IsNode layout node → (nat_lt 0 capacity && nat_le capacity seats) ≡ true → IsVehicleOf seats layout (new_vehicle capacity node).row
new_row seats layout capacity node is places =
    let each = and_parts (nat_lt 0 capacity) (nat_le capacity seats) places in
    record {
      carries = omega (arith, ltb-true 0 capacity each.0);
      seated = leb-true capacity seats each.1;
      node = is;
      rest = tt;
      header = λ number e. none_some e;
      reported = λ order e. none_some e;
      orders = record { number = omega arith; moment = omega arith; none = λ e. refl };
      instants = record { number = omega arith; moment = omega arith; none = λ e. refl };
      pending = λ kind e. none_some e;
    }

-- ---- its trip

-- a trip is of a vehicle whose places, orders, node and rest are the same
pub same_trip : (layout : Layout) (key : VehicleKey) (row new : VehicleRow) (trip : Trip) → new.capacity ≡ row.capacity → new.orders ≡ row.orders → new.node ≡ row.node → new.rest ≡ row.rest
    → IsTripOf layout key row trip → IsTripOf layout key new trip
same_trip layout key row new trip capacity orders node rest of = record {
  well_formed = of.well_formed;
  own = of.own;
  picks_fit = subst (λ n. count_by picks trip.acts ≤ n) (sym capacity) of.picks_fit;
  sent = subst (λ (sent : Sent). 0 < sent.count) (sym orders) of.sent;
  stands = of.stands ∙ ap Some (sym node);
  no_rest = rest ∙ of.no_rest;
}
