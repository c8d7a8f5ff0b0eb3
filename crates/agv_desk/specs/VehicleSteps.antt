-- The calls of a vehicle that move no load: it is registered, placed by a person, or resynced (this project's profile).
use Rattle.std.specs.Prelude.{ℕ, ◌&&◌, nat_lt, nat_le, false, is_none, List, [], ◌∷◌, Option, None, Some}
use Rattle.std.specs.FinSet as set
use Rattle.agv_header.specs.Limits.{most_records, most_vehicles}
use Rattle.agv_header.specs.declared.key.Thing.TheVariants as thing
use Rattle.agv_header.specs.declared.key.VehicleKey.{VehicleKey}
use Rattle.agv_header.specs.declared.refusal.Refusal.TheVariants as refusal
use Rattle.agv_order.specs.declared.trip.Trip.{Trip}
use Rattle.agv_world_core.specs.Questions.{row_of, trip_of, count_of}
use Rattle.agv_world_core.specs.Worlds.{Vehicle, World}
use Rattle.agv_world_core.specs.declared.floor.Counted.TheVariants as counted
use Rattle.agv_world_core.specs.declared.row.Sent.{Sent}
use Rattle.agv_world_core.specs.declared.row.VehicleRow.{VehicleRow}
use Rattle.agv_desk.specs.ActSteps.{jobs_stopped}
use Rattle.agv_desk.specs.Outcomes.{Outcome, Effect, Made, RowOnly, Whole, refuse_unless, refuse_if_none, answer_only}
use Rattle.agv_desk.specs.Shared.{is_new, reference_key, if_free}
use Rattle.agv_desk.specs.declared.answer.Answer.TheVariants as answer

-- the counter of a topic of which no message was sent
abbrev pub none_sent : Sent
none_sent = record { count = 0; at = 0 }

-- a new vehicle, with this capacity, at this node
abbrev pub new_vehicle : ℕ → List ℕ → Vehicle
new_vehicle capacity node = record {
  row = record {
    capacity = capacity;
    node = node;
    rest = None;
    last_header = None;
    reported = None;
    ready = false;
    paused = false;
    orders = none_sent;
    instants = none_sent;
    pending = None;
  };
  trip = None;
}

-- the effect of registering a new vehicle
abbrev pub vehicle_registered : VehicleKey → List ℕ → ℕ → Effect
vehicle_registered key node capacity = record (answer_only answer.Done) { touched = Whole key None (new_vehicle capacity node) }

-- POST /vehicles: Exists, NoNode, Held, Limit if there are 100 vehicles, or the capacity is 0 or above the largest one
abbrev pub register_vehicle : ℕ → World → VehicleKey → List ℕ → ℕ → Outcome
register_vehicle seats world key node capacity =
    refuse_unless (is_none (row_of world key)) refusal.Exists
    (refuse_unless (set.contains world.layout.nodes node) refusal.NoNode
    (if_free world key (thing.Node node ∷ [])
    (refuse_unless (nat_lt (count_of world counted.Vehicles) most_vehicles && (nat_lt 0 capacity && nat_le capacity seats)) refusal.Limit
    (Made (vehicle_registered key node capacity)))))

-- the vehicle after a person has put it on this node: no trip, no rest, and nothing pending
abbrev pub placed : VehicleRow → List ℕ → Vehicle
placed row node = record { row = record row { node = node; rest = None; pending = None }; trip = None }

-- the vehicle is at this node; an open trip ends, and its jobs that are not done stop
abbrev pub put_down : World → VehicleKey → VehicleRow → Option Trip → List ℕ → List ℕ → Outcome
put_down world key row trip reference node =
    Made (record (answer_only answer.Done) {
      touched = Whole key (Some (record { row = row; trip = trip })) (placed row node);
      jobs = jobs_stopped world trip;
      uses = reference_key reference ∷ [];
    })

-- POST .../place: RefUsed, NoVehicle, NoNode, Held, Limit; then `put_down`
abbrev pub place_vehicle : World → VehicleKey → List ℕ → List ℕ → Outcome
place_vehicle world key reference node =
    refuse_unless (is_new world reference) refusal.RefUsed
    (refuse_if_none (row_of world key) refusal.NoVehicle (λ row.
    refuse_unless (set.contains world.layout.nodes node) refusal.NoNode
    (if_free world key (thing.Node node ∷ [])
    (refuse_unless (nat_lt (count_of world counted.References) most_records) refusal.Limit
    (put_down world key row (trip_of world key) reference node)))))

-- POST .../resync: NoVehicle; the `headerId` of the last state is forgotten
abbrev pub resync : World → VehicleKey → Outcome
resync world key =
    refuse_if_none (row_of world key) refusal.NoVehicle (λ row.
    Made (record (answer_only answer.Done) { touched = RowOnly key row (record row { last_header = None }) }))
