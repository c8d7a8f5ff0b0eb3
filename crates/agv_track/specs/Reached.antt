-- The place on its way where a state puts a vehicle (VDA 5050 2.0, lastNodeId, lastNodeSequenceId, nodeStates; this project's profile).
use Rattle.std.specs.Prelude.{ℕ, ◌/◌, ◌%◌, ◌==◌, nat_lt, nat_eq, Bool, false, ◌&&◌, ◌||◌, if◌then◌else◌, List, Option, None, Some}
use Rattle.std.specs.List.{list_any}
use Rattle.std.specs.Cmp.Lexicographic.{pointwise}
use Rattle.agv_message_core.specs.declared.state.StateMessage.{StateMessage}
use Rattle.agv_order.specs.Trips.{node_at}
use Rattle.agv_order.specs.declared.trip.Trip.{Trip}

-- node 0 is still to be traversed
abbrev pub is_at_start : StateMessage → Bool
is_at_start state = list_any (λ (seq : ℕ). seq == 0) state.node_seqs

-- the place on the way of the node that the vehicle has reached: node k has the sequence number 2k
abbrev pub reported_node : StateMessage → ℕ
reported_node state = if is_at_start state then 0 else state.last_seq / 2

-- there is a name, and it is this text
abbrev pub is_named : Option (List ℕ) → List ℕ → Bool
is_named None text = false
is_named (Some name) text = pointwise nat_eq text name

-- the last sequence number is that of a node of the trip, and the last node's name is this node's
abbrev pub names_node : Trip → StateMessage → Bool
names_node trip state = state.last_seq % 2 == 0 && is_named (node_at trip (state.last_seq / 2)) state.last_node

-- the state names a node of the trip; while node 0 is still to be traversed, neither number nor name counts
abbrev pub is_our_node : Trip → StateMessage → Bool
is_our_node trip state = is_at_start state || names_node trip state

-- the update is earlier than the confirmed one
abbrev pub is_before : ℕ → Option ℕ → Bool
is_before update None = false
is_before update (Some confirmed) = nat_lt update confirmed

-- the place of the last node that is released by this update, which is the last one sent or the one before it
abbrev pub base_of : Trip → ℕ → ℕ
base_of trip update = if update == trip.sent then trip.base else trip.first
