-- The call that starts a drive, an order without actions (VDA 5050 2.0, order; this project's profile).
use Rattle.std.specs.Prelude.{ℕ, nat_lt, not, is_none, List, [], ◌∷◌, Option, None, Some}
use Rattle.std.specs.FinSet as set
use Rattle.agv_header.specs.Count.{next_number}
use Rattle.agv_header.specs.Limits.{most_records}
use Rattle.agv_header.specs.declared.key.VehicleKey.{VehicleKey}
use Rattle.agv_header.specs.declared.refusal.Refusal.TheVariants as refusal
use Rattle.agv_order.specs.Drives.{drive_planned}
use Rattle.agv_order.specs.declared.trip.Trip.{Trip}
use Rattle.agv_track_holds.specs.Footprints.{footprint_of}
use Rattle.agv_world_core.specs.Questions.{row_of, trip_of, is_used, layout_set, count_of}
use Rattle.agv_world_core.specs.Worlds.{World}
use Rattle.agv_world_core.specs.declared.floor.Counted.TheVariants as counted
use Rattle.agv_world_core.specs.declared.key.UseKind.TheVariants as used
use Rattle.agv_world_core.specs.declared.row.VehicleRow.{VehicleRow}
use Rattle.agv_desk.specs.OrderSteps.{if_planned, is_cancelling, is_reported, sent_on}
use Rattle.agv_desk.specs.Outcomes.{Effect, Outcome, Made, Whole, refuse_unless, refuse_if_none, answer_only}
use Rattle.agv_desk.specs.Shared.{if_free}
use Rattle.agv_desk.specs.declared.answer.Answer.TheVariants as answer

-- what POST /drives asks for: the name of the order, the vehicle that gets it, the node where it is to go, and how many edges are released; and the moment of the call
pub record AskedDrive : Type 0 where
  pub at : ℕ
  pub order : List ℕ
  pub key : VehicleKey
  pub to : List ℕ
  pub edges : ℕ

-- the effect of sending the order with this trip to the vehicle of this row: its name is used, and no load and no job changes
abbrev pub drive_sent : AskedDrive → VehicleRow → Option Trip → ℕ → Effect
drive_sent asked row trip number = record (answer_only (answer.Update 0)) {
  touched = Whole asked.key (Some (record { row = row; trip = None })) (sent_on row asked.at number trip);
  uses = record { kind = used.Order; name = asked.order } ∷ [];
}

-- POST /drives: its checks in order, one a line; NoWalk, TooLong or Beyond without a plan, and Held if another vehicle holds part of the trip's footprint
abbrev pub start_drive : World → AskedDrive → Outcome
start_drive world asked =
    refuse_unless (not (is_used world used.Order asked.order)) refusal.Exists
    (refuse_if_none (row_of world asked.key) refusal.NoVehicle (λ row.
    refuse_unless (set.contains world.layout.nodes asked.to) refusal.NoNode
    (refuse_unless (not (is_reported row.reported asked.order)) refusal.OrderKnown
    (refuse_unless (is_none (trip_of world asked.key)) refusal.Busy
    (refuse_unless (is_none row.rest) refusal.Astray
    (refuse_unless row.ready refusal.NotReady
    (refuse_unless (not (is_cancelling row.pending)) refusal.InstantPending
    (refuse_if_none (layout_set world) refusal.NoWalk (λ layout.
    if_planned (drive_planned layout asked.key asked.order row.node asked.to asked.edges) (λ trip.
    if_free world asked.key (footprint_of (record { node = row.node; rest = row.rest; trip = Some trip }))
    (refuse_if_none (next_number row.orders.count) refusal.Spent (λ number.
    refuse_unless (nat_lt (count_of world counted.Orders) most_records) refusal.Limit
    (Made (drive_sent asked row (Some trip) number))))))))))))))
