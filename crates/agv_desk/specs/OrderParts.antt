-- Parts of POST /orders and POST /drives, from a later check on, for the functions that carry it out in parts. No public clause cites this.
use Rattle.std.specs.Prelude.{◌+◌, nat_lt, nat_le, not, is_none, count_by, List, [], Some}
use Rattle.std.specs.List.{list_all}
use Rattle.agv_header.specs.Count.{next_number}
use Rattle.agv_header.specs.Limits.{most_records}
use Rattle.agv_header.specs.declared.refusal.Refusal.TheVariants as refusal
use Rattle.agv_order.specs.Drives.{drive_planned}
use Rattle.agv_order.specs.Plans.{planned}
use Rattle.agv_order.specs.StopPlaces.{stop_picks}
use Rattle.agv_order.specs.declared.trip.Trip.{Trip}
use Rattle.agv_stock.specs.declared.job.Job.{Job}
use Rattle.agv_track_holds.specs.Footprints.{footprint_of}
use Rattle.agv_world_core.specs.Questions.{trip_of, loads_on, layout_set, count_of}
use Rattle.agv_world_core.specs.Worlds.{World}
use Rattle.agv_world_core.specs.declared.floor.Counted.TheVariants as counted
use Rattle.agv_world_core.specs.declared.row.VehicleRow.{VehicleRow}
use Rattle.agv_desk.specs.DriveSteps.{AskedDrive, drive_sent}
use Rattle.agv_desk.specs.OrderSteps.{AskedOrder, if_planned, is_cancelling, is_reported, order_sent, waits}
use Rattle.agv_desk.specs.Outcomes.{Outcome, Made, refuse_unless, refuse_if_none}
use Rattle.agv_desk.specs.Shared.{if_free}

-- from the check of the footprint on, with the trip planned
abbrev pub send_trip : World → AskedOrder → VehicleRow → List Job → Trip → Outcome
send_trip world asked row jobs trip =
    if_free world asked.key (footprint_of (record { node = row.node; rest = row.rest; trip = Some trip }))
    (refuse_if_none (next_number row.orders.count) refusal.Spent (λ number.
    refuse_unless (nat_lt (count_of world counted.Orders) most_records) refusal.Limit
    (Made (order_sent asked row jobs (Some trip) number))))

-- from the plan on, for a vehicle that can take the order
abbrev pub send_order : World → AskedOrder → VehicleRow → List Job → Outcome
send_order world asked row jobs =
    refuse_if_none (layout_set world) refusal.NoWalk (λ layout.
    if_planned (planned layout asked.key jobs asked.stops asked.order row.node asked.edges)
    (send_trip world asked row jobs))

-- from the check of the reported order on, with the vehicle's row and the jobs found
abbrev pub take_order : World → AskedOrder → VehicleRow → List Job → Outcome
take_order world asked row jobs =
    refuse_unless (not (is_reported row.reported asked.order)) refusal.OrderKnown
    (refuse_unless (list_all waits jobs) refusal.JobState
    (refuse_unless (is_none (trip_of world asked.key)) refusal.Busy
    (refuse_unless (is_none row.rest) refusal.Astray
    (refuse_unless (nat_le (loads_on world asked.key + count_by stop_picks asked.stops) row.capacity) refusal.Loaded
    (refuse_unless row.ready refusal.NotReady
    (refuse_unless (not (is_cancelling row.pending)) refusal.InstantPending
    (send_order world asked row jobs)))))))

-- ---- drives

-- the order of a drive: it has no stops
abbrev pub order_of_drive : AskedDrive → AskedOrder
order_of_drive asked = record { at = asked.at; order = asked.order; key = asked.key; stops = []; edges = asked.edges }

-- from the check of the footprint on, with the drive planned
abbrev pub send_drive_trip : World → AskedDrive → VehicleRow → Trip → Outcome
send_drive_trip world asked row trip =
    if_free world asked.key (footprint_of (record { node = row.node; rest = row.rest; trip = Some trip }))
    (refuse_if_none (next_number row.orders.count) refusal.Spent (λ number.
    refuse_unless (nat_lt (count_of world counted.Orders) most_records) refusal.Limit
    (Made (drive_sent asked row (Some trip) number))))

-- from the plan on, for a vehicle that can take the drive
abbrev pub send_drive : World → AskedDrive → VehicleRow → Outcome
send_drive world asked row =
    refuse_if_none (layout_set world) refusal.NoWalk (λ layout.
    if_planned (drive_planned layout asked.key asked.order row.node asked.to asked.edges)
    (send_drive_trip world asked row))

-- from the check of the reported order on, with the vehicle's row found
abbrev pub take_drive : World → AskedDrive → VehicleRow → Outcome
take_drive world asked row =
    refuse_unless (not (is_reported row.reported asked.order)) refusal.OrderKnown
    (refuse_unless (is_none (trip_of world asked.key)) refusal.Busy
    (refuse_unless (is_none row.rest) refusal.Astray
    (refuse_unless row.ready refusal.NotReady
    (refuse_unless (not (is_cancelling row.pending)) refusal.InstantPending
    (send_drive world asked row)))))
