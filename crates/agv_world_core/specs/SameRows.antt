-- Whether the row of a vehicle or of a trip is unchanged: whether every field of it is.
use Rattle.std.specs.Prelude.{ℕ, ◌==◌, ◌&&◌, nat_eq, Bool, List}
use Rattle.std.specs.Bool.{beq}
use Rattle.std.specs.Cmp.Lexicographic.{pointwise}
use Rattle.std.specs.Option.{option_eq}
use denote.Enum.Bare.{sameb}
use Rattle.agv_message_core.specs.contracts.instant.InstantKind.{the_type as InstantKinds}
use Rattle.agv_message_core.specs.contracts.order.ActKind.{the_type as ActKinds}
use Rattle.agv_message_core.specs.contracts.status.Status.{the_type as Statuses}
use Rattle.agv_order.specs.declared.act.Act.{Act}
use Rattle.agv_order.specs.declared.trip.Trip.{Trip}
use Rattle.agv_world_core.specs.declared.row.Sent.{Sent}
use Rattle.agv_world_core.specs.declared.row.VehicleRow.{VehicleRow}

-- ---- fields

-- the two names are the same
abbrev pub same_name : List ℕ → List ℕ → Bool
same_name = pointwise nat_eq

-- the two rests have the same edge and the same node
abbrev pub same_rest : List ℕ × List ℕ → List ℕ × List ℕ → Bool
same_rest a b = same_name a.0 b.0 && same_name a.1 b.1

-- the two counters have the same count and the same moment
abbrev pub same_sent : Sent → Sent → Bool
same_sent a b = a.count == b.count && a.at == b.at

-- the two acts are the same, with the same status
abbrev pub same_act : Act → Act → Bool
same_act a b =
    sameb ActKinds a.kind b.kind && (same_name a.job b.job && (same_name a.load b.load && (same_name a.station b.station && (a.place_at == b.place_at && sameb Statuses a.status b.status))))

-- ---- rows

-- the two rows of a vehicle are the same
abbrev pub same_row : VehicleRow → VehicleRow → Bool
same_row a b =
    a.capacity == b.capacity && (same_name a.node b.node && (option_eq same_rest a.rest b.rest
    && (option_eq nat_eq a.last_header b.last_header && (option_eq same_name a.reported b.reported
    && (beq a.ready b.ready && (beq a.paused b.paused && (same_sent a.orders b.orders && (same_sent a.instants b.instants
    && option_eq (sameb InstantKinds) a.pending b.pending))))))))

-- the two trips have the same row: the start, how far it is released and driven, what was sent and confirmed, and the acts
abbrev pub same_trip_row : Trip → Trip → Bool
same_trip_row a b =
    same_name a.start b.start && (a.first == b.first && (a.base == b.base && (a.sent == b.sent
    && (option_eq nat_eq a.confirmed b.confirmed && (a.seen == b.seen && pointwise same_act a.acts b.acts)))))
