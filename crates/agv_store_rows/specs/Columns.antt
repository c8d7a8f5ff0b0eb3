-- How a row of the world is written into the columns of its table, and how it is read back; `None` is for columns that are no row of the world. An absent value is NULL.
use Rattle.std.specs.Prelude.{◌==◌, ℕ, List, [], ◌∷◌, length, if◌then◌else◌, Option, None, Some, codes}
use Rattle.sqlite.specs.Values.{or_null}
use Rattle.sqlite_value.specs.Order.{Row, column}
use Rattle.sqlite_value.specs.declared.value.Value.{Value}
use Rattle.sqlite_value.specs.declared.value.Value.TheVariants.{Null, Text}
use Rattle.agv_header.specs.declared.key.Thing.{Thing}
use Rattle.agv_header.specs.declared.key.Thing.TheVariants as thing
use Rattle.agv_header.specs.declared.key.VehicleKey.{VehicleKey}
use Rattle.agv_layout.specs.declared.edge.EdgeEnds.{EdgeEnds}
use Rattle.agv_layout.specs.declared.station.StationSite.{StationSite}
use Rattle.agv_message_core.specs.Instant.{instant_name}
use Rattle.agv_message_core.specs.Order.{act_name}
use Rattle.agv_message_core.specs.Status.{status_name}
use Rattle.agv_stock.specs.declared.place.Place.{Place}
use Rattle.agv_stock.specs.declared.place.Place.TheVariants as place
use Rattle.agv_world_core.specs.declared.key.LegKey.{LegKey}
use Rattle.agv_world_core.specs.declared.key.UseKey.{UseKey}
use Rattle.agv_world_core.specs.declared.row.JobRow.{JobRow}
use Rattle.agv_world_core.specs.declared.row.Sent.{Sent}
use Rattle.agv_world_core.specs.declared.row.VehicleRow.{VehicleRow}
use Rattle.agv_stock.specs.Phase.{phase_name}
use Rattle.agv_store_rows.specs.ValueEncodings.{if_some, name_in, number_cell, number_in, flag_cell, flag_in, moment_in, maybe_in, phase_in, status_in, instant_in, use_name, use_in, place_kind_in, act_kind_in, thing_kind_in}
use Rattle.agv_store_rows.specs.declared.act_key.ActKey.{ActKey}
use Rattle.agv_store_rows.specs.declared.act_row.ActRow.{ActRow}
use Rattle.agv_store_rows.specs.declared.journey_row.JourneyRow.{JourneyRow}
use Rattle.agv_store_rows.specs.declared.capacity_row.CapacityRow.{CapacityRow}
use Rattle.agv_store_rows.specs.declared.words.PlaceKind.{PlaceKind}
use Rattle.agv_store_rows.specs.declared.words.PlaceKind.TheVariants as kind
use Rattle.agv_store_rows.specs.declared.words.ThingKind.{ThingKind}
use Rattle.agv_store_rows.specs.declared.words.ThingKind.TheVariants as held

-- the decoded row, if it has n columns, else none
abbrev pub if_columns : {A : Type 0} → ℕ → Row → Option A → Option A
if_columns n row told = if length row == n then told else None

-- ---- meta: id, schema

abbrev pub meta_columns : ℕ → ℕ → Row
meta_columns id schema = number_cell id ∷ number_cell schema ∷ []

abbrev pub meta_in : Row → Option (ℕ × ℕ)
meta_in row = if_columns 2 row (if_some (number_in (column row 0)) (λ id. if_some (number_in (column row 1)) (λ schema. Some (id, schema))))

-- ---- node: id

abbrev pub node_columns : List ℕ → Row
node_columns id = Text id ∷ []

abbrev pub node_in : Row → Option (List ℕ)
node_in row = if_columns 1 row (name_in (column row 0))

-- ---- edge: id, start, finish

abbrev pub edge_columns : List ℕ → EdgeEnds → Row
edge_columns id ends = Text id ∷ Text ends.start ∷ Text ends.finish ∷ []

abbrev pub edge_in : Row → Option (List ℕ × EdgeEnds)
edge_in row = if_columns 3 row (
    if_some (name_in (column row 0)) (λ id. if_some (name_in (column row 1)) (λ start. if_some (name_in (column row 2)) (λ finish.
    Some (id, record { start = start; finish = finish })))))

-- ---- station: id, node, capacity

abbrev pub station_columns : List ℕ → StationSite → Row
station_columns id site = Text id ∷ Text site.node ∷ number_cell site.capacity ∷ []

abbrev pub station_in : Row → Option (List ℕ × StationSite)
station_in row = if_columns 3 row (
    if_some (name_in (column row 0)) (λ id. if_some (name_in (column row 1)) (λ node. if_some (number_in (column row 2)) (λ capacity.
    Some (id, record { node = node; capacity = capacity })))))

-- ---- vehicle: manufacturer, serial, node, rest_edge, rest_node, last_header, reported, ready, paused, order_header, order_at, instant_header, instant_at, pending

-- the vehicle with this manufacturer and serial number
unfoldable pub key_in : Value → Value → Option VehicleKey
key_in manufacturer serial =
    if_some (name_in manufacturer) (λ manufacturer. if_some (name_in serial) (λ serial. Some (record { manufacturer = manufacturer; serial = serial })))

-- a vehicle's rest, an edge and a node, which are both there or both absent
abbrev pub rest_of : Option (List ℕ) → Option (List ℕ) → Option (Option (List ℕ × List ℕ))
rest_of None None = Some None
rest_of None (Some node) = None
rest_of (Some edge) None = None
rest_of (Some edge) (Some node) = Some (Some (edge, node))

unfoldable pub rest_in : Value → Value → Option (Option (List ℕ × List ℕ))
rest_in edge node = if_some (maybe_in name_in edge) (λ edge. if_some (maybe_in name_in node) (λ node. rest_of edge node))

-- the count and the time of the last message sent on a topic
unfoldable pub sent_in : Value → Value → Option Sent
sent_in count at = if_some (number_in count) (λ count. if_some (moment_in at) (λ at. Some (record { count = count; at = at })))

-- the columns of a vehicle, without its capacity, which is in `capacity`
abbrev pub vehicle_columns : VehicleKey → VehicleRow → Row
vehicle_columns key row =
    Text key.manufacturer ∷ Text key.serial ∷ Text row.node
    ∷ or_null (λ (rest : List ℕ × List ℕ). Text rest.0) row.rest ∷ or_null (λ (rest : List ℕ × List ℕ). Text rest.1) row.rest
    ∷ or_null number_cell row.last_header ∷ or_null Text row.reported
    ∷ flag_cell row.ready ∷ flag_cell row.paused
    ∷ number_cell row.orders.count ∷ number_cell row.orders.at ∷ number_cell row.instants.count ∷ number_cell row.instants.at
    ∷ or_null (λ kind. Text (instant_name kind)) row.pending ∷ []

-- the vehicle that a row encodes, with capacity 1 as a placeholder
unfoldable pub vehicle_in : Row → Option (VehicleKey × VehicleRow)
vehicle_in row = if_columns 14 row (
    if_some (key_in (column row 0) (column row 1)) (λ key.
    if_some (name_in (column row 2)) (λ node.
    if_some (rest_in (column row 3) (column row 4)) (λ rest.
    if_some (maybe_in number_in (column row 5)) (λ last_header.
    if_some (maybe_in name_in (column row 6)) (λ reported.
    if_some (flag_in (column row 7)) (λ ready.
    if_some (flag_in (column row 8)) (λ paused.
    if_some (sent_in (column row 9) (column row 10)) (λ orders.
    if_some (sent_in (column row 11) (column row 12)) (λ instants.
    if_some (maybe_in instant_in (column row 13)) (λ pending.
    Some (key, record { capacity = 1; node = node; rest = rest; last_header = last_header; reported = reported; ready = ready; paused = paused; orders = orders; instants = instants; pending = pending }))))))))))))

-- ---- capacity: manufacturer, serial, capacity

abbrev pub capacity_columns : VehicleKey → CapacityRow → Row
capacity_columns key own = Text key.manufacturer ∷ Text key.serial ∷ number_cell own.capacity ∷ []

-- the columns of a vehicle's capacity
abbrev pub vehicle_capacity_columns : VehicleKey → VehicleRow → Row
vehicle_capacity_columns key vehicle = capacity_columns key (record { capacity = vehicle.capacity })

unfoldable pub capacity_in : Row → Option (VehicleKey × CapacityRow)
capacity_in row = if_columns 3 row (
    if_some (key_in (column row 0) (column row 1)) (λ key. if_some (number_in (column row 2)) (λ capacity. Some (key, record { capacity = capacity }))))

-- ---- journey: order_id, manufacturer, serial, start, first, base, sent, confirmed, seen

abbrev pub journey_columns : List ℕ → JourneyRow → Row
journey_columns order journey =
    Text order ∷ Text journey.vehicle.manufacturer ∷ Text journey.vehicle.serial ∷ Text journey.start
    ∷ number_cell journey.first ∷ number_cell journey.base ∷ number_cell journey.sent ∷ or_null number_cell journey.confirmed ∷ number_cell journey.seen ∷ []

unfoldable pub journey_in : Row → Option (List ℕ × JourneyRow)
journey_in row = if_columns 9 row (
    if_some (name_in (column row 0)) (λ order.
    if_some (key_in (column row 1) (column row 2)) (λ vehicle.
    if_some (name_in (column row 3)) (λ start.
    if_some (number_in (column row 4)) (λ first.
    if_some (number_in (column row 5)) (λ base.
    if_some (number_in (column row 6)) (λ sent.
    if_some (maybe_in number_in (column row 7)) (λ confirmed.
    if_some (number_in (column row 8)) (λ seen.
    Some (order, record { vehicle = vehicle; start = start; first = first; base = base; sent = sent; confirmed = confirmed; seen = seen }))))))))))

-- ---- act: order_id, n, job, kind, place_at, status

abbrev pub act_columns : ActKey → ActRow → Row
act_columns key act = Text key.order ∷ number_cell key.n ∷ Text act.job ∷ Text (act_name act.kind) ∷ number_cell act.place_at ∷ Text (status_name act.status) ∷ []

unfoldable pub act_in : Row → Option (ActKey × ActRow)
act_in row = if_columns 6 row (
    if_some (name_in (column row 0)) (λ order.
    if_some (number_in (column row 1)) (λ n.
    if_some (name_in (column row 2)) (λ job.
    if_some (act_kind_in (column row 3)) (λ kind.
    if_some (number_in (column row 4)) (λ place_at.
    if_some (status_in (column row 5)) (λ status.
    Some (record { order = order; n = n }, record { job = job; kind = kind; place_at = place_at; status = status }))))))))

-- ---- leg: order_id, k, edge

abbrev pub leg_columns : LegKey → List ℕ → Row
leg_columns key edge = Text key.order ∷ number_cell key.k ∷ Text edge ∷ []

abbrev pub leg_in : Row → Option (LegKey × List ℕ)
leg_in row = if_columns 3 row (
    if_some (name_in (column row 0)) (λ order. if_some (number_in (column row 1)) (λ k. if_some (name_in (column row 2)) (λ edge.
    Some (record { order = order; k = k }, edge)))))

-- ---- load: id, kind, station, manufacturer, serial

abbrev pub load_columns : List ℕ → Place → Row
load_columns id (place.Station station) = Text id ∷ Text (codes "station") ∷ Text station ∷ Null ∷ Null ∷ []
load_columns id (place.Vehicle key) = Text id ∷ Text (codes "vehicle") ∷ Null ∷ Text key.manufacturer ∷ Text key.serial ∷ []
load_columns id place.Checking = Text id ∷ Text (codes "checking") ∷ Null ∷ Null ∷ Null ∷ []
load_columns id place.Left = Text id ∷ Text (codes "left") ∷ Null ∷ Null ∷ Null ∷ []

-- the place of that kind; the columns that do not belong to the kind are NULL
abbrev pub place_of : PlaceKind → Option (List ℕ) → Option (List ℕ) → Option (List ℕ) → Option Place
place_of kind.Station (Some station) None None = Some (place.Station station)
place_of kind.Vehicle None (Some manufacturer) (Some serial) = Some (place.Vehicle (record { manufacturer = manufacturer; serial = serial }))
place_of kind.Checking None None None = Some place.Checking
place_of kind.Left None None None = Some place.Left
place_of _ _ _ _ = None

unfoldable pub load_in : Row → Option (List ℕ × Place)
load_in row = if_columns 5 row (
    if_some (name_in (column row 0)) (λ id.
    if_some (place_kind_in (column row 1)) (λ kind.
    if_some (maybe_in name_in (column row 2)) (λ station.
    if_some (maybe_in name_in (column row 3)) (λ manufacturer.
    if_some (maybe_in name_in (column row 4)) (λ serial.
    if_some (place_of kind station manufacturer serial) (λ place.
    Some (id, place))))))))

-- ---- job: id, load, origin, target, phase

abbrev pub job_columns : List ℕ → JobRow → Row
job_columns id job = Text id ∷ Text job.load ∷ Text job.origin ∷ Text job.target ∷ Text (phase_name job.phase) ∷ []

unfoldable pub job_in : Row → Option (List ℕ × JobRow)
job_in row = if_columns 5 row (
    if_some (name_in (column row 0)) (λ id.
    if_some (name_in (column row 1)) (λ load.
    if_some (name_in (column row 2)) (λ origin.
    if_some (name_in (column row 3)) (λ target.
    if_some (phase_in (column row 4)) (λ phase.
    Some (id, record { load = load; origin = origin; target = target; phase = phase })))))))

-- ---- hold: kind, id, manufacturer, serial

abbrev pub hold_columns : Thing → VehicleKey → Row
hold_columns (thing.Node id) key = Text (codes "node") ∷ Text id ∷ Text key.manufacturer ∷ Text key.serial ∷ []
hold_columns (thing.Edge id) key = Text (codes "edge") ∷ Text id ∷ Text key.manufacturer ∷ Text key.serial ∷ []

-- the node or edge of that id
abbrev pub thing_of : ThingKind → List ℕ → Thing
thing_of held.Node id = thing.Node id
thing_of held.Edge id = thing.Edge id

unfoldable pub hold_in : Row → Option (Thing × VehicleKey)
hold_in row = if_columns 4 row (
    if_some (thing_kind_in (column row 0)) (λ kind.
    if_some (name_in (column row 1)) (λ id.
    if_some (key_in (column row 2) (column row 3)) (λ key.
    Some (thing_of kind id, key)))))

-- ---- used: kind, id

abbrev pub used_columns : UseKey → Row
used_columns key = Text (use_name key.kind) ∷ Text key.name ∷ []

abbrev pub used_in : Row → Option UseKey
used_in row = if_columns 2 row (
    if_some (use_in (column row 0)) (λ kind. if_some (name_in (column row 1)) (λ name. Some (record { kind = kind; name = name }))))
