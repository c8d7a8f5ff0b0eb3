-- The columns that a row of the world writes tell that row.
use Rattle.std.proofs.Common.{◌≡◌, ℕ, pos, List, Option, None, Some, IfSome, codes, refl}
use Rattle.sqlite.specs.Values.{or_null}
use Rattle.sqlite_value.specs.declared.value.Value.TheVariants.{Int, Text}
use Rattle.agv_header.specs.Name.{IsName}
use Rattle.agv_header.specs.declared.key.Thing.{Thing}
use Rattle.agv_header.specs.declared.key.Thing.TheVariants as thing
use Rattle.agv_header.specs.declared.key.VehicleKey.{VehicleKey}
use Rattle.agv_layout.specs.declared.edge.EdgeEnds.{EdgeEnds}
use Rattle.agv_layout.specs.declared.station.StationSite.{StationSite}
use Rattle.agv_message_core.specs.Instant.{instant_name}
use Rattle.agv_message_core.specs.declared.instant.InstantKind.{InstantKind}
use Rattle.agv_stock.specs.declared.place.Place.{Place}
use Rattle.agv_stock.specs.declared.place.Place.TheVariants as place
use Rattle.agv_store_rows.specs.declared.act_key.ActKey.{ActKey}
use Rattle.agv_store_rows.specs.declared.act_row.ActRow.{ActRow}
use Rattle.agv_store_rows.specs.declared.journey_row.JourneyRow.{JourneyRow}
use Rattle.agv_world_core.specs.Lawful.{IsKey}
use Rattle.agv_world_core.specs.declared.key.LegKey.{LegKey}
use Rattle.agv_world_core.specs.declared.key.UseKey.{UseKey}
use Rattle.agv_world_core.specs.declared.row.JobRow.{JobRow}
use Rattle.agv_world_core.specs.declared.row.Sent.{Sent}
use Rattle.agv_world_core.specs.declared.row.VehicleRow.{VehicleRow}
use Rattle.agv_store_rows.specs.ValueEncodings.{name_in, number_cell, number_in, instant_in, maybe_in, place_kind_in, thing_kind_in}
use Rattle.agv_store_rows.specs.Columns.{meta_columns, meta_in, edge_columns, edge_in, station_columns, station_in, key_in, rest_in, sent_in, vehicle_columns, vehicle_in, capacity_columns, capacity_in, journey_columns, journey_in, act_columns, act_in, leg_columns, leg_in, load_columns, load_in, job_columns, job_in, hold_columns, hold_in, used_columns, used_in}
use Rattle.agv_store_rows.specs.TypedRows.{IsNumber, AreEnds, IsStationSite, IsSending, IsVehicleRow, IsJourneyRow, IsActRow, IsActRowKey, IsLegKey, IsPlace, IsJobRow, IsThing}
use Rattle.agv_store_rows.specs.declared.capacity_row.CapacityRow.{CapacityRow}
use Rattle.agv_store_rows.specs.declared.words.PlaceKind.TheVariants as kind
use Rattle.agv_store_rows.specs.declared.words.ThingKind.TheVariants as held
use Rattle.agv_store_rows.proofs.CellLemmas.{name_kept, number_kept, moment_kept, flag_kept, phase_kept, status_kept, instant_kept, act_kind_kept, use_kept, maybe_kept}

-- ---- parts

maybe_name_kept : (name : Option (List ℕ)) → IfSome name IsName → maybe_in name_in (or_null Text name) ≡ Some name
maybe_name_kept None is = refl
maybe_name_kept (Some name) is = maybe_kept name_in Text (Some name) (refl, name_kept name is)

pub maybe_number_kept : (n : Option ℕ) → IfSome n IsNumber → maybe_in number_in (or_null number_cell n) ≡ Some n
maybe_number_kept None is = refl
maybe_number_kept (Some n) is = maybe_kept number_in number_cell (Some n) (refl, number_kept n is)

maybe_instant_kept : (kind : Option InstantKind) → maybe_in instant_in (or_null (λ kind. Text (instant_name kind)) kind) ≡ Some kind
maybe_instant_kept None = refl
maybe_instant_kept (Some kind) = maybe_kept instant_in (λ kind. Text (instant_name kind)) (Some kind) (refl, instant_kept kind)

pub key_kept : (key : VehicleKey) → IsKey key → key_in (Text key.manufacturer) (Text key.serial) ≡ Some key
unfolding key_in
key_kept key is = rw (name_kept key.manufacturer is.0, name_kept key.serial is.1)

rest_kept : (rest : Option (List ℕ × List ℕ)) → IfSome rest (λ rest. IsName rest.0 × IsName rest.1)
    → rest_in (or_null (λ (rest : List ℕ × List ℕ). Text rest.0) rest) (or_null (λ (rest : List ℕ × List ℕ). Text rest.1) rest) ≡ Some rest
unfolding rest_in
rest_kept None is = refl
rest_kept (Some rest) is = rw (name_kept rest.0 is.0, name_kept rest.1 is.1)

sent_kept : (sent : Sent) → IsSending sent → sent_in (number_cell sent.count) (Int (pos sent.at)) ≡ Some sent
unfolding sent_in
sent_kept sent is = rw (number_kept sent.count is.0, moment_kept sent.at is.1)

station_kind_kept : place_kind_in (Text (codes "station")) ≡ Some kind.Station
unfolding place_kind_in
station_kind_kept = refl

vehicle_kind_kept : place_kind_in (Text (codes "vehicle")) ≡ Some kind.Vehicle
unfolding place_kind_in
vehicle_kind_kept = refl

checking_kind_kept : place_kind_in (Text (codes "checking")) ≡ Some kind.Checking
unfolding place_kind_in
checking_kind_kept = refl

left_kind_kept : place_kind_in (Text (codes "left")) ≡ Some kind.Left
unfolding place_kind_in
left_kind_kept = refl

node_kind_kept : thing_kind_in (Text (codes "node")) ≡ Some held.Node
unfolding thing_kind_in
node_kind_kept = refl

edge_kind_kept : thing_kind_in (Text (codes "edge")) ≡ Some held.Edge
unfolding thing_kind_in
edge_kind_kept = refl

-- ---- rows

pub meta_kept : (id schema : ℕ) → IsNumber id → IsNumber schema → meta_in (meta_columns id schema) ≡ Some (id, schema)
meta_kept id schema is also = rw (number_kept id is, number_kept schema also)

pub edge_kept : (id : List ℕ) (ends : EdgeEnds) → IsName id → AreEnds ends → edge_in (edge_columns id ends) ≡ Some (id, ends)
edge_kept id ends is are = rw (name_kept id is, name_kept ends.start are.0, name_kept ends.finish are.1)

pub station_kept : (id : List ℕ) (site : StationSite) → IsName id → IsStationSite site → station_in (station_columns id site) ≡ Some (id, site)
station_kept id site is at = rw (name_kept id is, name_kept site.node at.0, number_kept site.capacity at.1)

pub vehicle_kept : (key : VehicleKey) (row : VehicleRow) → IsKey key → IsVehicleRow row → vehicle_in (vehicle_columns key row) ≡ Some (key, record row { capacity = 1 })
unfolding vehicle_in
vehicle_kept key row named is =
    rw (key_kept key named, name_kept row.node is.node, rest_kept row.rest is.rest, maybe_number_kept row.last_header is.last_header, maybe_name_kept row.reported is.reported, flag_kept row.ready, flag_kept row.paused, sent_kept row.orders is.orders, sent_kept row.instants is.instants, maybe_instant_kept row.pending)

pub capacity_kept : (key : VehicleKey) (own : CapacityRow) → IsKey key → IsNumber own.capacity → capacity_in (capacity_columns key own) ≡ Some (key, own)
unfolding capacity_in
capacity_kept key own named is = rw (key_kept key named, number_kept own.capacity is)

pub journey_kept : (order : List ℕ) (row : JourneyRow) → IsName order → IsJourneyRow row → journey_in (journey_columns order row) ≡ Some (order, row)
unfolding journey_in
journey_kept order row named is =
    rw (name_kept order named, key_kept row.vehicle is.vehicle, name_kept row.start is.start, number_kept row.first is.first, number_kept row.base is.base, number_kept row.sent is.sent, maybe_number_kept row.confirmed is.confirmed, number_kept row.seen is.seen)

pub act_kept : (key : ActKey) (row : ActRow) → IsActRowKey key → IsActRow row → act_in (act_columns key row) ≡ Some (key, row)
unfolding act_in
act_kept key row numbered is =
    rw (name_kept key.order numbered.0, number_kept key.n numbered.1, name_kept row.job is.job, act_kind_kept row.kind, number_kept row.place_at is.place_at, status_kept row.status)

pub leg_kept : (key : LegKey) (edge : List ℕ) → IsLegKey key → IsName edge → leg_in (leg_columns key edge) ≡ Some (key, edge)
leg_kept key edge is also = rw (name_kept key.order is.0, number_kept key.k is.1, name_kept edge also)

pub load_kept : (id : List ℕ) (place : Place) → IsName id → IsPlace place → load_in (load_columns id place) ≡ Some (id, place)
unfolding load_in
load_kept id (place.Station station) is at = rw (name_kept id is, station_kind_kept, name_kept station at)
load_kept id (place.Vehicle key) is at = rw (name_kept id is, vehicle_kind_kept, name_kept key.manufacturer at.0, name_kept key.serial at.1)
load_kept id place.Checking is at = rw (name_kept id is, checking_kind_kept)
load_kept id place.Left is at = rw (name_kept id is, left_kind_kept)

pub job_kept : (id : List ℕ) (job : JobRow) → IsName id → IsJobRow job → job_in (job_columns id job) ≡ Some (id, job)
unfolding job_in
job_kept id job is are = rw (name_kept id is, name_kept job.load are.load, name_kept job.origin are.origin, name_kept job.target are.target, phase_kept job.phase)

pub hold_kept : (thing : Thing) (key : VehicleKey) → IsThing thing → IsKey key → hold_in (hold_columns thing key) ≡ Some (thing, key)
unfolding hold_in
hold_kept (thing.Node id) key is named = rw (node_kind_kept, name_kept id is, key_kept key named)
hold_kept (thing.Edge id) key is named = rw (edge_kind_kept, name_kept id is, key_kept key named)

pub used_kept : (key : UseKey) → IsName key.name → used_in (used_columns key) ≡ Some key
used_kept key is = rw (use_kept key.kind, name_kept key.name is)
