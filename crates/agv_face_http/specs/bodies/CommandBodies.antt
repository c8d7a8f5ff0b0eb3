-- The calls that the bodies of commands make. There is none where a required member is absent or a member has the wrong kind; other members are ignored.
use Rattle.std.specs.Prelude.{ℕ, List, Option, Some, codes}
use Rattle.serde_json.specs.Data.{Data}
use Rattle.agv_header.specs.declared.key.VehicleKey.{VehicleKey}
use Rattle.agv_message_json.specs.Members.{whole_at}
use Rattle.agv_desk.specs.declared.call.Call.{Call}
use Rattle.agv_desk.specs.declared.call.Call.TheVariants as call
use Rattle.agv_face_http.specs.bodies.Members.{given, key_at, name_at, optional_name_at, whole_or_at}

-- how many loads a vehicle carries at once: 1 where `capacity` is absent
unfoldable pub capacity_at : Data → Option ℕ
capacity_at d = whole_or_at 1 (codes "capacity") d

-- RegisterVehicle {manufacturer, serialNumber, node, capacity?}
unfoldable pub vehicle_from_json : Data → Option Call
vehicle_from_json d =
    given (key_at d) (λ key.
    given (name_at (codes "node") d) (λ node.
    given (capacity_at d) (λ capacity.
    Some (call.RegisterVehicle key node capacity))))

-- RegisterLoad {load, station?}: without a station the load stands at the checking place
unfoldable pub load_from_json : Data → Option Call
load_from_json d =
    given (name_at (codes "load") d) (λ load.
    given (optional_name_at (codes "station") d) (λ station.
    Some (call.RegisterLoad load station)))

-- CorrectLoad {ref, station?}: without a station the load is at the checking place
unfoldable pub correction_from_json : List ℕ → Data → Option Call
correction_from_json load d =
    given (name_at (codes "ref") d) (λ reference.
    given (optional_name_at (codes "station") d) (λ station.
    Some (call.CorrectLoad load reference station)))

-- LeaveLoad {ref}
unfoldable pub leave_from_json : List ℕ → Data → Option Call
leave_from_json load d =
    given (name_at (codes "ref") d) (λ reference.
    Some (call.LeaveLoad load reference))

-- AddJob {job, load, to}
unfoldable pub job_from_json : Data → Option Call
job_from_json d =
    given (name_at (codes "job") d) (λ job.
    given (name_at (codes "load") d) (λ load.
    given (name_at (codes "to") d) (λ to.
    Some (call.AddJob job load to))))

-- StartDrive {order, manufacturer, serialNumber, to, edges}
unfoldable pub drive_from_json : Data → Option Call
drive_from_json d =
    given (name_at (codes "order") d) (λ order.
    given (key_at d) (λ key.
    given (name_at (codes "to") d) (λ to.
    given (whole_at (codes "edges") d) (λ edges.
    Some (call.StartDrive order key to edges)))))

-- Advance {order, orderUpdateId, edges}
unfoldable pub advance_from_json : VehicleKey → Data → Option Call
advance_from_json key d =
    given (name_at (codes "order") d) (λ order.
    given (whole_at (codes "orderUpdateId") d) (λ update.
    given (whole_at (codes "edges") d) (λ edges.
    Some (call.Advance key order update edges))))

-- PlaceVehicle {ref, node}
unfoldable pub place_from_json : VehicleKey → Data → Option Call
place_from_json key d =
    given (name_at (codes "ref") d) (λ reference.
    given (name_at (codes "node") d) (λ node.
    Some (call.PlaceVehicle key reference node)))
