-- The call that a request makes, from its line of the table of routes, the names in its path, and its body.
use Rattle.std.specs.Prelude.{ℕ, List, Bool, true, false, Result, Ok}
use Rattle.agv_header.specs.declared.refusal.Refusal.{Refusal}
use Rattle.agv_desk.specs.declared.call.Call.{Call}
use Rattle.agv_desk.specs.declared.call.Call.TheVariants as call
use Rattle.agv_face_http.specs.bodies.CommandBodies.{vehicle_from_json, load_from_json, correction_from_json, leave_from_json, job_from_json, drive_from_json, advance_from_json, place_from_json}
use Rattle.agv_face_http.specs.bodies.OrderBody.{order_in}
use Rattle.agv_face_http.specs.bodies.Members.{json_in}
use Rattle.agv_face_http.specs.bodies.StateBody.{state_in}
use Rattle.agv_face_http.specs.bodies.CsvBodies.{layout_call, stocktake_call}
use Rattle.agv_face_http.specs.declared.routing.route.FixedRoute.TheVariants as fixed
use Rattle.agv_face_http.specs.declared.routing.route.NamedRoute.TheVariants as named
use Rattle.agv_face_http.specs.declared.routing.route.Route.{Route}
use Rattle.agv_face_http.specs.declared.routing.route.Route.TheVariants as route
use Rattle.agv_face_http.specs.declared.routing.route.VehicleRoute.TheVariants as vehicle

-- how the body of a route is read: as JSON or as CSV, giving a call or a refusal; or not at all, where the path alone makes the call
pub data Reading : Type 0 where
  Json : (said : List ℕ → Result Call Refusal) → Reading
  Csv : (said : List ℕ → Result Call Refusal) → Reading
  Unread : (call : Call) → Reading

-- how the body of each line of the table of routes is read
abbrev pub reading_of : Route → Reading
reading_of (route.Fixed fixed.SetLayout) = Csv layout_call
reading_of (route.Fixed fixed.RegisterVehicle) = Json (json_in vehicle_from_json)
reading_of (route.Fixed fixed.RegisterLoad) = Json (json_in load_from_json)
reading_of (route.OfName named.CorrectLoad load) = Json (json_in (correction_from_json load))
reading_of (route.OfName named.LeaveLoad load) = Json (json_in (leave_from_json load))
reading_of (route.Fixed fixed.AddJob) = Json (json_in job_from_json)
reading_of (route.OfName named.StopJob job) = Unread (call.StopJob job)
reading_of (route.Fixed fixed.StartOrder) = Json order_in
reading_of (route.Fixed fixed.StartDrive) = Json (json_in drive_from_json)
reading_of (route.OfVehicle vehicle.Advance key) = Json (json_in (advance_from_json key))
reading_of (route.OfVehicle vehicle.Cancel key) = Unread (call.Cancel key)
reading_of (route.OfVehicle vehicle.Pause key) = Unread (call.Pause key)
reading_of (route.OfVehicle vehicle.Resume key) = Unread (call.Resume key)
reading_of (route.OfVehicle vehicle.PlaceVehicle key) = Json (json_in (place_from_json key))
reading_of (route.OfVehicle vehicle.Resync key) = Unread (call.Resync key)
reading_of (route.OfVehicle vehicle.State key) = Json (state_in key)
reading_of (route.OfVehicle vehicle.GetOrder key) = Unread (call.GetOrder key)
reading_of (route.OfVehicle vehicle.GetInstant key) = Unread (call.GetInstant key)
reading_of (route.OfName named.Stocktake reference) = Csv (stocktake_call reference)
reading_of (route.OfName named.GetLoad load) = Unread (call.GetLoad load)
reading_of (route.OfName named.GetJob job) = Unread (call.GetJob job)
reading_of (route.OfVehicle vehicle.GetVehicle key) = Unread (call.GetVehicle key)
reading_of (route.Fixed (fixed.Report report)) = Unread (call.Report report)

-- the call that a body makes when it is read so
abbrev pub said_by : Reading → List ℕ → Result Call Refusal
said_by (Json said) body = said body
said_by (Csv said) body = said body
said_by (Unread call) body = Ok call

-- the call that a request makes, or why its body is refused
unfoldable pub call_of_body : Route → List ℕ → Result Call Refusal
call_of_body route body = said_by (reading_of route) body

-- the body is read as JSON
abbrev pub reads_json : Reading → Bool
reads_json (Json said) = true
reads_json (Csv said) = false
reads_json (Unread call) = false

-- the body is ignored
abbrev pub reads_nothing : Reading → Bool
reads_nothing (Json said) = false
reads_nothing (Csv said) = false
reads_nothing (Unread call) = true

-- the body of the route is JSON
unfoldable pub is_json : Route → Bool
is_json route = reads_json (reading_of route)

-- the body of the route is ignored
unfoldable pub is_unread : Route → Bool
is_unread route = reads_nothing (reading_of route)
