-- The call that a body says names no more loads to count than fit in the body, and gives each a name.
use Rattle.std.proofs.Common.{◌≡◌, ℕ, ◌+◌, ◌≤◌, Bool, true, false, cond, List, length, codes, Option, None, Some, Result, Ok, Err, refl, subst}
use Rattle.serde_json.specs.Data.{Data}
use Rattle.agv_header.specs.declared.key.VehicleKey.{VehicleKey}
use Rattle.agv_header.specs.declared.refusal.Refusal.{Refusal}
use Rattle.agv_header.specs.declared.refusal.Refusal.TheVariants as refusal
use Rattle.agv_layout.specs.declared.row.LayoutRow.{LayoutRow}
use Rattle.agv_count.specs.CountFile as stocktake
use Rattle.agv_count.specs.LayoutFile as layout
use Rattle.agv_message_json.specs.Body.{body_of}
use Rattle.agv_message_json.specs.Members.{whole_at}
use Rattle.agv_message_core.specs.declared.state.StateMessage.{StateMessage}
use Rattle.agv_desk.specs.StocktakeSteps.{Row}
use Rattle.agv_desk.specs.declared.call.Call.{Call}
use Rattle.agv_desk.specs.declared.call.Call.TheVariants as call
use Rattle.agv_face_http.specs.bodies.BodyCalls.{call_of_body}
use Rattle.agv_face_http.specs.bodies.CommandBodies.{capacity_at, vehicle_from_json, load_from_json, correction_from_json, leave_from_json, job_from_json, drive_from_json, advance_from_json, place_from_json}
use Rattle.agv_face_http.specs.bodies.OrderBody.{order_in, order_from_json, stops_from_json}
use Rattle.agv_face_http.specs.bodies.Members.{given, json_in, key_at, name_at, of_value, optional_name_at, or_bad_body}
use Rattle.agv_face_http.specs.bodies.StateBody.{from_vehicle, is_sent_by, message_in, state_in, unless_refused}
use Rattle.agv_face_http.specs.bodies.CsvBodies.{call_of_rows, stocktake_call, layout_call}
use Rattle.agv_face_http.specs.declared.routing.route.FixedRoute.TheVariants as fixed
use Rattle.agv_face_http.specs.declared.routing.route.NamedRoute.TheVariants as named
use Rattle.agv_face_http.specs.declared.routing.route.Route.{Route}
use Rattle.agv_face_http.specs.declared.routing.route.Route.TheVariants as route
use Rattle.agv_face_http.specs.declared.routing.route.VehicleRoute.TheVariants as vehicle
use Rattle.agv_face_http.proofs.bodies.CountNames.{NameLoads, rows_named}
use Rattle.agv_face_http.proofs.bodies.CountSizes.{rows_size, rows_within}

-- the loads to count, if the call is a stocktake, take so many bytes at most, and have names
abbrev pub CountsWithin : ℕ → Call → Type 0
CountsWithin n (call.Stocktake reference rows) = (rows_size rows ≤ n) × NameLoads rows
CountsWithin n _ = Unit {0}

IsSaid : ℕ → Option Call → Type 0
IsSaid n None = Unit {0}
IsSaid n (Some made) = CountsWithin n made

abbrev IsRead : ℕ → Result Call Refusal → Type 0
IsRead n (Err why) = Unit {0}
IsRead n (Ok made) = CountsWithin n made

module _ (n : ℕ) where
  next : {A : Type 0} (said : Option A) (rest : A → Option Call) → ((x : A) → IsSaid n (rest x)) → IsSaid n (given said rest)
  unfolding IsSaid
  next None rest h = tt
  next (Some x) rest h = h x

  plain : (made : Call) → CountsWithin n made → IsSaid n (Some made)
  unfolding IsSaid
  plain made h = h

  of_said : (said : Option Call) → IsSaid n said → IsRead n (or_bad_body said)
  unfolding IsSaid
  of_said None h = tt
  of_said (Some made) h = h

  of_data : (reader : Data → Option Call) → ((d : Data) → IsSaid n (reader d)) → (read : Result Data Refusal) → IsRead n (of_value reader read)
  of_data reader h (Err why) = tt
  of_data reader h (Ok d) = of_said (reader d) (h d)

  of_json : (reader : Data → Option Call) → ((d : Data) → IsSaid n (reader d)) → (body : List ℕ) → IsRead n (json_in reader body)
  unfolding json_in
  of_json reader h body = of_data reader h (body_of body)

  says_vehicle : (d : Data) → IsSaid n (vehicle_from_json d)
  unfolding vehicle_from_json
  says_vehicle d = next (key_at d) _ (λ key. next (name_at (codes "node") d) _ (λ node. next (capacity_at d) _ (λ capacity. plain (call.RegisterVehicle key node capacity) tt)))

  says_load : (d : Data) → IsSaid n (load_from_json d)
  unfolding load_from_json
  says_load d = next (name_at (codes "load") d) _ (λ load. next (optional_name_at (codes "station") d) _ (λ station. plain (call.RegisterLoad load station) tt))

  says_correction : (load : List ℕ) (d : Data) → IsSaid n (correction_from_json load d)
  unfolding correction_from_json
  says_correction load d = next (name_at (codes "ref") d) _ (λ reference. next (optional_name_at (codes "station") d) _ (λ station. plain (call.CorrectLoad load reference station) tt))

  says_leave : (load : List ℕ) (d : Data) → IsSaid n (leave_from_json load d)
  unfolding leave_from_json
  says_leave load d = next (name_at (codes "ref") d) _ (λ reference. plain (call.LeaveLoad load reference) tt)

  says_job : (d : Data) → IsSaid n (job_from_json d)
  unfolding job_from_json
  says_job d = next (name_at (codes "job") d) _ (λ job. next (name_at (codes "load") d) _ (λ load. next (name_at (codes "to") d) _ (λ to. plain (call.AddJob job load to) tt)))

  says_advance : (key : VehicleKey) (d : Data) → IsSaid n (advance_from_json key d)
  unfolding advance_from_json
  says_advance key d = next (name_at (codes "order") d) _ (λ order. next (whole_at (codes "orderUpdateId") d) _ (λ update. next (whole_at (codes "edges") d) _ (λ edges. plain (call.Advance key order update edges) tt)))

  says_place : (key : VehicleKey) (d : Data) → IsSaid n (place_from_json key d)
  unfolding place_from_json
  says_place key d = next (name_at (codes "ref") d) _ (λ reference. next (name_at (codes "node") d) _ (λ node. plain (call.PlaceVehicle key reference node) tt))

  says_order : (d : Data) → IsSaid n (order_from_json d)
  unfolding order_from_json
  says_order d = next (name_at (codes "order") d) _ (λ order. next (key_at d) _ (λ key. next (whole_at (codes "edges") d) _ (λ edges. next (stops_from_json d) _ (λ stops. plain (call.StartOrder order key stops edges) tt))))

  says_drive : (d : Data) → IsSaid n (drive_from_json d)
  unfolding drive_from_json
  says_drive d = next (name_at (codes "order") d) _ (λ order. next (key_at d) _ (λ key. next (name_at (codes "to") d) _ (λ to. next (whole_at (codes "edges") d) _ (λ edges. plain (call.StartDrive order key to edges) tt))))

  reads_order : (body : List ℕ) → IsRead n (order_in body)
  unfolding order_in
  reads_order body = of_json order_from_json says_order body

  by_sender : (test : Bool) (key : VehicleKey) (state : StateMessage) → IsRead n (cond test (Ok (call.State key state)) (Err refusal.WrongVehicle))
  by_sender true key state = tt
  by_sender false key state = tt

  by_message : (key : VehicleKey) (read : Result StateMessage Refusal) → IsRead n (unless_refused (from_vehicle key) read)
  by_message key (Err why) = tt
  by_message key (Ok state) = by_sender (is_sent_by key state) key state

  reads_state : (key : VehicleKey) (body : List ℕ) → IsRead n (state_in key body)
  unfolding state_in
  reads_state key body = by_message key (message_in body)

  by_rows : (rows : Option (List LayoutRow)) → IsRead n (call_of_rows call.SetLayout rows)
  by_rows None = tt
  by_rows (Some rows) = tt

  reads_layout : (body : List ℕ) → IsRead n (layout_call body)
  unfolding layout_call
  reads_layout body = by_rows (layout.layout_rows_in body)

  by_count : (reference : List ℕ) (rows : Option (List Row)) → ((some : List Row) → rows ≡ Some some → (rows_size some ≤ n) × NameLoads some) → IsRead n (call_of_rows (call.Stocktake reference) rows)
  by_count reference None h = tt
  by_count reference (Some rows) h = h rows refl

reads_count : (reference body : List ℕ) → IsRead (length body + 1) (stocktake_call reference body)
unfolding stocktake_call
reads_count reference body = by_count (length body + 1) reference (stocktake.count_in body) (λ rows is. (rows_within body rows is, rows_named body rows is))

reads_call : (line : Route) (body : List ℕ) → IsRead (length body + 1) (call_of_body line body)
unfolding call_of_body
reads_call (route.Fixed fixed.SetLayout) body = reads_layout _ body
reads_call (route.Fixed fixed.RegisterVehicle) body = of_json _ vehicle_from_json (says_vehicle _) body
reads_call (route.Fixed fixed.RegisterLoad) body = of_json _ load_from_json (says_load _) body
reads_call (route.OfName named.CorrectLoad load) body = of_json _ (correction_from_json load) (says_correction _ load) body
reads_call (route.OfName named.LeaveLoad load) body = of_json _ (leave_from_json load) (says_leave _ load) body
reads_call (route.Fixed fixed.AddJob) body = of_json _ job_from_json (says_job _) body
reads_call (route.OfName named.StopJob job) body = tt
reads_call (route.Fixed fixed.StartOrder) body = reads_order _ body
reads_call (route.Fixed fixed.StartDrive) body = of_json _ drive_from_json (says_drive _) body
reads_call (route.OfVehicle vehicle.Advance key) body = of_json _ (advance_from_json key) (says_advance _ key) body
reads_call (route.OfVehicle vehicle.Cancel key) body = tt
reads_call (route.OfVehicle vehicle.Pause key) body = tt
reads_call (route.OfVehicle vehicle.Resume key) body = tt
reads_call (route.OfVehicle vehicle.PlaceVehicle key) body = of_json _ (place_from_json key) (says_place _ key) body
reads_call (route.OfVehicle vehicle.Resync key) body = tt
reads_call (route.OfVehicle vehicle.State key) body = reads_state _ key body
reads_call (route.OfVehicle vehicle.GetOrder key) body = tt
reads_call (route.OfVehicle vehicle.GetInstant key) body = tt
reads_call (route.OfName named.Stocktake reference) body = reads_count reference body
reads_call (route.OfName named.GetLoad load) body = tt
reads_call (route.OfName named.GetJob job) body = tt
reads_call (route.OfVehicle vehicle.GetVehicle key) body = tt
reads_call (route.Fixed (fixed.Report report)) body = tt

pub counts_within : (line : Route) (body : List ℕ) (made : Call) → call_of_body line body ≡ Ok made → CountsWithin (length body + 1) made
counts_within line body made is = subst (IsRead (length body + 1)) is (reads_call line body)
