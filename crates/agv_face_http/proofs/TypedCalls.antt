-- The calls that requests ask are well typed: the names in their paths are names, and what their bodies say is well typed.
use Rattle.std.proofs.Common.{◌≡◌, ℕ, Bool, true, false, cond, List, [], ◌∷◌, map, All, Option, None, Some, Result, Ok, Err, IfOk, IfSome, option_map, option_and_then, bytes_eq, refl}
use Rattle.std.specs.List.{cons_option}
use Rattle.std.proofs.lemmas.List.Elements.{All-cons, All-head, All-nil}
use Rattle.agv_header.specs.Name.{IsName, is_name}
use Rattle.agv_header.specs.declared.refusal.Refusal.{Refusal}
use Rattle.agv_header.specs.declared.refusal.Refusal.TheVariants as refusal
use Rattle.agv_desk.specs.WellTyped.{AreWellTyped, IsMoment}
use Rattle.agv_desk.specs.declared.call.Call.{Call}
use Rattle.agv_face_http.specs.bodies.BodyCalls.{call_of_body}
use Rattle.agv_header.specs.Refusal.{verb_text}
use Rattle.agv_face_http.specs.Output.{timed_call, call_of_routed, call_of_request, calls_of}
use Rattle.agv_face_http.specs.routing.Paths.{Part, Word, AName, names_in, path_of, segments_of}
use Rattle.agv_face_http.specs.request.Requests.{Request}
use Rattle.agv_face_http.specs.routing.Table.{Entry, Row, MethodRoute, at_path, entries, if_method, or_next, route_with, row_of, route_at, method_route_at, method_route_by, table, with_route}
use Rattle.agv_face_http.specs.declared.routing.line.RouteKind.{RouteKind}
use Rattle.agv_face_http.specs.declared.routing.line.RouteKind.TheVariants.{Fixed, OfName, OfVehicle}
use Rattle.agv_face_http.specs.declared.routing.route.FixedRoute.TheVariants as fixed
use Rattle.agv_face_http.specs.declared.routing.route.NamedRoute.TheVariants as named
use Rattle.agv_face_http.specs.declared.routing.route.Route.{Route}
use Rattle.agv_face_http.specs.declared.routing.route.Route.TheVariants as route
use Rattle.agv_face_http.specs.declared.routing.route.VehicleRoute.TheVariants as vehicle
use Rattle.agv_face_http.proofs.bodies.TypedBodies.{IsTypedIfSaid, reads_advance, reads_correction, reads_count, reads_drive, reads_job, reads_layout, reads_leave, reads_load, reads_order, reads_place, reads_state, reads_vehicle}

-- ---- the names in paths

names_named : (parts : List Part) (segments : List (List ℕ)) → IfSome (names_in parts segments) (All IsName)
names_named [] [] = All-nil IsName
names_named [] (s ∷ segments) = tt
names_named (part ∷ parts) [] = tt
names_named (Word w ∷ parts) (s ∷ segments) = by (bytes_eq s w) (names_named parts segments)
  where
    by : (test : Bool) → IfSome (names_in parts segments) (All IsName) → IfSome (cond test (names_in parts segments) None) (All IsName)
    by true are = are
    by false are = tt
names_named (AName ∷ parts) (s ∷ segments) = by (is_name s) refl (names_in parts segments) (names_named parts segments)
  where
    with_name : IsName s → (names : Option (List (List ℕ))) → IfSome names (All IsName) → IfSome (option_map (λ names. s ∷ names) names) (All IsName)
    with_name is None are = tt
    with_name is (Some names) are = All-cons IsName s names is are

    by : (test : Bool) → is_name s ≡ test → (names : Option (List (List ℕ))) → IfSome names (All IsName) → IfSome (cond test (option_map (λ names. s ∷ names) names) None) (All IsName)
    by true is names are = with_name is names are
    by false is names are = tt

-- ---- routes

-- where a route has one name, it is one
abbrev IsNamedRoute : Route → Type 0
IsNamedRoute (route.Fixed call) = Unit {0}
IsNamedRoute (route.OfName call name) = IsName name
IsNamedRoute (route.OfVehicle call key) = Unit {0}

-- a line makes such routes of names
abbrev IsNamedLine : (List (List ℕ) → Option Route) → Type 0
IsNamedLine line = (names : List (List ℕ)) → All IsName names → IfSome (line names) IsNamedRoute

kind_named : (kind : RouteKind) → IsNamedLine (route_with kind)
kind_named (Fixed call) [] are = tt
kind_named (Fixed call) (name ∷ names) are = tt
kind_named (OfName call) [] are = tt
kind_named (OfName call) (name ∷ []) are = All-head IsName name [] are
kind_named (OfName call) (name ∷ other ∷ names) are = tt
kind_named (OfVehicle call) [] are = tt
kind_named (OfVehicle call) (name ∷ []) are = tt
kind_named (OfVehicle call) (manufacturer ∷ serial ∷ []) are = tt
kind_named (OfVehicle call) (manufacturer ∷ serial ∷ name ∷ names) are = tt

abbrev AreNamedLines : List Row → Type 0
AreNamedLines [] = Unit {0}
AreNamedLines (r ∷ rows) = IsNamedLine r.route × AreNamedLines rows

entries_named : (es : List Entry) → AreNamedLines (map row_of es)
entries_named [] = tt
entries_named (e ∷ es) = (kind_named e.1.kind, entries_named es)

-- what is served has such a route
abbrev IsNamedMethodRoute : Option MethodRoute → Type 0
IsNamedMethodRoute served = IfSome served (λ found. IsNamedRoute found.1)

line_served : (r : Row) → IsNamedLine r.route → (names : Option (List (List ℕ))) → IfSome names (All IsName) → IsNamedMethodRoute (with_route r.method (option_and_then r.route names))
line_served r is None are = tt
line_served r is (Some names) are = made (r.route names) (is names are)
  where
    made : (found : Option Route) → IfSome found IsNamedRoute → IsNamedMethodRoute (with_route r.method found)
    made None h = tt
    made (Some found) h = h

either : (one other : Option MethodRoute) → IsNamedMethodRoute one → IsNamedMethodRoute other → IsNamedMethodRoute (or_next one other)
either None other is also = also
either (Some found) other is also = is

served_named : (rows : List Row) → AreNamedLines rows → (segments : List (List ℕ)) → IsNamedMethodRoute (method_route_at rows segments)
served_named [] are segments = tt
served_named (r ∷ rows) are segments =
    either (method_route_by r segments) (method_route_at rows segments) (line_served r are.0 (names_in r.pattern segments) (names_named r.pattern segments)) (served_named rows are.1 segments)

path_named : (segments : Option (List (List ℕ))) → IsNamedMethodRoute (option_and_then (method_route_at table) segments)
path_named None = tt
path_named (Some segments) = served_named table (entries_named entries) segments

by_method : (method : List ℕ) (served : Option MethodRoute) → IsNamedMethodRoute served → IfOk (if_method method served) IsNamedRoute
by_method method None is = tt
by_method method (Some found) is = by (bytes_eq method (verb_text found.0))
  where
    by : (test : Bool) → IfOk {E = Refusal} (cond test (Ok found.1) (Err (refusal.BadMethod found.0))) IsNamedRoute
    by true = is
    by false = tt

route_named : (method target : List ℕ) → IfOk (route_at method target) IsNamedRoute
route_named method target = by_method method (at_path (path_of target)) (path_named (segments_of (path_of target)))

-- ---- calls

reads_call : (line : Route) → IsNamedRoute line → (body : List ℕ) → IsTypedIfSaid (call_of_body line body)
unfolding call_of_body
reads_call (route.Fixed fixed.SetLayout) is body = reads_layout body
reads_call (route.Fixed fixed.RegisterVehicle) is body = reads_vehicle body
reads_call (route.Fixed fixed.RegisterLoad) is body = reads_load body
reads_call (route.OfName named.CorrectLoad load) is body = reads_correction load body
reads_call (route.OfName named.LeaveLoad load) is body = reads_leave load body
reads_call (route.Fixed fixed.AddJob) is body = reads_job body
reads_call (route.OfName named.StopJob job) is body = tt
reads_call (route.Fixed fixed.StartOrder) is body = reads_order body
reads_call (route.Fixed fixed.StartDrive) is body = reads_drive body
reads_call (route.OfVehicle vehicle.Advance key) is body = reads_advance key body
reads_call (route.OfVehicle vehicle.Cancel key) is body = tt
reads_call (route.OfVehicle vehicle.Pause key) is body = tt
reads_call (route.OfVehicle vehicle.Resume key) is body = tt
reads_call (route.OfVehicle vehicle.PlaceVehicle key) is body = reads_place key body
reads_call (route.OfVehicle vehicle.Resync key) is body = tt
reads_call (route.OfVehicle vehicle.State key) is body = reads_state key body
reads_call (route.OfVehicle vehicle.GetOrder key) is body = tt
reads_call (route.OfVehicle vehicle.GetInstant key) is body = tt
reads_call (route.OfName named.Stocktake reference) is body = reads_count reference body is
reads_call (route.OfName named.GetLoad load) is body = tt
reads_call (route.OfName named.GetJob job) is body = tt
reads_call (route.OfVehicle vehicle.GetVehicle key) is body = tt
reads_call (route.Fixed (fixed.Report report)) is body = tt

call_typed : (body : List ℕ) (line : Result Route Refusal) → IfOk line IsNamedRoute → IsTypedIfSaid (call_of_routed body line)
call_typed body (Err why) is = tt
call_typed body (Ok line) is = reads_call line is body

request_typed : (request : Request) → IsTypedIfSaid (call_of_request request)
unfolding call_of_request
request_typed request = call_typed request.body (route_at request.method request.target) (route_named request.method request.target)

one_typed : (at : ℕ) → IsMoment at → (read : Result Call Refusal) → IsTypedIfSaid read → (calls : List (ℕ × Call)) → AreWellTyped calls → AreWellTyped (cons_option (timed_call at read) calls)
one_typed at moment (Err why) is calls are = are
one_typed at moment (Ok made) is calls are = (moment, is, are)

pub calls_typed : (at : ℕ) → IsMoment at → (requests : List Request) → AreWellTyped (calls_of requests at)
calls_typed at moment [] = tt
calls_typed at moment (request ∷ requests) = one_typed at moment (call_of_request request) (request_typed request) (calls_of requests at) (calls_typed at moment requests)
