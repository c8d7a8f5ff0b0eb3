-- The table of routes: which methods and paths the desk serves. What the calls do is the table of calls, Step of agv_desk.
use Rattle.std.specs.Prelude.{ℕ, List, [], ◌∷◌, Option, Some, None, IsSome, Result, Ok, Err, map, option_and_then, codes, bytes_eq, if◌then◌else◌}
use Rattle.agv_header.specs.declared.refusal.Refusal.{Refusal}
use Rattle.agv_header.specs.declared.refusal.Refusal.TheVariants as refusal
use Rattle.agv_header.specs.declared.refusal.Verb.{Verb}
use Rattle.agv_header.specs.declared.refusal.Verb.TheVariants.{Get, Post, Put, Delete}
use Rattle.agv_header.specs.Refusal.{verb_text}
use Rattle.agv_desk.specs.declared.report.Report.TheVariants as report
use Rattle.agv_face_http.specs.routing.Paths.{Part, names_in, path_of, pattern_of, segments_of}
use Rattle.agv_face_http.specs.declared.routing.line.Line.{Line}
use Rattle.agv_face_http.specs.declared.routing.line.RouteKind.{RouteKind}
use Rattle.agv_face_http.specs.declared.routing.line.RouteKind.TheVariants.{Fixed, OfName, OfVehicle}
use Rattle.agv_face_http.specs.declared.routing.route.FixedRoute.TheVariants as fixed
use Rattle.agv_face_http.specs.declared.routing.route.NamedRoute.TheVariants as named
use Rattle.agv_face_http.specs.declared.routing.route.Route.{Route}
use Rattle.agv_face_http.specs.declared.routing.route.Route.TheVariants as route
use Rattle.agv_face_http.specs.declared.routing.route.VehicleRoute.TheVariants as vehicle

-- a line of the table: the pattern of its path, and its method and call
abbrev pub Entry : Type 0
Entry = List ℕ × Line

-- a line of the table from its method, pattern and call
abbrev pub entry : Verb → List ℕ → RouteKind → Entry
entry method path kind = (path, record { method = method; kind = kind })

-- the table of routes: the method, the path with names in braces, and the call
abbrev pub entries : List Entry
entries =
    entry Put (codes "/layout") (Fixed fixed.SetLayout)
    ∷ entry Post (codes "/vehicles") (Fixed fixed.RegisterVehicle)
    ∷ entry Post (codes "/loads") (Fixed fixed.RegisterLoad)
    ∷ entry Post (codes "/loads/{load}/correct") (OfName named.CorrectLoad)
    ∷ entry Post (codes "/loads/{load}/leave") (OfName named.LeaveLoad)
    ∷ entry Post (codes "/jobs") (Fixed fixed.AddJob)
    ∷ entry Delete (codes "/jobs/{job}") (OfName named.StopJob)
    ∷ entry Post (codes "/orders") (Fixed fixed.StartOrder)
    ∷ entry Post (codes "/drives") (Fixed fixed.StartDrive)
    ∷ entry Post (codes "/vehicles/{manufacturer}/{serial}/advance") (OfVehicle vehicle.Advance)
    ∷ entry Post (codes "/vehicles/{manufacturer}/{serial}/cancel") (OfVehicle vehicle.Cancel)
    ∷ entry Post (codes "/vehicles/{manufacturer}/{serial}/pause") (OfVehicle vehicle.Pause)
    ∷ entry Post (codes "/vehicles/{manufacturer}/{serial}/resume") (OfVehicle vehicle.Resume)
    ∷ entry Post (codes "/vehicles/{manufacturer}/{serial}/place") (OfVehicle vehicle.PlaceVehicle)
    ∷ entry Post (codes "/vehicles/{manufacturer}/{serial}/resync") (OfVehicle vehicle.Resync)
    ∷ entry Post (codes "/uagv/v2/{manufacturer}/{serial}/state") (OfVehicle vehicle.State)
    ∷ entry Get (codes "/uagv/v2/{manufacturer}/{serial}/order") (OfVehicle vehicle.GetOrder)
    ∷ entry Get (codes "/uagv/v2/{manufacturer}/{serial}/instantActions") (OfVehicle vehicle.GetInstant)
    ∷ entry Post (codes "/stocktakes/{reference}") (OfName named.Stocktake)
    ∷ entry Get (codes "/loads/{load}") (OfName named.GetLoad)
    ∷ entry Get (codes "/jobs/{job}/phase") (OfName named.GetJob)
    ∷ entry Get (codes "/vehicles/{manufacturer}/{serial}") (OfVehicle vehicle.GetVehicle)
    ∷ entry Get (codes "/report/stock") (Fixed (fixed.Report report.Stock))
    ∷ entry Get (codes "/report/holds") (Fixed (fixed.Report report.Holds))
    ∷ entry Get (codes "/export/loads") (Fixed (fixed.Report report.Loads))
    ∷ entry Get (codes "/export/jobs") (Fixed (fixed.Report report.Jobs))
    ∷ entry Get (codes "/export/vehicles") (Fixed (fixed.Report report.Vehicles))
    ∷ entry Get (codes "/export/layout") (Fixed (fixed.Report report.Layout))
    ∷ []

-- the call of a line with the names in a path: none, one, or a manufacturer and a serial number
abbrev pub route_with : RouteKind → List (List ℕ) → Option Route
route_with (Fixed call) [] = Some (route.Fixed call)
route_with (OfName call) (name ∷ []) = Some (route.OfName call name)
route_with (OfVehicle call) (manufacturer ∷ serial ∷ []) =
    Some (route.OfVehicle call (record { manufacturer = manufacturer; serial = serial }))
route_with _ _ = None

-- a line of the table: a method, the pattern of a path, and the route for the names in the path
pub record Row : Type 0 where
  pub method : Verb
  pub pattern : List Part
  pub route : List (List ℕ) → Option Route

-- the row of an entry
abbrev pub row_of : Entry → Row
row_of e = record { method = e.1.method; pattern = pattern_of e.0; route = route_with e.1.kind }

-- the rows of the table
abbrev pub table : List Row
table = map row_of entries

-- a method and the route that it serves
abbrev pub MethodRoute : Type 0
MethodRoute = Verb × Route

-- the method with the route, if there is one
abbrev pub with_route : Verb → Option Route → Option MethodRoute
with_route method None = None
with_route method (Some r) = Some (method, r)

-- what a line serves at a path of these segments, if they match its pattern
abbrev pub method_route_by : Row → List (List ℕ) → Option MethodRoute
method_route_by r segments = with_route r.method (option_and_then r.route (names_in r.pattern segments))

-- the first of two, if there is one, else the second
abbrev pub or_next : Option MethodRoute → Option MethodRoute → Option MethodRoute
or_next None other = other
or_next (Some found) other = Some found

-- what the first matching line serves at a path of these segments
abbrev pub method_route_at : List Row → List (List ℕ) → Option MethodRoute
method_route_at [] segments = None
method_route_at (r ∷ rows) segments = or_next (method_route_by r segments) (method_route_at rows segments)

-- what the desk serves at a path
abbrev pub at_path : List ℕ → Option MethodRoute
at_path path = option_and_then (method_route_at table) (segments_of path)

-- the route if the method is the path's own; another method is refused, naming the path's
abbrev pub if_method : List ℕ → Option MethodRoute → Result Route Refusal
if_method method None = Err refusal.NoPath
if_method method (Some found) =
    if bytes_eq method (verb_text found.0) then Ok found.1 else Err (refusal.BadMethod found.0)

-- the route of a request with this method and target
abbrev pub route_at : List ℕ → List ℕ → Result Route Refusal
route_at method target = if_method method (at_path (path_of target))

-- the segments match the pattern of the line
abbrev pub Fits : Row → List (List ℕ) → Type 0
Fits r segments = IsSome (names_in r.pattern segments)
