-- How long the answers to questions on a load and on a vehicle are.
use Rattle.std.proofs.Common.{◌≤◌, ℕ, Bool, true, false, List, [], ◌∷◌, ◌++◌, length, Option, Some, None, codes, ap, arith, length-append, lit<, lit≤, is_some}
use Rattle.json.specs.Print.{escape, escape_byte}
use Rattle.serde_json.specs.Written.{compact_text}
use Rattle.agv_header.specs.Name.{IsName}
use Rattle.agv_count.specs.Reports.{key_text}
use Rattle.agv_desk.specs.declared.answer.Answer.TheVariants as answer
use Rattle.agv_header.specs.declared.key.VehicleKey.{VehicleKey}
use Rattle.agv_count.specs.ExportRecords.{IsPlaceNamed}
use Rattle.agv_desk.specs.declared.answer.OpenOrder.{OpenOrder}
use Rattle.agv_message_core.specs.Instant.{instant_name}
use Rattle.agv_message_core.specs.declared.instant.InstantKind.{InstantKind}
use Rattle.agv_message_core.specs.declared.instant.InstantKind.TheVariants as kind
use Rattle.agv_stock.specs.Phase.{phase_name}
use Rattle.agv_stock.specs.declared.job.Phase.{Phase}
use Rattle.agv_stock.specs.declared.job.Phase.TheVariants as phase
use Rattle.agv_stock.specs.declared.place.Place.{Place}
use Rattle.agv_stock.specs.declared.place.Place.TheVariants as place
use Rattle.agv_world_core.specs.declared.floor.Carrier.{Carrier}
use Rattle.agv_world_core.specs.declared.row.JobRow.{JobRow}
use Rattle.agv_world_core.specs.declared.row.VehicleRow.{VehicleRow}
use Rattle.agv_message_json.specs.Json.{text, truth, whole}
use Rattle.agv_face_http.specs.answers.Answers.{answer_text}
use Rattle.agv_face_http.specs.answers.Bodies.{load_data, or_null, place_words}
use Rattle.agv_face_http.specs.answers.Sizes.{IsJobNamed, IsNameIfAny, IsOrderShort, IsCarrierNamed, IsShortIfAny, IsVehicleShort}
use Rattle.agv_face_http.specs.answers.JobBody.{job_data, job_parts, maybe_key}
use Rattle.agv_face_http.specs.answers.VehicleBody.{vehicle_data, vehicle_parts}
use Rattle.agv_message_json.proofs.Escapes.{escape-name}
use Rattle.agv_face_http.proofs.answers.Lengths.{name_length, digits_length, key_length, whole_length}

name_text_length : (s : List ℕ) → IsName s → length (compact_text (text s)) ≤ 34
name_text_length s h = omega (arith, length-append (escape s) (34 ∷ []), ap length (escape-name s h), name_length s h)

maybe_name_length : (o : Option (List ℕ)) → IsNameIfAny o → length (compact_text (or_null text o)) ≤ 34
maybe_name_length None h = lit≤ tt
maybe_name_length (Some s) h = name_text_length s h

maybe_number_length : (o : Option ℕ) → IsShortIfAny o → length (compact_text (or_null whole o)) ≤ 10
maybe_number_length None h = lit≤ tt
maybe_number_length (Some n) h = digits_length n h

maybe_kind_length : (o : Option InstantKind) → length (compact_text (or_null (λ kind. text (instant_name kind)) o)) ≤ 16
unfolding escape_byte
maybe_kind_length None = lit≤ tt
maybe_kind_length (Some kind.StartPause) = lit≤ tt
maybe_kind_length (Some kind.StopPause) = lit≤ tt
maybe_kind_length (Some kind.CancelOrder) = lit≤ tt

truth_length : (b : Bool) → length (compact_text (truth b)) ≤ 5
truth_length true = lit≤ tt
truth_length false = lit≤ tt

place_length : (place : Place) → IsPlaceNamed place → length (compact_text (text (place_words place))) ≤ 80
unfolding escape_byte
place_length (place.Station id) h = omega (arith, length-append (escape id) (34 ∷ []), ap length (escape-name id h), name_length id h)
place_length (place.Vehicle key) h = omega (arith, length-append (escape (key_text key)) (34 ∷ []), key_length key.manufacturer key.serial h.0 h.1)
place_length place.Checking h = lit≤ tt
place_length place.Left h = lit≤ tt

pub load_length : (load : List ℕ) (place : Place) (job : Option (List ℕ)) → IsName load → IsPlaceNamed place → IsNameIfAny job → length (compact_text (load_data load place job)) ≤ 512
unfolding escape_byte
load_length load place job hl hp hj =
    let r3 : List ℕ = compact_text (text (place_words place)) ++ codes "}" in
    let r2 : List ℕ = compact_text (text load) ++ (codes ",\"place\":" ++ r3) in
    let l3 : length r3 ≤ 81 = omega (arith, length-append (compact_text (text (place_words place))) (codes "}"), place_length place hp) in
    let l2 : length r2 ≤ 124 = omega (arith, length-append (compact_text (text load)) (codes ",\"place\":" ++ r3), name_text_length load hl, l3) in
    omega (arith, length-append (compact_text (or_null text job)) (codes ",\"load\":" ++ r2), maybe_name_length job hj, l2)

-- the parts of a vehicle's key, if there is one, are names
abbrev IsKeyNamed : Option VehicleKey → Type 0
IsKeyNamed None = Unit {0}
IsKeyNamed (Some key) = IsName key.manufacturer × IsName key.serial

phase_length : (phase : Phase) → length (compact_text (text (phase_name phase))) ≤ 9
unfolding escape_byte
phase_length phase.Waiting = lit≤ tt
phase_length phase.Riding = lit≤ tt
phase_length phase.Done = lit≤ tt
phase_length phase.Stopped = lit≤ tt

maybe_key_length : (key : Option VehicleKey) → IsKeyNamed key → length (compact_text (maybe_key key)) ≤ 67
unfolding escape_byte
maybe_key_length None h = lit≤ tt
maybe_key_length (Some key) h = omega (arith, length-append (escape (key_text key)) (34 ∷ []), key_length key.manufacturer key.serial h.0 h.1)

job_length : (job : List ℕ) (row : JobRow) (order : Option (List ℕ)) (vehicle : Option VehicleKey) → IsName job → IsJobNamed row → IsNameIfAny order → IsKeyNamed vehicle
    → length (compact_text (job_parts job row order vehicle)) ≤ 512
unfolding escape_byte
job_length job row order vehicle hj hr ho hv =
    let r5 : List ℕ = compact_text (maybe_key vehicle) ++ codes "}" in
    let l5 : length r5 ≤ 68 = omega (arith, length-append (compact_text (maybe_key vehicle)) (codes "}"), maybe_key_length vehicle hv) in
    let r4 : List ℕ = compact_text (text row.target) ++ (codes ",\"vehicle\":" ++ r5) in
    let l4 : length r4 ≤ 113 = omega (arith, length-append (compact_text (text row.target)) (codes ",\"vehicle\":" ++ r5), name_text_length row.target hr.target, l5) in
    let r3 : List ℕ = compact_text (text (phase_name row.phase)) ++ (codes ",\"to\":" ++ r4) in
    let l3 : length r3 ≤ 128 = omega (arith, length-append (compact_text (text (phase_name row.phase))) (codes ",\"to\":" ++ r4), phase_length row.phase, l4) in
    let r2 : List ℕ = compact_text (or_null text order) ++ (codes ",\"phase\":" ++ r3) in
    let l2 : length r2 ≤ 171 = omega (arith, length-append (compact_text (or_null text order)) (codes ",\"phase\":" ++ r3), maybe_name_length order ho, l3) in
    let r1 : List ℕ = compact_text (text row.load) ++ (codes ",\"order\":" ++ r2) in
    let l1 : length r1 ≤ 214 = omega (arith, length-append (compact_text (text row.load)) (codes ",\"order\":" ++ r2), name_text_length row.load hr.load, l2) in
    let r0 : List ℕ = compact_text (text job) ++ (codes ",\"load\":" ++ r1) in
    let l0 : length r0 ≤ 256 = omega (arith, length-append (compact_text (text job)) (codes ",\"load\":" ++ r1), name_text_length job hj, l1) in
    omega (arith, length-append (compact_text (text row.origin)) (codes ",\"job\":" ++ r0), name_text_length row.origin hr.origin, l0)

carrier_length : (job : List ℕ) (row : JobRow) (carrier : Option Carrier) → IsName job → IsJobNamed row → IsCarrierNamed carrier → length (compact_text (job_data job row carrier)) ≤ 512
carrier_length job row None hj hr h = job_length job row None None hj hr tt tt
carrier_length job row (Some carrier) hj hr h = job_length job row (Some carrier.order) (Some carrier.vehicle) hj hr h.0 (h.1, h.2)

parts_length : (astray : Bool) (key : VehicleKey) (row : VehicleRow) (order : Option (List ℕ)) (sent confirmed : Option ℕ)
    → IsVehicleShort key row → IsNameIfAny order → IsShortIfAny sent → IsShortIfAny confirmed
    → length (compact_text (vehicle_parts astray key row order sent confirmed)) ≤ 512
unfolding escape_byte
parts_length astray key row order sent confirmed h ho hs hc =
    let r10 : List ℕ = compact_text (text key.serial) ++ codes "}" in
    let l10 : length r10 ≤ 35 = omega (arith, length-append (compact_text (text key.serial)) (codes "}"), name_text_length key.serial h.serial) in
    let r9 : List ℕ = compact_text (or_null whole sent) ++ (codes ",\"serialNumber\":" ++ r10) in
    let l9 : length r9 ≤ 61 = omega (arith, length-append (compact_text (or_null whole sent)) (codes ",\"serialNumber\":" ++ r10), maybe_number_length sent hs, l10) in
    let r8 : List ℕ = compact_text (truth row.ready) ++ (codes ",\"sent\":" ++ r9) in
    let l8 : length r8 ≤ 74 = omega (arith, length-append (compact_text (truth row.ready)) (codes ",\"sent\":" ++ r9), truth_length row.ready, l9) in
    let r7 : List ℕ = compact_text (or_null (λ kind. text (instant_name kind)) row.pending) ++ (codes ",\"ready\":" ++ r8) in
    let l7 : length r7 ≤ 99 = omega (arith, length-append (compact_text (or_null (λ kind. text (instant_name kind)) row.pending)) (codes ",\"ready\":" ++ r8), maybe_kind_length row.pending, l8) in
    let r6 : List ℕ = compact_text (truth row.paused) ++ (codes ",\"pending\":" ++ r7) in
    let l6 : length r6 ≤ 115 = omega (arith, length-append (compact_text (truth row.paused)) (codes ",\"pending\":" ++ r7), truth_length row.paused, l7) in
    let r5 : List ℕ = compact_text (or_null text order) ++ (codes ",\"paused\":" ++ r6) in
    let l5 : length r5 ≤ 159 = omega (arith, length-append (compact_text (or_null text order)) (codes ",\"paused\":" ++ r6), maybe_name_length order ho, l6) in
    let r4 : List ℕ = compact_text (text row.node) ++ (codes ",\"order\":" ++ r5) in
    let l4 : length r4 ≤ 202 = omega (arith, length-append (compact_text (text row.node)) (codes ",\"order\":" ++ r5), name_text_length row.node h.node, l5) in
    let r3 : List ℕ = compact_text (text key.manufacturer) ++ (codes ",\"node\":" ++ r4) in
    let l3 : length r3 ≤ 244 = omega (arith, length-append (compact_text (text key.manufacturer)) (codes ",\"node\":" ++ r4), name_text_length key.manufacturer h.manufacturer, l4) in
    let r2 : List ℕ = compact_text (or_null whole row.last_header) ++ (codes ",\"manufacturer\":" ++ r3) in
    let l2 : length r2 ≤ 270 = omega (arith, length-append (compact_text (or_null whole row.last_header)) (codes ",\"manufacturer\":" ++ r3), maybe_number_length row.last_header h.header, l3) in
    let r1 : List ℕ = compact_text (or_null whole confirmed) ++ (codes ",\"headerId\":" ++ r2) in
    let l1 : length r1 ≤ 292 = omega (arith, length-append (compact_text (or_null whole confirmed)) (codes ",\"headerId\":" ++ r2), maybe_number_length confirmed hc, l2) in
    let r0 : List ℕ = compact_text (whole row.capacity) ++ (codes ",\"confirmed\":" ++ r1) in
    let l0 : length r0 ≤ 315 = omega (arith, length-append (compact_text (whole row.capacity)) (codes ",\"confirmed\":" ++ r1), digits_length row.capacity h.capacity, l1) in
    omega (arith, length-append (compact_text (truth astray)) (codes ",\"capacity\":" ++ r0), truth_length astray, l0)

pub vehicle_length : (key : VehicleKey) (row : VehicleRow) (order : Option OpenOrder) → IsVehicleShort key row → IsOrderShort order → length (compact_text (vehicle_data key row order)) ≤ 512
vehicle_length key row None h ho = parts_length (is_some row.rest) key row None None None h tt tt tt
vehicle_length key row (Some order) h ho = parts_length (is_some row.rest) key row (Some order.order) (Some order.sent) order.confirmed h ho.0 ho.1 ho.2

pub load_brief : (load : List ℕ) (place : Place) (job : Option (List ℕ)) (close : Bool) → IsName load → IsPlaceNamed place → IsNameIfAny job → length (answer_text (answer.Load load place job) close) ≤ 1024
unfolding answer_text
load_brief load place job close hl hp hj =
    omega (arith, whole_length 200 (Some (codes "application/json")) None close (compact_text (load_data load place job)) 512 (lit< tt) (lit≤ tt) (lit≤ tt) (lit< tt) (load_length load place job hl hp hj))

pub vehicle_brief : (key : VehicleKey) (row : VehicleRow) (order : Option OpenOrder) (close : Bool) → IsVehicleShort key row → IsOrderShort order → length (answer_text (answer.Vehicle key row order) close) ≤ 1024
unfolding answer_text
vehicle_brief key row order close h ho =
    omega (arith, whole_length 200 (Some (codes "application/json")) None close (compact_text (vehicle_data key row order)) 512 (lit< tt) (lit≤ tt) (lit≤ tt) (lit< tt) (vehicle_length key row order h ho))

pub job_brief : (job : List ℕ) (row : JobRow) (carrier : Option Carrier) (close : Bool) → IsName job → IsJobNamed row → IsCarrierNamed carrier → length (answer_text (answer.Job job row carrier) close) ≤ 1024
unfolding answer_text
job_brief job row carrier close hj hr h =
    omega (arith, whole_length 200 (Some (codes "application/json")) None close (compact_text (job_data job row carrier)) 512 (lit< tt) (lit≤ tt) (lit≤ tt) (lit< tt) (carrier_length job row carrier hj hr h))
