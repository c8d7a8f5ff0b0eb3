-- The call that a body says is well typed: the names that it makes known are names, and the number of a state is in its range.
use Rattle.std.proofs.Common.{◌≡◌, ◌&&◌, ◌==◌, ◌≤◌, ◌^◌, nat_lt, ℕ, Bool, true, false, cond, List, [], ◌∷◌, length, codes, Option, None, Some, Result, Ok, Err, IfOk, IfSome, option_and_then, option_map, unwrap_or, refl, arith}
use Rattle.std.specs.Str.{bytes_eq}
use Rattle.std.specs.Str.Parse.{digits_value}
use Rattle.std.proofs.lemmas.Bool.{and_parts}
use Rattle.std.proofs.lemmas.Bool.Decides.{nat_tests}
use Rattle.std.proofs.lemmas.List.Elements.{All-cons, All-nil}
use Rattle.serde_json.specs.Data.{Data}
use Rattle.serde_json.specs.Find.{as_number, as_u64}
use Rattle.agv_header.specs.Each.{each}
use Rattle.agv_header.specs.Name.{IsName, as_name, is_name}
use Rattle.agv_header.specs.Stamp.{moment_said}
use Rattle.agv_header.specs.declared.key.VehicleKey.{VehicleKey}
use Rattle.agv_header.specs.declared.refusal.Refusal.{Refusal}
use Rattle.agv_header.specs.declared.refusal.Refusal.TheVariants as refusal
use Rattle.agv_layout.specs.Rows.{AreNamed, id_in}
use Rattle.agv_layout.specs.declared.row.LayoutRow.{LayoutRow}
use Rattle.agv_layout.specs.declared.row.LayoutRow.TheVariants.{Node, Edge, Station}
use Rattle.agv_count.specs.CountFile as stocktake
use Rattle.agv_count.specs.LayoutFile.{edge_row, is_capacity, layout_columns, node_row, row_in, station_row}
use Rattle.agv_count.specs.LayoutFile as layout
use Rattle.agv_count.specs.Records.{records_of}
use Rattle.agv_count.specs.Table.{is_record, rows_under}
use Rattle.agv_message_json.specs.Body.{body_of}
use Rattle.agv_message_json.specs.Members.{below_2_32, member_at, text_at, whole_at}
use Rattle.agv_message_json.specs.Position.{has_position}
use Rattle.agv_message_json.specs.State.{is_bad, is_other_version, state_or_refusal, state_message, stamped, state_of, text}
use Rattle.agv_message_core.specs.declared.state.StateMessage.{StateMessage}
use Rattle.agv_world_core.specs.Lawful.{IsKey}
use Rattle.agv_desk.specs.StocktakeSteps.{Row}
use Rattle.agv_desk.specs.WellTyped.{IsWellTyped}
use Rattle.agv_desk.specs.declared.call.Call.{Call}
use Rattle.agv_desk.specs.declared.call.Call.TheVariants as call
use Rattle.agv_face_http.specs.bodies.CommandBodies.{capacity_at, vehicle_from_json, load_from_json, correction_from_json, leave_from_json, job_from_json, drive_from_json, advance_from_json, place_from_json}
use Rattle.agv_face_http.specs.bodies.OrderBody.{order_in, order_from_json, stops_from_json}
use Rattle.agv_face_http.specs.bodies.Members.{given, json_in, key_at, name_at, of_value, optional_name_at, or_bad_body}
use Rattle.agv_face_http.specs.bodies.StateBody.{from_vehicle, is_sent_by, message_in, state_in, unless_refused}
use Rattle.agv_face_http.specs.bodies.CsvBodies.{call_of_rows, stocktake_call, layout_call}

-- what is read is well typed, if it is a call
abbrev pub IsTypedIfSaid : Result Call Refusal → Type 0
IsTypedIfSaid read = IfOk read IsWellTyped

-- ---- what is read, by its tests

-- it stands behind a test that says so
if_tested : {A : Type 0} (P : A → Type 0) (x : A) (test : Bool) → (test ≡ true → P x) → IfSome (cond test (Some x) None) P
if_tested P x true h = h refl
if_tested P x false h = tt

-- what is given is so, and so is what is made of it
given_so : {A B : Type 0} (P : A → Type 0) (Q : B → Type 0) (said : Option A) (rest : A → Option B) → IfSome said P → ((x : A) → P x → IfSome (rest x) Q) → IfSome (given said rest) Q
given_so P Q None rest is goes = tt
given_so P Q (Some x) rest is goes = goes x is

-- whatever is given
given_any : {A B : Type 0} (Q : B → Type 0) (said : Option A) (rest : A → Option B) → ((x : A) → IfSome (rest x) Q) → IfSome (given said rest) Q
given_any Q None rest goes = tt
given_any Q (Some x) rest goes = goes x

-- ---- names and numbers

text_named : (said : Option (List ℕ)) → IfSome (option_and_then as_name said) IsName
text_named None = tt
text_named (Some s) = if_tested IsName s (is_name s) (λ is. is)

pub member_named : (member : List ℕ) (d : Data) → IfSome (name_at member d) IsName
unfolding name_at
member_named member d = text_named (text_at member d)

key_named : (d : Data) → IfSome (key_at d) IsKey
unfolding key_at
key_named d =
    given_so IsName IsKey (name_at (codes "manufacturer") d) _ (member_named (codes "manufacturer") d) (λ manufacturer is.
    given_so IsName IsKey (name_at (codes "serialNumber") d) _ (member_named (codes "serialNumber") d) (λ serial also. (is, also)))

below : (n : ℕ) (test : Bool) → nat_lt n (2 ^ 32) ≡ test → unwrap_or (cond test (Some n) None) 0 ≤ 4294967295
below n true is = grind (arith, nat_tests)
below n false is = omega arith

read_below : (said : Option ℕ) → unwrap_or (option_and_then below_2_32 said) 0 ≤ 4294967295
read_below None = omega arith
read_below (Some n) = below n (nat_lt n (2 ^ 32)) refl

member_below : (member : List ℕ) (d : Data) → unwrap_or (whole_at member d) 0 ≤ 4294967295
unfolding whole_at
member_below member d = read_below (option_and_then as_u64 (option_and_then as_number (member_at member d)))

-- ---- commands

vehicle_typed : (d : Data) → IfSome (vehicle_from_json d) IsWellTyped
unfolding vehicle_from_json
vehicle_typed d = given_so IsKey IsWellTyped (key_at d) _ (key_named d) (λ key is. given_any IsWellTyped (name_at (codes "node") d) _ (λ node. given_any IsWellTyped (capacity_at d) _ (λ capacity. is)))

load_typed : (d : Data) → IfSome (load_from_json d) IsWellTyped
unfolding load_from_json
load_typed d = given_so IsName IsWellTyped (name_at (codes "load") d) _ (member_named (codes "load") d) (λ load is. given_any IsWellTyped (optional_name_at (codes "station") d) _ (λ station. is))

correction_typed : (load : List ℕ) (d : Data) → IfSome (correction_from_json load d) IsWellTyped
unfolding correction_from_json
correction_typed load d = given_so IsName IsWellTyped (name_at (codes "ref") d) _ (member_named (codes "ref") d) (λ reference is. given_any IsWellTyped (optional_name_at (codes "station") d) _ (λ station. is))

leave_typed : (load : List ℕ) (d : Data) → IfSome (leave_from_json load d) IsWellTyped
unfolding leave_from_json
leave_typed load d = given_so IsName IsWellTyped (name_at (codes "ref") d) _ (member_named (codes "ref") d) (λ reference is. is)

job_typed : (d : Data) → IfSome (job_from_json d) IsWellTyped
unfolding job_from_json
job_typed d = given_so IsName IsWellTyped (name_at (codes "job") d) _ (member_named (codes "job") d) (λ job is. given_any IsWellTyped (name_at (codes "load") d) _ (λ load. given_any IsWellTyped (name_at (codes "to") d) _ (λ to. is)))

advance_typed : (key : VehicleKey) (d : Data) → IfSome (advance_from_json key d) IsWellTyped
unfolding advance_from_json
advance_typed key d = given_any IsWellTyped (name_at (codes "order") d) _ (λ order. given_any IsWellTyped (whole_at (codes "orderUpdateId") d) _ (λ update. given_any IsWellTyped (whole_at (codes "edges") d) _ (λ edges. tt)))

place_typed : (key : VehicleKey) (d : Data) → IfSome (place_from_json key d) IsWellTyped
unfolding place_from_json
place_typed key d = given_so IsName IsWellTyped (name_at (codes "ref") d) _ (member_named (codes "ref") d) (λ reference is. given_any IsWellTyped (name_at (codes "node") d) _ (λ node. is))

drive_typed : (d : Data) → IfSome (drive_from_json d) IsWellTyped
unfolding drive_from_json
drive_typed d =
    given_so IsName IsWellTyped (name_at (codes "order") d) _ (member_named (codes "order") d) (λ order is.
    given_any IsWellTyped (key_at d) _ (λ key. given_any IsWellTyped (name_at (codes "to") d) _ (λ to. given_any IsWellTyped (whole_at (codes "edges") d) _ (λ edges. is))))

order_typed : (d : Data) → IfSome (order_from_json d) IsWellTyped
unfolding order_from_json
order_typed d =
    given_so IsName IsWellTyped (name_at (codes "order") d) _ (member_named (codes "order") d) (λ order is.
    given_any IsWellTyped (key_at d) _ (λ key. given_any IsWellTyped (whole_at (codes "edges") d) _ (λ edges. given_any IsWellTyped (stops_from_json d) _ (λ stops. is))))

-- ---- JSON bodies

said_typed : (said : Option Call) → IfSome said IsWellTyped → IsTypedIfSaid (or_bad_body said)
said_typed None is = tt
said_typed (Some made) is = is

value_typed : (reader : Data → Option Call) → ((d : Data) → IfSome (reader d) IsWellTyped) → (read : Result Data Refusal) → IsTypedIfSaid (of_value reader read)
value_typed reader is (Err why) = tt
value_typed reader is (Ok d) = said_typed (reader d) (is d)

json_typed : (reader : Data → Option Call) → ((d : Data) → IfSome (reader d) IsWellTyped) → (body : List ℕ) → IsTypedIfSaid (json_in reader body)
unfolding json_in
json_typed reader is body = value_typed reader is (body_of body)

pub reads_vehicle : (body : List ℕ) → IsTypedIfSaid (json_in vehicle_from_json body)
reads_vehicle = json_typed vehicle_from_json vehicle_typed

pub reads_load : (body : List ℕ) → IsTypedIfSaid (json_in load_from_json body)
reads_load = json_typed load_from_json load_typed

pub reads_correction : (load body : List ℕ) → IsTypedIfSaid (json_in (correction_from_json load) body)
reads_correction load = json_typed (correction_from_json load) (correction_typed load)

pub reads_leave : (load body : List ℕ) → IsTypedIfSaid (json_in (leave_from_json load) body)
reads_leave load = json_typed (leave_from_json load) (leave_typed load)

pub reads_job : (body : List ℕ) → IsTypedIfSaid (json_in job_from_json body)
reads_job = json_typed job_from_json job_typed

pub reads_drive : (body : List ℕ) → IsTypedIfSaid (json_in drive_from_json body)
reads_drive = json_typed drive_from_json drive_typed

pub reads_advance : (key : VehicleKey) (body : List ℕ) → IsTypedIfSaid (json_in (advance_from_json key) body)
reads_advance key = json_typed (advance_from_json key) (advance_typed key)

pub reads_place : (key : VehicleKey) (body : List ℕ) → IsTypedIfSaid (json_in (place_from_json key) body)
reads_place key = json_typed (place_from_json key) (place_typed key)

pub reads_order : (body : List ℕ) → IsTypedIfSaid (order_in body)
unfolding order_in
reads_order body = json_typed order_from_json order_typed body

-- ---- states

-- the number of a state is in its range
abbrev IsNumbered : StateMessage → Type 0
IsNumbered state = state.header_id ≤ 4294967295

number_below : (at : ℕ) (d : Data) → IsNumbered (state_message at d)
unfolding state_message
number_below at d = member_below (codes "headerId") d

stamped_numbered : (said : Option ℕ) (d : Data) → IfOk (stamped said d) IsNumbered
stamped_numbered None d = tt
stamped_numbered (Some at) d = number_below at d

unless : (test : Bool) (why : Refusal) (read : Result StateMessage Refusal) → IfOk read IsNumbered → IfOk (cond test (Err why) read) IsNumbered
unless true why read is = tt
unless false why read is = is

judged_numbered : (d : Data) → IfOk (state_or_refusal d) IsNumbered
judged_numbered d = unless (is_bad d) refusal.BadBody _ (unless (is_other_version d) refusal.Version _ (stamped_numbered (moment_said (text (codes "timestamp") d)) d))

state_numbered : (d : Data) → IfOk (state_of d) IsNumbered
state_numbered d = unless (has_position d) refusal.Position (state_or_refusal d) (judged_numbered d)

value_numbered : (read : Result Data Refusal) → IfOk (unless_refused state_of read) IsNumbered
value_numbered (Err why) = tt
value_numbered (Ok d) = state_numbered d

message_numbered : (body : List ℕ) → IfOk (message_in body) IsNumbered
unfolding message_in
message_numbered body = value_numbered (body_of body)

by_sender : (test : Bool) (key : VehicleKey) (state : StateMessage) → IsNumbered state → IsTypedIfSaid (cond test (Ok (call.State key state)) (Err refusal.WrongVehicle))
by_sender true key state is = is
by_sender false key state is = tt

by_message : (key : VehicleKey) (read : Result StateMessage Refusal) → IfOk read IsNumbered → IsTypedIfSaid (unless_refused (from_vehicle key) read)
by_message key (Err why) is = tt
by_message key (Ok state) is = by_sender (is_sent_by key state) key state is

pub reads_state : (key : VehicleKey) (body : List ℕ) → IsTypedIfSaid (state_in key body)
unfolding state_in
reads_state key body = by_message key (message_in body) (message_numbered body)

-- ---- layouts

-- the row has a name
abbrev IsRowNamed : LayoutRow → Type 0
IsRowNamed row = IsName (id_in row)

node_named : (id from to : List ℕ) → IfSome (node_row id from to) IsRowNamed
unfolding node_row
node_named id from to = if_tested IsRowNamed (Node id) (is_name id && length from == 0 && length to == 0) (λ is. (and_parts _ _ (and_parts _ _ is).0).0)

edge_named : (id from to : List ℕ) → IfSome (edge_row id from to) IsRowNamed
unfolding edge_row
edge_named id from to = if_tested IsRowNamed (Edge id from to) (is_name id && is_name from && is_name to) (λ is. (and_parts _ _ (and_parts _ _ is).0).0)

station_named : (id from to : List ℕ) → IfSome (station_row id from to) IsRowNamed
unfolding station_row
station_named id from to = if_tested IsRowNamed (Station id from (digits_value 10 to)) (is_name id && is_name from && is_capacity to) (λ is. (and_parts _ _ (and_parts _ _ is).0).0)

by_kind : (test : Bool) (one other : Option LayoutRow) → IfSome one IsRowNamed → IfSome other IsRowNamed → IfSome (cond test one other) IsRowNamed
by_kind true one other is also = is
by_kind false one other is also = also

row_named : (fields : List (List ℕ)) → IfSome (row_in fields) IsRowNamed
unfolding row_in
row_named [] = tt
row_named (a ∷ []) = tt
row_named (a ∷ b ∷ []) = tt
row_named (a ∷ b ∷ c ∷ []) = tt
row_named (kind ∷ id ∷ from ∷ to ∷ []) =
    by_kind (bytes_eq kind (codes "node")) (node_row id from to) _ (node_named id from to)
    (by_kind (bytes_eq kind (codes "edge")) (edge_row id from to) _ (edge_named id from to)
    (by_kind (bytes_eq kind (codes "station")) (station_row id from to) None (station_named id from to) tt))
row_named (a ∷ b ∷ c ∷ d ∷ e ∷ rest) = tt

one_more : (one : Option LayoutRow) (rest : Option (List LayoutRow)) → IfSome one IsRowNamed → IfSome rest AreNamed → IfSome (option_and_then (λ row. option_map (λ rows. row ∷ rows) rest) one) AreNamed
one_more None rest is are = tt
one_more (Some row) None is are = tt
one_more (Some row) (Some rows) is are = All-cons IsRowNamed row rows is are

each_named : (records : List (List (List ℕ))) → IfSome (each row_in records) AreNamed
each_named [] = All-nil IsRowNamed
each_named (fields ∷ records) = one_more (row_in fields) (each row_in records) (row_named fields) (each_named records)

by_header : (test : Bool) (rows : Option (List LayoutRow)) → IfSome rows AreNamed → IfSome (cond test rows None) AreNamed
by_header true rows are = are
by_header false rows are = tt

under_named : (records : List (List (List ℕ))) → IfSome (rows_under layout_columns row_in records) AreNamed
under_named [] = tt
under_named (first ∷ rest) = by_header (is_record layout_columns first) (each row_in rest) (each_named rest)

by_rows : (rows : Option (List LayoutRow)) → IfSome rows AreNamed → IsTypedIfSaid (call_of_rows call.SetLayout rows)
by_rows None are = tt
by_rows (Some rows) are = are

pub reads_layout : (body : List ℕ) → IsTypedIfSaid (layout_call body)
unfolding layout_call
reads_layout body = by_rows (layout.layout_rows_in body) (under_named (records_of body))

-- ---- stocktakes

by_count : (reference : List ℕ) → IsName reference → (rows : Option (List Row)) → IsTypedIfSaid (call_of_rows (call.Stocktake reference) rows)
by_count reference is None = tt
by_count reference is (Some rows) = is

pub reads_count : (reference body : List ℕ) → IsName reference → IsTypedIfSaid (stocktake_call reference body)
unfolding stocktake_call
reads_count reference body is = by_count reference is (stocktake.count_in body)
