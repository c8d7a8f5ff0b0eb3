-- How long heads and bodies are.
use Rattle.std.proofs.Common.{◌≡◌, ◌&&◌, nat_lt, nat_le, suc, ◌≤◌, ◌<◌, ◌+◌, ◌^◌, ℕ, Bool, true, false, List, [], ◌∷◌, ◌++◌, length, Option, Some, None, All, unwrap_or, codes, decimal, ap, arith, length-append, lit<, lit≤, map}
use Rattle.std.specs.List.{list_all}
use Rattle.std.proofs.lemmas.Bool.{and_parts}
use Rattle.std.proofs.lemmas.Bool.Decides.{nat_tests}
use Rattle.std.proofs.lemmas.Fmt.{length-decimal-le}
use Rattle.std.proofs.lemmas.List.Sums.{sum_by-cons}
use Rattle.http.specs.StatusCode.{reason_phrase}
use Rattle.json.specs.Print.{escape, escape_byte}
use Rattle.serde_json.specs.View.{items_of}
use Rattle.serde_json.specs.Written.{compact_text, items_text}
use Rattle.agv_header.specs.Key.{thing_name}
use Rattle.agv_header.specs.Name.{IsName, is_name_byte}
use Rattle.agv_count.specs.Reports.{key_text, thing_text}
use Rattle.agv_desk.specs.declared.answer.Answer.{Answer}
use Rattle.agv_desk.specs.declared.answer.Answer.TheVariants as answer
use Rattle.agv_header.specs.Refusal.{name_of, number_of, status_of}
use Rattle.agv_header.specs.declared.key.Thing.{Thing}
use Rattle.agv_header.specs.declared.key.Thing.TheVariants as thing
use Rattle.agv_header.specs.declared.key.VehicleKey.{VehicleKey}
use Rattle.agv_header.specs.declared.refusal.Refusal.{Refusal}
use Rattle.agv_header.specs.declared.refusal.Refusal.TheVariants as refusal
use Rattle.agv_header.specs.declared.refusal.Verb.{Verb}
use Rattle.agv_header.specs.declared.refusal.Verb.TheVariants as verb
use Rattle.agv_message_json.specs.Json.{list, text}
use Rattle.agv_face_http.specs.answers.Answers.{allowed, answer_text}
use Rattle.agv_face_http.specs.answers.Bodies.{accepted_data, counted_data, held_data, instructed_data, plain_refusal_data, refusal_data, update_data, wrong_update_data}
use Rattle.agv_face_http.specs.answers.Heads.{allow_line, connection_line, content_lines, head_text, line_end, status_line}
use Rattle.agv_face_http.specs.answers.Sizes.{IsBrief, IsOfItsTypes, IsToldBriefly, is_outcome, names_size, outcome_bytes}
use Rattle.agv_message_json.proofs.Escapes.{escape-name, escape-decimal}
use Rattle.agv_face_http.proofs.answers.Escapes.{escape-key}
use Rattle.agv_face_http.proofs.answers.RefusalNames.{escape-refusal}
use Rattle.agv_face_http.proofs.answers.ShortRefusals.{short_refusal}

allow_length : (allow : Option Verb) → length (allow_line allow) ≤ 16
allow_length None = lit≤ tt
allow_length (Some verb.Get) = lit≤ tt
allow_length (Some verb.Post) = lit≤ tt
allow_length (Some verb.Put) = lit≤ tt
allow_length (Some verb.Delete) = lit≤ tt

connection_length : (close : Bool) → length (connection_line close) ≤ 19
connection_length true = lit≤ tt
connection_length false = lit≤ tt

status_length : (status : ℕ) → status < 1000 → length (unwrap_or (reason_phrase status) []) ≤ 64 → length (status_line status) ≤ 96
status_length status small reason =
    let digits : length (decimal status) ≤ 3 = length-decimal-le 3 status (lit< tt) small (omega arith) in
    omega (
      arith,
      length-append (decimal status) (codes " " ++ (unwrap_or (reason_phrase status) [] ++ line_end)),
      length-append (unwrap_or (reason_phrase status) []) line_end,
    )

content_length : (kind : Option (List ℕ)) (len : ℕ) → len < 2 ^ 64 → length (unwrap_or kind []) ≤ 16 → length (content_lines kind len) ≤ 96
content_length None len small short = lit≤ tt
content_length (Some kind) len small short =
    let digits : length (decimal len) ≤ 20 = length-decimal-le 20 len (lit< tt) (omega arith) small in
    omega (
      arith,
      length-append (decimal len) line_end,
      length-append (decimal len ++ line_end) (codes "Content-Type: " ++ (kind ++ line_end)),
      length-append kind line_end,
    )

-- the head
pub head_length : (status : ℕ) (kind : Option (List ℕ)) (len : ℕ) (allow : Option Verb) (close : Bool)
    → status < 1000 → length (unwrap_or (reason_phrase status) []) ≤ 64 → len < 2 ^ 64 → length (unwrap_or kind []) ≤ 16
    → length (head_text status kind len allow close) ≤ 256
unfolding head_text
head_length status kind len allow close small reason fits short =
    omega (
      arith,
      length-append (status_line status) (content_lines kind len ++ (allow_line allow ++ (connection_line close ++ line_end))),
      length-append (content_lines kind len) (allow_line allow ++ (connection_line close ++ line_end)),
      length-append (allow_line allow) (connection_line close ++ line_end),
      length-append (connection_line close) line_end,
      status_length status small reason,
      content_length kind len fits short,
      allow_length allow,
      connection_length close,
    )

pub name_length : (s : List ℕ) → IsName s → length s ≤ 32
name_length s h =
    let lengths = and_parts (nat_lt 0 (length s) && nat_le (length s) 32) (list_all is_name_byte s) h in
    let test : nat_le (length s) 32 ≡ true = (and_parts (nat_lt 0 (length s)) (nat_le (length s) 32) lengths.0).1 in
    grind (arith, nat_tests)

pub digits_length : (n : ℕ) → n < 2 ^ 32 → length (decimal n) ≤ 10
digits_length n h = length-decimal-le 10 n (lit< tt) (omega arith) (omega arith)

update_length : (n : ℕ) → n < 2 ^ 32 → length (compact_text (update_data n)) ≤ 256
unfolding escape_byte
update_length n h = omega (arith, length-append (decimal n) (125 ∷ []), digits_length n h)

instructed_length : (n : ℕ) → n < 2 ^ 32 → length (compact_text (instructed_data n)) ≤ 256
unfolding escape_byte
instructed_length n h =
    let plain : length (escape (decimal n)) ≡ length (decimal n) = ap length (escape-decimal n (omega arith)) in
    omega (arith, length-append (escape (decimal n) ++ 34 ∷ []) (125 ∷ []), length-append (escape (decimal n)) (34 ∷ []), digits_length n h)

accepted_length : (b : Bool) → length (compact_text (accepted_data b)) ≤ 256
unfolding escape_byte
accepted_length true = lit≤ tt
accepted_length false = lit≤ tt

plain_length : (r : Refusal) → length (compact_text (plain_refusal_data r)) ≤ 256
unfolding escape_byte
plain_length r =
    let short = short_refusal r in
    let plain : length (escape (name_of r)) ≡ length (name_of r) = ap length (escape-refusal r) in
    let digits : length (decimal (number_of r)) ≤ 10 = digits_length (number_of r) (omega (arith, short.number)) in
    omega (
      arith,
      short.name,
      length-append (escape (name_of r) ++ 34 ∷ []) (codes ",\"refusal\":" ++ (decimal (number_of r) ++ 125 ∷ [])),
      length-append (escape (name_of r)) (34 ∷ []),
      length-append (decimal (number_of r)) (125 ∷ []),
    )

pub key_length : (m s : List ℕ) → IsName m → IsName s → length (escape (m ++ (codes "/" ++ s))) ≤ 65
key_length m s hm hs = omega (arith, ap length (escape-key m s hm hs), length-append m (47 ∷ s), name_length m hm, name_length s hs)

thing_length : (what : Thing) → IsName (thing_name what) → length (escape (thing_text what)) ≤ 37
unfolding escape_byte
thing_length (thing.Node id) h = omega (arith, ap length (escape-name id h), name_length id h)
thing_length (thing.Edge id) h = omega (arith, ap length (escape-name id h), name_length id h)

held_length : (what : Thing) (by : VehicleKey) → IsName (thing_name what) → IsName by.manufacturer → IsName by.serial → length (compact_text (held_data what by)) ≤ 256
unfolding escape_byte
held_length what by h hm hs =
    let number : length (decimal 33) ≤ 10 = digits_length 33 (lit< tt) in
    let end : List ℕ = (34 ∷ (escape (thing_text what) ++ 34 ∷ [])) ++ 125 ∷ [] in
    let middle : List ℕ = decimal 33 ++ (codes ",\"what\":" ++ ((34 ∷ (escape (thing_text what) ++ 34 ∷ [])) ++ 125 ∷ [])) in
    omega (
      arith,
      length-append (escape (key_text by) ++ 34 ∷ []) (codes ",\"name\":\"Held\",\"refusal\":" ++ middle),
      length-append (escape (key_text by)) (34 ∷ []),
      length-append (decimal 33) (codes ",\"what\":" ++ end),
      length-append (escape (thing_text what) ++ 34 ∷ []) (125 ∷ []),
      length-append (escape (thing_text what)) (34 ∷ []),
      key_length by.manufacturer by.serial hm hs,
      thing_length what h,
    )

wrong_update_length : (sent : ℕ) → sent < 2 ^ 32 → length (compact_text (wrong_update_data sent)) ≤ 256
unfolding escape_byte
wrong_update_length sent h =
    let number : length (decimal 44) ≤ 10 = digits_length 44 (lit< tt) in
    omega (
      arith,
      length-append (decimal 44) (codes ",\"sent\":" ++ (decimal sent ++ 125 ∷ [])),
      length-append (decimal sent) (125 ∷ []),
      digits_length sent h,
    )

pub refusal_length : (r : Refusal) → IsToldBriefly r → length (compact_text (refusal_data r)) ≤ 256
refusal_length refusal.BadHead h = plain_length refusal.BadHead
refusal_length refusal.NoLength h = plain_length refusal.NoLength
refusal_length refusal.TooLarge h = plain_length refusal.TooLarge
refusal_length refusal.Coding h = plain_length refusal.Coding
refusal_length refusal.NoPath h = plain_length refusal.NoPath
refusal_length (refusal.BadMethod allow) h = plain_length (refusal.BadMethod allow)
refusal_length refusal.BadJson h = plain_length refusal.BadJson
refusal_length refusal.Fraction h = plain_length refusal.Fraction
refusal_length refusal.Position h = plain_length refusal.Position
refusal_length refusal.BadBody h = plain_length refusal.BadBody
refusal_length refusal.BadCsv h = plain_length refusal.BadCsv
refusal_length refusal.Version h = plain_length refusal.Version
refusal_length refusal.BadTimestamp h = plain_length refusal.BadTimestamp
refusal_length refusal.WrongVehicle h = plain_length refusal.WrongVehicle
refusal_length refusal.NoVehicle h = plain_length refusal.NoVehicle
refusal_length refusal.NoNode h = plain_length refusal.NoNode
refusal_length refusal.NoStation h = plain_length refusal.NoStation
refusal_length refusal.NoLoad h = plain_length refusal.NoLoad
refusal_length refusal.NoJob h = plain_length refusal.NoJob
refusal_length refusal.NoOrder h = plain_length refusal.NoOrder
refusal_length refusal.Exists h = plain_length refusal.Exists
refusal_length refusal.LayoutSet h = plain_length refusal.LayoutSet
refusal_length refusal.LayoutBad h = plain_length refusal.LayoutBad
refusal_length (refusal.Held what by) h = held_length what by h.0 h.1 h.2
refusal_length refusal.Full h = plain_length refusal.Full
refusal_length refusal.InJob h = plain_length refusal.InJob
refusal_length refusal.Elsewhere h = plain_length refusal.Elsewhere
refusal_length refusal.SameStation h = plain_length refusal.SameStation
refusal_length refusal.Busy h = plain_length refusal.Busy
refusal_length refusal.Astray h = plain_length refusal.Astray
refusal_length refusal.Loaded h = plain_length refusal.Loaded
refusal_length refusal.NotReady h = plain_length refusal.NotReady
refusal_length refusal.InstantPending h = plain_length refusal.InstantPending
refusal_length refusal.NotConfirmed h = plain_length refusal.NotConfirmed
refusal_length (refusal.WrongUpdate sent) h = wrong_update_length sent h
refusal_length refusal.Beyond h = plain_length refusal.Beyond
refusal_length refusal.NoWalk h = plain_length refusal.NoWalk
refusal_length refusal.TooLong h = plain_length refusal.TooLong
refusal_length refusal.Spent h = plain_length refusal.Spent
refusal_length refusal.RefUsed h = plain_length refusal.RefUsed
refusal_length refusal.JobState h = plain_length refusal.JobState
refusal_length refusal.Limit h = plain_length refusal.Limit
refusal_length refusal.OrderKnown h = plain_length refusal.OrderKnown
refusal_length refusal.BadStops h = plain_length refusal.BadStops
refusal_length refusal.OtherOrder h = plain_length refusal.OtherOrder
refusal_length refusal.UpdateNotSent h = plain_length refusal.UpdateNotSent
refusal_length refusal.UpdateBackwards h = plain_length refusal.UpdateBackwards
refusal_length refusal.NotOurNode h = plain_length refusal.NotOurNode
refusal_length refusal.Backwards h = plain_length refusal.Backwards
refusal_length refusal.BeyondBase h = plain_length refusal.BeyondBase
refusal_length refusal.ActionTwice h = plain_length refusal.ActionTwice
refusal_length refusal.ActionBackwards h = plain_length refusal.ActionBackwards
refusal_length refusal.ActionEarly h = plain_length refusal.ActionEarly
refusal_length refusal.DropFirst h = plain_length refusal.DropFirst
refusal_length refusal.CancelEarly h = plain_length refusal.CancelEarly
refusal_length refusal.NotThere h = plain_length refusal.NotThere
refusal_length refusal.CountTwice h = plain_length refusal.CountTwice
refusal_length refusal.OnVehicle h = plain_length refusal.OnVehicle
refusal_length refusal.Memory h = plain_length refusal.Memory
refusal_length refusal.Storage h = plain_length refusal.Storage

-- an answer whose body is short
pub whole_length : (status : ℕ) (kind : Option (List ℕ)) (allow : Option Verb) (close : Bool) (body : List ℕ) (k : ℕ)
    → status < 1000 → length (unwrap_or (reason_phrase status) []) ≤ 64 → length (unwrap_or kind []) ≤ 16 → k < 2 ^ 33 → length body ≤ k
    → length (head_text status kind (length body) allow close ++ body) ≤ 256 + k
whole_length status kind allow close body k small reason short few within =
    omega (arith, length-append (head_text status kind (length body) allow close) body, head_length status kind (length body) allow close small reason (omega arith) short)

-- a short answer
pub brief : (a : Answer) (close : Bool) → IsBrief a → length (answer_text a close) ≤ 1024
unfolding answer_text escape_byte
brief (answer.Refused r) close h =
    let short = short_refusal r in
    omega (arith, whole_length (status_of r) (Some (codes "application/json")) (allowed (answer.Refused r)) close (compact_text (refusal_data r)) 256 short.status short.reason (lit≤ tt) (lit< tt) (refusal_length r h))
brief answer.Done close h =
    omega (arith, whole_length 200 (Some (codes "application/json")) None close (codes "{}") 256 (lit< tt) (lit≤ tt) (lit≤ tt) (lit< tt) (lit≤ tt))
brief (answer.Update n) close h =
    omega (arith, whole_length 200 (Some (codes "application/json")) None close (compact_text (update_data n)) 256 (lit< tt) (lit≤ tt) (lit≤ tt) (lit< tt) (update_length n h))
brief (answer.Instructed n) close h =
    omega (arith, whole_length 200 (Some (codes "application/json")) None close (compact_text (instructed_data n)) 256 (lit< tt) (lit≤ tt) (lit≤ tt) (lit< tt) (instructed_length n h))
brief (answer.Accepted b) close h =
    omega (arith, whole_length 200 (Some (codes "application/json")) None close (compact_text (accepted_data b)) 256 (lit< tt) (lit≤ tt) (lit≤ tt) (lit< tt) (accepted_length b))
brief answer.NoMessage close h =
    omega (arith, whole_length 204 None None close [] 256 (lit< tt) (lit≤ tt) (lit≤ tt) (lit< tt) (lit≤ tt))
brief (answer.Order header order) close h = absurd h
brief (answer.Instant header instant) close h = absurd h
brief (answer.Counted moved unknown) close h = absurd h
brief (answer.Load load place job) close h = absurd h
brief (answer.Job job row carrier) close h = absurd h
brief (answer.Vehicle key row order) close h = absurd h
brief (answer.Report report text) close h = absurd h

items_length : (names : List (List ℕ)) → All IsName names → length (items_text true (items_of (map text names))) ≤ names_size names + 1
items_length [] h = lit≤ tt
items_length (n ∷ names) h =
    let first : IsName n = h 0 n (omega arith) in
    let rest : All IsName names = λ k d inside. h (suc k) d (omega arith) in
    omega (
      arith,
      length-append (34 ∷ (escape n ++ 34 ∷ [])) (items_text true (items_of (map text names))),
      length-append (escape n) (34 ∷ []),
      ap length (escape-name n first),
      sum_by-cons (λ (name : List ℕ). length name + 3) n names,
      items_length names rest,
    )

names_length : (names : List (List ℕ)) → All IsName names → length (compact_text (list (map text names))) ≤ names_size names + 2
names_length [] h = lit≤ tt
names_length (n ∷ names) h =
    let first : IsName n = h 0 n (omega arith) in
    let rest : All IsName names = λ k d inside. h (suc k) d (omega arith) in
    omega (
      arith,
      length-append (34 ∷ (escape n ++ 34 ∷ [])) (items_text true (items_of (map text names))),
      length-append (escape n) (34 ∷ []),
      ap length (escape-name n first),
      sum_by-cons (λ (name : List ℕ). length name + 3) n names,
      items_length names rest,
    )

counted_length : (moved : ℕ) (names : List (List ℕ)) → moved < 2 ^ 64 → All IsName names → length (compact_text (counted_data moved names)) ≤ 256 + names_size names
unfolding escape_byte
counted_length moved names h all =
    let digits : length (decimal moved) ≤ 20 = length-decimal-le 20 moved (lit< tt) (omega arith) h in
    omega (
      arith,
      length-append (decimal moved) (codes ",\"unknown\":" ++ (compact_text (list (map text names)) ++ 125 ∷ [])),
      length-append (compact_text (list (map text names))) (125 ∷ []),
      names_length names all,
    )

-- the answer to a stocktake
pub counted_brief : (moved : ℕ) (unknown : List (List ℕ)) (close : Bool) → moved < 2 ^ 64 → names_size unknown < 2 ^ 32 → All IsName unknown
    → length (answer_text (answer.Counted moved unknown) close) ≤ 1024 + names_size unknown
unfolding answer_text
counted_brief moved unknown close h few all =
    omega (arith, whole_length 200 (Some (codes "application/json")) None close (compact_text (counted_data moved unknown)) (256 + names_size unknown) (lit< tt) (lit≤ tt) (lit≤ tt) (omega arith) (counted_length moved unknown h all))

-- the unknown names of a count are names, and fewer than 4 GiB
abbrev pub AreFewNames : Answer → Type 0
AreFewNames (answer.Counted moved unknown) = (names_size unknown < 2 ^ 32) × All IsName unknown
AreFewNames _ = Unit {0}

-- an outcome
pub outcome_short : (a : Answer) → is_outcome a ≡ true → IsOfItsTypes a → AreFewNames a → (close : Bool) → length (answer_text a close) ≤ outcome_bytes a
outcome_short (answer.Refused r) is h few close = brief (answer.Refused r) close h
outcome_short answer.Done is h few close = brief answer.Done close tt
outcome_short (answer.Update n) is h few close = brief (answer.Update n) close h
outcome_short (answer.Instructed n) is h few close = brief (answer.Instructed n) close h
outcome_short (answer.Accepted b) is h few close = brief (answer.Accepted b) close tt
outcome_short answer.NoMessage is h few close = brief answer.NoMessage close tt
outcome_short (answer.Order header order) is h few close = absurd (cc)
outcome_short (answer.Instant header instant) is h few close = absurd (cc)
outcome_short (answer.Counted moved unknown) is h few close = counted_brief moved unknown close h few.0 few.1
outcome_short (answer.Load load place job) is h few close = absurd (cc)
outcome_short (answer.Job job row carrier) is h few close = absurd (cc)
outcome_short (answer.Vehicle key row order) is h few close = absurd (cc)
outcome_short (answer.Report report text) is h few close = absurd (cc)
