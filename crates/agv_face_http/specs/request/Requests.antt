-- A request, and how its head determines where it ends (RFC 9112, sections 2, 3 and 6, with this project's limits).
use Rattle.std.specs.Prelude.{◌≡◌, ◌==◌, ℕ, ◌<◌, ◌≤◌, ◌||◌, ◌⊎◌, Bool, List, [], length, map, nat_lt, if◌then◌else◌, codes, Result, Ok, Err}
use Rattle.std.specs.List.{list_any, slice_split}
use Rattle.std.specs.Str.{bytes_eq}
use Rattle.httparse.specs.Grammar.{RequestHead, ReadsRequest, HasNoRequest, MayBecomeRequest, print_request, trim_ows}
use Rattle.httparse.specs.Spans.{name_and_value}
use Rattle.agv_header.specs.declared.refusal.Refusal.{Refusal}
use Rattle.agv_header.specs.declared.refusal.Refusal.TheVariants as refusal
use Rattle.agv_face_http.specs.request.Lines.{Line, same_word, values_of, has_line, Length, absent, given, wrong, content_length}

-- the most bytes of a head
abbrev pub most_head : ℕ
most_head = 8192

-- the most header lines
abbrev pub most_lines : ℕ
most_lines = 32

-- the most bytes of a body
abbrev pub most_body : ℕ
most_body = 65536

-- a request: the parts of its head, and its body
pub record Request : Type 0 where
  pub method : List ℕ
  pub target : List ℕ
  -- 0 for HTTP/1.0, 1 for HTTP/1.1
  pub minor : ℕ
  pub lines : List Line
  pub body : List ℕ

-- the bytes begin with this head, which is within the limits
pub record BeginsWith (bytes : List ℕ) (head : RequestHead) (rest : List ℕ) : Type 0 where
  pub reads : ReadsRequest bytes head rest
  pub short : length (print_request head) ≤ most_head
  pub few : length head.fields ≤ most_lines

-- the header lines, each a name and a value
abbrev pub lines_of : RequestHead → List Line
lines_of head = map name_and_value head.fields

-- the methods that send a body, so that a request has to give its length
abbrev pub sends_body : List ℕ → Bool
sends_body method = bytes_eq method (codes "PUT") || bytes_eq method (codes "POST")

-- the length of the body, or the first refusal that applies: BadHead for a wrong length, Coding, NoLength or TooLarge
abbrev pub length_needed : Bool → List ℕ → Length → Result ℕ Refusal
length_needed coded method wrong = Err refusal.BadHead
length_needed coded method absent = if coded then Err refusal.Coding else (if sends_body method then Err refusal.NoLength else Ok 0)
length_needed coded method (given n) = if coded then Err refusal.Coding else (if nat_lt most_body n then Err refusal.TooLarge else Ok n)

-- the length of the body, or the refusal
abbrev pub body_length : List ℕ → List Line → Result ℕ Refusal
body_length method lines = length_needed (has_line (codes "transfer-encoding") lines) method (content_length lines)

-- the request with this head and this body
abbrev pub request_of : RequestHead → List ℕ → Request
request_of head body = record { method = head.method; target = head.target; minor = head.minor; lines = lines_of head; body = body }

-- the bytes are exactly this request, head and body
abbrev pub IsRequest : List ℕ → Request → Type 0
IsRequest bytes request =
    (head : RequestHead) × (body : List ℕ) × BeginsWith bytes head body × (body_length head.method (lines_of head) ≡ Ok (length body)) × (request ≡ request_of head body)

-- the bytes, at least one, begin with no request: there is no head, its length is refused, or the body is cut short
abbrev pub IsFault : List ℕ → Refusal → Type 0
IsFault bytes fault =
    ((0 < length bytes) × ((head : RequestHead) (rest : List ℕ) → BeginsWith bytes head rest → ⊥) × (fault ≡ refusal.BadHead))
    ⊎ ((head : RequestHead) × (rest : List ℕ) × BeginsWith bytes head rest × (body_length head.method (lines_of head) ≡ Err fault))
    ⊎ ((head : RequestHead) × (rest : List ℕ) × (n : ℕ) × BeginsWith bytes head rest × (body_length head.method (lines_of head) ≡ Ok n) × (length rest < n) × (fault ≡ refusal.BadHead))

-- the byte that separates the elements of a value
abbrev pub comma : ℕ
comma = 44

-- the elements of a value, separated by commas, without the spaces and tabs around them
abbrev pub elements_of : List ℕ → List (List ℕ)
elements_of value = map trim_ows (slice_split (λ b. b == comma) value)

-- the value has an element `close` in any ASCII case (RFC 9110, section 7.6.1)
abbrev pub says_close : List ℕ → Bool
says_close value = list_any (same_word (codes "close")) (elements_of value)

-- HTTP/1.0, or an element `close` in a Connection line (RFC 9112, section 9.6)
abbrev pub is_last_head : ℕ → List Line → Bool
is_last_head minor lines = minor == 0 || list_any says_close (values_of (codes "connection") lines)

-- the request is the last of its stream
abbrev pub is_last : Request → Bool
is_last request = is_last_head request.minor request.lines

-- the bytes need more before they show a request: there are none, the head is incomplete and more bytes can complete it, or part of the body is missing
abbrev pub NeedsMore : List ℕ → Type 0
NeedsMore bytes =
    (bytes ≡ [])
    ⊎ (HasNoRequest bytes × MayBecomeRequest bytes × (length bytes < most_head))
    ⊎ ((head : RequestHead) × (rest : List ℕ) × (n : ℕ) × BeginsWith bytes head rest × (body_length head.method (lines_of head) ≡ Ok n) × (length rest < n))
