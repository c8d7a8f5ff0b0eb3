-- The head of an answer (RFC 9112, sections 2 to 6; RFC 9110, section 15).
use Prim.Native.String.{String}
use Rattle.std.specs.Prelude.{ℕ, Bool, true, false, List, [], ◌∷◌, ◌++◌, decimal, codes, unwrap_or, Option, Some, None}
use Rattle.http.specs.StatusCode.{reason_phrase}
use Rattle.agv_header.specs.Refusal.{verb_text}
use Rattle.agv_header.specs.declared.refusal.Verb.{Verb}

-- CR LF
abbrev pub line_end : List ℕ
line_end = 13 ∷ 10 ∷ []

-- `HTTP/1.1 200 OK`
abbrev pub status_line : ℕ → List ℕ
status_line status =
    codes "HTTP/1.1 " ++ (decimal status ++ (codes " " ++ (unwrap_or (reason_phrase status) [] ++ line_end)))

-- `Content-Type: text/csv`
abbrev pub header_line : String → List ℕ → List ℕ
header_line name value = codes name ++ (codes ": " ++ (value ++ line_end))

-- the header lines of the body's length and type, if there is a body
abbrev pub content_lines : Option (List ℕ) → ℕ → List ℕ
content_lines None len = []
content_lines (Some kind) len = header_line "Content-Length" (decimal len) ++ header_line "Content-Type" kind

-- `Allow: GET`, if the refusal names the only method that serves the path
abbrev pub allow_line : Option Verb → List ℕ
allow_line None = []
allow_line (Some allow) = header_line "Allow" (verb_text allow)

-- `Connection: close`, if the stream ends after the answer
abbrev pub connection_line : Bool → List ℕ
connection_line true = header_line "Connection" (codes "close")
connection_line false = []

-- the status line, the header lines and an empty line
unfoldable pub head_text : ℕ → Option (List ℕ) → ℕ → Option Verb → Bool → List ℕ
head_text status kind len allow close =
    status_line status ++ (content_lines kind len ++ (allow_line allow ++ (connection_line close ++ line_end)))
