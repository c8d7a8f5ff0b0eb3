-- What the code finds in the header lines, and what that means. No public clause cites this.
use Rattle.std.specs.Prelude.{◌≡◌, ℕ, ◌≤◌, List, [], ◌∷◌, length, min}
use Rattle.agv_face_http.specs.request.Lines.{Length, absent, given, wrong}
use Rattle.agv_face_http.specs.declared.request.lines.Values.{Values}
use Rattle.agv_face_http.specs.declared.request.lines.Values.TheVariants as values
use Rattle.agv_face_http.specs.declared.request.lines.FoundLength.{FoundLength}
use Rattle.agv_face_http.specs.declared.request.lines.FoundLength.TheVariants.{Absent, Bytes, Wrong}

-- the list of values that the code's result stands for
abbrev pub AreFound : List (List ℕ) → Values → Type 0
AreFound found values.Absent = found ≡ []
AreFound found (values.One value) = found ≡ value.now ∷ []
AreFound found values.Several = 2 ≤ length found

-- the code's result for a length; lengths above 65,537 are capped at 65,537
abbrev pub found_length : Length → FoundLength
found_length absent = Absent
found_length (given n) = Bytes (min 65537 n)
found_length wrong = Wrong
