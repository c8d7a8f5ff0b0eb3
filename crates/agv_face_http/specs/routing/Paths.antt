-- Paths by their segments, and the patterns that they match (RFC 3986, section 3.3). Nothing is decoded.
use Rattle.std.specs.Prelude.{ℕ, ◌==◌, List, [], ◌∷◌, Bool, Option, Some, None, map, option_map, bytes_eq, if◌then◌else◌}
use Rattle.std.specs.List.{before_first, slice_split}
use Rattle.agv_header.specs.Name.{is_name}

-- the byte is a slash
abbrev pub is_slash : ℕ → Bool
is_slash b = b == 47

-- the byte is a question mark
abbrev pub is_question_mark : ℕ → Bool
is_question_mark b = b == 63

-- the path of a target: everything before its first question mark
abbrev pub path_of : List ℕ → List ℕ
path_of target = before_first is_question_mark target

-- the segments of a path: what is between slashes after its leading slash; None without a leading slash
abbrev pub segments_of : List ℕ → Option (List (List ℕ))
segments_of [] = None
segments_of (b ∷ rest) = if is_slash b then Some (slice_split is_slash rest) else None

-- a part of a pattern: a literal word, or a name
pub data Part : Type 0 where
  Word : List ℕ → Part
  AName : Part

-- a part as it is written: a name begins with a brace, as in `{load}`
abbrev pub part_of : List ℕ → Part
part_of [] = Word []
part_of (b ∷ rest) = if b == 123 then AName else Word (b ∷ rest)

-- the parts of a written pattern: what is between slashes after its leading slash
abbrev pub pattern_of : List ℕ → List Part
pattern_of [] = []
pattern_of (_ ∷ rest) = map part_of (slice_split is_slash rest)

-- the names that a path's segments have where the pattern has a name, or None where they don't match it
abbrev pub names_in : List Part → List (List ℕ) → Option (List (List ℕ))
names_in [] [] = Some []
names_in [] (_ ∷ _) = None
names_in (_ ∷ _) [] = None
names_in (Word w ∷ parts) (s ∷ segments) = if bytes_eq s w then names_in parts segments else None
names_in (AName ∷ parts) (s ∷ segments) = if is_name s then option_map (λ names. s ∷ names) (names_in parts segments) else None
