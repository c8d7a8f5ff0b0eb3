-- The header lines of a request (RFC 9110, sections 5 and 8.6; RFC 9112, section 6).
use Rattle.std.specs.Prelude.{ℕ, ◌&&◌, Bool, List, [], ◌∷◌, length, map, filter, nat_lt, if◌then◌else◌, codes}
use Rattle.std.specs.List.{list_all, list_any}
use Rattle.std.specs.Str.{bytes_eq}
use Rattle.std.specs.Char.{to_ascii_lowercase, is_ascii_digit}
use Rattle.std.specs.Str.Parse.{digits_value}

-- a header line: its name, and its value without the spaces and tabs around it
abbrev pub Line : Type 0
Line = List ℕ × List ℕ

-- the two words are equal but for ASCII case
abbrev pub same_word : List ℕ → List ℕ → Bool
same_word a b = bytes_eq (map to_ascii_lowercase a) (map to_ascii_lowercase b)

-- the values of the lines of that name, in order
abbrev pub values_of : List ℕ → List Line → List (List ℕ)
values_of name lines = map (λ (l : Line). l.1) (filter (λ (l : Line). same_word l.0 name) lines)

-- whether there is a line of that name
abbrev pub has_line : List ℕ → List Line → Bool
has_line name lines = list_any (λ (l : Line). same_word l.0 name) lines

-- what the lines give as the length of the body: nothing, a number, or something else
pub data Length : Type 0 where
  absent : Length
  given : ℕ → Length
  wrong : Length

-- one or more digits
abbrev pub is_number : List ℕ → Bool
is_number value = nat_lt 0 (length value) && list_all is_ascii_digit value

-- the length of these values; two values are wrong even if they agree
abbrev pub length_given : List (List ℕ) → Length
length_given [] = absent
length_given (value ∷ []) = if is_number value then given (digits_value 10 value) else wrong
length_given (value ∷ next ∷ more) = wrong

-- the length that the Content-Length lines give
abbrev pub content_length : List Line → Length
content_length lines = length_given (values_of (codes "content-length") lines)
