-- The fields of a file, with a byte behind each, take at most one byte more than the file.
use Rattle.std.proofs.Common.{◌≡◌, ℕ, zero, suc, ◌+◌, ◌≤◌, ◌⊎◌, inl, inr, Bool, true, false, cond, List, [], ◌∷◌, ◌++◌, length, length-append, Option, None, Some, refl, ap, arith, ◌∙◌}
use Rattle.std.specs.List.{sum_by}
use Rattle.std.proofs.lemmas.List.Sums.{sum_by-cons, sum_by_push}
use Rattle.csv.specs.Machine.{Read, ends_at_end, field_after, fields_after, is_end, next_record, step}
use Rattle.csv.specs.Reading.{default_config, is_bom, records_from, records_next, strip_bom}
use Rattle.csv.specs.declared.parser.Action.{Action}
use Rattle.csv.specs.declared.parser.Action.TheVariants as act
use Rattle.csv.specs.declared.parser.Config.{Config}
use Rattle.csv.specs.declared.parser.State.{State}
use Rattle.csv.specs.declared.parser.State.TheVariants as st
use Rattle.agv_count.specs.Records.{records_of}

-- the bytes of some fields, and one behind each
abbrev pub fields_size : List (List ℕ) → ℕ
fields_size fields = sum_by (λ field. length field + 1) fields

-- the same of records
abbrev pub records_size : List (List (List ℕ)) → ℕ
records_size rows = sum_by fields_size rows

push_size : (fields : List (List ℕ)) (field : List ℕ) → fields_size (fields ++ field ∷ []) ≡ fields_size fields + (length field + 1)
push_size fields field = sum_by_push (λ (one : List ℕ). length one + 1) fields field

-- a byte adds at most one to what was read
after_byte : (action : Action) (c : ℕ) (fields : List (List ℕ)) (field : List ℕ)
    → fields_size (fields_after action fields field) + length (field_after action c field) ≤ fields_size fields + length field + 1
after_byte act.EndField c fields field = omega (arith, push_size fields field)
after_byte act.Skip c fields field = omega arith
after_byte act.Copy c fields field = omega (arith, length-append field (c ∷ []))
after_byte act.EndRecord c fields field = omega (arith, push_size fields field)

-- a record and the text after it fit in so many bytes; where the end of the text ends the record, no byte does
abbrev IsWithin : ℕ → Option Read → Type 0
IsWithin n None = Unit {0}
IsWithin n (Some read) =
    (fields_size read.0 + length read.2 ≤ n) ⊎ ((read.1 ≡ st.StartRecord) × (read.2 ≡ []) × (fields_size read.0 ≤ n + 1))

by_test : (n : ℕ) (test : Bool) (one other : Option Read) → IsWithin n one → IsWithin n other → IsWithin n (cond test one other)
by_test n true one other h k = h
by_test n false one other h k = k

next_within : (cfg : Config) (n : ℕ) (text : List ℕ) (s : State) (fields : List (List ℕ)) (field : List ℕ)
    → fields_size fields + length field + length text ≤ n → IsWithin n (next_record cfg s fields field text)
unfolding next_record
next_within cfg n [] s fields field h =
    by_test n (ends_at_end s) (Some (fields ++ field ∷ [], st.StartRecord, [])) None (inr (refl, refl, omega (arith, push_size fields field))) tt
next_within cfg n (c ∷ rest) s fields field h =
    let one = after_byte (step cfg s c).1 c fields field in
    by_test n (is_end (step cfg s c).1) _ _ (inl (omega (arith, one)))
    (next_within cfg n rest (step cfg s c).0 (fields_after (step cfg s c).1 fields field) (field_after (step cfg s c).1 c field) (omega (arith, one)))

-- at the end of a text there is no record more
none_left : (cfg : Config) (n : ℕ) → records_from cfg n st.StartRecord [] ≡ []
unfolding records_from next_record
none_left cfg zero = refl
none_left cfg (suc n) = refl

more_within : (n : ℕ) (more : State → List ℕ → List (List (List ℕ))) → more st.StartRecord [] ≡ []
    → ((s : State) (text : List ℕ) → records_size (more s text) ≤ length text + 1)
    → (next : Option Read) → IsWithin n next → records_size (records_next more next) ≤ n + 1
more_within n more ended within None h = omega arith
more_within n more ended within (Some read) (inl h) = omega (arith, sum_by-cons fields_size read.0 (more read.1 read.2), within read.1 read.2)
more_within n more ended within (Some read) (inr (start, last, h)) =
    let none : more read.1 read.2 ≡ [] = ap (λ s. more s read.2) start ∙ ap (more st.StartRecord) last ∙ ended in
    omega (arith, sum_by-cons fields_size read.0 (more read.1 read.2), ap records_size none)

from_within : (cfg : Config) (n : ℕ) (s : State) (text : List ℕ) → records_size (records_from cfg n s text) ≤ length text + 1
unfolding records_from
from_within cfg zero s text = omega arith
from_within cfg (suc n) s text =
    more_within (length text) (records_from cfg n) (none_left cfg n) (from_within cfg n) (next_record cfg s [] [] text) (next_within cfg (length text) text s [] [] (omega arith))

unmarked : (test : Bool) (rest text : List ℕ) → length rest ≤ length text → length (cond test rest text) ≤ length text
unmarked true rest text h = h
unmarked false rest text h = omega arith

strip_length : (text : List ℕ) → length (strip_bom text) ≤ length text
unfolding strip_bom
strip_length [] = omega arith
strip_length (a ∷ []) = omega arith
strip_length (a ∷ b ∷ []) = omega arith
strip_length (a ∷ b ∷ c ∷ rest) = unmarked (is_bom a b c) rest (a ∷ b ∷ c ∷ rest) (omega arith)

-- the records of a file
pub records_within : (bytes : List ℕ) → records_size (records_of bytes) ≤ length bytes + 1
unfolding records_of
records_within bytes = omega (arith, strip_length bytes, from_within default_config (length (strip_bom bytes) + 1) st.StartRecord (strip_bom bytes))
