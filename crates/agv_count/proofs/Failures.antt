-- A read that fails for the text's sake: two of its records differ in length.
use Rattle.std.proofs.Common.{arith, ℕ, ◌≡◌, ◌≢◌, ◌==◌, Bool, true, false, cond, List, [], ◌∷◌, ◌++◌, length, Option, Some, None, IfSome, refl, sym, ap, ◌∙◌}
use Rattle.std.specs.List.{list_all}
use Rattle.std.proofs.lemmas.Bool.{and_parts}
use Rattle.std.proofs.lemmas.Bool.Decides.{nat_tests}
use Rattle.std.proofs.lemmas.List.Folds.{list_all-append}
use Rattle.csv.specs.Machine.{Read, next_record}
use Rattle.csv.specs.Reading.{ExplainsRead, NextIs, Reached, ReadsNext, default_config, expected_len, records, source_of, stops_reader}
use Rattle.csv.specs.declared.parser.Config.{Config}
use Rattle.csv.specs.declared.error.ErrorKind.{ErrorKind}
use Rattle.csv.specs.declared.error.ErrorKind.TheVariants as kind
use Rattle.csv.specs.declared.parser.State.{State}
use Rattle.csv.specs.declared.parser.State.TheVariants as st
use Rattle.csv.specs.declared.reader.Reader.{Reader}
use Rattle.agv_count.specs.declared.fault.CsvFault.TheVariants as fault
use Rattle.agv_count.specs.Records.{has_fields}
use Rattle.agv_count.proofs.AllRecords.{next_of_records}

-- the length that each record must have: that of the first, once there is one
abbrev pub first_length : List (List (List ℕ)) → Option ℕ
first_length [] = None
first_length (r ∷ rs) = Some (length r)

-- one more record
pub expected-more : (rows : List (List (List ℕ))) (f : List (List ℕ)) (old new : Option ℕ) → old ≡ first_length rows → IfSome old (λ e. new ≡ Some e) → new ≡ Some (length f)
    → new ≡ first_length (rows ++ (f ∷ []))
expected-more [] f old new h first more = more
expected-more (r ∷ rs) f old new h first more = rw h at first

same_length : (a b n : ℕ) → (a == n) ≡ true → (b == n) ≡ true → a ≡ b
same_length a b n h k = grind (arith, nat_tests)

-- two records of which one is not as long as the other
uneven : (rows rest : List (List (List ℕ))) (f : List (List ℕ)) (e n : ℕ) → first_length rows ≡ Some e → e ≢ length f
    → list_all (has_fields n) (rows ++ (f ∷ rest)) ≡ false
uneven [] rest f e n h apart = cc h
uneven (r ∷ rs) rest f e n h apart = by (list_all (has_fields n) (r ∷ (rs ++ (f ∷ rest)))) refl
  where
    by : (b : Bool) → list_all (has_fields n) (r ∷ (rs ++ (f ∷ rest))) ≡ b → list_all (has_fields n) (r ∷ (rs ++ (f ∷ rest))) ≡ false
    by false all = all
    by true all =
        let parts = and_parts (has_fields n r) (list_all (has_fields n) (rs ++ (f ∷ rest))) all in
        let tail = and_parts (list_all (has_fields n) rs) (list_all (has_fields n) (f ∷ rest)) (sym (list_all-append (has_fields n) rs (f ∷ rest)) ∙ parts.1) in
        let last = and_parts (has_fields n f) (list_all (has_fields n) rest) tail.1 in
        let first : length r ≡ e = cc h in
        absurd (apart (sym first ∙ same_length (length r) (length f) n parts.0 last.0))

found : (o : Option Read) (f : List (List ℕ)) (s : State) (y : List ℕ) → NextIs o true f s y → (p : Read) × (o ≡ Some p) × (f ≡ p.0)
found None f s y n = cc n
found (Some p) f s y n = (p, refl, n.1)

took_next : (cfg : Config) (a b : State) (y : List ℕ) (k : Option (List ℕ)) (f : List (List ℕ)) → ReadsNext cfg a (Some y) k true f b
    → (p : Read) × (next_record cfg a [] [] y ≡ Some p) × (f ≡ p.0)
took_next cfg a b y None f h = absurd h
took_next cfg a b y (Some z) f h = found _ f b z h

-- no length is that of all records of a text of which a read was refused
pub refused : {R : Type 0} (rem : R → Option (List ℕ)) (a b : Reader R) (why : ErrorKind) (rows : List (List (List ℕ))) (xs y : List ℕ)
    → stops_reader why ≡ false → ExplainsRead rem a b false why → a.config ≡ default_config → source_of rem a ≡ Some y → expected_len a ≡ first_length rows
    → Reached default_config st.StartRecord xs rows a.state y → (n : ℕ) → list_all (has_fields n) (records default_config xs) ≡ false
refused rem a b (kind.Io e) rows xs y goes h config source expects reached n = cc goes
refused rem a b kind.OutOfMemory rows xs y goes h config source expects reached n = cc goes
refused rem a b (kind.Utf8 pos err) rows xs y goes h config source expects reached n = cc h.0
refused rem a b (kind.Serialize text) rows xs y goes h config source expects reached n = absurd h
refused rem a b (kind.Deserialize pos err) rows xs y goes h config source expects reached n = absurd h
refused rem a b (kind.UnequalLengths pos expected len) rows xs y goes h config source expects reached n =
    let (strict, was, apart, fields, took, size) = h in
    let (p, next, same) = took_next default_config a.state b.state y _ fields (rw (config, source) at took) in
    let (rest, all) = next_of_records rows a.state xs y p reached next in
    rw all (uneven rows rest p.0 expected n (sym expects ∙ was) (λ e. apart (e ∙ ap length (sym same) ∙ size)))

-- an error that is the file's fault doesn't stop a reader
pub goes_on : (b : Bool) → fault.BadCsv ≡ cond b fault.Memory fault.BadCsv → b ≡ false
goes_on true h = cc h
goes_on false h = refl
