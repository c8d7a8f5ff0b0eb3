-- Records read one after another are all the records of a text.
use Rattle.std.proofs.Common.{arith, ℕ, zero, suc, ◌≡◌, ◌+◌, ◌<◌, Bool, true, false, cond, List, [], ◌∷◌, ◌++◌, length, Option, Some, None, refl, sym, ap, ◌∙◌, ◌==◌, ◌||◌}
use Rattle.std.proofs.lemmas.List.{append-nil}
use Rattle.csv.specs.Machine.{Read, ends_at_end, is_end, next_record, step}
use Rattle.csv.specs.Reading.{Reached, default_config, records, records_from, records_next}
use Rattle.csv.specs.declared.parser.Action.{Action}
use Rattle.csv.specs.declared.parser.Action.TheVariants as act
use Rattle.csv.specs.declared.parser.State.{State}
use Rattle.csv.specs.declared.parser.State.TheVariants as st

-- a record that has just ended is not ended again by the end of the text
abbrev Rests : State × Action → Type 0
Rests q = is_end q.1 ≡ true → ends_at_end q.0 ≡ false

-- a byte outside quotes, by whether it ends the field, ends the record, and is a carriage return
in_field-rests : (p q r : Bool) → Rests (cond p (st.StartField, act.EndField) (cond q (cond r st.AfterCr st.StartRecord, act.EndRecord) (st.InField, act.Copy)))
in_field-rests true q r e = cc e
in_field-rests false true true e = refl
in_field-rests false true false e = refl
in_field-rests false false r e = cc e

cond-rests : (b : Bool) (q r : State × Action) → Rests q → Rests r → Rests (cond b q r)
cond-rests true q r h k = h
cond-rests false q r h k = k

skip-rests : (s : State) → Rests (s, act.Skip)
skip-rests s e = cc e

copy-rests : (s : State) → Rests (s, act.Copy)
copy-rests s e = cc e

plain-rests : (c : ℕ) → Rests (step default_config st.InField c)
plain-rests c = in_field-rests (c == 44) ((c == 13) || (c == 10)) (c == 13)

start-rests : (c : ℕ) → Rests (step default_config st.StartField c)
start-rests c = cond-rests (c == 34) _ _ (skip-rests st.InQuoted) (plain-rests c)

record-rests : (c : ℕ) → Rests (step default_config st.StartRecord c)
record-rests c = cond-rests ((c == 13) || (c == 10)) _ _ (skip-rests st.StartRecord) (start-rests c)

step-rests : (s : State) (c : ℕ) → Rests (step default_config s c)
step-rests st.StartRecord c = record-rests c
step-rests st.StartField c = start-rests c
step-rests st.InField c = plain-rests c
step-rests st.InQuoted c = cond-rests (c == 34) _ _ (skip-rests st.AfterQuote) (copy-rests st.InQuoted)
step-rests st.AfterQuote c = cond-rests (c == 34) _ _ (copy-rests st.InQuoted) (plain-rests c)
step-rests st.InEscape c = copy-rests st.InQuoted
step-rests st.InComment c = cond-rests (c == 10) _ _ (skip-rests st.StartRecord) (skip-rests st.InComment)
step-rests st.AfterCr c = cond-rests (c == 10) _ _ (skip-rests st.StartRecord) (record-rests c)

-- one more where the end of the text ends a record
abbrev one_if : Bool → ℕ
one_if b = cond b 1 0

-- a record that was read took a byte, or ended at the end of the text
abbrev Shortens : State → List ℕ → Read → Type 0
Shortens s xs p = (ends_at_end p.1 ≡ false) × (length p.2 < length xs + one_if (ends_at_end s))

shortens-end : (s : State) (fields : List (List ℕ)) (b : Bool) (p : Read) → ends_at_end s ≡ b
    → cond b (Some (fields, st.StartRecord, [])) None ≡ Some p → Shortens s [] p
shortens-end s fields true p e h =
    let same : (fields, st.StartRecord, []) ≡ p = cc h in
    rw (← same, e) (refl, omega arith)
shortens-end s fields false p e h = cc h

shortens-step : (s : State) (c : ℕ) (rest : List ℕ) (fields : List (List ℕ)) (b : Bool) (p : Read) (more : Option Read)
    → is_end (step default_config s c).1 ≡ b → cond b (Some (fields, (step default_config s c).0, rest)) more ≡ Some p
    → (more ≡ Some p → Shortens (step default_config s c).0 rest p) → Shortens s (c ∷ rest) p
shortens-step s c rest fields true p more e h by_rest =
    let same : (fields, (step default_config s c).0, rest) ≡ p = cc h in
    rw (← same) (step-rests s c e, omega arith)
shortens-step s c rest fields false p more e h by_rest =
    let shorter = by_rest h in
    (shorter.0, at_most (ends_at_end (step default_config s c).0) shorter.1)
  where
    at_most : (b : Bool) → length p.2 < length rest + one_if b → length p.2 < length (c ∷ rest) + one_if (ends_at_end s)
    at_most true k = omega arith
    at_most false k = omega arith

shortens : (s : State) (fields : List (List ℕ)) (field xs : List ℕ) (p : Read) → next_record default_config s fields field xs ≡ Some p → Shortens s xs p
unfolding next_record
shortens s fields field [] p h = shortens-end s _ (ends_at_end s) p refl h
shortens s fields field (c ∷ rest) p h = shortens-step s c rest _ (is_end (step default_config s c).1) p _ refl h (shortens (step default_config s c).0 _ _ rest p)

-- where a text stands after some of its records: the number of turns that are left, and the records from there
abbrev Goes : ℕ → State → List ℕ → List (List (List ℕ)) → State → List ℕ → Type 0
Goes n s xs rows s2 ys =
    (m : ℕ) × (length ys < m) × (ends_at_end s2 ≡ false) × (records_from default_config n s xs ≡ rows ++ records_from default_config m s2 ys)

pub goes : (rows : List (List (List ℕ))) (n : ℕ) (s s2 : State) (xs ys : List ℕ) → ends_at_end s ≡ false → length xs < n → Reached default_config s xs rows s2 ys
    → Goes n s xs rows s2 ys
unfolding Reached records_from
goes [] n s s2 xs ys rests turns h = rw (← h.0, ← h.1) (n, turns, rests, refl)
goes (r ∷ rs) zero s s2 xs ys rests turns h = absurd (omega arith)
goes (r ∷ rs) (suc n) s s2 xs ys rests turns h =
    let (p, next, row, after) = h in
    let short = shortens s [] [] xs p next in
    let fewer = rw rests at short.1 in
    let (m, left, ends, all) = goes rs n p.1 s2 p.2 ys short.0 (omega arith) after in
    (m, left, ends, ap (records_next (records_from default_config n)) next ∙ ap (λ (l : List (List (List ℕ))). p.0 ∷ l) all ∙ ap (λ (f : List (List ℕ)). f ∷ (rs ++ records_from default_config m s2 ys)) (sym row))

at_end : (m : ℕ) (s : State) (ys : List ℕ) → length ys < m → next_record default_config s [] [] ys ≡ None → records_from default_config m s ys ≡ []
unfolding records_from
at_end zero s ys turns none = absurd (omega arith)
at_end (suc m) s ys turns none = ap (records_next (records_from default_config m)) none

at_record : (m : ℕ) (s : State) (ys : List ℕ) (p : Read) → length ys < m → next_record default_config s [] [] ys ≡ Some p
    → (rest : List (List (List ℕ))) × (records_from default_config m s ys ≡ p.0 ∷ rest)
unfolding records_from
at_record zero s ys p turns some = absurd (omega arith)
at_record (suc m) s ys p turns some = (records_from default_config m p.1 p.2, ap (records_next (records_from default_config m)) some)

-- the records that were read to the end of the text are all that it has
pub all_records : (rows : List (List (List ℕ))) (s2 : State) (xs ys : List ℕ) → Reached default_config st.StartRecord xs rows s2 ys → next_record default_config s2 [] [] ys ≡ None
    → records default_config xs ≡ rows
all_records rows s2 xs ys h none =
    let (m, left, ends, all) = goes rows (length xs + 1) st.StartRecord s2 xs ys refl (omega arith) h in
    all ∙ ap (λ (l : List (List (List ℕ))). rows ++ l) (at_end m s2 ys left none) ∙ append-nil rows

-- the records that were read, the next one, and others after it
pub next_of_records : (rows : List (List (List ℕ))) (s2 : State) (xs ys : List ℕ) (p : Read) → Reached default_config st.StartRecord xs rows s2 ys → next_record default_config s2 [] [] ys ≡ Some p
    → (rest : List (List (List ℕ))) × (records default_config xs ≡ rows ++ (p.0 ∷ rest))
next_of_records rows s2 xs ys p h some =
    let (m, left, ends, all) = goes rows (length xs + 1) st.StartRecord s2 xs ys refl (omega arith) h in
    let (rest, more) = at_record m s2 ys p left some in
    (rest, all ∙ ap (λ (l : List (List (List ℕ))). rows ++ l) more)
