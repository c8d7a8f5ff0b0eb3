-- Appending one text after another.
use Rattle.std.proofs.Common.{◌≡◌, ◌≤◌, ◌<◌, ℕ, ◌+◌, List, [], ◌∷◌, ◌++◌, length, take, get_or, Result, Ok, Err, Vec, Global, vec_len, vec_capacity, IsOk, IsErr, OnOk, refl, sym, ap, ◌∙◌, subst, arith, append_assoc, length-append}
use Rattle.std.specs.List.{flat_map}
use Rattle.std.proofs.lemmas.Grind.{flat_map-append}
use Rattle.std.proofs.lemmas.List.{append-nil, take_more}
use Rattle.agv_header.specs.declared.memory.Memory.{Memory}
use Rattle.agv_message_json.specs.Appending.{Appended, SoFar}

-- how long the buffer is then
pub len_so_far : (v0 v1 : Vec ℕ Global) (a : List ℕ) → v1.items ≡ v0.items ++ a → vec_len v1 ≡ vec_len v0 + length a
len_so_far v0 v1 a e = v1.ok.0 ∙ ap length e ∙ length-append v0.items a ∙ ap (λ (n : ℕ). n + length a) (sym v0.ok.0)

pub joined : (x y z a b : List ℕ) → y ≡ x ++ a → z ≡ y ++ b → z ≡ x ++ (a ++ b)
joined x y z a b first second = second ∙ ap (λ (l : List ℕ). l ++ b) first ∙ append_assoc x a b

joined_if : (r : Result (Unit {0}) Memory) (x y z a b : List ℕ) → y ≡ x ++ a → OnOk r (z ≡ y ++ b) → OnOk r (z ≡ x ++ (a ++ b))
joined_if (Ok u) x y z a b first second = joined x y z a b first second
joined_if (Err e) x y z a b first second = second

no_text : (r : Result (Unit {0}) Memory) (P : Type 0) → IsErr r → OnOk r P
no_text (Ok u) P h = absurd (cc)
no_text (Err e) P h = tt

not_ok : (e : Memory) → IsOk {T = Unit {0}} (Err e) → ⊥
not_ok e h = cc

-- a text after what was appended
pub appended_then : (r : Result (Unit {0}) Memory) (v0 v1 v2 : Vec ℕ Global) (a b : List ℕ) → SoFar v0 v1 a → Appended r v1 v2 b → Appended r v0 v2 (a ++ b)
appended_then r v0 v1 v2 a b before h =
    let len = len_so_far v0 v1 a before.0 in
    record {
      whole = joined_if r v0.items v1.items v2.items a b before.0 h.whole;
      part = (a ++ h.part.0, joined v0.items v1.items v2.items a h.part.0 before.0 h.part.1);
      fits = λ buffer. h.fits (omega (arith, length-append a b, len, before.1, buffer));
      grown = omega (arith, before.1, h.grown);
    }

-- all of it is there
pub so_far_then : (u : Unit {0}) (v0 v1 v2 : Vec ℕ Global) (a b : List ℕ) → SoFar v0 v1 a → Appended (Ok u) v1 v2 b → SoFar v0 v2 (a ++ b)
so_far_then u v0 v1 v2 a b before h =
    let all = appended_then (Ok u) v0 v1 v2 a b before h in (all.whole, all.grown)

-- a text that was refused, after what was appended
pub refused_then : (e : Memory) (r : Result (Unit {0}) Memory) (v0 v1 v2 : Vec ℕ Global) (a b text : List ℕ)
    → IsErr r → SoFar v0 v1 a → Appended (Err e) v1 v2 b → length a + length b ≤ length text → Appended r v0 v2 text
refused_then e r v0 v1 v2 a b text fails before h within =
    let all = appended_then (Err e) v0 v1 v2 a b before h in
    record {
      whole = no_text r _ fails;
      part = all.part;
      fits = λ buffer. absurd (not_ok e (all.fits (omega (arith, length-append a b, within, buffer))));
      grown = all.grown;
    }

-- nothing was appended yet
pub nothing_yet : (v : Vec ℕ Global) → SoFar v v []
nothing_yet v = (sym (append-nil v.items), omega arith)

-- the same text, said otherwise
pub same_text : (r : Result (Unit {0}) Memory) (v0 v1 : Vec ℕ Global) (a b : List ℕ) → a ≡ b → Appended r v0 v1 a → Appended r v0 v1 b
same_text r v0 v1 a b e h = subst (λ (text : List ℕ). Appended r v0 v1 text) e h

-- one text
pub so_far_first : (u : Unit {0}) (v0 v1 : Vec ℕ Global) (a : List ℕ) → Appended (Ok u) v0 v1 a → SoFar v0 v1 a
so_far_first u v0 v1 a h = (h.whole, h.grown)

front_within : (a rest text : List ℕ) → a ++ rest ≡ text → length a ≤ length text
front_within a rest text e = omega (arith, length-append a rest, ap length e)

-- two texts
pub two_texts : (u : Unit {0}) (r : Result (Unit {0}) Memory) (v0 v1 v2 : Vec ℕ Global) (a b text : List ℕ)
    → Appended (Ok u) v0 v1 a → Appended r v1 v2 b → a ++ b ≡ text → Appended r v0 v2 text
two_texts u r v0 v1 v2 a b text first second e =
    same_text r v0 v2 (a ++ b) text e (appended_then r v0 v1 v2 a b (so_far_first u v0 v1 a first) second)

-- three texts
pub three_texts : (u w : Unit {0}) (r : Result (Unit {0}) Memory) (v0 v1 v2 v3 : Vec ℕ Global) (a b c text : List ℕ)
    → Appended (Ok u) v0 v1 a → Appended (Ok w) v1 v2 b → Appended r v2 v3 c → a ++ (b ++ c) ≡ text → Appended r v0 v3 text
three_texts u w r v0 v1 v2 v3 a b c text first second third e =
    two_texts u r v0 v1 v3 a (b ++ c) text first (two_texts w r v1 v2 v3 b c (b ++ c) second third refl) e

-- the first text was refused
pub first_refused : (e : Memory) (r : Result (Unit {0}) Memory) (v0 v1 : Vec ℕ Global) (a rest text : List ℕ)
    → IsErr r → Appended (Err e) v0 v1 a → a ++ rest ≡ text → Appended r v0 v1 text
first_refused e r v0 v1 a rest text fails h whole =
    let within : length a ≤ length text = front_within a rest text whole in
    refused_then e r v0 v0 v1 [] a text fails (nothing_yet v0) h (omega arith)

-- the second text was refused
pub second_refused : (e : Memory) (u : Unit {0}) (r : Result (Unit {0}) Memory) (v0 v1 v2 : Vec ℕ Global) (a b rest text : List ℕ)
    → IsErr r → Appended (Ok u) v0 v1 a → Appended (Err e) v1 v2 b → a ++ (b ++ rest) ≡ text → Appended r v0 v2 text
second_refused e u r v0 v1 v2 a b rest text fails first h whole =
    let within : length a + length b ≤ length text = omega (arith, length-append a (b ++ rest), length-append b rest, ap length whole) in
    refused_then e r v0 v1 v2 a b text fails (so_far_first u v0 v1 a first) h within

-- the third text was refused
pub third_refused : (e : Memory) (u w : Unit {0}) (r : Result (Unit {0}) Memory) (v0 v1 v2 v3 : Vec ℕ Global) (a b c rest text : List ℕ)
    → IsErr r → Appended (Ok u) v0 v1 a → Appended (Ok w) v1 v2 b → Appended (Err e) v2 v3 c → a ++ (b ++ (c ++ rest)) ≡ text → Appended r v0 v3 text
third_refused e u w r v0 v1 v2 v3 a b c rest text fails first second h whole =
    second_refused e u r v0 v2 v3 (a ++ b) c rest text fails (two_texts u (Ok w) v0 v1 v2 a b (a ++ b) first second refl) h (append_assoc a b (c ++ rest) ∙ whole)

-- the text is there
pub appended_whole : (u : Unit {0}) (v0 v1 : Vec ℕ Global) (text : List ℕ) → v1.items ≡ v0.items ++ text → vec_capacity v0 ≤ vec_capacity v1 → Appended (Ok u) v0 v1 text
appended_whole u v0 v1 text e grown = record { whole = e; part = (text, e); fits = λ buffer. refl; grown = grown }

one_more : {A : Type 0} (text_of : A → List ℕ) (xs : List A) (i : ℕ) (x : A) → i < length xs → x ≡ get_or xs i x
    → flat_map text_of (take i xs) ++ text_of x ≡ flat_map text_of (take (i + 1) xs)
one_more {A} text_of xs i x below is =
    let last : text_of x ≡ flat_map text_of (x ∷ []) = sym (append-nil (text_of x)) in
    ap (λ (l : List ℕ). flat_map text_of (take i xs) ++ l) last
    ∙ sym (flat_map-append text_of (take i xs) (x ∷ []))
    ∙ ap (λ (y : A). flat_map text_of (take i xs ++ y ∷ [])) is
    ∙ ap (flat_map text_of) (sym (take_more xs i x below))

-- the text of one item more
pub so_far_more : {A : Type 0} (text_of : A → List ℕ) (xs : List A) (i : ℕ) (x : A) (u : Unit {0}) (v0 v1 v2 : Vec ℕ Global)
    → i < length xs → x ≡ get_or xs i x → SoFar v0 v1 (flat_map text_of (take i xs)) → Appended (Ok u) v1 v2 (text_of x) → SoFar v0 v2 (flat_map text_of (take (i + 1) xs))
so_far_more text_of xs i x u v0 v1 v2 below is before h =
    subst (λ (text : List ℕ). SoFar v0 v2 text) (one_more text_of xs i x below is) (so_far_then u v0 v1 v2 (flat_map text_of (take i xs)) (text_of x) before h)
