-- What was appended changes places.
use Rattle.std.proofs.Common.{◌≡◌, ◌≤◌, ℕ, ◌+◌, ◌-◌, List, [], ◌++◌, length, take, drop, Result, Ok, Err, IsErr, Vec, Global, vec_len, vec_capacity, sym, ap, ap₂, ◌∙◌, subst, arith, length-append, length-drop}
use Rattle.std.specs.Vec.{with_items}
use Rattle.std.proofs.lemmas.List.{take_all, drop_all, append-nil, length-take-le, with_items_is}
use Rattle.std.proofs.Math.Seq.{take-append_seam, drop-append_seam}
use borrow.Rule.Slice.PartMut.{post_of}
use Rattle.agv_header.specs.declared.memory.Memory.{Memory}
use Rattle.agv_message_json.specs.Appending.{Appended}
use Rattle.agv_message_json.proofs.Appending.{appended_whole, joined, len_so_far, refused_then}
use Rattle.agv_face_http.specs.answers.Given.{turned}

turned_length : (s : List ℕ) (a len : ℕ) → a + len ≤ length s → length (turned a len s) ≡ length s
turned_length s a len within =
    let rest : length (drop a s) ≡ length s - a = length-drop a s in
    let fits : len ≤ length (drop a s) = omega arith in
    omega (
      arith,
      length-append (take a s) (drop len (drop a s) ++ take len (drop a s)),
      length-append (drop len (drop a s)) (take len (drop a s)),
      length-take-le a s (omega arith),
      length-drop len (drop a s),
      length-take-le len (drop a s) fits,
    )

-- after a slice's end was turned
pub turned_items : (v : Vec ℕ Global) (ys : List ℕ) (a len : ℕ) → a + len ≤ length v.items
    → ys ≡ drop len (take (length v.items - a) (drop a v.items)) ++ take len (take (length v.items - a) (drop a v.items))
    → (with_items v (take a v.items ++ (ys ++ post_of a (length v.items - a) v.items))).items ≡ turned a len v.items
turned_items v ys a len within is =
    let s : List ℕ = v.items in
    let rest : length (drop a v.items) ≡ length v.items - a = length-drop a v.items in
    let all : take (length v.items - a) (drop a v.items) ≡ drop a v.items = take_all (length v.items - a) (drop a v.items) (omega arith) in
    let none : post_of a (length v.items - a) v.items ≡ [] = drop_all (length v.items - a) (drop a v.items) (omega arith) in
    let part : ys ≡ drop len (drop a v.items) ++ take len (drop a v.items) = is ∙ ap (λ (l : List ℕ). drop len l ++ take len l) all in
    let whole : take a v.items ++ (ys ++ post_of a (length v.items - a) v.items) ≡ turned a len v.items =
    ap (λ (l : List ℕ). take a v.items ++ l) (ap₂ ◌++◌ part none ∙ append-nil _) in
    let same : length (take a v.items ++ (ys ++ post_of a (length v.items - a) v.items)) ≡ v.len =
    ap length whole ∙ turned_length v.items a len within ∙ sym v.ok.0 in
    with_items_is v _ same ∙ whole

-- two texts that were appended, turned
pub turned_texts : (x b h s : List ℕ) (start len : ℕ) → s ≡ x ++ (b ++ h) → start ≡ length x → len ≡ length b → turned start len s ≡ x ++ (h ++ b)
turned_texts x b h s start len is from many =
    let rest : drop start s ≡ b ++ h = ap₂ drop from is ∙ drop-append_seam x (b ++ h) in
    let front : take start s ≡ x = ap₂ take from is ∙ take-append_seam x (b ++ h) in
    let second : drop len (drop start s) ≡ h = ap₂ drop many rest ∙ drop-append_seam b h in
    let first : take len (drop start s) ≡ b = ap₂ take many rest ∙ take-append_seam b h in
    ap₂ ◌++◌ front (ap₂ ◌++◌ second first)

-- the same, of a slice that is the vector's
pub turned_slice : (v : Vec ℕ Global) (s ys : List ℕ) (a len : ℕ) → s ≡ v.items → a + len ≤ vec_len v
    → ys ≡ drop len (take (length s - a) (drop a s)) ++ take len (take (length s - a) (drop a s))
    → (with_items v (take a s ++ (ys ++ post_of a (length s - a) s))).items ≡ turned a len v.items
turned_slice v s ys a len same within is =
    let inside : a + len ≤ length v.items = omega (arith, v.ok.0) in
    subst (λ (l : List ℕ). ys ≡ drop len (take (length l - a) (drop a l)) ++ take len (take (length l - a) (drop a l)) → (with_items v (take a l ++ (ys ++ post_of a (length l - a) l))).items ≡ turned a len v.items)
    (sym same) (turned_items v ys a len inside) is

-- how long it is after two texts
pub len_of_two : (v0 v1 v2 : Vec ℕ Global) (a b : List ℕ) → v1.items ≡ v0.items ++ a → v2.items ≡ v1.items ++ b
    → (vec_len v1 ≡ vec_len v0 + length a) × (vec_len v2 ≡ vec_len v0 + length a + length b)
len_of_two v0 v1 v2 a b first second =
    let one = len_so_far v0 v1 a first in
    (one, len_so_far v1 v2 b second ∙ ap (λ (n : ℕ). n + length b) one)

-- two texts, of which the second says how long the first is, changed places
pub two_turned : (u w : Unit {0}) (v0 v1 v2 v3 : Vec ℕ Global) (a : List ℕ) (b : ℕ → List ℕ) (start len : ℕ)
    → start ≡ vec_len v0 → len ≡ vec_len v1 - start
    → Appended (Ok u) v0 v1 a → Appended (Ok w) v1 v2 (b len)
    → v3.items ≡ turned start len v2.items → vec_capacity v3 ≡ vec_capacity v2
    → Appended (Ok u) v0 v3 (b (length a) ++ a)
two_turned u w v0 v1 v2 v3 a b start len from many first second items capacity =
    let lens = len_of_two v0 v1 v2 a (b len) first.whole second.whole in
    let size : len ≡ length a = omega (arith, lens.0) in
    let all : v2.items ≡ v0.items ++ (a ++ b len) = joined v0.items v1.items v2.items a (b len) first.whole second.whole in
    let turned_all : v3.items ≡ v0.items ++ (b len ++ a) = items ∙ turned_texts v0.items a (b len) v2.items start len all (from ∙ v0.ok.0) size in
    let grown : vec_capacity v0 ≤ vec_capacity v3 = omega (arith, first.grown, second.grown) in
    appended_whole u v0 v3 (b (length a) ++ a) (turned_all ∙ ap (λ (n : ℕ). v0.items ++ (b n ++ a)) size) grown

-- two texts, of which the second says how long the first is: the second was refused
pub second_unturned : (e : Memory) (u : Unit {0}) (r : Result (Unit {0}) Memory) (v0 v1 v2 : Vec ℕ Global) (a : List ℕ) (b : ℕ → List ℕ) (start len : ℕ)
    → IsErr r → start ≡ vec_len v0 → len ≡ vec_len v1 - start
    → Appended (Ok u) v0 v1 a → Appended (Err e) v1 v2 (b len) → Appended r v0 v2 (b (length a) ++ a)
second_unturned e u r v0 v1 v2 a b start len fails from many first h =
    let one = len_so_far v0 v1 a first.whole in
    let size : len ≡ length a = omega (arith, one) in
    let same : length (b len) ≡ length (b (length a)) = ap (λ (n : ℕ). length (b n)) size in
    let within : length a + length (b len) ≤ length (b (length a) ++ a) = omega (arith, length-append (b (length a)) a) in
    refused_then e r v0 v1 v2 a (b len) (b (length a) ++ a) fails (first.whole, first.grown) h within
