-- A name's bytes at the front of zeros.
use Rattle.std.proofs.Common.{arith, ℕ, ◌≡◌, ◌≤◌, ◌++◌, ◌-◌, true, false, Bool, cond, Some, None, IfOk, IsOk, IsTrue, ◌↔◌, refl, List, length, drop, replicate, sym, ap, subst, ◌∙◌, length-append}
use Rattle.std.specs.Option.{ok_or}
use Rattle.std.proofs.lemmas.List.{drop-replicate, length-replicate}
use Rattle.std.proofs.lemmas.Bool.Decides.{nat_tests}
use Rattle.std.proofs.Math.Seq.{take-append_seam, drop-append_seam}
use Rattle.agv_header.specs.Name.{is_name, IsName}
use Rattle.agv_header.specs.Padded.{IsPadded}

-- a name copied to the front of 32 zeros is kept as a name is
pub padded_front : (s front zeros : List ℕ) → is_name s ≡ true → front ≡ s → zeros ≡ replicate 32 0
    → IsPadded (record { bytes = front ++ drop (length s) zeros; len = length s })
padded_front s front zeros name same blank =
    let P : List ℕ → Type 0 = λ l. IsPadded (record { bytes = l ++ drop (length s) zeros; len = length s }) in
    let fits : length s ≤ 32 = grind (arith, nat_tests) in
    let tail : drop (length s) zeros ≡ replicate {A = ℕ} (32 - length s) 0 = ap (drop (length s)) blank ∙ drop-replicate (length s) 32 0 in
    let size : length (drop (length s) zeros) ≡ 32 - length s = ap length tail ∙ length-replicate (32 - length s) 0 in
    let all : length (s ++ drop (length s) zeros) ≡ 32 = omega (arith, length-append s (drop (length s) zeros)) in
    subst P (sym same) (fits, all, drop-append_seam s _ ∙ tail, subst IsName (sym (take-append_seam s (drop (length s) zeros))) name)

-- a text is read as the name that its bytes spell, exactly if they spell one
pub read_as_name : {E : Type 0} (s : List ℕ) (none : E) (b : Bool) → IfOk (ok_or (cond b (Some s) None) none) (λ name. name ≡ s) × (IsOk (ok_or (cond b (Some s) None) none) ↔ IsTrue b)
read_as_name s none true = (refl, (λ _. refl, λ _. refl))
read_as_name s none false = (tt, (λ ok. ok, λ name. name))
