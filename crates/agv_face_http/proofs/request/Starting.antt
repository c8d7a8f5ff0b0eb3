-- An input begins with one thing.
use Rattle.std.proofs.Common.{◌≡◌, ℕ, List, ◌++◌, take, drop, take-append-drop, refl, sym, ap, ap₂, ◌∙◌, append_assoc, Bool}
use Rattle.agv_face_http.specs.request.Heard.{IsHeard, Follows}
use Rattle.agv_face_http.specs.request.Starts.{Start, a_request, a_fault, nothing, StartsWith, Tells}
use Rattle.agv_face_http.specs.declared.request.heard.Heard.{Heard}
use Rattle.agv_face_http.specs.declared.request.heard.Heard.TheVariants as heard
use Rattle.agv_face_http.proofs.request.Cuts.{one_request, not_empty, no_fault, one_fault, fault_has_bytes}

pub one_start : (input : List ℕ) (one other : Start) → StartsWith input one → StartsWith input other → one ≡ other
one_start input (a_request p x) (a_request q y) a b = let same = one_request p q a.0 b.0 x y (sym a.1 ∙ b.1) a.2 b.2 in ap₂ a_request same.1 same.0
one_start input (a_request p x) (a_fault f) a b = absurd (no_fault input p a.0 x f a.1 a.2 b)
one_start input (a_request p x) nothing a b = absurd (not_empty input p a.0 x a.1 a.2 b)
one_start input (a_fault f) (a_request q y) a b = absurd (no_fault input q b.0 y f b.1 b.2 a)
one_start input (a_fault f) (a_fault g) a b = ap a_fault (one_fault input f g a b)
one_start input (a_fault f) nothing a b = absurd (fault_has_bytes input f a b)
one_start input nothing (a_request q y) a b = absurd (not_empty input q b.0 y b.1 b.2 a)
one_start input nothing (a_fault g) a b = absurd (fault_has_bytes input g b a)
one_start input nothing nothing a b = refl

pub told_start : (buf more : List ℕ) (ended : Bool) (told : Heard) → IsHeard buf ended told → Follows ended more → (told ≡ heard.Need → ⊥) → (start : Start) × StartsWith (buf ++ more) start × Tells buf told start
told_start buf more ended heard.Need is follows heard_some = absurd (heard_some refl)
told_start buf more ended heard.End is follows heard_some = (nothing, ap₂ ◌++◌ is.1 (follows is.0), refl)
told_start buf more ended (heard.Fault fault) is follows heard_some = (a_fault fault, is more follows, refl)
told_start buf more ended (heard.Request lent) is follows heard_some =
    let part : buf ≡ take lent.len buf ++ drop lent.len buf = sym (take-append-drop lent.len buf) in
    (a_request (take lent.len buf) is.2, (drop lent.len buf ++ more, ap (λ (l : List ℕ). l ++ more) part ∙ append_assoc (take lent.len buf) (drop lent.len buf) more, is.3), (is.2, refl, is.4))
