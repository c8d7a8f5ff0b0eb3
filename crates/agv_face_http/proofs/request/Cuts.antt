-- An input is cut in one way.
use Rattle.std.proofs.Common.{◌≡◌, ◌<◌, ◌+◌, ℕ, List, [], ◌∷◌, ◌++◌, true, false, Bool, length, take, drop, take-append-drop, Result, Ok, Err, refl, sym, ap, ap₂, ◌∙◌, subst, arith, inl, inr, append_assoc, append-nil, length-append}
use Rattle.std.proofs.lemmas.List.{append_cancel_left}
use Rattle.std.proofs.Math.Seq.{take-append_seam}
use Rattle.httparse.specs.Grammar.{RequestHead, print_request}
use Rattle.httparse.proofs.GrammarLemmas.{request_unique}
use Rattle.agv_header.specs.declared.refusal.Refusal.{Refusal}
use Rattle.agv_header.specs.declared.refusal.Refusal.TheVariants as refusal
use Rattle.agv_face_http.specs.request.Requests.{Request, BeginsWith, IsRequest, IsFault, request_of, lines_of, body_length, is_last, NeedsMore}
use Rattle.agv_face_http.specs.request.Cut.{Cut, Ending, at_end, closed, faulty, no_more, a_fault, the_last, one_more}

-- ---- heads

-- a request, and whatever follows it
followed : (part rest : List ℕ) (head : RequestHead) (body : List ℕ) → BeginsWith part head body → BeginsWith (part ++ rest) head (body ++ rest)
followed part rest head body begins = record {
  reads = (begins.reads.0, ap (λ (l : List ℕ). l ++ rest) begins.reads.1 ∙ append_assoc (print_request head) body rest);
  short = begins.short;
  few = begins.few;
}

one_head : (bytes : List ℕ) (h k : RequestHead) (r q : List ℕ) → BeginsWith bytes h r → BeginsWith bytes k q → (h ≡ k) × (r ≡ q)
one_head bytes h k r q one other = request_unique bytes h k r q one.reads other.reads

-- a head has bytes
some_head : (bytes : List ℕ) (h : RequestHead) (rest : List ℕ) → BeginsWith bytes h rest → 0 < length bytes
unfolding print_request
some_head bytes h rest begins =
    let some : 0 < length h.method = begins.reads.0.method.0 in
    let parts = simp length-append at (ap length begins.reads.1) in
    omega arith

length_of : RequestHead → Result ℕ Refusal
length_of h = body_length h.method (lines_of h)

-- ---- one request at the front

-- two lists of one length at the front of a list are one
same_fronts : (a b r q : List ℕ) → a ++ r ≡ b ++ q → length a ≡ length b → (a ≡ b) × (r ≡ q)
same_fronts a b r q e n =
    let front : a ≡ b = sym (take-append_seam a r) ∙ ap₂ take n e ∙ take-append_seam b q in
    (front, append_cancel_left b r q (ap (λ (l : List ℕ). l ++ r) (sym front) ∙ e))

same_ok : (a b : ℕ) → ◌≡◌ {A = Result ℕ Refusal} (Ok a) (Ok b) → a ≡ b
same_ok a b e = cc

same_err : (f g : Refusal) → ◌≡◌ {A = Result ℕ Refusal} (Err f) (Err g) → f ≡ g
same_err f g e = cc

not_both : (n : ℕ) (f : Refusal) → ◌≡◌ {A = Result ℕ Refusal} (Ok n) (Err f) → ⊥
not_both n f e = cc

said_of : (h k : RequestHead) → h ≡ k → (a b : Result ℕ Refusal) → body_length h.method (lines_of h) ≡ a → body_length k.method (lines_of k) ≡ b → a ≡ b
said_of h k same a b p q = sym p ∙ ap (λ (x : RequestHead). body_length x.method (lines_of x)) same ∙ q

pub one_request : (p q r s : List ℕ) (x y : Request) → p ++ r ≡ q ++ s → IsRequest p x → IsRequest q y → (x ≡ y) × (p ≡ q) × (r ≡ s)
one_request p q r s x y e one other =
    let P : List ℕ → Type 0 = λ l. BeginsWith l other.0 (other.1 ++ s) in
    let heads = one_head (p ++ r) one.0 other.0 (one.1 ++ r) (other.1 ++ s) (followed p r one.0 one.1 one.2) (subst P (sym e) (followed q s other.0 other.1 other.2)) in
    let sizes = same_ok _ _ (said_of one.0 other.0 heads.0 _ _ one.3 other.3) in
    let bodies = same_fronts one.1 other.1 r s heads.1 sizes in
    let parts : p ≡ q = one.2.reads.1 ∙ ap₂ (λ (h : RequestHead) (l : List ℕ). print_request h ++ l) heads.0 bodies.0 ∙ sym other.2.reads.1 in
    (one.4 ∙ ap₂ request_of heads.0 bodies.0 ∙ sym other.4, parts, bodies.1)

-- what begins with a request has bytes, and is no fault
pub not_empty : (bytes p r : List ℕ) (x : Request) → bytes ≡ p ++ r → IsRequest p x → bytes ≡ [] → ⊥
not_empty bytes p r x is one nil =
    let some : 0 < length p = some_head p one.0 one.1 one.2 in
    let none : length p + length r ≡ 0 = sym (length-append p r) ∙ ap length (sym is ∙ nil) in
    omega arith

pub no_fault : (bytes p r : List ℕ) (x : Request) (f : Refusal) → bytes ≡ p ++ r → IsRequest p x → IsFault bytes f → ⊥
no_fault bytes p r x f is one fault =
    let P : List ℕ → Type 0 = λ l. BeginsWith l one.0 (one.1 ++ r) in
    let here : BeginsWith bytes one.0 (one.1 ++ r) = subst P (sym is) (followed p r one.0 one.1 one.2) in
    elim fault [
      | inl none ↦ none.1 one.0 (one.1 ++ r) here
      | inr (inl refused) ↦ let heads = one_head bytes one.0 refused.0 (one.1 ++ r) refused.1 here refused.2 in not_both _ f (said_of one.0 refused.0 heads.0 _ _ one.3 refused.3)
      | inr (inr cut) ↦
          let heads = one_head bytes one.0 cut.0 (one.1 ++ r) cut.1 here cut.3 in
          let size : length one.1 ≡ cut.2 = same_ok _ _ (said_of one.0 cut.0 heads.0 _ _ one.3 cut.4) in
          let rest : length one.1 + length r ≡ length cut.1 = sym (length-append one.1 r) ∙ ap length heads.1 in
          let short : length cut.1 < cut.2 = cut.5 in
          omega arith
    ]

-- ---- bytes that need more

-- they begin with no whole request
pub waits_for_no_request : (bytes part rest : List ℕ) (x : Request) → NeedsMore bytes → bytes ≡ part ++ rest → IsRequest part x → ⊥
waits_for_no_request bytes part rest x (inl nil) is one = not_empty bytes part rest x is one nil
waits_for_no_request bytes part rest x (inr (inl partial)) is one =
    let P : List ℕ → Type 0 = λ l. BeginsWith l one.0 (one.1 ++ rest) in
    let here = subst P (sym is) (followed part rest one.0 one.1 one.2) in
    partial.0 one.0 (one.1 ++ rest) here.reads
waits_for_no_request bytes part rest x (inr (inr lacking)) is one =
    no_fault bytes part rest x refusal.BadHead is one (inr (inr (lacking.0, lacking.1, lacking.2, lacking.3, lacking.4, lacking.5, refl)))

-- nor with a head whose length is refused
pub waits_for_no_refusal : (bytes : List ℕ) (head : RequestHead) (rest : List ℕ) (f : Refusal) → NeedsMore bytes → BeginsWith bytes head rest → body_length head.method (lines_of head) ≡ Err f → ⊥
waits_for_no_refusal bytes head rest f (inl nil) begins refused =
    let some : 0 < length bytes = some_head bytes head rest begins in
    let none : length bytes ≡ 0 = ap length nil in
    omega arith
waits_for_no_refusal bytes head rest f (inr (inl partial)) begins refused = partial.0 head rest begins.reads
waits_for_no_refusal bytes head rest f (inr (inr lacking)) begins refused =
    let heads = one_head bytes lacking.0 head lacking.1 rest lacking.3 begins in
    not_both lacking.2 f (said_of lacking.0 head heads.0 _ _ lacking.4 refused)

-- ---- one fault

pub fault_has_bytes : (bytes : List ℕ) (f : Refusal) → IsFault bytes f → bytes ≡ [] → ⊥
fault_has_bytes bytes f fault nil =
    let none : length bytes ≡ 0 = ap length nil in
    elim fault [
      | inl headless ↦ let some : 0 < length bytes = headless.0 in omega arith
      | inr (inl refused) ↦ let some : 0 < length bytes = some_head bytes refused.0 refused.1 refused.2 in omega arith
      | inr (inr cut) ↦ let some : 0 < length bytes = some_head bytes cut.0 cut.1 cut.3 in omega arith
    ]

pub one_fault : (bytes : List ℕ) (f g : Refusal) → IsFault bytes f → IsFault bytes g → f ≡ g
one_fault bytes f g (inl a) (inl b) = a.2 ∙ sym b.2
one_fault bytes f g (inl a) (inr (inl b)) = absurd (a.1 b.0 b.1 b.2)
one_fault bytes f g (inl a) (inr (inr b)) = absurd (a.1 b.0 b.1 b.3)
one_fault bytes f g (inr (inl a)) (inl b) = absurd (b.1 a.0 a.1 a.2)
one_fault bytes f g (inr (inl a)) (inr (inl b)) = let heads = one_head bytes a.0 b.0 a.1 b.1 a.2 b.2 in same_err f g (said_of a.0 b.0 heads.0 _ _ a.3 b.3)
one_fault bytes f g (inr (inl a)) (inr (inr b)) = let heads = one_head bytes b.0 a.0 b.1 a.1 b.3 a.2 in absurd (not_both _ f (said_of b.0 a.0 heads.0 _ _ b.4 a.3))
one_fault bytes f g (inr (inr a)) (inl b) = absurd (b.1 a.0 a.1 a.3)
one_fault bytes f g (inr (inr a)) (inr (inl b)) = let heads = one_head bytes a.0 b.0 a.1 b.1 a.3 b.2 in absurd (not_both _ g (said_of a.0 b.0 heads.0 _ _ a.4 b.3))
one_fault bytes f g (inr (inr a)) (inr (inr b)) = a.6 ∙ sym b.6

-- ---- one cut

pub last_and_not : (x y : Request) → x ≡ y → is_last x ≡ true → is_last y ≡ false → ⊥
last_and_not x y same last more = let both = sym last ∙ ap is_last same ∙ more in absurd (cc)

pub one_cut : (bytes : List ℕ) (xs ys : List Request) (e d : Ending) → Cut bytes xs e → Cut bytes ys d → (xs ≡ ys) × (e ≡ d)
one_cut bytes xs ys e d (no_more _ nil) (no_more _ _) = (refl, refl)
one_cut bytes xs ys e d (no_more _ nil) (a_fault _ g fault) = absurd (fault_has_bytes bytes g fault nil)
one_cut bytes xs ys e d (no_more _ nil) (the_last _ q s y is other l) = absurd (not_empty bytes q s y is other nil)
one_cut bytes xs ys e d (no_more _ nil) (one_more _ q s y zs c is other l more) = absurd (not_empty bytes q s y is other nil)
one_cut bytes xs ys e d (a_fault _ f fault) (no_more _ nil) = absurd (fault_has_bytes bytes f fault nil)
one_cut bytes xs ys e d (a_fault _ f fault) (a_fault _ g other) = (refl, ap faulty (one_fault bytes f g fault other))
one_cut bytes xs ys e d (a_fault _ f fault) (the_last _ q s y is other l) = absurd (no_fault bytes q s y f is other fault)
one_cut bytes xs ys e d (a_fault _ f fault) (one_more _ q s y zs c is other l more) = absurd (no_fault bytes q s y f is other fault)
one_cut bytes xs ys e d (the_last _ p r x is one last) (no_more _ nil) = absurd (not_empty bytes p r x is one nil)
one_cut bytes xs ys e d (the_last _ p r x is one last) (a_fault _ g fault) = absurd (no_fault bytes p r x g is one fault)
one_cut bytes xs ys e d (the_last _ p r x is one last) (the_last _ q s y is' other last') =
    let same = one_request p q r s x y (sym is ∙ is') one other in (ap (λ (z : Request). z ∷ []) same.0, refl)
one_cut bytes xs ys e d (the_last _ p r x is one last) (one_more _ q s y zs c is' other more rest) =
    let same = one_request p q r s x y (sym is ∙ is') one other in absurd (last_and_not x y same.0 last more)
one_cut bytes xs ys e d (one_more _ p r x ws b is one more rest) (no_more _ nil) = absurd (not_empty bytes p r x is one nil)
one_cut bytes xs ys e d (one_more _ p r x ws b is one more rest) (a_fault _ g fault) = absurd (no_fault bytes p r x g is one fault)
one_cut bytes xs ys e d (one_more _ p r x ws b is one more rest) (the_last _ q s y is' other last) =
    let same = one_request p q r s x y (sym is ∙ is') one other in absurd (last_and_not y x (sym same.0) last more)
one_cut bytes xs ys e d (one_more _ p r x ws b is one more rest) (one_more _ q s y zs c is' other more' rest') =
    let same = one_request p q r s x y (sym is ∙ is') one other in
    let P : List ℕ → Type 0 = λ l. Cut l zs c in
    let later = one_cut r ws zs b c rest (subst P (sym same.2) rest') in
    (ap₂ ◌∷◌ same.0 later.0, later.1)

-- ---- a cut of every input

abbrev pub HasCut : List ℕ → Type 0
HasCut bytes = (requests : List Request) × (ending : Ending) × Cut bytes requests ending

cut_from : (bytes part rest : List ℕ) (x : Request) (last : Bool) → bytes ≡ part ++ rest → IsRequest part x → is_last x ≡ last → HasCut rest → HasCut bytes
cut_from bytes part rest x true is one ends cut = (x ∷ [], closed, the_last bytes part rest x is one ends)
cut_from bytes part rest x false is one goes cut = (x ∷ cut.0, cut.1, one_more bytes part rest x cut.0 cut.1 is one goes cut.2)

-- a request, and a cut of what follows it
pub cut_on : (bytes : List ℕ) (len : ℕ) (x : Request) → IsRequest (take len bytes) x → HasCut (drop len bytes) → HasCut bytes
cut_on bytes len x one cut = cut_from bytes (take len bytes) (drop len bytes) x (is_last x) (sym (take-append-drop len bytes)) one refl cut

-- no byte is left
pub cut_at_end : (bytes : List ℕ) → bytes ≡ [] → HasCut bytes
cut_at_end bytes nil = ([], at_end, no_more bytes nil)

-- what is left begins with no request
pub cut_at_fault : (bytes : List ℕ) (f : Refusal) → IsFault (bytes ++ []) f → HasCut bytes
cut_at_fault bytes f fault = let P : List ℕ → Type 0 = λ l. IsFault l f in ([], faulty f, a_fault bytes f (subst P (append-nil bytes) fault))
