-- A head at the front of a buffer, and no head there, whatever bytes follow.
use Rattle.std.proofs.Common.{◌≡◌, ◌≤◌, ◌<◌, ℕ, ◌+◌, min, List, [], ◌∷◌, ◌++◌, true, length, take, drop, map, nat_eq, Bool, false, refl, sym, ap, ap₂, ◌∙◌, subst, arith, inl, inr, append_assoc, append-nil, take-append-drop, length-append, Ok, Err}
use Rattle.std.proofs.lemmas.List.{take-append-le, length-take, length-map, take_all}
use Rattle.std.proofs.Math.Seq.{take-append_seam, take-add}
use Rattle.std.proofs.lemmas.Bool.Decides.{nat_tests}
use Rattle.httparse.specs.Grammar.{RequestHead, ReadsRequest, print_request, HasNoRequest, MayBecomeRequest}
use Rattle.httparse.specs.Spans.{IsRequestAt, RequestOverflows, header_bytes, name_and_value, span_bytes}
use Rattle.httparse.specs.declared.spans.HeaderSpan.{HeaderSpan}
use Rattle.httparse.specs.declared.spans.RequestSpans.{RequestSpans}
use Rattle.agv_header.specs.declared.refusal.Refusal.{Refusal}
use Rattle.agv_header.specs.declared.refusal.Refusal.TheVariants as refusal
use Rattle.agv_face_http.specs.request.Requests.{BeginsWith, IsFault, NeedsMore, lines_of, body_length}

-- ---- no head

none_is_fault : (buf more : List ℕ) → 0 < length buf → ((head : RequestHead) (rest : List ℕ) → BeginsWith (buf ++ more) head rest → ⊥) → IsFault (buf ++ more) refusal.BadHead
none_is_fault buf more some none = let long : 0 < length (buf ++ more) = omega (arith, length-append buf more) in inl (long, none, refl)

-- all the bytes, as the front and what follows it
fronted : (buf front more : List ℕ) → front ≡ take 8192 buf → buf ++ more ≡ front ++ (drop 8192 buf ++ more)
fronted buf front more is =
    ap (λ (l : List ℕ). l ++ more) (sym (take-append-drop 8192 buf) ∙ ap (λ (l : List ℕ). l ++ drop 8192 buf) (sym is)) ∙ append_assoc front (drop 8192 buf) more

pub too_many_lines : (buf front more : List ℕ) → front ≡ take 8192 buf → 0 < length buf → RequestOverflows 32 front → IsFault (buf ++ more) refusal.BadHead
too_many_lines buf front more is some over =
    none_is_fault buf more some (λ head rest begins.
    let P : List ℕ → Type 0 = λ l. ReadsRequest l head rest in
    let many : 32 < length head.fields = over (drop 8192 buf ++ more) head rest (subst P (fronted buf front more is) begins.reads) in
    let few : length head.fields ≤ 32 = begins.few in
    absurd (omega arith))

-- a front that is no shorter than a part begins with it
begins_with : (a b c d : List ℕ) → a ++ b ≡ c ++ d → length c ≤ length a → a ≡ c ++ drop (length c) a
begins_with a b c d e fits =
    let first : take (length c) a ≡ c = sym (take-append-le (length c) a b fits) ∙ ap (take (length c)) e ∙ take-append_seam c d in
    sym (take-append-drop (length c) a) ∙ ap (λ (l : List ℕ). l ++ drop (length c) a) first

-- no head lies in the front, and a head would have to
headless : (buf front more : List ℕ) → front ≡ take 8192 buf → HasNoRequest front → (head : RequestHead) (rest : List ℕ) → BeginsWith (buf ++ more) head rest → length (print_request head) ≤ length front → ⊥
headless buf front more is none head rest begins fits =
    let all : front ++ (drop 8192 buf ++ more) ≡ print_request head ++ rest = sym (fronted buf front more is) ∙ begins.reads.1 in
    none head (drop (length (print_request head)) front) (begins.reads.0, begins_with front (drop 8192 buf ++ more) (print_request head) rest all fits)

pub no_end_in_front : (buf front more : List ℕ) → front ≡ take 8192 buf → 8192 ≤ length buf → HasNoRequest front → IsFault (buf ++ more) refusal.BadHead
no_end_in_front buf front more is long none =
    none_is_fault buf more (omega arith) (λ head rest begins.
    let size : length front ≡ min 8192 (length buf) = ap length is ∙ length-take 8192 buf in
    let short : length (print_request head) ≤ 8192 = begins.short in
    headless buf front more is none head rest begins (omega arith))

pub cut_head : (buf front more : List ℕ) → front ≡ take 8192 buf → 0 < length buf → HasNoRequest front → more ≡ [] → IsFault (buf ++ more) refusal.BadHead
cut_head buf front more is some none nil =
    none_is_fault buf more some (λ head rest begins.
    let size : length front ≡ min 8192 (length buf) = ap length is ∙ length-take 8192 buf in
    let short : length (print_request head) ≤ 8192 = begins.short in
    let all : length (buf ++ more) ≡ length (print_request head) + length rest = ap length begins.reads.1 ∙ length-append (print_request head) rest in
    let same : length (buf ++ more) ≡ length buf = ap length (ap (λ (l : List ℕ). buf ++ l) nil ∙ append-nil buf) in
    headless buf front more is none head rest begins (omega arith))

-- a head that may yet come
pub open_head : (buf front : List ℕ) → front ≡ take 8192 buf → length buf < 8192 → HasNoRequest front → MayBecomeRequest front → NeedsMore buf
open_head buf front is short none partial =
    let same : front ≡ buf = is ∙ take_all 8192 buf (omega arith) in
    inr (inl (subst HasNoRequest same none, subst MayBecomeRequest same partial, short))

-- ---- a head

module _ (buf front : List ℕ) (headers : List HeaderSpan) (spans : RequestSpans) (head : RequestHead)
    (is : front ≡ take 8192 buf) (few_headers : length headers ≤ 32) (fits : spans.len ≤ length front) (at : IsRequestAt front headers spans head) where
  after : List ℕ
  after = drop spans.len front ++ drop 8192 buf

  parted : buf ≡ print_request head ++ after
  unfolding after
  parted =
      sym (take-append-drop 8192 buf) ∙ ap (λ (l : List ℕ). l ++ drop 8192 buf) (sym is ∙ at.reads.1)
      ∙ append_assoc (print_request head) (drop spans.len front) (drop 8192 buf)

  pub head_there : take spans.len buf ≡ print_request head
  head_there = ap₂ take at.len parted ∙ take-append_seam (print_request head) after

  pub split_there : buf ≡ print_request head ++ drop spans.len buf
  split_there = sym (take-append-drop spans.len buf) ∙ ap (λ (l : List ℕ). l ++ drop spans.len buf) head_there

  short_head : length (print_request head) ≤ 8192
  short_head = let size : length front ≡ min 8192 (length buf) = ap length is ∙ length-take 8192 buf in let len : spans.len ≡ length (print_request head) = at.len in omega arith

  few_lines : length head.fields ≤ 32
  few_lines =
      let sizes : length (take spans.headers headers) ≡ length head.fields = sym (length-map (take spans.headers headers) (header_bytes front)) ∙ ap length at.fields ∙ length-map head.fields name_and_value in
      omega (arith, length-take spans.headers headers)

  -- the head, and whatever bytes follow
  pub begins : (more : List ℕ) → BeginsWith (buf ++ more) head (drop spans.len buf ++ more)
  begins more = record {
    reads = (at.reads.0, ap (λ (l : List ℕ). l ++ more) split_there ∙ append_assoc (print_request head) (drop spans.len buf) more);
    short = short_head;
    few = few_lines;
  }

  -- the head, and so many bytes after it
  pub whole : (n : ℕ) → BeginsWith (take (spans.len + n) buf) head (take n (drop spans.len buf))
  whole n = record {
    reads = (at.reads.0, take-add spans.len n buf ∙ ap (λ (l : List ℕ). l ++ take n (drop spans.len buf)) head_there);
    short = short_head;
    few = few_lines;
  }

  -- the lines that the spans cover are those of the head
  pub same_length : (method : List ℕ) → method ≡ span_bytes front spans.method
      → body_length method (map (header_bytes front) (take spans.headers headers)) ≡ body_length head.method (lines_of head)
  same_length method e = ap₂ body_length (e ∙ at.method) at.fields

  pub refused : (more : List ℕ) (fault : Refusal) → body_length head.method (lines_of head) ≡ Err fault → IsFault (buf ++ more) fault
  refused more fault e = inr (inl (head, drop spans.len buf ++ more, begins more, e))

  pub cut_body : (more : List ℕ) (n : ℕ) → body_length head.method (lines_of head) ≡ Ok n → more ≡ [] → length (drop spans.len buf) < n → IsFault (buf ++ more) refusal.BadHead
  cut_body more n e nil short =
      let none : length more ≡ 0 = ap length nil in
      let size : length (drop spans.len buf ++ more) < n = omega (arith, length-append (drop spans.len buf) more) in
      inr (inr (head, drop spans.len buf ++ more, n, begins more, e, size, refl))

  pub open_body : (n : ℕ) → body_length head.method (lines_of head) ≡ Ok n → length (drop spans.len buf) < n → NeedsMore buf
  open_body n e short =
      let P : List ℕ → Type 0 = λ l. BeginsWith l head (drop spans.len buf) in
      let Q : List ℕ → Type 0 = λ l. BeginsWith (buf ++ []) head l in
      inr (inr (head, drop spans.len buf, n, subst P (append-nil buf) (subst Q (append-nil (drop spans.len buf)) (begins [])), e, short))

  pub some_bytes : 0 < spans.len
  unfolding print_request
  some_bytes =
      let some : 0 < length head.method = at.reads.0.method.0 in
      let len : spans.len ≡ length (print_request head) = at.len in
      let parts = simp length-append at len in
      omega arith

pub some_left : (b : Bool) (l : List ℕ) → b ≡ nat_eq (length l) 0 → b ≡ false → 0 < length l
some_left b l is none = grind (arith, nat_tests)

pub len_fits : (buf front : List ℕ) (n : ℕ) → front ≡ take 8192 buf → n ≤ length front → (n ≤ length buf) × (n ≤ 8192)
len_fits buf front n is fits = let size : length front ≡ min 8192 (length buf) = ap length is ∙ length-take 8192 buf in (omega arith, omega arith)

pub none_left : (b : Bool) (l : List ℕ) → b ≡ nat_eq (length l) 0 → b ≡ true → length l ≡ 0
none_left b l is none = grind (arith, nat_tests)

pub no_bytes : (l : List ℕ) → length l ≡ 0 → l ≡ []
no_bytes [] none = refl
no_bytes (b ∷ l) none = absurd (omega arith)
