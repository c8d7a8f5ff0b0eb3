-- What a written entry changes in a table whose rows come from the entries of a map.
use Rattle.std.proofs.Common.{◌≡◌, ◌≢◌, inl, inr, Bool, true, false, cond, is_some, List, Option, Some, None, Ordering, refl, sym, ap, subst, ◌∙◌}
use Rattle.std.specs.Cmp.{IsTotalOrder}
use Rattle.std.specs.FinMap.{FinMap, IsAntisymmetric, get, insert, find, same_map}
use Rattle.std.specs.Option.{option_or}
use Rattle.agv_header.specs.Spread.{spread}
use Rattle.agv_world_core.proofs.lists.Entries.{no_more, alike}
use Rattle.agv_world_core.proofs.lists.Puts.{here, there, put_cases}
use Rattle.agv_world_core.proofs.world_rows.Spreads.{Gives, IsApart, IsSpread, spread_is}

-- what the entry that may stand at k gives at q
abbrev pub given : {K X Q Y : Type 0} (S : Q → Q → Ordering) → (K → X → List (Q × Y)) → K → Option X → Q → Option Y
given S rows k None q = None
given S rows k (Some x) q = find S q (rows k x)

-- what stands at a key: the row of the new entry, or else none where the old entry had one, or else what stood there
abbrev pub replaced : {Y : Type 0} → Option Y → Option Y → Option Y → Option Y
replaced new old stood = option_or new (cond (is_some old) None stood)

-- where the new entry gives what the old one did, and that stood there, nothing changes
pub stays_same : {Y : Type 0} (row stood : Option Y) → ((y : Y) → row ≡ Some y → stood ≡ Some y) → stood ≡ replaced row row stood
stays_same None stood is = refl
stays_same (Some y) stood is = is y refl

module _ {K X Q Y : Type 0} {R : K → K → Ordering} (total : IsTotalOrder R) (apart : IsAntisymmetric R) (S : Q → Q → Ordering) (S_total : IsTotalOrder S) (S_apart : IsAntisymmetric S) (rows : K → X → List (Q × Y))
    (m : FinMap R X) (k : K) (n : X) (once : IsApart S rows m) (once_now : IsApart S rows (insert m k n)) where
  abbrev before : IsSpread S rows m
  before = spread_is total apart S S_total rows m once

  abbrev after : IsSpread S rows (insert m k n)
  after = spread_is total apart S S_total rows (insert m k n) once_now

  abbrev now_at : Q → Option Y
  now_at q = replaced (find S q (rows k n)) (given S rows k (get m k) q) (get (spread S rows m) q)

  -- where another entry gives a row, neither the new one nor the old one does
  others_new : (q : Q) (y : Y) (l : K) (z : X) → l ≢ k → get m l ≡ Some z → Gives S rows l z q y → (v : Option Y) → find S q (rows k n) ≡ v → v ≡ None
  others_new q y l z differ g f None e = refl
  others_new q y l z differ g f (Some w) e = absurd (differ (once_now l k z n q y w (there total apart m k n l differ ∙ g) (here total apart m k n) f e))

  others_old : (q : Q) (y : Y) (l : K) (z : X) → l ≢ k → get m l ≡ Some z → Gives S rows l z q y → (v : Option X) → get m k ≡ v → given S rows k v q ≡ None
  others_old q y l z differ g f None e = refl
  others_old q y l z differ g f (Some x) e = elim (find S q (rows k x)) as (λ (v : Option Y). find S q (rows k x) ≡ v → v ≡ None) [
    | None ↦ λ d. refl
    | Some w ↦ λ d. absurd (differ (once l k z x q y w g e f d))
  ] refl

  given_there : (q : Q) (y : Y) → get (spread S rows (insert m k n)) q ≡ Some y → now_at q ≡ Some y
  given_there q y e =
      let f = after.from q y e in
      elim (put_cases total apart m k n f.0 f.1 f.2) [
        | inl s ↦ ap (λ v. replaced v (given S rows k (get m k) q) (get (spread S rows m) q)) (subst (λ x. find S q (rows k x) ≡ Some y) s.1 (subst (λ l. find S q (rows l f.1) ≡ Some y) s.0 f.3))
        | inr s ↦ ap (λ v. replaced v (given S rows k (get m k) q) (get (spread S rows m) q)) (others_new q y f.0 f.1 s.0 s.1 f.3 (find S q (rows k n)) refl)
            ∙ ap (λ (v : Option Y). cond (is_some v) None (get (spread S rows m) q)) (others_old q y f.0 f.1 s.0 s.1 f.3 (get m k) refl)
            ∙ before.into f.0 f.1 q y s.1 f.3
      ]

  some_no_more : (v : Option Y) (y : Y) → v ≡ Some y → is_some v ≡ false → ⊥
  some_no_more None y e none = no_more y e
  some_no_more (Some w) y e none = cc

  stays : (q : Q) (y : Y) → is_some (given S rows k (get m k) q) ≡ false → get (spread S rows m) q ≡ Some y → get (spread S rows (insert m k n)) q ≡ Some y
  stays q y none e =
      let f = before.from q y e in
      let differ : f.0 ≢ k = λ same. some_no_more (given S rows k (get m k) q) y (ap (λ v. given S rows k v q) (sym (ap (get m) same) ∙ f.2) ∙ subst (λ l. find S q (rows l f.1) ≡ Some y) same f.3) none in
      after.into f.0 f.1 q y (there total apart m k n f.0 differ ∙ f.2) f.3

  left : (q : Q) (y : Y) (b : Bool) → is_some (given S rows k (get m k) q) ≡ b → cond b None (get (spread S rows m) q) ≡ Some y → get (spread S rows (insert m k n)) q ≡ Some y
  left q y true b e = absurd (no_more y e)
  left q y false b e = stays q y b e

  found : (q : Q) (y : Y) (v : Option Y) → find S q (rows k n) ≡ v → replaced v (given S rows k (get m k) q) (get (spread S rows m) q) ≡ Some y → get (spread S rows (insert m k n)) q ≡ Some y
  found q y (Some w) f e = after.into k n q y (here total apart m k n) (f ∙ e)
  found q y None f e = left q y _ refl e

  -- what the new table has at a key
  pub respread_at : (q : Q) → get (spread S rows (insert m k n)) q ≡ replaced (find S q (rows k n)) (given S rows k (get m k) q) (get (spread S rows m) q)
  respread_at q = alike _ _ (given_there q) (λ y e. found q y (find S q (rows k n)) refl e)

  -- a table that has this at each key is the new one
  pub respread : (u : FinMap S Y) → ((q : Q) → get u q ≡ replaced (find S q (rows k n)) (given S rows k (get m k) q) (get (spread S rows m) q)) → u ≡ spread S rows (insert m k n)
  respread u is = same_map S_total S_apart u (spread S rows (insert m k n)) (λ q. is q ∙ sym (respread_at q))

  stood_by : (q : Q) (y : Y) (v : Option X) → get m k ≡ v → given S rows k v q ≡ Some y → get (spread S rows m) q ≡ Some y
  stood_by q y None g f = absurd (no_more y f)
  stood_by q y (Some x) g f = before.into k x q y g f

  -- what the old entry gave stands in the old table
  pub stood : (q : Q) (y : Y) → given S rows k (get m k) q ≡ Some y → get (spread S rows m) q ≡ Some y
  stood q y f = stood_by q y (get m k) refl f

  -- an entry with the rows of the old one leaves the table
  pub respread_same : (x : X) → get m k ≡ Some x → rows k n ≡ rows k x → spread S rows m ≡ spread S rows (insert m k n)
  respread_same x g e = respread (spread S rows m) (λ q.
      stays_same (given S rows k (get m k) q) (get (spread S rows m) q) (stood q)
      ∙ ap (λ v. replaced v (given S rows k (get m k) q) (get (spread S rows m) q)) (ap (λ v. given S rows k v q) g ∙ sym (ap (find S q) e)))
