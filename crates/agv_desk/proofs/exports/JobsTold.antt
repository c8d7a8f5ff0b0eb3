-- The jobs that are told are the live ones, in the order of their names.
use Rattle.std.proofs.Common.{◌≡◌, ◌↔◌, ◌⊎◌, inl, inr, ◌&&◌, ℕ, zero, suc, ◌<◌, Bool, true, false, cond, T, List, [], ◌∷◌, filter, length, get_or, Contains, Some, Ordering, Less, Equal, Greater, is_lt, arith, refl, sym, ap, subst, ◌∙◌}
use Rattle.std.specs.Cmp.Lexicographic.{nat_list_cmp_total}
use Rattle.std.specs.FinMap as finite
use Rattle.std.specs.FinMap.Entries.{below_all, find, is_sorted}
use Rattle.std.specs.FinMap.{IsAntisymmetric, nat_cmp-IsAntisymmetric, slice_cmp-IsAntisymmetric}
use Rattle.std.specs.List.{AllByRecursion}
use Rattle.std.specs.List.Sorted.{IsStrictlySortedBy}
use Rattle.std.specs.Map.{keys_of}
use Rattle.std.specs.Ordering.{eq_by_cmp}
use Rattle.agv_count_exports.specs.Exports.{jobs_told}
use Rattle.agv_header.specs.Name.{name_cmp}
use Rattle.agv_stock.specs.Phase.{is_live}
use Rattle.agv_world_core.specs.Lawful.{IsJob}
use Rattle.agv_world_core.specs.Worlds.{World}
use Rattle.agv_world_core.specs.declared.row.JobRow.{JobRow}
use Rattle.agv_world_core.proofs.lists.Entries.{entries_found, is_same, no_more, same_Some}

-- ---- entries that pass a test

-- an element of a list is its first one or one of the rest
pub first_or_later : {A : Type 0} (x y : A) (xs : List A) → Contains (y ∷ xs) x → (y ≡ x) ⊎ Contains xs x
first_or_later x y xs among = at among.0 among.1 among.2
  where
    at : (k : ℕ) → k < length (y ∷ xs) → get_or (y ∷ xs) k x ≡ x → (y ≡ x) ⊎ Contains xs x
    at zero below is = inl is
    at (suc k) below is = inr (k, omega arith, is)

module _ {K X : Type 0} (test : K × X → Bool) where
  -- what each entry has, each that passes has, beside passing
  passing : (P : K × X → Type 0) (es : List (K × X)) → AllByRecursion P es → (e : K × X) → Contains (filter test es) e → P e × (test e ≡ true)
  passing P [] each e among = let below = among.1 in absurd (omega arith)
  passing P (f ∷ es) each e among =
      elim (test f) as (λ b. test f ≡ b → Contains (cond b (f ∷ filter test es) (filter test es)) e → P e × (test e ≡ true)) [
        | true ↦ λ is here. elim (first_or_later e f (filter test es) here) [
          | inl same ↦ (subst P same each.0, ap test (sym same) ∙ is)
          | inr rest ↦ passing P es each.1 e rest
        ]
        | false ↦ λ is here. passing P es each.1 e here
      ] refl among

pub later : {A : Type 0} (x y : A) (xs : List A) → Contains xs x → Contains (y ∷ xs) x
later x y xs among = let below = among.1 in (suc among.0, omega arith, among.2)

module _ {K X : Type 0} {R : K → K → Ordering} (test : K × X → Bool) where
  -- the value at a key is among those that pass, if it passes
  found : IsAntisymmetric R → (k : K) (x : X) → test (k, x) ≡ true → (es : List (K × X)) → find R k es ≡ Some x → Contains (filter test es) (k, x)
  found apart k x passes [] at = absurd (no_more x at)
  found apart k x passes (e ∷ es) at =
      elim (eq_by_cmp R k e.0) as (λ b. eq_by_cmp R k e.0 ≡ b → cond b (Some e.1) (find R k es) ≡ Some x → Contains (filter test (e ∷ es)) (k, x)) [
        | true ↦ λ tied is.
            let same : e ≡ (k, x) = λ i. (sym (is_same apart k e.0 tied) i, same_Some e.1 x is i) in
            subst (λ (b : Bool). Contains (cond b (e ∷ filter test es) (filter test es)) (k, x)) (sym (ap test same ∙ passes)) (0, omega arith, same)
        | false ↦ λ tied is.
            let rest = found apart k x passes es is in
            elim (test e) as (λ b. Contains (cond b (e ∷ filter test es) (filter test es)) (k, x)) [ true ↦ later (k, x) e _ rest | false ↦ rest ]
      ] refl at

-- ---- their order

pub less : (o : Ordering) → T (is_lt o) → o ≡ Less
less Less p = refl
less Equal p = absurd p
less Greater p = absurd p

pub left : (a b : Bool) → T (a && b) → T a
left true b p = tt
left false b p = p

pub right : (a b : Bool) → T (a && b) → T b
right true b p = p
right false b p = absurd p

module _ {K X : Type 0} (R : K → K → Ordering) (test : K × X → Bool) where
  below : (k : K) (es : List (K × X)) → T (below_all R k es) → AllByRecursion (λ y. R k y ≡ Less) (keys_of (filter test es))
  below k [] all = tt
  below k (e ∷ es) all =
      let rest = below k es (right _ _ all) in
      elim (test e) as (λ b. AllByRecursion (λ y. R k y ≡ Less) (keys_of (cond b (e ∷ filter test es) (filter test es)))) [ true ↦ (less _ (left _ _ all), rest) | false ↦ rest ]

  sorted : (es : List (K × X)) → T (is_sorted R es) → IsStrictlySortedBy R (keys_of (filter test es))
  unfolding IsStrictlySortedBy
  sorted [] all = tt
  sorted (e ∷ es) all =
      let rest = sorted es (right _ _ all) in
      elim (test e) as (λ b. IsStrictlySortedBy R (keys_of (cond b (e ∷ filter test es) (filter test es)))) [ true ↦ (below e.0 es (left _ _ all), rest) | false ↦ rest ]

-- ---- jobs

lives : List ℕ × JobRow → Bool
lives job = is_live job.1.phase

apart : IsAntisymmetric name_cmp
apart = slice_cmp-IsAntisymmetric nat_cmp-IsAntisymmetric

pub told_if_live : (world : World) (job : List ℕ) (row : JobRow) → Contains (jobs_told world) (job, row) ↔ (IsJob world job row × (is_live row.phase ≡ true))
unfolding lives
told_if_live world job row =
    let entries = finite.entries world.jobs in (
      λ among. passing lives (λ (e : List ℕ × JobRow). IsJob world e.0 e.1) entries (entries_found nat_list_cmp_total world.jobs) (job, row) among,
      λ live. found lives apart job row live.1 entries (sym (finite.get-entries world.jobs job) ∙ live.0),
    )

pub told_in_order : (world : World) → IsStrictlySortedBy name_cmp (keys_of (jobs_told world))
unfolding lives
told_in_order world = sorted name_cmp lives (finite.entries world.jobs) (finite.entries_sorted world.jobs)
