-- A value that is noted of a name only where it has none, and the names found by it.
use Rattle.std.proofs.Common.{◌≡◌, Bool, true, false, cond, not, ◌||◌, ◌&&◌, Option, Some, None, is_some, true≢false, refl, sym, ap, ◌∙◌}
use Rattle.std.specs.Option.{option_or}
use Rattle.std.specs.BTreeMap.{BTreeMap, is_at, get}
use Rattle.agv_header.specs.Name.{name_cmp}
use Rattle.agv_layout.specs.Layout.{Name}
use Rattle.agv_layout.proofs.Among.{is_at-same}

pub noted-none : {X : Type 0} (was : Option X) (x : X) → was ≡ option_or was (cond false (Some x) None)
noted-none None x = refl
noted-none (Some y) x = refl

pub found-none : {X : Type 0} (f : Bool) (was : Option X) → f ≡ (f || (not (is_some was) && false))
found-none true was = refl
found-none false None = refl
found-none false (Some y) = refl

module _ {X : Type 0} (x : X) (here there : Option X) where
  -- the name has a value, so nothing is noted
  noted_before : (same : Bool) → (same ≡ true → here ≡ there) → is_some here ≡ true → there ≡ option_or there (cond same (Some x) None)
  noted_before false alike has = noted-none there x
  noted_before true alike has =
      elim there as (λ o. is_some o ≡ true → o ≡ option_or o (Some x)) [ Some y ↦ λ _. refl | None ↦ λ e. absurd (true≢false (sym e)) ] (ap is_some (sym (alike refl)) ∙ has)

  found_before : (f same : Bool) → (same ≡ true → here ≡ there) → is_some here ≡ true → f ≡ (f || (not (is_some there) && same))
  found_before f false alike has = found-none f there
  found_before true true alike has = refl
  found_before false true alike has = ap (λ b. not b && true) (sym has ∙ ap is_some (alike refl))

  -- it has none, so this one is noted
  noted_now : (same : Bool) → (same ≡ true → here ≡ there) → is_some here ≡ false → cond same (Some x) there ≡ option_or there (cond same (Some x) None)
  noted_now false alike none = noted-none there x
  noted_now true alike none =
      elim there as (λ o. is_some o ≡ false → Some x ≡ option_or o (Some x)) [ Some y ↦ λ e. absurd (true≢false e) | None ↦ λ _. refl ] (ap is_some (sym (alike refl)) ∙ none)

  found_now : (f same : Bool) → (same ≡ true → here ≡ there) → is_some here ≡ false → (f || same) ≡ (f || (not (is_some there) && same))
  found_now f false alike none = ap (λ b. f || b) (found-none false there)
  found_now true true alike none = refl
  found_now false true alike none = ap (λ b. not b && true) (sym none ∙ ap is_some (alike refl))

module _ {X : Type 0} (noted : BTreeMap Name X) (start id : Name) (x : X) where
  alike : is_at (name_cmp start) id ≡ true → get name_cmp noted start ≡ get name_cmp noted id
  alike e = ap (get name_cmp noted) (is_at-same start id e)

  pub noted-before : is_some (get name_cmp noted start) ≡ true → get name_cmp noted id ≡ option_or (get name_cmp noted id) (cond (is_at (name_cmp start) id) (Some x) None)
  noted-before has = noted_before x (get name_cmp noted start) (get name_cmp noted id) (is_at (name_cmp start) id) alike has

  pub found-before : (f : Bool) → is_some (get name_cmp noted start) ≡ true → f ≡ (f || (not (is_some (get name_cmp noted id)) && is_at (name_cmp start) id))
  found-before f has = found_before x (get name_cmp noted start) (get name_cmp noted id) f (is_at (name_cmp start) id) alike has

  pub noted-now : is_some (get name_cmp noted start) ≡ false → cond (is_at (name_cmp start) id) (Some x) (get name_cmp noted id) ≡ option_or (get name_cmp noted id) (cond (is_at (name_cmp start) id) (Some x) None)
  noted-now none = noted_now x (get name_cmp noted start) (get name_cmp noted id) (is_at (name_cmp start) id) alike none

  pub found-now : (f : Bool) → is_some (get name_cmp noted start) ≡ false → (f || is_at (name_cmp start) id) ≡ (f || (not (is_some (get name_cmp noted id)) && is_at (name_cmp start) id))
  found-now f none = found_now x (get name_cmp noted start) (get name_cmp noted id) f (is_at (name_cmp start) id) alike none

-- a value under two tests, the second of which is known
pub noted-not : {X : Type 0} (was : Option X) (x : X) (here near : Bool) → near ≡ false → was ≡ option_or was (cond (here && near) (Some x) None)
noted-not was x true near e = noted-none was x ∙ ap (λ b. option_or was (cond b (Some x) None)) (sym e)
noted-not was x false near e = noted-none was x

pub noted-and : {X : Type 0} (was : Option X) (x : X) (here near : Bool) → near ≡ true → option_or was (cond here (Some x) None) ≡ option_or was (cond (here && near) (Some x) None)
noted-and was x true near e = ap (λ b. option_or was (cond b (Some x) None)) (sym e)
noted-and was x false near e = refl
