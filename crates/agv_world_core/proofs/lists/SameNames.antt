-- Whether two names or two vehicles are the same, and whether there is something, as tests tell it.
use Rattle.std.proofs.Common.{◌≡◌, ◌≢◌, ℕ, nat_eq, true, false, List, Option, Some, None, is_some, inl, inr, refl, sym, ap, ◌∙◌}
use Rattle.std.proofs.lemmas.Bool.{cases_Bool, false≢true}
use Rattle.std.specs.Cmp.{tied_itself}
use Rattle.std.specs.Cmp.Lexicographic.{pointwise, texts_ties}
use Rattle.std.specs.Option.{is_none}
use Rattle.std.specs.Ordering.{eq_by_cmp, is_eq}
use Rattle.agv_header.specs.Key.{key_cmp}
use Rattle.agv_header.specs.KeyOrder.{key_cmp-total, key_cmp-IsAntisymmetric, key_cmp-ties, key_eq}
use Rattle.agv_header.specs.Name.{name_cmp}
use Rattle.agv_header.specs.declared.key.VehicleKey.{VehicleKey}
use Rattle.agv_world_core.proofs.lists.Entries.{is_same}
use Rattle.agv_world_core.proofs.lists.Orders.{names_total, names_apart}

-- ---- names
pub same_name : (a b : List ℕ) → pointwise nat_eq a b ≡ true → a ≡ b
same_name a b e = is_same names_apart a b (sym (texts_ties a b) ∙ e)

pub name_same : (a b : List ℕ) → a ≡ b → pointwise nat_eq a b ≡ true
name_same a b e = texts_ties a b ∙ ap (eq_by_cmp name_cmp a) (sym e) ∙ ap is_eq (tied_itself names_total a)

pub other_name : (a b : List ℕ) → pointwise nat_eq a b ≡ false → a ≢ b
other_name a b e same = false≢true (sym e ∙ name_same a b same)

pub name_other : (a b : List ℕ) → a ≢ b → pointwise nat_eq a b ≡ false
name_other a b differ = elim (cases_Bool (pointwise nat_eq a b)) [
  | inl e ↦ absurd (differ (same_name a b e))
  | inr e ↦ e
]

-- ---- vehicles
pub same_key : (a b : VehicleKey) → key_eq a b ≡ true → a ≡ b
same_key a b e = is_same key_cmp-IsAntisymmetric a b (sym (key_cmp-ties a b) ∙ e)

pub key_same : (a b : VehicleKey) → a ≡ b → key_eq a b ≡ true
key_same a b e = key_cmp-ties a b ∙ ap (eq_by_cmp key_cmp a) (sym e) ∙ ap is_eq (tied_itself key_cmp-total a)

-- ---- what is there
pub there : {A : Type 0} (o : Option A) → is_some o ≡ true → (x : A) × (o ≡ Some x)
there None e = absurd (false≢true e)
there (Some x) e = (x, refl)

pub is_there : {A : Type 0} (o : Option A) (x : A) → o ≡ Some x → is_some o ≡ true
is_there o x e = ap is_some e

pub nothing : {A : Type 0} (o : Option A) → is_none o ≡ true → o ≡ None
nothing None e = refl
nothing (Some x) e = absurd (false≢true e)

pub is_nothing : {A : Type 0} (o : Option A) → o ≡ None → is_none o ≡ true
is_nothing o e = ap is_none e
