-- Names that are the same.
use Rattle.std.proofs.Common.{◌≡◌, ℕ, true, List, nat_eq, sym, ◌∙◌}
use Rattle.std.specs.Cmp.Lexicographic.{pointwise, texts_ties}
use Rattle.std.specs.Ordering.{eq_by_cmp}
use Rattle.std.proofs.lemmas.Cmp.{nat_list_eq_equiv}
use Rattle.std.proofs.lemmas.Map.Lookups.{exact_bytes}
use Rattle.std.proofs.lemmas.Map.Views.{tells_apart}
use Rattle.agv_header.specs.Name.{name_cmp}

-- a test that passes shows one name
pub same_name : (a b : List ℕ) → pointwise nat_eq a b ≡ true → a ≡ b
same_name a b e = tells_apart exact_bytes a b (sym (texts_ties a b) ∙ e)

pub name_itself : (a : List ℕ) → pointwise nat_eq a a ≡ true
name_itself = nat_list_eq_equiv.refl

pub name_turned : (a b : List ℕ) → pointwise nat_eq a b ≡ pointwise nat_eq b a
name_turned = nat_list_eq_equiv.symm

-- names tie in their order where they are the same
pub tie_turned : (a b : List ℕ) → eq_by_cmp name_cmp a b ≡ pointwise nat_eq b a
tie_turned a b = sym (texts_ties a b) ∙ name_turned a b
