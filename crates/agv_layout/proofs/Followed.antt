-- A walk that takes each node's edge, one edge at a time.
use Rattle.std.proofs.Common.{◌≡◌, ℕ, zero, suc, Some, None, [], ◌∷◌, ap, refl, ◌∙◌}
use Rattle.std.specs.BTreeMap.{BTreeMap, get}
use Rattle.agv_header.specs.Name.{name_cmp}
use Rattle.agv_layout.specs.declared.edge.Edge.{Edge}
use Rattle.agv_layout.specs.Layout.{Name}
use Rattle.agv_layout.specs.Ways.{onto, followed}

pub followed-more : (ways : BTreeMap Name Edge) (at : Name) (n m : ℕ) (edge : Edge) → n ≡ suc m → get name_cmp ways at ≡ Some edge → followed ways at n ≡ edge.id ∷ followed ways edge.finish m
followed-more ways at n m edge count found = ap (followed ways at) count ∙ ap (onto (λ next. followed ways next m)) found

pub followed-none : (ways : BTreeMap Name Edge) (at : Name) (n : ℕ) → get name_cmp ways at ≡ None → followed ways at n ≡ []
followed-none ways at zero none = refl
followed-none ways at (suc n) none = ap (onto (λ next. followed ways next n)) none
