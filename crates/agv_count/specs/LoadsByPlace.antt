-- The loads of a list, by place.
use Rattle.std.specs.Prelude.{ℕ, Bool, List, [], ◌∷◌, if◌then◌else◌}
use Rattle.std.specs.BTreeMap.{BTreeMap, get}
use Rattle.std.specs.Option.{option_map, unwrap_or}
use Rattle.std.specs.declared.cmp.Ordering.{Ordering}
use Rattle.std.specs.declared.vec.Vec.{Vec}

module _ {K A : Type 0} where
  -- the loads at one of the places
  abbrev pub loads_at : (K → K → Ordering) → BTreeMap K (Vec (List ℕ) A) → K → List (List ℕ)
  loads_at cmp placed at = unwrap_or (option_map (λ loads. loads.items) (get cmp placed at)) []

-- the list of the load alone if it is there, otherwise the empty list
abbrev pub one_if : Bool → List ℕ → List (List ℕ)
one_if is_there load = if is_there then load ∷ [] else []
