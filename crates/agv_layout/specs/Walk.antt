-- Walks on a layout, how far it is from one node to another, and the route between them (this project's profile; VDA 5050 leaves routing to the master control).
use Rattle.std.specs.Prelude.{◌≡◌, ℕ, ◌≤◌, ◌⊎◌, List, [], ◌∷◌, length, Option, None, Some}
use Rattle.std.specs.declared.cmp.Ordering.TheVariants.{Less}
use Rattle.std.specs.Cmp.Lexicographic.{slice_cmp}
use Rattle.agv_header.specs.Name.{name_cmp}
use Rattle.agv_layout.specs.Layout.{Layout, Name, IsNode, IsEdge}

-- lists of names are compared lexicographically, name by name
abbrev pub IsBefore : List Name → List Name → Type 0
IsBefore ids others = slice_cmp name_cmp ids others ≡ Less

module _ (layout : Layout) where
  -- a walk, as the names of its edges: each begins where the one before finishes. The empty list is a walk from a node to itself
  abbrev pub IsWalk : Name → List Name → Name → Type 0
  IsWalk from [] to = IsNode layout from × (from ≡ to)
  IsWalk from (id ∷ ids) to = (next : Name) × IsEdge layout id (record { start = from; finish = next }) × IsWalk next ids to

  -- no walk leads from the one node to the other
  abbrev pub IsCutOff : Name → Name → Type 0
  IsCutOff from to = (ids : List Name) → ¬ IsWalk from ids to

  -- the least number of edges of a walk from the one node to the other
  pub record IsLeast (from to : Name) (hops : ℕ) : Type 0 where
    pub walk : (ids : List Name) × IsWalk from ids to × (length ids ≡ hops)
    pub least : (ids : List Name) → IsWalk from ids to → hops ≤ length ids

  -- the least number of edges of a walk, or none if no walk leads there
  abbrev pub IsHops : Name → Name → Option ℕ → Type 0
  IsHops from to None = IsCutOff from to
  IsHops from to (Some hops) = IsLeast from to hops

  -- the route: a shortest walk, and the first of the walks of its length
  pub record IsRoute (from to : Name) (ids : List Name) : Type 0 where
    pub walk : IsWalk from ids to
    pub shortest : (others : List Name) → IsWalk from others to → length ids ≤ length others
    pub first : (others : List Name) → IsWalk from others to → length others ≡ length ids → (others ≡ ids) ⊎ IsBefore ids others

  -- the route, or none if no walk leads there
  abbrev pub IsWayTo : Name → Name → Option (List Name) → Type 0
  IsWayTo from to None = IsCutOff from to
  IsWayTo from to (Some ids) = IsRoute from to ids
