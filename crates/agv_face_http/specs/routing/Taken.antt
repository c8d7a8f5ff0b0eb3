-- What a match took from a path, and the names among it. No public clause cites this.
use Rattle.std.specs.Prelude.{◌≡◌, ◌≤◌, ℕ, List, [], ◌∷◌, length, Option, Some, None, option_map, IsUtf8, if◌then◌else◌}
use Rattle.agv_header.specs.Name.{is_name}
use Rattle.agv_face_http.specs.declared.routing.line.Names.{Names}
use Rattle.agv_face_http.specs.declared.routing.line.Names.TheVariants as in_path

-- the second components of the pairs are these texts
abbrev pub Spells : List (List ℕ × List ℕ) → List (List ℕ) → Type 0
Spells [] [] = Unit {0}
Spells [] (s ∷ ss) = ⊥
Spells (x ∷ xs) [] = ⊥
Spells (x ∷ xs) (s ∷ ss) = (x.1 ≡ s) × Spells xs ss

-- each is UTF-8
abbrev pub AreTexts : List (List ℕ) → Type 0
AreTexts [] = Unit {0}
AreTexts (s ∷ ss) = IsUtf8 s × AreTexts ss

-- the same texts, if each is a name
abbrev pub all_names : List (List ℕ) → Option (List (List ℕ))
all_names [] = Some []
all_names (s ∷ rest) = if is_name s then option_map (λ names. s ∷ names) (all_names rest) else None

-- the second components of the pairs are these texts, at most two
pub record IsTaken (pairs : List (List ℕ × List ℕ)) (taken : List (List ℕ)) : Type 0 where
  pub spelled : Spells pairs taken
  pub texts : AreTexts taken
  pub few : length taken ≤ 2

-- the two names, if there are both
abbrev pub both : Option (List ℕ) → Option (List ℕ) → Option (List (List ℕ))
both None second = None
both (Some a) None = None
both (Some a) (Some b) = Some (a ∷ b ∷ [])

-- the names as a list
abbrev pub listed : Names → List (List ℕ)
listed in_path.Zero = []
listed (in_path.One name) = name ∷ []
listed (in_path.Two first second) = first ∷ second ∷ []
