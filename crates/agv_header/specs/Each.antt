-- A partial function applied to each item of a list.
use Rattle.std.specs.Prelude.{List, [], ◌∷◌, Option, Some, option_map, option_and_then}

-- the results of all items, if every item has one
abbrev pub each : {A B : Type 0} → (A → Option B) → List A → Option (List B)
each f [] = Some []
each f (x ∷ xs) = option_and_then (λ y. option_map (λ ys. y ∷ ys) (each f xs)) (f x)
