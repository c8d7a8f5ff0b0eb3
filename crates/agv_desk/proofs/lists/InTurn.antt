-- Calls one after the other.
use Rattle.std.proofs.Common.{◌≡◌, ℕ, List, [], ◌∷◌, ◌++◌, append_assoc, refl, sym, ap, ◌∙◌}
use Rattle.agv_world_core.specs.Worlds.{World}
use Rattle.agv_desk.specs.Outcomes.{after, answer_of, moves_of}
use Rattle.agv_desk.specs.Reports.{served}
use Rattle.agv_desk.specs.Step.{step, steps, answers, moves}
use Rattle.agv_desk.specs.declared.call.Call.{Call}

module _ (seats : ℕ) where
  pub world_in_turn : (world : World) (calls others : List (ℕ × Call)) → steps seats world (calls ++ others) ≡ steps seats (steps seats world calls) others
  world_in_turn world [] others = refl
  world_in_turn world (made ∷ calls) others = world_in_turn (after world (step seats world made.0 made.1)) calls others

  pub answers_in_turn : (world : World) (calls others : List (ℕ × Call)) → answers seats world (calls ++ others) ≡ (answers seats world calls ++ answers seats (steps seats world calls) others)
  answers_in_turn world [] others = refl
  answers_in_turn world (made ∷ calls) others =
      ap (λ rest. served world (answer_of (step seats world made.0 made.1)) ∷ rest) (answers_in_turn (after world (step seats world made.0 made.1)) calls others)

  pub moves_in_turn : (world : World) (calls others : List (ℕ × Call)) → moves seats world (calls ++ others) ≡ (moves seats world calls ++ moves seats (steps seats world calls) others)
  moves_in_turn world [] others = refl
  moves_in_turn world (made ∷ calls) others =
      ap (λ rest. moves_of (step seats world made.0 made.1) ++ rest) (moves_in_turn (after world (step seats world made.0 made.1)) calls others)
      ∙ sym (append_assoc (moves_of (step seats world made.0 made.1)) _ _)
