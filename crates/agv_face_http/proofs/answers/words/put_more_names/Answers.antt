use Rattle.std.proofs.Common.{arith, ◌≤◌, ◌+◌, sym, subst, List, ℕ, ◌∷◌, length, take}
use Rattle.std.proofs.lemmas.List.Folds.{length-flat_map-take}
use Rattle.serde_json.specs.Written.{compact_text}
use Rattle.agv_message_json.specs.Json.{text}
use Rattle.agv_face_http.specs.answers.Pieces.{more_names}
use Rattle.agv_message_json.proofs.Appending.{refused_then}
use Rattle.agv_face_http.proofs.answers.words.put_more_names.Goals as goal

pub returns-in_err-put_name_after : goal.returns-in_err-put_name_after
returns-in_err-put_name_after c =
    let now = take c.loop-name.name-index c.args.names.now in
    let within : length (more_names now) + length (44 ∷ compact_text (text c.name-item.result)) ≤ length (more_names c.args.names.now) =
    subst (λ (n : List ℕ). length (more_names now) + length (44 ∷ compact_text (text n)) ≤ length (more_names c.args.names.now)) (sym c.name-item.is)
    (length-flat_map-take (λ (n : List ℕ). 44 ∷ compact_text (text n)) c.args.names.now c.loop-name.name-index c.name-item.result (omega arith)) in
    refused_then _ _ _ _ _ (more_names now) _ _ c.from_residual.ensures.0 c.loop-name.invariant c.in_err-put_name_after.ensures.appended within
