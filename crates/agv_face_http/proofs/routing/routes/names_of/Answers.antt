use Rattle.std.proofs.Common.{◌∙◌, ap, sym, [], ◌∷◌}
use Rattle.std.specs.Prelude.{option_map}
use Rattle.agv_header.specs.Name.{as_name}
use Rattle.agv_face_http.specs.routing.Taken.{both}
use Rattle.agv_face_http.proofs.routing.Naming.{no-names, one-name, two-names}
use Rattle.agv_face_http.proofs.routing.routes.names_of.Goals as goal

pub returns-in_default : goal.returns-in_default
returns-in_default c = λ taken t. no-names _ taken (sym c.iter-taken.ensures.value ∙ c.in_default.ensures.steps) t

pub returns-in_default-next : goal.returns-in_default-next
returns-in_default-next c = λ taken t.
    c.one_name.ensures
    ∙ ap (option_map (λ n. n ∷ [])) (c.of_bytes-first.ensures ∙ ap as_name c.as_bytes.ensures.value)
    ∙ one-name _ c.in-Some.ensures.steps.0 _ taken _ (sym c.iter-taken.ensures.value ∙ c.in-Some.ensures.steps.1) c.in_default-next.ensures.steps c.in-Some.ensures.steps.3 t

pub returns : goal.returns
returns c = λ taken t.
    c.two_names.ensures
    ∙ ap (λ z. both z c.of_bytes.result) (c.of_bytes-first.ensures ∙ ap as_name c.as_bytes.ensures.value)
    ∙ ap (both (as_name c.in-Some.first.now)) (c.of_bytes.ensures ∙ ap as_name c.as_bytes-2.ensures.value)
    ∙ two-names _ c.in-Some.ensures.steps.0 c.in-Some-next.ensures.steps.0 _ _ taken _ _ (sym c.iter-taken.ensures.value ∙ c.in-Some.ensures.steps.1) c.in-Some-next.ensures.steps.1 c.in-Some.ensures.steps.3 c.in-Some-next.ensures.steps.3 t
