use Rattle.std.proofs.Common.{◌≡◌, ◌∷◌, []}
use Rattle.agv_message_json.proofs.Appending.{three_texts, second_refused}
use Rattle.agv_face_http.proofs.answers.Escapes.{names_text}
use Rattle.agv_face_http.proofs.answers.words.put_names.Goals as goal

pub returns-in_err-put_more_names-in-Some : goal.returns-in_err-put_more_names-in-Some
returns-in_err-put_more_names-in-Some c =
    let is : c.args.names.now ≡ c.in-Some.first.now ∷ c.in-Some.more.now = c.in-Some.ensures.cases.0 in
    second_refused _ _ _ _ _ _ _ _ (93 ∷ []) _ c.from_residual-in_err-put_more_names-in-Some.ensures.0 c.in_ok-put_name_after-in-Some.ensures.appended c.in_err-put_more_names-in-Some.ensures (names_text _ _ _ is)

pub returns-in_ok-put_more_names-in-Some : goal.returns-in_ok-put_more_names-in-Some
returns-in_ok-put_more_names-in-Some c =
    let is : c.args.names.now ≡ c.in-Some.first.now ∷ c.in-Some.more.now = c.in-Some.ensures.cases.0 in
    three_texts _ _ _ _ _ _ _ _ _ _ _ c.in_ok-put_name_after-in-Some.ensures.appended c.in_ok-put_more_names-in-Some.ensures c.put_bytes-in-Some.ensures (names_text _ _ _ is)
