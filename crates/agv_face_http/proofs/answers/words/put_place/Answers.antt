use Rattle.std.proofs.Common.{List, ℕ, ◌∷◌, [], ◌++◌, ◌∙◌, ap, sym, codes}
use Rattle.json.specs.Print.{escape_byte, quoted}
use Rattle.agv_stock.specs.declared.place.Place.{Place}
use Rattle.agv_face_http.specs.answers.Bodies.{place_words}
use Rattle.agv_message_json.proofs.Appending.{same_text}
use Rattle.agv_message_json.proofs.Escapes.{escape-name}
use Rattle.agv_face_http.proofs.answers.words.put_place.Goals as goal

pub returns-in-Station : goal.returns-in-Station
unfolding escape_byte
returns-in-Station c =
    let plain = c.as_bytes.ensures.bytes ∙ sym (escape-name c.in-Station.id c.as_bytes.ensures.name) in
    same_text _ _ _ _ _ (ap (λ (s : List ℕ). codes "\"station " ++ (s ++ 34 ∷ [])) plain ∙ ap (λ (p : Place). quoted (place_words p)) (sym c.in-Station.is)) c.put_words.ensures

pub returns-in-Vehicle : goal.returns-in-Vehicle
unfolding escape_byte
returns-in-Vehicle c =
    same_text _ _ _ _ _ (ap (λ (p : Place). quoted (place_words p)) (sym c.in-Vehicle.is)) c.put_key_after.ensures

pub returns-in-Checking : goal.returns-in-Checking
unfolding escape_byte
returns-in-Checking c =
    same_text _ _ _ _ _ (ap (λ (p : Place). quoted (place_words p)) (sym c.in-Checking.is)) c.put_bytes.ensures

pub returns-in-Left : goal.returns-in-Left
unfolding escape_byte
returns-in-Left c =
    same_text _ _ _ _ _ (ap (λ (p : Place). quoted (place_words p)) (sym c.in-Left.is)) c.put_bytes-in-Left.ensures
