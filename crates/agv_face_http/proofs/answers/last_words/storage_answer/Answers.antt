use Rattle.agv_face_http.proofs.answers.LastWords.{storage_text}
use Rattle.agv_face_http.proofs.answers.last_words.storage_answer.Goals as goal

pub returns : goal.returns
returns c = storage_text
