use Rattle.agv_face_http.proofs.answers.LastWords.{memory_text}
use Rattle.agv_face_http.proofs.answers.last_words.memory_answer.Goals as goal

pub returns : goal.returns
returns c = memory_text
