-- The parts of which an answer is written. No public clause cites this.
use Rattle.std.specs.Prelude.{ℕ, Bool, List, ◌++◌, take, drop}
use Rattle.agv_desk.specs.declared.answer.Answer.{Answer}
use Rattle.agv_face_http.specs.answers.Answers.{allowed, answer_content, answer_status, media_type}
use Rattle.agv_face_http.specs.answers.Heads.{head_text}

-- the head of an answer whose body has this length
abbrev pub head_of : Answer → ℕ → Bool → List ℕ
head_of a len close = head_text (answer_status a) (media_type (answer_content a)) len (allowed a) close

-- the bytes with the `len` bytes from `start` on moved to the end
abbrev pub turned : ℕ → ℕ → List ℕ → List ℕ
turned start len bytes = take start bytes ++ (drop len (drop start bytes) ++ take len (drop start bytes))
