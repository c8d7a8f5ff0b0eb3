-- The answers to a fault of the machine, byte by byte.
use Rattle.std.proofs.Common.{◌≡◌, ℕ, ◌+◌, ◌%◌, List, [], ◌∷◌, ◌++◌, true, ap, ◌∙◌, codes, decimal, lit<, lit≤}
use Rattle.std.proofs.lemmas.Fmt.{decimal_digit, decimal_step}
use Rattle.json.specs.Print.{escape_byte}
use Rattle.agv_desk.specs.declared.answer.Answer.TheVariants as answer
use Rattle.agv_header.specs.declared.refusal.Refusal.TheVariants as refusal
use Rattle.agv_face_http.specs.answers.Answers.{answer_text}
use Rattle.agv_face_http.specs.answers.Heads.{head_text, line_end}

two_digits : (a b : ℕ) → decimal a ≡ (48 + a) ∷ [] → decimal b ≡ decimal a ++ (48 + b % 10) ∷ [] → decimal b ≡ (48 + a) ∷ (48 + b % 10) ∷ []
two_digits a b first step = step ∙ ap (λ (l : List ℕ). l ++ (48 + b % 10) ∷ []) first

d30 : decimal 30 ≡ codes "30"
d30 = two_digits 3 30 (decimal_digit 3 (lit< tt)) (decimal_step 30 (lit≤ tt) (lit< tt))

d31 : decimal 31 ≡ codes "31"
d31 = two_digits 3 31 (decimal_digit 3 (lit< tt)) (decimal_step 31 (lit≤ tt) (lit< tt))

d90 : decimal 90 ≡ codes "90"
d90 = two_digits 9 90 (decimal_digit 9 (lit< tt)) (decimal_step 90 (lit≤ tt) (lit< tt))

d91 : decimal 91 ≡ codes "91"
d91 = two_digits 9 91 (decimal_digit 9 (lit< tt)) (decimal_step 91 (lit≤ tt) (lit< tt))

d503 : decimal 503 ≡ codes "503"
d503 =
    decimal_step 503 (lit≤ tt) (lit< tt)
    ∙ ap (λ (l : List ℕ). l ++ 51 ∷ []) (two_digits 5 50 (decimal_digit 5 (lit< tt)) (decimal_step 50 (lit≤ tt) (lit< tt)))

-- want of memory
pub memory_text : codes "HTTP/1.1 503 Service Unavailable" ++ (line_end ++ (codes "Content-Length: 30" ++ (line_end ++ (codes "Content-Type: application/json" ++ (line_end ++ (codes "Connection: close" ++ (line_end ++ (line_end ++ codes "{\"name\":\"Memory\",\"refusal\":90}"))))))))
    ≡ answer_text (answer.Refused refusal.Memory) true
unfolding answer_text head_text escape_byte
memory_text = rw (d503, d90, d30)

-- a fault of the store
pub storage_text : codes "HTTP/1.1 503 Service Unavailable" ++ (line_end ++ (codes "Content-Length: 31" ++ (line_end ++ (codes "Content-Type: application/json" ++ (line_end ++ (codes "Connection: close" ++ (line_end ++ (line_end ++ codes "{\"name\":\"Storage\",\"refusal\":91}"))))))))
    ≡ answer_text (answer.Refused refusal.Storage) true
unfolding answer_text head_text escape_byte
storage_text = rw (d503, d91, d31)
