-- The method of a request is a token.
use Rattle.std.proofs.Common.{◌≡◌, ℕ, List, get_or, refl, sym, ap, subst, ◌∙◌}
use Rattle.http_header.specs.Token as token
use Rattle.httparse.specs.Grammar as grammar
use Rattle.agv_face_http.specs.request.Requests.{Request, IsRequest}

same_byte : (b : ℕ) → token.is_token_byte b ≡ grammar.is_token_byte b
unfolding token.is_token_byte grammar.is_token_byte
same_byte b = refl

same_token : (word : List ℕ) → grammar.IsToken word → token.IsToken word
same_token word is = (is.0, λ k d here. same_byte (get_or word k d) ∙ is.1 k d here)

pub method_is_token : (bytes word : List ℕ) (request : Request) → IsRequest bytes request → word ≡ request.method → token.IsToken word
method_is_token bytes word request is same =
    let T : List ℕ → Type 0 = λ l. token.IsToken l in
    subst T (sym (same ∙ ap (λ (r : Request). r.method) is.4)) (same_token is.0.method is.2.reads.0.method)
