-- An input as a list of requests: one whole request after another, up to the end, a fault, or a request that ends the stream.
use Rattle.std.specs.Prelude.{◌≡◌, ℕ, true, false, List, [], ◌∷◌, ◌++◌}
use Rattle.agv_header.specs.declared.refusal.Refusal.{Refusal}
use Rattle.agv_face_http.specs.request.Requests.{Request, IsRequest, IsFault, is_last}

-- how an input ends after its last whole request
pub data Ending : Type 0 where
  -- no byte is left
  at_end : Ending
  -- the request was the last of its stream; bytes after it are ignored
  closed : Ending
  -- the rest of the input begins with no request
  faulty : Refusal → Ending

-- the input is these requests, one after another, and ends so
pub data Cut : List ℕ → List Request → Ending → Type 0 where
  no_more : (bytes : List ℕ) → bytes ≡ [] → Cut bytes [] at_end
  a_fault : (bytes : List ℕ) (fault : Refusal) → IsFault bytes fault → Cut bytes [] (faulty fault)
  the_last : (bytes part rest : List ℕ) (request : Request) → bytes ≡ part ++ rest → IsRequest part request → is_last request ≡ true → Cut bytes (request ∷ []) closed
  one_more : (bytes part rest : List ℕ) (request : Request) (requests : List Request) (ending : Ending)
      → bytes ≡ part ++ rest → IsRequest part request → is_last request ≡ false → Cut rest requests ending → Cut bytes (request ∷ requests) ending
