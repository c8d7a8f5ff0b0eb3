-- What of a stream is served so far.
use Rattle.std.proofs.Common.{◌≡◌, ◌⊎◌, ℕ, Bool, true, false, not, List, [], ◌++◌, length, take, drop, Option, IsOk, refl, sym, ap, ◌∙◌, subst, append_assoc, take-append-drop}
use Rattle.std.specs.Io.KnownBytes.{Appends, Consumes, IsAtEnd}
use Rattle.std.proofs.KnownBytes.{Appends-nil, Consumes-nil, Consumes-trans}
use Rattle.sqlite_trees.specs.declared.store.Store.{Ghosts}
use Rattle.agv_header.specs.declared.refusal.Refusal.{Refusal}
use Rattle.agv_header.specs.declared.refusal.Refusal.TheVariants as refusal
use Rattle.agv_face_http.specs.request.Cut.{Cut, at_end, no_more}
use Rattle.agv_face_http.specs.request.Fronts.{Begins, GoesOnBy, HasNext}
use Rattle.agv_face_http.specs.request.Heard.{HasRequest}
use Rattle.agv_face_http.specs.Output.{answers_to, calls_of, world_after}
use Rattle.agv_face_http.specs.request.Requests.{Request}
use Rattle.agv_face_http.specs.StreamEnds.{HasCallNext, HasMachineFault, HasRequestNext, IsOfMachine}
use Rattle.agv_face_http.specs.declared.request.heard.RequestRef.{RequestRef}
use Rattle.agv_store_floor.specs.Floors.{Keyed, world_at}
use Rattle.agv_store_schema.specs.SchemaNumbers.{desk_seats}
use Rattle.agv_store_schema.specs.Connections.{IsClean}
use Rattle.agv_world_core.specs.Worlds.{World}
use Rattle.agv_face.specs.Bytes.{IsRead}
use Rattle.agv_face.specs.StreamEnd.{IsInput}
use Rattle.agv_face.specs.Replies.{IsLaterDesk, call_of_lent}
use Rattle.agv_face.specs.CountingIo.{inner_of, FailedNever}
use Rattle.agv_face.specs.declared.counting_io.CountingIo.{CountingIo}
use Rattle.agv_face.proofs.Serving.{later_still}
use Rattle.agv_face.proofs.StaysKnown.{StaysKnown, known_none}
use Rattle.agv_face.proofs.InTurn.{is_call, no_answer, no_calls, no_change, whole}

-- the desk, the reader and the writer, each at the start and now; whether the input has ended, what has come and isn't served, and how many answers were written
module _ {S R W : Type 0} (g : Ghosts S) (remaining : R → Option (List ℕ)) (contents : W → Option (List ℕ)) (at : ℕ) (desk : Keyed S) (reader : CountingIo R) (writer : CountingIo W) where
  abbrev start : World
  start = world_at g desk.held

  -- these requests are served, and their answers written
  pub record HasServed (now : Keyed S) (reader_now : CountingIo R) (writer_now : CountingIo W) (ended : Bool) (buf : List ℕ) (answers : ℕ) : Type 0 where
    pub requests : List Request
    pub front : List ℕ
    pub cut : Cut front requests at_end
    pub counted : answers ≡ length requests
    pub came : Consumes (remaining (inner_of reader)) (remaining (inner_of reader_now)) (front ++ buf)
    pub at_its_end : ended ≡ true → IsAtEnd (remaining (inner_of reader_now))
    pub later : IsLaterDesk g desk now
    -- where the store had failed before, none of them is a call
    pub none_asked : desk.failed ≡ true → calls_of requests at ≡ []
    pub sent : List ℕ
    pub wrote : Appends (contents (inner_of writer)) (contents (inner_of writer_now)) sent
    pub sent_is : IsClean g now.held → sent ≡ answers_to desk_seats start at requests
    pub world_is : IsClean g now.held → world_at g now.held ≡ world_after desk_seats start at requests
    pub failed : now.failed ≡ desk.failed
    pub read : FailedNever reader reader_now
    pub put : FailedNever writer writer_now
    pub known : StaysKnown g at desk now requests

  -- ---- at the start

  pub none_served : HasServed desk reader writer false [] 0
  none_served = record {
    requests = [];
    front = [];
    cut = no_more [] refl;
    counted = refl;
    came = Consumes-nil (remaining (inner_of reader));
    at_its_end = λ e. let absurdly : false ≡ true = e in cc;
    later = later_still g desk;
    none_asked = λ _. no_calls at;
    sent = [];
    wrote = Appends-nil (contents (inner_of writer));
    sent_is = λ _. sym (no_answer start at);
    world_is = λ _. sym (no_change start at);
    failed = refl;
    read = refl;
    put = refl;
    known = known_none g at desk;
  }

  pub none_yet : none_served.requests ≡ []
  unfolding none_served
  none_yet = refl

  -- ---- from one moment to the next

  module _ (now : Keyed S) (reader_now : CountingIo R) (writer_now : CountingIo W) (ended : Bool) (buf : List ℕ) (answers : ℕ) (s : HasServed now reader_now writer_now ended buf answers) where
    -- the whole input
    abbrev pub input : List ℕ
    input = (whole _ _ (s.front ++ buf) ended s.came s.at_its_end).0

    abbrev pub more : List ℕ
    more = (whole _ _ (s.front ++ buf) ended s.came s.at_its_end).1

    pub is_input : IsInput remaining reader input
    is_input = (whole _ _ (s.front ++ buf) ended s.came s.at_its_end).2

    pub parts : input ≡ s.front ++ (buf ++ more)
    parts = (whole _ _ (s.front ++ buf) ended s.came s.at_its_end).3 ∙ append_assoc s.front buf more

    pub begins : Begins input s.requests
    begins = record { front = s.front; rest = buf ++ more; parts = parts; cut = s.cut; rest_is = tt }

    -- the next request is a call
    pub has_call : (lent : RequestRef) (request : Request) → GoesOnBy s.front buf s.requests lent request → IsOk (call_of_lent lent) → HasCallNext input s.requests
    has_call lent request goes made = let HasNextSo : List ℕ → Type 0 = λ bytes. HasNext bytes s.requests request in (request, subst HasNextSo (sym parts) (goes.next more), is_call request lent goes.is_lent made)

    -- there is a fault of the machine
    pub machine_fault : (why : Refusal) → IsOfMachine why → (why ≡ refusal.Storage → HasCallNext input s.requests) → (why ≡ refusal.Memory → (s.requests ≡ []) ⊎ HasRequestNext input s.requests)
        → HasMachineFault input s.requests why
    machine_fault why of_machine of_call of_request = record { begins = begins; of_machine = of_machine; of_call = of_call; of_request = of_request }

    -- the buffer begins with another request
    pub has_request : (len : ℕ) → HasRequest buf len (λ request. Unit {0}) → HasRequestNext input s.requests
    has_request len found =
        let request : Request = found.2 in (
          request,
          record {
            front = s.front;
            rest = buf ++ more;
            parts = parts;
            cut = s.cut;
            rest_is = (take len buf, drop len buf ++ more, ap (λ (bytes : List ℕ). bytes ++ more) (sym (take-append-drop len buf)) ∙ append_assoc (take len buf) (drop len buf) more, found.3);
          },
        )

    pub follows : ended ≡ true → more ≡ []
    follows = (whole _ _ (s.front ++ buf) ended s.came s.at_its_end).4

  -- a read
  pub reads_on : (now : Keyed S) (reader_now reader_then : CountingIo R) (writer_now : CountingIo W) (ended : Bool) (buf buf_then : List ℕ) (answers : ℕ) (got : Bool)
      → HasServed now reader_now writer_now ended buf answers → IsRead remaining reader_now reader_then buf buf_then got → HasServed now reader_then writer_now (not got) buf_then answers
  reads_on now reader_now reader_then writer_now ended buf buf_then answers got s r =
      let Come : List ℕ → Type 0 = λ bytes. Consumes (remaining (inner_of reader)) (remaining (inner_of reader_then)) bytes in
      let here : (s.front ++ buf) ++ r.bytes ≡ s.front ++ buf_then = append_assoc s.front buf r.bytes ∙ ap (λ (l : List ℕ). s.front ++ l) (sym r.put) in
      record {
        requests = s.requests;
        front = s.front;
        cut = s.cut;
        counted = s.counted;
        came = subst Come here (Consumes-trans _ _ _ (s.front ++ buf) r.bytes s.came r.came);
        at_its_end = elim got as (λ m. (m ≡ false → (r.bytes ≡ []) × IsAtEnd (remaining (inner_of reader_then))) → not m ≡ true → IsAtEnd (remaining (inner_of reader_then))) [ true ↦ λ f t. cc | false ↦ λ f t. (f refl).1 ] r.at_end;
        later = s.later;
        none_asked = s.none_asked;
        sent = s.sent;
        wrote = s.wrote;
        sent_is = s.sent_is;
        world_is = s.world_is;
        failed = s.failed;
        read = r.worked ∙ s.read;
        put = s.put;
        known = s.known;
      }
