-- How a stream goes on after what is served of it, or ends.
use Rattle.std.proofs.Common.{◌≡◌, ◌⊎◌, ◌+◌, ℕ, Bool, true, false, List, [], ◌∷◌, ◌++◌, length, take, drop, Option, IsErr, refl, sym, ap, ◌∙◌, subst, inl, inr, arith, append_assoc, append-nil, length-append, take-append-drop}
use Rattle.std.specs.Io.KnownBytes.{Appends, Consumes, Keeps}
use Rattle.std.proofs.KnownBytes.{Appends-trans, Consumes-kept}
use Rattle.sqlite_trees.specs.declared.store.Store.{Ghosts}
use Rattle.agv_header.specs.declared.refusal.Refusal.{Refusal}
use Rattle.agv_desk.specs.Outcomes.{after}
use Rattle.agv_face_http.specs.request.Cut.{Cut, at_end, closed, faulty}
use Rattle.agv_face_http.specs.request.Fronts.{GoesOnBy, HasNext, IsSoFar}
use Rattle.agv_face_http.specs.request.Heard.{IsHeard}
use Rattle.agv_face_http.specs.Output.{answers_to, calls_of, outcome_by, refusal_text, world_after}
use Rattle.agv_face_http.specs.request.Requests.{Request}
use Rattle.agv_face_http.specs.StreamEnds.{HasMachineFault, IsLastRefusal, IsNextAnswer, IsReadFault, IsWriteFault}
use Rattle.agv_face_http.specs.declared.request.heard.Heard.TheVariants as heard
use Rattle.agv_face_http.specs.declared.request.heard.RequestRef.{RequestRef}
use Rattle.agv_store_floor.specs.Floors.{Keyed, Knows, world_at}
use Rattle.agv_store_schema.specs.SchemaNumbers.{desk_seats}
use Rattle.agv_store_schema.specs.Connections.{IsClean, IsOpen}
use Rattle.agv_world_core.specs.Worlds.{World}
use Rattle.agv_face.specs.Bytes.{IsCut}
use Rattle.agv_face.specs.StreamEnd.{HaveCome, IsEnd, IsInput, Leaves}
use Rattle.agv_face.specs.Replies.{IsAnswered, IsLaterDesk, call_of_lent, text_for}
use Rattle.agv_face.specs.CountingIo.{inner_of, FailedNever}
use Rattle.agv_face.specs.declared.stream_end.Ended.TheVariants as ended_by
use Rattle.agv_face.specs.declared.counting_io.CountingIo.{CountingIo}
use Rattle.agv_face.proofs.HasServed.{HasServed}
use Rattle.agv_face.proofs.HasServed as served
use Rattle.agv_face.proofs.Serving.{later_then}
use Rattle.agv_face.proofs.StaysKnown.{StaysKnown}
use Rattle.agv_face.proofs.InTurn.{AnswersInTurn, CallsInTurn, WorldsInTurn, next_answers, next_no_call, next_text, next_world}

-- the desk, the reader and the writer, each at the start and now; whether the input has ended, what has come and isn't served, and how many answers were written
module _ {S R W : Type 0} (g : Ghosts S) (remaining : R → Option (List ℕ)) (contents : W → Option (List ℕ)) (at : ℕ) (desk : Keyed S) (reader : CountingIo R) (writer : CountingIo W) where
  abbrev start : World
  start = world_at g desk.held

  module _ (now : Keyed S) (reader_now : CountingIo R) (writer_now : CountingIo W) (ended : Bool) (buf : List ℕ) (answers : ℕ) (s : HasServed g remaining contents at desk reader writer now reader_now writer_now ended buf answers) where
    abbrev written : List ℕ
    written = answers_to desk_seats start at s.requests

    abbrev reached : World
    reached = world_after desk_seats start at s.requests

    -- the whole input
    abbrev input : List ℕ
    input = served.input g remaining contents at desk reader writer now reader_now writer_now ended buf answers s

    abbrev more : List ℕ
    more = served.more g remaining contents at desk reader writer now reader_now writer_now ended buf answers s

    is_input : IsInput remaining reader input
    is_input = served.is_input g remaining contents at desk reader writer now reader_now writer_now ended buf answers s

    parts : input ≡ s.front ++ (buf ++ more)
    parts = served.parts g remaining contents at desk reader writer now reader_now writer_now ended buf answers s

    follows : ended ≡ true → more ≡ []
    follows = served.follows g remaining contents at desk reader writer now reader_now writer_now ended buf answers s

    -- what was written
    wrote_answers : IsClean g now.held → Appends (contents (inner_of writer)) (contents (inner_of writer_now)) written
    wrote_answers clean = let Wrote : List ℕ → Type 0 = λ text. Appends (contents (inner_of writer)) (contents (inner_of writer_now)) text in subst Wrote (s.sent_is clean) s.wrote

    -- what is written behind that, and which world the desk knows then
    module _ (then : Keyed S) (writer_then : CountingIo W) (later : IsClean g then.held → IsClean g now.held) where
      leaves : (IsSo : World → List ℕ → World → Type 0) (text : List ℕ) (left : World) → IsClean g then.held
          → IsSo start (written ++ text) left → Appends (contents (inner_of writer_now)) (contents (inner_of writer_then)) text → (IsOpen g then.held → Knows g then.held left)
          → Leaves g contents desk then writer writer_then IsSo
      leaves IsSo text left clean is_so wrote knows = record {
        out = written ++ text;
        left = left;
        is_so = is_so;
        written = Appends-trans _ _ _ _ _ (wrote_answers (later clean)) wrote;
        knows = knows;
      }

      -- of the next text a front is written, and not all
      cut_short : (text : List ℕ) (left : World) → IsNextAnswer desk_seats start at input s.requests text left ⊎ IsLastRefusal desk_seats start at input s.requests text left
          → IsCut (contents (inner_of writer_now)) (contents (inner_of writer_then)) text → IsClean g then.held → (IsOpen g then.held → Knows g then.held left)
          → (bytes : List ℕ) × IsInput remaining reader bytes × Leaves g contents desk then writer writer_then (λ world out left. IsWriteFault desk_seats world at bytes out left answers)
      cut_short text left is_next part clean knows = (
        input,
        is_input,
        leaves (λ world out left. IsWriteFault desk_seats world at input out left answers) part.front left clean
            (record {
              requests = s.requests;
              text = text;
              is_next = is_next;
              front = part.front;
              lacking = part.lacking;
              parts = part.parts;
              some_lacks = part.some_lacks;
              written = refl;
              counted = s.counted;
            })
            part.wrote knows,
      )

    -- the desk is as it was
    module _ (knows : IsClean g now.held → IsOpen g now.held → Knows g now.held (world_at g now.held)) where
      knows_reached : IsClean g now.held → IsOpen g now.held → Knows g now.held reached
      knows_reached clean still = let Known : World → Type 0 = λ world. Knows g now.held world in subst Known (s.world_is clean) (knows clean still)

      -- nothing is written any more
      leaves_now : (IsSo : World → List ℕ → World → Type 0) → IsClean g now.held → IsSo start written reached → Leaves g contents desk now writer writer_now IsSo
      leaves_now IsSo clean is_so = record {
        out = written;
        left = reached;
        is_so = is_so;
        written = wrote_answers clean;
        knows = knows_reached clean;
      }

      -- the input has ended
      pub ends_at_end : Cut (s.front ++ buf) s.requests at_end → ended ≡ true → IsClean g now.held
          → (bytes : List ℕ) × IsInput remaining reader bytes × Leaves g contents desk now writer writer_now (IsEnd bytes at answers ended_by.End)
      ends_at_end cut is clean =
          let none : more ≡ [] = follows is in
          let all : input ≡ s.front ++ buf = parts ∙ ap (λ (rest : List ℕ). s.front ++ (buf ++ rest)) none ∙ ap (λ (rest : List ℕ). s.front ++ rest) (append-nil buf) in
          let IsCutSo : List ℕ → Type 0 = λ bytes. Cut bytes s.requests at_end in (
            input,
            is_input,
            leaves_now (IsEnd input at answers ended_by.End) clean (record {
              output = record {
                requests = s.requests;
                ending = at_end;
                cut = subst IsCutSo (sym all) cut;
                written = sym (append-nil written);
                world_is = refl;
              };
              ending_is = refl;
              counted = omega (arith, s.counted);
            }),
          )

      -- there is a fault of HTTP, and its refusal is written
      module _ (why : Refusal) (heard_is : IsHeard buf ended (heard.Fault why)) (goes : (rest : List ℕ) → (ended ≡ true → rest ≡ []) → Cut (s.front ++ (buf ++ rest)) s.requests (faulty why)) (writer_then : CountingIo W) where
        pub ends_faulty : Appends (contents (inner_of writer_now)) (contents (inner_of writer_then)) (refusal_text why) → IsClean g now.held
            → (bytes : List ℕ) × IsInput remaining reader bytes × Leaves g contents desk now writer writer_then (IsEnd bytes at (answers + 1) (ended_by.Refused why))
        ends_faulty wrote clean =
            let IsCutSo : List ℕ → Type 0 = λ bytes. Cut bytes s.requests (faulty why) in (
              input,
              is_input,
              leaves now writer_then (λ is. is) (IsEnd input at (answers + 1) (ended_by.Refused why)) (refusal_text why) reached clean
                  (inl (record {
                    output = record {
                      requests = s.requests;
                      ending = faulty why;
                      cut = subst IsCutSo (sym parts) (goes more follows);
                      written = refl;
                      world_is = refl;
                    };
                    ending_is = refl;
                    counted = omega (arith, s.counted);
                  }))
                  wrote (knows_reached clean),
            )

        -- or it is cut
        pub cut_faulty : IsCut (contents (inner_of writer_now)) (contents (inner_of writer_then)) (refusal_text why) → IsClean g now.held
            → (bytes : List ℕ) × IsInput remaining reader bytes × Leaves g contents desk now writer writer_then (λ world out left. IsWriteFault desk_seats world at bytes out left answers)
        cut_faulty part clean =
            cut_short now writer_then (λ is. is) (refusal_text why) reached
            (inr (record {
              why = why;
              cause = inl (record { front = s.front; rest = buf ++ more; parts = parts; cut = s.cut; rest_is = heard_is more follows });
              text_is = refl;
              world_is = refl;
            }))
            part clean (knows_reached clean)

      -- more bytes are needed, and none come
      pub ends_unread : (reader_then : CountingIo R) → IsSoFar (s.front ++ buf) s.requests → Keeps (remaining (inner_of reader_now)) (remaining (inner_of reader_then)) → IsClean g now.held
          → (bytes : List ℕ) × HaveCome remaining reader reader_then bytes × Leaves g contents desk now writer writer_now (λ world out left. IsReadFault desk_seats world at bytes out left answers)
      ends_unread reader_then so_far kept clean = (
        s.front ++ buf,
        Consumes-kept _ _ _ (s.front ++ buf) s.came kept,
        leaves_now (λ world out left. IsReadFault desk_seats world at (s.front ++ buf) out left answers) clean (record {
          requests = s.requests;
          so_far = so_far;
          served = record { written = sym (append-nil written); world_is = refl };
          counted = s.counted;
        }),
      )

    -- a fault of the machine leaves the world
    module _ (then : Keyed S) (writer_then : CountingIo W) (later : IsClean g then.held → IsClean g now.held) (left : IsClean g then.held → IsOpen g then.held → world_at g then.held ≡ world_at g now.held)
        (knows : IsClean g then.held → IsOpen g then.held → Knows g then.held (world_at g then.held)) (why : Refusal) (machine : HasMachineFault input s.requests why) where
      knows_still : IsClean g then.held → IsOpen g then.held → Knows g then.held reached
      knows_still clean still = let Known : World → Type 0 = λ world. Knows g then.held world in subst Known (left clean still ∙ s.world_is (later clean)) (knows clean still)

      pub ends_refused : Appends (contents (inner_of writer_now)) (contents (inner_of writer_then)) (refusal_text why) → IsClean g then.held
          → (bytes : List ℕ) × IsInput remaining reader bytes × Leaves g contents desk then writer writer_then (IsEnd bytes at (answers + 1) (ended_by.Refused why))
      ends_refused wrote clean = (
        input,
        is_input,
        leaves then writer_then later (IsEnd input at (answers + 1) (ended_by.Refused why)) (refusal_text why) reached clean
            (inr (record {
              requests = s.requests;
              cause = machine;
              served = record { written = refl; world_is = refl };
              counted = omega (arith, s.counted);
            }))
            wrote (knows_still clean),
      )

      pub cut_refused : IsCut (contents (inner_of writer_now)) (contents (inner_of writer_then)) (refusal_text why) → IsClean g then.held
          → (bytes : List ℕ) × IsInput remaining reader bytes × Leaves g contents desk then writer writer_then (λ world out left. IsWriteFault desk_seats world at bytes out left answers)
      cut_refused part clean =
          cut_short then writer_then later (refusal_text why) reached (inr (record { why = why; cause = inr machine; text_is = refl; world_is = refl })) part clean (knows_still clean)

    -- a request is served, and its answer is to be written
    module _ (then : Keyed S) (writer_then : CountingIo W) (step : IsLaterDesk g now then) (failed : then.failed ≡ now.failed) (lent : RequestRef) (request : Request)
        (goes : GoesOnBy s.front buf s.requests lent request) (out : List ℕ) (answered : IsClean g then.held → IsAnswered (world_at g now.held) (world_at g then.held) at lent out)
        (answers_turn : AnswersInTurn) (worlds_turn : WorldsInTurn) where
      later : IsClean g then.held → IsClean g now.held
      later clean = step.later.clean clean

      out_is : IsClean g then.held → out ≡ text_for reached at lent
      out_is clean = (answered clean).text_is ∙ ap (λ (world : World). text_for world at lent) (s.world_is (later clean))

      all_written : IsClean g then.held → written ++ out ≡ answers_to desk_seats start at (s.requests ++ request ∷ [])
      all_written clean = ap (λ (text : List ℕ). written ++ text) (out_is clean) ∙ next_answers start at s.requests request lent goes.is_lent answers_turn

      pub world_then : IsClean g then.held → world_at g then.held ≡ world_after desk_seats start at (s.requests ++ request ∷ [])
      world_then clean =
          (answered clean).world_is ∙ ap (λ (world : World). after world (outcome_by desk_seats world at (call_of_lent lent))) (s.world_is (later clean)) ∙ next_world start at s.requests request lent goes.is_lent worlds_turn

      many : answers + 1 ≡ length (s.requests ++ request ∷ [])
      many = omega (arith, s.counted, length-append s.requests (request ∷ []))

      wrote_all : IsClean g then.held → Appends (contents (inner_of writer_now)) (contents (inner_of writer_then)) out
          → Appends (contents (inner_of writer)) (contents (inner_of writer_then)) (answers_to desk_seats start at (s.requests ++ request ∷ []))
      wrote_all clean wrote =
          let Wrote : List ℕ → Type 0 = λ text. Appends (contents (inner_of writer)) (contents (inner_of writer_then)) text in
          subst Wrote (all_written clean) (Appends-trans _ _ _ _ _ (wrote_answers (later clean)) wrote)

      pub no_call_asked : CallsInTurn → (now.failed ≡ true → IsErr (call_of_lent lent)) → desk.failed ≡ true → calls_of (s.requests ++ request ∷ []) at ≡ []
      no_call_asked calls_turn no_call was = next_no_call at s.requests request lent goes.is_lent calls_turn (s.none_asked was) (no_call (s.failed ∙ was))

      -- the stream goes on
      pub serves_on : lent.close ≡ false → Appends (contents (inner_of writer_now)) (contents (inner_of writer_then)) out → FailedNever writer_now writer_then
          → (desk.failed ≡ true → calls_of (s.requests ++ request ∷ []) at ≡ []) → StaysKnown g at desk then (s.requests ++ request ∷ [])
          → HasServed g remaining contents at desk reader writer then reader_now writer_then ended (drop lent.len buf) (answers + 1)
      serves_on stays wrote worked none_asked known =
          let here : s.front ++ buf ≡ (s.front ++ take lent.len buf) ++ drop lent.len buf =
          ap (λ (l : List ℕ). s.front ++ l) (sym (take-append-drop lent.len buf)) ∙ sym (append_assoc s.front (take lent.len buf) (drop lent.len buf)) in
          let Come : List ℕ → Type 0 = λ bytes. Consumes (remaining (inner_of reader)) (remaining (inner_of reader_now)) bytes in
          record {
            requests = s.requests ++ request ∷ [];
            front = s.front ++ take lent.len buf;
            cut = goes.stays_open stays;
            counted = many;
            came = subst Come here s.came;
            at_its_end = s.at_its_end;
            later = later_then g desk now then s.later step;
            none_asked = none_asked;
            sent = s.sent ++ out;
            wrote = Appends-trans _ _ _ _ _ s.wrote wrote;
            sent_is = λ clean. ap (λ (l : List ℕ). l ++ out) (s.sent_is (later clean)) ∙ all_written clean;
            world_is = world_then;
            failed = failed ∙ s.failed;
            read = s.read;
            put = worked ∙ s.put;
            known = known;
          }

      module _ (knows : IsClean g then.held → IsOpen g then.held → Knows g then.held (world_at g then.held)) where
        knows_then : IsClean g then.held → IsOpen g then.held → Knows g then.held (world_after desk_seats start at (s.requests ++ request ∷ []))
        knows_then clean still = let Known : World → Type 0 = λ world. Knows g then.held world in subst Known (world_then clean) (knows clean still)

        -- it was the last one
        pub ends_closed : lent.close ≡ true → Appends (contents (inner_of writer_now)) (contents (inner_of writer_then)) out → IsClean g then.held
            → (bytes : List ℕ) × IsInput remaining reader bytes × Leaves g contents desk then writer writer_then (IsEnd bytes at (answers + 1) ended_by.Close)
        ends_closed close wrote clean =
            let IsCutSo : List ℕ → Type 0 = λ bytes. Cut bytes (s.requests ++ request ∷ []) closed in (
              input,
              is_input,
              record {
                out = answers_to desk_seats start at (s.requests ++ request ∷ []);
                left = world_after desk_seats start at (s.requests ++ request ∷ []);
                is_so = record {
                  output = record {
                    requests = s.requests ++ request ∷ [];
                    ending = closed;
                    cut = subst IsCutSo (sym parts) (goes.closes close more);
                    written = sym (append-nil (answers_to desk_seats start at (s.requests ++ request ∷ [])));
                    world_is = refl;
                  };
                  ending_is = refl;
                  counted = omega (arith, many);
                };
                written = wrote_all clean wrote;
                knows = knows_then clean;
              },
            )

        -- its answer is cut
        pub cut_answer : IsCut (contents (inner_of writer_now)) (contents (inner_of writer_then)) out → IsClean g then.held
            → (bytes : List ℕ) × IsInput remaining reader bytes × Leaves g contents desk then writer writer_then (λ world text left. IsWriteFault desk_seats world at bytes text left answers)
        cut_answer part clean =
            let HasNextSo : List ℕ → Type 0 = λ bytes. HasNext bytes s.requests request in
            cut_short then writer_then step.later.clean out (world_after desk_seats start at (s.requests ++ request ∷ []))
            (inl (record {
              request = request;
              next = subst HasNextSo (sym parts) (goes.next more);
              text_is = out_is clean ∙ next_text start at s.requests request lent goes.is_lent;
              world_is = refl;
            }))
            part clean (knows_then clean)
