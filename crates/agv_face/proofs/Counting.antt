-- How far a stream has come as it ends, whatever the disk answers.
use Rattle.std.proofs.Common.{◌≡◌, ◌⊎◌, ◌+◌, ℕ, Bool, true, List, [], ◌∷◌, ◌++◌, Option, Ok, Err, inl, sym, ap, ◌∙◌, subst, arith, append-nil, length-append}
use Rattle.std.specs.Io.KnownBytes.{Appends, Keeps}
use Rattle.std.proofs.KnownBytes.{Appends-trans, Consumes-kept}
use Rattle.sqlite_trees.specs.declared.store.Store.{Ghosts}
use Rattle.agv_header.specs.declared.refusal.Refusal.{Refusal}
use Rattle.agv_face_http.specs.request.Cut.{Cut, at_end, closed, faulty}
use Rattle.agv_face_http.specs.request.Fronts.{IsSoFar}
use Rattle.agv_face_http.specs.Output.{calls_of, refusal_text}
use Rattle.agv_face_http.specs.request.Requests.{Request}
use Rattle.agv_face_http.specs.StreamEnds.{HasCallNext, HasMachineFault, IsOfMachine}
use Rattle.agv_store_floor.specs.Floors.{Keyed}
use Rattle.agv_face.specs.StreamCalls.{AreDone, AreDoneOrCut, AreDoneOrNext}
use Rattle.agv_face.specs.StreamEnd.{IsCounted}
use Rattle.agv_face.specs.CountingIo.{inner_of}
use Rattle.agv_face.specs.declared.stream_end.Ended.TheVariants as ended_by
use Rattle.agv_face.specs.declared.stream_end.StreamFault.TheVariants as fault
use Rattle.agv_face.specs.declared.counting_io.CountingIo.{CountingIo}
use Rattle.agv_face.proofs.HasServed.{HasServed, begins, follows, input, is_input, more, parts}

module _ {S R W : Type 0} (g : Ghosts S) (remaining : R → Option (List ℕ)) (contents : W → Option (List ℕ)) (at : ℕ) (desk : Keyed S) (reader : CountingIo R) (writer : CountingIo W)
    (now : Keyed S) (reader_now : CountingIo R) (writer_now : CountingIo W) (ended : Bool) (buf : List ℕ) (answers : ℕ)
    (s : HasServed g remaining contents at desk reader writer now reader_now writer_now ended buf answers) where
  abbrev all : List ℕ
  all = input g remaining contents at desk reader writer now reader_now writer_now ended buf answers s

  abbrev rest : List ℕ
  rest = more g remaining contents at desk reader writer now reader_now writer_now ended buf answers s

  parted : all ≡ s.front ++ (buf ++ rest)
  parted = parts g remaining contents at desk reader writer now reader_now writer_now ended buf answers s

  -- the input has ended
  pub counts_at_end : (then : Keyed S) (reader_then : CountingIo R) → Cut (s.front ++ buf) s.requests at_end → ended ≡ true → AreDone g at desk then s.requests
      → IsCounted g remaining contents at desk then reader reader_then writer writer_now (Ok (record { answers = answers; ended = ended_by.End }))
  counts_at_end then reader_then cut is done =
      let none : rest ≡ [] = follows g remaining contents at desk reader writer now reader_now writer_now ended buf answers s is in
      let whole : all ≡ s.front ++ buf = parted ∙ ap (λ (l : List ℕ). s.front ++ (buf ++ l)) none ∙ ap (λ (l : List ℕ). s.front ++ l) (append-nil buf) in
      let IsCutSo : List ℕ → Type 0 = λ bytes. Cut bytes s.requests at_end in
      let Wrote : List ℕ → Type 0 = λ text. Appends (contents (inner_of writer)) (contents (inner_of writer_now)) text in (
        all,
        is_input g remaining contents at desk reader writer now reader_now writer_now ended buf answers s,
        s.requests,
        subst IsCutSo (sym whole) cut,
        omega (arith, s.counted),
        s.none_asked,
        (s.sent, subst Wrote (sym (append-nil s.sent)) s.wrote),
        done,
      )

  -- the last request is answered
  pub counts_closed : (then : Keyed S) (reader_then : CountingIo R) (writer_then : CountingIo W) (request : Request) (out : List ℕ) → ((rest : List ℕ) → Cut (s.front ++ (buf ++ rest)) (s.requests ++ request ∷ []) closed)
      → (desk.failed ≡ true → calls_of (s.requests ++ request ∷ []) at ≡ []) → Appends (contents (inner_of writer_now)) (contents (inner_of writer_then)) out
      → AreDone g at desk then (s.requests ++ request ∷ [])
      → IsCounted g remaining contents at desk then reader reader_then writer writer_then (Ok (record { answers = answers + 1; ended = ended_by.Close }))
  counts_closed then reader_then writer_then request out cut none_asked wrote done =
      let IsCutSo : List ℕ → Type 0 = λ bytes. Cut bytes (s.requests ++ request ∷ []) closed in
      let Wrote : List ℕ → Type 0 = λ text. Appends (contents (inner_of writer)) (contents (inner_of writer_then)) text in (
        all,
        is_input g remaining contents at desk reader writer now reader_now writer_now ended buf answers s,
        s.requests ++ request ∷ [],
        subst IsCutSo (sym parted) (cut rest),
        omega (arith, s.counted, length-append s.requests (request ∷ [])),
        none_asked,
        (s.sent ++ out, subst Wrote (sym (append-nil (s.sent ++ out))) (Appends-trans _ _ _ _ _ s.wrote wrote)),
        done,
      )

  -- a refusal is written
  pub counts_refused : (then : Keyed S) (reader_then : CountingIo R) (writer_then : CountingIo W) (why : Refusal) → Cut all s.requests (faulty why) ⊎ HasMachineFault all s.requests why
      → Appends (contents (inner_of writer_now)) (contents (inner_of writer_then)) (refusal_text why)
      → AreDone g at desk then s.requests ⊎ (IsOfMachine why × AreDoneOrNext g at desk then all s.requests)
      → IsCounted g remaining contents at desk then reader reader_then writer writer_then (Ok (record { answers = answers + 1; ended = ended_by.Refused why }))
  counts_refused then reader_then writer_then why cause wrote done = (
    all,
    is_input g remaining contents at desk reader writer now reader_now writer_now ended buf answers s,
    s.requests,
    cause,
    omega (arith, s.counted),
    s.none_asked,
    (s.sent, Appends-trans _ _ _ _ _ s.wrote wrote),
    done,
  )

  -- that of a fault of HTTP
  pub counts_faulty : (then : Keyed S) (reader_then : CountingIo R) (writer_then : CountingIo W) (why : Refusal) → ((rest : List ℕ) → (ended ≡ true → rest ≡ []) → Cut (s.front ++ (buf ++ rest)) s.requests (faulty why))
      → Appends (contents (inner_of writer_now)) (contents (inner_of writer_then)) (refusal_text why) → AreDone g at desk then s.requests
      → IsCounted g remaining contents at desk then reader reader_then writer writer_then (Ok (record { answers = answers + 1; ended = ended_by.Refused why }))
  counts_faulty then reader_then writer_then why cut wrote done =
      let IsCutSo : List ℕ → Type 0 = λ bytes. Cut bytes s.requests (faulty why) in
      counts_refused then reader_then writer_then why (inl (subst IsCutSo (sym parted) (cut rest (follows g remaining contents at desk reader writer now reader_now writer_now ended buf answers s)))) wrote (inl done)

  -- no more bytes come
  pub counts_unread : (then : Keyed S) (reader_then : CountingIo R) (writer_then : CountingIo W) → IsSoFar (s.front ++ buf) s.requests → Keeps (remaining (inner_of reader_now)) (remaining (inner_of reader_then)) → AreDone g at desk then s.requests
      → IsCounted g remaining contents at desk then reader reader_then writer writer_then (Err (fault.Read answers))
  counts_unread then reader_then writer_then so_far kept done = (s.front ++ buf, Consumes-kept _ _ _ (s.front ++ buf) s.came kept, s.requests, so_far, s.counted, s.none_asked, done)

  -- an answer is cut
  pub counts_cut : (then : Keyed S) (reader_then : CountingIo R) (writer_then : CountingIo W) → (then.failed ≡ desk.failed) ⊎ HasCallNext all s.requests → AreDoneOrCut g at desk then all s.requests
      → IsCounted g remaining contents at desk then reader reader_then writer writer_then (Err (fault.Write answers))
  counts_cut then reader_then writer_then fails done = (
    all,
    is_input g remaining contents at desk reader writer now reader_now writer_now ended buf answers s,
    s.requests,
    begins g remaining contents at desk reader writer now reader_now writer_now ended buf answers s,
    s.counted,
    s.none_asked,
    fails,
    done,
  )
