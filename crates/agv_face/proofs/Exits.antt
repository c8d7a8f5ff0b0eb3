-- How a stream goes on or ends after its next request.
use Rattle.std.proofs.Common.{◌≡◌, ◌+◌, ◌<◌, ◌≤◌, ◌⊎◌, ◌++◌, ℕ, Bool, true, false, not, nat_lt, if◌then◌else◌, List, [], ◌∷◌, length, codes, Option, Result, Ok, Err, drop, inl, inr, refl, sym, ap, ◌∙◌, subst}
use Rattle.std.specs.Io.KnownBytes.{Appends, Keeps}
use Rattle.sqlite_trees.specs.declared.store.Store.{Ghosts}
use Rattle.agv_header.specs.declared.refusal.Refusal.{Refusal}
use Rattle.agv_header.specs.declared.refusal.Refusal.TheVariants as refusal
use Rattle.agv_world_core.specs.Asks.{failed_by}
use Rattle.agv_face_http.specs.request.Lines.{Length, absent, content_length, given, has_line, wrong}
use Rattle.agv_face_http.specs.Output.{calls_of}
use Rattle.agv_face_http.specs.request.Requests.{IsFault, length_needed, lines_of, most_body, sends_body}
use Rattle.agv_face_http.specs.StreamEnds.{HasCallNext, HasMachineFault, HasRequestNext, IsOfMachine}
use Rattle.agv_face_http.specs.declared.request.heard.Heard.TheVariants as heard
use Rattle.agv_store_floor.specs.Floors.{Keyed, Knows, world_at}
use Rattle.agv_store_schema.specs.Connections.{IsClean, IsOpen}
use Rattle.agv_world_core.specs.declared.fault.Fault.{Fault}
use Rattle.agv_world_core.specs.declared.fault.Fault.TheVariants as machine
use Rattle.agv_face.specs.Bytes.{IsCut, IsPutWhole, IsRead}
use Rattle.agv_face.specs.StreamEnd.{IsCounted, IsStreamEnd, failed_at_end, most_reads}
use Rattle.sqlite.specs.Held.{state}
use Rattle.sqlite.specs.State.{Survives}
use Rattle.agv_face_http.specs.request.Cut.{Cut, faulty}
use Rattle.agv_face_http.specs.request.Fronts.{HasNext}
use Rattle.agv_face.specs.Nexts.{IsNext, IsNextFault, LeavesNext}
use Rattle.agv_face.specs.StreamCalls.{AreDone, AreDoneOrNext}
use Rattle.agv_face.specs.Refusals.{IsRefused, refusal_for}
use Rattle.agv_face.specs.Replies.{IsLaterDesk}
use Rattle.agv_face.specs.CountingIo.{inner_of, RanOut}
use Rattle.agv_face.specs.declared.next.Next.{Next}
use Rattle.agv_face.specs.declared.next.Next.TheVariants as next
use Rattle.agv_face.specs.declared.stream_end.Ended.TheVariants as ended_by
use Rattle.agv_face.specs.declared.stream_end.Served.{Served}
use Rattle.agv_face.specs.declared.stream_end.StreamFault.{StreamFault}
use Rattle.agv_face.specs.declared.stream_end.StreamFault.TheVariants as fault
use Rattle.agv_face.specs.declared.counting_io.CountingIo.{CountingIo}
use Rattle.agv_face.proofs.Counting.{counts_at_end, counts_closed, counts_cut, counts_faulty, counts_refused, counts_unread}
use Rattle.agv_face.proofs.StaysKnown.{FindsKnown, StaysKnown, are_done, are_done_or_next, known_on}
use Rattle.agv_face.proofs.Serving.{later_still, survives_still}
use Rattle.agv_face.proofs.InTurn.{AnswersInTurn, CallsInTurn, GoesOnBehind, WorldsInTurn}
use Rattle.agv_face.proofs.HasServed.{HasServed, follows, has_call, has_request, input, machine_fault, more, none_served, none_yet, parts, reads_on}
use Rattle.agv_face.proofs.Streams.{cut_answer, cut_faulty, cut_refused, ends_at_end, ends_closed, ends_faulty, ends_refused, ends_unread, no_call_asked, serves_on, world_then}
use Rattle.agv_face.proofs.Writing.{failed_then}

-- ---- a fault of HTTP is none of the machine

abbrev IsUnchangedBy : Bool → Result ℕ Refusal → Type 0
IsUnchangedBy before (Ok n) = Unit {0}
IsUnchangedBy before (Err why) = failed_at_end (ended_by.Refused why) before ≡ before

either_unchanged : (before b : Bool) (one other : Result ℕ Refusal) → IsUnchangedBy before one → IsUnchangedBy before other → IsUnchangedBy before (if b then one else other)
either_unchanged before true one other first second = first
either_unchanged before false one other first second = second

needed_unchanged : (before coded : Bool) (method : List ℕ) (said : Length) → IsUnchangedBy before (length_needed coded method said)
needed_unchanged before coded method wrong = refl
needed_unchanged before coded method absent = either_unchanged before coded _ _ refl (either_unchanged before (sends_body method) _ _ refl tt)
needed_unchanged before coded method (given n) = either_unchanged before coded _ _ refl (either_unchanged before (nat_lt most_body n) _ _ refl tt)

unchanged_by : (bytes : List ℕ) (why : Refusal) → IsFault bytes why → (before : Bool) → failed_at_end (ended_by.Refused why) before ≡ before
unchanged_by bytes why (inl none) before = let Unchanged : Refusal → Type 0 = λ r. failed_at_end (ended_by.Refused r) before ≡ before in subst Unchanged (sym none.2) refl
unchanged_by bytes why (inr (inl said)) before =
    let Unchanged : Result ℕ Refusal → Type 0 = λ r. IsUnchangedBy before r in
    subst Unchanged said.3 (needed_unchanged before (has_line (codes "transfer-encoding") (lines_of said.0)) said.0.method (content_length (lines_of said.0)))
unchanged_by bytes why (inr (inr cut)) before = let Unchanged : Refusal → Type 0 = λ r. failed_at_end (ended_by.Refused r) before ≡ before in subst Unchanged (sym cut.6) refl

-- ---- a request more

-- the desk, the reader and the writer at the start and now; the desk after the next request; what has come and isn't served, as it was looked at; and what the next request is
module _ {S R W : Type 0} (g : Ghosts S) (remaining : R → Option (List ℕ)) (contents : W → Option (List ℕ)) (at reads : ℕ)
    (desk now desk_then : Keyed S) (reader reader_now : CountingIo R) (writer writer_now : CountingIo W) (ended : Bool) (buf seen out : List ℕ) (answers : ℕ) (what : Next)
    (so_far : HasServed g remaining contents at desk reader writer now reader_now writer_now ended buf answers) (hears : GoesOnBehind)
    (seen_is : seen ≡ buf) (is_next : IsNext g at now desk_then seen ended out what)
    (knows : IsClean g desk_then.held → IsOpen g desk_then.held → Knows g desk_then.held (world_at g desk_then.held)) (finds : FindsKnown g) where
  of : (w : Next) → what ≡ w → IsNext g at now desk_then buf ended out w
  of w is =
      let Seen : List ℕ → Type 0 = λ bytes. IsNext g at now desk_then bytes ended out w in
      let What : Next → Type 0 = λ v. IsNext g at now desk_then seen ended out v in
      subst Seen seen_is (subst What is is_next)

  -- the desk is as it was
  same_desk : desk_then ≡ now → HasServed g remaining contents at desk reader writer desk_then reader_now writer_now ended buf answers
  same_desk same = let So : Keyed S → Type 0 = λ d. HasServed g remaining contents at desk reader writer d reader_now writer_now ended buf answers in subst So (sym same) so_far

  -- what the calls have made of it
  abbrev whole : List ℕ
  whole = input g remaining contents at desk reader writer now reader_now writer_now ended buf answers so_far

  done_same : desk_then ≡ now → AreDone g at desk desk_then so_far.requests
  done_same same =
      let Done : Keyed S → Type 0 = λ d. AreDone g at desk d so_far.requests in
      subst Done (sym same) (are_done g at desk finds now so_far.requests so_far.known so_far.world_is)

  -- the input has ended
  pub end_found : what ≡ next.End → IsStreamEnd g remaining contents at reads desk desk_then reader reader_now writer writer_now (Ok (record { answers = answers; ended = ended_by.End }))
  end_found is =
      let found = of next.End is in
      let s = same_desk found.1 in
      let goes = hears s.front buf ended s.requests heard.End s.cut found.0 in
      ((λ clean. ends_at_end g remaining contents at desk reader writer desk_then reader_now writer_now ended buf answers s knows goes found.0.0 clean), s.read, s.put)

  pub end_counted : what ≡ next.End → IsCounted g remaining contents at desk desk_then reader reader_now writer writer_now (Ok (record { answers = answers; ended = ended_by.End }))
  end_counted is =
      let found = of next.End is in
      counts_at_end g remaining contents at desk reader writer now reader_now writer_now ended buf answers so_far desk_then reader_now (hears so_far.front buf ended so_far.requests heard.End so_far.cut found.0) found.0.0 (done_same found.1)

  -- more bytes are needed, and none come
  pub none_come : what ≡ next.Need → (reader_then : CountingIo R) → Keeps (remaining (inner_of reader_now)) (remaining (inner_of reader_then)) → RanOut (most_reads reads) reader reader_then
      → IsStreamEnd g remaining contents at reads desk desk_then reader reader_then writer writer_now (Err (fault.Read answers))
  none_come is reader_then kept out_of =
      let found = of next.Need is in
      let s = same_desk found.1 in
      let goes = hears s.front buf ended s.requests heard.Need s.cut found.0 in
      ((λ clean. ends_unread g remaining contents at desk reader writer desk_then reader_now writer_now ended buf answers s knows reader_then goes kept clean), out_of, s.put)

  pub none_counted : what ≡ next.Need → (reader_then : CountingIo R) → Keeps (remaining (inner_of reader_now)) (remaining (inner_of reader_then))
      → IsCounted g remaining contents at desk desk_then reader reader_then writer writer_now (Err (fault.Read answers))
  none_counted is reader_then kept =
      let found = of next.Need is in
      counts_unread g remaining contents at desk reader writer now reader_now writer_now ended buf answers so_far desk_then reader_then writer_now (hears so_far.front buf ended so_far.requests heard.Need so_far.cut found.0) kept (done_same found.1)

  -- some come, or the end
  pub some_come : what ≡ next.Need → (reader_then : CountingIo R) (buf_then : List ℕ) (more : Bool) → IsRead remaining reader_now reader_then buf buf_then more
      → HasServed g remaining contents at desk reader writer desk_then reader_then writer_now (not more) buf_then answers
  some_come is reader_then buf_then more got =
      reads_on g remaining contents at desk reader writer desk_then reader_now reader_then writer_now ended buf buf_then answers more (same_desk (of next.Need is).1) got

  -- there is a fault of HTTP, and so none of the machine
  pub failed_still : (why : Refusal) → what ≡ next.Fault why → desk_then.failed ≡ failed_at_end (ended_by.Refused why) desk.failed
  failed_still why is =
      let found = of (next.Fault why) is in
      ap (λ (d : Keyed S). d.failed) found.2 ∙ so_far.failed ∙ sym (unchanged_by (buf ++ []) why (found.0 [] (λ _. refl)) desk.failed)

  module _ (why : Refusal) (is : what ≡ next.Fault why) (writer_then : CountingIo W) (sent : List ℕ) (sent_is : sent ≡ out) where
    pub fault_told : IsPutWhole contents writer_now writer_then sent true
        → IsStreamEnd g remaining contents at reads desk desk_then reader reader_now writer writer_then (Ok (record { answers = answers + 1; ended = ended_by.Refused why }))
    fault_told put =
        let found = of (next.Fault why) is in
        let s = same_desk found.2 in
        let goes = hears s.front buf ended s.requests (heard.Fault why) s.cut found.0 in
        let Wrote : List ℕ → Type 0 = λ bytes. Appends (contents (inner_of writer_now)) (contents (inner_of writer_then)) bytes in
        ((λ clean. ends_faulty g remaining contents at desk reader writer desk_then reader_now writer_now ended buf answers s knows why found.0 goes writer_then (subst Wrote (sent_is ∙ found.1) put.0) clean), s.read, put.1 ∙ s.put)

    pub told_counted : IsPutWhole contents writer_now writer_then sent true
        → IsCounted g remaining contents at desk desk_then reader reader_now writer writer_then (Ok (record { answers = answers + 1; ended = ended_by.Refused why }))
    told_counted put =
        let found = of (next.Fault why) is in
        let Wrote : List ℕ → Type 0 = λ bytes. Appends (contents (inner_of writer_now)) (contents (inner_of writer_then)) bytes in
        counts_faulty g remaining contents at desk reader writer now reader_now writer_now ended buf answers so_far desk_then reader_now writer_then why
        (hears so_far.front buf ended so_far.requests (heard.Fault why) so_far.cut found.0) (subst Wrote (sent_is ∙ found.1) put.0) (done_same found.2)

    pub cut_counted : IsCounted g remaining contents at desk desk_then reader reader_now writer writer_then (Err (fault.Write answers))
    cut_counted =
        let found = of (next.Fault why) is in
        let CutSo : List ℕ → Type 0 = λ bytes. Cut bytes so_far.requests (faulty why) in
        let goes = hears so_far.front buf ended so_far.requests (heard.Fault why) so_far.cut found.0 in
        counts_cut g remaining contents at desk reader writer now reader_now writer_now ended buf answers so_far desk_then reader_now writer_then (inl (ap (λ (d : Keyed S). d.failed) found.2 ∙ so_far.failed))
        (inr (inl (
          why,
          subst CutSo (sym (parts g remaining contents at desk reader writer now reader_now writer_now ended buf answers so_far))
              (goes (more g remaining contents at desk reader writer now reader_now writer_now ended buf answers so_far) (follows g remaining contents at desk reader writer now reader_now writer_now ended buf answers so_far)),
          done_same found.2,
        )))

    pub fault_cut : IsPutWhole contents writer_now writer_then sent false
        → IsStreamEnd g remaining contents at reads desk desk_then reader reader_now writer writer_then (Err (fault.Write answers))
    fault_cut put =
        let found = of (next.Fault why) is in
        let s = same_desk found.2 in
        let goes = hears s.front buf ended s.requests (heard.Fault why) s.cut found.0 in
        let Cut : List ℕ → Type 0 = λ bytes. IsCut (contents (inner_of writer_now)) (contents (inner_of writer_then)) bytes in
        ((λ clean. cut_faulty g remaining contents at desk reader writer desk_then reader_now writer_now ended buf answers s knows why found.0 goes writer_then (subst Cut (sent_is ∙ found.1) put.0) clean), s.read, failed_then writer writer_now writer_then s.put put.1)

  -- a request was served
  module _ (step : IsLaterDesk g now desk_then) (failed : desk_then.failed ≡ now.failed) (answers_turn : AnswersInTurn) (worlds_turn : WorldsInTurn) (calls_turn : CallsInTurn)
      (len : ℕ) (close : Bool) (is : what ≡ next.Request len close) (writer_then : CountingIo W) (sent : List ℕ) (sent_is : sent ≡ out) where
    pub answer_cut : IsPutWhole contents writer_now writer_then sent false
        → IsStreamEnd g remaining contents at reads desk desk_then reader reader_now writer writer_then (Err (fault.Write answers))
    answer_cut put =
        let found = of (next.Request len close) is in
        let goes = hears so_far.front buf ended so_far.requests (heard.Request found.request) so_far.cut found.heard_is in
        let Cut : List ℕ → Type 0 = λ bytes. IsCut (contents (inner_of writer_now)) (contents (inner_of writer_then)) bytes in (
          (λ clean. cut_answer g remaining contents at desk reader writer now reader_now writer_now ended buf answers so_far desk_then writer_then step failed found.request goes.0 goes.1 out found.answered answers_turn worlds_turn knows (subst Cut sent_is put.0) clean),
          so_far.read,
          failed_then writer writer_now writer_then so_far.put put.1,
        )

    known_then : let found = of (next.Request len close) is in
        let goes = hears so_far.front buf ended so_far.requests (heard.Request found.request) so_far.cut found.heard_is in
        StaysKnown g at desk desk_then (so_far.requests ++ goes.0 ∷ [])
    known_then =
        let found = of (next.Request len close) is in
        let goes = hears so_far.front buf ended so_far.requests (heard.Request found.request) so_far.cut found.heard_is in
        known_on g at desk now desk_then so_far.requests so_far.known step.later.clean found.request goes.0 goes.1.is_lent calls_turn found.reached

    done_then : let found = of (next.Request len close) is in
        let goes = hears so_far.front buf ended so_far.requests (heard.Request found.request) so_far.cut found.heard_is in
        AreDone g at desk desk_then (so_far.requests ++ goes.0 ∷ [])
    done_then =
        let found = of (next.Request len close) is in
        let goes = hears so_far.front buf ended so_far.requests (heard.Request found.request) so_far.cut found.heard_is in
        are_done g at desk finds desk_then (so_far.requests ++ goes.0 ∷ []) known_then
        (world_then g remaining contents at desk reader writer now reader_now writer_now ended buf answers so_far desk_then writer_then step failed found.request goes.0 goes.1 out found.answered answers_turn worlds_turn)

    pub answer_cut_counted : IsCounted g remaining contents at desk desk_then reader reader_now writer writer_then (Err (fault.Write answers))
    answer_cut_counted =
        let found = of (next.Request len close) is in
        let goes = hears so_far.front buf ended so_far.requests (heard.Request found.request) so_far.cut found.heard_is in
        let HasNextSo : List ℕ → Type 0 = λ bytes. HasNext bytes so_far.requests goes.0 in
        counts_cut g remaining contents at desk reader writer now reader_now writer_now ended buf answers so_far desk_then reader_now writer_then (inl (failed ∙ so_far.failed))
        (inl (goes.0, subst HasNextSo (sym (parts g remaining contents at desk reader writer now reader_now writer_now ended buf answers so_far)) (goes.1.next (more g remaining contents at desk reader writer now reader_now writer_now ended buf answers so_far)), done_then))

    pub some_bytes : (0 < len) × (len ≤ length buf)
    some_bytes =
        let found = of (next.Request len close) is in
        let Some : ℕ → Type 0 = λ n. (0 < n) × (n ≤ length buf) in
        subst Some (sym found.len_is) (found.heard_is.0, found.heard_is.1)

    module _ (put : IsPutWhole contents writer_now writer_then sent true) where
      wrote : Appends (contents (inner_of writer_now)) (contents (inner_of writer_then)) out
      wrote = let Wrote : List ℕ → Type 0 = λ bytes. Appends (contents (inner_of writer_now)) (contents (inner_of writer_then)) bytes in subst Wrote sent_is put.0

      pub last_answered : close ≡ true → IsStreamEnd g remaining contents at reads desk desk_then reader reader_now writer writer_then (Ok (record { answers = answers + 1; ended = ended_by.Close }))
      last_answered last =
          let found = of (next.Request len close) is in
          let goes = hears so_far.front buf ended so_far.requests (heard.Request found.request) so_far.cut found.heard_is in (
            (λ clean. ends_closed g remaining contents at desk reader writer now reader_now writer_now ended buf answers so_far desk_then writer_then step failed found.request goes.0 goes.1 out found.answered answers_turn worlds_turn knows (sym found.close_is ∙ last) wrote clean),
            so_far.read,
            put.1 ∙ so_far.put,
          )

      none_asked : let found = of (next.Request len close) is in
          let goes = hears so_far.front buf ended so_far.requests (heard.Request found.request) so_far.cut found.heard_is in
          desk.failed ≡ true → calls_of (so_far.requests ++ goes.0 ∷ []) at ≡ []
      none_asked =
          let found = of (next.Request len close) is in
          let goes = hears so_far.front buf ended so_far.requests (heard.Request found.request) so_far.cut found.heard_is in
          no_call_asked g remaining contents at desk reader writer now reader_now writer_now ended buf answers so_far desk_then writer_then step failed found.request goes.0 goes.1 out found.answered answers_turn worlds_turn calls_turn found.no_call

      pub last_counted : close ≡ true → IsCounted g remaining contents at desk desk_then reader reader_now writer writer_then (Ok (record { answers = answers + 1; ended = ended_by.Close }))
      last_counted last =
          let found = of (next.Request len close) is in
          let goes = hears so_far.front buf ended so_far.requests (heard.Request found.request) so_far.cut found.heard_is in
          counts_closed g remaining contents at desk reader writer now reader_now writer_now ended buf answers so_far desk_then reader_now writer_then goes.0 out (goes.1.closes (sym found.close_is ∙ last)) none_asked wrote done_then

      pub answered_on : close ≡ false → HasServed g remaining contents at desk reader writer desk_then reader_now writer_then ended (drop len buf) (answers + 1)
      answered_on goes_on =
          let found = of (next.Request len close) is in
          let goes = hears so_far.front buf ended so_far.requests (heard.Request found.request) so_far.cut found.heard_is in
          let So : ℕ → Type 0 = λ n. HasServed g remaining contents at desk reader writer desk_then reader_now writer_then ended (drop n buf) (answers + 1) in
          subst So (sym found.len_is)
          (serves_on g remaining contents at desk reader writer now reader_now writer_now ended buf answers so_far desk_then writer_then step failed found.request goes.0 goes.1 out found.answered answers_turn worlds_turn (sym found.close_is ∙ goes_on) wrote put.1 none_asked known_then)

-- ---- a fault of the machine

is_of_machine : (why : Fault) → IsOfMachine (refusal_for why)
is_of_machine machine.Memory = inl refl
is_of_machine machine.Storage = inr refl

module _ {S R W : Type 0} (g : Ghosts S) (remaining : R → Option (List ℕ)) (contents : W → Option (List ℕ)) (at reads : ℕ)
    (desk now desk_then : Keyed S) (reader reader_now : CountingIo R) (writer writer_now writer_then : CountingIo W) (ended : Bool) (buf : List ℕ) (answers : ℕ) (why : Fault)
    (so_far : HasServed g remaining contents at desk reader writer now reader_now writer_now ended buf answers) (hears : GoesOnBehind)
    (step : IsLaterDesk g now desk_then) (left : IsClean g desk_then.held → IsOpen g desk_then.held → world_at g desk_then.held ≡ world_at g now.held)
    (knows : IsClean g desk_then.held → IsOpen g desk_then.held → Knows g desk_then.held (world_at g desk_then.held))
    (seen : List ℕ) (seen_is : seen ≡ buf) (comes : ((so_far.requests ≡ []) × (why ≡ machine.Memory) × (desk_then ≡ desk)) ⊎ IsNextFault seen ended why)
    (finds : FindsKnown g) (worlds_turn : WorldsInTurn) (crash : Survives (state g now.held) (state g desk_then.held) (LeavesNext g now.held at seen ended)) where
  abbrev all : List ℕ
  all = input g remaining contents at desk reader writer now reader_now writer_now ended buf answers so_far

  of_call : (f : Fault) → IsNextFault buf ended f → refusal_for f ≡ refusal.Storage → HasCallNext all so_far.requests
  of_call machine.Memory found is = absurd (let e : refusal.Memory ≡ refusal.Storage = is in cc)
  of_call machine.Storage found is =
      let goes = hears so_far.front buf ended so_far.requests (heard.Request found.0) so_far.cut found.1 in
      has_call g remaining contents at desk reader writer now reader_now writer_now ended buf answers so_far found.0 goes.0 goes.1 found.2

  of_request : (f : Fault) → IsNextFault buf ended f → refusal_for f ≡ refusal.Memory → (so_far.requests ≡ []) ⊎ HasRequestNext all so_far.requests
  of_request machine.Memory found is = inr (has_request g remaining contents at desk reader writer now reader_now writer_now ended buf answers so_far found.0 found.1)
  of_request machine.Storage found is = absurd (let e : refusal.Storage ≡ refusal.Memory = is in cc)

  -- no memory could be reserved, or a request comes next
  abbrev HasCause : Fault → Type 0
  HasCause f = ((so_far.requests ≡ []) × (f ≡ machine.Memory) × (desk_then ≡ desk)) ⊎ IsNextFault buf ended f

  has_cause : HasCause why
  has_cause = let Comes : List ℕ → Type 0 = λ bytes. ((so_far.requests ≡ []) × (why ≡ machine.Memory) × (desk_then ≡ desk)) ⊎ IsNextFault bytes ended why in subst Comes seen_is comes

  is_fault_by : (f : Fault) → HasCause f → HasMachineFault all so_far.requests (refusal_for f)
  is_fault_by f (inl none) =
      machine_fault g remaining contents at desk reader writer now reader_now writer_now ended buf answers so_far (refusal_for f) (is_of_machine f)
      (λ is. absurd (let e : refusal.Memory ≡ refusal.Storage = sym (ap refusal_for none.1) ∙ is in cc)) (λ _. inl none.0)
  is_fault_by f (inr found) =
      machine_fault g remaining contents at desk reader writer now reader_now writer_now ended buf answers so_far (refusal_for f) (is_of_machine f) (of_call f found) (of_request f found)

  is_fault : HasMachineFault all so_far.requests (refusal_for why)
  is_fault = is_fault_by why has_cause

  pub machine_failed : (result : Result Served StreamFault) → IsRefused contents writer_now writer_then why answers result
      → IsStreamEnd g remaining contents at reads desk desk_then reader reader_now writer writer_then result
  machine_failed (Ok served) told =
      let Ended : Served → Type 0 = λ s. IsStreamEnd g remaining contents at reads desk desk_then reader reader_now writer writer_then (Ok s) in
      subst Ended (sym told.0) (
        (λ clean. ends_refused g remaining contents at desk reader writer now reader_now writer_now ended buf answers so_far desk_then writer_then step.later.clean left knows (refusal_for why) is_fault told.1 clean),
        so_far.read,
        told.2 ∙ so_far.put,
      )
  machine_failed (Err (fault.Read n)) told = absurd told
  machine_failed (Err (fault.Write n)) told =
      let Ended : ℕ → Type 0 = λ m. IsStreamEnd g remaining contents at reads desk desk_then reader reader_now writer writer_then (Err (fault.Write m)) in
      subst Ended (sym told.0) (
        (λ clean. cut_refused g remaining contents at desk reader writer now reader_now writer_now ended buf answers so_far desk_then writer_then step.later.clean left knows (refusal_for why) is_fault told.1 clean),
        so_far.read,
        failed_then writer writer_now writer_then so_far.put told.2,
      )

  -- where the store has failed, it has at a call
  fails : (f : Fault) → HasCause f → desk_then.failed ≡ failed_by {A = Next} (Err f) now.failed → (desk_then.failed ≡ desk.failed) ⊎ HasCallNext all so_far.requests
  fails machine.Memory cause same = inl (same ∙ so_far.failed)
  fails machine.Storage (inl none) same = absurd (let e : machine.Storage ≡ machine.Memory = none.1 in cc)
  fails machine.Storage (inr found) same = inr (of_call machine.Storage found refl)

  -- then the desk is as it was, or a request comes next
  is_begun : (f : Fault) → HasCause f → (desk_then ≡ desk) ⊎ HasRequestNext all so_far.requests
  is_begun f (inl none) = inl none.2
  is_begun machine.Memory (inr found) = inr (has_request g remaining contents at desk reader writer now reader_now writer_now ended buf answers so_far found.0 found.1)
  is_begun machine.Storage (inr found) = let next = of_call machine.Storage found refl in inr (next.0, next.1)

  done_or_next : AreDoneOrNext g at desk desk_then all so_far.requests
  done_or_next =
      let Left : List ℕ → Type 0 = λ bytes. Survives (state g now.held) (state g desk_then.held) (LeavesNext g now.held at bytes ended) in
      are_done_or_next g at desk finds now so_far.requests so_far.known so_far.world_is desk_then worlds_turn all buf ended (subst Left seen_is crash) step.later.clean
      (λ lent told.
      let goes = hears so_far.front buf ended so_far.requests (heard.Request lent) so_far.cut told in
      let HasNextSo : List ℕ → Type 0 = λ bytes. HasNext bytes so_far.requests goes.0 in
      (goes.0, goes.1.is_lent, subst HasNextSo (sym (parts g remaining contents at desk reader writer now reader_now writer_now ended buf answers so_far)) (goes.1.next (more g remaining contents at desk reader writer now reader_now writer_now ended buf answers so_far))))
      (is_begun why has_cause)

  pub machine_counted : desk_then.failed ≡ failed_by {A = Next} (Err why) now.failed → (result : Result Served StreamFault) → IsRefused contents writer_now writer_then why answers result
      → IsCounted g remaining contents at desk desk_then reader reader_now writer writer_then result
  machine_counted same (Ok served) told =
      let Counted : Served → Type 0 = λ s. IsCounted g remaining contents at desk desk_then reader reader_now writer writer_then (Ok s) in
      subst Counted (sym told.0) (counts_refused g remaining contents at desk reader writer now reader_now writer_now ended buf answers so_far desk_then reader_now writer_then (refusal_for why) (inr is_fault) told.1 (inr (is_of_machine why, done_or_next)))
  machine_counted same (Err (fault.Read n)) told = absurd told
  machine_counted same (Err (fault.Write n)) told =
      let Counted : ℕ → Type 0 = λ m. IsCounted g remaining contents at desk desk_then reader reader_now writer writer_then (Err (fault.Write m)) in
      subst Counted (sym told.0) (counts_cut g remaining contents at desk reader writer now reader_now writer_now ended buf answers so_far desk_then reader_now writer_then (fails why has_cause same) (inr (inr (refusal_for why, is_fault, done_or_next))))

-- no memory could be reserved
module _ {S R W : Type 0} (g : Ghosts S) (remaining : R → Option (List ℕ)) (contents : W → Option (List ℕ)) (at reads : ℕ) (desk : Keyed S) (reader : CountingIo R) (writer writer_then : CountingIo W)
    (hears : GoesOnBehind) (knows : IsClean g desk.held → IsOpen g desk.held → Knows g desk.held (world_at g desk.held))
    (result : Result Served StreamFault) (told : IsRefused contents writer writer_then machine.Memory 0 result)
    (finds : FindsKnown g) (worlds_turn : WorldsInTurn) where
  pub no_memory_reserved : IsStreamEnd g remaining contents at reads desk desk reader reader writer writer_then result
  no_memory_reserved =
      machine_failed g remaining contents at reads desk desk desk reader reader writer writer writer_then false [] 0 machine.Memory (none_served g remaining contents at desk reader writer) hears
      (later_still g desk) (λ _ _. refl) knows [] refl (inl (none_yet g remaining contents at desk reader writer, refl, refl)) finds worlds_turn (survives_still (state g desk.held) _) result told

  pub no_memory_counted : IsCounted g remaining contents at desk desk reader reader writer writer_then result
  no_memory_counted =
      machine_counted g remaining contents at reads desk desk desk reader reader writer writer writer_then false [] 0 machine.Memory (none_served g remaining contents at desk reader writer) hears
      (later_still g desk) (λ _ _. refl) knows [] refl (inl (none_yet g remaining contents at desk reader writer, refl, refl)) finds worlds_turn (survives_still (state g desk.held) _) refl result told
