-- What is written at the end of a stream is a front of the whole output, but for a fault of the machine.
use Rattle.std.proofs.Common.{◌≡◌, ◌⊎◌, inl, inr, ℕ, List, [], ◌∷◌, ◌++◌, sym, ap, ap₂, ◌∙◌, subst, append_assoc, append-nil}
use Rattle.agv_header.specs.declared.refusal.Refusal.{Refusal}
use Rattle.agv_world_core.specs.Worlds.{World}
use Rattle.agv_desk.specs.Outcomes.{after}
use Rattle.agv_face_http.specs.request.Cut.{Cut, Ending, faulty, a_fault}
use Rattle.agv_face_http.specs.request.Fronts.{Begins, HasFaultNext, HasFront, HasNext}
use Rattle.agv_face_http.specs.Output.{IsOutput, answer_to, answers_to, last_text, outcome_for, refusal_text, world_after}
use Rattle.agv_face_http.specs.request.Requests.{Request}
use Rattle.agv_face_http.specs.StreamEnds.{EndsInMachineFault, HasMachineFault, IsFrontOf, IsLastRefusal, IsNextAnswer, IsReadFault, IsRefusedByMachine, IsWriteFault}
use Rattle.agv_face_http.proofs.request.Cuts.{one_cut}
use Rattle.agv_face_http.proofs.Joining.{answers_join, cut_begins, cuts_part}

-- a front of a front
front_of_front : (a b whole : List ℕ) → IsFrontOf a b → IsFrontOf b whole → IsFrontOf a whole
front_of_front a b whole first all = (first.0 ++ all.0, all.1 ∙ ap (λ (l : List ℕ). l ++ all.0) first.1 ∙ append_assoc a first.0 all.0)

-- lists with the same list in front
behind : (sent part more : List ℕ) → IsFrontOf part more → (whole : List ℕ) → whole ≡ sent ++ more → IsFrontOf (sent ++ part) whole
behind sent part more first whole is = (first.0, is ∙ ap (λ (l : List ℕ). sent ++ l) first.1 ∙ sym (append_assoc sent part first.0))

module _ (seats : ℕ) (world : World) (at : ℕ) (input whole : List ℕ) (beyond : World) (output : IsOutput seats world at input whole beyond) where
  -- how the whole output goes on behind the answers to a front
  record Further (requests : List Request) (rest : List ℕ) : Type 0 where
    others : List Request
    cut : Cut rest others output.ending
    text_is : whole ≡ answers_to seats world at requests ++ (answers_to seats (world_after seats world at requests) at others ++ last_text output.ending)

  further : (requests : List Request) (IsSo : List ℕ → Type 0) (has : HasFront input requests IsSo) → Further requests has.rest
  further requests IsSo has =
      let P : List ℕ → Type 0 = λ l. Cut l output.requests output.ending in
      let part = cuts_part has.front has.rest requests output.requests output.ending has.cut (subst P has.parts output.cut) in
      let then = world_after seats world at requests in
      record {
        others = part.0;
        cut = part.2;
        text_is = output.written
            ∙ ap (λ (l : List Request). answers_to seats world at l ++ last_text output.ending) part.1
            ∙ ap (λ (l : List ℕ). l ++ last_text output.ending) (answers_join seats at world requests part.0)
            ∙ append_assoc (answers_to seats world at requests) (answers_to seats then at part.0) (last_text output.ending);
      }

  pub front_written : (requests : List Request) (IsSo : List ℕ → Type 0) → HasFront input requests IsSo → IsFrontOf (answers_to seats world at requests) whole
  front_written requests IsSo has = let on = further requests IsSo has in (_, on.text_is)

  -- the next answer
  next_front : (then : World) (x : Request) (others xs : List Request) (e : Ending) → xs ≡ x ∷ others → IsFrontOf (answer_to seats then at x) (answers_to seats then at xs ++ last_text e)
  unfolding answers_to
  next_front then x others xs e is =
      let next = after then (outcome_for seats then at x) in (
        answers_to seats next at others ++ last_text e,
        ap (λ (l : List Request). answers_to seats then at l ++ last_text e) is ∙ append_assoc (answer_to seats then at x) (answers_to seats next at others) (last_text e),
      )

  pub next_written : (requests : List Request) (request : Request) (has : HasNext input requests request) → (part text : List ℕ)
      → text ≡ answer_to seats (world_after seats world at requests) at request → IsFrontOf part text → IsFrontOf (answers_to seats world at requests ++ part) whole
  next_written requests request has part text is first =
      let on = further requests _ has in
      let begun = cut_begins has.rest request on.others output.ending has.rest_is on.cut in
      let P : List ℕ → Type 0 = λ t. IsFrontOf part t in
      behind (answers_to seats world at requests) part _
      (front_of_front part _ _ (subst P is first) (next_front (world_after seats world at requests) request begun.0 on.others output.ending begun.1)) whole on.text_is

  -- the refusal of a fault
  last_front : (then : World) (xs : List Request) (e : Ending) (why : Refusal) → xs ≡ [] → e ≡ faulty why → answers_to seats then at xs ++ last_text e ≡ refusal_text why
  unfolding answers_to
  last_front then xs e why none is = ap₂ (λ (l : List Request) (d : Ending). answers_to seats then at l ++ last_text d) none is

  pub fault_written : (requests : List Request) (why : Refusal) (has : HasFaultNext input requests why) → (part text : List ℕ)
      → text ≡ refusal_text why → IsFrontOf part text → IsFrontOf (answers_to seats world at requests ++ part) whole
  fault_written requests why has part text is first =
      let on = further requests _ has in
      let same = one_cut has.rest on.others [] output.ending (faulty why) on.cut (a_fault has.rest why has.rest_is) in
      let P : List ℕ → Type 0 = λ t. IsFrontOf part t in
      let all : text ≡ answers_to seats (world_after seats world at requests) at on.others ++ last_text output.ending = is ∙ sym (last_front (world_after seats world at requests) on.others output.ending why same.0 same.1) in
      behind (answers_to seats world at requests) part _ (subst P all first) whole on.text_is

  -- ---- at each end

  pub machine_end : (why : Refusal) (out : List ℕ) (left : World) (answers : ℕ) → IsRefusedByMachine seats world at input why out left answers → EndsInMachineFault out whole
  machine_end why out left answers is = record {
    sent = answers_to seats world at is.requests;
    last = refusal_text why;
    why = why;
    of_machine = is.cause.of_machine;
    sent_is = front_written is.requests _ is.cause.begins;
    last_is = ([], sym (append-nil (refusal_text why)));
    out_is = is.served.written;
  }

  refused_end : (requests : List Request) (text part out : List ℕ) → IsFrontOf part text → out ≡ answers_to seats world at requests ++ part → (why : Refusal) → text ≡ refusal_text why
      → HasFaultNext input requests why ⊎ HasMachineFault input requests why → IsFrontOf out whole ⊎ EndsInMachineFault out whole
  refused_end requests text part out first written why is (inl fault) =
      let P : List ℕ → Type 0 = λ l. IsFrontOf l whole in inl (subst P (sym written) (fault_written requests why fault part text is first))
  refused_end requests text part out first written why is (inr machine) =
      let P : List ℕ → Type 0 = λ l. IsFrontOf part l in
      inr (record {
        sent = answers_to seats world at requests;
        last = part;
        why = why;
        of_machine = machine.of_machine;
        sent_is = front_written requests _ machine.begins;
        last_is = subst P is first;
        out_is = written;
      })

  cut_end : (requests : List Request) (text part out : List ℕ) (left : World) → IsFrontOf part text → out ≡ answers_to seats world at requests ++ part
      → IsNextAnswer seats world at input requests text left ⊎ IsLastRefusal seats world at input requests text left → IsFrontOf out whole ⊎ EndsInMachineFault out whole
  cut_end requests text part out left first written (inl own) =
      let P : List ℕ → Type 0 = λ l. IsFrontOf l whole in inl (subst P (sym written) (next_written requests own.request own.next part text own.text_is first))
  cut_end requests text part out left first written (inr last) = refused_end requests text part out first written last.why last.text_is last.cause

  pub write_end : (out : List ℕ) (left : World) (answers : ℕ) → IsWriteFault seats world at input out left answers → IsFrontOf out whole ⊎ EndsInMachineFault out whole
  write_end out left answers is = cut_end is.requests is.text is.front out left (is.lacking, is.parts) is.written is.is_next

-- ---- where only some bytes have come

longer : (bytes more : List ℕ) (requests : List Request) (IsSo : List ℕ → Type 0) → HasFront bytes requests IsSo → Begins (bytes ++ more) requests
longer bytes more requests IsSo has = record {
  front = has.front;
  rest = has.rest ++ more;
  parts = ap (λ (l : List ℕ). l ++ more) has.parts ∙ append_assoc has.front has.rest more;
  cut = has.cut;
  rest_is = tt;
}

pub read_end : (seats : ℕ) (world : World) (at : ℕ) (bytes more whole : List ℕ) (beyond : World) → IsOutput seats world at (bytes ++ more) whole beyond
    → (out : List ℕ) (left : World) (answers : ℕ) → IsReadFault seats world at bytes out left answers → IsFrontOf out whole
read_end seats world at bytes more whole beyond output out left answers is =
    let P : List ℕ → Type 0 = λ l. IsFrontOf l whole in
    let same : out ≡ answers_to seats world at is.requests = is.served.written ∙ append-nil (answers_to seats world at is.requests) in
    subst P (sym same) (front_written seats world at (bytes ++ more) whole beyond output is.requests _ (longer bytes more is.requests _ is.so_far))
