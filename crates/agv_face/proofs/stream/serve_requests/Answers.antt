use Rattle.std.proofs.Common.{◌≡◌, ◌≤◌, ◌<◌, ◌+◌, ◌-◌, ◌*◌, ℕ, List, false, length, drop, sym, ap, ap₂, ◌∙◌, subst, inl, inr, arith, vec_len, length-append}
use Rattle.std.proofs.Math.ListN.{length-drop}
use Rattle.std.proofs.lemmas.List.{drop-drop}
use Rattle.std.proofs.KnownBytes.{Keeps-refl}
use Rattle.agv_face.specs.Bytes.{IsRead}
use Rattle.agv_face.specs.StreamEnd.{most_reads}
use Rattle.agv_face.specs.CountingIo.{calls_of, counted}
use Rattle.agv_face.specs.declared.next.Next.TheVariants as next
use Rattle.agv_face.proofs.Serving.{later_then}
use Rattle.agv_face.proofs.HasServed.{HasServed, none_served}
use Rattle.agv_face.proofs.Exits.{answer_cut, answer_cut_counted, answered_on, cut_counted, end_counted, end_found, failed_still, fault_cut, fault_told, last_answered, last_counted, machine_counted, machine_failed, none_come, none_counted, some_bytes, some_come, told_counted}
use Rattle.agv_face.proofs.Writing.{failed_then}
use Rattle.agv_face.proofs.stream.serve_requests.Goals as goal

-- each answer took a byte at least of what the reads gave
below : (answers come served reads len : ℕ) → answers + (come - served) ≤ reads * 4096 → 0 < len → len ≤ come - served → answers + 1 + (come - (served + len)) ≤ reads * 4096
below answers come served reads len most some fits = omega arith

pub loop-reads-init : goal.loop-reads-init
loop-reads-init g c =
    let P : List ℕ → Type 0 = λ l. HasServed g.S.Store g.R.Read.remaining g.W.Write.contents c.args.at c.args.desk.now c.args.reader.now c.args.writer.now c.args.desk.now c.args.reader.now c.args.writer.now false l 0 in (
      subst P (sym c.requires.none) (none_served g.S.Store g.R.Read.remaining g.W.Write.contents c.args.at c.args.desk.now c.args.reader.now c.args.writer.now),
      c.requires.output,
      c.requires.input,
      omega arith,
      c.min-most.ensures,
      omega (arith, c.args.buffers.now.input.ok.0, ap length c.requires.none),
      omega arith,
      omega arith,
    )

-- the input is at its end
pub returns-in-Ok-End-clause-ends : goal.returns-in-Ok-End-clause-ends
returns-in-Ok-End-clause-ends g c = end_found g.S.Store g.R.Read.remaining g.W.Write.contents c.args.at c.args.max_reads c.args.desk.now c.loop-reads.desk c.serve_request-next.new.desk c.args.reader.now c.loop-reads.reader c.args.writer.now c.loop-reads.writer c.loop-reads.ended (drop c.loop-reads.served c.loop-reads.buffers.input.items) c.behind.result.now c.serve_request-next.new.out.items c.loop-reads.answers c.in-Ok-End.field-0 c.loop-reads.invariant.0 c.hears_how_it_goes_on.ensures c.behind.ensures c.in-Ok-End.ensures.next c.knows.ensures c.crashes_leave_before_or_after.ensures.known c.in-Ok-End.field-0-is

-- the stream has had its most reads
pub returns-then-reads-most-clause-ends : goal.returns-then-reads-most-clause-ends
returns-then-reads-most-clause-ends g c =
    let now = c.loop-reads.invariant in
    let all : counted (calls_of c.args.reader.now) (most_reads c.args.max_reads) ≡ calls_of c.loop-reads.reader = ap (λ (n : ℕ). counted (calls_of c.args.reader.now) n) (sym (c.if-reads-most.true ∙ now.4)) ∙ sym now.6 in
    none_come g.S.Store g.R.Read.remaining g.W.Write.contents c.args.at c.args.max_reads c.args.desk.now c.loop-reads.desk c.serve_request-next.new.desk c.args.reader.now c.loop-reads.reader c.args.writer.now c.loop-reads.writer c.loop-reads.ended (drop c.loop-reads.served c.loop-reads.buffers.input.items) c.behind.result.now c.serve_request-next.new.out.items c.loop-reads.answers c.in-Ok-Need.field-0 c.loop-reads.invariant.0 c.hears_how_it_goes_on.ensures c.behind.ensures c.in-Ok-Need.ensures.next c.knows.ensures c.crashes_leave_before_or_after.ensures.known c.in-Ok-Need.field-0-is c.loop-reads.reader (Keeps-refl _) (inr (omega (arith, all), now.0.read))

-- the reader failed
pub returns-in-Err-read_some-clause-ends : goal.returns-in-Err-read_some-clause-ends
returns-in-Err-read_some-clause-ends g c =
    let failed = c.in-Err-read_some.ensures.failed in
    none_come g.S.Store g.R.Read.remaining g.W.Write.contents c.args.at c.args.max_reads c.args.desk.now c.loop-reads.desk c.serve_request-next.new.desk c.args.reader.now c.loop-reads.reader c.args.writer.now c.loop-reads.writer c.loop-reads.ended (drop c.loop-reads.served c.loop-reads.buffers.input.items) c.behind.result.now c.serve_request-next.new.out.items c.loop-reads.answers c.in-Ok-Need.field-0 c.loop-reads.invariant.0 c.hears_how_it_goes_on.ensures c.behind.ensures c.in-Ok-Need.ensures.next c.knows.ensures c.crashes_leave_before_or_after.ensures.known c.in-Ok-Need.field-0-is c.read_some.new.reader failed.1 (inl (failed_then c.args.reader.now c.loop-reads.reader c.read_some.new.reader c.loop-reads.invariant.0.read failed.0))

-- an answer was cut
pub returns-then-not-write_whole-clause-ends : goal.returns-then-not-write_whole-clause-ends
returns-then-not-write_whole-clause-ends g c = answer_cut g.S.Store g.R.Read.remaining g.W.Write.contents c.args.at c.args.max_reads c.args.desk.now c.loop-reads.desk c.serve_request-next.new.desk c.args.reader.now c.loop-reads.reader c.args.writer.now c.loop-reads.writer c.loop-reads.ended (drop c.loop-reads.served c.loop-reads.buffers.input.items) c.behind.result.now c.serve_request-next.new.out.items c.loop-reads.answers c.in-Ok-Request.field-0 c.loop-reads.invariant.0 c.hears_how_it_goes_on.ensures c.behind.ensures c.in-Ok-Request.ensures.next c.knows.ensures c.crashes_leave_before_or_after.ensures.known c.in-Ok-Request.ensures.later c.in-Ok-Request.ensures.failed c.answers_in_turn.ensures.answers c.answers_in_turn.ensures.world c.answers_in_turn.ensures.calls _ _ (c.in-Ok-Request.field-0-is ∙ ap₂ next.Request (sym c.in-Ok-Request.len-is) (sym c.in-Ok-Request.close-is)) c.write_whole.new.writer c.deref.result.now c.deref.ensures.value c.if-not-write_whole.ensures

-- the last request was answered
pub returns-then-close-clause-ends : goal.returns-then-close-clause-ends
returns-then-close-clause-ends g c = last_answered g.S.Store g.R.Read.remaining g.W.Write.contents c.args.at c.args.max_reads c.args.desk.now c.loop-reads.desk c.serve_request-next.new.desk c.args.reader.now c.loop-reads.reader c.args.writer.now c.loop-reads.writer c.loop-reads.ended (drop c.loop-reads.served c.loop-reads.buffers.input.items) c.behind.result.now c.serve_request-next.new.out.items c.loop-reads.answers c.in-Ok-Request.field-0 c.loop-reads.invariant.0 c.hears_how_it_goes_on.ensures c.behind.ensures c.in-Ok-Request.ensures.next c.knows.ensures c.crashes_leave_before_or_after.ensures.known c.in-Ok-Request.ensures.later c.in-Ok-Request.ensures.failed c.answers_in_turn.ensures.answers c.answers_in_turn.ensures.world c.answers_in_turn.ensures.calls _ _ (c.in-Ok-Request.field-0-is ∙ ap₂ next.Request (sym c.in-Ok-Request.len-is) (sym c.in-Ok-Request.close-is)) c.write_whole.new.writer c.deref.result.now c.deref.ensures.value c.if-not-write_whole.ensures c.if-close.true

-- a request was answered, and the stream goes on
pub loop-reads-preserved : goal.loop-reads-preserved
loop-reads-preserved g c =
    let now = c.loop-reads.invariant in
    let size = some_bytes g.S.Store g.R.Read.remaining g.W.Write.contents c.args.at c.args.max_reads c.args.desk.now c.loop-reads.desk c.serve_request-next.new.desk c.args.reader.now c.loop-reads.reader c.args.writer.now c.loop-reads.writer c.loop-reads.ended (drop c.loop-reads.served c.loop-reads.buffers.input.items) c.behind.result.now c.serve_request-next.new.out.items c.loop-reads.answers c.in-Ok-Request.field-0 c.loop-reads.invariant.0 c.hears_how_it_goes_on.ensures c.behind.ensures c.in-Ok-Request.ensures.next c.knows.ensures c.crashes_leave_before_or_after.ensures.known c.in-Ok-Request.ensures.later c.in-Ok-Request.ensures.failed c.answers_in_turn.ensures.answers c.answers_in_turn.ensures.world c.answers_in_turn.ensures.calls c.in-Ok-Request.len c.in-Ok-Request.close (c.in-Ok-Request.field-0-is ∙ ap₂ next.Request (sym c.in-Ok-Request.len-is) (sym c.in-Ok-Request.close-is)) c.write_whole.new.writer c.deref.result.now c.deref.ensures.value in
    let So : List ℕ → Type 0 = λ l. HasServed g.S.Store g.R.Read.remaining g.W.Write.contents c.args.at c.args.desk.now c.args.reader.now c.args.writer.now c.serve_request-next.new.desk c.loop-reads.reader c.write_whole.new.writer c.loop-reads.ended l (c.loop-reads.answers + 1) in
    let have : length (drop c.loop-reads.served c.loop-reads.buffers.input.items) ≡ vec_len c.loop-reads.buffers.input - c.loop-reads.served = length-drop c.loop-reads.served c.loop-reads.buffers.input.items ∙ ap (λ (n : ℕ). n - c.loop-reads.served) (sym c.loop-reads.buffers.input.ok.0) in
    let fits : c.in-Ok-Request.len ≤ vec_len c.loop-reads.buffers.input - c.loop-reads.served = omega (arith, have, size.1) in (
      subst So (drop-drop c.in-Ok-Request.len c.loop-reads.served c.loop-reads.buffers.input.items) (answered_on g.S.Store g.R.Read.remaining g.W.Write.contents c.args.at c.args.max_reads c.args.desk.now c.loop-reads.desk c.serve_request-next.new.desk c.args.reader.now c.loop-reads.reader c.args.writer.now c.loop-reads.writer c.loop-reads.ended (drop c.loop-reads.served c.loop-reads.buffers.input.items) c.behind.result.now c.serve_request-next.new.out.items c.loop-reads.answers c.in-Ok-Request.field-0 c.loop-reads.invariant.0 c.hears_how_it_goes_on.ensures c.behind.ensures c.in-Ok-Request.ensures.next c.knows.ensures c.crashes_leave_before_or_after.ensures.known c.in-Ok-Request.ensures.later c.in-Ok-Request.ensures.failed c.answers_in_turn.ensures.answers c.answers_in_turn.ensures.world c.answers_in_turn.ensures.calls c.in-Ok-Request.len c.in-Ok-Request.close (c.in-Ok-Request.field-0-is ∙ ap₂ next.Request (sym c.in-Ok-Request.len-is) (sym c.in-Ok-Request.close-is)) c.write_whole.new.writer c.deref.result.now c.deref.ensures.value c.if-not-write_whole.ensures c.if-close.false),
      omega (arith, now.1, c.in-Ok-Request.ensures.grown),
      now.2,
      now.3,
      now.4,
      below _ _ _ _ _ now.5 size.0 fits,
      now.6,
      omega (arith, fits, now.7),
    )

-- more bytes have come, or the end of the input
pub loop-reads-preserved-in-Ok : goal.loop-reads-preserved-in-Ok
loop-reads-preserved-in-Ok g c =
    let now = c.loop-reads.invariant in
    let front : List ℕ = drop c.loop-reads.served c.loop-reads.buffers.input.items in
    let Got : List ℕ → Type 0 = λ l. IsRead g.R.Read.remaining c.loop-reads.reader c.read_some.new.reader l c.read_some.new.buf.items c.in-Ok.more in
    let got : Got front = subst Got c.drop_front.ensures.items c.in-Ok.ensures.read in
    let have : length front ≡ vec_len c.loop-reads.buffers.input - c.loop-reads.served = length-drop c.loop-reads.served c.loop-reads.buffers.input.items ∙ ap (λ (n : ℕ). n - c.loop-reads.served) (sym c.loop-reads.buffers.input.ok.0) in
    let many : vec_len c.read_some.new.buf ≡ length front + length got.bytes = c.read_some.new.buf.ok.0 ∙ ap length got.put ∙ length-append front got.bytes in (
      some_come g.S.Store g.R.Read.remaining g.W.Write.contents c.args.at c.args.max_reads c.args.desk.now c.loop-reads.desk c.serve_request-next.new.desk c.args.reader.now c.loop-reads.reader c.args.writer.now c.loop-reads.writer c.loop-reads.ended (drop c.loop-reads.served c.loop-reads.buffers.input.items) c.behind.result.now c.serve_request-next.new.out.items c.loop-reads.answers c.in-Ok-Need.field-0 c.loop-reads.invariant.0 c.hears_how_it_goes_on.ensures c.behind.ensures c.in-Ok-Need.ensures.next c.knows.ensures c.crashes_leave_before_or_after.ensures.known c.in-Ok-Need.field-0-is c.read_some.new.reader c.read_some.new.buf.items c.in-Ok.more got,
      omega (arith, now.1, c.in-Ok-Need.ensures.grown),
      omega (arith, now.2, c.drop_front.ensures.capacity, c.in-Ok.ensures.capacity),
      omega (arith, now.3, c.if-reads-most.false),
      now.4,
      omega (arith, now.5, have, got.few, many),
      omega (arith, now.6, c.in-Ok.ensures.calls),
      omega arith,
    )

-- the refusal of a fault was cut
pub returns-then-not-write_whole-2-clause-ends : goal.returns-then-not-write_whole-2-clause-ends
returns-then-not-write_whole-2-clause-ends g c = fault_cut g.S.Store g.R.Read.remaining g.W.Write.contents c.args.at c.args.max_reads c.args.desk.now c.loop-reads.desk c.serve_request-next.new.desk c.args.reader.now c.loop-reads.reader c.args.writer.now c.loop-reads.writer c.loop-reads.ended (drop c.loop-reads.served c.loop-reads.buffers.input.items) c.behind.result.now c.serve_request-next.new.out.items c.loop-reads.answers c.in-Ok-Fault.field-0 c.loop-reads.invariant.0 c.hears_how_it_goes_on.ensures c.behind.ensures c.in-Ok-Fault.ensures.next c.knows.ensures c.crashes_leave_before_or_after.ensures.known _ (c.in-Ok-Fault.field-0-is ∙ ap next.Fault (sym c.in-Ok-Fault.why-is)) c.write_whole-in-Ok-Fault.new.writer c.deref-in-Ok-Fault.result.now c.deref-in-Ok-Fault.ensures.value c.if-not-write_whole-2.ensures

-- or written
pub returns-in-Ok-Fault-clause-ends : goal.returns-in-Ok-Fault-clause-ends
returns-in-Ok-Fault-clause-ends g c = fault_told g.S.Store g.R.Read.remaining g.W.Write.contents c.args.at c.args.max_reads c.args.desk.now c.loop-reads.desk c.serve_request-next.new.desk c.args.reader.now c.loop-reads.reader c.args.writer.now c.loop-reads.writer c.loop-reads.ended (drop c.loop-reads.served c.loop-reads.buffers.input.items) c.behind.result.now c.serve_request-next.new.out.items c.loop-reads.answers c.in-Ok-Fault.field-0 c.loop-reads.invariant.0 c.hears_how_it_goes_on.ensures c.behind.ensures c.in-Ok-Fault.ensures.next c.knows.ensures c.crashes_leave_before_or_after.ensures.known _ (c.in-Ok-Fault.field-0-is ∙ ap next.Fault (sym c.in-Ok-Fault.why-is)) c.write_whole-in-Ok-Fault.new.writer c.deref-in-Ok-Fault.result.now c.deref-in-Ok-Fault.ensures.value c.if-not-write_whole-2.ensures

pub returns-in-Ok-Fault-clause-failed : goal.returns-in-Ok-Fault-clause-failed
returns-in-Ok-Fault-clause-failed g c = failed_still g.S.Store g.R.Read.remaining g.W.Write.contents c.args.at c.args.max_reads c.args.desk.now c.loop-reads.desk c.serve_request-next.new.desk c.args.reader.now c.loop-reads.reader c.args.writer.now c.loop-reads.writer c.loop-reads.ended (drop c.loop-reads.served c.loop-reads.buffers.input.items) c.behind.result.now c.serve_request-next.new.out.items c.loop-reads.answers c.in-Ok-Fault.field-0 c.loop-reads.invariant.0 c.hears_how_it_goes_on.ensures c.behind.ensures c.in-Ok-Fault.ensures.next c.knows.ensures c.crashes_leave_before_or_after.ensures.known _ (c.in-Ok-Fault.field-0-is ∙ ap next.Fault (sym c.in-Ok-Fault.why-is))

-- a fault of the machine
pub returns-in-Err-clause-ends : goal.returns-in-Err-clause-ends
returns-in-Err-clause-ends g c =
    machine_failed g.S.Store g.R.Read.remaining g.W.Write.contents c.args.at c.args.max_reads c.args.desk.now c.loop-reads.desk c.serve_request-next.new.desk c.args.reader.now c.loop-reads.reader c.args.writer.now c.loop-reads.writer c.refuse.new.writer c.loop-reads.ended (drop c.loop-reads.served c.loop-reads.buffers.input.items) c.loop-reads.answers
    c.in-Err.fault c.loop-reads.invariant.0 c.hears_how_it_goes_on.ensures c.in-Err.ensures.later c.in-Err.ensures.unchanged_on_err c.knows.ensures c.behind.result.now c.behind.ensures (inr c.in-Err.ensures.fault) c.crashes_leave_before_or_after.ensures.known c.answers_in_turn.ensures.world c.in-Err.ensures.crash c.refuse.result c.refuse.ensures

-- ---- how far the stream has come

pub returns-in-Ok-End-clause-counts : goal.returns-in-Ok-End-clause-counts
returns-in-Ok-End-clause-counts g c = end_counted g.S.Store g.R.Read.remaining g.W.Write.contents c.args.at c.args.max_reads c.args.desk.now c.loop-reads.desk c.serve_request-next.new.desk c.args.reader.now c.loop-reads.reader c.args.writer.now c.loop-reads.writer c.loop-reads.ended (drop c.loop-reads.served c.loop-reads.buffers.input.items) c.behind.result.now c.serve_request-next.new.out.items c.loop-reads.answers c.in-Ok-End.field-0 c.loop-reads.invariant.0 c.hears_how_it_goes_on.ensures c.behind.ensures c.in-Ok-End.ensures.next c.knows.ensures c.crashes_leave_before_or_after.ensures.known c.in-Ok-End.field-0-is

pub returns-then-reads-most-clause-counts : goal.returns-then-reads-most-clause-counts
returns-then-reads-most-clause-counts g c = none_counted g.S.Store g.R.Read.remaining g.W.Write.contents c.args.at c.args.max_reads c.args.desk.now c.loop-reads.desk c.serve_request-next.new.desk c.args.reader.now c.loop-reads.reader c.args.writer.now c.loop-reads.writer c.loop-reads.ended (drop c.loop-reads.served c.loop-reads.buffers.input.items) c.behind.result.now c.serve_request-next.new.out.items c.loop-reads.answers c.in-Ok-Need.field-0 c.loop-reads.invariant.0 c.hears_how_it_goes_on.ensures c.behind.ensures c.in-Ok-Need.ensures.next c.knows.ensures c.crashes_leave_before_or_after.ensures.known c.in-Ok-Need.field-0-is c.loop-reads.reader (Keeps-refl _)

pub returns-in-Err-read_some-clause-counts : goal.returns-in-Err-read_some-clause-counts
returns-in-Err-read_some-clause-counts g c = none_counted g.S.Store g.R.Read.remaining g.W.Write.contents c.args.at c.args.max_reads c.args.desk.now c.loop-reads.desk c.serve_request-next.new.desk c.args.reader.now c.loop-reads.reader c.args.writer.now c.loop-reads.writer c.loop-reads.ended (drop c.loop-reads.served c.loop-reads.buffers.input.items) c.behind.result.now c.serve_request-next.new.out.items c.loop-reads.answers c.in-Ok-Need.field-0 c.loop-reads.invariant.0 c.hears_how_it_goes_on.ensures c.behind.ensures c.in-Ok-Need.ensures.next c.knows.ensures c.crashes_leave_before_or_after.ensures.known c.in-Ok-Need.field-0-is c.read_some.new.reader c.in-Err-read_some.ensures.failed.1

pub returns-then-not-write_whole-clause-counts : goal.returns-then-not-write_whole-clause-counts
returns-then-not-write_whole-clause-counts g c = answer_cut_counted g.S.Store g.R.Read.remaining g.W.Write.contents c.args.at c.args.max_reads c.args.desk.now c.loop-reads.desk c.serve_request-next.new.desk c.args.reader.now c.loop-reads.reader c.args.writer.now c.loop-reads.writer c.loop-reads.ended (drop c.loop-reads.served c.loop-reads.buffers.input.items) c.behind.result.now c.serve_request-next.new.out.items c.loop-reads.answers c.in-Ok-Request.field-0 c.loop-reads.invariant.0 c.hears_how_it_goes_on.ensures c.behind.ensures c.in-Ok-Request.ensures.next c.knows.ensures c.crashes_leave_before_or_after.ensures.known c.in-Ok-Request.ensures.later c.in-Ok-Request.ensures.failed c.answers_in_turn.ensures.answers c.answers_in_turn.ensures.world c.answers_in_turn.ensures.calls _ _ (c.in-Ok-Request.field-0-is ∙ ap₂ next.Request (sym c.in-Ok-Request.len-is) (sym c.in-Ok-Request.close-is)) c.write_whole.new.writer c.deref.result.now c.deref.ensures.value

pub returns-then-close-clause-counts : goal.returns-then-close-clause-counts
returns-then-close-clause-counts g c = last_counted g.S.Store g.R.Read.remaining g.W.Write.contents c.args.at c.args.max_reads c.args.desk.now c.loop-reads.desk c.serve_request-next.new.desk c.args.reader.now c.loop-reads.reader c.args.writer.now c.loop-reads.writer c.loop-reads.ended (drop c.loop-reads.served c.loop-reads.buffers.input.items) c.behind.result.now c.serve_request-next.new.out.items c.loop-reads.answers c.in-Ok-Request.field-0 c.loop-reads.invariant.0 c.hears_how_it_goes_on.ensures c.behind.ensures c.in-Ok-Request.ensures.next c.knows.ensures c.crashes_leave_before_or_after.ensures.known c.in-Ok-Request.ensures.later c.in-Ok-Request.ensures.failed c.answers_in_turn.ensures.answers c.answers_in_turn.ensures.world c.answers_in_turn.ensures.calls _ _ (c.in-Ok-Request.field-0-is ∙ ap₂ next.Request (sym c.in-Ok-Request.len-is) (sym c.in-Ok-Request.close-is)) c.write_whole.new.writer c.deref.result.now c.deref.ensures.value c.if-not-write_whole.ensures c.if-close.true

pub returns-then-not-write_whole-2-clause-counts : goal.returns-then-not-write_whole-2-clause-counts
returns-then-not-write_whole-2-clause-counts g c = cut_counted g.S.Store g.R.Read.remaining g.W.Write.contents c.args.at c.args.max_reads c.args.desk.now c.loop-reads.desk c.serve_request-next.new.desk c.args.reader.now c.loop-reads.reader c.args.writer.now c.loop-reads.writer c.loop-reads.ended (drop c.loop-reads.served c.loop-reads.buffers.input.items) c.behind.result.now c.serve_request-next.new.out.items c.loop-reads.answers c.in-Ok-Fault.field-0 c.loop-reads.invariant.0 c.hears_how_it_goes_on.ensures c.behind.ensures c.in-Ok-Fault.ensures.next c.knows.ensures c.crashes_leave_before_or_after.ensures.known _ (c.in-Ok-Fault.field-0-is ∙ ap next.Fault (sym c.in-Ok-Fault.why-is)) c.write_whole-in-Ok-Fault.new.writer c.deref-in-Ok-Fault.result.now c.deref-in-Ok-Fault.ensures.value

pub returns-in-Ok-Fault-clause-counts : goal.returns-in-Ok-Fault-clause-counts
returns-in-Ok-Fault-clause-counts g c = told_counted g.S.Store g.R.Read.remaining g.W.Write.contents c.args.at c.args.max_reads c.args.desk.now c.loop-reads.desk c.serve_request-next.new.desk c.args.reader.now c.loop-reads.reader c.args.writer.now c.loop-reads.writer c.loop-reads.ended (drop c.loop-reads.served c.loop-reads.buffers.input.items) c.behind.result.now c.serve_request-next.new.out.items c.loop-reads.answers c.in-Ok-Fault.field-0 c.loop-reads.invariant.0 c.hears_how_it_goes_on.ensures c.behind.ensures c.in-Ok-Fault.ensures.next c.knows.ensures c.crashes_leave_before_or_after.ensures.known _ (c.in-Ok-Fault.field-0-is ∙ ap next.Fault (sym c.in-Ok-Fault.why-is)) c.write_whole-in-Ok-Fault.new.writer c.deref-in-Ok-Fault.result.now c.deref-in-Ok-Fault.ensures.value c.if-not-write_whole-2.ensures

pub returns-in-Err-clause-counts : goal.returns-in-Err-clause-counts
returns-in-Err-clause-counts g c =
    machine_counted g.S.Store g.R.Read.remaining g.W.Write.contents c.args.at c.args.max_reads c.args.desk.now c.loop-reads.desk c.serve_request-next.new.desk c.args.reader.now c.loop-reads.reader c.args.writer.now c.loop-reads.writer c.refuse.new.writer c.loop-reads.ended (drop c.loop-reads.served c.loop-reads.buffers.input.items) c.loop-reads.answers
    c.in-Err.fault c.loop-reads.invariant.0 c.hears_how_it_goes_on.ensures c.in-Err.ensures.later c.in-Err.ensures.unchanged_on_err c.knows.ensures c.behind.result.now c.behind.ensures (inr c.in-Err.ensures.fault) c.crashes_leave_before_or_after.ensures.known c.answers_in_turn.ensures.world c.in-Err.ensures.crash c.in-Err.ensures.failed c.refuse.result c.refuse.ensures

-- ---- the desk at a later moment

pub returns-in-Ok-End-clause-later : goal.returns-in-Ok-End-clause-later
returns-in-Ok-End-clause-later g c = later_then g.S.Store c.args.desk.now c.loop-reads.desk c.serve_request-next.new.desk c.loop-reads.invariant.0.later c.in-Ok-End.ensures.later

pub returns-then-reads-most-clause-later : goal.returns-then-reads-most-clause-later
returns-then-reads-most-clause-later g c = later_then g.S.Store c.args.desk.now c.loop-reads.desk c.serve_request-next.new.desk c.loop-reads.invariant.0.later c.in-Ok-Need.ensures.later

pub returns-in-Err-read_some-clause-later : goal.returns-in-Err-read_some-clause-later
returns-in-Err-read_some-clause-later g c = later_then g.S.Store c.args.desk.now c.loop-reads.desk c.serve_request-next.new.desk c.loop-reads.invariant.0.later c.in-Ok-Need.ensures.later

pub returns-then-not-write_whole-clause-later : goal.returns-then-not-write_whole-clause-later
returns-then-not-write_whole-clause-later g c = later_then g.S.Store c.args.desk.now c.loop-reads.desk c.serve_request-next.new.desk c.loop-reads.invariant.0.later c.in-Ok-Request.ensures.later

pub returns-then-close-clause-later : goal.returns-then-close-clause-later
returns-then-close-clause-later g c = later_then g.S.Store c.args.desk.now c.loop-reads.desk c.serve_request-next.new.desk c.loop-reads.invariant.0.later c.in-Ok-Request.ensures.later

pub returns-then-not-write_whole-2-clause-later : goal.returns-then-not-write_whole-2-clause-later
returns-then-not-write_whole-2-clause-later g c = later_then g.S.Store c.args.desk.now c.loop-reads.desk c.serve_request-next.new.desk c.loop-reads.invariant.0.later c.in-Ok-Fault.ensures.later

pub returns-in-Ok-Fault-clause-later : goal.returns-in-Ok-Fault-clause-later
returns-in-Ok-Fault-clause-later g c = later_then g.S.Store c.args.desk.now c.loop-reads.desk c.serve_request-next.new.desk c.loop-reads.invariant.0.later c.in-Ok-Fault.ensures.later

pub returns-in-Err-clause-later : goal.returns-in-Err-clause-later
returns-in-Err-clause-later g c = later_then g.S.Store c.args.desk.now c.loop-reads.desk c.serve_request-next.new.desk c.loop-reads.invariant.0.later c.in-Err.ensures.later
