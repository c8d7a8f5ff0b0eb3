use Rattle.std.proofs.Common.{Bor, List, ℕ, ◌∙◌, sym, refl, inr, map, Some, ◌∷◌, []}
use Rattle.std.proofs.lemmas.List.{map-append}
use Rattle.csv.proofs.ReadFacts.{rows-end}
use Rattle.csv.specs.Reading.{Reached, default_config, strip_bom}
use Rattle.csv.specs.Records.{fields_of}
use Rattle.agv_count.specs.Records.{records_of}
use Rattle.agv_count.proofs.AllRecords.{all_records}
use Rattle.agv_count.proofs.Failures.{goes_on, refused}
use Rattle.agv_count.proofs.ReadSoFar.{one-more}
use Rattle.agv_count.proofs.records.read_records.Goals as goal

pub loop-record-init : goal.loop-record-init
unfolding Reached
loop-record-init c =
    let fr = c.from_reader-reader.ensures in
    let e = c.has_headers.ensures in
    let start = c.into_iter-record-iterator.ensures.into_iter_gives ∙ refl in
    let rdr = c.into_byte_records-record-items.ensures.rdr in
    let left = c.into_byte_records-record-items.ensures.left in
    rw (start, rdr, c.new-records.ensures.items) (record {
      untrimmed = rw e at fr.trim ∙ c.new.ensures.trim;
      ready = inr (inr (rw e at fr.has_headers, fr.headers));
      more = left;
      config = rw e at fr.config ∙ c.new.ensures.config;
      strict = rw e at fr.flexible ∙ c.new.ensures.flexible;
      expects = fr.expected;
      rest = strip_bom c.args.bytes.now;
      source = fr.source;
      reached = (sym fr.state, refl);
    })

pub loop-record-preserved : goal.loop-record-preserved
loop-record-preserved c =
    let so_far = c.loop-record.invariant in
    let steps = c.next.ensures.steps so_far.more so_far.untrimmed in
    let (read, first, left) = rw (c.in-Some.is, c.in_ok-record.was) at (steps.0 so_far.ready) in
    let kept = rw (c.in-Some.is, c.in_ok-record.was) at steps.3 in
    rw (c.in_ok-push.ensures.items, map-append fields_of c.loop-record.records.items (c.in_ok-record.field-0 ∷ []))
    (one-more _ _ c.loop-record.record-iterator.rdr c.next.new.self.rdr _ _ _ (fields_of c.in_ok-record.field-0) so_far read first left kept)

pub returns-in_err-record-clause-bad : goal.returns-in_err-record-clause-bad
unfolding records_of
returns-in_err-record-clause-bad c is n =
    let so_far = c.loop-record.invariant in
    let steps = c.next.ensures.steps so_far.more so_far.untrimmed in
    let why = rw (c.in-Some.is, c.in_err-record.was) at (steps.0 so_far.ready) in
    let told = rw is at c.from_residual.ensures.1 in
    refused (λ (s : Bor (List ℕ)). Some s.now) c.loop-record.record-iterator.rdr c.next.new.self.rdr _ (map fields_of c.loop-record.records.items) _ so_far.rest (goes_on _ told) why so_far.config so_far.source so_far.expects so_far.reached n

pub returns-clause-ok : goal.returns-clause-ok
unfolding records_of
returns-clause-ok c =
    let so_far = c.loop-record.invariant in
    let steps = c.next.ensures.steps so_far.more so_far.untrimmed in
    let read = rw c.in-None.is at (steps.0 so_far.ready) in
    all_records _ _ _ so_far.rest so_far.reached (rows-end (λ (s : Bor (List ℕ)). Some s.now) c.loop-record.record-iterator.rdr c.next.new.self.rdr [] default_config so_far.rest so_far.config so_far.source read)
