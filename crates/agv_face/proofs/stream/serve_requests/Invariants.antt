use Rattle.std.proofs.Common.{◌≡◌, ◌≤◌, ◌+◌, ◌-◌, ◌*◌, drop, vec_len, vec_capacity}
use Rattle.agv_face_http.specs.answers.Sizes.{most_answer}
use Rattle.agv_face.specs.StreamEnd.{most_reads}
use Rattle.agv_face.specs.CountingIo.{calls_of, counted}
use Rattle.agv_face.proofs.HasServed.{HasServed}
use Rattle.agv_face.proofs.stream.serve_requests.Given as goal

-- the requests so far are served, and what is left of the input is behind them in the buffer, and in the reader
abbrev pub invariant-loop-reads : goal.invariant-loop-reads
invariant-loop-reads g l =
    HasServed g.S.Store g.R.Read.remaining g.W.Write.contents l.at l.initial.desk l.initial.reader l.initial.writer l.desk l.reader l.writer l.ended (drop l.served l.buffers.input.items) l.answers
    × (most_answer ≤ vec_capacity l.buffers.output) × (73728 ≤ vec_capacity l.buffers.input) × (l.reads ≤ l.most) × (l.most ≡ most_reads l.initial.max_reads)
    × (l.answers + (vec_len l.buffers.input - l.served) ≤ l.reads * 4096) × (calls_of l.reader ≡ counted (calls_of l.initial.reader) l.reads)
    × (l.served ≤ vec_len l.buffers.input)

abbrev pub decreases-loop-reads : goal.decreases-loop-reads
decreases-loop-reads g l = (l.most - l.reads) * 4097 + (vec_len l.buffers.input - l.served)
