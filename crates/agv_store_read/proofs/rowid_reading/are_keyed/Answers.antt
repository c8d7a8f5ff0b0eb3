use Rattle.std.proofs.Common.{◌≡◌, ◌∙◌, true, false, length, eq-eqb, sym}
use Rattle.std.specs.BTreeSet.{btree_set_len}
use Rattle.std.proofs.lemmas.Bool.{eqb-true}
use Rattle.agv_store_read.proofs.RowidsKeyed.{are_whole, counted_of, keyed_by, whole_of}
use Rattle.agv_store_read.proofs.rowid_reading.are_keyed.Goals as goal
use Rattle.agv_store_read.proofs.rowid_reading.are_keyed.Goals.{then-are_whole, else-are_whole}

pub returns : goal.returns
returns c =
    let rows = c.args.rows.now in
    let ids = c.in_ok-ids.ids in
    let from = c.in_ok-ids.ensures in
    let told : c.are_whole.result ≡ are_whole rows = c.are_whole.ensures in
    elim c.if-are_whole.branch [
      | then-are_whole w ↦
          let whole : are_whole rows ≡ true = sym told ∙ w.if-are_whole.true in
          let count : w.len.result ≡ btree_set_len ids = w.len.ensures.len in (
            (λ yes. keyed_by rows ids from whole (sym count ∙ eqb-true w.len.result (length rows) (sym w.result-is ∙ yes))),
            (λ keyed. w.result-is ∙ eq-eqb w.len.result (length rows) (count ∙ counted_of rows ids from keyed)),
          )
      | else-are_whole w ↦
          let none : c.if-are_whole.result ≡ false = w.result-is ∙ w.if-are_whole.false in
          let some : c.are_whole.result ≡ false = w.if-are_whole.false in (
            (λ yes. absurd (cc)),
            (λ keyed. let whole = whole_of rows keyed in absurd (cc)),
          )
    ]
