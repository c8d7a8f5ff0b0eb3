use Rattle.std.proofs.Common.{◌≡◌, ◌∙◌, ◌<◌, length, None, Some, ap, rules, sym}
use Rattle.std.specs.FinMap as map
use Rattle.agv_track_holds.specs.Holds.{Holds}
use Rattle.agv_store_rows.specs.Columns.{hold_in}
use Rattle.agv_store_read.specs.ReadTables.{read_rows}
use Rattle.agv_store_read.proofs.HeldFootprints.{lists_each, lists_entries}
use Rattle.agv_store_read.proofs.HeldRead.{none_listed, one_more_listed, reads_on}
use Rattle.agv_store_read.proofs.held_rows.holds_in_rows.Goals as goal

pub loop-row-init : goal.loop-row-init
loop-row-init c = (ap (λ (t : Holds). read_rows hold_in t c.args.rows.now) c.new-table.ensures, none_listed c.new-table.result c.new-table.ensures c.new-pairs.result.items c.new-pairs.ensures.items)

pub loop-row-preserved : goal.loop-row-preserved
loop-row-preserved c =
    let free : map.get c.loop-row.table c.in-Some.thing ≡ None = search rules in
    let low : c.loop-row.row-index < length c.args.rows.now = search rules in
    let told : hold_in c.row-item.result ≡ Some (c.in-Some.thing, c.in-Some.key) = search rules in
    let noted : c.give.new.self ≡ map.insert c.loop-row.table c.in-Some.thing c.in-Some.key = search rules in (
      sym (reads_on c.loop-row.table c.args.rows.now c.loop-row.row-index c.row-item.result c.in-Some.thing c.in-Some.key low c.row-item.is told free c.give.new.self noted) ∙ c.loop-row.invariant.0,
      one_more_listed c.loop-row.table c.loop-row.pairs.items c.in-Some.thing c.in-Some.key free c.loop-row.invariant.1 c.give.new.self noted c.push.new.self.items c.in_ok-push-in-Some.ensures.items,
    )

pub invariant_of-result : goal.invariant_of-result
invariant_of-result c = record {
  entries = lists_entries c.loop-row.table c.loop-row.pairs.items c.loop-row.invariant.1;
  whole = lists_each c.loop-row.table c.loop-row.pairs.items c.loop-row.invariant.1;
}
