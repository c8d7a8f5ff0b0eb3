use Rattle.std.proofs.Common.{◌≡◌, ◌∙◌, false, sym}
use Rattle.agv_store_migrate.specs.Moved.{is_added_name_taken}
use Rattle.agv_store_migrate.proofs.AddingSteps.{are_unreferred, told}
use Rattle.agv_store_migrate.proofs.table_moving.can_be_added.Goals as goal

pub returns-then-not-is_any_used : goal.returns-then-not-is_any_used
returns-then-not-is_any_used c =
    let schema = c.args.schema.now in
    let free : is_added_name_taken schema ≡ false = sym c.is_any_used.ensures ∙ c.if-not-is_any_used.true in
    let alone : c.are_unreferred.result ≡ are_unreferred schema = rw (← c.as_slice.ensures) c.are_unreferred.ensures in
    told schema c.are_unreferred.result free alone
