use Rattle.std.proofs.Common.{◌∙◌, ap}
use Rattle.sqlite.specs.Held.{state}
use Rattle.sqlite.proofs.StateLemmas.{survives_weaker}
use Rattle.agv_store_create.specs.SchemaTexts.{making_steps}
use Rattle.agv_store_create.proofs.CreationPasses.{creation_caused}
use Rattle.agv_store_create.proofs.DeskMade.{desk_made_by, desk_left_by}
use Rattle.agv_store_schema.proofs.StatesKept.{on_ok}
use Rattle.agv_store_create.proofs.desk_tables.make_tables.Goals as goal

pub returns-clause-made : goal.returns-clause-made
returns-clause-made g c clean =
    let old = state g.S.Store c.args.conn.now in
    on_ok c.run_steps.result (desk_made_by _ old.now _ (c.making_steps-steps.ensures ∙ ap making_steps c.schema.ensures.value) c.requires.free) (c.run_steps.ensures.ran clean)

pub returns-clause-crash : goal.returns-clause-crash
returns-clause-crash g c =
    let old = state g.S.Store c.args.conn.now in
    survives_weaker _ _ _ _ (λ _ trees. desk_left_by _ old.now (c.making_steps-steps.ensures ∙ ap making_steps c.schema.ensures.value) c.requires.free trees) c.run_steps.ensures.crash

pub returns-clause-caused : goal.returns-clause-caused
returns-clause-caused g c clean empty =
    let old = state g.S.Store c.args.conn.now in
    creation_caused _ _ old.now c.run_steps.result (c.making_steps-steps.ensures ∙ ap making_steps c.schema.ensures.value) empty (c.run_steps.ensures.caused clean)
