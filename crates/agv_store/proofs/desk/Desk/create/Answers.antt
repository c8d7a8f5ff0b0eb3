use Rattle.std.proofs.Common.{◌≡◌, true, false, refl, sym, subst}
use Rattle.std.proofs.lemmas.Bool.{false_from_ne_true}
use Rattle.sqlite_schema.specs.declared.schema.Schema.{Schema}
use Rattle.sqlite_trees.specs.declared.store.Store.{Ghosts}
use Rattle.sqlite.specs.Effect.{Database}
use Rattle.sqlite.specs.Held.{Held, state}
use Rattle.agv_world_core.specs.Worlds.{World, empty_world}
use Rattle.agv_store_create.specs.DeskSchema.{is_name_taken}
use Rattle.agv_store_create.specs.DeskTables.{MakesDesk}
use Rattle.agv_store_read_tables.specs.NewWorld.{KnowsNothing}
use Rattle.agv_store_create.specs.NewDesk.{AllowsDesk, MadeDesksStand, StandsNew}
use Rattle.agv_store_schema.specs.Connections.{IsClean, IsOpen}
use Rattle.agv_store_known.specs.Known.{IsKnownIn}
use Rattle.agv_store_known.specs.declared.known.Known.{Known}
use Rattle.agv_store_floor.specs.Floors.{IsConsistent, Keyed, Knows, world_at}
use Rattle.agv_store.specs.Opening.{CanBeMade, Makes}
use Rattle.agv_store.proofs.Found.{TellsItsWorld}
use Rattle.agv_store.proofs.desk.Desk.create.Goals as goal

module _ {S : Type 0} (g : Ghosts S) (made_stand : MadeDesksStand) (knows_nothing : (db : Database) → StandsNew db → KnowsNothing db) (old new : Held S) (free : AllowsDesk (state g old).now.schema)
    (idle : new.in_transaction ≡ false)
    (opens : IsClean g new → IsOpen g old × IsOpen g new)
    (same : IsClean g new → (state g new).now ≡ (state g new).committed)
    (made : IsClean g new → MakesDesk (state g old).now (state g new).committed) where
  makes : IsClean g new → MakesDesk (state g old).now (state g new).now
  makes clean = subst (MakesDesk (state g old).now) (sym (same clean)) (made clean)

  knows : IsClean g new → Knows g new empty_world
  knows clean =
      let it = makes clean in
      let there = knows_nothing (state g new).now (made_stand (state g old).now (state g new).now (state g new).now free it it.listed refl) in
      record { is_open = (opens clean).1; idle = idle; settled = sym (same clean); listed = it.listed; at = there.0; has = there.1 }

  makes_desk : IsClean g new → Makes g old (record { held = new; failed = false })
  makes_desk clean = record { was_open = (opens clean).0; makes = makes clean; knows = knows clean }

  module _ (tells_its_world : TellsItsWorld) where
    nothing_told : IsClean g new → world_at g new ≡ empty_world
    nothing_told clean = let it = knows clean in tells_its_world it.at (state g new).now empty_world it.has

    new_consistent : (known : Known) → IsKnownIn known empty_world → IsConsistent g new known false false
    new_consistent known is_known = record {
      idle = idle;
      opens = λ clean _ _. (opens clean).1;
      knows = λ clean _. subst (λ (world : World). Knows g new world) (sym (nothing_told clean)) (knows clean);
      is_known = λ clean _. subst (IsKnownIn known) (sym (nothing_told clean)) is_known;
    }

can_be_made : (schema : Schema) → AllowsDesk schema → (is_name_taken schema ≡ true → ⊥) → CanBeMade schema
can_be_made schema free taken = (false_from_ne_true (is_name_taken schema) taken, free)

pub returns-in-Ok-clause-possible : goal.returns-in-Ok-clause-possible
returns-in-Ok-clause-possible g c _ =
    let free = subst AllowsDesk c.schema.ensures.value (c.if-not-allows_desk.ensures.0 refl) in
    can_be_made (state g.S.Store c.args.conn).now.schema free (λ is. absurd (cc (c.in-Ok.ensures.taken.1 is)))

pub returns-in-Ok-clause-damaged : goal.returns-in-Ok-clause-damaged
returns-in-Ok-clause-damaged g c =
    let free = subst AllowsDesk c.schema.ensures.value (c.if-not-allows_desk.ensures.0 refl) in
    (λ is. absurd is, λ no. no (can_be_made (state g.S.Store c.args.conn).now.schema free (λ is. absurd (cc (c.in-Ok.ensures.taken.1 is)))))

pub new-requires : goal.new-requires
new-requires g c =
    let its = c.in-Ok.ensures in
    let free = subst AllowsDesk c.schema.ensures.value (c.if-not-allows_desk.ensures.0 refl) in
    new_consistent g.S.Store c.made_desks_stand.ensures c.new_desks_know_nothing.ensures.world c.args.conn c.make_desk_tables.new.conn free its.idle its.open its.all_committed its.made c.a_database_tells_its_world.ensures
    c.new-known.result (c.new-known.ensures empty_world c.none.ensures tt)

pub returns-in-Ok-clause-made : goal.returns-in-Ok-clause-made
returns-in-Ok-clause-made g c =
    let its = c.in-Ok.ensures in
    let free = subst AllowsDesk c.schema.ensures.value (c.if-not-allows_desk.ensures.0 refl) in
    subst (λ (desk : Keyed g.row.S.Denot). IsClean g.S.Store desk.held → Makes g.S.Store c.args.conn desk) (sym c.new.ensures)
    (makes_desk g.S.Store c.made_desks_stand.ensures c.new_desks_know_nothing.ensures.world c.args.conn c.make_desk_tables.new.conn free its.idle its.open its.all_committed its.made)
