-- What an opening finds after a crash.
use Rattle.std.proofs.Common.{◌≡◌, ◌⊎◌, ℕ, IsTrue, inl, inr, refl, sym, ap, subst, ◌∙◌}
use Rattle.sqlite_trees.specs.declared.store.Store.{Ghosts}
use Rattle.sqlite_trees.specs.Tree.{Trees}
use Rattle.sqlite.specs.Effect.{Database, IsDatabase}
use Rattle.sqlite.specs.Held.{Held, state}
use Rattle.sqlite.specs.State.{Survives}
use Rattle.agv_world_core.specs.Worlds.{World, empty_world}
use Rattle.agv_desk.specs.declared.call.Call.{Call}
use Rattle.agv_store_create.specs.DeskTables.{LeavesDesk}
use Rattle.agv_store_read.specs.WorldAnswers.{HasNoWorld, HasWorld}
use Rattle.agv_store_read_tables.specs.NewWorld.{KnowsNothing}
use Rattle.agv_store_create.specs.NewDesk.{MadeDesksStand, StandsNew, TreesTellSchemas}
use Rattle.agv_store_schema.specs.Connections.{IsClean, IsOpen}
use Rattle.agv_store_floor.specs.Floors.{Knows, world_at}
use Rattle.agv_store.specs.Migration.{FirstFound, LeavesMigrated}
use Rattle.agv_store.specs.Opening.{CanBeMade}
use Rattle.agv_store.specs.Running.{HasDatabase}
use Rattle.agv_store.specs.Serving.{FoundIn, LeavesCall, world_after}

-- what holds of each database that is so
pub has_weaker : {One Other : Database → Type 0} {trees : Trees} → ((found : Database) → One found → Other found) → HasDatabase One trees → HasDatabase Other trees
has_weaker more has = record { found = has.found; listed = has.listed; trees_are = has.trees_are; is_so = more has.found has.is_so }

-- ---- databases with the same trees

module _ (tells : TreesTellSchemas) where
  same_database : (found other : Database) → IsDatabase found → IsDatabase other → other.trees ≡ found.trees → other ≡ found
  same_database found other listed also trees_are =
      let schema = tells found other listed also trees_are in
      λ i. record { schema = schema i; trees = trees_are i }

  -- the one that was found, or one with its trees
  pub is_one : (old other : Database) → IsDatabase other → HasDatabase (λ found. found ≡ old) other.trees → other ≡ old
  is_one old other also has = same_database has.found other has.listed also (sym has.trees_are) ∙ has.is_so

  pub undamaged : (old other : Database) (Left : Database → Type 0) → ((found : Database) → Left found → (world : World) × FoundIn found world) → IsDatabase other
      → HasDatabase (λ found. (found ≡ old) ⊎ Left found) other.trees → (other ≡ old) ⊎ (¬ HasNoWorld other)
  undamaged old other Left worlds also has =
      let same = same_database has.found other has.listed also (sym has.trees_are) in
      elim has.is_so [
        | inl before ↦ inl (same ∙ before)
        | inr left ↦
            let found = worlds has.found left in
            inr (λ none. none found.1.0 found.0 (subst (λ db. HasWorld found.1.0 db found.0) (sym same) found.1.1))
      ]

module _ {S : Type 0} (g : Ghosts S) (only_committed : (s : S) (db : Trees) → IsTrue (g.view s).is_open → g.recovers s db → db ≡ (g.view s).committed) where
  -- trees that an open connection at rest may leave are those that it has
  left_now : (held : Held S) → IsOpen g held → (state g held).committed ≡ (state g held).now → (trees : Trees) → (state g held).may_leave trees → (state g held).now.trees ≡ trees
  left_now held is_open settled trees left = sym (only_committed held.store trees is_open left ∙ ap (λ (db : Database). db.trees) settled)

  pub known : (held : Held S) (world : World) → Knows g held world → (trees : Trees) → (state g held).may_leave trees → HasDatabase (λ found. FoundIn found world) trees
  known held world knows trees left = record {
    found = (state g held).now;
    listed = knows.listed;
    trees_are = left_now held knows.is_open knows.settled trees left;
    is_so = (knows.at, knows.has);
  }

  module _ (old : Held S) (at : ℕ) (call : Call) (knows : Knows g old (world_at g old)) (trees : Trees) where
    found_either : (state g old).may_leave trees ⊎ LeavesCall g old at call trees → HasDatabase (λ found. FoundIn found (world_at g old) ⊎ FoundIn found (world_after (world_at g old) at call)) trees
    found_either (inl before) = has_weaker (λ found has. inl has) (known old (world_at g old) knows trees before)
    found_either (inr left) = record { found = left.found; listed = left.listed; trees_are = left.trees_are; is_so = inr left.has }

  pub either : (old new : Held S) (at : ℕ) (call : Call) → Knows g old (world_at g old) → IsClean g new → Survives (state g old) (state g new) (LeavesCall g old at call)
      → (trees : Trees) → (state g new).may_leave trees → HasDatabase (λ found. FoundIn found (world_at g old) ⊎ FoundIn found (world_after (world_at g old) at call)) trees
  either old new at call knows clean survives trees left = found_either old at call knows trees (survives.crash clean trees left)

  -- ---- of the making of a desk

  module _ (made_stand : MadeDesksStand) (knows_nothing : (db : Database) → StandsNew db → KnowsNothing db)
      (old : Held S) (is_open : IsOpen g old) (settled : (state g old).committed ≡ (state g old).now) (listed : IsDatabase (state g old).now) (trees : Trees) where
    abbrev NoneOrAll : Type 0
    NoneOrAll = HasDatabase (λ found. (found ≡ (state g old).now) ⊎ FoundIn found empty_world) trees

    none_or_all : (state g old).may_leave trees ⊎ (CanBeMade (state g old).now.schema × LeavesDesk (state g old).now trees) → NoneOrAll
    none_or_all (inl before) = record { found = (state g old).now; listed = listed; trees_are = left_now old is_open settled trees before; is_so = inl refl }
    none_or_all (inr left) =
        let made : Database = left.1.0 in
        record {
          found = made;
          listed = left.1.1.listed;
          trees_are = sym left.1.2;
          is_so = inr (knows_nothing made (made_stand (state g old).now made made left.0.1 left.1.1 left.1.1.listed refl));
        }

    either_made : CanBeMade (state g old).now.schema → (state g old).may_leave trees ⊎ LeavesDesk (state g old).now trees → NoneOrAll
    either_made can (inl before) = none_or_all (inl before)
    either_made can (inr left) = none_or_all (inr (can, left))

    pub made : (new : Held S) → CanBeMade (state g old).now.schema → IsClean g new → Survives (state g old) (state g new) (LeavesDesk (state g old).now) → (state g new).may_leave trees → NoneOrAll
    made new can clean survives left = either_made can (survives.crash clean trees left)

    pub opened : (new : Held S) → IsClean g new → Survives (state g old) (state g new) (λ trees. CanBeMade (state g old).now.schema × LeavesDesk (state g old).now trees) → (state g new).may_leave trees → NoneOrAll
    opened new clean survives left = none_or_all (survives.crash clean trees left)

  -- ---- of what only reads

  pub only_read : (old new : Held S) → IsOpen g old → (state g old).committed ≡ (state g old).now → IsDatabase (state g old).now
      → IsClean g new → Survives (state g old) (state g new) (λ _. ⊥) → (trees : Trees) → (state g new).may_leave trees → HasDatabase (λ found. found ≡ (state g old).now) trees
  only_read old new is_open settled listed clean survives trees left = elim (survives.crash clean trees left) [
    | inl before ↦ record { found = (state g old).now; listed = listed; trees_are = left_now old is_open settled trees before; is_so = refl }
    | inr never ↦ absurd never
  ]

  -- ---- of a move from the first schema

  module _ (old : Held S) (is_open : IsOpen g old) (settled : (state g old).committed ≡ (state g old).now) (listed : IsDatabase (state g old).now) (trees : Trees) where
    abbrev MovedOrNot : Type 0
    MovedOrNot = HasDatabase (λ found. (found ≡ (state g old).now) ⊎ ((had : FirstFound (state g old).now) × FoundIn found had.world)) trees

    first_or_second : (state g old).may_leave trees ⊎ LeavesMigrated (state g old).now trees → MovedOrNot
    first_or_second (inl before) = record { found = (state g old).now; listed = listed; trees_are = left_now old is_open settled trees before; is_so = inl refl }
    first_or_second (inr left) = record { found = left.found; listed = left.moves.listed; trees_are = sym left.trees_are; is_so = inr (left.had, (left.moves.at, left.moves.has)) }

    pub migrated : (new : Held S) → IsClean g new → Survives (state g old) (state g new) (LeavesMigrated (state g old).now) → (state g new).may_leave trees → MovedOrNot
    migrated new clean survives left = first_or_second (survives.crash clean trees left)
