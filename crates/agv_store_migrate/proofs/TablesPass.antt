-- SQL refuses no text that creates one of the three tables, where the schema has room for them.
use Rattle.std.proofs.Common.{◌≡◌, ℕ, Bool, true, List, [], ◌∷◌, map, inl, inr, sym, subst}
use Rattle.std.specs.List.{AllZip}
use Rattle.sqlite_schema.specs.declared.schema.Schema.{Schema}
use Rattle.sqlite_schema.specs.declared.schema.Table.{Table}
use Rattle.sqlite.specs.Effect.{Database}
use Rattle.agv_store_create.specs.Refusals.{RefusesSteps}
use Rattle.agv_store_create.proofs.Creations.{DefinesTable, makes_table}
use Rattle.agv_store_create.proofs.DeskFits.{each_stored}
use Rattle.agv_store_create.proofs.TableTexts.{each_defined}
use Rattle.agv_store_create.proofs.TablesFit as created
use Rattle.agv_store_create.proofs.TextsFit.{StoresTable}
use Rattle.agv_store_migrate.specs.MoveStatements.{HasRoom, HaveRoom, adding_steps}
use Rattle.agv_store_migrate.specs.Moved.{added_tables, added_texts}

has_room : (s : Schema) (t : Table) → HasRoom s t → created.HasRoom s t
has_room s t it = record { free = it.free; own = it.own; room = it.room; uncounted = it.complete }

all_pass : (texts : List (List ℕ)) (tables : List Table) → AllZip DefinesTable texts tables → AllZip StoresTable texts tables → (old : Database) → HaveRoom old.schema tables → RefusesSteps (map (λ text. (true, text)) texts) old → ⊥
all_pass [] [] defined stored old room refused = refused
all_pass [] (t ∷ tables) defined stored old room refused = refused
all_pass (sql ∷ texts) [] defined stored old room refused = absurd defined
all_pass (sql ∷ texts) (t ∷ tables) defined stored old room refused = elim refused [
  | inl here ↦ created.table_passes old sql t stored.0 (has_room old.schema t room.0) defined.0 here
  | inr later ↦
      let one = makes_table sql t defined.0 old later.0 room.0.free later.1 in
      all_pass texts tables defined.1 stored.1 later.0 (subst (λ s. HaveRoom s tables) (sym one.schema_is) room.1) later.2
]

pub no_room : (db : Database) → RefusesSteps adding_steps db → ¬ HaveRoom db.schema added_tables
no_room db refused room =
    all_pass added_texts added_tables each_defined.1.1.1.1.1.1.1.1.1.1.1 each_stored.1.1.1.1.1.1.1.1.1.1.1 db room refused
