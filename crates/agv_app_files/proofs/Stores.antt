-- A store over files in memory is clean, and a connection over one with no rows has an empty database.
use Rattle.std.proofs.Common.{◌≡◌, List, [], ◌∷◌, true, refl, sym, subst}
use Rattle.std.specs.Prelude.{Result, Ok, Err, OnOk}
use Rattle.std.specs.List.{AllZip}
use Rattle.sqlite_pool.specs.Pool.{state as pool_state}
use Rattle.sqlite_trees.specs.Tree.{Trees}
use Rattle.sqlite_trees.specs.declared.error.StoreError.{StoreError}
use Rattle.sqlite_trees.specs.declared.store.Store.{Ghosts}
use Rattle.sqlite_trees.proofs.Doubt.{no_doubt}
use Rattle.sqlite_schema.specs.declared.schema.Schema.{Schema}
use Rattle.sqlite_catalog.specs.Listing.{IsIndexRow, IsSound, IsTableRow, IsViewRow, Lists}
use Rattle.sqlite.specs.Held.{Held, state}
use Rattle.sqlite.specs.State.{HasCleanDisk, IsLive, Opens}
use Rattle.sqlite.specs.Files.{IsEmpty as HaveNothing}
use Rattle.sqlite.specs.Steps.{IsEmpty}
use Rattle.agv_app_files.specs.FullMemory.{outcome_in_memory}
use Rattle.agv_app_files.specs.MemoryStores.{MemoryStore, over_memory_files}

pub memory_is_clean : (held : Held MemoryStore) → HasCleanDisk (state over_memory_files held)
unfolding pool_state
memory_is_clean held = no_doubt true refl

-- a call that succeeds succeeds in memory
pub ok_in_memory : {T : Type 0} (P : Type 0) (outcome : Result T StoreError) → OnOk outcome P → OnOk (outcome_in_memory outcome) P
ok_in_memory P (Ok answer) told = told
ok_in_memory P (Err why) told = told

-- where there are no rows, nothing is listed
listed_by_none : {X Y : Type 0} (R : X → Y → Type 0) (all : List Y) → AllZip R [] all → all ≡ []
listed_by_none R [] listed = refl
listed_by_none R (one ∷ all) listed = absurd listed

lists_nothing : (schema : Schema) (trees : Trees) → HaveNothing trees → IsSound schema trees → schema ≡ record { tables = []; indexes = []; views = [] }
lists_nothing schema trees empty sound =
    let lists : Lists [] schema = subst (λ objects. Lists objects schema) empty.1 sound.lists in
    λ i. record {
      tables = listed_by_none IsTableRow schema.tables lists.listed.tables i;
      indexes = listed_by_none (IsIndexRow schema.tables) schema.indexes lists.listed.indexes i;
      views = listed_by_none IsViewRow schema.views lists.listed.views i;
    }

-- so a connection that was opened over a store with no rows has a database that is empty
pub opens_empty : {S : Type 0} (g : Ghosts S) (conn : Held S) (trees : Trees) → HaveNothing trees → (state g conn).now.trees ≡ trees → Opens (state g conn) × IsLive (state g conn) → IsEmpty (state g conn)
opens_empty g conn trees nothing has opened =
    let now = (state g conn).now in
    (opened.0, opened.1, lists_nothing now.schema now.trees (subst HaveNothing (sym has) nothing) (opened.1 opened.0.is_open).0)
