-- How a desk is opened: made in a database, or adopted from one.
use Rattle.std.specs.Prelude.{◌≡◌, false, Result, Ok, Err, IfErr, IfOk}
use Rattle.sqlite_trees.specs.declared.store.Store.{Ghosts}
use Rattle.sqlite_schema.specs.declared.schema.Schema.{Schema}
use Rattle.sqlite.specs.Held.{Held, state}
use Rattle.agv_world_core.specs.Worlds.{empty_world}
use Rattle.agv_store_read.specs.WorldAnswers.{HasNoWorld}
use Rattle.agv_store_create.specs.declared.making_fault.MakingFault.{MakingFault}
use Rattle.agv_store_create.specs.declared.making_fault.MakingFault.TheVariants as making
use Rattle.agv_store_create.specs.DeskSchema.{is_name_taken}
use Rattle.agv_store_create.specs.DeskTables.{MakesDesk}
use Rattle.agv_store_create.specs.NewDesk.{AllowsDesk}
use Rattle.agv_store_schema.specs.Connections.{HasStorageCause, IsClean, IsOpen}
use Rattle.agv_store_known.specs.Known.{IsKnownIn}
use Rattle.agv_store_known.specs.declared.known.Known.{Known}
use Rattle.agv_store_floor.specs.Floors.{IsAsked, Keyed, Knows, world_at}
use Rattle.agv_store_read.specs.declared.open_fault.OpenFault.{OpenFault}
use Rattle.agv_store_read.specs.declared.open_fault.OpenFault.TheVariants as fault

-- the opening's fault for each fault of making the tables
abbrev pub of_making : MakingFault → OpenFault
of_making making.Taken = fault.Damaged
of_making making.Memory = fault.Memory
of_making making.Storage = fault.Storage

-- the outcome of an opening: a desk, or the connection and the fault
abbrev pub Opening : Type 0 → Type 0
Opening S = Result (Keyed S) (Held S × OpenFault)

-- the connection after an opening: the desk's, or the one given back
abbrev pub left_by : {S : Type 0} → Opening S → Held S
left_by (Ok desk) = desk.held
left_by (Err refused) = refused.0

-- the opening was refused as `Damaged`
abbrev pub IsDamaged : {S : Type 0} → Opening S → Type 0
IsDamaged (Ok desk) = ⊥
IsDamaged (Err (held, fault.Damaged)) = Unit {0}
IsDamaged (Err (held, fault.Memory)) = ⊥
IsDamaged (Err (held, fault.Storage)) = ⊥

-- the opening failed with `Storage`
abbrev pub IsStorage : {S : Type 0} → Opening S → Type 0
IsStorage (Ok desk) = ⊥
IsStorage (Err (held, fault.Damaged)) = ⊥
IsStorage (Err (held, fault.Memory)) = ⊥
IsStorage (Err (held, fault.Storage)) = Unit {0}

-- the desk's tables can be made in a database of this schema: none of their names is taken, no foreign key refers to one, and no two tables share a tree
abbrev pub CanBeMade : Schema → Type 0
CanBeMade schema = (is_name_taken schema ≡ false) × AllowsDesk schema

module _ {S : Type 0} (g : Ghosts S) where
  -- a new desk was made in the database, besides what it had, and the store was open before
  pub record Makes (old : Held S) (desk : Keyed S) : Type 0 where
    pub was_open : IsOpen g old
    pub makes : MakesDesk (state g old).now (state g desk.held).now
    pub knows : Knows g desk.held empty_world

  -- the database had the rows of a lawful world, and its contents are unchanged
  pub record Adopts (old : Held S) (desk : Keyed S) : Type 0 where
    pub was_open : IsOpen g old
    pub unchanged : (state g desk.held).now ≡ (state g old).now
    pub knows : Knows g desk.held (world_at g desk.held)

  -- the outcomes of looking for a desk in a database: what is known of the lawful world whose rows it has, or a fault, `Damaged` only where it has the rows of no lawful world
  pub record Finds (old new : Held S) (result : Result Known OpenFault) : Type 0 where
    pub found : IsClean g new → IfOk result (λ known. IsOpen g old × Knows g new (world_at g new) × IsKnownIn known (world_at g new))
    pub damaged : IsClean g new → IfErr result (λ why. why ≡ fault.Damaged → HasNoWorld (state g old).now)
    pub caused : IsClean g new → IfErr result (λ why. why ≡ fault.Storage → HasStorageCause g old new)
    pub asked : IsAsked g old new
