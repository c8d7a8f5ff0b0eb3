-- A floor over the desk's tables as its callers see it, and its invariant.
use Rattle.std.specs.Prelude.{◌≡◌, Bool, false, refl}
use Rattle.std.specs.Coded.{Coded, code_by, coded×, coded_bool}
use Rattle.sqlite_trees.specs.declared.store.Store.{Ghosts}
use Rattle.sqlite.specs.Effect.{IsDatabase}
use Rattle.sqlite.specs.Held.{Held, held_code, state}
use Rattle.sqlite.specs.State.{Survives}
use Rattle.agv_world_core.specs.Asks.{Facts}
use Rattle.agv_world_core.specs.Worlds.{World}
use Rattle.agv_store_read.specs.WorldAnswers.{HasWorld}
use Rattle.agv_store_read_tables.specs.WorldIn.{world_in}
use Rattle.agv_store_schema.specs.DeskRows.{Placing}
use Rattle.agv_store_schema.specs.SchemaNumbers.{desk_seats}
use Rattle.agv_store_schema.specs.Connections.{IsClean, IsOpen}
use Rattle.agv_store_known.specs.Known.{IsKnownIn}
use Rattle.agv_store_known.specs.declared.known.Known.{Known}

-- ---- a floor, as its callers see it

-- a floor: its connection, and whether the store has failed
pub record Keyed (S : Type 0) : Type 0 where
  -- its connection
  pub held : Held S
  -- the store has failed
  pub failed : Bool

-- the encoding of a floor as the pair of both
abbrev pub keyed_code : {S : Type 0} → Coded S → Coded (Keyed S)
keyed_code {S} store =
    code_by (Held S × Bool) (coded× (held_code store) coded_bool) (λ desk. (desk.held, desk.failed)) (λ pair. record { held = pair.0; failed = pair.1 }) (λ _. refl)

module _ {S : Type 0} (g : Ghosts S) where
  -- ---- its world

  -- the world that its tables encode
  abbrev pub world_at : Held S → World
  world_at held = world_in (state g held).now

  -- the connection is open and in no transaction, all is committed, and the desk's tables have the rows of this world, which is lawful
  pub record Knows (held : Held S) (world : World) : Type 0 where
    pub is_open : IsOpen g held
    pub idle : held.in_transaction ≡ false
    pub settled : (state g held).committed ≡ (state g held).now
    pub listed : IsDatabase (state g held).now
    pub at : Placing
    pub has : HasWorld at (state g held).now world

  -- ---- its invariant

  -- the invariant of a floor, over the connection, what is known beside the tables, and the two flags
  pub record IsConsistent (held : Held S) (known : Known) (failed in_doubt : Bool) : Type 0 where
    pub idle : held.in_transaction ≡ false
    -- it is open, unless a fault that may have closed it was noted
    pub opens : IsClean g held → failed ≡ false → in_doubt ≡ false → IsOpen g held
    -- while it is open, its tables have the rows of a lawful world
    pub knows : IsClean g held → IsOpen g held → Knows held (world_at held)
    -- while it is open, what is known beside the tables is true of this world
    pub is_known : IsClean g held → IsOpen g held → IsKnownIn known (world_at held)

  -- ---- its facts as a floor

  -- the second moment is the first or a later one, and nothing was written between them
  pub record IsAsked (start now : Held S) : Type 0 where
    -- a crash leaves what it could have left before
    pub survives : Survives (state g start) (state g now) (λ _. ⊥)
    pub was_open : IsClean g now → IsOpen g now → IsOpen g start
    -- while the store is open, all tables are as they were, also those that are not the desk's
    pub unchanged : IsClean g now → IsOpen g now → (state g start).committed ≡ (state g start).now → (state g now).now ≡ (state g start).now
    pub committed : IsClean g now → IsOpen g now → (state g now).committed ≡ (state g start).committed
    pub idle : start.in_transaction ≡ false → now.in_transaction ≡ false

  -- the facts of a floor that the contracts of its questions cite
  abbrev pub facts_of : Facts (Keyed S)
  facts_of = record {
    world = λ desk. world_at desk.held;
    is_clean = λ desk. IsClean g desk.held;
    is_open = λ desk. IsOpen g desk.held;
    failed = λ desk. desk.failed;
    seats = λ desk. desk_seats;
    is_later = λ start now. IsAsked start.held now.held;
  }
