-- SQL statements that write: what they do when they run one after the other, and when SQL refuses one of them.
use Rattle.std.specs.Prelude.{◌≡◌, ◌⊎◌, ◌≤◌, ℕ, false, IsTrue, List, [], ◌∷◌, length, map, Option, None, Result, Ok, Err}
use Rattle.sqlite_value.specs.Order.{Row}
use Rattle.sqlite_trees.specs.declared.store.Store.{Ghosts}
use Rattle.sqlite_schema.specs.declared.schema.Keys.TheVariants.{Enforced}
use Rattle.sqlite_schema.specs.declared.schema.Schema.{Schema}
use Rattle.sqlite_resolve.specs.declared.compiled.Compiled.{Compiled}
use Rattle.sqlite.specs.Calls.{IsWrite}
use Rattle.sqlite.specs.Does.{Tally, Does}
use Rattle.sqlite.specs.Effect.{Database}
use Rattle.sqlite.specs.Held.{state}
use Rattle.sqlite.specs.Listing.{understood}
use Rattle.sqlite.specs.State.{HasCleanDisk, text_of}
use Rattle.sqlite.specs.declared.error.Error.{Error}
use Rattle.sqlite.specs.declared.run.Mode.{Mode}
use Rattle.sqlite.specs.declared.transaction.Transaction.{Transaction}
use Rattle.agv_store_schema.specs.Connections.{HasStorageCause}
use Rattle.agv_store_schema.specs.Errors.{IsOfStore}
use Rattle.agv_store_schema.specs.RowTexts.{insertion_text}
use Rattle.agv_store_schema.specs.declared.table_name.TableName.{TableName}

-- a statement: its text, and the values of its parameters
abbrev pub Statement : Type 0
Statement = List ℕ × Row

-- the INSERTs of these rows into a table
abbrev pub insertions : TableName → List Row → List Statement
insertions name rows = map (λ row. (insertion_text name, row)) rows

-- the text is this one command, which writes and has a parameter for each of the values
pub record IsWriting (schema : Schema) (s : Statement) (c : Compiled) : Type 0 where
  pub is : understood schema s.0 ≡ Ok c
  pub whole : length s.0 ≤ c.tail
  pub named : length s.1 ≡ length c.names
  pub untimed : c.formats ≡ []
  pub silent : c.returning ≡ None
  pub writes : IsWrite c.command

-- foreign keys are enforced
abbrev pub enforced : Mode
enforced = record { keys = Enforced; in_doubt = false; may_wait = false }

-- SQL refuses the statement over this database, whatever the store does and with no limit on steps: it breaks a rule, or a row is too big
abbrev pub Refuses : Statement → Database → Type 0
Refuses s db = (c : Compiled) → IsWriting db.schema s c → (why : Option Error) × Does None enforced s.1 db (text_of s.0 c) None c.command (Err why)

-- the statement ran over a database and left this one, with no limit on steps
abbrev pub RunsOver : Statement → Database → Database → Type 0
RunsOver s old new = (c : Compiled) → IsWriting old.schema s c → (tally : Tally) × Does None enforced s.1 old (text_of s.0 c) None c.command (Ok (tally, new))

-- the statements ran in turn
abbrev pub RunsAll : List Statement → Database → Database → Type 0
RunsAll [] old new = new ≡ old
RunsAll (s ∷ more) old new = (next : Database) × RunsOver s old next × RunsAll more next new

-- SQL refuses one of the statements, after those before it ran
abbrev pub RefusesOne : List Statement → Database → Type 0
RefusesOne [] db = ⊥
RefusesOne (s ∷ more) db = Refuses s db ⊎ ((next : Database) × RunsOver s db next × RefusesOne more next)

module _ {S : Type 0} (g : Ghosts S) (old new : Transaction S) where
  -- the statements ran in turn, and the transaction goes on
  abbrev pub HaveRun : List Statement → Type 0
  HaveRun all = IsTrue (state g new.conn.now).in_transaction × ((state g old.conn.now).step_limit ≡ None → RunsAll all (state g old.conn.now).now (state g new.conn.now).now)

  -- a fault of the store has its cause, or SQL refuses one of the statements, after those before it ran
  abbrev pub HaveFailed : List Statement → Error → Type 0
  HaveFailed all e = IsOfStore e → HasStorageCause g old.conn.now new.conn.now ⊎ RefusesOne all (state g old.conn.now).now

  -- how the statements end that run in turn
  abbrev pub Ends : {A : Type 0} → List Statement → Result A Error → Type 0
  Ends all (Ok a) = HaveRun all
  Ends all (Err e) = HaveFailed all e

  -- the same, if the transaction had not ended before
  abbrev pub EndsInside : {A : Type 0} → List Statement → Result A Error → Type 0
  EndsInside all result = HasCleanDisk (state g new.conn.now) → IsTrue (state g old.conn.now).in_transaction → Ends all result
