-- What SQL texts that write do to a database when they are executed one after the other. No public clause cites this.
use Rattle.std.specs.Prelude.{◌≡◌, ℕ, Bool, true, false, IsTrue, List, [], ◌∷◌, Option, None, Ok}
use Rattle.sqlite_trees.specs.Tree.{Trees}
use Rattle.sqlite_schema.specs.declared.schema.Keys.TheVariants.{Enforced}
use Rattle.sqlite_schema.specs.declared.command.Command.{Command}
use Rattle.sqlite_schema.specs.declared.command.Command.TheVariants.{Insert, CreateTable, CreateIndex}
use Rattle.sqlite.specs.declared.run.Mode.{Mode}
use Rattle.sqlite.specs.Does.{Tally, Does}
use Rattle.sqlite.specs.Effect.{Database, IsDatabase}
use Rattle.sqlite.specs.Given.{IsPlain}
use Rattle.sqlite.specs.Listing.{understood}
use Rattle.sqlite.specs.State.{State}
use Rattle.sqlite.proofs.Callers.{command_of, statement_of}

-- the command creates a table or an index, or inserts rows
abbrev pub Adds : Command → Type 0
Adds CreateTable = Unit {0}
Adds (CreateIndex at) = Unit {0}
Adds (Insert at from) = Unit {0}
Adds _ = ⊥

-- foreign keys are enforced
abbrev pub enforced : Mode
enforced = record { keys = Enforced; in_doubt = false; may_wait = false }

-- the command had this effect, and the trees still list the schema
pub record Did (command : Command) (text : List ℕ) (old new : Database) : Type 0 where
  pub limit : Option ℕ
  pub tally : Tally
  pub does : Does limit enforced [] old text None command (Ok (tally, new))
  pub listed : IsDatabase new

-- the text had the effect that SQL gives it
abbrev pub RunsText : List ℕ → Database → Database → Type 0
RunsText sql old new =
    (command : Command) → command_of (understood old.schema sql) ≡ command → IsPlain (understood old.schema sql) → Adds command → Did command (statement_of sql (understood old.schema sql)) old new

-- the texts of the steps that are executed ran in turn
abbrev pub RunSteps : List (Bool × List ℕ) → Database → Database → Type 0
RunSteps [] old new = new ≡ old
RunSteps ((true, sql) ∷ steps) old new = (next : Database) × RunsText sql old next × RunSteps steps next new
RunSteps ((false, sql) ∷ steps) old new = RunSteps steps old new

-- the trees that a crash may leave of the steps: those with all of them
abbrev pub LeavesSteps : List (Bool × List ℕ) → Database → Trees → Type 0
LeavesSteps steps old trees = (db : Database) × RunSteps steps old db × (trees ≡ db.trees)

-- the steps ran in a transaction that is still open, of which nothing is committed
pub record RunsSteps (steps : List (Bool × List ℕ)) (old new : State) : Type 0 where
  pub ran : RunSteps steps old.now new.now
  pub kept : new.committed ≡ old.committed
  pub mode : IsTrue new.in_transaction
