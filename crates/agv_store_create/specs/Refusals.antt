-- Why SQL texts that write fail while the store is well. No public clause but that of `run_text` cites this.
use Rattle.std.specs.Prelude.{◌≡◌, ◌⊎◌, ◌≤◌, ℕ, Bool, true, false, List, [], ◌∷◌, length, Option, None, Ok, Err}
use Rattle.sqlite_schema.specs.declared.schema.Schema.{Schema}
use Rattle.sqlite_resolve.specs.declared.compiled.Compiled.{Compiled}
use Rattle.sqlite.specs.declared.error.Error.{Error}
use Rattle.sqlite.specs.Does.{Does}
use Rattle.sqlite.specs.Effect.{Database}
use Rattle.sqlite.specs.Listing.{understood}
use Rattle.sqlite.specs.State.{text_of}
use Rattle.agv_store_create.specs.TextsRun.{Adds, RunsText, enforced}

-- the text is this one statement, which has no parameters and creates a table or an index, or inserts rows
pub record IsAddition (schema : Schema) (sql : List ℕ) (c : Compiled) : Type 0 where
  pub is : understood schema sql ≡ Ok c
  pub whole : length sql ≤ c.tail
  pub unnamed : c.names ≡ []
  pub untimed : c.formats ≡ []
  pub silent : c.returning ≡ None
  pub adds : Adds c.command

-- SQL refuses the text over this database, whatever the store does and with no limit on steps: it breaks a rule, or is too big
abbrev pub RefusesText : List ℕ → Database → Type 0
RefusesText sql db = (c : Compiled) → IsAddition db.schema sql c → (why : Option Error) × Does None enforced [] db (text_of sql c) None c.command (Err why)

-- SQL refuses the text of one of the steps, after those before it ran
abbrev pub RefusesSteps : List (Bool × List ℕ) → Database → Type 0
RefusesSteps [] db = ⊥
RefusesSteps ((true, sql) ∷ steps) db = RefusesText sql db ⊎ ((next : Database) × RunsText sql db next × RefusesSteps steps next)
RefusesSteps ((false, sql) ∷ steps) db = RefusesSteps steps db
