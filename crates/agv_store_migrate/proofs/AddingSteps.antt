-- The texts that make the three tables run in turn, where these can be made.
use Rattle.std.proofs.Common.{◌≡◌, ◌∙◌, ◌++◌, ℕ, Bool, true, false, List, [], ◌∷◌, map, Result, Ok, Err, OnOk, IsTrue, refl, sym}
use Rattle.std.specs.List.{list_all}
use Rattle.std.proofs.lemmas.Bool.{and_parts}
use Rattle.sqlite_schema.specs.declared.schema.Schema.{Schema}
use Rattle.sqlite_schema.specs.declared.schema.Table.{Table}
use Rattle.sqlite.specs.declared.error.Error.{Error}
use Rattle.sqlite.specs.State.{State}
use Rattle.agv_store_schema.specs.declared.table_name.TableName.{TableName}
use Rattle.agv_store_schema.specs.declared.table_name.TableName.TheVariants as the
use Rattle.agv_store_migrate.specs.FirstRows.{is_first}
use Rattle.agv_store_migrate.specs.Moved.{CanBeAdded, added_tables, is_added_name_taken}
use Rattle.agv_store_schema.specs.DeskRows.{is_unreferred, table_for}
use Rattle.agv_store_create.specs.TextsRun.{RunsSteps}
use Rattle.agv_store_create.proofs.StepsRun.{runs_more}

-- ---- whether they can be made

abbrev pub are_unreferred : Schema → Bool
are_unreferred s = list_all (λ name. is_unreferred name s.tables) (map (λ (t : Table). t.name) added_tables)

each_unreferred : (s : Schema) → are_unreferred s ≡ true → (name : TableName) → is_first name ≡ false → is_unreferred (table_for name).name s.tables ≡ true
each_unreferred s all the.Capacity is = (and_parts _ _ all).0
each_unreferred s all the.Journey is = (and_parts _ _ (and_parts _ _ all).1).0
each_unreferred s all the.Act is = (and_parts _ _ (and_parts _ _ (and_parts _ _ all).1).1).0
each_unreferred s all the.Meta is = absurd (cc)
each_unreferred s all the.Node is = absurd (cc)
each_unreferred s all the.Edge is = absurd (cc)
each_unreferred s all the.Station is = absurd (cc)
each_unreferred s all the.Vehicle is = absurd (cc)
each_unreferred s all the.Trip is = absurd (cc)
each_unreferred s all the.Leg is = absurd (cc)
each_unreferred s all the.Load is = absurd (cc)
each_unreferred s all the.Job is = absurd (cc)
each_unreferred s all the.Hold is = absurd (cc)
each_unreferred s all the.Used is = absurd (cc)

all_unreferred : (s : Schema) → CanBeAdded s → are_unreferred s ≡ true
all_unreferred s can = rw (can.unreferred the.Capacity refl, can.unreferred the.Journey refl, can.unreferred the.Act refl) refl

pub told : (s : Schema) (answer : Bool) → is_added_name_taken s ≡ false → answer ≡ are_unreferred s → (IsTrue answer → CanBeAdded s) × (CanBeAdded s → IsTrue answer)
told s answer free is = ((λ yes. record { free = free; unreferred = each_unreferred s (sym is ∙ yes) }), (λ can. is ∙ all_unreferred s can))

-- ---- the texts in turn

pub runs_then : (steps more : List (Bool × List ℕ)) (a b c : State) → RunsSteps steps a b → RunsSteps more b c → RunsSteps (steps ++ more) a c
runs_then steps more a b c p q = record { ran = runs_more steps more a.now b.now c.now p.ran q.ran; kept = q.kept ∙ p.kept; mode = q.mode }

pub three_run : (one two three : Bool × List ℕ) (a b c d : State) (r : Result ℕ Error) → RunsSteps (one ∷ []) a b → RunsSteps (two ∷ []) b c → OnOk r (RunsSteps (three ∷ []) c d) → OnOk r (RunsSteps (one ∷ two ∷ three ∷ []) a d)
three_run one two three a b c d (Ok count) p q r = runs_then (one ∷ []) (two ∷ three ∷ []) a b d p (runs_then (two ∷ []) (three ∷ []) b c d q r)
three_run one two three a b c d (Err e) p q r = tt
