-- One text is carried out, and the texts in turn.
use Rattle.std.proofs.Common.{◌≡◌, ◌∙◌, ◌+◌, ◌<◌, ◌++◌, ℕ, Bool, true, false, List, [], ◌∷◌, map, take, length, get_or, None, Ok, Err, Result, OnOk, IsTrue, inl, inr, refl, ap, subst}
use Rattle.std.proofs.lemmas.Bool.{cases_Bool}
use Rattle.std.proofs.lemmas.List.{take_more}
use Rattle.sqlite_schema.specs.declared.command.Command.{Command}
use Rattle.sqlite_schema.specs.declared.command.Command.TheVariants.{Insert, CreateTable, CreateIndex}
use Rattle.sqlite.specs.declared.error.Error.{Error}
use Rattle.sqlite.specs.declared.error.Error.TheVariants.{SqliteFailure}
use Rattle.sqlite.specs.declared.error.ErrorCode.TheVariants.{TransactionState}
use Rattle.sqlite.specs.Effect.{Database}
use Rattle.sqlite.specs.State.{State, Runs, Executes, ExecutesInside}
use Rattle.sqlite.proofs.Callers.{runs_as}
use Rattle.agv_store_create.specs.TextsRun.{Adds, Did, RunsText, RunSteps, RunsSteps}

-- ---- one text

did_it : (old new : State) (command : Command) (text : List ℕ) (count : ℕ) → Runs old new None command text [] count → Adds command → Did command text old.now new.now
did_it old new CreateTable text count w adds = record { limit = old.step_limit; tally = w.tally; does = w.changed; listed = w.sound }
did_it old new (CreateIndex at) text count w adds = record { limit = old.step_limit; tally = w.tally; does = w.changed; listed = w.sound }
did_it old new (Insert at from) text count w adds = record { limit = old.step_limit; tally = w.tally; does = w.changed; listed = w.sound }
did_it old new _ text count w adds = absurd adds

ran_text : (sql : List ℕ) (old new : State) (count : ℕ) → Executes sql [] old new (Ok count) → RunsText sql old.now new.now
ran_text sql old new count ran command is plain adds = did_it old new command _ count (runs_as sql [] old new old.now.schema refl command is plain count ran) adds

pub runs_one : (sql : List ℕ) (old new : State) (r : Result ℕ Error) → (old.in_transaction ≡ false → r ≡ Err (SqliteFailure TransactionState)) → (IsTrue old.in_transaction → ExecutesInside 0 sql [] old new r)
    → OnOk r (RunsSteps ((true, sql) ∷ []) old new)
runs_one sql old new (Err e) ended runs = tt
runs_one sql old new (Ok count) ended runs = elim (cases_Bool old.in_transaction) [
  | inl inside ↦ let it = runs inside in record { ran = (new.now, ran_text sql old new count it.0, refl); kept = it.1.committed_is; mode = it.1.mode }
  | inr outside ↦ absurd (let e = ended outside in cc)
]

-- ---- the texts in turn

pub runs_more : (steps more : List (Bool × List ℕ)) (a b c : Database) → RunSteps steps a b → RunSteps more b c → RunSteps (steps ++ more) a c
runs_more [] more a b c p q = subst (λ d. RunSteps more d c) p q
runs_more ((true, sql) ∷ steps) more a b c p q = (p.0, p.1, runs_more steps more p.0 b c p.2 q)
runs_more ((false, sql) ∷ steps) more a b c p q = runs_more steps more a b c p q

pub runs_none : (a : State) → IsTrue a.in_transaction → RunsSteps [] a a
runs_none a inside = record { ran = refl; kept = refl; mode = inside }

pub left_out : (sql : List ℕ) (a : State) → IsTrue a.in_transaction → RunsSteps ((false, sql) ∷ []) a a
left_out sql a inside = record { ran = refl; kept = refl; mode = inside }

map_append : {X Y : Type 0} (f : X → Y) (xs ys : List X) → map f (xs ++ ys) ≡ map f xs ++ map f ys
map_append f [] ys = refl
map_append f (x ∷ xs) ys = ap (λ zs. f x ∷ zs) (map_append f xs ys)

pub runs_next : {C : Type 0} (by : C → Bool × List ℕ) (all : List C) (i : ℕ) (d : C) (a b c : State) → i < length all → RunsSteps (map by (take i all)) a b → RunsSteps (by (get_or all i d) ∷ []) b c → RunsSteps (map by (take (i + 1) all)) a c
runs_next by all i d a b c low p q = rw (take_more all i d low, map_append by (take i all) (get_or all i d ∷ []))
    (record { ran = runs_more (map by (take i all)) (by (get_or all i d) ∷ []) a.now b.now c.now p.ran q.ran; kept = q.kept ∙ p.kept; mode = q.mode })
