-- Why a text fails: the store failed, was closed, or limits the steps, or SQL refuses the text.
use Rattle.std.proofs.Common.{◌≡◌, ◌≤◌, ◌⊎◌, ◌∙◌, ℕ, true, false, List, [], length, Option, Some, None, IsSome, Ok, Err, Result, IfErr, inl, inr, refl, sym, ap, subst}
use Rattle.std.proofs.lemmas.Bool.{both_ways, cases_Bool}
use Rattle.sqlite_trees.specs.declared.error.StoreError.{StoreError}
use Rattle.sqlite_trees.specs.declared.error.StoreError.TheVariants.{OutOfMemory, Io, Corrupt, Full, Broken, Unstorable}
use Rattle.sqlite_schema.specs.declared.command.Command.{Command}
use Rattle.sqlite_schema.specs.declared.command.Command.TheVariants.{Insert, CreateTable, CreateIndex}
use Rattle.sqlite_resolve.specs.declared.compiled.Compiled.{Compiled}
use Rattle.sqlite.specs.declared.error.Error.{Error}
use Rattle.sqlite.specs.Clock.{timed}
use Rattle.sqlite.specs.Does.{Does}
use Rattle.sqlite.specs.Effect.{is_query}
use Rattle.sqlite.specs.Listing.{understood}
use Rattle.sqlite.specs.State.{State, Fails, HasCause, RunsCommand, IsMisplaced, IsNoStatement, IsNotRun, ExecutesIn, ExecutesInside, EndsScope, Escapes, is_pragma, shows_rows, store_error, text_of}
use Rattle.agv_store_schema.specs.Connections.{MoreFaults}
use Rattle.agv_store_schema.specs.Errors.{IsOfStore, is_of_store}
use Rattle.agv_store_schema.proofs.Running.{same_value}
use Rattle.agv_store_create.specs.Refusals.{IsAddition, RefusesText}
use Rattle.agv_store_create.specs.TextsRun.{Adds, enforced}

-- ---- what an addition is not

quiet : (k : Command) → Adds k → (is_query k ≡ false) × (is_pragma k ≡ false)
quiet CreateTable adds = (refl, refl)
quiet (CreateIndex at) adds = (refl, refl)
quiet (Insert at from) adds = (refl, refl)
quiet _ adds = absurd adds

shows_none : (c : Compiled) → Adds c.command → c.returning ≡ None → shows_rows false c ≡ false
shows_none c adds silent = let q = quiet c.command adds in rw (q.0, q.1, silent) refl

placed : (s : State) (k : Command) (e : Error) → Adds k → IsMisplaced s k e → ⊥
placed s k e adds (inl it) = elim it.1 [
  | inl begins ↦ subst Adds begins.0 adds
  | inr ends ↦ elim ends.0 [ inl commits ↦ subst Adds commits adds | inr undoes ↦ subst Adds undoes adds ]
]
placed s k e adds (inr it) = elim it.2 [ inl releases ↦ subst Adds releases adds | inr undoes ↦ subst Adds undoes adds ]

stays : (s : State) (k : Command) → Adds k → Escapes 0 s k → ⊥
stays s k adds (inl ends) = elim ends [ inl commits ↦ subst Adds commits adds | inr undoes ↦ subst Adds undoes adds ]
stays s k adds (inr it) = elim it.1 [ inl releases ↦ subst Adds releases adds | inr undoes ↦ subst Adds undoes adds ]

-- ---- the causes

-- the causes of `HasStorageCause`, between two states
abbrev pub HasCauseIn : State → State → Type 0
HasCauseIn old new = MoreFaults old.faults new.faults ⊎ ((old.is_open ≡ false) ⊎ IsSome old.step_limit)

no_limit : (limit : Option ℕ) → IsSome limit ⊎ (limit ≡ None)
no_limit None = inr refl
no_limit (Some steps) = inl refl

module _ (old new : State) where
  by_cause : {Big Refuses : Type 0} (e : Error) → IsOfStore e → (cause : StoreError) → e ≡ store_error cause → HasCause old new Big cause → (Big → HasCauseIn old new ⊎ Refuses) → HasCauseIn old new ⊎ Refuses
  by_cause e of OutOfMemory is has big = absurd (both_ways (is_of_store e) (ap is_of_store is) of)
  by_cause e of Io is has big = inl (inl has)
  by_cause e of Corrupt is has big = inl (inl has)
  by_cause e of Full is has big = inl (inl has)
  by_cause e of Broken is has big = inl (inr (inl has))
  by_cause e of Unstorable is has big = big has

  -- a failure of the store
  pub store_fails : {Big Refuses : Type 0} (e : Error) → IsOfStore e → Fails old new Big e → (Big → HasCauseIn old new ⊎ Refuses) → HasCauseIn old new ⊎ Refuses
  store_fails e of fails big = by_cause e of fails.0 fails.1 fails.2 big

  by_limit : {Refuses : Type 0} → (old.step_limit ≡ None → Refuses) → HasCauseIn old new ⊎ Refuses
  by_limit refuses = elim (no_limit old.step_limit) [ inl limited ↦ inl (inr (inr limited)) | inr none ↦ inr (refuses none) ]

module _ (sql : List ℕ) (old new : State) where
  -- a text is one statement
  same_statement : (c k : Compiled) → understood old.now.schema sql ≡ Ok c → IsAddition old.now.schema sql k → c ≡ k
  same_statement c k is a = same_value (sym is ∙ a.is)

  is_statement : (e : Error) (k : Compiled) → IsAddition old.now.schema sql k → IsNoStatement old sql [] e → ⊥
  is_statement e k a (inl it) = absurd (let wrong = sym it.1 ∙ a.is in cc)
  is_statement e k a (inr it) =
      let same = sym (same_statement it.0 k it.1 a) in
      elim it.2 [
        | inl long ↦ long.0 (subst (λ (d : Compiled). length sql ≤ d.tail) same a.whole)
        | inr other ↦ elim other [
          | inl given ↦ given.0 (subst (λ (d : Compiled). 0 ≡ length d.names) same (sym (ap (λ (names : List (List ℕ)). length names) a.unnamed)))
          | inr reads ↦ reads.0 (subst (λ (d : Compiled). d.formats ≡ []) same a.untimed)
        ]
      ]

  -- what the command of a statement does, with the time that the clock gave
  abbrev DoesAt : Option ℕ → ℕ → Option Error → Compiled → Type 0
  DoesAt limit now why c = Does limit enforced (timed [] c.formats now) old.now (text_of sql c) c.returning c.command (Err why)

  refused : (c : Compiled) → understood old.now.schema sql ≡ Ok c → (now : ℕ) (why : Option Error) → DoesAt old.step_limit now why c → old.step_limit ≡ None → RefusesText sql old.now
  refused c is now why does none k a =
      let it : DoesAt None now why k = subst (λ limit. DoesAt limit now why k) none (subst (DoesAt old.step_limit now why) (same_statement c k is a) does) in
      (why, rw (a.untimed, a.silent) at it)

  command_fails : (e : Error) → IsOfStore e → (c : Compiled) → understood old.now.schema sql ≡ Ok c → (now : ℕ) → RunsCommand old new sql c (timed [] c.formats now) (Err e) → HasCauseIn old new ⊎ RefusesText sql old.now
  command_fails e of c is now (inl it) = elim it.0 [
    | inl misplaced ↦ inr (λ k a. absurd (placed old k.command e a.adds (subst (λ (d : Compiled). IsMisplaced old d.command e) (same_statement c k is a) misplaced)))
    | inr does ↦ by_limit old new (refused c is now (Some e) does.1)
  ]
  command_fails e of c is now (inr fails) = store_fails old new e of fails (λ big. by_limit old new (refused c is now None big))

  fails_to_run : (e : Error) → IsOfStore e → ExecutesIn false sql [] old new (Err e) → HasCauseIn old new ⊎ RefusesText sql old.now
  unfolding ExecutesIn IsNotRun
  fails_to_run e of (inl (inl none)) = inr (λ k a. absurd (is_statement e k a none.0))
  fails_to_run e of (inl (inr fails)) = store_fails old new e of fails (λ none. absurd none)
  fails_to_run e of (inr ran) = elim (cases_Bool (shows_rows false ran.0)) [
    | inl shows ↦ inr (λ k a. absurd (both_ways (shows_rows false k) (shows_none k a.adds a.silent) (subst (λ (d : Compiled). shows_rows false d ≡ true) (same_statement ran.0 k ran.1.is a) shows)))
    | inr runs ↦ command_fails e of ran.0 ran.1.is ran.1.now (rw runs at ran.2)
  ]

  text_fails : (e : Error) → IsOfStore e → ExecutesInside 0 sql [] old new (Err e) → HasCauseIn old new ⊎ RefusesText sql old.now
  unfolding EndsScope
  text_fails e of (inl ran) = fails_to_run e of ran.0
  text_fails e of (inr ended) = inr (λ k a. absurd (stays old k.command a.adds (subst (λ (d : Compiled). Escapes 0 old d.command) (same_statement ended.0.0 k ended.0.1.is a) ended.0.2)))

  -- a text inside a transaction fails by one of the causes, or is refused
  pub text_caused : (r : Result ℕ Error) → ExecutesInside 0 sql [] old new r → IfErr r (λ why. IsOfStore why → HasCauseIn old new ⊎ RefusesText sql old.now)
  text_caused (Ok count) ran = tt
  text_caused (Err e) ran = λ of. text_fails e of ran
