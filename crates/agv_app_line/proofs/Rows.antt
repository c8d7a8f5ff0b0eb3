-- What a parse of a subcommand's words finds, where it finds no fault: a value of each argument that is required.
use Rattle.std.proofs.Common.{◌≡◌, ◌∙◌, ◌⊎◌, inl, inr, ◌&&◌, ◌||◌, not, ℕ, Bool, cond, true, false, refl, sym, ap, subst, arith, ◌<◌, length, List, [], ◌∷◌, Some, None, true≢false}
use Rattle.std.specs.List.{fold, list_any}
use Rattle.std.specs.Str.{bytes_eq}
use Rattle.std.proofs.lemmas.Bool.{ne_eqb}
use Rattle.std.proofs.lemmas.Slice.Eq.{bytes_eq-Decides}
use Rattle.clap.specs.Facts.{parser_of_value}
use Rattle.clap.specs.Values.{refused_kind}
use Rattle.clap.specs.ValueTests.{accepts}
use Rattle.clap.specs.Walk.{Row, Rule, Text, action_of, arg_by_id, at_row, finished, has_row, more_values, nothing_held, reading_by, settled, walk, walk_from, with_default}
use Rattle.clap.specs.Kinds.{Kinds, check_kinds, range_kinds, value_kinds}
use Rattle.clap.specs.Takes.{is_given}
use Rattle.clap.specs.Simple.{Shape, rows_at}
use Rattle.clap.specs.Faults.{defaults_fault, level_fault, settle_fault, walk_fault}
use Rattle.clap.specs.declared.builder.action.ArgAction.TheVariants.{Set, Help}
use Rattle.clap.specs.declared.builder.value_parser.Reading.TheVariants.{AsWritten}
use Rattle.clap.specs.declared.error.kind.ErrorKind.{ErrorKind}
use Rattle.clap.specs.declared.error.kind.ErrorKind.TheVariants.{ArgumentConflict, DisplayHelp, InvalidValue, WrongNumberOfValues}
use Rattle.clap.specs.declared.parser.matches.ValueSource.TheVariants.{CommandLine}
use Rattle.clap.proofs.ValueTestLemmas.{accepts-Accepts}
use Rattle.agv_app_line.specs.CommandLine.{HasValue}
use Rattle.agv_app_line.proofs.Walks.{At, Each, Keeps, or_split, settle_keeps, walk_keeps}

pub some_kind : (k : ErrorKind) (ks : Kinds) → k ∷ ks ≡ [] → ⊥
some_kind k ks e = cc

neither : (a b : Bool) → (a || b) ≡ false → (a ≡ false) × (b ≡ false)
neither true b e = absurd (true≢false e)
neither false b e = (refl, e)

passed : (b : Bool) (k : ErrorKind) → cond b [] (k ∷ []) ≡ [] → b ≡ true
passed true k e = refl
passed false k e = absurd (some_kind k [] e)

not_repeated : (b : Bool) (k : ErrorKind) → cond (b && true) (k ∷ []) [] ≡ [] → b ≡ false
not_repeated true k e = absurd (some_kind k [] e)
not_repeated false k e = refl

too_many : (n : ℕ) → 1 < n → range_kinds 1 1 n ≡ [] → ⊥
too_many n lt e =
    let wrong : range_kinds 1 1 n ≡ WrongNumberOfValues ∷ [] = rw (ne_eqb n 0 (λ z. omega arith), ne_eqb 1 n (λ z. omega arith)) refl in
    some_kind _ _ (sym wrong ∙ e)

last_check : (a b c : Bool) → check_kinds a b c ≡ [] → c ≡ false
last_check true b c e = absurd (some_kind _ _ e)
last_check false true c e = absurd (some_kind _ _ e)
last_check false false true e = absurd (some_kind _ _ e)
last_check false false false e = refl

either_way : {X : Type 0} (P : X → Type 0) (b : Bool) (x : X) → P x → P (cond b x x)
either_way P true x p = p
either_way P false x p = p

pub each_both : {X : Type 0} (P Q R : X → Type 0) (xs : List X) → ((x : X) → P x → Q x → R x) → Each P xs → Each Q xs → Each R xs
each_both P Q R [] f p q = tt
each_both P Q R (x ∷ xs) f p q = (f x p.0 q.0, each_both P Q R xs f p.1 q.1)

-- a row that is new goes to the end
appended : (Good : Row → Type 0) (id : Text) (change taken : Row → List Row) (new : Row) (rows : List Row) → has_row id rows ≡ false → Each Good rows → Good new
    → Each Good (at_row id change (new ∷ []) (at_row id taken [] rows))
appended Good id change taken new [] none g good = (good, tt)
appended Good id change taken new (r ∷ rs) none g good =
    let parts = neither (bytes_eq r.id id) (has_row id rs) none in
    let inner : at_row id taken [] (r ∷ rs) ≡ r ∷ at_row id taken [] rs = rw parts.0 refl in
    let outer : at_row id change (new ∷ []) (r ∷ at_row id taken [] rs) ≡ r ∷ at_row id change (new ∷ []) (at_row id taken [] rs) = rw parts.0 refl in
    subst (Each Good) (sym (ap (at_row id change (new ∷ [])) inner ∙ outer)) (g.0, appended Good id change taken new rs parts.1 g.1 good)

-- a built argument that is used once, with one value, which is read as it is written
abbrev pub TakesOne : Rule → Type 0
TakesOne a = (action_of a ≡ Set) × (a.range ≡ Some (record { start_inclusive = 1; end_inclusive = 1 })) × (reading_by a ≡ AsWritten)

-- the first argument with its id, which has no default, and takes one value or asks for help
abbrev pub Fits : List Rule → Rule → Type 0
Fits rules a = (arg_by_id rules a.id ≡ Some a) × (a.defaults ≡ []) × (TakesOne a ⊎ (action_of a ≡ Help))

-- the row has one value, which the argument's parser takes
abbrev HasOne : Row → Rule → Type 0
HasOne r a = (v : Text) × (r.values ≡ v ∷ []) × (r.reading ≡ AsWritten) × (accepts a.ignore_case (parser_of_value a.parser) v ≡ true)

-- what an argument that is required has
abbrev pub IsHad : List Row → Rule → Type 0
IsHad rows a = TakesOne a → a.required ≡ true → HasValue rows a

has_value : (r : Row) (a : Rule) (rest : List Row) → bytes_eq r.id a.id ≡ true → HasOne r a → HasValue (r ∷ rest) a
has_value r a rest is one = (
  one.0,
  rw (is, one.1) refl,
  rw (is, one.1, one.2) refl,
  accepts-Accepts a.ignore_case (parser_of_value a.parser) one.0 one.3,
)

has_later : (r : Row) (a : Rule) (rest : List Row) → bytes_eq r.id a.id ≡ false → HasValue rest a → HasValue (r ∷ rest) a
has_later r a rest is has = (has.0, rw is has.1, rw is has.2, has.3)

module _ (s : Shape) (fits : Each (Fits s.rules) s.rules) (own : s.args_override_self ≡ false) (asks : s.subcommand_negates_reqs ≡ false) where
  abbrev Good : Row → Type 0
  Good r = At (λ a. TakesOne a → HasOne r a) (arg_by_id s.rules r.id)

  abbrev Uses : Rule → Type 0
  Uses a = Keeps Good s.rules s.args_override_self a

  one_keeps : (a : Rule) → arg_by_id s.rules a.id ≡ Some a → TakesOne a → Uses a
  one_keeps a first one [] rows e g =
      let e2 = rw one.1 at e in
      absurd (some_kind InvalidValue [] e2)
  one_keeps a first one (v ∷ []) rows e g =
      let e2 = rw (one.1, one.0, own) at e in
      let parts = or_split (cond (has_row a.id rows && true) (ArgumentConflict ∷ []) []) _ e2 in
      let good = passed (accepts a.ignore_case (parser_of_value a.parser) v) (refused_kind (parser_of_value a.parser)) (or_split (value_kinds a.ignore_case (parser_of_value a.parser) v) [] parts.1).0 in
      let new : Row = record { id = a.id; values = v ∷ []; count = None; source = Some CommandLine; reading = reading_by a } in
      let is_good : Good new = subst (At (λ a. TakesOne a → HasOne new a)) (sym first) (λ t. (v, refl, one.2, good)) in
      rw one.0 (appended Good a.id (more_values CommandLine (v ∷ [])) (λ _. []) new rows (not_repeated _ _ parts.0) g is_good)
  one_keeps a first one (v ∷ w ∷ more) rows e g =
      let e2 = rw one.1 at e in
      absurd (too_many (length (v ∷ w ∷ more)) (omega arith) (or_split (range_kinds 1 1 (length (v ∷ w ∷ more))) _ e2).0)

  help_keeps : (a : Rule) → action_of a ≡ Help → Uses a
  help_keeps a help values rows e g =
      let e2 = rw help at e in
      absurd (some_kind DisplayHelp [] (or_split _ (DisplayHelp ∷ []) e2).1)

  uses : (a : Rule) → Fits s.rules a → Uses a
  uses a fit = elim fit.2 [
    | inl one ↦ one_keeps a fit.0 one
    | inr help ↦ help_keeps a help
  ]

  each_uses : (rules : List Rule) → Each (Fits s.rules) rules → Each Uses rules
  each_uses [] f = tt
  each_uses (a ∷ rest) f = (uses a f.0, each_uses rest f.1)

  defaulted : (rules : List Rule) → Each (Fits s.rules) rules → (rows : List Row) → Each Good rows → Each Good (fold with_default rows rules)
  defaulted [] f rows g = g
  defaulted (a ∷ rest) f rows g =
      let same : with_default rows a ≡ cond (has_row a.id rows) rows rows = rw f.0.1 refl in
      defaulted rest f.1 (with_default rows a) (subst (Each Good) (sym same) (either_way (Each Good) (has_row a.id rows) rows g))

  has_one : (a : Rule) → arg_by_id s.rules a.id ≡ Some a → TakesOne a → (r : Row) → Good r → bytes_eq r.id a.id ≡ true → HasOne r a
  has_one a first one r good is =
      let same : r.id ≡ a.id = (bytes_eq-Decides r.id a.id).0 is in
      (subst (At (λ a. TakesOne a → HasOne r a)) (ap (arg_by_id s.rules) same ∙ first) good) one

  found_one : (a : Rule) → arg_by_id s.rules a.id ≡ Some a → TakesOne a → (rows : List Row) → Each Good rows → is_given a.id rows ≡ true → HasValue rows a
  found_one a first one [] g e = absurd (true≢false (sym e))
  found_one a first one (r ∷ rest) g e = go (bytes_eq r.id a.id) refl (found_one a first one rest g.1)
    where
      go : (b : Bool) → bytes_eq r.id a.id ≡ b → (is_given a.id rest ≡ true → HasValue rest a) → HasValue (r ∷ rest) a
      go true is more = has_value r a rest is (has_one a first one r g.0 is)
      go false is more = has_later r a rest is (more (rw is at e))

  is_there : (need given : Bool) → (need && not given) ≡ false → need ≡ true → given ≡ true
  is_there need true e n = refl
  is_there true false e n = absurd (true≢false e)
  is_there false false e n = absurd (true≢false (sym n))

  each_had : (rows : List Row) → Each Good rows → (rules : List Rule) → Each (Fits s.rules) rules → list_any (λ a. a.required && not (is_given a.id rows)) rules ≡ false → Each (IsHad rows) rules
  each_had rows g [] f e = tt
  each_had rows g (a ∷ rest) f e =
      let parts = neither (a.required && not (is_given a.id rows)) _ e in
      ((λ one need. found_one a f.0.0 one rows g (is_there a.required (is_given a.id rows) parts.0 need)), each_had rows g rest f.1 parts.1)

  -- each argument that is required has its value in the words behind the subcommand
  pub words_had : (words : List Text) → level_fault s [] nothing_held words false [] ≡ [] → Each (IsHad (rows_at s words).1) s.rules
  words_had words e =
      let end = (walk s.rules [] nothing_held words).held in
      let walked_well = or_split (walk_fault s [] (walk_from nothing_held) words) _ e in
      let settled_well = or_split (settle_fault s.rules s.args_override_self end) _ walked_well.1 in
      let defaults_well = or_split (defaults_fault (settled s.rules end).rows s.rules) _ settled_well.1 in
      let keeps = each_uses s.rules fits in
      let kept = walk_keeps Good s [] keeps (walk_from nothing_held) words walked_well.0 tt in
      let rows = settle_keeps Good s.rules s.args_override_self keeps end settled_well.0 kept in
      let all = last_check _ _ _ defaults_well.1 in
      let required = rw asks at all in
      each_had (finished s.rules end) (defaulted s.rules fits (settled s.rules end).rows rows) s.rules fits required
