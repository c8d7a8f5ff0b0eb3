-- Which subcommand a parse of a command's words enters, where it finds no fault, and what the subcommand has.
use Rattle.std.proofs.Common.{◌≡◌, ◌⊎◌, inl, inr, ◌&&◌, ◌||◌, not, Bool, cond, true, false, refl, sym, subst, List, [], ◌∷◌, is_some, Option, Some, None, true≢false}
use Rattle.std.specs.Prelude.{codes, find, option_map}
use Rattle.std.specs.Option.{option_map_or}
use Rattle.std.specs.Str.{bytes_eq}
use Rattle.std.proofs.lemmas.Slice.Eq.{bytes_eq-Decides}
use Rattle.clap.specs.Walk.{Row, Text, answers_to, nothing_held, settled, walk, walk_from}
use Rattle.clap.specs.Simple.{App, Shape, entered, label_of, names_of, rows_at}
use Rattle.clap.specs.Faults.{built_fault, defaults_fault, entered_fault, level_fault, settle_fault, walk_fault}
use Rattle.clap.specs.Kinds.{Kinds, check_kinds}
use Rattle.agv_app_line.proofs.Rows.{Fits, IsHad, some_kind, words_had}
use Rattle.agv_app_line.proofs.Walks.{Each, StopsWell, or_split, walk_stops}

-- a built subcommand with arguments of these kinds
pub record IsForm (s : Shape) : Type 0 where
  pub fits : Each (Fits s.rules) s.rules
  pub own : s.args_override_self ≡ false
  pub asks : s.subcommand_negates_reqs ≡ false

-- the subcommand that `clap` adds
abbrev pub IsHelp : Shape → Type 0
IsHelp s = (s.name ≡ codes "help") × (s.aliases ≡ [])

-- the subcommand is one of them, and its required arguments have their values
abbrev pub IsEntered : List Shape → Text → List Row → Type 0
IsEntered [] name rows = ⊥
IsEntered (s ∷ rest) name rows = (IsForm s × (name ≡ s.name) × Each (IsHad rows) s.rules) ⊎ IsEntered rest name rows

-- what is found of the words: one of the subcommands
abbrev pub IsFound : List Shape → Option (Text × List Row) → Type 0
IsFound subs None = ⊥
IsFound subs (Some p) = IsEntered subs p.0 p.1

first_of_two : (b : Bool) → (b || false) ≡ true → b ≡ true
first_of_two true e = refl
first_of_two false e = absurd (true≢false (sym e))

found_later : (s : Shape) (rest : List Shape) (found : Option (Text × List Row)) → IsFound rest found → IsFound (s ∷ rest) found
found_later s rest None f = absurd f
found_later s rest (Some p) f = inr f

has_subcommand : (a b c : Bool) → check_kinds a (not b && true) c ≡ [] → b ≡ true
has_subcommand true b c e = absurd (some_kind _ _ e)
has_subcommand false true c e = refl
has_subcommand false false c e = absurd (some_kind _ _ e)

module _ (name : Text) (words : List Text) (other : bytes_eq name (codes "help") ≡ false) where
  abbrev Answers : Shape → Bool
  Answers s = answers_to name (label_of s)

  abbrev fault_at : Option Shape → Kinds
  fault_at found = option_map_or (λ s. level_fault s [] nothing_held words false []) found []

  abbrev rows_of_found : Option Shape → Option (Text × List Row)
  rows_of_found = option_map (λ s. rows_at s words)

  not_help : (s : Shape) → IsHelp s → Answers s ≡ true → ⊥
  not_help s help is =
      let named : (bytes_eq (codes "help") name || false) ≡ true = rw (help.0, help.1) at is in
      let same : codes "help" ≡ name = (bytes_eq-Decides (codes "help") name).0 (first_of_two _ named) in
      let bad : true ≡ false = subst (λ w. bytes_eq w (codes "help") ≡ false) (sym same) other in
      true≢false bad

  entered_here : (s : Shape) (rest : List Shape) → IsForm s ⊎ IsHelp s → Answers s ≡ true → level_fault s [] nothing_held words false [] ≡ [] → IsFound (s ∷ rest) (Some (rows_at s words))
  entered_here s rest kind is e = elim kind [
    | inl form ↦ inl (form, refl, words_had s form.fits form.own form.asks words e)
    | inr help ↦ absurd (not_help s help is)
  ]

  entered_one : (subs : List Shape) → Each (λ s. IsForm s ⊎ IsHelp s) subs → fault_at (find Answers subs) ≡ [] → is_some (rows_of_found (find Answers subs)) ≡ true → IsFound subs (rows_of_found (find Answers subs))
  entered_one [] kinds e some = true≢false (sym some)
  entered_one (s ∷ rest) kinds e some = go (Answers s) refl (entered_one rest kinds.1) e some
    where
      go : (b : Bool) → Answers s ≡ b → (fault_at (find Answers rest) ≡ [] → is_some (rows_of_found (find Answers rest)) ≡ true → IsFound rest (rows_of_found (find Answers rest)))
          → fault_at (cond b (Some s) (find Answers rest)) ≡ [] → is_some (rows_of_found (cond b (Some s) (find Answers rest))) ≡ true
          → IsFound (s ∷ rest) (rows_of_found (cond b (Some s) (find Answers rest)))
      go true is more e some = entered_here s rest kinds.0 is e
      go false is more e some = found_later s rest _ (more e some)

-- words with no fault enter one of the subcommands, which has its values
pub words_enter : (a : App) → a.top.subcommand_required ≡ true → a.top.disable_help_subcommand ≡ false → Each (λ s. IsForm s ⊎ IsHelp s) a.subs
    → (words : List Text) → built_fault a nothing_held words ≡ [] → IsFound a.subs (entered a (walk a.top.rules (names_of a) nothing_held words).stopped)
words_enter a required helps kinds words e =
    let end = walk a.top.rules (names_of a) nothing_held words in
    let walked_well = or_split (walk_fault a.top (names_of a) (walk_from nothing_held) words) _ e in
    let entered_well = or_split (entered_fault a end.stopped) _ walked_well.1 in
    let settled_well = or_split (settle_fault a.top.rules a.top.args_override_self end.held) _ entered_well.1 in
    let defaults_well = or_split (defaults_fault (settled a.top.rules end.held).rows a.top.rules) _ settled_well.1 in
    let checked = rw required at defaults_well.1 in
    go end.stopped (walk_stops a.top (names_of a) helps (walk_from nothing_held) words walked_well.0 tt) entered_well.0
    (has_subcommand _ (is_some (entered a end.stopped)) _ checked)
  where
    go : (stop : Option (Text × List Text)) → StopsWell a.top (names_of a) helps stop → entered_fault a stop ≡ [] → is_some (entered a stop) ≡ true → IsFound a.subs (entered a stop)
    go None well e some = true≢false (sym some)
    go (Some p) well e some = entered_one p.0 p.1 well a.subs kinds e some
