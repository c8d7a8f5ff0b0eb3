-- Which subcommand of the desk a parse gives, where `clap` finds no fault in the words, and what the subcommand has.
use Rattle.std.proofs.Common.{◌≡◌, ◌∙◌, ◌⊎◌, inl, inr, refl, sym, ap, subst, List, [], Option, Some, None, true}
use Rattle.std.specs.Prelude.{Box, option_map}
use Rattle.std.specs.Box.{box_value}
use Rattle.clap.specs.Walk.{Row, Rule, Text, action_of}
use Rattle.clap.specs.Matches.{subcommand_name_of}
use Rattle.clap.specs.Simple.{App, HasMatchesOf, app_of, built, is_simple, subcommand_of, subcommand_rows, subcommand_rows_of, filled, topic_rule, with_index}
use Rattle.clap.specs.Faults.{fault_of, is_simple_and_free}
use Rattle.clap.specs.declared.builder.action.ArgAction.TheVariants.{Set, Append, Help}
use Rattle.clap.specs.declared.builder.command.Command.{Command}
use Rattle.clap.specs.declared.parser.matches.ArgMatches.{ArgMatches}
use Rattle.clap.specs.declared.parser.matches.ArgMatches.TheViews.{out-ArgMatches, out-SubCommand}
use Rattle.clap.specs.declared.parser.matches.SubCommand.{SubCommand}
use Rattle.agv_app_line.specs.CommandLine.{Choice, IsApp, IsOneOf, desk}
use Rattle.agv_app_line.proofs.Rows.{TakesOne}
use Rattle.agv_app_line.proofs.Subcommands.{IsEntered, IsForm, IsFound, IsHelp, words_enter}
use Rattle.agv_app_line.proofs.Walks.{Each}

-- the name and the rows of what a parse entered
entered_parts : {Z : Type 0} (name : Text) (rows : List Row) (sub : Option (Box SubCommand Z)) → Some name ≡ option_map (λ b. (out-SubCommand (box_value b)).name.now) sub
    → Some rows ≡ option_map (λ p. p.1) (subcommand_rows sub) → subcommand_rows sub ≡ Some (name, rows)
entered_parts name rows None is are = cc
entered_parts name rows (Some b) is are = cc

-- what `help` takes: any number of names
abbrev topics : Rule
topics = with_index 1 (filled topic_rule)

not_help : TakesOne topics ⊎ (action_of topics ≡ Help) → ⊥
not_help (inl one) =
    let bad : Append ≡ Set = one.0 in
    cc
not_help (inr help) =
    let bad : Append ≡ Help = help in
    cc

module _ (kinds : Choice) where
  abbrev app : App
  app = built (desk kinds)

  -- the subcommands as they are built, and the `help` that `clap` adds
  forms : Each (λ s. IsForm s ⊎ IsHelp s) app.subs
  forms = (
    inl (record { fits = ((refl, refl, inl (refl, refl, refl)), ((refl, refl, inl (refl, refl, refl)), ((refl, refl, inr refl), tt))); own = refl; asks = refl }),
    (
      inl (record { fits = ((refl, refl, inl (refl, refl, refl)), ((refl, refl, inl (refl, refl, refl)), ((refl, refl, inl (refl, refl, refl)), ((refl, refl, inr refl), tt)))); own = refl; asks = refl }),
      (
        inl (record { fits = ((refl, refl, inl (refl, refl, refl)), ((refl, refl, inl (refl, refl, refl)), ((refl, refl, inr refl), tt))); own = refl; asks = refl }),
        (inl (record { fits = ((refl, refl, inl (refl, refl, refl)), ((refl, refl, inr refl), tt)); own = refl; asks = refl }), (inr (refl, refl), tt)),
      ),
    ),
  )

  -- an entered subcommand is one of the desk's, and each of its arguments has a value
  desk_values : (name : Text) (rows : List Row) → IsEntered app.subs name rows → IsOneOf (desk kinds).subs name rows
  desk_values name rows (inl replay) = inl (replay.1, (replay.2.0 (refl, refl, refl) refl, (replay.2.1.0 (refl, refl, refl) refl, tt)))
  desk_values name rows (inr (inl serve)) = inr (inl (serve.1, (serve.2.0 (refl, refl, refl) refl, (serve.2.1.0 (refl, refl, refl) refl, (serve.2.1.1.0 (refl, refl, refl) refl, tt)))))
  desk_values name rows (inr (inr (inl report))) = inr (inr (inl (report.1, (report.2.0 (refl, refl, refl) refl, (report.2.1.0 (refl, refl, refl) refl, tt)))))
  desk_values name rows (inr (inr (inr (inl migrate)))) = inr (inr (inr (inl (migrate.1, (migrate.2.0 (refl, refl, refl) refl, tt)))))
  desk_values name rows (inr (inr (inr (inr (inl help))))) = absurd (not_help help.0.fits.0.2)
  desk_values name rows (inr (inr (inr (inr (inr none))))) = absurd none

  -- so is the subcommand that is found of words with no fault
  found_values : (words : List Text) → fault_of (desk kinds) words ≡ [] → (name : Text) (rows : List Row) → subcommand_of (desk kinds) words ≡ Some (name, rows)
      → IsOneOf (desk kinds).subs name rows
  found_values words none name rows is =
      desk_values name rows (subst (IsFound app.subs) is (words_enter app refl refl forms words none))

  -- what a parse gives of words in which there is no fault
  pub record IsParsed (words : List Text) (name : Text) (rows : List Row) : Type 0 where
    pub none : fault_of (desk kinds) words ≡ []
    pub found : subcommand_of (desk kinds) words ≡ Some (name, rows)
    pub values : IsOneOf (desk kinds).subs name rows

  pub line_parsed : (command : Command) → IsApp (desk kinds) command → (words : List Text) (m : ArgMatches) (name : Text) (rows : List Row)
      → (is_simple_and_free (app_of command) ≡ true → fault_of (app_of command) words ≡ []) → HasMatchesOf (app_of command) words m
      → Some name ≡ subcommand_name_of m → Some rows ≡ option_map (λ p. p.1) (subcommand_rows_of m)
      → IsParsed words name rows
  line_parsed command is words m name rows kinds_of matches is_name are_rows =
      let none = subst (λ (a : App). fault_of a words ≡ []) is.0 (kinds_of (ap is_simple_and_free is.0)) in
      let same : subcommand_rows_of m ≡ subcommand_of (desk kinds) words = (matches (ap is_simple is.0)).1 ∙ ap (λ (a : App). subcommand_of a words) is.0 in
      let found = sym same ∙ entered_parts name rows (out-ArgMatches m).subcommand is_name are_rows in
      record { none = none; found = found; values = found_values words none name rows found }
