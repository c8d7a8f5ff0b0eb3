-- What `clap` is told of a command, from what is added to it.
use Rattle.std.proofs.Common.{◌≡◌, ◌∙◌, ◌||◌, ◌++◌, ap₂, ap, subst, sym, false, List, [], ◌∷◌, Result}
use Rattle.std.specs.List.{fold}
use Rattle.std.specs.declared.alloc.AllocError.{AllocError}
use Rattle.std.specs.declared.alloc.Global.{Global}
use Rattle.std.specs.declared.vec.Vec.{Vec}
use Rattle.clap.specs.Built.{AddsArg, AddsInTurn, AddsSubcommand}
use Rattle.clap.specs.Simple.{App, with_rule, with_subcommand}
use Rattle.clap.specs.Words.{Rule, rule_of}
use Rattle.clap.specs.declared.builder.arg.Arg.{Arg}
use Rattle.clap.specs.declared.builder.command.Command.{Command}
use Rattle.agv_app_line.specs.CommandLine.{AreApps, HasOneMore, IsApp}

-- one more argument
pub arg_added : (a : App) (rule : Rule) (arg : Arg) (old new : Command) → AddsArg old arg new → IsApp a old → rule_of arg ≡ rule → arg.global ≡ false → IsApp (with_rule a rule) new
arg_added a rule arg old new added is_old told local = (
  added.shape local ∙ ap₂ with_rule is_old.0 told,
  added.globals ∙ ap₂ (λ x y. x || y) is_old.1 local,
)

-- one more subcommand
subcommand_added : (a s : App) (old sub new : Command) → AddsSubcommand old sub new → IsApp a old → IsApp s sub → IsApp (with_subcommand a s.top) new
subcommand_added a s old sub new added is_old is_sub = (
  added.shape is_sub.1 ∙ ap₂ with_subcommand is_old.0 (ap (λ (x : App). x.top) is_sub.0),
  added.globals ∙ ap₂ (λ x y. x || y) is_old.1 is_sub.1,
)

-- and one after another
pub subcommands_added : (a : App) (apps : List App) (old : Command) (subs : List Command) (new : Command) → AddsInTurn AddsSubcommand old subs new → IsApp a old → AreApps apps subs
    → IsApp (fold (λ (a : App) (s : App). with_subcommand a s.top) a apps) new
subcommands_added a [] old [] new added is_old are = subst (IsApp a) added is_old
subcommands_added a [] old (c ∷ subs) new added is_old are = absurd are
subcommands_added a (s ∷ apps) old [] new added is_old are = absurd are
subcommands_added a (s ∷ apps) old (c ∷ subs) new added is_old are =
    subcommands_added (with_subcommand a s.top) apps added.0 subs new added.2 (subcommand_added a s old c added.0 added.1 is_old are.0) are.1

-- the commands are as said, with one more behind them
one_behind : (apps : List App) (a : App) (commands : List Command) (c : Command) → AreApps apps commands → IsApp a c → AreApps (apps ++ a ∷ []) (commands ++ c ∷ [])
one_behind [] a [] c are is = (is, tt)
one_behind [] a (d ∷ commands) c are is = absurd are
one_behind (x ∷ apps) a [] c are is = absurd are
one_behind (x ∷ apps) a (d ∷ commands) c are is = (are.0, one_behind apps a commands c are.1 is)

pub one_more : (apps : List App) (a : App) (list : Result (Vec Command Global) AllocError) (value : Result Command AllocError) (new : Vec Command Global)
    → (more : HasOneMore list value new) → AreApps apps more.0.items → IsApp a more.1 → AreApps (apps ++ a ∷ []) new.items
one_more apps a list value new more are is = subst (AreApps (apps ++ a ∷ [])) (sym more.4) (one_behind apps a more.0.items more.1 are is)
