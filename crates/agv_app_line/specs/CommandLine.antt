-- The command line: its definition for `clap`, what a line asks for, and the output if there is no line.
use Rattle.std.specs.Prelude.{◌≡◌, ◌≤◌, ◌⊎◌, ⊤, ℕ, ℤ, pos, true, false, List, [], ◌∷◌, ◌++◌, map, codes, Option, None, Some, Result, Ok}
use Rattle.std.specs.Borrow.{Bor}
use Rattle.std.specs.declared.alloc.AllocError.{AllocError}
use Rattle.std.specs.declared.alloc.Global.{Global}
use Rattle.std.specs.declared.vec.Vec.{Vec}
use Rattle.std.specs.Str.Parse.{IsNumeral, without_leading_plus, digits_value}
use Rattle.clap.specs.Facts.{parser_of_value}
use Rattle.clap.specs.Values.{Accepts, unsigned_up_to}
use Rattle.clap.specs.Words.{App, IsAmong, Row, Rule, Shape, Text, app_of, fault_of, first_of, kind_of, new_app, new_rule, one_of, subcommand_of, with_rule, with_subcommand}
use Rattle.clap.specs.declared.builder.action.ArgAction.TheVariants.{Set}
use Rattle.clap.specs.declared.builder.command.Command.{Command}
use Rattle.clap.specs.declared.builder.command.Command.TheViews.{out-Command}
use Rattle.clap.specs.declared.builder.value_parser.ValueParser.TheVariants.{Names}
use Rattle.agv_app_line.specs.declared.line.Line.{Line}
use Rattle.agv_app_line.specs.declared.line.Line.TheVariants as line
use Rattle.agv_app_line.specs.declared.line_fault.LineFault.{LineFault}
use Rattle.agv_app_line.specs.declared.line_fault.LineFault.TheVariants as fault
use Rattle.agv_app_line.specs.declared.line_fault.WordsFault.{WordsFault}
use Rattle.agv_app_line.specs.declared.line_fault.WordsFault.TheVariants as unread
use Rattle.agv_app_line.specs.declared.line.ReportKind.{ReportKind}
use Rattle.agv_app_line.specs.declared.line.ReportKind.TheVariants as kind

-- ---- the definition for `clap`

-- the last millisecond of 2099
abbrev pub last_moment : ℕ
last_moment = 4102444799999

-- the highest port
abbrev pub last_port : ℕ
last_port = 65535

-- the most connections
abbrev pub most_connections : ℕ
most_connections = 4294967295

-- the words that an argument may have, as `clap` stores them: a borrowed list of borrowed texts, of which only the texts matter
abbrev pub Choice : Type 0
Choice = Bor (List (Bor Text))

-- the name of a report
abbrev pub kind_word : ReportKind → Text
kind_word kind.Stock = codes "stock"
kind_word kind.Holds = codes "holds"

-- the choice is the names of the reports, in this order
abbrev pub AreKinds : Choice → Type 0
AreKinds kinds = map (λ name. name.now) kinds.now ≡ kind_word kind.Stock ∷ kind_word kind.Holds ∷ []

-- a required option with one value
abbrev pub required_option : Text → Rule
required_option name = record (new_rule name) { long = Some name; action = Some Set; value_names = 1; required = true }

-- a required option whose value is a number up to `most`
abbrev pub number : Text → ℤ → Rule
number name most = record (required_option name) { parser = Some (unsigned_up_to 0 18446744073709551615 (Some most)) }

-- `--db FILE`
abbrev pub db : Rule
db = required_option (codes "db")

-- a required positional argument
abbrev pub positional : Text → Rule
positional name = record (new_rule name) { action = Some Set; value_names = 1; required = true }

-- `stock` or `holds`, as a positional argument
abbrev pub report_kind : Choice → Rule
report_kind kinds = record (positional (codes "kind")) { parser = Some (Names kinds) }

-- the subcommand `replay`
abbrev pub replay : App
replay = with_rule (with_rule (new_app (codes "replay")) db) (number (codes "at") (pos last_moment))

-- the subcommand `serve`
abbrev pub serve : App
serve = with_rule (with_rule (with_rule (new_app (codes "serve")) db) (number (codes "port") (pos last_port))) (number (codes "connections") (pos most_connections))

-- the subcommand `report`
abbrev pub report : Choice → App
report kinds = with_rule (with_rule (new_app (codes "report")) db) (report_kind kinds)

-- the subcommand `migrate`
abbrev pub migrate : App
migrate = with_rule (new_app (codes "migrate")) db

-- the command without subcommands: the program's name is not among the words, and the first word has to be a subcommand
abbrev pub desk_top : App
desk_top = record { top = record (new_app (codes "desk")).top { no_binary_name = true; subcommand_required = true }; subs = [] }

-- the command with the subcommand `replay`
abbrev pub replaying : App
replaying = with_subcommand desk_top replay.top

-- the command with the subcommands `replay` and `serve`
abbrev pub answering : App
answering = with_subcommand replaying serve.top

-- the command with `replay`, `serve` and `report`
abbrev pub reporting : Choice → App
reporting kinds = with_subcommand answering (report kinds).top

-- the whole command, as it is given to `clap`
abbrev pub desk : Choice → App
desk kinds = with_subcommand (reporting kinds) migrate.top

-- the command has this definition, and no global argument
abbrev pub IsApp : App → Command → Type 0
IsApp app command = (app_of command ≡ app) × ((out-Command command).has_globals ≡ false)

-- the commands have these definitions, one after another
abbrev pub AreApps : List App → List Command → Type 0
AreApps [] [] = ⊤
AreApps (a ∷ apps) (c ∷ commands) = IsApp a c × AreApps apps commands
AreApps [] (c ∷ commands) = ⊥
AreApps (a ∷ apps) [] = ⊥

-- `new` is the list with this value appended, if both were made
abbrev pub HasOneMore : {T : Type 0} → Result (Vec T Global) AllocError → Result T AllocError → Vec T Global → Type 0
HasOneMore {T} list value new = (old : Vec T Global) × (last : T) × (list ≡ Ok old) × (value ≡ Ok last) × (new.items ≡ old.items ++ last ∷ [])

-- ---- what the words encode

-- the argument has one value, which its parser accepts
abbrev pub HasValue : List Row → Rule → Type 0
HasValue rows a = (v : Text) × (first_of a.id rows ≡ Some v) × (one_of a.id rows ≡ Some v) × Accepts a.ignore_case (parser_of_value a.parser) v

-- each of the arguments has one value, which its parser accepts
abbrev pub HasValues : List Row → List Rule → Type 0
HasValues rows [] = ⊤
HasValues rows (a ∷ rest) = HasValue rows a × HasValues rows rest

-- a subcommand has this name, and each of its arguments a value
abbrev pub IsOneOf : List Shape → Text → List Row → Type 0
IsOneOf [] name rows = ⊥
IsOneOf (s ∷ rest) name rows = ((name ≡ s.name) × HasValues rows s.rules) ⊎ IsOneOf rest name rows

-- the text is a number in decimal digits, optionally after a plus sign
abbrev pub Spells : Text → ℕ → Type 0
Spells text n = IsNumeral 10 (without_leading_plus text) × (n ≡ digits_value 10 (without_leading_plus text))

-- the value of the argument is this number in decimal, in its range
abbrev pub GivesNumber : List Row → Text → ℕ → ℕ → Type 0
GivesNumber rows id most n = (text : Text) × (one_of id rows ≡ Some text) × Spells text n × (n ≤ most)

-- the values of a subcommand's arguments are those of the line
abbrev pub Gives : List Row → Line → Type 0
Gives rows (line.Replay file at) = (one_of (codes "db") rows ≡ Some file.now) × GivesNumber rows (codes "at") last_moment at
Gives rows (line.Serve file port connections) = (one_of (codes "db") rows ≡ Some file.now) × GivesNumber rows (codes "port") last_port port
    × GivesNumber rows (codes "connections") most_connections connections
Gives rows (line.Report file kind) = (one_of (codes "db") rows ≡ Some file.now) × (one_of (codes "kind") rows ≡ Some (kind_word kind))
Gives rows (line.Migrate file) = one_of (codes "db") rows ≡ Some file.now

-- the name of a line's subcommand
abbrev pub name_of : Line → Text
name_of (line.Replay file at) = codes "replay"
name_of (line.Serve file port connections) = codes "serve"
name_of (line.Report file kind) = codes "report"
name_of (line.Migrate file) = codes "migrate"

-- `clap` finds no fault in the words (for a command as simple as `desk`, `fault_of` is all that it can find), and it finds the line's subcommand with the line's values
abbrev pub IsLine : List Text → Line → Type 0
IsLine words line = (kinds : Choice) × AreKinds kinds × (fault_of (desk kinds) words ≡ [])
    × ((rows : List Row) × (subcommand_of (desk kinds) words ≡ Some (name_of line, rows)) × Gives rows line)

-- a refused line has a fault that `clap` finds, of the kind of its error; a request for help is one
abbrev pub IsLineFault : List Text → LineFault → Type 0
IsLineFault words (fault.Refused error) = (kinds : Choice) × AreKinds kinds × IsAmong (kind_of error) (fault_of (desk kinds) words)
IsLineFault words fault.Memory = ⊤

-- ---- words that give no line, and arguments that are no words

-- the exit status where the words are refused
abbrev pub refused_status : LineFault → ℕ
refused_status (fault.Refused error) = 2
refused_status fault.Memory = 1

-- what is printed then; of a refused line that is the text of `clap`, about which no clause says anything
abbrev pub refused_text : LineFault → Option (List ℕ)
refused_text (fault.Refused error) = None
refused_text fault.Memory = Some (codes "fault: Memory\n")

-- the exit status where the arguments can't be read as words
abbrev pub unread_status : WordsFault → ℕ
unread_status unread.NotText = 2
unread_status unread.Memory = 1

-- what is printed then
abbrev pub unread_text : WordsFault → Option (List ℕ)
unread_text unread.NotText = Some (codes "error: an argument is not UTF-8\n")
unread_text unread.Memory = Some (codes "fault: Memory\n")
