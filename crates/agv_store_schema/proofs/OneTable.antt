-- A table somewhere in a schema, the expressions that read it alone, and the parts of a statement on it.
use Rattle.std.specs.Prelude.{◌≡◌, ℕ, zero, suc, pos, negsuc, Bool, true, false, not, ◌&&◌, ◌==◌, ◌^◌, nat_le, nat_lt, List, [], ◌∷◌, find, Option, Some, None, Ok, Err, slice_get}
use Rattle.sqlite_ast.specs.declared.Expr.{Expr, out-Expr}
use Rattle.sqlite_ast.specs.declared.Expr.TheOpen.{Expr-F, Shown-F}
use Rattle.sqlite_ast.specs.declared.Shown.{Shown, out-Shown}
use Rattle.sqlite_ast.specs.declared.Core.{Core, out-Core}
use Rattle.sqlite_ast.specs.declared.Source.{Source, out-Source}
use Rattle.sqlite_ast.specs.declared.Origin.TheVariants as origin
use Rattle.sqlite_ast.specs.declared.Select.{Select, out-Select}
use Rattle.sqlite_ast.specs.declared.Rows.{Rows}
use Rattle.sqlite_ast.specs.declared.Rows.TheVariants as rows
use Rattle.sqlite_ast.specs.declared.Statement.{Statement}
use Rattle.sqlite_ast.specs.declared.Statement.TheVariants as written
use Rattle.sqlite_ast.specs.Layer.{Layer, ShownLayer}
use Rattle.sqlite_syntax.specs.declared.statement.Parsed.{Parsed}
use Rattle.sqlite_value.specs.declared.keys.Collation.TheVariants.{Binary}
use Rattle.sqlite_value.specs.declared.value.Value.TheVariants.{Null, Int}
use Rattle.sqlite_sql.specs.declared.aggregate.AggregateOp.TheVariants.{CountRows}
use Rattle.sqlite_sql.specs.Term.{Term, lit, col, op2}
use Rattle.sqlite_sql.specs.declared.ops.BinaryOp.TheVariants.{Compare}
use Rattle.sqlite_sql.specs.declared.ops.CompareOp.TheVariants.{Eq}
use Rattle.sqlite_sql.specs.Query.{Query, inner, end}
use Rattle.sqlite_draft.specs.declared.query.Draft.{Draft}
use Rattle.sqlite_draft.specs.declared.query.Grouping.{Grouping}
use Rattle.sqlite_draft.specs.Query.{query_of}
use Rattle.sqlite_typing.specs.Types.{accepts_after, is_count, row_classes}
use Rattle.sqlite_schema.specs.declared.command.Command.{Command}
use Rattle.sqlite_schema.specs.declared.schema.Table.{Table}
use Rattle.sqlite_schema.specs.declared.schema.Schema.{Schema}
use Rattle.sqlite_schema.specs.Names.{table_named, column_named}
use Rattle.sqlite_resolve.specs.declared.compiled.Compiled.{Compiled}
use Rattle.sqlite_resolve.specs.declared.scope.Bound.{Bound}
use Rattle.sqlite_resolve.specs.declared.scope.Output.{Output}
use Rattle.sqlite_resolve.specs.Lowering.{Checked}
use Rattle.sqlite_resolve.specs.Scope.{Name, Context, is_rowid}
use Rattle.sqlite_resolve.specs.Expr.{is_identity}
use Rattle.sqlite_resolve.specs.Compile.{first}
use Rattle.sqlite.specs.Listing.{understood, reads_listing}
use Rattle.sqlite.proofs.Callers.{IsPlain, command_of}

-- ---- the table

-- the schema has the table at this place, by name and by tree
pub record IsIn (s : Schema) (name : Name) (t : Table) (at : ℕ) : Type 0 where
  pub named : table_named s name ≡ Some at
  pub there : slice_get s.tables at ≡ Some t
  pub low : nat_le (2 ^ 31) t.tree ≡ false
  pub by_tree : find (λ (u : Table). u.tree == t.tree) s.tables ≡ Some t

-- a schema of this table alone
abbrev pub sole : Table → Schema
sole t = record { tables = t ∷ []; indexes = []; views = [] }

-- ---- expressions

-- a column, or the rowid where none has its name
abbrev pub is_shown_by : Option ℕ → Table → Name → Bool
is_shown_by (Some k) t name = true
is_shown_by None t name = is_rowid name && nat_lt t.tree (2 ^ 31)

-- the same, by a name that no table's stands before
abbrev pub is_bare : Table → Option Name → Name → Bool
is_bare t None name = is_shown_by (column_named t name) t name
is_bare t (Some qualifier) name = false

abbrev pub reads_only_at : Table → (Expr → Bool) → Layer → Bool
reads_only_at t inside (Expr-F.Column qualifier name) = is_bare t qualifier name
reads_only_at t inside (Expr-F.Parameter n) = true
reads_only_at t inside (Expr-F.Integer digits) = true
reads_only_at t inside (Expr-F.Text text) = true
reads_only_at t inside Expr-F.Null = true
reads_only_at t inside (Expr-F.CallStar name) = true
reads_only_at t inside (Expr-F.Binary op a b) = not (is_identity op) && (inside a && inside b)
reads_only_at t inside _ = false

-- columns of the table, parameters, literals and counts of rows, joined by operators
abbrev pub reads_only : Table → ℕ → Expr → Bool
reads_only t zero e = true
reads_only t (suc depth) e = reads_only_at t (reads_only t depth) (out-Expr e)

-- the resolver goes no deeper
abbrev pub deepest : ℕ
deepest = 700

abbrev pub test_reads_only : Table → Option Expr → Bool
test_reads_only t None = true
test_reads_only t (Some e) = reads_only t deepest e

abbrev pub sets_read_only : Table → List (Name × Expr) → Bool
sets_read_only t [] = true
sets_read_only t (set ∷ more) = reads_only t deepest set.1 && sets_read_only t more

abbrev pub shown_reads_only_at : Table → ShownLayer → Bool
shown_reads_only_at t (Shown-F.One e alias text) = reads_only t deepest e
shown_reads_only_at t _ = false

abbrev pub shown_read_only : Table → List Shown → Bool
shown_read_only t [] = true
shown_read_only t (x ∷ more) = shown_reads_only_at t (out-Shown x) && shown_read_only t more

-- ---- what a text means

abbrev pub parsed_or : Parsed → Checked Parsed → Parsed
parsed_or p (Ok q) = q
parsed_or p (Err e) = p

abbrev pub unparsed : Parsed
unparsed = record { statement = written.Empty; names = []; formats = []; start = 0; end = 0; tail = 0 }

abbrev pub parsed : List ℕ → Parsed
parsed sql = parsed_or unparsed (first sql)

-- a statement as it is compiled to a command, with no RETURNING and no reading of the time
abbrev pub compiled_as : Parsed → Command → Compiled
compiled_as p c = record { command = c; returning = None; names = p.names; formats = []; start = p.start; end = p.end; tail = p.tail }

-- SQL takes the text for this command and no more, and it does not read the schema's own table
pub record Means (s : Schema) (sql : List ℕ) (command : Command) : Type 0 where
  pub is : command_of (understood s sql) ≡ command
  pub plain : IsPlain (understood s sql)
  pub own : reads_listing s sql ≡ false
  pub known : understood s sql ≡ Ok (compiled_as (parsed sql) command)

abbrev pub deletion_test : Statement → Option Expr
deletion_test (written.Delete name test shown) = test
deletion_test _ = None

abbrev pub update_sets : Statement → List (Name × Expr)
update_sets (written.Update name sets test shown) = sets
update_sets _ = []

abbrev pub update_test : Statement → Option Expr
update_test (written.Update name sets test shown) = test
update_test _ = None

abbrev pub insertion_columns : Statement → List Name
insertion_columns (written.Insert how name columns all clauses shown) = columns
insertion_columns _ = []

abbrev pub insertion_rows : Statement → Rows
insertion_rows (written.Insert how name columns all clauses shown) = all
insertion_rows _ = rows.Defaults

abbrev IsSelect : Statement → Type 0
IsSelect (written.Select s) = Unit {0}
IsSelect _ = ⊥

abbrev pub selection : (x : Statement) → IsSelect x → Select
selection (written.Select s) is = s
selection _ is = absurd is

abbrev IsFilled : List Source → Type 0
IsFilled [] = ⊥
IsFilled (x ∷ xs) = Unit {0}

abbrev pub head_of : (xs : List Source) → IsFilled xs → Source
head_of [] is = absurd is
head_of (x ∷ xs) is = x

-- ---- queries on one table

-- the column at a place (the rowid's is 0) equals the parameter
abbrev pub is_param : ℕ → ℕ → Term
is_param at n = op2 (Compare Eq Binary) (col 1 at) (col 0 n)

abbrev pub query_by : ℕ → List Term → List Term → Query
query_by tree terms project = record { from = inner tree end; filter = terms; group = None; project = project; distinct = false; collations = []; order = []; limit = lit (Int (negsuc 0)); offset = lit (Int (pos 0)) }

abbrev pub no_limit : Term × Term
no_limit = (lit (Int (negsuc 0)), lit (Int (pos 0)))

-- it shows these terms of each row that passes, or of the groups of these rows
abbrev pub draft_in : Option Grouping → ℕ → List Term → List Term → Draft
draft_in group tree terms project = record { from = inner tree end; filter = terms; group = group; project = project; distinct = false; collations = []; order = []; limit = no_limit.0; offset = no_limit.1 }

abbrev pub query_in : Option Grouping → ℕ → List Term → List Term → Query
query_in group tree terms project = query_of (draft_in group tree terms project)

abbrev pub draft_by : ℕ → List Term → List Term → Draft
draft_by = draft_in None

-- all rows that pass are one group, which is counted
abbrev pub counting : Grouping
counting = record { keys = []; collations = []; aggregates = record { op = CountRows; distinct = false; collation = Binary; argument = lit Null } ∷ []; having = [] }

-- how many they are, the one value that is shown of that group
abbrev pub their_count : List Term
their_count = col 1 0 ∷ []

-- its types are accepted over the table
abbrev pub is_typed : Table → Query → Bool
is_typed t q = accepts_after [] q (Some (row_classes t ∷ [])) && (is_count [] q.limit && is_count [] q.offset)

-- the table in slot 1
abbrev pub bound_at : ℕ → Name → Bound
bound_at at name = record { name = name; table = at; slot = 1; shared = [] }

abbrev pub scope_of : Schema → ℕ → Name → List Output → Bool → Bool → Context
scope_of s at name shown may_aggregate may_alias = record { schema = s; levels = record { tables = bound_at at name ∷ []; shown = shown } ∷ []; may_aggregate = may_aggregate; may_alias = may_alias }

-- FROM the table, with nothing grouped and no DISTINCT
pub record IsPlainFrom (core : Core) (name : Name) : Type 0 where
  pub source : Source
  pub from : (out-Core core).from ≡ source ∷ []
  pub origin : (out-Source source).origin ≡ origin.Table name
  pub alias : (out-Source source).alias ≡ None
  pub on : (out-Source source).on ≡ None
  pub using : (out-Source source).using ≡ []
  pub inner : (out-Source source).is_left ≡ false
  pub group : (out-Core core).group ≡ []
  pub having : (out-Core core).having ≡ None
  pub repeats : (out-Core core).distinct ≡ false

-- one SELECT with no WITH, UNION, ORDER BY or LIMIT
pub record IsAlone (s : Select) : Type 0 where
  pub with : (out-Select s).with ≡ []
  pub others : (out-Select s).others ≡ []
  pub order : (out-Select s).order ≡ []
  pub limit : (out-Select s).limit ≡ None
  pub offset : (out-Select s).offset ≡ None
