-- The tables allow the desk's beside them where none refers to one of the fourteen names and no two have one tree.
use Rattle.std.proofs.Common.{◌≡◌, ◌≢◌, ◌&&◌, ℕ, zero, suc, Bool, true, List, [], ◌∷◌, Some, slice_get, refl, subst}
use Rattle.std.specs.List.{list_all}
use Rattle.std.proofs.lemmas.Bool.{and_parts}
use Rattle.sqlite_trees.specs.Tree.{IsAscending}
use Rattle.sqlite_schema.specs.declared.schema.Table.{Table}
use Rattle.sqlite_schema.specs.declared.schema.Schema.{Schema}
use Rattle.agv_store_schema.specs.declared.table_name.TableName.{TableName}
use Rattle.agv_store_schema.specs.declared.table_name.TableName.TheVariants as the
use Rattle.agv_store_schema.specs.DeskRows.{table_for, place_of, is_unreferred}
use Rattle.agv_store_create.specs.DeskSchema.{desk_names}
use Rattle.agv_store_create.specs.NewDesk.{AllowsDesk}

-- none of these tables refers to one of the desk's
abbrev pub are_unreferred : List Table → Bool
are_unreferred tables = list_all (λ name. is_unreferred name tables) desk_names

passes_at : {A : Type 0} (f : A → Bool) (xs : List A) (at : ℕ) (x : A) → slice_get xs at ≡ Some x → list_all f xs ≡ true → f x ≡ true
passes_at f [] at x there all = absurd (cc)
passes_at f (y ∷ xs) zero x there all = let same : y ≡ x = cc in subst (λ z. f z ≡ true) same (and_parts _ _ all).0
passes_at f (y ∷ xs) (suc at) x there all = passes_at f xs at x there (and_parts _ _ all).1

name_at : (name : TableName) → slice_get desk_names (place_of name) ≡ Some (table_for name).name
name_at the.Meta = refl
name_at _ = refl

pub told_allows : (s : Schema) → are_unreferred s.tables ≡ true → IsAscending (λ (t u : Table). t.tree ≢ u.tree) s.tables → AllowsDesk s
told_allows s unreferred apart = record {
  unreferred = λ name. passes_at (λ n. is_unreferred n s.tables) desk_names (place_of name) (table_for name).name (name_at name) unreferred;
  apart = apart;
}

pub allows_unreferred : (s : Schema) → AllowsDesk s → are_unreferred s.tables ≡ true
allows_unreferred s allows =
    let each = allows.unreferred in λ i.
    each the.Meta i && (each the.Node i && (each the.Edge i && (each the.Station i && (each the.Vehicle i && (each the.Trip i && (each the.Leg i && (each the.Load i && (each the.Job i && (each the.Hold i && (each the.Used i
    && (each the.Capacity i && (each the.Journey i && (each the.Act i && true)))))))))))))
