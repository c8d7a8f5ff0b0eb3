-- A row that fits its table is stored as it is, and is what its first columns tell.
use Rattle.std.proofs.Common.{◌≡◌, cond, Bool, true, false, List, [], ◌∷◌, length, refl, ap₂}
use Rattle.std.proofs.lemmas.Bool.{and_parts}
use Rattle.sqlite_value.specs.declared.value.Value.{Value}
use Rattle.sqlite_value.specs.declared.value.Value.TheVariants.{Null, Int, Text}
use Rattle.sqlite_value.specs.Order.{Row}
use Rattle.sqlite_sql.specs.Ops.{unary}
use Rattle.sqlite_schema.specs.declared.schema.Kind.{Kind}
use Rattle.sqlite_schema.specs.declared.schema.Kind.TheVariants as kind
use Rattle.sqlite_schema.specs.declared.schema.Column.{Column}
use Rattle.sqlite_rules.specs.Cast.{cast, cast_all}
use Rattle.agv_store_schema.specs.DeskRows.{is_of_kind, fits, first_columns}

pub same_either_way : {X : Type 0} (b : Bool) (x : X) → cond b x x ≡ x
same_either_way true x = refl
same_either_way false x = refl

cast_keeps : (k : Kind) (v : Value) → is_of_kind k v ≡ true → cast k v ≡ v
unfolding unary
cast_keeps kind.Integer Null h = same_either_way _ Null
cast_keeps kind.Integer (Int n) h = same_either_way _ (Int n)
cast_keeps kind.Text Null h = refl
cast_keeps kind.Text (Text bytes) h = refl
cast_keeps _ _ h = absurd (cc)

pub cast_all_keeps : (columns : List Column) (row : Row) → fits columns row ≡ true → cast_all columns row ≡ row
cast_all_keeps [] [] h = refl
cast_all_keeps [] (v ∷ row) h = absurd (cc)
cast_all_keeps (c ∷ columns) [] h = absurd (cc)
cast_all_keeps (c ∷ columns) (v ∷ row) h = let both = and_parts _ _ h in ap₂ ◌∷◌ (cast_keeps c.kind v both.0) (cast_all_keeps columns row both.1)

pub all_columns : (columns : List Column) (row : Row) → fits columns row ≡ true → first_columns (length columns) row ≡ row
all_columns [] [] h = refl
all_columns [] (v ∷ row) h = absurd (cc)
all_columns (c ∷ columns) [] h = absurd (cc)
all_columns (c ∷ columns) (v ∷ row) h = ap₂ ◌∷◌ refl (all_columns columns row (and_parts _ _ h).1)
