-- What an opening finds after a crash of a list of changes.
use Rattle.std.proofs.Common.{◌≡◌, ◌⊎◌, inl, inr, List, sym, subst}
use Rattle.sqlite_value.specs.Order.{Row}
use Rattle.sqlite.specs.Effect.{Database, IsDatabase}
use Rattle.agv_world_core.specs.Changes.{changed}
use Rattle.agv_world_core.specs.Maps.{Maps}
use Rattle.agv_world_core.specs.declared.change.Change.{Change}
use Rattle.agv_store_changes.specs.ChangesMade.{ChangesWorlds, MakesChanges, MayFind}
use Rattle.agv_store_schema.specs.DeskRows.{Placing, Holds, IsDesk}
use Rattle.agv_store_rows.specs.Rows.{listed_all, row_lists}
use Rattle.agv_store_create.proofs.SchemasTold.{trees_tell_schemas}

-- trees tell the database
pub same_database : (old found : Database) → IsDatabase old → IsDatabase found → found.trees ≡ old.trees → found ≡ old
same_database old found listed finds same =
    let schema = trees_tell_schemas old found listed finds same in
    λ i. record { schema = schema i; trees = same i }

module _ (changes : List Change) (desk : Placing) (old found : Database) where
  pub found_either : IsDesk desk → old.schema ≡ desk.schema → IsDatabase old → MayFind changes old found → (found ≡ old) ⊎ MakesChanges changes old found
  found_either is has listed (finds, inl before) = inl (same_database old found listed finds before)
  found_either is has listed (finds, inr left) =
      inr (subst (MakesChanges changes old) (sym (same_database left.0 found (left.1.listed desk is has listed) finds left.2)) left.1)

  pub rows_found : (lists : List (List Row)) → IsDesk desk → Holds desk old lists → IsDatabase old → MayFind changes old found → Holds desk found lists ⊎ Holds desk found (listed_all changes lists)
  rows_found lists is h listed may = elim (found_either is h.schema_is listed may) [
    | inl same ↦ inl (subst (λ db. Holds desk db lists) (sym same) h)
    | inr made ↦ inr (made.rows desk is lists h)
  ]

  pub worlds_found : ((changes : List Change) (old new : Database) → MakesChanges changes old new → ChangesWorlds changes old new) → (maps : Maps) → IsDesk desk → Holds desk old (row_lists maps) → IsDatabase old → MayFind changes old found → Holds desk found (row_lists maps) ⊎ Holds desk found (row_lists (changed changes maps))
  worlds_found make maps is h listed may = elim (found_either is h.schema_is listed may) [
    | inl same ↦ inl (subst (λ db. Holds desk db (row_lists maps)) (sym same) h)
    | inr made ↦ inr (make changes old found made desk is maps h)
  ]
