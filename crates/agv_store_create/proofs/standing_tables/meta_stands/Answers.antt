use Rattle.std.proofs.Common.{◌≡◌, List, Ok, sym, subst}
use Rattle.std.specs.List.{AllZip}
use Rattle.sqlite_schema.specs.declared.schema.Table.{Table}
use Rattle.sqlite_resolve.specs.Compile.{table_defined_by}
use Rattle.agv_store_create.specs.StandingTables.{meta_forms}
use Rattle.agv_store_create.proofs.TableTexts.{meta_defined_so}
use Rattle.agv_store_create.proofs.TablesStand.{forms_plain}
use Rattle.agv_store_create.proofs.standing_tables.meta_stands.Goals as goal

pub returns : goal.returns
returns c =
    let defined = subst (λ (texts : List (List _)). AllZip (λ text (table : Table). table_defined_by text ≡ Ok table) texts meta_forms) (sym c.meta_forms_texts.ensures) meta_defined_so in
    c.any_stands.ensures meta_forms defined forms_plain
