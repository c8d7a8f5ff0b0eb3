-- The desk's tables stand where each stands alike, beside tables that allow them.
use Rattle.std.proofs.Common.{◌≡◌, ◌∙◌, ◌^◌, ◌↔◌, inl, inr, ℕ, Bool, true, false, nat_le, List, drop, Option, None, Some, IfOk, IsTrue, Result, Ok, Err, slice_get, refl, sym, ap, subst}
use Rattle.std.specs.List.{AllByRecursion}
use Rattle.sqlite_schema.specs.declared.schema.Table.{Table}
use Rattle.sqlite_schema.specs.declared.schema.Schema.{Schema}
use Rattle.sqlite_schema.specs.Names.{table_named}
use Rattle.agv_header.specs.declared.memory.Memory.{Memory}
use Rattle.agv_store_schema.specs.declared.table_name.TableName.{TableName}
use Rattle.agv_store_schema.specs.declared.table_name.TableName.TheVariants as the
use Rattle.agv_store_schema.specs.DeskRows.{Placing, RowidColumn, SameKeys, TableKeys, TableStands, indexed_by, is_unreferred, rowid_column_of, table_for, table_written, with_keys}
use Rattle.agv_store_schema.specs.Schema.{desk_tables}
use Rattle.agv_store_create.specs.NewDesk.{AllowsDesk}
use Rattle.agv_store_create.specs.StandingTables.{HasNoRules, HaveNoDefaults, IsPlain, AnyStands, StandsAlike, TablesStand, a_rowid, meta_form, meta_forms}

-- ---- each of the desk's tables is plain

no_rules : (name : TableName) → HasNoRules (table_for name)
no_rules the.Meta = record { checks = refl; references = refl; computed = refl; stamps = refl; uncounted = refl }
no_rules _ = record { checks = refl; references = refl; computed = refl; stamps = refl; uncounted = refl }

no_defaults : (name : TableName) → HaveNoDefaults (table_for name).columns
no_defaults the.Meta = (refl, (refl, tt))
no_defaults the.Node = (refl, tt)
no_defaults the.Edge = (refl, (refl, (refl, tt)))
no_defaults the.Station = (refl, (refl, (refl, tt)))
no_defaults the.Vehicle = (refl, (refl, (refl, (refl, (refl, (refl, (refl, (refl, (refl, (refl, (refl, (refl, (refl, (refl, tt))))))))))))))
no_defaults the.Trip = (refl, (refl, (refl, (refl, (refl, (refl, (refl, (refl, (refl, (refl, (refl, (refl, (refl, (refl, tt))))))))))))))
no_defaults the.Leg = (refl, (refl, (refl, tt)))
no_defaults the.Load = (refl, (refl, (refl, (refl, (refl, tt)))))
no_defaults the.Job = (refl, (refl, (refl, (refl, (refl, tt)))))
no_defaults the.Hold = (refl, (refl, (refl, (refl, tt))))
no_defaults the.Used = (refl, (refl, tt))
no_defaults the.Capacity = (refl, (refl, (refl, tt)))
no_defaults the.Journey = (refl, (refl, (refl, (refl, (refl, (refl, (refl, (refl, (refl, tt)))))))))
no_defaults the.Act = (refl, (refl, (refl, (refl, (refl, (refl, tt))))))

-- ---- what holds of each of them, as a list

abbrev Each : (Table → Type 0) → Type 0
Each P = (name : TableName) → P (table_for name)

listed : (P : Table → Type 0) → Each P → AllByRecursion P desk_tables
listed P each =
    (each the.Meta, (each the.Node, (each the.Edge, (each the.Station, (each the.Vehicle, (each the.Trip, (each the.Leg, (each the.Load, (each the.Job, (each the.Hold, (each the.Used, (each the.Capacity, (each the.Journey, (each the.Act, tt))))))))))))))

-- all but `meta`
abbrev pub the_others : List Table
the_others = drop 1 desk_tables

-- the table that stands for that of a name, where `meta` stands in this form
abbrev pub form_of : Option RowidColumn → TableName → Table
form_of rowid the.Meta = meta_form rowid
form_of rowid name = table_for name

named : (P : Table → Type 0) (rowid : Option RowidColumn) → P (meta_form rowid) → AllByRecursion P the_others → (name : TableName) → P (form_of rowid name)
named P rowid meta all the.Meta = meta
named P rowid meta all the.Node = all.0
named P rowid meta all the.Edge = all.1.0
named P rowid meta all the.Station = all.1.1.0
named P rowid meta all the.Vehicle = all.1.1.1.0
named P rowid meta all the.Trip = all.1.1.1.1.0
named P rowid meta all the.Leg = all.1.1.1.1.1.0
named P rowid meta all the.Load = all.1.1.1.1.1.1.0
named P rowid meta all the.Job = all.1.1.1.1.1.1.1.0
named P rowid meta all the.Hold = all.1.1.1.1.1.1.1.1.0
named P rowid meta all the.Used = all.1.1.1.1.1.1.1.1.1.0
named P rowid meta all the.Capacity = all.1.1.1.1.1.1.1.1.1.1.0
named P rowid meta all the.Journey = all.1.1.1.1.1.1.1.1.1.1.1.0
named P rowid meta all the.Act = all.1.1.1.1.1.1.1.1.1.1.1.1.0

pub all_plain : AllByRecursion IsPlain desk_tables
all_plain = listed IsPlain (λ name. record { rules = no_rules name; defaults = no_defaults name })

pub others_plain : AllByRecursion IsPlain the_others
others_plain = all_plain.1

pub forms_plain : AllByRecursion IsPlain meta_forms
forms_plain =
    (is_plain None, (is_plain (a_rowid false false), (is_plain (a_rowid true false), (is_plain (a_rowid false true), (is_plain (a_rowid true true), tt)))))
  where
    is_plain : (rowid : Option RowidColumn) → IsPlain (meta_form rowid)
    is_plain None = all_plain.0
    is_plain (Some first) = record { rules = record { checks = refl; references = refl; computed = refl; stamps = refl; uncounted = refl }; defaults = (refl, (refl, tt)) }

-- ---- the forms of `meta`

-- `meta` stands in one of them
pub record MetaStands (s : Schema) : Type 0 where
  pub rowid_column : Option RowidColumn
  pub it : StandsAlike s (meta_form rowid_column)

pub which_form : (s : Schema) → AnyStands s meta_forms → MetaStands s
which_form s (inl it) = record { rowid_column = None; it = it }
which_form s (inr (inl it)) = record { rowid_column = a_rowid false false; it = it }
which_form s (inr (inr (inl it))) = record { rowid_column = a_rowid true false; it = it }
which_form s (inr (inr (inr (inl it)))) = record { rowid_column = a_rowid false true; it = it }
which_form s (inr (inr (inr (inr (inl it))))) = record { rowid_column = a_rowid true true; it = it }
which_form s (inr (inr (inr (inr (inr none))))) = absurd none

pub one_form : (s : Schema) (rowid : Option RowidColumn) → StandsAlike s (meta_form rowid) → AnyStands s meta_forms
one_form s None it = inl it
one_form s (Some first) it = of_rowid first.not_null first.is_unique it
  where
    of_rowid : (not_null is_unique : Bool) → StandsAlike s (meta_form (a_rowid not_null is_unique)) → AnyStands s meta_forms
    of_rowid false false it = inr (inl it)
    of_rowid true false it = inr (inr (inl it))
    of_rowid false true it = inr (inr (inr (inl it)))
    of_rowid true true it = inr (inr (inr (inr (inl it))))

-- each form is the table of its name, with its keys as they are written
abbrev pub with_rowid_column : Option RowidColumn → TableKeys → TableKeys
with_rowid_column rowid keys = record keys { rowid_column = rowid }

form_name : (rowid : Option RowidColumn) (name : TableName) → (form_of rowid name).name ≡ (table_for name).name
form_name None the.Meta = refl
form_name (Some first) the.Meta = refl
form_name rowid _ = refl

form_written : (rowid : Option RowidColumn) (name : TableName) (tree : ℕ) (keys : TableKeys) → with_keys keys (record (form_of rowid name) { tree = tree }) ≡ table_written name tree (with_rowid_column rowid keys)
form_written None the.Meta tree keys = refl
form_written (Some first) the.Meta tree keys = refl
form_written rowid _ tree keys = refl

form_keys : (rowid : Option RowidColumn) (name : TableName) (keys : TableKeys) → (form_of rowid name).uniques ≡ indexed_by (rowid_column_of name (with_rowid_column rowid keys)) (table_for name).uniques
form_keys None the.Meta keys = refl
form_keys (Some first) the.Meta keys = refl
form_keys rowid _ keys = refl

-- so a form that stands alike is the table that stands, where the placing has its tree and its keys
pub stands_as_form : (s : Schema) (at : Placing) (rowid : Option RowidColumn) (name : TableName) (it : StandsAlike s (form_of rowid name)) → at.schema ≡ s → at.tree name ≡ it.tree → at.keys name ≡ with_rowid_column rowid it.keys
    → is_unreferred (table_for name).name at.schema.tables ≡ true → TableStands at name
stands_as_form s at rowid name it schema tree keys unreferred = record {
  at = it.at;
  named = (λ i. table_named (schema i) (sym (form_name rowid name) i)) ∙ it.named;
  there = ap (λ (u : Schema). slice_get u.tables it.at) schema ∙ it.there ∙ ap Some (form_written rowid name it.tree it.keys) ∙ (λ i. Some (table_written name (sym tree i) (sym keys i)));
  same_keys = subst (λ (ks : TableKeys). SameKeys ks.indexed (indexed_by (rowid_column_of name ks) (table_for name).uniques)) (sym keys) (subst (SameKeys it.keys.indexed) (form_keys rowid name it.keys) it.same_keys);
  low = subst (λ n. nat_le (2 ^ 31) n ≡ false) (sym tree) it.low;
  unreferred = unreferred;
}

-- and the table that stands is a form: of `meta` that of its keys, of any other the table itself
meta_written : (primary : List ℕ) (indexed : List (List ℕ)) (rowid : Option RowidColumn) (tree : ℕ)
    → table_written the.Meta tree (record { primary = primary; indexed = indexed; rowid_column = rowid }) ≡ with_keys (record { primary = primary; indexed = indexed; rowid_column = rowid }) (record (meta_form rowid) { tree = tree })
meta_written primary indexed None tree = refl
meta_written primary indexed (Some first) tree = refl

table_as_form : (name : TableName) (tree : ℕ) (keys : TableKeys) → table_written name tree keys ≡ with_keys keys (record (form_of keys.rowid_column name) { tree = tree })
table_as_form the.Meta tree keys = meta_written keys.primary keys.indexed keys.rowid_column tree
table_as_form _ tree keys = refl

keys_as_form : (name : TableName) (keys : TableKeys) → indexed_by (rowid_column_of name keys) (table_for name).uniques ≡ (form_of keys.rowid_column name).uniques
keys_as_form the.Meta keys = sym (form_keys keys.rowid_column the.Meta keys)
keys_as_form _ keys = refl

pub form_stands : (s : Schema) (at : Placing) (name : TableName) → TableStands at name → s ≡ at.schema → StandsAlike s (form_of (at.keys name).rowid_column name)
form_stands s at name it same = record {
  at = it.at;
  tree = at.tree name;
  keys = at.keys name;
  named = (λ i. table_named (same i) (form_name (at.keys name).rowid_column name i)) ∙ it.named;
  there = ap (λ (u : Schema). slice_get u.tables it.at) same ∙ it.there ∙ ap Some (table_as_form name (at.tree name) (at.keys name));
  same_keys = subst (SameKeys (at.keys name).indexed) (keys_as_form name (at.keys name)) it.same_keys;
  low = it.low;
}

-- ---- the placing

pub they_stand : (s : Schema) → AllowsDesk s → AnyStands s meta_forms → AllByRecursion (StandsAlike s) the_others → TablesStand s
they_stand s allows one all =
    let meta = which_form s one in
    let each = named (StandsAlike s) meta.rowid_column meta.it all in
    let at : Placing = record { schema = s; tree = λ name. (each name).tree; keys = λ name. with_rowid_column meta.rowid_column (each name).keys } in
    let stands : (name : TableName) → TableStands at name = λ name. stands_as_form s at meta.rowid_column name (each name) refl refl refl (allows.unreferred name) in
    (at, record { stands = stands; apart = allows.apart }, refl)

-- each of the others stands as it is
others_alike : (s : Schema) → ((name : TableName) → (rowid : Option RowidColumn) × StandsAlike s (form_of rowid name)) → AllByRecursion (StandsAlike s) the_others
others_alike s each =
    ((each the.Node).1, ((each the.Edge).1, ((each the.Station).1, ((each the.Vehicle).1, ((each the.Trip).1, ((each the.Leg).1, ((each the.Load).1, ((each the.Job).1, ((each the.Hold).1, ((each the.Used).1, ((each the.Capacity).1, ((each the.Journey).1, ((each the.Act).1, tt)))))))))))))

pub each_alike : (s : Schema) → TablesStand s → AnyStands s meta_forms × AllByRecursion (StandsAlike s) the_others
each_alike s stand =
    let at = stand.0 in
    let each : (name : TableName) → (rowid : Option RowidColumn) × StandsAlike s (form_of rowid name) = λ name. ((at.keys name).rowid_column, form_stands s at name (stand.1.stands name) stand.2) in
    (one_form s (each the.Meta).0 (each the.Meta).1, others_alike s each)

pub stands_allowed : (s : Schema) → TablesStand s → AllowsDesk s
stands_allowed s stand = subst AllowsDesk (sym stand.2) (record { unreferred = λ name. (stand.1.stands name).unreferred; apart = stand.1.apart })

-- ---- the answer

pub told_so : (s : Schema) (r : Result Bool Memory) → AllowsDesk s → AnyStands s meta_forms → IfOk r (λ b. IsTrue b ↔ AllByRecursion (StandsAlike s) the_others) → IfOk r (λ b. IsTrue b ↔ TablesStand s)
told_so s (Ok b) allows meta h = ((λ yes. they_stand s allows meta (h.0 yes)), (λ stand. h.1 (each_alike s stand).1))
told_so s (Err e) allows meta h = tt
