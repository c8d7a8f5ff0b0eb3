-- The trees of a database tell its whole schema.
use Rattle.std.proofs.Common.{◌≡◌, ◌≢◌, ◌∙◌, ◌+◌, ◌<◌, ℕ, Bool, true, false, List, [], ◌∷◌, Option, None, Some, MatchBool, slice_get, get_or, codes, pos, filter, inl, inr, refl, sym, ap, subst, arith}
use Rattle.std.specs.List.{AllZip}
use Rattle.std.proofs.lemmas.Fmt.{decimal_injective}
use Rattle.std.proofs.lemmas.List.{append_cancel_left}
use Rattle.sqlite_value.specs.declared.value.Value.{Value}
use Rattle.sqlite_value.specs.declared.value.Value.TheVariants.{Null, Int, Real, Text, Blob}
use Rattle.sqlite_value.specs.Order.{Row, column}
use Rattle.sqlite_trees.specs.Objects.{catalog_tree}
use Rattle.sqlite_trees.specs.Tree.{Trees, rowid, IsAscending}
use Rattle.sqlite_schema.specs.declared.schema.Index.{Index}
use Rattle.sqlite_schema.specs.declared.schema.Table.{Table}
use Rattle.sqlite_schema.specs.declared.schema.View.{View as Stored}
use Rattle.sqlite_schema.specs.declared.schema.Schema.{Schema}
use Rattle.sqlite_schema.specs.Names.{same_name}
use Rattle.sqlite_catalog.specs.Listing.{AreListed, IsAside, IsDefined, IsForeign, IsIndexRow, IsReadable, IsViewRow, automatic, is_index_row, is_view_row}
use Rattle.sqlite_catalog.proofs.StepLemmas.{named_once, same_itself}
use Rattle.agv_store_create.specs.DeskSchema.{is_name_taken}
use Rattle.agv_store_create.specs.NewDesk.{OpeningsFindEither, TreesTellNames, TreesTellSchemas}
use Rattle.agv_store_create.proofs.DeskStands.{made_desks_stand, trees_tell_tables}

-- ---- what a row says

same_tree : (row : Row) (m n : ℕ) → rowid row ≡ Int (pos (m + 1)) → rowid row ≡ Int (pos (n + 1)) → m ≡ n
same_tree row m n p q = let same = sym p ∙ q in let signed : pos (m + 1) ≡ pos (n + 1) = cc in let next : m + 1 ≡ n + 1 = cc in omega (arith, next)

same_text : (v : Value) (a b : List ℕ) → v ≡ Text a → v ≡ Text b → a ≡ b
same_text v a b p q = let same = sym p ∙ q in cc

differ : (a b : List ℕ) → get_or a 0 0 ≢ get_or b 0 0 → a ≢ b
differ a b other e = other (ap (λ x. get_or x 0 0) e)

-- ---- an index

automatic_once : (t : Table) (i j : Index) (at by : ℕ) (key other : List ℕ) → slice_get t.uniques at ≡ Some key → slice_get t.uniques by ≡ Some other → i ≡ automatic t at key i.tree → j ≡ automatic t by other j.tree → at ≡ by → i.tree ≡ j.tree → i ≡ j
automatic_once t i j at by key other got gets p q same tree =
    let keys : key ≡ other = let e = sym got ∙ ap (slice_get t.uniques) same ∙ gets in cc in
    p ∙ (λ k. automatic t (same k) (keys k) (tree k)) ∙ sym q

same_number : (t : Table) (at by : ℕ) → at < 65536 → by < 65536 → (automatic t at [] 0).name ≡ (automatic t by [] 0).name → at ≡ by
same_number t at by low under e =
    let one = append_cancel_left (codes "sqlite_autoindex_") _ _ e in
    let two = append_cancel_left (codes "_") _ _ (append_cancel_left t.name _ _ one) in
    let n = decimal_injective (at + 1) (by + 1) (omega (arith, low)) (omega (arith, under)) two in omega (arith, n)

defined_once : (t : Table) (i j : Index) (v : Value) → IsDefined t i v → IsDefined t j v → i.name ≡ j.name → i.tree ≡ j.tree → i ≡ j
defined_once t i j Null p q name tree =
    automatic_once t i j p.0 q.0 p.1 q.1 p.2 q.2 p.3 q.3 (same_number t p.0 q.0 p.4 q.4 (sym (ap (λ (k : Index). k.name) p.3) ∙ name ∙ ap (λ (k : Index). k.name) q.3)) tree
defined_once t i j (Int n) p q name tree = absurd p
defined_once t i j (Real x) p q name tree = absurd p
defined_once t i j (Text sql) p q name tree =
    let made : p.0 ≡ q.0 = let same = sym p.1 ∙ q.1 in cc in
    p.2 ∙ (λ k. record (made k) { tree = tree k; table = t.tree }) ∙ sym q.2
defined_once t i j (Blob b) p q name tree = absurd p

index_once : (tables : List Table) → IsAscending (λ (s t : Table). same_name s.name t.name ≡ false) tables → (row : Row) (i j : Index) → IsIndexRow tables row i → IsIndexRow tables row j → i ≡ j
index_once tables apart row i j p q =
    let owner : q.table.name ≡ p.table.name = same_text (column row 3) _ _ q.described.owner_is p.described.owner_is in
    let table : q.table ≡ p.table = named_once tables q.table p.table apart q.listed p.listed (ap (same_name q.table.name) (sym owner) ∙ same_itself q.table.name) in
    defined_once p.table i j (column row 4) p.defined (subst (λ t. IsDefined t j (column row 4)) table q.defined)
    (same_text (column row 2) _ _ p.described.name_is q.described.name_is) (same_tree row i.tree j.tree p.described.id q.described.id)

-- ---- a view, or what stands with the views

bound_once : (A : Type 0) (a b : Bool) → MatchBool a A (¬ A) → MatchBool b A (¬ A) → a ≡ b
bound_once A false false p q = refl
bound_once A false true p q = absurd (p q)
bound_once A true false p q = absurd (q p)
bound_once A true true p q = refl

other_word : codes "table" ≢ codes "trigger"
other_word same = omega (arith, ap (λ (x : List ℕ). get_or x 1 0) same)

-- all but its name, its tree and the name of its table
record SameRest (v w : Stored) : Type 0 where
  sql : v.sql ≡ w.sql
  binds : v.binds ≡ w.binds
  is_bound : v.is_bound ≡ w.is_bound

foreign_once : (row : Row) (v w : Stored) (kind : List ℕ) (code : ℕ) → v.sql ≡ [] → w.sql ≡ [] → IsForeign row v kind code → IsForeign row w kind code → SameRest v w
foreign_once row v w kind code p q (inl a) (inl b) = record { sql = p ∙ sym q; binds = a.2 ∙ sym b.2; is_bound = bound_once (IsReadable row) v.is_bound w.is_bound a.3 b.3 }
foreign_once row v w kind code p q (inl a) (inr (inl b)) = absurd (differ (codes "table") (codes "index") (omega arith) (sym a.0 ∙ b.0))
foreign_once row v w kind code p q (inl a) (inr (inr b)) = absurd (other_word (sym a.0 ∙ b.0))
foreign_once row v w kind code p q (inr (inl a)) (inl b) = absurd (differ (codes "table") (codes "index") (omega arith) (sym b.0 ∙ a.0))
foreign_once row v w kind code p q (inr (inl a)) (inr (inl b)) = record { sql = p ∙ sym q; binds = a.2 ∙ sym b.2; is_bound = a.3 ∙ sym b.3 }
foreign_once row v w kind code p q (inr (inl a)) (inr (inr b)) = absurd (differ (codes "index") (codes "trigger") (omega arith) (sym a.0 ∙ b.0))
foreign_once row v w kind code p q (inr (inr a)) (inl b) = absurd (other_word (sym b.0 ∙ a.0))
foreign_once row v w kind code p q (inr (inr a)) (inr (inl b)) = absurd (differ (codes "index") (codes "trigger") (omega arith) (sym b.0 ∙ a.0))
foreign_once row v w kind code p q (inr (inr a)) (inr (inr b)) = record { sql = p ∙ sym q; binds = a.2 ∙ sym b.2; is_bound = a.3 ∙ sym b.3 }

not_foreign : (row : Row) (w : Stored) (code : ℕ) → ¬ IsForeign row w (codes "view") code
not_foreign row w code (inl b) = differ (codes "view") (codes "table") (omega arith) b.0
not_foreign row w code (inr (inl b)) = differ (codes "view") (codes "index") (omega arith) b.0
not_foreign row w code (inr (inr b)) = differ (codes "view") (codes "trigger") (omega arith) b.0

view_made : (v w : Stored) → v.name ≡ w.name → v.tree ≡ w.tree → v.foreign ≡ w.foreign → SameRest v w → v ≡ w
view_made v w name tree foreign rest = λ k. record { name = name k; tree = tree k; sql = rest.sql k; foreign = foreign k; binds = rest.binds k; is_bound = rest.is_bound k }

aside_once : (row : Row) (v w : Stored) (kind owner : List ℕ) (code : ℕ) (f g : Option (List ℕ)) → IsAside row v kind owner code f → IsAside row w kind owner code g → (f ≡ g) × SameRest v w
aside_once row v w kind owner code None None p q = (refl, record { sql = same_text (column row 4) _ _ p.3 q.3; binds = p.6 ∙ sym q.6; is_bound = p.7 ∙ sym q.7 })
aside_once row v w kind owner code None (Some t) p q = absurd (not_foreign row w code (subst (λ k. IsForeign row w k code) p.0 q.2))
aside_once row v w kind owner code (Some t) None p q = absurd (not_foreign row v code (subst (λ k. IsForeign row v k code) q.0 p.2))
aside_once row v w kind owner code (Some t) (Some u) p q = (ap Some (sym p.0 ∙ q.0), foreign_once row v w kind code p.1 q.1 p.2 q.2)

view_once : (row : Row) (v w : Stored) → IsViewRow row v → IsViewRow row w → v ≡ w
view_once row v w p q =
    let kind = same_text (column row 1) _ _ q.described.kind_is p.described.kind_is in
    let owner = same_text (column row 3) _ _ q.described.owner_is p.described.owner_is in
    let code : q.code ≡ p.code = sym q.described.shape_is ∙ p.described.shape_is in
    let moved : IsAside row w p.kind p.owner p.code w.foreign = subst (λ c. IsAside row w p.kind p.owner c w.foreign) code (subst (λ o. IsAside row w p.kind o q.code w.foreign) owner (subst (λ k. IsAside row w k q.owner q.code w.foreign) kind q.aside)) in
    let rest = aside_once row v w p.kind p.owner p.code v.foreign w.foreign p.aside moved in
    view_made v w (same_text (column row 2) _ _ p.described.name_is q.described.name_is) (same_tree row v.tree w.tree p.described.id q.described.id) rest.0 rest.1

-- ---- the lists

zipped_once : {A B : Type 0} (R : A → B → Type 0) → ((a : A) (b c : B) → R a b → R a c → b ≡ c) → (xs : List A) (ys zs : List B) → AllZip R xs ys → AllZip R xs zs → ys ≡ zs
zipped_once R once [] [] [] p q = refl
zipped_once R once [] (y ∷ ys) zs p q = absurd p
zipped_once R once [] [] (z ∷ zs) p q = absurd q
zipped_once R once (x ∷ xs) [] zs p q = absurd p
zipped_once R once (x ∷ xs) (y ∷ ys) [] p q = absurd q
zipped_once R once (x ∷ xs) (y ∷ ys) (z ∷ zs) p q = λ k. once x y z p.0 q.0 k ∷ zipped_once R once xs ys zs p.1 q.1 k

one_schema : (objects : List Row) (a b : Schema) → AreListed objects a → AreListed objects b → a.tables ≡ b.tables → a ≡ b
one_schema objects a b p q tables =
    let indexes = zipped_once (IsIndexRow a.tables) (index_once a.tables p.named) (filter is_index_row objects) a.indexes b.indexes p.indexes (subst (λ ts. AllZip (IsIndexRow ts) (filter is_index_row objects) b.indexes) (sym tables) q.indexes) in
    let views = zipped_once IsViewRow view_once (filter is_view_row objects) a.views b.views p.views q.views in
    λ k. record { tables = tables k; indexes = indexes k; views = views k }

pub trees_tell_schemas : TreesTellSchemas
trees_tell_schemas old found p q same =
    one_schema (old.trees catalog_tree) found.schema old.schema (subst (λ (trees : Trees). AreListed (trees catalog_tree) found.schema) same q.lists.listed) p.lists.listed (trees_tell_tables old found p q same)

pub trees_tell_names : TreesTellNames
trees_tell_names old found p q same = ap is_name_taken (trees_tell_schemas old found p q same)

pub openings_find_either : OpeningsFindEither
openings_find_either old found listed allows free finds (inl before) = inl (trees_tell_names old found listed finds before ∙ free)
openings_find_either old found listed allows free finds (inr left) = inr (made_desks_stand old left.0 found allows left.1 finds left.2)
