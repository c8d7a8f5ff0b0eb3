-- Tables that stand, in a database that grows.
use Rattle.std.proofs.Common.{◌≡◌, ◌∙◌, ◌≤◌, ℕ, zero, suc, List, [], ◌∷◌, ◌++◌, length, Some, None, inl, inr, refl, sym, ap, subst, slice_get, arith}
use Rattle.std.specs.List.{position_from}
use Rattle.std.proofs.lemmas.List.Sorted.{IsPermutation-refl}
use Rattle.sqlite_value.specs.Order.{Row}
use Rattle.sqlite_schema.specs.declared.schema.Table.{Table}
use Rattle.sqlite_schema.specs.declared.schema.Schema.{Schema}
use Rattle.sqlite_schema.specs.Names.{same_name, table_named}
use Rattle.sqlite_rules.specs.Lists.{Has}
use Rattle.sqlite_rules.proofs.ListLemmas.{all_from, all_has}
use Rattle.sqlite_catalog.specs.Change.{created, next_tree, KeepsRows}
use Rattle.sqlite_catalog.proofs.StepLemmas.{table_below, same_itself}
use Rattle.sqlite.specs.Effect.{Database}
use Rattle.agv_store_create.specs.DeskTables.{HasRows}
use Rattle.agv_store_create.specs.DeskTables.{HasTable}
use Rattle.agv_store_create.proofs.NamesKept.{position_kept, position_last}

module _ {X : Type 0} where
  pub has_got : (xs : List X) (k : ℕ) (x : X) → slice_get xs k ≡ Some x → Has xs x
  has_got [] k x got = absurd (cc)
  has_got (y ∷ xs) zero x got = inl (let e : Some y ≡ Some x = got in cc)
  has_got (y ∷ xs) (suc k) x got = inr (has_got xs k x got)

  pub got_kept : (xs ys : List X) (k : ℕ) (x : X) → slice_get xs k ≡ Some x → slice_get (xs ++ ys) k ≡ Some x
  got_kept [] ys k x got = absurd (cc)
  got_kept (y ∷ xs) ys zero x got = got
  got_kept (y ∷ xs) ys (suc k) x got = got_kept xs ys k x got

  got_last : (xs : List X) (y : X) → slice_get (xs ++ y ∷ []) (length xs) ≡ Some y
  got_last [] y = refl
  got_last (x ∷ xs) y = got_last xs y

  pub has_first : (xs ys : List X) (x : X) → Has xs x → Has (xs ++ ys) x
  has_first [] ys x h = absurd h
  has_first (y ∷ xs) ys x (inl is) = inl is
  has_first (y ∷ xs) ys x (inr later) = inr (has_first xs ys x later)

  pub has_either : {P : Type 0} (xs ys : List X) (x : X) → Has (xs ++ ys) x → (Has xs x → P) → (Has ys x → P) → P
  has_either [] ys x h f g = g h
  has_either (y ∷ xs) ys x (inl is) f g = f (inl is)
  has_either (y ∷ xs) ys x (inr later) f g = has_either xs ys x later (λ k. f (inr k)) g

-- tables came behind those that were there, all in new trees, and the rows of those that were there stay
pub record AddsTables (old new : Database) : Type 0 where
  pub more : List Table
  pub tables : new.schema.tables ≡ old.schema.tables ++ more
  pub above : (t : Table) → Has more t → next_tree old.schema ≤ t.tree
  pub rows : KeepsRows old.schema.tables old.trees new.trees

-- what was there stays: the tables, their rows, and each table that a name finds
pub record Grows (old new : Database) : Type 0 where
  pub among : (t : Table) → Has old.schema.tables t → Has new.schema.tables t
  pub kept : KeepsRows old.schema.tables old.trees new.trees
  pub stands : (t : Table) (rows : List Row) → HasTable old t rows → HasTable new t rows

still_there : (old new : Database) → AddsTables old new → (t : Table) (rows : List Row) → HasTable old t rows → HasTable new t rows
still_there old new a t rows h =
    let it = has_got old.schema.tables h.at (record t { tree = h.tree }) h.there in
    record {
      at = h.at;
      tree = h.tree;
      named = subst (λ (ts : List Table). position_from (λ (u : Table). same_name u.name t.name) 0 ts ≡ Some h.at) (sym a.tables) (position_kept (λ (u : Table). same_name u.name t.name) 0 h.at old.schema.tables a.more h.named);
      there = subst (λ ts. slice_get ts h.at ≡ Some (record t { tree = h.tree })) (sym a.tables) (got_kept old.schema.tables a.more h.at _ h.there);
      alone = λ u has is. has_either old.schema.tables a.more u (subst (λ ts. Has ts u) a.tables has) (λ before. h.alone u before is)
          (λ later. absurd (let low = table_below old.schema _ it in omega (arith, low, a.above u later, is)));
      rows_are = subst (λ entries. HasRows entries rows) (sym (all_has (λ (u : Table). new.trees u.tree ≡ old.trees u.tree) old.schema.tables _ a.rows it)) h.rows_are;
    }

pub grows_by : (old new : Database) → AddsTables old new → Grows old new
grows_by old new a = record {
  among = λ t h. subst (λ ts. Has ts t) (sym a.tables) (has_first old.schema.tables a.more t h);
  kept = a.rows;
  stands = still_there old new a;
}

pub grows_none : (a : Database) → Grows a a
grows_none a = record { among = λ t h. h; kept = all_from (λ (t : Table). a.trees t.tree ≡ a.trees t.tree) a.schema.tables (λ t h. refl); stands = λ t rows h. h }

pub grows_again : (a b c : Database) → Grows a b → Grows b c → Grows a c
grows_again a b c p q = record {
  among = λ t h. q.among t (p.among t h);
  kept = all_from (λ (t : Table). c.trees t.tree ≡ a.trees t.tree) a.schema.tables
      (λ t h. all_has (λ (u : Table). c.trees u.tree ≡ b.trees u.tree) b.schema.tables t q.kept (p.among t h) ∙ all_has (λ (u : Table). b.trees u.tree ≡ a.trees u.tree) a.schema.tables t p.kept h);
  stands = λ t rows h. q.stands t rows (p.stands t rows h);
}

-- CREATE TABLE adds one
pub creation_adds : (old new : Database) (t : Table) → new.schema ≡ created old.schema t → KeepsRows old.schema.tables old.trees new.trees → AddsTables old new
creation_adds old new t is kept = record {
  more = record t { tree = next_tree old.schema } ∷ [];
  tables = ap (λ (s : Schema). s.tables) is;
  above = above;
  rows = kept;
}
  where
    above : (u : Table) → Has (record t { tree = next_tree old.schema } ∷ []) u → next_tree old.schema ≤ u.tree
    above u (inl same) = let e = ap (λ (v : Table). v.tree) same in omega (arith, e)
    above u (inr none) = absurd none

-- which stands, with no row
pub creation_stands : (old new : Database) (t : Table) → new.schema ≡ created old.schema t → new.trees (next_tree old.schema) ≡ [] → table_named old.schema t.name ≡ None → HasTable new t []
creation_stands old new t is empty free = rw is (record {
  at = length old.schema.tables;
  tree = next_tree old.schema;
  named = position_last (λ (u : Table). same_name u.name t.name) 0 old.schema.tables _ free (same_itself t.name) ∙ ap Some (omega arith);
  there = got_last old.schema.tables _;
  alone = λ u has same. has_either old.schema.tables _ u has (λ before. absurd (let low = table_below old.schema u before in omega (arith, low, same))) (λ last. elim last [ inl it ↦ it | inr none ↦ absurd none ]);
  rows_are = subst (λ entries. HasRows entries []) (sym empty) ((tt, tt), IsPermutation-refl []);
})
