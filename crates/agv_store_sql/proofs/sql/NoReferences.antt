-- Where no key refers to a table, a change of its rows sets off no other.
use Rattle.std.proofs.Common.{◌≡◌, ◌==◌, ◌∙◌, inl, inr, ℕ, Bool, true, false, not, cond, List, [], ◌∷◌, find, Option, Some, None, option_and_then, option_map, MatchOption, refl, ap, length}
use Rattle.std.specs.List.{list_all, flat_map, filter_map}
use Rattle.std.proofs.lemmas.Bool.{cases_Bool, and_parts, not-true, eqb-true}
use Rattle.sqlite_value.specs.Order.{Row}
use Rattle.sqlite_value.specs.declared.keys.Order.{Order}
use Rattle.sqlite_schema.specs.declared.schema.Keys.{Keys}
use Rattle.sqlite_schema.specs.declared.schema.Reference.{Reference}
use Rattle.sqlite_schema.specs.declared.schema.Table.{Table}
use Rattle.sqlite_schema.specs.declared.schema.Schema.{Schema}
use Rattle.sqlite_schema.specs.Names.{same_name}
use Rattle.sqlite_schema.specs.Rules.{key_in, key_places}
use Rattle.sqlite_rules.specs.Lists.{Has}
use Rattle.sqlite_rules.specs.declared.action.Deed.{Deed}
use Rattle.sqlite_rules.specs.Action.{works, work_for, work_by, deed_for, pairs}
use Rattle.agv_store_schema.specs.DeskRows.{is_unreferred}

module _ (t : Table) where
  -- the table that a reference names, if there is one, has another tree
  abbrev IsOther : Option Table → Type 0
  IsOther o = MatchOption o (Unit {0}) (λ u. (u.tree == t.tree) ≡ false)

  abbrev parent_in : Reference → List Table → Option Table
  parent_in ref = find (λ u. same_name u.name ref.parent)

  parent_is_other : (ref : Reference) → same_name t.name ref.parent ≡ false → (xs : List Table) → ((u : Table) → Has xs u → u.tree ≡ t.tree → u ≡ t) → IsOther (parent_in ref xs)
  parent_is_other ref miss [] one = tt
  parent_is_other ref miss (x ∷ xs) one = go (same_name x.name ref.parent) refl (parent_is_other ref miss xs (λ u h. one u (inr h)))
    where
      go : (b : Bool) → same_name x.name ref.parent ≡ b → IsOther (parent_in ref xs) → IsOther (cond b (Some x) (parent_in ref xs))
      go true hit later = elim (cases_Bool (x.tree == t.tree)) [
        | inl tie ↦ absurd (let same : x ≡ t = one x (inl refl) (eqb-true _ _ tie) in let e : same_name x.name ref.parent ≡ false = ap (λ (u : Table). same_name u.name ref.parent) same ∙ miss in cc)
        | inr other ↦ other
      ]
      go false hit later = later

  module _ (depth : ℕ) (moves : List (Row × Row)) (child : Table) (ref : Reference) where
    no_work : (deed : Option Deed) (o : Option Table) → IsOther o → work_by depth t.tree moves child ref deed (option_and_then (λ u. option_and_then (key_in u) (key_places u ref.parent_columns)) o) ≡ None
    no_work None o h = refl
    no_work (Some deed) None h = refl
    no_work (Some deed) (Some u) h = by_places (key_places u ref.parent_columns)
      where
        by_order : (k : List ℕ) (o : Option Order) → work_by depth t.tree moves child ref (Some deed) (option_map (λ x. (u.tree, k, x)) o) ≡ None
        by_order k None = refl
        by_order k (Some x) = rw h

        by_places : (k : Option (List ℕ)) → work_by depth t.tree moves child ref (Some deed) (option_and_then (key_in u) k) ≡ None
        by_places None = refl
        by_places (Some k) = by_order k _

  module _ (s : Schema) (one : (u : Table) → Has s.tables u → u.tree ≡ t.tree → u ≡ t) (keys : Keys) (olds news : List Row) where
    from_child : (child : Table) (refs : List Reference) → list_all (λ (r : Reference). not (same_name t.name r.parent)) refs ≡ true → filter_map (work_for s keys 0 t.tree olds news child) refs ≡ []
    from_child child [] h = refl
    from_child child (r ∷ refs) h =
        let both = and_parts _ _ h in
        let none : work_for s keys 0 t.tree olds news child r ≡ None = no_work 0 (pairs olds news) child r (deed_for keys (length news == 0) r) _ (parent_is_other r (not-true _ both.0) s.tables one) in
        rw (none, from_child child refs both.1)

    from_children : (tables : List Table) → is_unreferred t.name tables ≡ true → flat_map (λ child. filter_map (work_for s keys 0 t.tree olds news child) child.references) tables ≡ []
    from_children [] h = refl
    from_children (u ∷ tables) h = let both = and_parts _ _ h in rw (from_child u u.references both.0, from_children tables both.1)

    pub sets_off_nothing : is_unreferred t.name s.tables ≡ true → works s keys 0 t.tree olds news ≡ []
    sets_off_nothing h = from_children s.tables h
