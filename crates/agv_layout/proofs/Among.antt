-- Names among others, and the starts of edges.
use Rattle.std.proofs.Common.{◌≡◌, Bool, true, false, cond, ◌||◌, ◌&&◌, Option, Some, None, List, [], ◌∷◌, ◌++◌, refl, sym, ap, ◌∙◌}
use Rattle.std.specs.Option.{option_map, unwrap_or}
use Rattle.std.specs.Cmp.{Equal-is}
use Rattle.std.specs.BTreeMap.{BTreeMap, is_at, get}
use Rattle.std.specs.declared.vec.Vec.{Vec}
use Rattle.std.specs.FinMap.{nat_cmp-IsAntisymmetric, slice_cmp-IsAntisymmetric}
use Rattle.std.proofs.lemmas.List.Folds.{list_any-append}
use Rattle.agv_header.specs.Name.{name_cmp}
use Rattle.agv_layout.specs.Layout.{Name}
use Rattle.agv_layout.specs.Arrivals.{starts_of, leads}
use Rattle.agv_layout.specs.LayoutOf.{is_among}

-- names that tie are the same
pub is_at-same : (a b : Name) → is_at (name_cmp a) b ≡ true → a ≡ b
is_at-same a b e = slice_cmp-IsAntisymmetric nat_cmp-IsAntisymmetric a b ((Equal-is (name_cmp a b)).0 e)

or-false : (b : Bool) → (b || false) ≡ b
or-false true = refl
or-false false = refl

pub is_among-push : (names : List Name) (name q : Name) → is_among (names ++ name ∷ []) q ≡ (is_among names q || is_at (name_cmp name) q)
is_among-push names name q = list_any-append (λ x. is_at (name_cmp x) q) names (name ∷ []) ∙ ap (λ b. is_among names q || b) (or-false (is_at (name_cmp name) q))

-- the starts after one more edge is put to those of its finish
pub leads-added : {A : Type 0} (old new : BTreeMap Name (Vec Name A)) (from to : Name) (starts : Vec Name A) (start finish : Name) → starts.items ≡ starts_of old to ++ from ∷ [] → get name_cmp new finish ≡ cond (is_at (name_cmp to) finish) (Some starts) (cond (is_at (name_cmp to) finish) None (get name_cmp old finish)) → leads new start finish ≡ (leads old start finish || (is_at (name_cmp to) finish && is_at (name_cmp from) start))
leads-added {A} old new from to starts start finish items found =
    elim (is_at (name_cmp to) finish) as (λ b. is_at (name_cmp to) finish ≡ b → get name_cmp new finish ≡ cond b (Some starts) (cond b None (get name_cmp old finish)) → leads new start finish ≡ (leads old start finish || (b && is_at (name_cmp from) start))) [
      | true ↦ λ e g.
          ap (λ (o : Option (Vec Name A)). is_among (unwrap_or (option_map (λ v. v.items) o) []) start) g
          ∙ ap (λ l. is_among l start) items
          ∙ is_among-push (starts_of old to) from start
          ∙ ap (λ n. leads old start n || is_at (name_cmp from) start) (is_at-same to finish e)
      | false ↦ λ e g. ap (λ (o : Option (Vec Name A)). is_among (unwrap_or (option_map (λ v. v.items) o) []) start) g ∙ sym (or-false (leads old start finish))
    ] refl found

-- what is kept under a key, or an empty list
pub items-kept : {A : Type 0} (kept : Option (Vec Name A)) (fresh : Vec Name A) → fresh.items ≡ [] → (unwrap_or kept fresh).items ≡ unwrap_or (option_map (λ starts. starts.items) kept) []
items-kept None fresh empty = empty
items-kept (Some starts) fresh empty = refl
