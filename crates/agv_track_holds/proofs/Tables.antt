-- A finite map of things, and the tree that keeps it, answer alike.
use Rattle.std.proofs.Common.{◌≡◌, cond, List, [], ◌∷◌, Some, None, refl, sym, ap, ◌∙◌}
use Rattle.std.specs.BTreeMap.{is_at}
use Rattle.std.specs.Cmp.{eq_by_cmp_equiv}
use Rattle.std.specs.FinMap.{get, insert, remove, from_entries, find, get-from_entries, get-insert, get-remove, same_map}
use Rattle.std.specs.Map.{lookup}
use Rattle.agv_header.specs.Key.{thing_cmp}
use Rattle.agv_header.specs.ThingOrder.{thing_eq, thing_cmp-total, thing_cmp-IsAntisymmetric}
use Rattle.agv_header.specs.declared.key.Thing.{Thing}
use Rattle.agv_header.specs.declared.key.VehicleKey.{VehicleKey}

find-lookup : (q : Thing) (es : List (Thing × VehicleKey)) → find thing_cmp q es ≡ lookup (is_at (thing_cmp q)) es
find-lookup q [] = refl
find-lookup q (e ∷ es) = ap (cond (thing_eq q e.0) (Some e.1)) (find-lookup q es)

-- the map of the entries has at a thing what the tree has
pub get-shown : (es : List (Thing × VehicleKey)) (q : Thing) → get (from_entries {R = thing_cmp} es) q ≡ lookup (is_at (thing_cmp q)) es
get-shown es q = get-from_entries thing_cmp-total es q ∙ find-lookup q es

-- what `insert` leaves is the map with one more entry
pub insert-shown : (old new : List (Thing × VehicleKey)) (thing : Thing) (key : VehicleKey)
    → ((q : Thing) → lookup (is_at (thing_cmp q)) new ≡ cond (is_at (thing_cmp thing) q) (Some key) (lookup (is_at (thing_cmp q)) old))
    → from_entries {R = thing_cmp} new ≡ insert (from_entries old) thing key
insert-shown old new thing key updates =
    same_map thing_cmp-total thing_cmp-IsAntisymmetric _ _ (λ q.
    get-shown new q
    ∙ updates q
    ∙ ap (λ b. cond b (Some key) (lookup (is_at (thing_cmp q)) old)) ((eq_by_cmp_equiv thing_cmp-total).symm thing q)
    ∙ ap (cond (thing_eq q thing) (Some key)) (sym (get-shown old q))
    ∙ sym (get-insert thing_cmp-total _ thing key q))

-- what `remove` leaves is the map without that entry
pub remove-shown : (old new : List (Thing × VehicleKey)) (thing : Thing)
    → ((q : Thing) → lookup (is_at (thing_cmp q)) new ≡ cond (is_at (thing_cmp thing) q) None (lookup (is_at (thing_cmp q)) old))
    → from_entries {R = thing_cmp} new ≡ remove (from_entries old) thing
remove-shown old new thing updates =
    same_map thing_cmp-total thing_cmp-IsAntisymmetric _ _ (λ q.
    get-shown new q
    ∙ updates q
    ∙ ap (λ b. cond b None (lookup (is_at (thing_cmp q)) old)) ((eq_by_cmp_equiv thing_cmp-total).symm thing q)
    ∙ ap (cond (thing_eq q thing) None) (sym (get-shown old q))
    ∙ sym (get-remove thing_cmp-total _ thing q))
