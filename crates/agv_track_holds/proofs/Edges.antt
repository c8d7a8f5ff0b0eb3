-- The edges of a way, one more at a time.
use Rattle.std.proofs.Common.{◌≡◌, ℕ, ◌+◌, ◌<◌, List, [], ◌∷◌, ◌++◌, length, take, get_or, refl, sym, ap, ◌∙◌}
use Rattle.std.proofs.lemmas.List.{take_more}
use Rattle.agv_header.specs.declared.key.Thing.{Thing}
use Rattle.agv_header.specs.declared.key.Thing.TheVariants as thing
use Rattle.agv_layout.specs.declared.edge.Edge.{Edge}
use Rattle.agv_track_holds.specs.Footprints.{along}
use Rattle.agv_track_holds.specs.OrderedSet.{with_thing, with_things}
use Rattle.agv_track_holds.proofs.Firsts.{things-append}

along-append : (xs ys : List Edge) → along (xs ++ ys) ≡ along xs ++ along ys
along-append [] ys = refl
along-append (x ∷ xs) ys = ap (λ rest. thing.Edge x.id ∷ thing.Node x.finish ∷ rest) (along-append xs ys)

-- the things of one more edge
pub along-more : (edges : List Edge) (i : ℕ) (edge : Edge) (before : List Thing) → i < length edges → edge ≡ get_or edges i edge
    → with_thing (with_thing (with_things before (along (take i edges))) (thing.Edge edge.id)) (thing.Node edge.finish) ≡ with_things before (along (take (i + 1) edges))
along-more edges i edge before within is =
    sym (things-append before (along (take i edges)) (along (edge ∷ [])))
    ∙ ap (with_things before) (sym (along-append (take i edges) (edge ∷ [])) ∙ ap along (ap (λ e. take i edges ++ e ∷ []) is ∙ sym (take_more edges i edge within)))
