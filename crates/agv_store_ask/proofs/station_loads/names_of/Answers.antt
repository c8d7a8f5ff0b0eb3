use Rattle.std.proofs.Common.{◌++◌, ◌∷◌, [], ℕ, List, sym, ap, ◌∙◌, append_assoc, append-nil}
use Rattle.std.specs.Map.{keys_of}
use Rattle.agv_stock.specs.declared.place.Place.{Place}
use Rattle.agv_store_ask.proofs.station_loads.names_of.Goals as goal

pub loop-id-init : goal.loop-id-init
loop-id-init c = ap (λ (names : List (List ℕ)). names ++ keys_of c.into_iter-id-iterator.result) c.new-names.ensures.items ∙ ap keys_of (c.into_iter-id-iterator.ensures.into_iter_gives ∙ c.iter-id-items.ensures)

pub loop-id-preserved : goal.loop-id-preserved
loop-id-preserved c =
    let rest = c.in-Some.ensures.steps in
    ap (λ (names : List (List ℕ)). names ++ keys_of c.next.new.self) c.in_ok-push.ensures.items
    ∙ append_assoc c.loop-id.names.items (c.in-Some.id.now ∷ []) (keys_of c.next.new.self)
    ∙ ap (λ (es : List (List ℕ × Place)). c.loop-id.names.items ++ keys_of es) (sym rest)
    ∙ c.loop-id.invariant

pub returns : goal.returns
returns c =
    c.from.ensures
    ∙ sym (append-nil _)
    ∙ ap (λ (es : List (List ℕ × Place)). c.loop-id.names.items ++ keys_of es) (sym c.in-None.ensures.steps.0)
    ∙ c.loop-id.invariant
