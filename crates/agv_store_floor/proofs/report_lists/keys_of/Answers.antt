use Rattle.std.proofs.Common.{◌++◌, ◌∷◌, [], List, sym, ap, ◌∙◌, append_assoc, append-nil}
use Rattle.std.specs.Map.{keys_of}
use Rattle.agv_header.specs.declared.key.VehicleKey.{VehicleKey}
use Rattle.agv_world_core.specs.declared.row.VehicleRow.{VehicleRow}
use Rattle.agv_store_floor.proofs.report_lists.keys_of.Goals as goal

pub loop-key-init : goal.loop-key-init
loop-key-init c = ap (λ (keys : List VehicleKey). keys ++ keys_of c.into_iter-key-iterator.result) c.new-keys.ensures.items ∙ ap keys_of (c.into_iter-key-iterator.ensures.into_iter_gives ∙ c.iter-key-items.ensures)

pub loop-key-preserved : goal.loop-key-preserved
loop-key-preserved c =
    let rest = c.in-Some.ensures.steps in
    ap (λ (keys : List VehicleKey). keys ++ keys_of c.next.new.self) c.in_ok-push.ensures.items
    ∙ append_assoc c.loop-key.keys.items (c.in-Some.key.now ∷ []) (keys_of c.next.new.self)
    ∙ ap (λ (es : List (VehicleKey × VehicleRow)). c.loop-key.keys.items ++ keys_of es) (sym rest)
    ∙ c.loop-key.invariant

pub returns : goal.returns
returns c =
    sym (append-nil _)
    ∙ ap (λ (es : List (VehicleKey × VehicleRow)). c.loop-key.keys.items ++ keys_of es) (sym c.in-None.ensures.steps.0)
    ∙ c.loop-key.invariant
