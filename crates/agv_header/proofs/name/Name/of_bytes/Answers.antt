use Rattle.std.proofs.Common.{refl, sym, ◌∙◌}
use Rattle.agv_header.proofs.Names.{padded_front}
use Rattle.agv_header.proofs.name.Name.of_bytes.Goals as goal

pub invariant_of-result : goal.invariant_of-result
invariant_of-result c =
    padded_front c.args.bytes.now _ _ (sym c.spells_name.ensures ∙ c.if-not-spells_name.false) c.copy_from_slice.ensures.after refl
