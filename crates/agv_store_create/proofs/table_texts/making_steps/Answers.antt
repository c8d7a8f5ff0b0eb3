use Rattle.std.proofs.Common.{refl}
use Rattle.agv_store_create.proofs.table_texts.making_steps.Goals as goal

pub returns : goal.returns
returns c = rw (c.is_free.ensures, c.is_free-2.ensures, c.is_free-3.ensures, c.is_free-4.ensures) refl
