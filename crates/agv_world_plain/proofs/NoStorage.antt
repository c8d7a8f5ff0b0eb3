-- An answer that is no fault of the store.
use Rattle.std.proofs.Common.{◌≡◌, ◌≢◌, false, Result, Err, ap, ◌∙◌}
use Rattle.std.proofs.lemmas.Bool.{false≢true}
use Rattle.agv_world_core.specs.Asks.{failed_by}
use Rattle.agv_world_core.specs.declared.fault.Fault.{Fault}
use Rattle.agv_world_core.specs.declared.fault.Fault.TheVariants as fault

-- an answer that isn't a fault of the store
pub no_storage : {A : Type 0} (result : Result A Fault) → false ≡ failed_by result false → result ≢ Err fault.Storage
no_storage {A = A} result same is = absurd (false≢true (same ∙ ap (λ (it : Result A Fault). failed_by it false) is))
