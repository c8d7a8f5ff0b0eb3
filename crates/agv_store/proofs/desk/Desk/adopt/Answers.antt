use Rattle.std.proofs.Common.{◌≡◌, Err, refl}
use Rattle.sqlite.specs.Held.{Held}
use Rattle.agv_store.specs.Opening.{IsDamaged, IsStorage, Opening}
use Rattle.agv_store_read.specs.declared.open_fault.OpenFault.{OpenFault}
use Rattle.agv_store_read.specs.declared.open_fault.OpenFault.TheVariants as fault
use Rattle.agv_store.proofs.Found.{found_consistent}
use Rattle.agv_store.proofs.desk.Desk.adopt.Goals as goal

abbrev refused : {S : Type 0} → Held S → OpenFault → Opening S
refused held why = Err (held, why)

damaged_only : {S : Type 0} (held : Held S) (why : OpenFault) → IsDamaged (refused held why) → why ≡ fault.Damaged
damaged_only held fault.Damaged is = refl
damaged_only held fault.Memory is = absurd is
damaged_only held fault.Storage is = absurd is

storage_only : {S : Type 0} (held : Held S) (why : OpenFault) → IsStorage (refused held why) → why ≡ fault.Storage
storage_only held fault.Damaged is = absurd is
storage_only held fault.Memory is = absurd is
storage_only held fault.Storage is = refl

pub returns-in-Err-clause-caused : goal.returns-in-Err-clause-caused
returns-in-Err-clause-caused g c clean is = c.in-Err.ensures.caused clean (storage_only c.find_desk.new.conn c.in-Err.why is)

pub returns-in-Err-clause-damaged : goal.returns-in-Err-clause-damaged
returns-in-Err-clause-damaged g c clean is = c.in-Err.ensures.damaged clean (damaged_only c.find_desk.new.conn c.in-Err.why is)

pub new-requires : goal.new-requires
new-requires g c = found_consistent g.S.Store c.args.conn c.find_desk.new.conn c.in-Ok.known c.in-Ok.ensures c.requires
