use Rattle.agv_store_schema.proofs.Later.{later_refl, later_trans, fault_later}
use Rattle.agv_store_schema.proofs.laws.later_moments_follow.Goals as goal

pub returns : goal.returns
returns g c = record { itself = later_refl g.S.Store; next = later_trans g.S.Store; causes = fault_later g.S.Store }
