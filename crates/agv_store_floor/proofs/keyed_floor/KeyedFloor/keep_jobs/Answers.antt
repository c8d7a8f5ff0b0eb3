use Rattle.std.proofs.Common.{subst, sym}
use Rattle.agv_store_schema.specs.Connections.{IsClean, IsOpen}
use Rattle.agv_store_known.specs.KeptJobs.{AreLive}
use Rattle.agv_store_known.proofs.Knowing.{with_jobs}
use Rattle.agv_store_floor.specs.Floors.{Keyed, world_at}
use Rattle.agv_store_floor.proofs.Asked.{known_so}
use Rattle.agv_store_floor.proofs.keyed_floor.KeyedFloor.keep_jobs.Goals as goal

pub invariant_of-self : goal.invariant_of-self
invariant_of-self g c =
    let are = subst (λ (desk : Keyed g.row.S.Denot). IsClean g.S.Store desk.held → IsOpen g.S.Store desk.held → AreLive c.args.live (world_at g.S.Store desk.held).jobs) (sym c.self.view_is) c.requires in
    known_so g.S.Store c.self.inside.conn c.self.inside.known _ c.self.inside.failed c.self.inside.in_doubt c.self.invariant (λ clean still. with_jobs (are clean still))
