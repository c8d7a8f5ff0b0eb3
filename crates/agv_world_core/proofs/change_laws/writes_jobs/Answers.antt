use Rattle.agv_world_core.proofs.row_changes.Written.{jobs_written}
use Rattle.agv_world_core.proofs.change_laws.writes_jobs.Goals as goal

pub returns : goal.returns
returns c = jobs_written
