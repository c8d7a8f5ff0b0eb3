-- How far a list of stops carries out one job, stop by stop. No public clause cites this.
use Rattle.std.specs.Prelude.{Bool, true, false}
use Rattle.agv_message_core.specs.declared.order.ActKind.{ActKind}
use Rattle.agv_message_core.specs.declared.order.ActKind.TheVariants.{Pick, Drop}
use Rattle.agv_order.specs.declared.job_progress.JobProgress.{JobProgress}
use Rattle.agv_order.specs.declared.job_progress.JobProgress.TheVariants.{Waiting, Picked, Dropped, Wrong}

-- the progress after one more stop: a pick comes first, a drop second, and nothing third
abbrev pub progress_then : JobProgress → ActKind → JobProgress
progress_then Waiting Pick = Picked
progress_then Waiting Drop = Wrong
progress_then Picked Pick = Wrong
progress_then Picked Drop = Dropped
progress_then Dropped kind = Wrong
progress_then Wrong kind = Wrong

-- the load is picked and dropped, and nothing more
abbrev pub is_over : JobProgress → Bool
is_over Waiting = false
is_over Picked = false
is_over Dropped = true
is_over Wrong = false
