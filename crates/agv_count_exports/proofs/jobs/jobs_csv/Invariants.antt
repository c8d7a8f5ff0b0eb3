use Rattle.std.proofs.Common.{◌≡◌, ◌++◌, codes, string_bytes, take}
use Rattle.std.specs.List.{flat_map}
use Rattle.agv_count.specs.Reports.{line}
use Rattle.agv_count_exports.specs.Exports.{job_line}
use Rattle.agv_count_exports.proofs.jobs.jobs_csv.Given as goal

abbrev pub invariant-loop-job : goal.invariant-loop-job
invariant-loop-job l = string_bytes l.out ≡ line (codes "job,load,from,to,phase,manufacturer,serialNumber,order") ++ flat_map (job_line l.vehicles) (take l.job-index l.jobs)
