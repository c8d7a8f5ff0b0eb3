use Rattle.agv_face_http.proofs.answers.QuestionLengths.{job_brief}
use Rattle.agv_face_http.proofs.laws.sizes.tells_jobs_briefly.Goals as goal

pub returns : goal.returns
returns c = job_brief
