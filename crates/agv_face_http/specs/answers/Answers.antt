-- The desk's answers, to the byte (this project's formats; RFC 9112, section 6).
use Rattle.std.specs.Prelude.{ℕ, Bool, List, [], ◌++◌, length, codes, Option, Some, None}
use Rattle.serde_json.specs.Data.{Data}
use Rattle.serde_json.specs.Written.{compact_text}
use Rattle.agv_header.specs.Refusal.{status_of}
use Rattle.agv_header.specs.declared.refusal.Refusal.TheVariants as refusal
use Rattle.agv_header.specs.declared.refusal.Verb.{Verb}
use Rattle.agv_message_json.specs.InstantData.{instant_data}
use Rattle.agv_message_json.specs.OrderData.{order_data}
use Rattle.agv_desk.specs.declared.answer.Answer.{Answer}
use Rattle.agv_desk.specs.declared.answer.Answer.TheVariants as answer
use Rattle.agv_desk.specs.declared.report.Report.{Report}
use Rattle.agv_desk.specs.declared.report.Report.TheVariants as named
use Rattle.agv_face_http.specs.answers.Bodies.{done_data, update_data, instructed_data, accepted_data, counted_data, load_data, refusal_data}
use Rattle.agv_face_http.specs.answers.Heads.{head_text}
use Rattle.agv_face_http.specs.answers.JobBody.{job_data}
use Rattle.agv_face_http.specs.answers.VehicleBody.{vehicle_data}

-- the status code: the refusal's, 204 for no message, otherwise 200
abbrev pub answer_status : Answer → ℕ
answer_status (answer.Refused r) = status_of r
answer_status answer.NoMessage = 204
answer_status _ = 200

-- the content of an answer: nothing, a JSON value, or a report with its media type and bytes
pub data Content : Type 0 where
  nothing : Content
  json : Data → Content
  report : (kind : List ℕ) → (text : List ℕ) → Content

-- the media type of a report
abbrev pub report_type : Report → List ℕ
report_type named.Stock = codes "text/plain"
report_type named.Holds = codes "text/plain"
report_type named.Loads = codes "text/csv"
report_type named.Jobs = codes "text/csv"
report_type named.Vehicles = codes "text/csv"
report_type named.Layout = codes "text/csv"

-- the body of each answer
abbrev pub answer_content : Answer → Content
answer_content (answer.Refused r) = json (refusal_data r)
answer_content answer.Done = json done_data
answer_content (answer.Update n) = json (update_data n)
answer_content (answer.Instructed n) = json (instructed_data n)
answer_content (answer.Accepted accepted) = json (accepted_data accepted)
answer_content answer.NoMessage = nothing
answer_content (answer.Order header order) = json (order_data header order)
answer_content (answer.Instant header instant) = json (instant_data header instant)
answer_content (answer.Counted moved unknown) = json (counted_data moved unknown)
answer_content (answer.Load load place job) = json (load_data load place job)
answer_content (answer.Job job row carrier) = json (job_data job row carrier)
answer_content (answer.Vehicle key row order) = json (vehicle_data key row order)
answer_content (answer.Report told text) = report (report_type told) text

-- the media type of a content, if it has one
abbrev pub media_type : Content → Option (List ℕ)
media_type nothing = None
media_type (json d) = Some (codes "application/json")
media_type (report kind text) = Some kind

-- the bytes of a content: JSON without whitespace, or the report's
abbrev pub content_text : Content → List ℕ
content_text nothing = []
content_text (json d) = compact_text d
content_text (report kind text) = text

-- the only method that serves the path, if the answer refuses another one
abbrev pub allowed : Answer → Option Verb
allowed (answer.Refused (refusal.BadMethod allow)) = Some allow
allowed _ = None

-- the bytes of the answer: its head and its body; with `close` it says that the stream ends
unfoldable pub answer_text : Answer → Bool → List ℕ
answer_text a close =
    let body = content_text (answer_content a) in
    head_text (answer_status a) (media_type (answer_content a)) (length body) (allowed a) close ++ body
