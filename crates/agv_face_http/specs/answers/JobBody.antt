-- The description of a job as a JSON value (this project's formats). Members are in the order of their names' bytes.
use Rattle.std.specs.Prelude.{ℕ, List, [], ◌∷◌, Option, option_map}
use Rattle.serde_json.specs.Data.{Data}
use Rattle.agv_count.specs.Reports.{key_text}
use Rattle.agv_header.specs.declared.key.VehicleKey.{VehicleKey}
use Rattle.agv_message_json.specs.Json.{field, object_of, text}
use Rattle.agv_stock.specs.Phase.{phase_name}
use Rattle.agv_world_core.specs.declared.floor.Carrier.{Carrier}
use Rattle.agv_world_core.specs.declared.row.JobRow.{JobRow}
use Rattle.agv_face_http.specs.answers.Bodies.{or_null}

-- a vehicle as `"KIT/0001"`, or null
abbrev pub maybe_key : Option VehicleKey → Data
maybe_key = or_null (λ key. text (key_text key))

-- `{"from":"A","job":"J1","load":"L1","order":"O1","phase":"riding","to":"B","vehicle":"KIT/0001"}`
abbrev pub job_parts : List ℕ → JobRow → Option (List ℕ) → Option VehicleKey → Data
job_parts job row order vehicle = object_of (
    field "from" (text row.origin)
    ∷ field "job" (text job)
    ∷ field "load" (text row.load)
    ∷ field "order" (or_null text order)
    ∷ field "phase" (text (phase_name row.phase))
    ∷ field "to" (text row.target)
    ∷ field "vehicle" (maybe_key vehicle)
    ∷ [])

-- the job with the vehicle that carries it out and its order; both are null without one
abbrev pub job_data : List ℕ → JobRow → Option Carrier → Data
job_data job row carrier = job_parts job row (option_map (λ (r : Carrier). r.order) carrier) (option_map (λ (r : Carrier). r.vehicle) carrier)
