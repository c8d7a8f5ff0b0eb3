-- A job that is asked for is told with the vehicle that carries it out, which is the one of the export.
use Rattle.std.proofs.Common.{◌≡◌, ◌≢◌, ℕ, true, cond, List, Option, None, Some, refl, sym, ap, ◌∙◌}
use Rattle.std.specs.Option.{option_and_then, option_map}
use Rattle.agv_count_exports.specs.Exports.{as_carrier, carrier_of as carrier_listed, vehicles_told}
use Rattle.agv_count_exports.specs.declared.told.VehicleTold.{VehicleTold}
use Rattle.agv_header.specs.declared.refusal.Refusal.TheVariants as refusal
use Rattle.agv_order.specs.declared.trip.Trip.{Trip}
use Rattle.agv_stock.specs.Phase.{is_live}
use Rattle.agv_stock.specs.declared.job.Phase.{Phase}
use Rattle.agv_stock.specs.declared.job.Phase.TheVariants as phase
use Rattle.agv_world_core.specs.Carriers.{carrier_of}
use Rattle.agv_world_core.specs.Lawful.{IsJob, IsLawful}
use Rattle.agv_world_core.specs.Worlds.{World}
use Rattle.agv_world_core.specs.declared.floor.Carrier.{Carrier}
use Rattle.agv_world_core.specs.declared.row.JobRow.{JobRow}
use Rattle.agv_desk.specs.Exported.{IsCarriedBy, IsCarrier}
use Rattle.agv_desk.specs.Outcomes.{Made, answer_of, answer_only, refuse_if_none}
use Rattle.agv_desk.specs.ReadSteps.{carrier_told, get_job, is_riding}
use Rattle.agv_desk.specs.declared.answer.Answer.TheVariants as answer
use Rattle.agv_desk.proofs.exports.CarriersTold as told

-- what the export's crate says of the vehicle that it gives
abbrev pub GivesTheCarrier : Type 0
GivesTheCarrier = (world : World) (job : List ℕ) → option_and_then as_carrier (carrier_listed (vehicles_told world) job) ≡ carrier_of world job

module _ (world : World) (job : List ℕ) (row : JobRow) where
  -- what is answered where the world has the job
  answered : IsJob world job row → answer_of (get_job world job) ≡ answer.Job job row (carrier_told world job row)
  unfolding answer_of refuse_if_none
  answered here =
      ap (λ (found : Option JobRow). answer_of (refuse_if_none found refusal.NoJob (λ (there : JobRow). Made (answer_only (answer.Job job there (carrier_told world job there)))))) here

  riding_told : row.phase ≡ phase.Riding → carrier_told world job row ≡ carrier_of world job
  riding_told rides = ap (λ at. cond (is_riding at) (carrier_of world job) None) rides

  none_told : row.phase ≢ phase.Riding → carrier_told world job row ≡ None
  none_told rests = by_phase row.phase refl
    where
      by_phase : (at : Phase) → row.phase ≡ at → cond (is_riding at) (carrier_of world job) None ≡ None
      by_phase phase.Waiting is = refl
      by_phase phase.Riding is = absurd (rests is)
      by_phase phase.Done is = refl
      by_phase phase.Stopped is = refl

  pub told_without : IsJob world job row → row.phase ≢ phase.Riding → answer_of (get_job world job) ≡ answer.Job job row None
  told_without here rests = answered here ∙ ap (answer.Job job row) (none_told rests)

  module _ (gives : GivesTheCarrier) (seats : ℕ) (lawful : IsLawful seats world) (here : IsJob world job row) where
    -- a vehicle of the export, as it is told alone
    ride : (vehicle : VehicleTold) (carries : IsCarrier world job vehicle) → as_carrier vehicle ≡ Some (record { vehicle = vehicle.key; order = carries.to_drop.trip.order })
    ride vehicle carries = ap (option_map (λ (trip : Trip). record { vehicle = vehicle.key; order = trip.order })) carries.open_trip

    rides_with : row.phase ≡ phase.Riding → (carrier : Carrier) × (answer_of (get_job world job) ≡ answer.Job job row (Some carrier)) × IsCarriedBy world job carrier
    rides_with rides =
        let vehicle = told.carrier_told seats world job row lawful here rides in
        let carrier : Carrier = record { vehicle = vehicle.0.key; order = vehicle.2.to_drop.trip.order } in
        let same : carrier_told world job row ≡ Some carrier = riding_told rides ∙ sym (gives world job) ∙ ap (option_and_then as_carrier) vehicle.1 ∙ ride vehicle.0 vehicle.2 in (
          carrier,
          answered here ∙ ap (answer.Job job row) same,
          record { to_drop = vehicle.2.to_drop; vehicle = vehicle.2.own; order = refl; only = vehicle.2.only },
        )

    as_exported : is_live row.phase ≡ true → answer_of (get_job world job) ≡ answer.Job job row (option_and_then as_carrier (carrier_listed (vehicles_told world) job))
    as_exported lives = answered here ∙ ap (answer.Job job row) (by_phase row.phase refl lives)
      where
        by_phase : (at : Phase) → row.phase ≡ at → is_live at ≡ true → carrier_told world job row ≡ option_and_then as_carrier (carrier_listed (vehicles_told world) job)
        by_phase phase.Waiting is live =
            none_told (λ rides. told.not_both row.phase is rides) ∙ sym (ap (option_and_then as_carrier) (told.none_told seats world job row lawful here is))
        by_phase phase.Riding is live = riding_told is ∙ sym (gives world job)
        by_phase phase.Done is live = cc
        by_phase phase.Stopped is live = cc

pub told_riding : GivesTheCarrier → (seats : ℕ) (world : World) (job : List ℕ) (row : JobRow) → IsLawful seats world → IsJob world job row → row.phase ≡ phase.Riding
    → (carrier : Carrier) × (answer_of (get_job world job) ≡ answer.Job job row (Some carrier)) × IsCarriedBy world job carrier
told_riding gives seats world job row lawful here rides = rides_with world job row gives seats lawful here rides

pub told_as_exported : GivesTheCarrier → (seats : ℕ) (world : World) (job : List ℕ) (row : JobRow) → IsLawful seats world → IsJob world job row → is_live row.phase ≡ true
    → answer_of (get_job world job) ≡ answer.Job job row (option_and_then as_carrier (carrier_listed (vehicles_told world) job))
told_as_exported gives seats world job row lawful here lives = as_exported world job row gives seats lawful here lives
