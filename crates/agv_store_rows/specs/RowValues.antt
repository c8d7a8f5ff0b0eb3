-- The ranges of the values in the rows of a lawful world's open trips: ids are valid names, and numbers are at most those of a well-formed trip.
use Rattle.std.specs.Prelude.{◌≡◌, ℕ, ◌<◌, ◌≤◌, Some}
use Rattle.agv_header.specs.Name.{IsName}
use Rattle.agv_world_core.specs.Lawful.{IsKey}
use Rattle.agv_store_rows.specs.declared.act_key.ActKey.{ActKey}
use Rattle.agv_store_rows.specs.declared.act_row.ActRow.{ActRow}
use Rattle.agv_store_rows.specs.declared.journey_row.JourneyRow.{JourneyRow}

-- the vehicle and the start have valid names, and no position on the way and no update number is above 200
pub record IsJourneyValue (row : JourneyRow) : Type 0 where
  pub vehicle : IsKey row.vehicle
  pub start : IsName row.start
  pub first : row.first ≤ 200
  pub base : row.base ≤ 200
  pub sent : row.sent ≤ 200
  pub confirmed : (update : ℕ) → row.confirmed ≡ Some update → update ≤ 200
  pub seen : row.seen ≤ 200

-- the order has a valid name, and the act's number is below 8
pub record IsActKey (key : ActKey) : Type 0 where
  pub order : IsName key.order
  pub number : key.n < 8

-- the job has a valid name, and the position on the way is at most 200
pub record IsActValue (row : ActRow) : Type 0 where
  pub job : IsName row.job
  pub place_at : row.place_at ≤ 200
