-- Which lists of stops can be carried out, by the places of the stops (this project's profile).
use Rattle.std.specs.Prelude.{◌≡◌, ◌≢◌, ℕ, ◌<◌, Bool, List, [], Some}
use Rattle.std.specs.List.{slice_get}
use Rattle.agv_message_core.specs.declared.order.ActKind.{ActKind}
use Rattle.agv_message_core.specs.declared.order.ActKind.TheVariants.{Pick, Drop}
use Rattle.agv_order.specs.declared.stop.Stop.{Stop}
use Rattle.agv_order.specs.Stops.{is_pick}

-- the stop at this place of the list is a pick, or a drop, of the job
abbrev pub IsAt : List Stop → List ℕ → ActKind → ℕ → Type 0
IsAt stops job kind k = slice_get stops k ≡ Some (record { kind = kind; job = job })

-- the list has this stop at this place and at no other
abbrev pub IsJustAt : List Stop → List ℕ → ActKind → ℕ → Type 0
IsJustAt stops job kind k = IsAt stops job kind k × ((other : ℕ) → IsAt stops job kind other → other ≡ k)

-- the list picks the load of the job at exactly one place, and drops it at exactly one, later place
abbrev pub IsPickedThenDropped : List Stop → List ℕ → Type 0
IsPickedThenDropped stops job = (pick : ℕ) × (drop : ℕ) × (pick < drop) × IsJustAt stops job Pick pick × IsJustAt stops job Drop drop

-- each job that a stop names is picked once and later dropped once
abbrev pub ArePaired : List Stop → Type 0
ArePaired stops = (k : ℕ) (stop : Stop) → slice_get stops k ≡ Some stop → IsPickedThenDropped stops stop.job

-- there is a stop, and each job that a stop names is picked once and later dropped once
pub record CanBeDone (stops : List Stop) : Type 0 where
  pub some : stops ≢ []
  pub each : ArePaired stops

-- the stop picks a load
abbrev pub stop_picks : Stop → Bool
stop_picks stop = is_pick stop.kind
