-- The CSV bodies (RFC 4180), and the calls that they make (this project's profile).
use Rattle.std.specs.Prelude.{ℕ, List, Option, None, Some, Result, Ok, Err}
use Rattle.agv_header.specs.declared.refusal.Refusal.{Refusal}
use Rattle.agv_header.specs.declared.refusal.Refusal.TheVariants as refusal
use Rattle.agv_count.specs.CountFile as stocktake
use Rattle.agv_count.specs.LayoutFile as layout
use Rattle.agv_desk.specs.declared.call.Call.{Call}
use Rattle.agv_desk.specs.declared.call.Call.TheVariants as call

-- the call with these rows, or `BadCsv` where the body has no such rows
abbrev pub call_of_rows : {Row : Type 0} → (List Row → Call) → Option (List Row) → Result Call Refusal
call_of_rows make None = Err refusal.BadCsv
call_of_rows make (Some rows) = Ok (make rows)

-- `SetLayout` with the rows of a layout file
unfoldable pub layout_call : List ℕ → Result Call Refusal
layout_call body = call_of_rows call.SetLayout (layout.layout_rows_in body)

-- `Stocktake` with the rows of a stocktake file
unfoldable pub stocktake_call : List ℕ → List ℕ → Result Call Refusal
stocktake_call reference body = call_of_rows (call.Stocktake reference) (stocktake.count_in body)
