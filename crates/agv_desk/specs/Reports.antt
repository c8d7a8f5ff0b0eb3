-- The reports, to the byte (this project's formats), and the answers as they are served.
use Rattle.std.specs.Prelude.{ℕ, ◌+◌, List, Option, None, Some}
use Rattle.std.specs.FinMap as finite
use Rattle.std.specs.FinSet as set
use Rattle.std.specs.Map.{keys_of}
use Rattle.agv_count.specs.Reports.{stock_text, hold_text, layout_text, loads_text}
use Rattle.agv_count_exports.specs.Exports.{jobs_text, jobs_told, vehicles_text, vehicles_told}
use Rattle.agv_layout.specs.LayoutOf.{rows_in}
use Rattle.agv_world_core.specs.Questions.{stations_told}
use Rattle.agv_world_core.specs.Maps.{maps_of}
use Rattle.agv_world_core.specs.Worlds.{World}
use Rattle.agv_desk.specs.declared.answer.Answer.{Answer}
use Rattle.agv_desk.specs.declared.answer.Answer.TheVariants as answer
use Rattle.agv_desk.specs.declared.call.Call.{Call}
use Rattle.agv_desk.specs.declared.call.Call.TheVariants as call
use Rattle.agv_desk.specs.declared.report.Report.{Report}
use Rattle.agv_desk.specs.declared.report.Report.TheVariants as report

-- the text of a report of this world
abbrev pub report_text : World → Report → List ℕ
report_text world report.Stock = stock_text (stations_told world) (finite.entries world.places) (keys_of (finite.entries world.vehicles))
report_text world report.Holds = hold_text (finite.entries (maps_of world).holds) (set.len world.layout.nodes + finite.len world.layout.edges)
report_text world report.Loads = loads_text (finite.entries world.places)
report_text world report.Jobs = jobs_text (jobs_told world) (vehicles_told world)
report_text world report.Vehicles = vehicles_text (vehicles_told world)
report_text world report.Layout = layout_text (rows_in world.layout)

-- the report that a call asks for, if any
abbrev pub report_asked : Call → Option Report
report_asked (call.Report asked) = Some asked
report_asked _ = None

-- an answer of the table of calls as it is served in this world: a report gets its text, and other answers are unchanged
abbrev pub served : World → Answer → Answer
served world (answer.Report named text) = answer.Report named (report_text world named)
served world told = told
