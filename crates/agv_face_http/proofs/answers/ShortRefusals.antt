-- How long the names, the statuses and the reasons of refusals are.
use Rattle.std.proofs.Common.{◌≤◌, ◌<◌, [], length, lit≤, lit<, unwrap_or}
use Rattle.http.specs.StatusCode.{reason_phrase}
use Rattle.agv_header.specs.Refusal.{name_of, number_of, status_of}
use Rattle.agv_header.specs.declared.refusal.Refusal.{Refusal}
use Rattle.agv_header.specs.declared.refusal.Refusal.TheVariants as refusal

pub record IsShort (r : Refusal) : Type 0 where
  pub name : length (name_of r) ≤ 32
  pub number : number_of r < 100
  pub status : status_of r < 1000
  pub reason : length (unwrap_or (reason_phrase (status_of r)) []) ≤ 64

pub short_refusal : (r : Refusal) → IsShort r
short_refusal refusal.BadHead = record { name = lit≤ tt; number = lit< tt; status = lit< tt; reason = lit≤ tt }
short_refusal refusal.NoLength = record { name = lit≤ tt; number = lit< tt; status = lit< tt; reason = lit≤ tt }
short_refusal refusal.TooLarge = record { name = lit≤ tt; number = lit< tt; status = lit< tt; reason = lit≤ tt }
short_refusal refusal.Coding = record { name = lit≤ tt; number = lit< tt; status = lit< tt; reason = lit≤ tt }
short_refusal refusal.NoPath = record { name = lit≤ tt; number = lit< tt; status = lit< tt; reason = lit≤ tt }
short_refusal (refusal.BadMethod allow) = record { name = lit≤ tt; number = lit< tt; status = lit< tt; reason = lit≤ tt }
short_refusal refusal.BadJson = record { name = lit≤ tt; number = lit< tt; status = lit< tt; reason = lit≤ tt }
short_refusal refusal.Fraction = record { name = lit≤ tt; number = lit< tt; status = lit< tt; reason = lit≤ tt }
short_refusal refusal.Position = record { name = lit≤ tt; number = lit< tt; status = lit< tt; reason = lit≤ tt }
short_refusal refusal.BadBody = record { name = lit≤ tt; number = lit< tt; status = lit< tt; reason = lit≤ tt }
short_refusal refusal.BadCsv = record { name = lit≤ tt; number = lit< tt; status = lit< tt; reason = lit≤ tt }
short_refusal refusal.Version = record { name = lit≤ tt; number = lit< tt; status = lit< tt; reason = lit≤ tt }
short_refusal refusal.BadTimestamp = record { name = lit≤ tt; number = lit< tt; status = lit< tt; reason = lit≤ tt }
short_refusal refusal.WrongVehicle = record { name = lit≤ tt; number = lit< tt; status = lit< tt; reason = lit≤ tt }
short_refusal refusal.NoVehicle = record { name = lit≤ tt; number = lit< tt; status = lit< tt; reason = lit≤ tt }
short_refusal refusal.NoNode = record { name = lit≤ tt; number = lit< tt; status = lit< tt; reason = lit≤ tt }
short_refusal refusal.NoStation = record { name = lit≤ tt; number = lit< tt; status = lit< tt; reason = lit≤ tt }
short_refusal refusal.NoLoad = record { name = lit≤ tt; number = lit< tt; status = lit< tt; reason = lit≤ tt }
short_refusal refusal.NoJob = record { name = lit≤ tt; number = lit< tt; status = lit< tt; reason = lit≤ tt }
short_refusal refusal.NoOrder = record { name = lit≤ tt; number = lit< tt; status = lit< tt; reason = lit≤ tt }
short_refusal refusal.Exists = record { name = lit≤ tt; number = lit< tt; status = lit< tt; reason = lit≤ tt }
short_refusal refusal.LayoutSet = record { name = lit≤ tt; number = lit< tt; status = lit< tt; reason = lit≤ tt }
short_refusal refusal.LayoutBad = record { name = lit≤ tt; number = lit< tt; status = lit< tt; reason = lit≤ tt }
short_refusal (refusal.Held what by) = record { name = lit≤ tt; number = lit< tt; status = lit< tt; reason = lit≤ tt }
short_refusal refusal.Full = record { name = lit≤ tt; number = lit< tt; status = lit< tt; reason = lit≤ tt }
short_refusal refusal.InJob = record { name = lit≤ tt; number = lit< tt; status = lit< tt; reason = lit≤ tt }
short_refusal refusal.Elsewhere = record { name = lit≤ tt; number = lit< tt; status = lit< tt; reason = lit≤ tt }
short_refusal refusal.SameStation = record { name = lit≤ tt; number = lit< tt; status = lit< tt; reason = lit≤ tt }
short_refusal refusal.Busy = record { name = lit≤ tt; number = lit< tt; status = lit< tt; reason = lit≤ tt }
short_refusal refusal.Astray = record { name = lit≤ tt; number = lit< tt; status = lit< tt; reason = lit≤ tt }
short_refusal refusal.Loaded = record { name = lit≤ tt; number = lit< tt; status = lit< tt; reason = lit≤ tt }
short_refusal refusal.NotReady = record { name = lit≤ tt; number = lit< tt; status = lit< tt; reason = lit≤ tt }
short_refusal refusal.InstantPending = record { name = lit≤ tt; number = lit< tt; status = lit< tt; reason = lit≤ tt }
short_refusal refusal.NotConfirmed = record { name = lit≤ tt; number = lit< tt; status = lit< tt; reason = lit≤ tt }
short_refusal (refusal.WrongUpdate sent) = record { name = lit≤ tt; number = lit< tt; status = lit< tt; reason = lit≤ tt }
short_refusal refusal.Beyond = record { name = lit≤ tt; number = lit< tt; status = lit< tt; reason = lit≤ tt }
short_refusal refusal.NoWalk = record { name = lit≤ tt; number = lit< tt; status = lit< tt; reason = lit≤ tt }
short_refusal refusal.TooLong = record { name = lit≤ tt; number = lit< tt; status = lit< tt; reason = lit≤ tt }
short_refusal refusal.Spent = record { name = lit≤ tt; number = lit< tt; status = lit< tt; reason = lit≤ tt }
short_refusal refusal.RefUsed = record { name = lit≤ tt; number = lit< tt; status = lit< tt; reason = lit≤ tt }
short_refusal refusal.JobState = record { name = lit≤ tt; number = lit< tt; status = lit< tt; reason = lit≤ tt }
short_refusal refusal.Limit = record { name = lit≤ tt; number = lit< tt; status = lit< tt; reason = lit≤ tt }
short_refusal refusal.OrderKnown = record { name = lit≤ tt; number = lit< tt; status = lit< tt; reason = lit≤ tt }
short_refusal refusal.BadStops = record { name = lit≤ tt; number = lit< tt; status = lit< tt; reason = lit≤ tt }
short_refusal refusal.OtherOrder = record { name = lit≤ tt; number = lit< tt; status = lit< tt; reason = lit≤ tt }
short_refusal refusal.UpdateNotSent = record { name = lit≤ tt; number = lit< tt; status = lit< tt; reason = lit≤ tt }
short_refusal refusal.UpdateBackwards = record { name = lit≤ tt; number = lit< tt; status = lit< tt; reason = lit≤ tt }
short_refusal refusal.NotOurNode = record { name = lit≤ tt; number = lit< tt; status = lit< tt; reason = lit≤ tt }
short_refusal refusal.Backwards = record { name = lit≤ tt; number = lit< tt; status = lit< tt; reason = lit≤ tt }
short_refusal refusal.BeyondBase = record { name = lit≤ tt; number = lit< tt; status = lit< tt; reason = lit≤ tt }
short_refusal refusal.ActionTwice = record { name = lit≤ tt; number = lit< tt; status = lit< tt; reason = lit≤ tt }
short_refusal refusal.ActionBackwards = record { name = lit≤ tt; number = lit< tt; status = lit< tt; reason = lit≤ tt }
short_refusal refusal.ActionEarly = record { name = lit≤ tt; number = lit< tt; status = lit< tt; reason = lit≤ tt }
short_refusal refusal.DropFirst = record { name = lit≤ tt; number = lit< tt; status = lit< tt; reason = lit≤ tt }
short_refusal refusal.CancelEarly = record { name = lit≤ tt; number = lit< tt; status = lit< tt; reason = lit≤ tt }
short_refusal refusal.NotThere = record { name = lit≤ tt; number = lit< tt; status = lit< tt; reason = lit≤ tt }
short_refusal refusal.CountTwice = record { name = lit≤ tt; number = lit< tt; status = lit< tt; reason = lit≤ tt }
short_refusal refusal.OnVehicle = record { name = lit≤ tt; number = lit< tt; status = lit< tt; reason = lit≤ tt }
short_refusal refusal.Memory = record { name = lit≤ tt; number = lit< tt; status = lit< tt; reason = lit≤ tt }
short_refusal refusal.Storage = record { name = lit≤ tt; number = lit< tt; status = lit< tt; reason = lit≤ tt }
