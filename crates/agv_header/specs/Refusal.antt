-- Every refusal: its number, its name and its HTTP status (RFC 9110, section 15), and the names of methods.
use Rattle.std.specs.Prelude.{ℕ, List, codes}
use Rattle.agv_header.specs.declared.refusal.Refusal.{Refusal}
use Rattle.agv_header.specs.declared.refusal.Refusal.TheVariants as refusal
use Rattle.agv_header.specs.declared.refusal.Verb.{Verb}
use Rattle.agv_header.specs.declared.refusal.Verb.TheVariants as verb

-- the name of a method, as the request line has it (RFC 9110, section 9)
abbrev pub verb_text : Verb → List ℕ
verb_text verb.Get = codes "GET"
verb_text verb.Post = codes "POST"
verb_text verb.Put = codes "PUT"
verb_text verb.Delete = codes "DELETE"

-- a row of the table: a refusal's number, its name, and the status code of its answer
pub record Row : Type 0 where
  pub number : ℕ
  pub name : List ℕ
  pub status : ℕ

-- makes a row of the table
abbrev pub row : ℕ → List ℕ → ℕ → Row
row n name status = record { number = n; name = name; status = status }

-- the table of refusals
abbrev pub row_of : Refusal → Row
row_of refusal.BadHead = row 1 (codes "BadHead") 400
row_of refusal.NoLength = row 2 (codes "NoLength") 411
row_of refusal.TooLarge = row 3 (codes "TooLarge") 413
row_of refusal.Coding = row 4 (codes "Coding") 501
row_of refusal.NoPath = row 5 (codes "NoPath") 404
row_of (refusal.BadMethod allow) = row 6 (codes "BadMethod") 405
row_of refusal.BadJson = row 7 (codes "BadJson") 400
row_of refusal.Fraction = row 8 (codes "Fraction") 422
row_of refusal.Position = row 9 (codes "Position") 422
row_of refusal.BadBody = row 10 (codes "BadBody") 400
row_of refusal.BadCsv = row 11 (codes "BadCsv") 400
row_of refusal.Version = row 12 (codes "Version") 422
row_of refusal.BadTimestamp = row 13 (codes "BadTimestamp") 422
row_of refusal.WrongVehicle = row 14 (codes "WrongVehicle") 422
row_of refusal.NoVehicle = row 20 (codes "NoVehicle") 404
row_of refusal.NoNode = row 21 (codes "NoNode") 404
row_of refusal.NoStation = row 22 (codes "NoStation") 404
row_of refusal.NoLoad = row 23 (codes "NoLoad") 404
row_of refusal.NoJob = row 24 (codes "NoJob") 404
row_of refusal.NoOrder = row 25 (codes "NoOrder") 409
row_of refusal.Exists = row 30 (codes "Exists") 409
row_of refusal.LayoutSet = row 31 (codes "LayoutSet") 409
row_of refusal.LayoutBad = row 32 (codes "LayoutBad") 409
row_of (refusal.Held what by) = row 33 (codes "Held") 409
row_of refusal.Full = row 34 (codes "Full") 409
row_of refusal.InJob = row 35 (codes "InJob") 409
row_of refusal.Elsewhere = row 36 (codes "Elsewhere") 409
row_of refusal.SameStation = row 37 (codes "SameStation") 409
row_of refusal.Busy = row 38 (codes "Busy") 409
row_of refusal.Astray = row 39 (codes "Astray") 409
row_of refusal.Loaded = row 40 (codes "Loaded") 409
row_of refusal.NotReady = row 41 (codes "NotReady") 409
row_of refusal.InstantPending = row 42 (codes "InstantPending") 409
row_of refusal.NotConfirmed = row 43 (codes "NotConfirmed") 409
row_of (refusal.WrongUpdate sent) = row 44 (codes "WrongUpdate") 409
row_of refusal.Beyond = row 45 (codes "Beyond") 409
row_of refusal.NoWalk = row 46 (codes "NoWalk") 409
row_of refusal.TooLong = row 47 (codes "TooLong") 409
row_of refusal.Spent = row 48 (codes "Spent") 409
row_of refusal.RefUsed = row 49 (codes "RefUsed") 409
row_of refusal.JobState = row 50 (codes "JobState") 409
row_of refusal.Limit = row 51 (codes "Limit") 409
row_of refusal.OrderKnown = row 52 (codes "OrderKnown") 409
row_of refusal.BadStops = row 53 (codes "BadStops") 409
row_of refusal.OtherOrder = row 60 (codes "OtherOrder") 409
row_of refusal.UpdateNotSent = row 61 (codes "UpdateNotSent") 409
row_of refusal.UpdateBackwards = row 62 (codes "UpdateBackwards") 409
row_of refusal.NotOurNode = row 63 (codes "NotOurNode") 409
row_of refusal.Backwards = row 64 (codes "Backwards") 409
row_of refusal.BeyondBase = row 65 (codes "BeyondBase") 409
row_of refusal.ActionTwice = row 66 (codes "ActionTwice") 409
row_of refusal.ActionBackwards = row 67 (codes "ActionBackwards") 409
row_of refusal.ActionEarly = row 68 (codes "ActionEarly") 409
row_of refusal.DropFirst = row 69 (codes "DropFirst") 409
row_of refusal.CancelEarly = row 70 (codes "CancelEarly") 409
row_of refusal.NotThere = row 71 (codes "NotThere") 409
row_of refusal.CountTwice = row 80 (codes "CountTwice") 409
row_of refusal.OnVehicle = row 81 (codes "OnVehicle") 409
row_of refusal.Memory = row 90 (codes "Memory") 503
row_of refusal.Storage = row 91 (codes "Storage") 503

-- the number of a refusal
abbrev pub number_of : Refusal → ℕ
number_of r = (row_of r).number

-- the name of a refusal
abbrev pub name_of : Refusal → List ℕ
name_of r = (row_of r).name

-- the status code of a refusal's answer
abbrev pub status_of : Refusal → ℕ
status_of r = (row_of r).status
