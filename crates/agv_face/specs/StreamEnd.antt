-- How the serving of a stream ends: which input arrived, what was written, and which world the desk then knows. What is written at each end is defined by `agv_face_http` (its StreamEnds).
use Rattle.std.specs.Prelude.{◌≡◌, ◌⊎◌, ◌+◌, ℕ, Bool, true, List, [], ◌++◌, length, Option, IfSome, Result, Ok, Err, min}
use Rattle.std.specs.Io.KnownBytes.{Appends, Consumes}
use Rattle.sqlite_trees.specs.declared.store.Store.{Ghosts}
use Rattle.agv_header.specs.declared.refusal.Refusal.TheVariants as refusal
use Rattle.agv_face_http.specs.request.Cut.{Cut, at_end, closed, faulty}
use Rattle.agv_face_http.specs.request.Fronts.{Begins, IsSoFar}
use Rattle.agv_face_http.specs.Output.{calls_of, refusal_text}
use Rattle.agv_face_http.specs.request.Requests.{Request}
use Rattle.agv_face_http.specs.StreamEnds.{HasCallNext, HasMachineFault, IsReadFault, IsRefusedByMachine, IsServedToEnd, IsWriteFault}
use Rattle.agv_store_floor.specs.Floors.{Keyed, Knows, world_at}
use Rattle.agv_store_schema.specs.SchemaNumbers.{desk_seats}
use Rattle.agv_store_schema.specs.Connections.{IsClean, IsOpen}
use Rattle.agv_world_core.specs.Worlds.{World}
use Rattle.agv_face.specs.CountingIo.{inner_of, FailedOnce, FailedNever, RanOut}
use Rattle.agv_face.specs.StreamCalls.{AreDone, AreDoneBy, AreDoneOrCut}
use Rattle.agv_face.specs.declared.stream_end.Ended.{Ended}
use Rattle.agv_face.specs.declared.stream_end.Ended.TheVariants as ended
use Rattle.agv_face.specs.declared.stream_end.Served.{Served}
use Rattle.agv_face.specs.declared.stream_end.StreamFault.{StreamFault}
use Rattle.agv_face.specs.declared.stream_end.StreamFault.TheVariants as fault
use Rattle.agv_face.specs.declared.counting_io.CountingIo.{CountingIo}

-- the most reads that any stream may have: 2^52 - 1
abbrev pub reads_at_all : ℕ
reads_at_all = 4503599627370495

-- the most reads of a stream with this limit
abbrev pub most_reads : ℕ → ℕ
most_reads given = min given reads_at_all

-- ---- whether the store has failed

-- once a stream has been served to its end: the store has failed if the end is `Storage`, otherwise as before
abbrev pub failed_at_end : Ended → Bool → Bool
failed_at_end (ended.Refused refusal.Storage) before = true
failed_at_end _ before = before

-- as a stream ends; where an answer was cut short, it may have been the refusal `Storage`
abbrev pub EndsFailed : Bool → Bool → Result Served StreamFault → Type 0
EndsFailed before then (Ok served) = then ≡ failed_at_end served.ended before
EndsFailed before then (Err (fault.Read answers)) = then ≡ before
EndsFailed before then (Err (fault.Write answers)) = (then ≡ before) ⊎ (then ≡ true)

-- ---- what is written

-- the input was served to this end from the world `world`: the bytes `out` were written with this many answers, and `left` is the world afterwards
abbrev pub IsEnd : List ℕ → ℕ → ℕ → Ended → World → List ℕ → World → Type 0
IsEnd input at answers ended.End world out left = IsServedToEnd desk_seats world at input at_end out left answers
IsEnd input at answers ended.Close world out left = IsServedToEnd desk_seats world at input closed out left answers
IsEnd input at answers (ended.Refused why) world out left =
    IsServedToEnd desk_seats world at input (faulty why) out left answers
    ⊎ IsRefusedByMachine desk_seats world at input why out left answers

-- ---- the input, and what a stream leaves

-- `input` is the whole input, if the reader knows what remains
abbrev pub IsInput : {R : Type 0} → (R → Option (List ℕ)) → CountingIo R → List ℕ → Type 0
IsInput remaining reader input = IfSome (remaining (inner_of reader)) (λ all. all ≡ input)

-- these bytes of the input have arrived
abbrev pub HaveCome : {R : Type 0} → (R → Option (List ℕ)) → CountingIo R → CountingIo R → List ℕ → Type 0
HaveCome remaining reader reader_then bytes = Consumes (remaining (inner_of reader)) (remaining (inner_of reader_then)) bytes

-- what was written from the world of the desk's tables on; while its store is open, the desk knows the world afterwards
pub record Leaves {S W : Type 0} (g : Ghosts S) (contents : W → Option (List ℕ)) (desk desk_then : Keyed S) (writer writer_then : CountingIo W)
    (IsSo : World → List ℕ → World → Type 0) : Type 0 where
  pub out : List ℕ
  pub left : World
  pub is_so : IsSo (world_at g desk.held) out left
  pub written : Appends (contents (inner_of writer)) (contents (inner_of writer_then)) out
  pub knows : IsOpen g desk_then.held → Knows g desk_then.held left

-- ---- the ends

-- the desk, the reader and the writer, each before and after
module _ {S R W : Type 0} (g : Ghosts S) (remaining : R → Option (List ℕ)) (contents : W → Option (List ℕ)) (at reads : ℕ)
    (desk desk_then : Keyed S) (reader reader_then : CountingIo R) (writer writer_then : CountingIo W) where
  abbrev pub IsStreamEnd : Result Served StreamFault → Type 0
  -- the input was served to its end, or up to a fault of the machine
  IsStreamEnd (Ok served) =
      (IsClean g desk_then.held → (input : List ℕ) × IsInput remaining reader input × Leaves g contents desk desk_then writer writer_then (IsEnd input at served.answers served.ended))
      × FailedNever reader reader_then × FailedNever writer writer_then
  -- the reader failed, or reached the most reads: all requests that had arrived whole are answered
  IsStreamEnd (Err (fault.Read answers)) =
      (IsClean g desk_then.held → (bytes : List ℕ) × HaveCome remaining reader reader_then bytes
      × Leaves g contents desk desk_then writer writer_then (λ world out left. IsReadFault desk_seats world at bytes out left answers))
      × RanOut (most_reads reads) reader reader_then × FailedNever writer writer_then
  -- the writer failed, or took no byte: an answer is cut short
  IsStreamEnd (Err (fault.Write answers)) =
      (IsClean g desk_then.held → (input : List ℕ) × IsInput remaining reader input
      × Leaves g contents desk desk_then writer writer_then (λ world out left. IsWriteFault desk_seats world at input out left answers))
      × FailedNever reader reader_then × FailedOnce writer writer_then

-- ---- how far a stream got, whatever the disk answers

-- how the input goes on after the answered requests, where a stream was served to this end
abbrev pub GoesOnTo : List ℕ → List Request → Ended → Type 0
GoesOnTo input requests ended.End = Cut input requests at_end
GoesOnTo input requests ended.Close = Cut input requests closed
GoesOnTo input requests (ended.Refused why) = Cut input requests (faulty why) ⊎ HasMachineFault input requests why

-- the number of answers after those to the requests
abbrev pub last_answers : Ended → ℕ
last_answers ended.End = 0
last_answers ended.Close = 0
last_answers (ended.Refused why) = 1

-- the bytes written after the answers to the requests
abbrev pub last_bytes : Ended → List ℕ
last_bytes ended.End = []
last_bytes ended.Close = []
last_bytes (ended.Refused why) = refusal_text why

-- the desk, the reader and the writer, each before and after
module _ {S R W : Type 0} (g : Ghosts S) (remaining : R → Option (List ℕ)) (contents : W → Option (List ℕ)) (at : ℕ)
    (desk desk_then : Keyed S) (reader reader_then : CountingIo R) (writer writer_then : CountingIo W) where
  -- if the store had failed before, none of the requests makes a call
  abbrev pub AskNothing : List Request → Type 0
  AskNothing requests = desk.failed ≡ true → calls_of requests at ≡ []

  -- the answered requests are the first ones of the input, as many as counted, and their calls are done; a last refusal is written whole
  abbrev pub IsCounted : Result Served StreamFault → Type 0
  IsCounted (Ok served) =
      (input : List ℕ) × IsInput remaining reader input × (requests : List Request) × GoesOnTo input requests served.ended
      × (served.answers ≡ length requests + last_answers served.ended) × AskNothing requests
      × ((sent : List ℕ) × Appends (contents (inner_of writer)) (contents (inner_of writer_then)) (sent ++ last_bytes served.ended))
      × AreDoneBy g at desk desk_then input requests served.ended
  -- the answered requests are all that had arrived whole
  IsCounted (Err (fault.Read answers)) =
      (bytes : List ℕ) × HaveCome remaining reader reader_then bytes × (requests : List Request) × IsSoFar bytes requests
      × (answers ≡ length requests) × AskNothing requests × AreDone g at desk desk_then requests
  -- the store may have failed at the request whose answer was cut short
  IsCounted (Err (fault.Write answers)) =
      (input : List ℕ) × IsInput remaining reader input × (requests : List Request) × Begins input requests
      × (answers ≡ length requests) × AskNothing requests × ((desk_then.failed ≡ desk.failed) ⊎ HasCallNext input requests)
      × AreDoneOrCut g at desk desk_then input requests
