-- What the calls of a stream do to the desk, and what a crash leaves of its tables.
use Rattle.std.specs.Prelude.{◌≡◌, ◌≢◌, ◌⊎◌, ℕ, List, [], ◌∷◌, ◌++◌}
use Rattle.sqlite_trees.specs.Tree.{Trees}
use Rattle.sqlite_trees.specs.declared.store.Store.{Ghosts}
use Rattle.sqlite.specs.Effect.{Database}
use Rattle.sqlite.specs.Held.{state}
use Rattle.agv_face_http.specs.request.Cut.{Cut, faulty}
use Rattle.agv_face_http.specs.request.Fronts.{HasNext}
use Rattle.agv_face_http.specs.request.Requests.{Request}
use Rattle.agv_face_http.specs.Output.{calls_of, world_after}
use Rattle.agv_face_http.specs.StreamEnds.{HasMachineFault, HasRequestNext, IsOfMachine}
use Rattle.agv_header.specs.declared.refusal.Refusal.{Refusal}
use Rattle.agv_store_schema.specs.Connections.{IsClean}
use Rattle.agv_store_schema.specs.SchemaNumbers.{desk_seats}
use Rattle.agv_store_floor.specs.Floors.{Keyed, Knows, world_at}
use Rattle.agv_store.specs.Running.{HasDatabase}
use Rattle.agv_store.specs.Serving.{FoundIn}
use Rattle.agv_world_core.specs.Worlds.{World}
use Rattle.agv_face.specs.declared.stream_end.Ended.{Ended}
use Rattle.agv_face.specs.declared.stream_end.Ended.TheVariants as ended

-- the desk before and after
module _ {S : Type 0} (g : Ghosts S) (at : ℕ) (desk desk_then : Keyed S) where
  -- the world after these requests
  abbrev pub world_of : List Request → World
  world_of requests = world_after desk_seats (world_at g desk.held) at requests

  -- if the desk knew a world, all trees that a crash may leave are of a database with this property
  abbrev pub CrashLeaves : (Database → Type 0) → Type 0
  CrashLeaves IsSo = IsClean g desk_then.held → Knows g desk.held (world_at g desk.held)
      → (trees : Trees) → (state g desk_then.held).may_leave trees → HasDatabase IsSo trees

  -- these requests were answered, and no other was begun
  pub record AreDone (requests : List Request) : Type 0 where
    -- if none of them makes a call, the desk is unchanged
    pub untouched : calls_of requests at ≡ [] → desk_then ≡ desk
    -- a call is answered only by a desk that knew a lawful world
    pub knew : IsClean g desk_then.held → calls_of requests at ≢ [] → Knows g desk.held (world_at g desk.held)
    -- after an answered call the store is open, and the desk knows the world after the requests
    pub knows : IsClean g desk_then.held → calls_of requests at ≢ [] → Knows g desk_then.held (world_of requests)
    pub crash : CrashLeaves (λ found. FoundIn found (world_of requests))

  -- these requests were answered, and the next one of the input may have been begun
  pub record AreDoneOrNext (input : List ℕ) (requests : List Request) : Type 0 where
    -- if there is no next one, the desk is unchanged
    pub begun : (desk_then ≡ desk) ⊎ HasRequestNext input requests
    pub knew : IsClean g desk_then.held → calls_of requests at ≢ [] → Knows g desk.held (world_at g desk.held)
    pub crash : CrashLeaves (λ found. FoundIn found (world_of requests)
        ⊎ ((request : Request) × HasNext input requests request × FoundIn found (world_of (requests ++ request ∷ []))))

  -- the answer after these requests is cut short: it answers the next request, which is done, or refuses a fault of HTTP or of the machine
  abbrev pub AreDoneOrCut : List ℕ → List Request → Type 0
  AreDoneOrCut input requests =
      ((request : Request) × HasNext input requests request × AreDone (requests ++ request ∷ []))
      ⊎ ((why : Refusal) × Cut input requests (faulty why) × AreDone requests)
      ⊎ ((why : Refusal) × HasMachineFault input requests why × AreDoneOrNext input requests)

  -- what was done where a stream was served to this end
  abbrev pub AreDoneBy : List ℕ → List Request → Ended → Type 0
  AreDoneBy input requests ended.End = AreDone requests
  AreDoneBy input requests ended.Close = AreDone requests
  AreDoneBy input requests (ended.Refused why) = AreDone requests ⊎ (IsOfMachine why × AreDoneOrNext input requests)
