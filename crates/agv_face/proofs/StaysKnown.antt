-- What the calls of a stream make of the desk, request by request, and what a crash leaves.
use Rattle.std.proofs.Common.{◌≡◌, ◌≢◌, ◌⊎◌, ◌++◌, ℕ, Bool, List, [], ◌∷◌, Result, Ok, Err, inl, inr, refl, sym, ap, ◌∙◌, subst, append-nil}
use Rattle.std.specs.List.{cons_option}
use Rattle.sqlite_trees.specs.declared.store.Store.{Ghosts}
use Rattle.sqlite_trees.specs.Tree.{Trees}
use Rattle.sqlite.specs.Effect.{Database}
use Rattle.sqlite.specs.Held.{Held, state}
use Rattle.sqlite.specs.State.{Survives}
use Rattle.agv_desk.specs.Outcomes.{after}
use Rattle.agv_desk.specs.declared.call.Call.{Call}
use Rattle.agv_header.specs.declared.refusal.Refusal.{Refusal}
use Rattle.agv_face_http.specs.request.Fronts.{HasNext}
use Rattle.agv_face_http.specs.request.Heard.{IsHeard, IsLent}
use Rattle.agv_face_http.specs.request.Requests.{Request}
use Rattle.agv_face_http.specs.Output.{calls_of, outcome_by, timed_call, world_after}
use Rattle.agv_face_http.specs.StreamEnds.{HasRequestNext}
use Rattle.agv_face_http.specs.declared.request.heard.Heard.TheVariants as heard
use Rattle.agv_face_http.specs.declared.request.heard.RequestRef.{RequestRef}
use Rattle.agv_store_schema.specs.Connections.{IsClean}
use Rattle.agv_store_schema.specs.SchemaNumbers.{desk_seats}
use Rattle.agv_store_floor.specs.Floors.{Keyed, Knows, world_at}
use Rattle.agv_store.specs.Running.{HasDatabase}
use Rattle.agv_store.specs.Serving.{FoundIn, LeavesCall}
use Rattle.agv_world_core.specs.Worlds.{World}
use Rattle.agv_face.specs.Nexts.{LeavesNext}
use Rattle.agv_face.specs.Replies.{IsReached, LeavesRequest, call_of_lent}
use Rattle.agv_face.specs.StreamCalls.{AreDone, AreDoneOrNext}
use Rattle.agv_face.proofs.InTurn.{CallsInTurn, WorldsInTurn, calls_more, next_world, no_calls}

-- an opening finds the world of a desk that knows one
abbrev pub FindsKnown : {S : Type 0} → Ghosts S → Type 0
FindsKnown {S} g = (held : Held S) (world : World) → Knows g held world → (trees : Trees) → (state g held).may_leave trees → HasDatabase (λ found. FoundIn found world) trees

-- what holds of each database that is so
has_weaker : {One Other : Database → Type 0} {trees : Trees} → ((found : Database) → One found → Other found) → HasDatabase One trees → HasDatabase Other trees
has_weaker more has = record { found = has.found; listed = has.listed; trees_are = has.trees_are; is_so = more has.found has.is_so }

not_nil : {X : Type 0} (l : List X) (x : X) → l ++ x ∷ [] ≢ []
not_nil [] x is = absurd (cc is)
not_nil (y ∷ l) x is = absurd (cc is)

module _ {S : Type 0} (g : Ghosts S) (at : ℕ) (desk : Keyed S) where
  abbrev start : World
  start = world_at g desk.held

  abbrev Known : Keyed S → Type 0
  Known now = Knows g now.held (world_at g now.held)

  -- ---- while requests are served

  pub record StaysKnown (now : Keyed S) (requests : List Request) : Type 0 where
    -- before the first call the desk is as it was
    pub untouched : calls_of requests at ≡ [] → now ≡ desk
    pub knew : IsClean g now.held → calls_of requests at ≢ [] → Knows g desk.held start
    pub known : IsClean g now.held → calls_of requests at ≢ [] → Known now
    pub still : IsClean g now.held → Knows g desk.held start → Known now

  pub known_none : StaysKnown desk []
  known_none = record {
    untouched = λ _. refl;
    knew = λ _ some. absurd (some (no_calls at));
    known = λ _ some. absurd (some (no_calls at));
    still = λ _ knows. knows;
  }

  -- one request more
  module _ (now then : Keyed S) (requests : List Request) (stays : StaysKnown now requests) (later : IsClean g then.held → IsClean g now.held)
      (lent : RequestRef) (request : Request) (lent_is : IsLent request lent) (turn : CallsInTurn) where
    abbrev more : List Request
    more = requests ++ request ∷ []

    -- that is no call
    known_same : then ≡ now → calls_of more at ≡ calls_of requests at → StaysKnown then more
    known_same same none =
        let Some : List (ℕ × Call) → Type 0 = λ calls. calls ≢ [] in
        record {
          untouched = λ is. same ∙ stays.untouched (sym none ∙ is);
          knew = λ clean some. stays.knew (later clean) (subst Some none some);
          known = λ clean some. subst Known (sym same) (stays.known (later clean) (subst Some none some));
          still = λ clean knows. subst Known (sym same) (stays.still (later clean) knows);
        }

    -- that is a call
    knew_start : (calls : List (ℕ × Call)) → calls_of requests at ≡ calls → IsClean g now.held → Known now → Knows g desk.held start
    knew_start [] none clean knows = subst Known (stays.untouched none) knows
    knew_start (call ∷ calls) is clean knows = stays.knew clean (λ none. let e : call ∷ calls ≡ [] = sym is ∙ none in absurd (cc))

    known_call : calls_of more at ≢ [] → (IsClean g then.held → Known now × Known then) → StaysKnown then more
    known_call some reached = record {
      untouched = λ none. absurd (some none);
      knew = λ clean _. knew_start (calls_of requests at) refl (later clean) (reached clean).0;
      known = λ clean _. (reached clean).1;
      still = λ clean _. (reached clean).1;
    }

    calls_so : (read : Result Call Refusal) → call_of_lent lent ≡ read → calls_of more at ≡ calls_of requests at ++ cons_option (timed_call at read) []
    calls_so read is = calls_more at requests request lent lent_is turn ∙ ap (λ (r : Result Call Refusal). calls_of requests at ++ cons_option (timed_call at r) []) is

    known_by : (read : Result Call Refusal) → call_of_lent lent ≡ read → IsReached g now then read → StaysKnown then more
    known_by (Err why) is same = known_same same (calls_so (Err why) is ∙ append-nil (calls_of requests at))
    known_by (Ok call) is reached = known_call (λ none. not_nil (calls_of requests at) (at, call) (sym (calls_so (Ok call) is) ∙ none)) reached

    pub known_on : IsReached g now then (call_of_lent lent) → StaysKnown then more
    known_on reached = known_by (call_of_lent lent) refl reached

  -- ---- at an end

  module _ (finds : FindsKnown g) (now : Keyed S) (requests : List Request) (stays : StaysKnown now requests) (world_is : IsClean g now.held → world_at g now.held ≡ world_after desk_seats start at requests) where
    found_now : IsClean g now.held → Known now → (trees : Trees) → (state g now.held).may_leave trees → HasDatabase (λ found. FoundIn found (world_after desk_seats start at requests)) trees
    found_now clean knows trees left =
        let Found : World → Type 0 = λ world. HasDatabase (λ found. FoundIn found world) trees in
        subst Found (world_is clean) (finds now.held (world_at g now.held) knows trees left)

    pub are_done : AreDone g at desk now requests
    are_done = record {
      untouched = stays.untouched;
      knew = stays.knew;
      knows = λ clean some. let So : World → Type 0 = λ world. Knows g now.held world in subst So (world_is clean) (stays.known clean some);
      crash = λ clean knew trees left. found_now clean (stays.still clean knew) trees left;
    }

    -- another request was begun, and has no answer
    module _ (then : Keyed S) (turn : WorldsInTurn) (input buf : List ℕ) (ended : Bool)
        (crash : Survives (state g now.held) (state g then.held) (LeavesNext g now.held at buf ended)) (later : IsClean g then.held → IsClean g now.held)
        (goes : (lent : RequestRef) → IsHeard buf ended (heard.Request lent) → (request : Request) × IsLent request lent × HasNext input requests request)
        (begun : (then ≡ desk) ⊎ HasRequestNext input requests) where
      abbrev FoundSo : Database → Type 0
      FoundSo found = FoundIn found (world_after desk_seats start at requests)
          ⊎ ((request : Request) × HasNext input requests request × FoundIn found (world_after desk_seats start at (requests ++ request ∷ [])))

      found_next : IsClean g now.held → (trees : Trees) → (lent : RequestRef) → (request : Request) × IsLent request lent × HasNext input requests request
          → (read : Result Call Refusal) → call_of_lent lent ≡ read → LeavesRequest g now.held at read trees → HasDatabase FoundSo trees
      found_next clean trees lent goes (Err why) is leaves = absurd leaves
      found_next clean trees lent goes (Ok call) is leaves =
          let left : LeavesCall g now.held at call trees = leaves in
          let world_then =
          ap (λ (world : World). after world (outcome_by desk_seats world at (Ok call))) (world_is clean)
          ∙ ap (λ (r : Result Call Refusal). after (world_after desk_seats start at requests) (outcome_by desk_seats (world_after desk_seats start at requests) at r)) (sym is)
          ∙ next_world start at requests goes.0 lent goes.1 turn in
          let Found : World → Type 0 = λ world. FoundIn left.found world in
          record { found = left.found; listed = left.listed; trees_are = left.trees_are; is_so = inr (goes.0, goes.2, subst Found world_then left.has) }

      found_either : IsClean g now.held → Known now → (trees : Trees) → (state g now.held).may_leave trees ⊎ LeavesNext g now.held at buf ended trees → HasDatabase FoundSo trees
      found_either clean knows trees (inl before) = has_weaker (λ found has. inl has) (found_now clean knows trees before)
      found_either clean knows trees (inr next) = found_next clean trees next.0 (goes next.0 next.1) (call_of_lent next.0) refl next.2

      pub are_done_or_next : AreDoneOrNext g at desk then input requests
      are_done_or_next = record {
        begun = begun;
        knew = λ clean some. stays.knew (later clean) some;
        crash = λ clean knew trees left. found_either (later clean) (stays.still (later clean) knew) trees (crash.crash clean trees left);
      }
