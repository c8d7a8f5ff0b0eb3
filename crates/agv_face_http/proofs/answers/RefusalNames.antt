-- The names of refusals stand in JSON as they are.
use Rattle.std.proofs.Common.{◌≡◌, List, ℕ, ◌∷◌, [], ◌++◌, refl, ap, ◌∙◌, sym, decimal, codes, append_assoc}
use Rattle.json.specs.Print.{escape, escape_byte}
use Rattle.serde_json.specs.Written.{compact_text}
use Rattle.agv_count.specs.Reports.{key_text, thing_text}
use Rattle.agv_header.specs.Refusal.{name_of}
use Rattle.agv_header.specs.declared.key.Thing.{Thing}
use Rattle.agv_header.specs.declared.key.VehicleKey.{VehicleKey}
use Rattle.agv_header.specs.declared.refusal.Refusal.{Refusal}
use Rattle.agv_header.specs.declared.refusal.Refusal.TheVariants as refusal
use Rattle.agv_message_json.specs.Json.{field, object_of, text, whole}

pub escape-refusal : (r : Refusal) → escape (name_of r) ≡ name_of r
unfolding escape_byte
escape-refusal refusal.BadHead = refl
escape-refusal refusal.NoLength = refl
escape-refusal refusal.TooLarge = refl
escape-refusal refusal.Coding = refl
escape-refusal refusal.NoPath = refl
escape-refusal (refusal.BadMethod _) = refl
escape-refusal refusal.BadJson = refl
escape-refusal refusal.Fraction = refl
escape-refusal refusal.Position = refl
escape-refusal refusal.BadBody = refl
escape-refusal refusal.BadCsv = refl
escape-refusal refusal.Version = refl
escape-refusal refusal.BadTimestamp = refl
escape-refusal refusal.WrongVehicle = refl
escape-refusal refusal.NoVehicle = refl
escape-refusal refusal.NoNode = refl
escape-refusal refusal.NoStation = refl
escape-refusal refusal.NoLoad = refl
escape-refusal refusal.NoJob = refl
escape-refusal refusal.NoOrder = refl
escape-refusal refusal.Exists = refl
escape-refusal refusal.LayoutSet = refl
escape-refusal refusal.LayoutBad = refl
escape-refusal (refusal.Held _ _) = refl
escape-refusal refusal.Full = refl
escape-refusal refusal.InJob = refl
escape-refusal refusal.Elsewhere = refl
escape-refusal refusal.SameStation = refl
escape-refusal refusal.Busy = refl
escape-refusal refusal.Astray = refl
escape-refusal refusal.Loaded = refl
escape-refusal refusal.NotReady = refl
escape-refusal refusal.InstantPending = refl
escape-refusal refusal.NotConfirmed = refl
escape-refusal (refusal.WrongUpdate _) = refl
escape-refusal refusal.Beyond = refl
escape-refusal refusal.NoWalk = refl
escape-refusal refusal.TooLong = refl
escape-refusal refusal.Spent = refl
escape-refusal refusal.RefUsed = refl
escape-refusal refusal.JobState = refl
escape-refusal refusal.Limit = refl
escape-refusal refusal.OrderKnown = refl
escape-refusal refusal.BadStops = refl
escape-refusal refusal.OtherOrder = refl
escape-refusal refusal.UpdateNotSent = refl
escape-refusal refusal.UpdateBackwards = refl
escape-refusal refusal.NotOurNode = refl
escape-refusal refusal.Backwards = refl
escape-refusal refusal.BeyondBase = refl
escape-refusal refusal.ActionTwice = refl
escape-refusal refusal.ActionBackwards = refl
escape-refusal refusal.ActionEarly = refl
escape-refusal refusal.DropFirst = refl
escape-refusal refusal.CancelEarly = refl
escape-refusal refusal.NotThere = refl
escape-refusal refusal.CountTwice = refl
escape-refusal refusal.OnVehicle = refl
escape-refusal refusal.Memory = refl
escape-refusal refusal.Storage = refl

-- what is told of a refusal, as it is put together and as JSON has it
pub refusal_text : (shown name : List ℕ) (n m : ℕ) → shown ≡ name → escape name ≡ name → n ≡ m
    → codes "{\"name\":\"" ++ (shown ++ (codes "\",\"refusal\":" ++ (decimal n ++ codes "}")))
    ≡ codes "{\"name\":\"" ++ ((escape name ++ 34 ∷ []) ++ (codes ",\"refusal\":" ++ (decimal m ++ codes "}")))
refusal_text shown name n m is plain same =
    ap (λ (s : List ℕ). codes "{\"name\":\"" ++ (s ++ (codes "\",\"refusal\":" ++ (decimal n ++ codes "}")))) (is ∙ sym plain)
    ∙ ap (λ (k : ℕ). codes "{\"name\":\"" ++ (escape name ++ (codes "\",\"refusal\":" ++ (decimal k ++ codes "}")))) same
    ∙ ap (λ (l : List ℕ). codes "{\"name\":\"" ++ l) (sym (append_assoc (escape name) (34 ∷ []) (codes ",\"refusal\":" ++ (decimal m ++ codes "}"))))

-- the bodies of the two refusals that tell more, with their numbers
abbrev pub held_text : Thing → VehicleKey → ℕ → List ℕ
held_text what by n = compact_text (object_of (
    field "by" (text (key_text by))
    ∷ field "name" (text (name_of (refusal.Held what by)))
    ∷ field "refusal" (whole n)
    ∷ field "what" (text (thing_text what))
    ∷ []))

abbrev pub wrong_update_text : ℕ → ℕ → List ℕ
wrong_update_text n sent = compact_text (object_of (
    field "name" (text (codes "WrongUpdate"))
    ∷ field "refusal" (whole n)
    ∷ field "sent" (whole sent)
    ∷ []))
