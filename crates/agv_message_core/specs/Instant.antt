-- Instant actions (VDA 5050 2.0, instantActions; this project's profile).
use Rattle.std.specs.Prelude.{ℕ, List, ◌++◌, codes, decimal}
use Rattle.agv_message_core.specs.declared.instant.InstantKind.{InstantKind}
use Rattle.agv_message_core.specs.declared.instant.InstantKind.TheVariants.{StartPause, StopPause, CancelOrder}

-- the names of the predefined instant actions of VDA 5050
abbrev pub instant_name : InstantKind → List ℕ
instant_name StartPause = codes "startPause"
instant_name StopPause = codes "stopPause"
instant_name CancelOrder = codes "cancelOrder"

-- the id of the instant action of message n: `instant-n`
abbrev pub instant_id : ℕ → List ℕ
instant_id n = codes "instant-" ++ decimal n
