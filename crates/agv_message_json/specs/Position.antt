-- Positions, velocities and trajectories, which the desk doesn't take (this project's profile).
use Rattle.std.specs.Prelude.{ℕ, ◌||◌, List, [], Bool, codes, unwrap_or}
use Rattle.std.specs.List.{list_any}
use Rattle.serde_json.specs.Data.{Data}
use Rattle.agv_message_json.specs.Members.{has, items_at}

-- some item of the array has a member of this name
abbrev pub some_item_has : List ℕ → List ℕ → Data → Bool
some_item_has list name d = list_any (has name) (unwrap_or (items_at list d) [])

-- the state reports a position, a velocity or a trajectory
unfoldable pub has_position : Data → Bool
has_position d =
    has (codes "agvPosition") d || has (codes "velocity") d
    || some_item_has (codes "nodeStates") (codes "nodePosition") d
    || some_item_has (codes "edgeStates") (codes "trajectory") d
