-- The order of an action's statuses (VDA 5050 2.0, actionStatus; this project's profile).
use Rattle.std.specs.Prelude.{Bool, true, false, not, if◌then◌else◌, Option, None, Some}
use Rattle.agv_message_core.specs.declared.status.Status.{Status}
use Rattle.agv_message_core.specs.declared.status.Status.TheVariants.{Waiting, Initializing, Running, Paused, Finished, Failed}

-- the action has not begun
abbrev pub is_waiting : Status → Bool
is_waiting Waiting = true
is_waiting Initializing = false
is_waiting Running = false
is_waiting Paused = false
is_waiting Finished = false
is_waiting Failed = false

-- the action is finished: the load was picked or dropped
abbrev pub is_finished : Status → Bool
is_finished Waiting = false
is_finished Initializing = false
is_finished Running = false
is_finished Paused = false
is_finished Finished = true
is_finished Failed = false

-- no other status follows: the action is finished, or it has failed
abbrev pub is_final : Status → Bool
is_final Waiting = false
is_final Initializing = false
is_final Running = false
is_final Paused = false
is_final Finished = true
is_final Failed = true

-- the action has begun and is not final
abbrev pub is_active : Status → Bool
is_active Waiting = false
is_active Initializing = true
is_active Running = true
is_active Paused = true
is_active Finished = false
is_active Failed = false

-- whether the second status may follow the first: any may follow Waiting, any but Waiting an active one, and a final one only itself
abbrev pub may_follow : Status → Status → Bool
may_follow Waiting new = true
may_follow Initializing new = not (is_waiting new)
may_follow Running new = not (is_waiting new)
may_follow Paused new = not (is_waiting new)
may_follow Finished Waiting = false
may_follow Finished Initializing = false
may_follow Finished Running = false
may_follow Finished Paused = false
may_follow Finished Finished = true
may_follow Finished Failed = false
may_follow Failed Waiting = false
may_follow Failed Initializing = false
may_follow Failed Running = false
may_follow Failed Paused = false
may_follow Failed Finished = false
may_follow Failed Failed = true

-- the new status if it may follow the old one
abbrev pub merge : Status → Status → Option Status
merge old new = if may_follow old new then Some new else None
