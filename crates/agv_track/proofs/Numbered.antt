-- Statuses by their number.
use Rattle.std.proofs.Common.{◌≡◌, ℕ, ◌+◌, ◌<◌, ◌≤◌, Some, List, length, get_or, sym, ap, ◌∙◌, arith}
use Rattle.std.specs.List.{slice_get, enumerate_from}
use Rattle.std.specs.Option.{option_map, unwrap_or}
use Rattle.std.proofs.lemmas.Option.{slice_get-map, slice_get-get_or, slice_get_past}
use Rattle.std.proofs.lemmas.List.FromFn.{length-enumerate_from, get_or-enumerate_from}
use Rattle.agv_message_core.specs.declared.status.Status.TheVariants.{Waiting}
use Rattle.agv_order.specs.declared.act.Act.{Act}
use Rattle.agv_track.specs.Judgements.{nth_status}
use Rattle.agv_track.specs.Reports.{Reports, status_after, statuses_after}

-- element n of a list with its number
pub numbered-at : {X : Type 0} (xs : List X) (n : ℕ) (x : X) → n < length xs → x ≡ get_or xs n x → slice_get (enumerate_from 0 xs) n ≡ Some (n, x)
numbered-at xs n x within is =
    slice_get-get_or (enumerate_from 0 xs) n (0, x) (omega (arith, length-enumerate_from 0 xs))
    ∙ ap Some (get_or-enumerate_from 0 xs n (0, x) within)
    ∙ λ i. Some (none n i, sym is i)
  where
    none : (n : ℕ) → 0 + n ≡ n
    none n = omega arith

-- the status of act n
pub status-at : (reports : Reports) (order : List ℕ) (acts : List Act) (n : ℕ) (act : Act) → n < length acts → act ≡ get_or acts n act → nth_status (statuses_after reports order acts) n ≡ status_after reports order (n, act)
status-at reports order acts n act within is =
    ap (λ o. unwrap_or o Waiting) (slice_get-map (status_after reports order) (enumerate_from 0 acts) n ∙ ap (option_map (status_after reports order)) (numbered-at acts n act within is))

-- there is none past the acts
pub status-past : (reports : Reports) (order : List ℕ) (acts : List Act) (n : ℕ) → length acts ≤ n → nth_status (statuses_after reports order acts) n ≡ Waiting
status-past reports order acts n past =
    ap (λ o. unwrap_or o Waiting) (slice_get-map (status_after reports order) (enumerate_from 0 acts) n ∙ ap (option_map (status_after reports order)) (slice_get_past (enumerate_from 0 acts) n (omega (arith, length-enumerate_from 0 acts))))
