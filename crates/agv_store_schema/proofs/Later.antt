-- A connection at later and later moments, and the causes of its faults: the proofs of `laws::later_moments_follow`, which callers may cite.
use Rattle.std.proofs.Common.{◌≡◌, ◌≤◌, ◌⊎◌, ℕ, false, Option, IsSome, refl, ◌∙◌, subst, inl, inr, arith}
use Rattle.std.proofs.lemmas.Bool.{both_ways, cases_Bool}
use Rattle.sqlite_disk.specs.Disk.{MoreFaults}
use Rattle.sqlite_trees.specs.declared.store.Store.{Ghosts}
use Rattle.sqlite_trees.specs.Tree.{Trees}
use Rattle.sqlite.specs.State.{Survives}
use Rattle.sqlite.specs.Held.{Held, state}
use Rattle.agv_store_schema.specs.Connections.{IsClean, IsOpen, IsLater, HasStorageCause}

-- more faults than at one moment are more than at an earlier one
more_than_earlier : (old mid new : ℕ) → old ≤ mid → MoreFaults mid new → MoreFaults old new
more_than_earlier old mid new earlier more = omega (arith, earlier, more)

more_till_later : (old mid new : ℕ) → MoreFaults old mid → mid ≤ new → MoreFaults old new
more_till_later old mid new more later = omega (arith, more, later)

module _ {S : Type 0} (g : Ghosts S) where
  -- what survives a call has come to a later moment
  pub later_by : (old new : Held S) {Commits : Trees → Type 0} → Survives (state g old) (state g new) Commits → IsLater g old new
  later_by old new survives = record { clean = λ is. omega (arith, survives.clean); faults = survives.counts; step_limit = survives.limit; closes = survives.closes }

  pub later_refl : (held : Held S) → IsLater g held held
  later_refl held = record { clean = λ is. is; faults = omega arith; step_limit = refl; closes = λ is was_open. inl was_open }

  module _ (old mid new : Held S) (first : IsLater g old mid) (next : IsLater g mid new) where
    more_first : MoreFaults (state g old).faults (state g mid).faults → MoreFaults (state g old).faults (state g new).faults
    more_first more = more_till_later (state g old).faults (state g mid).faults (state g new).faults more next.faults

    more_next : MoreFaults (state g mid).faults (state g new).faults → MoreFaults (state g old).faults (state g new).faults
    more_next more = more_than_earlier (state g old).faults (state g mid).faults (state g new).faults first.faults more

    still_or_more : IsOpen g new ⊎ MoreFaults (state g mid).faults (state g new).faults → IsOpen g new ⊎ MoreFaults (state g old).faults (state g new).faults
    still_or_more (inl still) = inl still
    still_or_more (inr more) = inr (more_next more)

    closed_by : IsOpen g mid ⊎ MoreFaults (state g old).faults (state g mid).faults → IsClean g new → IsOpen g new ⊎ MoreFaults (state g old).faults (state g new).faults
    closed_by (inl was_open) clean = still_or_more (next.closes clean was_open)
    closed_by (inr more) clean = inr (more_first more)

    pub later_trans : IsLater g old new
    later_trans = record {
      clean = λ is. first.clean (next.clean is);
      faults = omega (arith, first.faults, next.faults);
      step_limit = next.step_limit ∙ first.step_limit;
      closes = λ is was_open. closed_by (first.closes (next.clean is) was_open) is;
    }

    shut_by : (state g mid).is_open ≡ false → IsOpen g mid ⊎ MoreFaults (state g old).faults (state g mid).faults → HasStorageCause g old new
    shut_by shut (inl was_open) = absurd (both_ways (state g mid).is_open shut was_open)
    shut_by shut (inr more) = inl (more_first more)

    -- a fault of the store after a later moment is one after an earlier one
    pub fault_later : IsClean g new → HasStorageCause g mid new → HasStorageCause g old new
    fault_later clean (inl more) = inl (more_next more)
    fault_later clean (inr (inl shut)) = elim (cases_Bool (state g old).is_open) [
      | inl was_open ↦ shut_by shut (first.closes (next.clean clean) was_open)
      | inr was ↦ inr (inl was)
    ]
    fault_later clean (inr (inr limited)) =
        let Limited : Option ℕ → Type 0 = λ o. IsSome o in inr (inr (subst Limited first.step_limit limited))
