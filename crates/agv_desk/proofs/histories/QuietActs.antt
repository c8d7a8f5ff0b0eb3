-- Acts that are as far as a state message says: by the same message none becomes finished, and all are over only where they were.
use Rattle.std.proofs.Common.{◌≡◌, ◌&&◌, ℕ, ◌+◌, suc, Bool, true, false, cond, not, IsTrue, List, [], ◌∷◌, map, zip, Option, None, Some, unwrap_or, refl, sym, ap, ◌∙◌, arith}
use Rattle.std.specs.List.{cons_option, enumerate_from, list_all, slice_get}
use Rattle.std.proofs.lemmas.Bool.{and_from, and_parts}
use Rattle.agv_header.specs.declared.key.VehicleKey.{VehicleKey}
use Rattle.agv_message_core.specs.Order.{act_id}
use Rattle.agv_message_core.specs.declared.status.Status.{Status}
use Rattle.agv_order.specs.Statuses.{is_final, is_finished, may_follow}
use Rattle.agv_order.specs.WellFormed.{is_over}
use Rattle.agv_order.specs.declared.act.Act.{Act}
use Rattle.agv_track.specs.Reports.{Reports, renewed, status_after, told}
use Rattle.agv_desk.specs.ActSteps.{act_moves, taken_to}
use Rattle.agv_desk.specs.Outcomes.{Acted, Move}
use Rattle.agv_desk.proofs.histories.LawfulLists.{finished_final}
use Rattle.agv_desk.proofs.histories.TripsFollow.{final_stays}

-- the status of each act may follow the one that is listed for it; the first act has this number
abbrev pub AreAsTold : Reports → List ℕ → ℕ → List Act → Type 0
AreAsTold reports order n acts = (k : ℕ) (act : Act) (status : Status) → slice_get acts k ≡ Some act → told reports (act_id order (n + k)) ≡ Some status → IsTrue (may_follow status act.status)

module _ (reports : Reports) (order : List ℕ) where
  first_told : (n : ℕ) (act : Act) (acts : List Act) → AreAsTold reports order n (act ∷ acts) → (status : Status) → told reports (act_id order n) ≡ Some status → IsTrue (may_follow status act.status)
  first_told n act acts as_told status listed = let number : n + 0 ≡ n = omega arith in as_told 0 act status refl (ap (λ m. told reports (act_id order m)) number ∙ listed)

  later_told : (n : ℕ) (act : Act) (acts : List Act) → AreAsTold reports order n (act ∷ acts) → AreAsTold reports order (n + 1) acts
  later_told n act acts as_told k other status there listed =
      let number : n + suc k ≡ n + 1 + k = omega arith in
      as_told (suc k) other status there (ap (λ m. told reports (act_id order m)) number ∙ listed)

  -- ---- over

  was_over : (there : Option Status) (act : Act) → ((status : Status) → there ≡ Some status → IsTrue (may_follow status act.status)) → is_final (unwrap_or there act.status) ≡ true → is_final act.status ≡ true
  was_over None act follows over = over
  was_over (Some status) act follows over = ap is_final (final_stays status act.status over (follows status refl)) ∙ over

  pub were_over : (n : ℕ) (acts : List Act) → AreAsTold reports order n acts → list_all is_over (renewed acts (map (status_after reports order) (enumerate_from n acts))) ≡ true → list_all is_over acts ≡ true
  were_over n [] as_told over = refl
  were_over n (act ∷ acts) as_told over =
      let parts = and_parts _ _ over in
      and_from (is_final act.status) (list_all is_over acts) (was_over (told reports (act_id order n)) act (first_told n act acts as_told) parts.0) (were_over (n + 1) acts (later_told n act acts as_told) parts.1)

  -- ---- finished

  not_anew : (now before : Bool) → (now ≡ true → before ≡ true) → (now && not before) ≡ false
  not_anew true true kept = refl
  not_anew true false kept = sym (kept refl)
  not_anew false before kept = refl

  was_finished : (there : Option Status) (act : Act) → ((status : Status) → there ≡ Some status → IsTrue (may_follow status act.status)) → is_finished (unwrap_or there act.status) ≡ true → is_finished act.status ≡ true
  was_finished None act follows finished = finished
  was_finished (Some status) act follows finished = ap is_finished (final_stays status act.status (finished_final status finished) (follows status refl)) ∙ finished

  pub none_anew : (key : VehicleKey) (by : List ℕ) (n : ℕ) (acts : List Act) → AreAsTold reports order n acts → act_moves key by (zip acts (map (status_after reports order) (enumerate_from n acts))) ≡ []
  none_anew key by n [] as_told = refl
  none_anew key by n (act ∷ acts) as_told =
      let status = unwrap_or (told reports (act_id order n)) act.status in
      let move : Move = record { load = act.load; place = taken_to key act.kind act.station; cause = Acted act.kind by act.job } in
      let same = not_anew (is_finished status) (is_finished act.status) (was_finished (told reports (act_id order n)) act (first_told n act acts as_told)) in
      ap (λ test. cons_option (cond test (Some move) None) (act_moves key by (zip acts (map (status_after reports order) (enumerate_from (n + 1) acts))))) same
      ∙ none_anew key by (n + 1) acts (later_told n act acts as_told)
