-- The acts of a trip and their rows tell each other.
use Rattle.std.proofs.Common.{◌≡◌, ℕ, ◌+◌, nat_eq, Bool, true, false, cond, List, [], ◌∷◌, Option, None, Some, refl, ap, ap₂, subst, ◌∙◌}
use Rattle.std.proofs.lemmas.Bool.{eq-eqb, eqb-true}
use Rattle.std.specs.FinMap as finite
use Rattle.std.specs.List.{AllByRecursion}
use Rattle.std.specs.Option.{option_and_then, option_map}
use Rattle.agv_header.specs.Name.{name_cmp}
use Rattle.agv_order.specs.declared.act.Act.{Act}
use Rattle.agv_world_core.specs.declared.row.JobRow.{JobRow}
use Rattle.agv_world_core.proofs.lists.Entries.{same_Some}
use Rattle.agv_world_core.proofs.lists.SameNames.{same_name}
use Rattle.agv_store_rows.specs.TripRows.{act_key, act_row, act_rows_from, is_of}
use Rattle.agv_store_rows.specs.TripsTold.{IsOfJob, act_told, acts_told}
use Rattle.agv_store_rows.specs.declared.act_key.ActKey.{ActKey}
use Rattle.agv_store_rows.specs.declared.act_row.ActRow.{ActRow}

abbrev pub Row : Type 0
Row = ActKey × ActRow

own_number : (n : ℕ) → nat_eq n n ≡ true
own_number n = eq-eqb n n refl

same_number : (a b : ℕ) → nat_eq a b ≡ true → a ≡ b
same_number a b h = eqb-true a b h

module _ (jobs : finite.FinMap name_cmp JobRow) where
  -- the rows with this act first
  abbrev with_job : Row → Option (List Act) → JobRow → Option (List Act)
  with_job row later job = option_map (λ (acts : List Act). act_told row.1 job ∷ acts) later

  row_tells_act : (act : Act) (is : IsOfJob jobs act) → act_told (act_row act) is.job ≡ act
  row_tells_act act is = λ i. record { kind = act.kind; job = act.job; load = is.load i; station = is.station i; place_at = act.place_at; status = act.status }

  -- the rows of acts tell the acts
  pub rows_tell_acts : (order : List ℕ) (n : ℕ) (acts : List Act) → AllByRecursion (IsOfJob jobs) acts → acts_told jobs n (act_rows_from order n acts) ≡ Some acts
  rows_tell_acts order n [] are = refl
  rows_tell_acts order n (act ∷ acts) are =
      let row : Row = (act_key order n, act_row act) in
      let later = acts_told jobs (n + 1) (act_rows_from order (n + 1) acts) in
      ap (λ b. cond b (option_and_then (with_job row later) (finite.get jobs act.job)) None) (own_number n)
      ∙ ap (option_and_then (with_job row later)) are.0.known
      ∙ ap (λ (o : Option (List Act)). with_job row o are.0.job) (rows_tell_acts order (n + 1) acts are.1)
      ∙ ap (λ (a : Act). Some (a ∷ acts)) (row_tells_act act are.0)

  -- what acts tell of the rows that told them
  abbrev pub AreRows : List ℕ → ℕ → List Row → List Act → Type 0
  AreRows order n rows acts = (rows ≡ act_rows_from order n acts) × AllByRecursion (IsOfJob jobs) acts

  first_row : (order : List ℕ) (n : ℕ) (row : Row) (job : JobRow) → is_of order row ≡ true → nat_eq row.0.n n ≡ true → row ≡ (act_key order n, act_row (act_told row.1 job))
  first_row order n row job of numbered =
      let name = same_name row.0.order order of in
      let number = same_number row.0.n n numbered in
      λ i. (record { order = name i; n = number i }, row.1)

  -- rows of one order that tell acts are those of the acts
  pub acts_give_rows : (order : List ℕ) (n : ℕ) (rows : List Row) (acts : List Act) → AllByRecursion (λ row. is_of order row ≡ true) rows → acts_told jobs n rows ≡ Some acts → AreRows order n rows acts
  acts_give_rows order n [] acts of told = subst (AreRows order n []) (same_Some _ _ told) (refl, tt)
  acts_give_rows order n (row ∷ rows) acts of told =
      numbered (λ rest more. acts_give_rows order (n + 1) rows rest of.1 more) (nat_eq row.0.n n) refl told
    where
      with_rest : ((rest : List Act) → acts_told jobs (n + 1) rows ≡ Some rest → AreRows order (n + 1) rows rest)
          → nat_eq row.0.n n ≡ true → (job : JobRow) → finite.get jobs row.1.job ≡ Some job
          → (o : Option (List Act)) → acts_told jobs (n + 1) rows ≡ o → with_job row o job ≡ Some acts → AreRows order n (row ∷ rows) acts
      with_rest later is job at None more told = absurd (cc told)
      with_rest later is job at (Some rest) more told =
          let again = later rest more in
          let both : AreRows order n (row ∷ rows) (act_told row.1 job ∷ rest) = (
            ap₂ (λ (r : Row) l. r ∷ l) (first_row order n row job of.0 is) again.0,
            (record { job = job; known = at; load = refl; station = refl }, again.1),
          ) in
          subst (AreRows order n (row ∷ rows)) (same_Some _ _ told) both

      known : ((rest : List Act) → acts_told jobs (n + 1) rows ≡ Some rest → AreRows order (n + 1) rows rest)
          → nat_eq row.0.n n ≡ true → (o : Option JobRow) → finite.get jobs row.1.job ≡ o
          → option_and_then (with_job row (acts_told jobs (n + 1) rows)) o ≡ Some acts → AreRows order n (row ∷ rows) acts
      known later is None at told = absurd (cc told)
      known later is (Some job) at told = with_rest later is job at (acts_told jobs (n + 1) rows) refl told

      numbered : ((rest : List Act) → acts_told jobs (n + 1) rows ≡ Some rest → AreRows order (n + 1) rows rest)
          → (b : Bool) → nat_eq row.0.n n ≡ b → cond b (option_and_then (with_job row (acts_told jobs (n + 1) rows)) (finite.get jobs row.1.job)) None ≡ Some acts
          → AreRows order n (row ∷ rows) acts
      numbered later false is told = absurd (cc told)
      numbered later true is told = known later is (finite.get jobs row.1.job) refl told
