-- A line and its trip.
use Rattle.std.proofs.Common.{◌≡◌, ℕ, Bool, true, false, not, cond, nat_eq, Decides, List, [], ◌∷◌, Option, None, Some, refl, ap, ap₂, subst, ◌∙◌}
use Rattle.std.proofs.lemmas.Bool.{and_parts}
use Rattle.std.proofs.lemmas.Slice.Eq.{slice_eq-Decides}
use Rattle.std.specs.Cmp.{unsigned_Decides}
use Rattle.std.specs.Cmp.Lexicographic.{pointwise}
use Rattle.agv_message_core.specs.declared.order.ActKind.{ActKind}
use Rattle.agv_message_core.specs.declared.order.ActKind.TheVariants.{Pick, Drop}
use Rattle.agv_order.specs.Stops.{is_drop}
use Rattle.agv_order.specs.declared.act.Act.{Act}
use Rattle.agv_stock.specs.declared.job.Phase.TheVariants.{Riding}
use Rattle.agv_world_core.specs.declared.row.JobRow.{JobRow}
use Rattle.agv_world_core.specs.declared.row.TripRow.{TripRow}
use Rattle.agv_store_migrate.specs.TripLines.{TellsTrip, acts_of, are_of_one_job, line_of, line_of_acts, line_with, trip_told}
use Rattle.agv_store_migrate.specs.declared.trip_line.TripLine.{TripLine}

pub same_name : (a b : List ℕ) → Decides (pointwise nat_eq a b) (a ≡ b)
same_name a b = slice_eq-Decides unsigned_Decides a b (pointwise nat_eq a b) refl

pub own_name : (a : List ℕ) → pointwise nat_eq a a ≡ true
own_name a = (same_name a a).1 refl

pub line_kept : (line : TripLine) (job : JobRow) → line_of line.order (trip_told line job) ≡ Some line
line_kept line job = rw (own_name line.job, own_name job.load)

some_same : {A : Type 0} {x y : A} → ◌≡◌ {A = Option A} (Some x) (Some y) → x ≡ y
some_same e = cc e

pub pick_kind : (kind : ActKind) → not (is_drop kind) ≡ true → Pick ≡ kind
pick_kind Pick h = refl
pick_kind Drop h = absurd (cc h)

pub drop_kind : (kind : ActKind) → is_drop kind ≡ true → Drop ≡ kind
drop_kind Pick h = absurd (cc h)
drop_kind Drop h = refl

-- a row of the job of two acts
abbrev job_of : Act → Act → JobRow
job_of pick drop = record { load = pick.load; origin = pick.station; target = drop.station; phase = Riding }

acts_told : (order : List ℕ) (trip : TripRow) (pick drop : Act) → are_of_one_job pick drop ≡ true → acts_of (line_with order trip pick drop) (job_of pick drop) ≡ pick ∷ drop ∷ []
acts_told order trip pick drop h =
    let load = and_parts _ _ h in
    let job = and_parts _ _ load.0 in
    let kinds = and_parts _ _ job.0 in
    let first : record pick { kind = Pick } ≡ pick = ap (λ kind. record pick { kind = kind }) (pick_kind pick.kind kinds.0) in
    let kind : record drop { kind = Drop; job = pick.job; load = pick.load } ≡ record drop { job = pick.job; load = pick.load } =
    ap (λ kind. record drop { kind = kind; job = pick.job; load = pick.load }) (drop_kind drop.kind kinds.1) in
    let names : record drop { job = pick.job; load = pick.load } ≡ drop =
    ap₂ (λ job load. record drop { job = job; load = load }) ((same_name pick.job drop.job).0 job.1) ((same_name pick.load drop.load).0 load.1) in
    ap₂ (λ a b. a ∷ b ∷ []) first (kind ∙ names)

pub trip_told_back : (order : List ℕ) (trip : TripRow) (line : TripLine) → line_of order trip ≡ Some line → TellsTrip order trip line
trip_told_back order trip line e = of_acts trip.acts refl e
  where
    tested : (pick drop : Act) (b : Bool) → pick ∷ drop ∷ [] ≡ trip.acts → are_of_one_job pick drop ≡ b → cond b (Some (line_with order trip pick drop)) None ≡ Some line → TellsTrip order trip line
    tested pick drop true same h e = subst (TellsTrip order trip) (some_same e) (record {
      order = refl;
      job = job_of pick drop;
      trip = ap (λ acts. record trip { acts = acts }) (acts_told order trip pick drop h ∙ same);
    })
    tested pick drop false same h e = absurd (cc e)

    of_acts : (acts : List Act) → acts ≡ trip.acts → line_of_acts order trip acts ≡ Some line → TellsTrip order trip line
    of_acts [] same e = absurd (cc e)
    of_acts (pick ∷ []) same e = absurd (cc e)
    of_acts (pick ∷ (drop ∷ [])) same e = tested pick drop (are_of_one_job pick drop) same refl e
    of_acts (pick ∷ (drop ∷ (third ∷ more))) same e = absurd (cc e)
