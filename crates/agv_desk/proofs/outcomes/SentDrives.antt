-- A drive that is not refused is sent: its vehicle has the planned trip afterwards.
use Rattle.std.proofs.Common.{◌≡◌, ◌⊎◌, ◌||◌, ◌<◌, inl, inr, ℕ, true, false, cond, is_eq, List, length, Option, None, Some, Ok, Ordering, refl, sym, ap, subst, true≢false, ◌∙◌}
use Rattle.std.specs.Cmp.{tied_itself}
use Rattle.std.specs.Cmp.Lexicographic.{nat_list_cmp_total}
use Rattle.std.specs.FinMap as finite
use Rattle.std.specs.FinSet as set
use Rattle.agv_header.specs.Count.{next_number}
use Rattle.agv_header.specs.Key.{key_cmp}
use Rattle.agv_header.specs.KeyOrder.{key_cmp-total}
use Rattle.agv_header.specs.Name.{name_cmp}
use Rattle.agv_header.specs.declared.key.VehicleKey.{VehicleKey}
use Rattle.agv_layout.specs.Layout.{Layout, KeepsRules}
use Rattle.agv_layout.specs.LayoutOf.{layout_of, rows_in}
use Rattle.agv_order.specs.Drives.{drive_planned, IsDriveTo}
use Rattle.agv_order.specs.declared.trip.Trip.{Trip}
use Rattle.agv_world_core.specs.Questions.{given as set_where, row_of, trip_of, layout_set}
use Rattle.agv_world_core.specs.Worlds.{Vehicle, World, empty_layout}
use Rattle.agv_world_core.specs.declared.row.VehicleRow.{VehicleRow}
use Rattle.agv_desk.specs.Causes.{is_refusal}
use Rattle.agv_desk.specs.DriveSteps.{AskedDrive, drive_sent, start_drive}
use Rattle.agv_desk.specs.Driven.{IsDriven}
use Rattle.agv_desk.specs.OrderSteps.{sent_on}
use Rattle.agv_desk.specs.Outcomes.{Effect, Made, Outcome, Refused, after, answer_of, with_effect}
use Rattle.agv_desk.specs.declared.answer.Answer.TheVariants as answer
use Rattle.agv_desk.proofs.outcomes.Known.{known, same_some, vehicle_with}
use Rattle.agv_desk.proofs.outcomes.Ladders.{IfMade, made_refuse_if_none, made_refuse_unless, made_unheld}
use Rattle.agv_desk.proofs.row_changes.OrderRows.{made_planned}
use Rattle.agv_desk.proofs.row_changes.Steps.{missing}

-- what the laws of the crates below say of drives and of layouts
abbrev pub DrivesGoByTheRoute : Type 0
DrivesGoByTheRoute = (layout : Layout) (vehicle : VehicleKey) (order at to : List ℕ) (base : ℕ) (trip : Trip)
    → drive_planned layout vehicle order at to base ≡ Ok trip → IsDriveTo layout vehicle order at to base trip × (0 < length trip.edges)

abbrev pub GivesItself : Type 0
GivesItself = (layout : Layout) → KeepsRules layout → layout_of (rows_in layout) ≡ Ok layout

-- what is told of a vehicle that was written
written : (vehicles : finite.FinMap key_cmp Vehicle) (key : VehicleKey) (new : Vehicle) → finite.get (finite.insert vehicles key new) key ≡ Some new
written vehicles key new =
    finite.get-insert key_cmp-total vehicles key new key ∙ ap (λ (o : Ordering). cond (is_eq o) (Some new) (finite.get vehicles key)) (tied_itself key_cmp-total key)

-- a name that was added is among the names
among : (names : set.FinSet name_cmp) (name : List ℕ) → set.contains (set.insert names name) name ≡ true
among names name =
    set.contains-insert nat_list_cmp_total names name name ∙ ap (λ (o : Ordering). is_eq o || set.contains names name) (tied_itself nat_list_cmp_total name)

module _ (goes : DrivesGoByTheRoute) (gives : GivesItself) (world : World) (laid : (world.layout ≡ empty_layout) ⊎ KeepsRules world.layout) (asked : AskedDrive) where
  abbrev Sent : World → Type 0
  Sent new = IsDriven asked.at asked.order asked.key asked.to asked.edges world new

  abbrev P : Effect → Type 0
  P effect = (effect.answer ≡ answer.Update 0) × Sent (with_effect world effect)

  -- a layout with a node keeps the rules
  keeps_rules : set.contains world.layout.nodes asked.to ≡ true → KeepsRules world.layout
  keeps_rules node = elim laid [
    | inl empty ↦ absurd (true≢false (sym node ∙ ap (λ (layout : Layout). set.contains layout.nodes asked.to) empty ∙ set.contains-empty name_cmp asked.to))
    | inr keeps ↦ keeps
  ]

  -- the layout of the plan is that of the world
  layout_is : (layout : Layout) → KeepsRules world.layout → layout_set world ≡ Some layout → layout ≡ world.layout
  unfolding layout_set
  layout_is layout keeps is = same_some (sym is ∙ ap set_where (gives world.layout keeps))

  sent : (row : VehicleRow) (layout : Layout) (trip : Trip) (number : ℕ)
      → row_of world asked.key ≡ Some row → set.contains world.layout.nodes asked.to ≡ true → trip_of world asked.key ≡ None → layout_set world ≡ Some layout
      → drive_planned layout asked.key asked.order row.node asked.to asked.edges ≡ Ok trip → next_number row.orders.count ≡ Some number
      → P (drive_sent asked row (Some trip) number)
  sent row layout trip number there node idle is_set is_plan next =
      let same = layout_is layout (keeps_rules node) is_set in
      let plan = subst (λ (layout : Layout). drive_planned layout asked.key asked.order row.node asked.to asked.edges ≡ Ok trip) same is_plan in
      let drives = goes world.layout asked.key asked.order row.node asked.to asked.edges trip plan in (
        refl,
        record {
          row = row;
          number = number;
          trip = trip;
          idle = known world asked.key row there ∙ ap (λ (trip : Option Trip). Some (vehicle_with row trip)) idle;
          drives = drives.0;
          goes = drives.1;
          next = next;
          sent = written world.vehicles asked.key (sent_on row asked.at number (Some trip));
          used = among world.orders asked.order;
        },
      )

  made : IfMade P (start_drive world asked)
  made =
      made_refuse_unless P _ _ _ (λ unused. made_refuse_if_none P _ _ _ (λ row there. made_refuse_unless P _ _ _ (λ node.
      made_refuse_unless P _ _ _ (λ new. made_refuse_unless P _ _ _ (λ idle. made_refuse_unless P _ _ _ (λ no_rest.
      made_refuse_unless P _ _ _ (λ ready. made_refuse_unless P _ _ _ (λ going. made_refuse_if_none P _ _ _ (λ layout is_set.
      made_planned P _ _ (λ trip is_plan. made_unheld P _ _ (λ opened. made_refuse_if_none P _ _ _ (λ number next. made_refuse_unless P _ _ _ (λ few.
      sent row layout trip number there node (missing _ idle) is_set is_plan next)))))))))))))

  after_made : (outcome : Outcome) → IfMade P outcome → is_refusal (answer_of outcome) ≡ false → (answer_of outcome ≡ answer.Update 0) × Sent (after world outcome)
  unfolding after answer_of
  after_made (Refused why) holds accepted = absurd (true≢false accepted)
  after_made (Made effect) holds accepted = holds

  pub sends_drive : is_refusal (answer_of (start_drive world asked)) ≡ false → (answer_of (start_drive world asked) ≡ answer.Update 0) × Sent (after world (start_drive world asked))
  sends_drive = after_made (start_drive world asked) made
