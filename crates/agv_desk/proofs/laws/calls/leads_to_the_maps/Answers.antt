use Rattle.agv_desk.proofs.row_changes.AllSteps.{leads_all}
use Rattle.agv_desk.proofs.row_changes.Given.{Given}
use Rattle.agv_desk.proofs.laws.calls.leads_to_the_maps.Goals as goal

-- src/laws/calls.rt:20:1
pub returns : goal.returns
returns c = λ seats world at call in_order. leads_all given world in_order seats at call
  where
    given : Given
    given = record {
      by_claim = c.keeps_apart_by_claim.ensures;
      by_less = c.keeps_apart_by_less.ensures;
      without = c.keeps_one_trip_without.ensures;
      further = c.keeps_one_trip_further.ensures;
      new_trip = c.keeps_one_trip_new.ensures;
      follows = c.follows_a_vehicle.ensures;
      notes = c.notes_a_vehicle.ensures;
      uses = c.uses_a_name.ensures;
      sets = c.sets_the_layout.ensures;
      gives = c.gives_itself.ensures;
      lists = c.lists_what_is_held.ensures;
      advances = c.advances.ensures;
    }
