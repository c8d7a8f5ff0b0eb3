use Rattle.agv_desk.proofs.row_changes.Given.{Given}
use Rattle.agv_desk.proofs.lawful_worlds.LawfulVehicles.{lawful_after}
use Rattle.agv_desk.proofs.lawful_worlds.LawfulVehiclesGiven.{GivenMore}
use Rattle.agv_desk.proofs.laws.vehicles.keeps_vehicles_lawful.Goals as goal

-- src/laws/vehicles.rt:22:1
pub returns : goal.returns
returns c = λ seats world at call is_seats moment typed lawful. lawful_after given more seats world lawful at call is_seats moment typed
  where
    given : Given
    given = record {
      by_claim = c.keeps_apart_by_claim.ensures;
      by_less = c.keeps_apart_by_less.ensures;
      without = c.keeps_one_trip_without.ensures;
      further = c.keeps_one_trip_further.ensures;
      new_trip = c.keeps_one_trip_new.ensures;
      follows = c.follows_a_vehicle.ensures;
      notes = c.notes_a_vehicle.ensures;
      uses = c.uses_a_name.ensures;
      sets = c.sets_the_layout.ensures;
      gives = c.gives_itself.ensures;
      lists = c.lists_what_is_held.ensures;
      advances = c.advances.ensures;
    }

    more : GivenMore
    more = record {
      plans = c.plans_are_well_formed.ensures;
      goes = c.plans_go_by_routes.ensures.goes;
      twice = c.stops_twice.ensures;
      paired = c.fitting_stops_are_paired.ensures;
      drives = c.drives_are_well_formed.ensures;
      drives_go = c.drives_go_by_the_route.ensures.goes;
      releases = c.releases_keep_trips_well_formed.ensures;
      stays = c.stays_well_formed.ensures;
      rules = c.rules_law.ensures;
      apart = c.keeps_apart_as_before.ensures;
      one_trip = c.keeps_one_trip_as_before.ensures;
    }
