-- The checks of the calls for loads and jobs: they are done in order, and the first that fails is the answer (this project's profile).
use Rattle.std.specs.Prelude.{◌==◌, Bool, true, false, not, is_some, if◌then◌else◌, Option, None, Some, Result, Ok, Err}
use Rattle.agv_header.specs.declared.refusal.Refusal.{Refusal}
use Rattle.agv_header.specs.declared.refusal.Refusal.TheVariants as refusal
use Rattle.agv_stock.specs.Rooms.{is_at, is_checking, has_left}
use Rattle.agv_stock.specs.declared.goal.Goal.{Goal}
use Rattle.agv_stock.specs.declared.goal.Goal.TheVariants.{Checking, Unknown, At}
use Rattle.agv_stock.specs.declared.place.Place.{Place}
use Rattle.agv_stock.specs.declared.place.Place.TheVariants as place

-- the result of a check
abbrev pub Checked : Type 0
Checked = Result (Unit {0}) Refusal

-- continues with the rest if the test holds, otherwise refuses
abbrev pub check_that : Bool → Refusal → Checked → Checked
check_that test why rest = if test then rest else Err why

-- all checks have passed
abbrev pub passed : Checked
passed = Ok tt

-- the goal is the checking place or a station of the layout
abbrev pub is_known : Goal → Bool
is_known Checking = true
is_known Unknown = false
is_known (At station room) = true

-- one more load fits at the goal; the checking place takes any number
abbrev pub has_room : Goal → Bool
has_room Checking = true
has_room Unknown = true
has_room (At station room) = not (room == 0)

-- the place is the goal
abbrev pub is_there : Goal → Place → Bool
is_there Checking place = is_checking place
is_there Unknown place = false
is_there (At station room) place = is_at station place

-- the load stands at a station
abbrev pub is_stored : Place → Bool
is_stored (place.Station id) = true
is_stored (place.Vehicle key) = false
is_stored place.Checking = false
is_stored place.Left = false

-- continues with the place of a load, or refuses with NoLoad if it has none
abbrev pub check_load : Option Place → (Place → Checked) → Checked
check_load None rest = Err refusal.NoLoad
check_load (Some place) rest = rest place

-- the checks of registering a load: Exists, NoStation, Full
abbrev pub register_check : Option Place → Goal → Checked
register_check place goal =
    check_that (not (is_some place)) refusal.Exists
    (check_that (is_known goal) refusal.NoStation
    (check_that (has_room goal) refusal.Full
    passed))

-- the checks of correcting a load's place: NoLoad, NoStation, Elsewhere if it has left, InJob, SameStation if it is there, Full
abbrev pub correct_check : Option Place → Bool → Goal → Checked
correct_check known live goal = check_load known (λ place.
    check_that (is_known goal) refusal.NoStation
    (check_that (not (has_left place)) refusal.Elsewhere
    (check_that (not live) refusal.InJob
    (check_that (not (is_there goal place)) refusal.SameStation
    (check_that (has_room goal) refusal.Full
    passed)))))

-- the checks of a load's leaving: NoLoad, Elsewhere if it has left, InJob
abbrev pub leave_check : Option Place → Bool → Checked
leave_check known live = check_load known (λ place.
    check_that (not (has_left place)) refusal.Elsewhere
    (check_that (not live) refusal.InJob
    passed))

-- the checks of a job for a load: Exists, NoLoad, NoStation, Elsewhere if the load is at no station, InJob, SameStation, Full
abbrev pub job_check : Bool → Option Place → Bool → Goal → Checked
job_check job_known known live goal =
    check_that (not job_known) refusal.Exists (check_load known (λ place.
    check_that (is_known goal) refusal.NoStation
    (check_that (is_stored place) refusal.Elsewhere
    (check_that (not live) refusal.InJob
    (check_that (not (is_there goal place)) refusal.SameStation
    (check_that (has_room goal) refusal.Full
    passed))))))
