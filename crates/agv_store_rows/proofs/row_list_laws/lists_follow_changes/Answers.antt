use Rattle.agv_store_rows.proofs.ListsFollow.{follows, follows_all, listed_in_turn}
use Rattle.agv_store_rows.proofs.TripRowLaws.{FollowTrips}
use Rattle.agv_store_rows.proofs.row_list_laws.lists_follow_changes.Goals as goal

pub returns : goal.returns
returns c =
    let laws : FollowTrips = record {
      journeys_listed = c.rows_have_keys.ensures.journeys_listed;
      acts_listed = c.rows_have_keys.ensures.acts_listed;
      journeys_removed = c.rows_follow_changes.ensures.journeys_removed;
      acts_removed = c.rows_follow_changes.ensures.acts_removed;
      journeys_written = c.rows_follow_changes.ensures.journeys_written;
      acts_written = c.rows_follow_changes.ensures.acts_written;
    } in
    record { one = λ one lists rows. follows laws lists rows one; all = follows_all laws; in_turn = listed_in_turn }
