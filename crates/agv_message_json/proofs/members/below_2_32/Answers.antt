use Rattle.std.proofs.Common.{◌≡◌, ℕ, ◌<◌, Result, rules}
use Rattle.std.specs.Result.{OkIff, result_ok}
use Rattle.agv_message_json.specs.Members.{below_2_32}
use Rattle.agv_message_json.proofs.members.below_2_32.Goals as goal

below : {E : Type 0} (r : Result ℕ E) (n : ℕ) → OkIff r (n < 4294967296) n → result_ok r ≡ below_2_32 n
below r n e = search rules

pub returns : goal.returns
returns c = rw c.ok.ensures.value (below _ _ c.try_from.ensures)
