-- Questions that are asked one after the other.
use Rattle.std.proofs.Common.{◌∙◌, subst}
use Rattle.agv_world_core.specs.Asks.{Answers, Facts}
use Rattle.agv_world_core.specs.Worlds.{World}

module _ {S : Type 0} {f : Facts S} where
  -- what two answers say together
  pub asked_both : {a b c : S} {one two says : Type 0} → Answers f a b one → Answers f b c two → (f.is_clean b → one → two → says) → Answers f a c says
  asked_both first second more = record {
    told = λ clean. more (second.was_clean clean) (first.told (second.was_clean clean)) (second.told clean);
    was_clean = λ clean. first.was_clean (second.was_clean clean);
    world = λ clean. second.world clean ∙ first.world (second.was_clean clean);
    kept = λ start kept. second.kept start (first.kept start kept);
    spent = λ start kept. second.spent start (first.kept start kept);
  }

  -- what is answered between two other questions is so of the world before them
  pub asked_between : {a b c d : S} {one two : Type 0} (says : World → Type 0) → Answers f a b one → Answers f b c (says (f.world b)) → Answers f c d two → Answers f a d (says (f.world a))
  asked_between says first asked last = asked_both (asked_both first asked (λ clean _ told. subst says (first.world clean) told)) last (λ _ told _. told)
