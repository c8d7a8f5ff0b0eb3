use Rattle.std.proofs.Common.{◌≡◌, ◌∙◌, ℕ, Option, Some, nat_lt, sym, ap}
use Rattle.std.specs.Option.{option_copied}
use Rattle.agv_layout.specs.Ways.{is_less}
use Rattle.agv_layout.proofs.route.is_nearer.Goals as goal

both : (here there : Option ℕ) (h t : ℕ) → here ≡ Some h → there ≡ Some t → nat_lt t h ≡ is_less here there
both here there h t p q = sym (ap (λ o. is_less o there) p ∙ ap (is_less (Some h)) q)

pub returns-in-Some-Some : goal.returns-in-Some-Some
returns-in-Some-Some c =
    both _ _ c.in-Some-Some.here.now c.in-Some-Some.there.now
    (sym c.get.ensures.value ∙ ap option_copied c.in-Some-Some.is-0)
    (sym c.get-2.ensures.value ∙ ap option_copied c.in-Some-Some.is-1)
