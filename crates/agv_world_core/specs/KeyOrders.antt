-- The orders of the keys of legs and of used names are total, and only equal keys compare as equal.
use Rattle.std.proofs.Common.{arith, ◌≡◌, Bool, Some, refl}
use Rattle.std.specs.Ordering.{nat_cmp, eq_by_cmp}
use Rattle.std.specs.Cmp.{IsTotalOrder, IsEquivalence, IsPartialOrder, nat_cmp_total, eq_by_cmp_equiv, on_total, then_total, partial_order_from_agreeing_total}
use Rattle.std.specs.Cmp.Lexicographic.{slice_cmp, nat_list_cmp_total}
use Rattle.std.specs.FinMap.{IsAntisymmetric, nat_cmp-IsAntisymmetric, slice_cmp-IsAntisymmetric}
use Rattle.agv_header.specs.KeyOrder.{both_equal}
use Rattle.agv_world_core.specs.Keys.{leg_cmp, use_rank, use_cmp}
use Rattle.agv_world_core.specs.declared.key.LegKey.{LegKey}
use Rattle.agv_world_core.specs.declared.key.UseKey.{UseKey}
use Rattle.agv_world_core.specs.declared.key.UseKind.{UseKind}
use Rattle.agv_world_core.specs.declared.key.UseKind.TheVariants.{Order, Reference}

-- ---- legs
pub leg_cmp-total : IsTotalOrder leg_cmp
leg_cmp-total = then_total (on_total (λ (key : LegKey). key.order) nat_list_cmp_total) (on_total (λ (key : LegKey). key.k) nat_cmp_total)

pub leg_cmp-IsAntisymmetric : IsAntisymmetric leg_cmp
leg_cmp-IsAntisymmetric a b tied =
    let both = both_equal (slice_cmp nat_cmp a.order b.order) (nat_cmp a.k b.k) tied in
    let order : a.order ≡ b.order = slice_cmp-IsAntisymmetric nat_cmp-IsAntisymmetric _ _ both.0 in
    let k : a.k ≡ b.k = nat_cmp-IsAntisymmetric _ _ both.1 in
    λ i. record { order = order i; k = k i }

abbrev pub leg_eq : LegKey → LegKey → Bool
leg_eq = eq_by_cmp leg_cmp

pub leg_eq-equivalence : IsEquivalence leg_eq
leg_eq-equivalence = eq_by_cmp_equiv leg_cmp-total

pub leg_cmp-partial : IsPartialOrder leg_eq (λ a b. Some (leg_cmp a b))
leg_cmp-partial = partial_order_from_agreeing_total leg_cmp leg_cmp-total (λ a b. refl) (λ a b. refl)

-- ---- used names
pub use_cmp-total : IsTotalOrder use_cmp
use_cmp-total = then_total (on_total (λ (key : UseKey). use_rank key.kind) nat_cmp_total) (on_total (λ (key : UseKey). key.name) nat_list_cmp_total)

same_rank : (a b : UseKind) → use_rank a ≡ use_rank b → a ≡ b
same_rank Order Order e = refl
same_rank Order Reference e = absurd (omega arith)
same_rank Reference Order e = absurd (omega arith)
same_rank Reference Reference e = refl

pub use_cmp-IsAntisymmetric : IsAntisymmetric use_cmp
use_cmp-IsAntisymmetric a b tied =
    let both = both_equal (nat_cmp (use_rank a.kind) (use_rank b.kind)) (slice_cmp nat_cmp a.name b.name) tied in
    let kind : a.kind ≡ b.kind = same_rank _ _ (nat_cmp-IsAntisymmetric _ _ both.0) in
    let name : a.name ≡ b.name = slice_cmp-IsAntisymmetric nat_cmp-IsAntisymmetric _ _ both.1 in
    λ i. record { kind = kind i; name = name i }

abbrev pub use_eq : UseKey → UseKey → Bool
use_eq = eq_by_cmp use_cmp

pub use_eq-equivalence : IsEquivalence use_eq
use_eq-equivalence = eq_by_cmp_equiv use_cmp-total

pub use_cmp-partial : IsPartialOrder use_eq (λ a b. Some (use_cmp a b))
use_cmp-partial = partial_order_from_agreeing_total use_cmp use_cmp-total (λ a b. refl) (λ a b. refl)
