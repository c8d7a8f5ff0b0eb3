-- The order of things is total, and only equal things tie.
use Rattle.std.proofs.Common.{Bool, Some, refl, ap}
use Rattle.std.specs.Ordering.{eq_by_cmp}
use Rattle.std.specs.Cmp.{IsTotalOrder, IsEquivalence, IsPartialOrder, nat_cmp_total, eq_by_cmp_equiv, on_total, then_total, partial_order_from_agreeing_total}
use Rattle.std.specs.Cmp.Lexicographic.{nat_list_cmp_total}
use Rattle.std.specs.FinMap.{IsAntisymmetric, nat_cmp-IsAntisymmetric, slice_cmp-IsAntisymmetric}
use Rattle.agv_header.specs.Key.{kind_rank, thing_name, thing_cmp}
use Rattle.agv_header.specs.declared.key.Thing.{Thing}
use Rattle.agv_header.specs.declared.key.Thing.TheVariants.{Node, Edge}

-- the order is total
pub thing_cmp-total : IsTotalOrder thing_cmp
thing_cmp-total = then_total (on_total kind_rank nat_cmp_total) (on_total thing_name nat_list_cmp_total)

-- things that tie are equal
pub thing_cmp-IsAntisymmetric : IsAntisymmetric thing_cmp
thing_cmp-IsAntisymmetric (Node a) (Node b) tied = ap Node (slice_cmp-IsAntisymmetric nat_cmp-IsAntisymmetric a b tied)
thing_cmp-IsAntisymmetric (Node a) (Edge b) tied = cc
thing_cmp-IsAntisymmetric (Edge a) (Node b) tied = cc
thing_cmp-IsAntisymmetric (Edge a) (Edge b) tied = ap Edge (slice_cmp-IsAntisymmetric nat_cmp-IsAntisymmetric a b tied)

-- how `==` compares things: they are equal if they tie
abbrev pub thing_eq : Thing → Thing → Bool
thing_eq = eq_by_cmp thing_cmp

-- `==` is an equivalence, as `Eq` asks
pub thing_eq-equivalence : IsEquivalence thing_eq
thing_eq-equivalence = eq_by_cmp_equiv thing_cmp-total

-- `==` and the order are a partial order, as `PartialOrd` asks
pub thing_cmp-partial : IsPartialOrder thing_eq (λ a b. Some (thing_cmp a b))
thing_cmp-partial = partial_order_from_agreeing_total thing_cmp thing_cmp-total (λ a b. refl) (λ a b. refl)
