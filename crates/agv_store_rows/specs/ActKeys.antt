-- The order of the keys of acts, which is total and antisymmetric, and how a model stores such a key.
use Rattle.std.proofs.Common.{ℕ, Bool, List, Some, refl, ap}
use Rattle.std.specs.Cmp.{IsTotalOrder, IsEquivalence, IsPartialOrder, eq_by_cmp_equiv, on_total, partial_order_from_agreeing_total}
use Rattle.std.specs.Coded.{Coded, code_by, coded×, coded_ℕ}
use Rattle.std.specs.FinMap.{IsAntisymmetric}
use Rattle.std.specs.Ordering.{eq_by_cmp, nat_cmp, ordering_then}
use Rattle.std.specs.declared.cmp.Ordering.{Ordering}
use Rattle.agv_header.specs.Name.{name_cmp}
use Rattle.agv_world_core.specs.Codes.{name_code}
use Rattle.agv_world_core.specs.KeyOrders.{leg_cmp-IsAntisymmetric, leg_cmp-total}
use Rattle.agv_world_core.specs.declared.key.LegKey.{LegKey}
use Rattle.agv_store_rows.specs.declared.act_key.ActKey.{ActKey}

-- the order of keys: by order id, then by the number of the act
abbrev pub act_cmp : ActKey → ActKey → Ordering
act_cmp a b = ordering_then (name_cmp a.order b.order) (nat_cmp a.n b.n)

-- the encoding of a key as its order id and its number
abbrev pub act_code : Coded ActKey
act_code = code_by (List ℕ × ℕ) (coded× name_code coded_ℕ) (λ key. (key.order, key.n)) (λ p. record { order = p.0; n = p.1 }) (λ _. refl)

-- ---- the laws follow from those of the keys of legs

abbrev as_leg : ActKey → LegKey
as_leg key = record { order = key.order; k = key.n }

abbrev as_act : LegKey → ActKey
as_act leg = record { order = leg.order; n = leg.k }

pub act_cmp-total : IsTotalOrder act_cmp
act_cmp-total = on_total as_leg leg_cmp-total

pub act_cmp-IsAntisymmetric : IsAntisymmetric act_cmp
act_cmp-IsAntisymmetric a b tied = ap as_act (leg_cmp-IsAntisymmetric (as_leg a) (as_leg b) tied)

abbrev pub act_eq : ActKey → ActKey → Bool
act_eq = eq_by_cmp act_cmp

pub act_eq-equivalence : IsEquivalence act_eq
act_eq-equivalence = eq_by_cmp_equiv act_cmp-total

pub act_cmp-partial : IsPartialOrder act_eq (λ a b. Some (act_cmp a b))
act_cmp-partial = partial_order_from_agreeing_total act_cmp act_cmp-total (λ a b. refl) (λ a b. refl)
