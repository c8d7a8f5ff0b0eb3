-- The order of vehicles is total, and only equal keys tie.
use Rattle.std.proofs.Common.{◌≡◌, Bool, ◌&&◌, Some, nat_eq, refl}
use Rattle.std.specs.Ordering.{nat_cmp, ordering_then, eq_by_cmp}
use Rattle.std.specs.declared.cmp.Ordering.{Ordering}
use Rattle.std.specs.declared.cmp.Ordering.TheVariants.{Less, Equal, Greater}
use Rattle.std.specs.Cmp.{IsTotalOrder, IsPartialOrder, on_total, then_total, both_tied, partial_order_from_agreeing_total}
use Rattle.std.specs.Cmp.Lexicographic.{pointwise, slice_cmp, nat_list_cmp_total, texts_ties}
use Rattle.std.specs.FinMap.{IsAntisymmetric, nat_cmp-IsAntisymmetric, slice_cmp-IsAntisymmetric}
use Rattle.agv_header.specs.Key.{key_cmp}
use Rattle.agv_header.specs.declared.key.VehicleKey.{VehicleKey}

-- the order is total
pub key_cmp-total : IsTotalOrder key_cmp
key_cmp-total =
    then_total (on_total (λ (key : VehicleKey). key.manufacturer) nat_list_cmp_total) (on_total (λ (key : VehicleKey). key.serial) nat_list_cmp_total)

-- a lexicographic comparison is `Equal` only if both of its parts are
pub both_equal : (a b : Ordering) → ordering_then a b ≡ Equal → (a ≡ Equal) × (b ≡ Equal)
both_equal Less b e = cc
both_equal Equal b e = (refl, e)
both_equal Greater b e = cc

-- names that tie are equal
names_apart : IsAntisymmetric (slice_cmp nat_cmp)
names_apart = slice_cmp-IsAntisymmetric nat_cmp-IsAntisymmetric

-- keys that tie are equal
pub key_cmp-IsAntisymmetric : IsAntisymmetric key_cmp
key_cmp-IsAntisymmetric a b tied =
    let both = both_equal (slice_cmp nat_cmp a.manufacturer b.manufacturer) (slice_cmp nat_cmp a.serial b.serial) tied in
    let manufacturer : a.manufacturer ≡ b.manufacturer = names_apart _ _ both.0 in
    let serial : a.serial ≡ b.serial = names_apart _ _ both.1 in
    λ i. record { manufacturer = manufacturer i; serial = serial i }

-- how `==` compares keys: by both names' bytes
abbrev pub key_eq : VehicleKey → VehicleKey → Bool
key_eq a b = pointwise nat_eq a.manufacturer b.manufacturer && pointwise nat_eq a.serial b.serial

-- `==` holds of exactly the keys that tie
pub key_cmp-ties : (a b : VehicleKey) → key_eq a b ≡ eq_by_cmp key_cmp a b
key_cmp-ties a b =
    both_tied _ _ (slice_cmp nat_cmp a.manufacturer b.manufacturer) (slice_cmp nat_cmp a.serial b.serial) (texts_ties a.manufacturer b.manufacturer) (texts_ties a.serial b.serial)

-- `==` and the order are a partial order, as `PartialOrd` asks
pub key_cmp-partial : IsPartialOrder key_eq (λ a b. Some (key_cmp a b))
key_cmp-partial =
    partial_order_from_agreeing_total key_cmp key_cmp-total (λ a b. refl) key_cmp-ties
