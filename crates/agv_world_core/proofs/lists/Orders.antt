-- The order of names is total, and only equal names tie.
use Rattle.std.specs.Cmp.{IsTotalOrder}
use Rattle.std.specs.Cmp.Lexicographic.{nat_list_cmp_total}
use Rattle.std.specs.FinMap.{IsAntisymmetric, nat_cmp-IsAntisymmetric, slice_cmp-IsAntisymmetric}
use Rattle.agv_header.specs.Name.{name_cmp}

pub names_total : IsTotalOrder name_cmp
names_total = nat_list_cmp_total

pub names_apart : IsAntisymmetric name_cmp
names_apart = slice_cmp-IsAntisymmetric nat_cmp-IsAntisymmetric
