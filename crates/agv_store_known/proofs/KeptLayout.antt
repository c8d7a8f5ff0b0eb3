-- A layout that is kept beside the tables: what it says of the world, and that it stays the world's.
use Rattle.std.proofs.Common.{◌≡◌, ◌⊎◌, false, Option, None, Some, Ok, Err, Result, inl, inr, refl, sym, ap, ◌∙◌}
use Rattle.std.proofs.lemmas.Option.{same_Some}
use Rattle.std.specs.FinSet as set
use Rattle.agv_layout.specs.Layout.{Layout, KeepsRules}
use Rattle.agv_layout.specs.LayoutOf.{layout_of, rows_in}
use Rattle.agv_layout.specs.declared.fault.LayoutFault.{LayoutFault}
use Rattle.agv_world_core.specs.Changes.{change}
use Rattle.agv_world_core.specs.Questions.{given, layout_set}
use Rattle.agv_world_core.specs.Maps.{Maps, maps_of}
use Rattle.agv_world_core.specs.Worlds.{World, empty_layout}
use Rattle.agv_world_core.specs.declared.change.Change.{Change}
use Rattle.agv_world_core.specs.declared.change.Change.TheVariants as row
use Rattle.agv_store_known.specs.KeptLayouts.{IsLayoutOf, is_of_layout, laid_in}

-- the laws of layouts that are cited
abbrev pub GivesItself : Type 0
GivesItself = (layout : Layout) → KeepsRules layout → layout_of (rows_in layout) ≡ Ok layout

abbrev pub NeedsANode : Type 0
NeedsANode = (empty layout : Layout) → empty.nodes ≡ set.empty → ¬ (layout_of (rows_in empty) ≡ Ok layout)

-- ---- what it says

pub agreed_layout : (kept : Option Layout) (world : World) (layout : Layout) → kept ≡ Some layout → IsLayoutOf kept (maps_of world) → layout ≡ world.layout
agreed_layout None world layout is agrees = absurd (cc is)
agreed_layout (Some own) world layout is agrees = sym (same_Some own layout is) ∙ agrees

-- it is the layout that is set
pub is_set : GivesItself → (world : World) (layout : Layout) → KeepsRules layout → layout ≡ world.layout → Some layout ≡ layout_set world
unfolding layout_set
is_set gives world layout rules is = ap given (sym (gives layout rules)) ∙ ap (λ (l : Layout). given (layout_of (rows_in l))) is

-- ---- the layout that is set is the world's

from_given : (r : Result Layout LayoutFault) (layout : Layout) → Some layout ≡ given r → r ≡ Ok layout
from_given (Ok other) layout is = ap Ok (sym (same_Some layout other is))
from_given (Err why) layout is = absurd (cc is)

set_is : GivesItself → NeedsANode → (world : World) → (world.layout ≡ empty_layout) ⊎ KeepsRules world.layout → (layout : Layout) → Some layout ≡ layout_set world → layout ≡ world.layout
unfolding layout_set
set_is gives needs world (inl none) layout is = absurd (needs world.layout layout (ap (λ (l : Layout). l.nodes) none) (from_given (layout_of (rows_in world.layout)) layout is))
set_is gives needs world (inr rules) layout is = same_Some layout world.layout (is ∙ ap given (gives world.layout rules))

pub agrees_set : GivesItself → NeedsANode → (world : World) → (world.layout ≡ empty_layout) ⊎ KeepsRules world.layout → (layout : Option Layout) → layout ≡ layout_set world → IsLayoutOf layout (maps_of world)
agrees_set gives needs world laid None is = tt
agrees_set gives needs world laid (Some layout) is = set_is gives needs world laid layout is

-- ---- rows that are written

-- a row that is none of the layout leaves it
pub layout_stays : (layout : Option Layout) (one : Change) → is_of_layout one ≡ false → (maps : Maps) → IsLayoutOf layout maps → IsLayoutOf layout (change maps one)
layout_stays None one none maps is = tt
layout_stays (Some layout) one none maps is = is ∙ sym (stays_by one maps none)
  where
    stays_by : (one : Change) (maps : Maps) → is_of_layout one ≡ false → laid_in (change maps one) ≡ laid_in maps
    stays_by (row.Node id) maps none = absurd (cc none)
    stays_by (row.Edge id ends) maps none = absurd (cc none)
    stays_by (row.Station id site) maps none = absurd (cc none)
    stays_by (row.Vehicle key vehicle) maps none = refl
    stays_by (row.Trip order trip) maps none = refl
    stays_by (row.Leg key edge) maps none = refl
    stays_by (row.Load id place) maps none = refl
    stays_by (row.Job id job) maps none = refl
    stays_by (row.Hold thing key) maps none = refl
    stays_by (row.Used key) maps none = refl
