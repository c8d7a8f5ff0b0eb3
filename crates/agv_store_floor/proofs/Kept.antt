-- What is kept beside the connection, for a question to it: a value that may be there, and the layout that a query is given.
use Rattle.std.proofs.Common.{◌≡◌, Option, None, Some, IfSome, refl, subst}
use Rattle.std.proofs.lemmas.Option.{same_Some}
use Rattle.agv_layout.specs.Layout.{Layout}
use Rattle.agv_world_core.specs.Maps.{maps_of}
use Rattle.agv_world_core.specs.Worlds.{World}
use Rattle.agv_store_read.specs.WorldAnswers.{AgreesWith}
use Rattle.agv_store_known.specs.KeptLayouts.{IsLayoutOf}

-- what holds of a value that is there holds of it
pub if_some : {A : Type 0} (P : A → Type 0) (o : Option A) (a : A) → o ≡ Some a → IfSome o P → P a
if_some P None a is so = absurd (cc is)
if_some P (Some b) a is so = subst P (same_Some b a is) so

-- what holds of each value that is there
pub if_there : {A : Type 0} (P : A → Type 0) (o : Option A) → ((a : A) → o ≡ Some a → P a) → IfSome o P
if_there P None so = tt
if_there P (Some a) so = so a refl

-- the layout that is kept is the world's
pub agrees_with : (kept : Option Layout) (world : World) → IsLayoutOf kept (maps_of world) → AgreesWith kept world
agrees_with None world is = tt
agrees_with (Some layout) world is = is
