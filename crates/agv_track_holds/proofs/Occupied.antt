-- What is listed as held is what is held.
use Rattle.std.proofs.Common.{◌≡◌, ◌≢◌, ◌⊎◌, inl, inr, ℕ, zero, suc, ◌+◌, ◌-◌, ◌<◌, ◌≤◌, List, [], ◌∷◌, length, take, drop, get_or, Contains, Option, Some, None, refl, sym, ap, subst, ◌∙◌, arith}
use Rattle.std.specs.List.{slice_get}
use Rattle.std.specs.Option.{option_map}
use Rattle.std.proofs.lemmas.Bool.{cases_eq}
use Rattle.std.proofs.lemmas.Option.{slice_get-map, slice_get-get_or, slice_get_within}
use Rattle.std.proofs.lemmas.List.{length-map}
use Rattle.agv_header.specs.declared.key.Thing.{Thing}
use Rattle.agv_header.specs.declared.key.Thing.TheVariants as thing
use Rattle.agv_layout.specs.declared.edge.Edge.{Edge}
use Rattle.agv_order.specs.Trips.{nodes_on, node_at}
use Rattle.agv_order.specs.declared.trip.Trip.{Trip}
use Rattle.agv_track_holds.specs.Footprints.{IsOnTrip, IsOnRest, IsHeldBy, IsOnBase, along, released_edges, from_node, rest_things, things_by}

-- ---- membership
abbrev pub In : Thing → List Thing → Type 0
In q [] = ⊥
In q (x ∷ xs) = (x ≡ q) ⊎ In q xs

pub contains-in : (q : Thing) (xs : List Thing) → In q xs → Contains xs q
contains-in q [] h = absurd h
contains-in q (x ∷ xs) (inl e) = (0, omega arith, e)
contains-in q (x ∷ xs) (inr h) = let c = contains-in q xs h in (suc c.0, omega (arith, c.1), c.2)

pub in-contains : (q : Thing) (xs : List Thing) → Contains xs q → In q xs
in-contains q xs c = at xs c.0 c.1 c.2
  where
    at : (xs : List Thing) (k : ℕ) → k < length xs → get_or xs k q ≡ q → In q xs
    at [] k h e = absurd (omega arith)
    at (x ∷ xs) zero h e = inl e
    at (x ∷ xs) (suc k) h e = inr (at xs k (omega arith) e)

-- ---- elements of a part of a list
no_none : {A : Type 0} (x : A) → None ≡ Some x → ⊥
no_none x e = cc

same_some : {A : Type 0} (x y : A) → Some x ≡ Some y → x ≡ y
same_some x y e = cc

get-drop : {A : Type 0} (n j k : ℕ) (xs : List A) → n + j ≡ k → slice_get (drop n xs) j ≡ slice_get xs k
get-drop zero j k xs e = ap (slice_get xs) (at_none j k e)
  where
    at_none : (j k : ℕ) → 0 + j ≡ k → j ≡ k
    at_none j k e = omega arith
get-drop (suc n) j k [] e = refl
get-drop (suc n) j zero (x ∷ xs) e = absurd (omega arith)
get-drop (suc n) j (suc k) (x ∷ xs) e = get-drop n j k xs (omega arith)

get-take : {A : Type 0} (m j : ℕ) (xs : List A) → j < m → slice_get (take m xs) j ≡ slice_get xs j
get-take zero j xs h = absurd (omega arith)
get-take (suc m) j [] h = refl
get-take (suc m) zero (x ∷ xs) h = refl
get-take (suc m) (suc j) (x ∷ xs) h = get-take m j xs (omega arith)

within-take : {A : Type 0} (m j : ℕ) (xs : List A) (x : A) → slice_get (take m xs) j ≡ Some x → j < m
within-take zero j xs x e = absurd (no_none x e)
within-take (suc m) j [] x e = absurd (no_none x e)
within-take (suc m) zero (y ∷ xs) x e = omega arith
within-take (suc m) (suc j) (y ∷ xs) x e = let h = within-take m j xs x e in omega arith

-- ---- edges of a way
edge-in : (edges : List Edge) (j : ℕ) (e : Edge) → slice_get edges j ≡ Some e → In (thing.Edge e.id) (along edges)
edge-in [] j e at = absurd (no_none e at)
edge-in (x ∷ edges) zero e at = inl (ap (λ (z : Edge). thing.Edge z.id) (same_some x e at))
edge-in (x ∷ edges) (suc j) e at = inr (inr (edge-in edges j e at))

finish-in : (edges : List Edge) (j : ℕ) (e : Edge) → slice_get edges j ≡ Some e → In (thing.Node e.finish) (along edges)
finish-in [] j e at = absurd (no_none e at)
finish-in (x ∷ edges) zero e at = inr (inl (ap (λ (z : Edge). thing.Node z.finish) (same_some x e at)))
finish-in (x ∷ edges) (suc j) e at = inr (inr (finish-in edges j e at))

edge-found : (edges : List Edge) (name : List ℕ) → In (thing.Edge name) (along edges) → (j : ℕ) × (e : Edge) × (slice_get edges j ≡ Some e) × (e.id ≡ name)
edge-found [] name h = absurd h
edge-found (x ∷ edges) name (inl e) = (0, x, refl, same_edge x.id name e)
  where
    same_edge : (a b : List ℕ) → thing.Edge a ≡ thing.Edge b → a ≡ b
    same_edge a b e = cc
edge-found (x ∷ edges) name (inr (inl e)) = absurd (apart x.finish name e)
  where
    apart : (a b : List ℕ) → thing.Node a ≡ thing.Edge b → ⊥
    apart a b e = cc
edge-found (x ∷ edges) name (inr (inr h)) = let f = edge-found edges name h in (suc f.0, f.1, f.2, f.3)

finish-found : (edges : List Edge) (name : List ℕ) → In (thing.Node name) (along edges) → (j : ℕ) × (e : Edge) × (slice_get edges j ≡ Some e) × (e.finish ≡ name)
finish-found [] name h = absurd h
finish-found (x ∷ edges) name (inl e) = absurd (apart x.id name e)
  where
    apart : (a b : List ℕ) → thing.Edge a ≡ thing.Node b → ⊥
    apart a b e = cc
finish-found (x ∷ edges) name (inr (inl e)) = (0, x, refl, same_node x.finish name e)
  where
    same_node : (a b : List ℕ) → thing.Node a ≡ thing.Node b → a ≡ b
    same_node a b e = cc
finish-found (x ∷ edges) name (inr (inr h)) = let f = finish-found edges name h in (suc f.0, f.1, f.2, f.3)

-- ---- the released part of a trip
part-at : (trip : Trip) (j k : ℕ) → trip.seen + j ≡ k → k < trip.base → slice_get (released_edges trip) j ≡ slice_get trip.edges k
part-at trip j k e h = get-take (trip.base - trip.seen) j (drop trip.seen trip.edges) (omega arith) ∙ get-drop trip.seen j k trip.edges e

within-part : (trip : Trip) (j : ℕ) (e : Edge) → slice_get (released_edges trip) j ≡ Some e → trip.seen + j < trip.base
within-part trip j e at = let h = within-take (trip.base - trip.seen) j (drop trip.seen trip.edges) e at in omega arith

node-next : (trip : Trip) (k : ℕ) → node_at trip (suc k) ≡ option_map (λ (e : Edge). e.finish) (slice_get trip.edges k)
node-next trip k = slice_get-map (λ (e : Edge). e.finish) trip.edges k

-- there is a node at the start of each edge
some_node : (trip : Trip) (k : ℕ) (e : Edge) → slice_get trip.edges k ≡ Some e → trip.seen ≤ k → node_at trip trip.seen ≢ None
some_node trip k e at h none =
    let within : k < length trip.edges = slice_get_within trip.edges k e at in
    no_none _ (sym none ∙ slice_get-get_or (nodes_on trip.start trip.edges) trip.seen trip.start (omega (arith, length-map trip.edges (λ (x : Edge). x.finish))))

-- ---- a trip
on_trip-listed : (trip : Trip) (held : Thing) (o : Option (List ℕ)) → o ≡ node_at trip trip.seen → trip.seen ≤ trip.base → In held (from_node o (released_edges trip)) → IsOnTrip trip held
on_trip-listed trip held None is h i = absurd i
on_trip-listed trip (thing.Node name) (Some node) is h (inl e) = (trip.seen, omega arith, h, sym is ∙ ap Some (same_node node name e))
  where
    same_node : (a b : List ℕ) → thing.Node a ≡ thing.Node b → a ≡ b
    same_node a b e = cc
on_trip-listed trip (thing.Edge name) (Some node) is h (inl e) = absurd (apart node name e)
  where
    apart : (a b : List ℕ) → thing.Node a ≡ thing.Edge b → ⊥
    apart a b e = cc
on_trip-listed trip (thing.Node name) (Some node) is h (inr i) =
    let f = finish-found (released_edges trip) name i in
    let within = within-part trip f.0 f.1 f.2 in
    (suc (trip.seen + f.0), omega arith, omega arith, node-next trip (trip.seen + f.0) ∙ ap (option_map (λ (e : Edge). e.finish)) (sym (part-at trip f.0 (trip.seen + f.0) refl within) ∙ f.2) ∙ ap Some f.3)
on_trip-listed trip (thing.Edge name) (Some node) is h (inr i) =
    let f = edge-found (released_edges trip) name i in
    let within = within-part trip f.0 f.1 f.2 in
    (trip.seen + f.0, f.1, omega arith, within, sym (part-at trip f.0 (trip.seen + f.0) refl within) ∙ f.2, f.3)

-- the finish of an edge that is there
finish-of : (o : Option Edge) (name : List ℕ) → option_map (λ (e : Edge). e.finish) o ≡ Some name → (e : Edge) × (o ≡ Some e) × (e.finish ≡ name)
finish-of None name is = absurd (no_none name is)
finish-of (Some e) name is = (e, refl, same_some e.finish name is)

later : (o : Option (List ℕ)) (edges : List Edge) (held : Thing) → o ≢ None → In held (along edges) → In held (from_node o edges)
later None edges held some h = absurd (some refl)
later (Some node) edges held some h = inr h

first : (o : Option (List ℕ)) (edges : List Edge) (name : List ℕ) → o ≡ Some name → In (thing.Node name) (from_node o edges)
first None edges name is = absurd (no_none name is)
first (Some node) edges name is = inl (ap thing.Node (same_some node name is))

listed-edge : (trip : Trip) (k : ℕ) (edge : Edge) → trip.seen ≤ k → k < trip.base → slice_get trip.edges k ≡ Some edge → slice_get (released_edges trip) (k - trip.seen) ≡ Some edge
listed-edge trip k edge h g at = part-at trip (k - trip.seen) k (omega arith) g ∙ at

listed-node : (trip : Trip) (name : List ℕ) (k : ℕ) → trip.seen ≤ k → k ≤ trip.base → node_at trip k ≡ Some name → In (thing.Node name) (from_node (node_at trip trip.seen) (released_edges trip))
listed-node trip name k h g at = elim (cases_eq k trip.seen) [
  | inl e ↦ first _ _ name (ap (node_at trip) (sym e) ∙ at)
  | inr apart ↦ past k h g at apart
]
  where
    past : (k : ℕ) → trip.seen ≤ k → k ≤ trip.base → node_at trip k ≡ Some name → (k ≡ trip.seen → ⊥) → In (thing.Node name) (from_node (node_at trip trip.seen) (released_edges trip))
    past zero h g at apart = absurd (apart (omega arith))
    past (suc k) h g at apart =
        let f = finish-of (slice_get trip.edges k) name (sym (node-next trip k) ∙ at) in
        let seen : trip.seen ≤ k = omega arith in
        later _ _ _ (some_node trip k f.0 f.1 seen) (subst (λ n. In (thing.Node n) (along (released_edges trip))) f.2 (finish-in (released_edges trip) (k - trip.seen) f.0 (listed-edge trip k f.0 seen (omega arith) f.1)))

listed-on_trip : (trip : Trip) (held : Thing) → IsOnTrip trip held → In held (from_node (node_at trip trip.seen) (released_edges trip))
listed-on_trip trip (thing.Node name) h = listed-node trip name h.0 h.1 h.2 h.3
listed-on_trip trip (thing.Edge name) h =
    later _ _ _ (some_node trip h.0 h.1 h.4 h.2) (subst (λ n. In (thing.Edge n) (along (released_edges trip))) h.5 (edge-in (released_edges trip) (h.0 - trip.seen) h.1 (listed-edge trip h.0 h.1 h.2 h.3 h.4)))

-- ---- a rest
rest-listed : (rest : Option (List ℕ × List ℕ)) (held : Thing) → In held (rest_things rest) → IsOnRest rest held
rest-listed None held h = absurd h
rest-listed (Some rest) (thing.Node name) (inl e) = absurd (apart rest.0 name e)
  where
    apart : (a b : List ℕ) → thing.Edge a ≡ thing.Node b → ⊥
    apart a b e = cc
rest-listed (Some rest) (thing.Node name) (inr (inl e)) = same_node rest.1 name e
  where
    same_node : (a b : List ℕ) → thing.Node a ≡ thing.Node b → a ≡ b
    same_node a b e = cc
rest-listed (Some rest) (thing.Node name) (inr (inr h)) = absurd h
rest-listed (Some rest) (thing.Edge name) (inl e) = same_edge rest.0 name e
  where
    same_edge : (a b : List ℕ) → thing.Edge a ≡ thing.Edge b → a ≡ b
    same_edge a b e = cc
rest-listed (Some rest) (thing.Edge name) (inr (inl e)) = absurd (apart rest.1 name e)
  where
    apart : (a b : List ℕ) → thing.Node a ≡ thing.Edge b → ⊥
    apart a b e = cc
rest-listed (Some rest) (thing.Edge name) (inr (inr h)) = absurd h

listed-rest : (rest : Option (List ℕ × List ℕ)) (held : Thing) → IsOnRest rest held → In held (rest_things rest)
listed-rest None held h = absurd h
listed-rest (Some rest) (thing.Node name) h = inr (inl (ap thing.Node h))
listed-rest (Some rest) (thing.Edge name) h = inl (ap thing.Edge h)

-- ---- all of it
pub held-listed : (node : List ℕ) (rest : Option (List ℕ × List ℕ)) (trip : Option Trip) (held : Thing) → IsOnBase trip → In held (things_by node rest trip) → IsHeldBy node rest trip held
held-listed node rest None held h (inl e) = inl e
held-listed node rest None held h (inr i) = inr (rest-listed rest held i)
held-listed node rest (Some trip) held h i = on_trip-listed trip held (node_at trip trip.seen) refl h i

pub listed-held : (node : List ℕ) (rest : Option (List ℕ × List ℕ)) (trip : Option Trip) (held : Thing) → IsHeldBy node rest trip held → In held (things_by node rest trip)
listed-held node rest None held (inl e) = inl e
listed-held node rest None held (inr h) = inr (listed-rest rest held h)
listed-held node rest (Some trip) held h = listed-on_trip trip held h
