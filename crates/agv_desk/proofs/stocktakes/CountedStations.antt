-- The stations of the rows are noted from row to row.
use Rattle.std.proofs.Common.{◌≡◌, ℕ, Bool, true, false, cond, ◌&&◌, ◌||◌, nat_eq, Option, Some, None, is_some, List, [], ◌∷◌, length, drop, ◌<◌, ◌≤◌, get_or, refl, sym, ap, ◌∙◌}
use Rattle.std.specs.Cmp.Lexicographic.{pointwise}
use Rattle.std.specs.FinMap as map
use Rattle.std.specs.List.{list_all}
use Rattle.std.proofs.Math.Bool.{or_assoc}
use Rattle.std.proofs.lemmas.Bool.{false≢true}
use Rattle.std.proofs.lemmas.List.{at_drop_all}
use Rattle.std.proofs.lemmas.List.Folds.{list_all_at}
use Rattle.std.proofs.lemmas.Option.{cond_some}
use Rattle.agv_header.specs.Name.{name_cmp}
use Rattle.agv_layout.specs.declared.station.StationSite.{StationSite}
use Rattle.agv_world_core.specs.Worlds.{World}
use Rattle.agv_world_core.proofs.lists.Orders.{names_total, names_apart}
use Rattle.agv_desk.specs.CountParts.{AreCounted, noted_station, stations_in}
use Rattle.agv_desk.specs.StocktakeSteps.{Row, are_known, is_counted}
use Rattle.agv_desk.proofs.lists.SameNames.{same_name, tie_turned}

abbrev pub Sites : Type 0
Sites = map.FinMap name_cmp StationSite

module _ (layout : Sites) where
  -- the stations that are noted after some rows more, if all are known
  abbrev pub gathered : Sites → List Row → Option Sites
  gathered noted [] = Some noted
  gathered noted (row ∷ rows) =
      let more = noted_station noted row.0 (map.get noted row.0) (map.get layout row.0) in
      cond more.0 (gathered more.1 rows) None

  abbrev knows : Row → Bool
  knows row = is_some (map.get layout row.0)

  abbrev kept : (List ℕ → Bool) → Sites
  kept test = map.retain_keys layout test

  get-kept : (test : List ℕ → Bool) (q : List ℕ) → map.get (kept test) q ≡ cond (test q) (map.get layout q) None
  get-kept test q = map.get-retain_keys layout test q (λ x tie. ap test (sym (names_apart q x tie)))

  kept-none : map.empty ≡ kept (λ _. false)
  kept-none = map.same_map names_total names_apart _ _ (λ q. map.get-empty name_cmp q ∙ sym (get-kept (λ _. false) q))

  -- one station more
  chosen : (here there : Bool) (found : Option StationSite) (site : StationSite) → (here ≡ true → Some site ≡ found) → cond here (Some site) (cond there found None) ≡ cond (there || here) found None
  chosen true true found site same = same refl
  chosen true false found site same = same refl
  chosen false true found site same = refl
  chosen false false found site same = refl

  with_one : (test : List ℕ → Bool) (id : List ℕ) (site : StationSite) → map.get layout id ≡ Some site → map.insert (kept test) id site ≡ kept (λ q. test q || pointwise nat_eq id q)
  with_one test id site known =
      map.same_map names_total names_apart _ _ (λ q.
      map.get-insert names_total (kept test) id site q
      ∙ ap (λ b. cond b (Some site) (map.get (kept test) q)) (tie_turned q id)
      ∙ ap (cond (pointwise nat_eq id q) (Some site)) (get-kept test q)
      ∙ chosen (pointwise nat_eq id q) (test q) (map.get layout q) site (λ e. sym known ∙ ap (map.get layout) (same_name id q e))
      ∙ sym (get-kept _ q))

  shadowed : (old here rest : Bool) → (here ≡ true → old ≡ true) → (old || rest) ≡ (old || (here || rest))
  shadowed true here rest is = refl
  shadowed false true rest is = ap (λ b. b || rest) (is refl)
  shadowed false false rest is = refl

  abbrev known_or : (List ℕ → Bool) → List Row → Option Sites
  known_or test rows = cond (list_all knows rows) (Some (kept (λ q. test q || is_counted rows q))) None

  right_false : (b : Bool) → b ≡ (b || false)
  right_false true = refl
  right_false false = refl

  gathered-kept : (test : List ℕ → Bool) (rows : List Row) → gathered (kept test) rows ≡ known_or test rows
  gathered-kept test [] = λ i. Some (kept (λ q. right_false (test q) i))
  gathered-kept test (row ∷ rows) =
      let id = row.0 in
      let all = list_all knows rows in
      let next : (Bool × Sites) → Option Sites = λ more. cond more.0 (gathered more.1 rows) None in
      let by : (there : Bool) (found : Option StationSite) → test id ≡ there → map.get layout id ≡ found
      → next (noted_station (kept test) id (cond there found None) found) ≡ cond (is_some found && all) (Some (kept (λ q. test q || (pointwise nat_eq id q || is_counted rows q)))) None =
      λ there found. elim there as (λ there. test id ≡ there → map.get layout id ≡ found → next (noted_station (kept test) id (cond there found None) found) ≡ cond (is_some found && all) (Some (kept (λ q. test q || (pointwise nat_eq id q || is_counted rows q)))) None) [
        | true ↦ elim found as (λ found. test id ≡ true → map.get layout id ≡ found → next (noted_station (kept test) id found found) ≡ cond (is_some found && all) (Some (kept (λ q. test q || (pointwise nat_eq id q || is_counted rows q)))) None) [
          | None ↦ λ t f. refl
          | Some site ↦ λ t f. gathered-kept test rows ∙ (λ i. cond all (Some (kept (λ q. shadowed (test q) (pointwise nat_eq id q) (is_counted rows q) (λ e. ap test (sym (same_name id q e)) ∙ t) i))) None)
        ]
        | false ↦ elim found as (λ found. test id ≡ false → map.get layout id ≡ found → next (noted_station (kept test) id None found) ≡ cond (is_some found && all) (Some (kept (λ q. test q || (pointwise nat_eq id q || is_counted rows q)))) None) [
          | None ↦ λ t f. refl
          | Some site ↦ λ t f.
              ap (λ m. gathered m rows) (with_one test id site f)
              ∙ gathered-kept (λ q. test q || pointwise nat_eq id q) rows
              ∙ (λ i. cond all (Some (kept (λ q. or_assoc (test q) (pointwise nat_eq id q) (is_counted rows q) i))) None)
        ]
      ] in
      ap (λ found. next (noted_station (kept test) id found (map.get layout id))) (get-kept test id) ∙ by (test id) (map.get layout id) refl refl

-- the stations of all rows, if all are known
pub gathered_all : (world : World) (rows : List Row) → gathered world.layout.stations map.empty rows ≡ cond (are_known world rows) (Some (stations_in world rows)) None
unfolding stations_in
gathered_all world rows =
    ap (λ m. gathered world.layout.stations m rows) (kept-none world.layout.stations) ∙ gathered-kept world.layout.stations (λ _. false) rows

-- when all rows are noted, all stations are known and these are they
pub all_noted : (world : World) (rows : List Row) (noted : Sites) (i : ℕ) → length rows ≤ i
    → gathered world.layout.stations noted (drop i rows) ≡ gathered world.layout.stations map.empty rows → AreCounted world rows (Some noted)
all_noted world rows noted i past is =
    let found = cond_some (are_known world rows) (stations_in world rows) noted (sym (gathered_all world rows) ∙ sym is ∙ at_drop_all (gathered world.layout.stations noted) rows i past) in
    (found.0, sym found.1)

not_there : (noted after : Sites) (id : List ℕ) (here there : Option StationSite) (known : Bool) → (known, after) ≡ noted_station noted id here there → known ≡ false → is_some there ≡ false
not_there noted after id (Some site) there known is missing = absurd (false≢true (sym missing ∙ ap (λ (p : Bool × Sites). p.0) is))
not_there noted after id None None known is missing = refl
not_there noted after id None (Some site) known is missing = absurd (false≢true (sym missing ∙ ap (λ (p : Bool × Sites). p.0) is))

-- a row whose station is not known
pub unknown_row : (world : World) (rows : List Row) (noted after : Sites) (i : ℕ) (row : Row) (known : Bool) → i < length rows → row ≡ get_or rows i row
    → (known, after) ≡ noted_station noted row.0 (map.get noted row.0) (map.get world.layout.stations row.0) → known ≡ false → are_known world rows ≡ false
unknown_row world rows noted after i row known within at is missing =
    let knows : Row → Bool = λ row. is_some (map.get world.layout.stations row.0) in
    list_all_at knows rows i row within (ap knows (sym at) ∙ not_there noted after row.0 (map.get noted row.0) (map.get world.layout.stations row.0) known is missing)
