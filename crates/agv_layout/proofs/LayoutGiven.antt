-- What the function of rows gives, and what the relations say of rows, are one.
use Rattle.std.proofs.Common.{◌≡◌, ◌≢◌, Bool, true, false, cond, not, List, [], ◌∷◌, Result, Ok, Err, IfErr, IsErrAnd, Contains, Decides, refl, sym, ap, ◌∙◌}
use Rattle.std.specs.BTreeMap.{is_at}
use Rattle.std.specs.Cmp.Lexicographic.{bytes_decides}
use Rattle.std.specs.List.{list_all, AllByRecursion, IsDistinct}
use Rattle.std.specs.Map.{keys_of, values_of}
use Rattle.std.specs.Result.{result_ok}
use Rattle.std.proofs.lemmas.Bool.{not-true}
use Rattle.std.proofs.lemmas.Bool.Decides.{Decides-and, Decides-or, Decides-not, Decides-like, Decides-ltb, Decides-by_and, not_from_Decides}
use Rattle.std.proofs.lemmas.Option.{same_Some}
use Rattle.std.proofs.lemmas.Map.Made.{is_member-Decides, AllPairs-from_IsDistinct, IsDistinct-from_AllPairs}
use Rattle.agv_header.specs.Name.{name_cmp}
use Rattle.agv_layout.specs.declared.edge.EdgeEnds.{EdgeEnds}
use Rattle.agv_layout.specs.declared.fault.LayoutFault.{LayoutFault}
use Rattle.agv_layout.specs.declared.fault.LayoutFault.TheVariants as fault
use Rattle.agv_layout.specs.declared.row.LayoutRow.{LayoutRow}
use Rattle.agv_layout.specs.declared.station.StationSite.{StationSite}
use Rattle.agv_layout.specs.Layout.{Name, Layout}
use Rattle.agv_layout.specs.LayoutOf.{is_among, differ, leads_among, stands_among, is_over_limit, is_each_once, is_sound, layout_in, layout_of}
use Rattle.agv_layout.specs.Rows.{nodes_in, edges_in, stations_in, Differ, LeadsAmong, StandsAmong, IsEachOnce, IsOverLimit, IsSound}
use Rattle.agv_layout.proofs.Drafts.{le-Decides}
use Rattle.agv_layout.proofs.Maps.{decides_name, none_passes, all_fail}

-- ---- each test tells what its relation says
-- the second name is the first
abbrev ties : Name → Name → Bool
ties id name = is_at (name_cmp name) id

ties_decides : (id name : Name) → Decides (ties id name) (id ≡ name)
ties_decides id name = Decides-like _ (λ e. sym e) (λ e. sym e) (decides_name name id)

among_decides : (ids : List Name) (id : Name) → Decides (is_among ids id) (Contains ids id)
among_decides = is_member-Decides {K = Name} {eq = ties} ties_decides

absent_decides : (ids : List Name) (id : Name) → Decides (not (is_among ids id)) (AllByRecursion (λ other. ties id other ≡ false) ids)
absent_decides ids id = (λ absent. all_fail (ties id) ids (not-true _ absent), λ fail. ap not (none_passes (ties id) ids fail))

distinct_decides : (ids : List Name) → Decides (differ ids) (IsDistinct ties ids)
unfolding IsDistinct
distinct_decides [] = (λ _. tt, λ _. refl)
distinct_decides (id ∷ ids) = Decides-and _ _ (absent_decides ids id) (distinct_decides ids)

differ_decides : (ids : List Name) → Decides (differ ids) (Differ ids)
differ_decides ids = Decides-like _ (AllPairs-from_IsDistinct ties_decides ids) (IsDistinct-from_AllPairs ties_decides ids) (distinct_decides ids)

leads_decides : (nodes : List Name) (ends : EdgeEnds) → Decides (leads_among nodes ends) (LeadsAmong nodes ends)
leads_decides nodes ends =
    Decides-like _ (λ w. (w.0, w.1.0, w.1.1)) (λ w. (w.0, (w.1, w.2)))
    (Decides-and _ _ (among_decides nodes ends.start) (Decides-and _ _ (among_decides nodes ends.finish) (Decides-not _ (bytes_decides ends.start ends.finish))))

stands_decides : (nodes : List Name) (site : StationSite) → Decides (stands_among nodes site) (StandsAmong nodes site)
stands_decides nodes site =
    Decides-like _ (λ w. (w.0, w.1.0, w.1.1)) (λ w. (w.0, (w.1, w.2)))
    (Decides-and _ _ (among_decides nodes site.node) (Decides-and _ _ (le-Decides 1 site.capacity) (le-Decides site.capacity 999)))

module _ (rows : List LayoutRow) where
  over_decides : Decides (is_over_limit rows) (IsOverLimit rows)
  over_decides = Decides-or _ _ (Decides-ltb 500 _) (Decides-or _ _ (Decides-ltb 1500 _) (Decides-ltb 500 _))

  once_decides : Decides (is_each_once rows) (IsEachOnce rows)
  once_decides =
      Decides-like _ (λ each. record { nodes = each.0; edges = each.1.0; stations = each.1.1 }) (λ once. (once.nodes, (once.edges, once.stations)))
      (Decides-and _ _ (differ_decides (nodes_in rows)) (Decides-and _ _ (differ_decides (keys_of (edges_in rows))) (differ_decides (keys_of (stations_in rows)))))

  sound_decides : Decides (is_sound rows) (IsSound rows)
  sound_decides =
      let nodes = nodes_in rows in
      let lead = Decides-by_and (leads_among nodes) (LeadsAmong nodes) (list_all (leads_among nodes)) (leads_decides nodes) refl (λ _ _. refl) (values_of (edges_in rows)) in
      let stand = Decides-by_and (stands_among nodes) (StandsAmong nodes) (list_all (stands_among nodes)) (stands_decides nodes) refl (λ _ _. refl) (values_of (stations_in rows)) in
      Decides-like _ (λ all. record { some = all.0; once = all.1.0; leads = all.1.1.0; stands = all.1.1.1 }) (λ sound. (sound.some, (sound.once, (sound.leads, sound.stands))))
      (Decides-and _ _ (le-Decides 1 _) (Decides-and _ _ once_decides (Decides-and _ _ lead stand)))

  -- ---- what the function gives
  by_tests : Bool → Bool → Result Layout LayoutFault
  by_tests over sound = cond over (Err fault.Limit) (cond sound (Ok (layout_in rows)) (Err fault.Bad))

  within_limit : (¬ IsOverLimit rows) → is_over_limit rows ≡ false
  within_limit few = not-true _ ((Decides-not _ over_decides).1 few)

  pub over_limit_given : IsOverLimit rows → layout_of rows ≡ Err fault.Limit
  unfolding layout_of by_tests
  over_limit_given over = ap (λ b. by_tests b (is_sound rows)) (over_decides.1 over)

  pub sound_given : (¬ IsOverLimit rows) → IsSound rows → layout_of rows ≡ Ok (layout_in rows)
  unfolding layout_of by_tests
  sound_given few sound = ap (λ b. by_tests b (is_sound rows)) (within_limit few) ∙ ap (by_tests false) (sound_decides.1 sound)

  pub bad_given : (¬ IsOverLimit rows) → (¬ IsSound rows) → layout_of rows ≡ Err fault.Bad
  unfolding layout_of by_tests
  bad_given few bad = ap (λ b. by_tests b (is_sound rows)) (within_limit few) ∙ ap (by_tests false) (not-true _ ((Decides-not _ sound_decides).1 bad))

  -- rows that give a layout are sound and not too many, and it is the one that stands among them
  pub record Gives (layout : Layout) : Type 0 where
    pub few : ¬ IsOverLimit rows
    pub sound : IsSound rows
    pub same : layout_in rows ≡ layout

  pub from_given : (layout : Layout) → layout_of rows ≡ Ok layout → Gives layout
  unfolding layout_of by_tests
  from_given layout gives =
      elim (is_over_limit rows) as (λ b. is_over_limit rows ≡ b → by_tests b (is_sound rows) ≡ Ok layout → Gives layout) [
        | true ↦ λ _ e. cc
        | false ↦ λ few.
            elim (is_sound rows) as (λ b. is_sound rows ≡ b → by_tests false b ≡ Ok layout → Gives layout) [
              | true ↦ λ sound e. record { few = not_from_Decides _ over_decides few; sound = sound_decides.0 sound; same = same_Some _ _ (ap result_ok e) }
              | false ↦ λ _ e. cc
            ] refl
      ] refl gives

  -- where an id is twice in its kind
  twice_given : (¬ IsOverLimit rows) → (error : LayoutFault) → (error ≡ fault.Bad → ¬ IsEachOnce rows) → (error ≡ fault.Limit → ⊥) → error ≢ fault.Memory → layout_of rows ≡ Err error
  twice_given few fault.Limit twice limit other = absurd (limit refl)
  twice_given few fault.Bad twice limit other = bad_given few (λ sound. twice refl sound.once)
  twice_given few fault.Memory twice limit other = absurd (other refl)

  -- and where that is passed on
  pub twice_passed_on : {X : Type 0} → (¬ IsOverLimit rows) → (error : LayoutFault) → (◌≡◌ {A = Result X LayoutFault} (Err error) (Err fault.Bad) → ¬ IsEachOnce rows) → (◌≡◌ {A = Result X LayoutFault} (Err error) (Err fault.Limit) → ⊥)
      → (result : Result Layout LayoutFault) → IsErrAnd result (λ other. other ≡ error) → IfErr result (λ other. other ≢ fault.Memory → layout_of rows ≡ Err other)
  twice_passed_on few error twice limit (Ok layout) is = tt
  twice_passed_on few error twice limit (Err other) is = λ apart. twice_given few other (λ bad. twice (ap Err (sym is ∙ bad))) (λ over. limit (ap Err (sym is ∙ over))) apart
