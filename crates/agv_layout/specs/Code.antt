-- The coding of a layout, the value of a model: as the triple of its parts.
use Rattle.std.specs.Prelude.{ℕ, List, refl}
use Rattle.std.specs.Coded.{Coded, code_by, coded×, coded_ℕ, coded_list}
use Rattle.std.specs.FinMap as map
use Rattle.std.specs.FinSet as set
use Rattle.agv_header.specs.Name.{name_cmp}
use Rattle.agv_layout.specs.declared.edge.EdgeEnds.{EdgeEnds}
use Rattle.agv_layout.specs.declared.station.StationSite.{StationSite}
use Rattle.agv_layout.specs.Layout.{Layout}

-- an edge's ends as a pair: its start and its finish
abbrev pub ends_code : Coded EdgeEnds
ends_code =
    code_by (List ℕ × List ℕ) (coded× (coded_list coded_ℕ) (coded_list coded_ℕ)) (λ e. (e.start, e.finish)) (λ p. record { start = p.0; finish = p.1 }) (λ _. refl)

-- a station's site as a pair: its node and its capacity
abbrev pub site_code : Coded StationSite
site_code = code_by (List ℕ × ℕ) (coded× (coded_list coded_ℕ) coded_ℕ) (λ s. (s.node, s.capacity)) (λ p. record { node = p.0; capacity = p.1 }) (λ _. refl)

-- a layout as a triple: the nodes, the edges by name and the stations by name
abbrev pub layout_code : Coded Layout
layout_code =
    code_by (set.FinSet name_cmp × (map.FinMap name_cmp EdgeEnds × map.FinMap name_cmp StationSite))
    (coded× (set.code (coded_list coded_ℕ)) (coded× (map.code (coded_list coded_ℕ) ends_code) (map.code (coded_list coded_ℕ) site_code)))
    (λ l. (l.nodes, (l.edges, l.stations)))
    (λ p. record { nodes = p.0; edges = p.1.0; stations = p.1.1 })
    (λ _. refl)
