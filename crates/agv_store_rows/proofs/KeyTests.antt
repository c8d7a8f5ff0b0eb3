-- SQL finds the row of a key by its columns.
use Rattle.std.proofs.Common.{◌≡◌, ℕ, pos, nat_eq, Bool, true, false, ◌&&◌, Decides, List, [], ◌∷◌, refl, sym, ap, ◌∙◌}
use Rattle.std.proofs.lemmas.Slice.Eq.{slice_eq-Decides}
use Rattle.std.specs.Cmp.{both_tied, both_ways, eq_by_cmp_equiv, Equal-is, tied_itself, nat_cmp_total, int_cmp_total, unsigned_Decides}
use Rattle.std.specs.Cmp.Lexicographic.{nat_list_cmp_total, pointwise, texts_ties}
use Rattle.std.specs.FinMap.{IsAntisymmetric, nat_cmp-IsAntisymmetric, int_cmp-IsAntisymmetric, slice_cmp-IsAntisymmetric}
use Rattle.std.specs.Ordering.{eq_by_cmp, is_eq, nat_cmp, int_cmp}
use Rattle.sqlite_value.specs.declared.value.Value.TheVariants.{Int, Text}
use Rattle.sqlite_value.specs.Order.{value_cmp}
use Rattle.sqlite_value.proofs.OrderLemmas.{value_cmp-Int, value_cmp-Text}
use Rattle.sqlite_sql.specs.Ops.{binary}
use Rattle.agv_header.specs.Key.{key_cmp, thing_cmp}
use Rattle.agv_header.specs.Name.{name_cmp}
use Rattle.agv_header.specs.declared.key.Thing.{Thing}
use Rattle.agv_header.specs.declared.key.Thing.TheVariants as thing
use Rattle.agv_header.specs.declared.key.VehicleKey.{VehicleKey}
use Rattle.agv_layout.specs.declared.edge.EdgeEnds.{EdgeEnds}
use Rattle.agv_layout.specs.declared.station.StationSite.{StationSite}
use Rattle.agv_stock.specs.declared.place.Place.{Place}
use Rattle.agv_stock.specs.declared.place.Place.TheVariants as place
use Rattle.agv_store_rows.specs.ActKeys.{act_cmp}
use Rattle.agv_store_rows.specs.TripRows.{is_journey_of, is_of}
use Rattle.agv_store_rows.specs.declared.act_key.ActKey.{ActKey}
use Rattle.agv_store_rows.specs.declared.act_row.ActRow.{ActRow}
use Rattle.agv_store_rows.specs.declared.journey_row.JourneyRow.{JourneyRow}
use Rattle.agv_world_core.specs.Keys.{leg_cmp, use_cmp, use_rank}
use Rattle.agv_world_core.specs.declared.key.LegKey.{LegKey}
use Rattle.agv_world_core.specs.declared.key.UseKey.{UseKey}
use Rattle.agv_world_core.specs.declared.key.UseKind.{UseKind}
use Rattle.agv_world_core.specs.declared.key.UseKind.TheVariants as used
use Rattle.agv_world_core.specs.declared.row.JobRow.{JobRow}
use Rattle.agv_world_core.specs.declared.row.VehicleRow.{VehicleRow}
use Rattle.agv_store_schema.proofs.Truths.{truth_of}
use Rattle.agv_store_rows.specs.ValueEncodings.{number_cell, use_name}
use Rattle.agv_store_rows.specs.Columns.{meta_columns, node_columns, edge_columns, station_columns, vehicle_columns, vehicle_capacity_columns, journey_columns, act_columns, leg_columns, load_columns, job_columns, hold_columns, used_columns}
use Rattle.agv_store_schema.specs.DeskRows.{has_columns, has_key, is_equal}
use Rattle.agv_store_rows.specs.RowKeys.{name_key, vehicle_key, act_row_key, leg_key, hold_key}
use Rattle.agv_store_schema.specs.RowTexts.{columns_deleted}
use Rattle.agv_store_schema.specs.declared.table_name.TableName.TheVariants as the

pub and_true : (b : Bool) → (b && true) ≡ b
and_true true = refl
and_true false = refl

-- ---- values

pub names_apart : IsAntisymmetric name_cmp
names_apart = slice_cmp-IsAntisymmetric nat_cmp-IsAntisymmetric

-- names are the same where they have the same bytes
pub same_name : (a b : List ℕ) → Decides (pointwise nat_eq a b) (a ≡ b)
same_name a b = slice_eq-Decides unsigned_Decides a b (pointwise nat_eq a b) refl

-- texts are equal where they are the same bytes
pub texts_equal : (k q : List ℕ) → is_equal (Text q) (Text k) ≡ eq_by_cmp name_cmp k q
unfolding binary
texts_equal k q = truth_of (is_eq (value_cmp (Text q) (Text k))) ∙ ap is_eq (value_cmp-Text q k) ∙ (eq_by_cmp_equiv nat_list_cmp_total).symm q k

-- and so it is read the other way round
pub text_is : (q k : List ℕ) → is_equal (Text q) (Text k) ≡ pointwise nat_eq q k
text_is q k = texts_equal k q ∙ (eq_by_cmp_equiv nat_list_cmp_total).symm k q ∙ sym (texts_ties q k)

pub last_text_is : (q k : List ℕ) → (is_equal (Text q) (Text k) && true) ≡ pointwise nat_eq q k
last_text_is q k = and_true _ ∙ text_is q k

same_pos : (a b : ℕ) → pos a ≡ pos b → a ≡ b
same_pos a b e = cc

tied_pos : (a b : ℕ) → is_eq (int_cmp (pos a) (pos b)) ≡ is_eq (nat_cmp a b)
tied_pos a b =
    both_ways _ _
    (λ t. let same = same_pos a b (int_cmp-IsAntisymmetric _ _ ((Equal-is (int_cmp (pos a) (pos b))).0 t)) in ap (λ (n : ℕ). is_eq (nat_cmp a n)) (sym same) ∙ ap is_eq (tied_itself nat_cmp_total a))
    (λ t. let same = nat_cmp-IsAntisymmetric a b ((Equal-is (nat_cmp a b)).0 t) in ap (λ (n : ℕ). is_eq (int_cmp (pos a) (pos n))) (sym same) ∙ ap is_eq (tied_itself int_cmp_total (pos a)))

-- numbers are equal where they are one number
pub numbers_equal : (k q : ℕ) → is_equal (number_cell q) (number_cell k) ≡ eq_by_cmp nat_cmp k q
unfolding binary
numbers_equal k q =
    truth_of (is_eq (value_cmp (Int (pos q)) (Int (pos k)))) ∙ ap is_eq (value_cmp-Int (pos q) (pos k)) ∙ tied_pos q k ∙ (eq_by_cmp_equiv nat_cmp_total).symm q k

-- ---- keys

-- a row whose first column is a name
one_name : (k q : List ℕ) → (is_equal (Text q) (Text k) && true) ≡ eq_by_cmp name_cmp k q
one_name k q = and_true _ ∙ texts_equal k q

pub meta_tested : (k q x : ℕ) → has_key the.Meta (number_cell k ∷ []) (meta_columns q x) ≡ eq_by_cmp nat_cmp k q
meta_tested k q x = and_true _ ∙ numbers_equal k q

pub node_tested : (k q : List ℕ) → has_key the.Node (name_key k) (node_columns q) ≡ eq_by_cmp name_cmp k q
node_tested k q = one_name k q

pub edge_tested : (k q : List ℕ) (x : EdgeEnds) → has_key the.Edge (name_key k) (edge_columns q x) ≡ eq_by_cmp name_cmp k q
edge_tested k q x = one_name k q

pub station_tested : (k q : List ℕ) (x : StationSite) → has_key the.Station (name_key k) (station_columns q x) ≡ eq_by_cmp name_cmp k q
station_tested k q x = one_name k q

pub vehicle_tested : (k q : VehicleKey) (x : VehicleRow) → has_key the.Vehicle (vehicle_key k) (vehicle_columns q x) ≡ eq_by_cmp key_cmp k q
vehicle_tested k q x = both_tied _ _ (name_cmp k.manufacturer q.manufacturer) (name_cmp k.serial q.serial) (texts_equal k.manufacturer q.manufacturer) (one_name k.serial q.serial)

pub capacity_tested : (k q : VehicleKey) (x : VehicleRow) → has_key the.Capacity (vehicle_key k) (vehicle_capacity_columns q x) ≡ eq_by_cmp key_cmp k q
capacity_tested k q x = both_tied _ _ (name_cmp k.manufacturer q.manufacturer) (name_cmp k.serial q.serial) (texts_equal k.manufacturer q.manufacturer) (one_name k.serial q.serial)

pub journey_tested : (k q : List ℕ) (x : JourneyRow) → has_key the.Journey (name_key k) (journey_columns q x) ≡ eq_by_cmp name_cmp k q
journey_tested k q x = one_name k q

pub act_tested : (k q : ActKey) (x : ActRow) → has_key the.Act (act_row_key k) (act_columns q x) ≡ eq_by_cmp act_cmp k q
act_tested k q x = both_tied _ _ (name_cmp k.order q.order) (nat_cmp k.n q.n) (texts_equal k.order q.order) (and_true _ ∙ numbers_equal k.n q.n)

-- the journey and the acts of an order
pub journey_order_tested : (order q : List ℕ) (x : JourneyRow) → has_key the.Journey (name_key order) (journey_columns q x) ≡ is_journey_of order (q, x)
journey_order_tested order q x = last_text_is q order

pub act_order_tested : (order : List ℕ) (q : ActKey) (x : ActRow) → has_columns (columns_deleted the.Act) (name_key order) (act_columns q x) ≡ is_of order (q, x)
act_order_tested order q x = last_text_is q.order order

pub leg_tested : (k q : LegKey) (x : List ℕ) → has_key the.Leg (leg_key k) (leg_columns q x) ≡ eq_by_cmp leg_cmp k q
leg_tested k q x = both_tied _ _ (name_cmp k.order q.order) (nat_cmp k.k q.k) (texts_equal k.order q.order) (and_true _ ∙ numbers_equal k.k q.k)

pub load_tested : (k q : List ℕ) (x : Place) → has_key the.Load (name_key k) (load_columns q x) ≡ eq_by_cmp name_cmp k q
load_tested k q (place.Station station) = one_name k q
load_tested k q (place.Vehicle key) = one_name k q
load_tested k q place.Checking = one_name k q
load_tested k q place.Left = one_name k q

pub job_tested : (k q : List ℕ) (x : JobRow) → has_key the.Job (name_key k) (job_columns q x) ≡ eq_by_cmp name_cmp k q
job_tested k q x = one_name k q

-- the kinds are words that differ
pub hold_tested : (k q : Thing) (x : VehicleKey) → has_key the.Hold (hold_key k) (hold_columns q x) ≡ eq_by_cmp thing_cmp k q
hold_tested (thing.Node k) (thing.Node q) x = both_tied _ _ (nat_cmp 0 0) (name_cmp k q) (texts_equal _ _) (one_name k q)
hold_tested (thing.Node k) (thing.Edge q) x = both_tied _ _ (nat_cmp 0 1) (name_cmp k q) (texts_equal _ _) (one_name k q)
hold_tested (thing.Edge k) (thing.Node q) x = both_tied _ _ (nat_cmp 1 0) (name_cmp k q) (texts_equal _ _) (one_name k q)
hold_tested (thing.Edge k) (thing.Edge q) x = both_tied _ _ (nat_cmp 1 1) (name_cmp k q) (texts_equal _ _) (one_name k q)

kinds_differ : (k q : UseKind) → is_equal (Text (use_name q)) (Text (use_name k)) ≡ is_eq (nat_cmp (use_rank k) (use_rank q))
kinds_differ used.Order used.Order = texts_equal _ _
kinds_differ used.Order used.Reference = texts_equal _ _
kinds_differ used.Reference used.Order = texts_equal _ _
kinds_differ used.Reference used.Reference = texts_equal _ _

pub used_tested : (k q : UseKey) → has_key the.Used (used_columns k) (used_columns q) ≡ eq_by_cmp use_cmp k q
used_tested k q = both_tied _ _ (nat_cmp (use_rank k.kind) (use_rank q.kind)) (name_cmp k.name q.name) (kinds_differ k.kind q.kind) (one_name k.name q.name)
