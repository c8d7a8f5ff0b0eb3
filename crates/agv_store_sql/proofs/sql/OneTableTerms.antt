-- An expression that reads one table alone means the same wherever that table stands.
use Rattle.std.proofs.Common.{◌≡◌, ◌==◌, ◌^◌, ◌⊎◌, inl, inr, ℕ, zero, suc, nat_lt, List, [], Bool, true, false, Option, Some, None, option_map, option_and_then, unwrap_or, slice_get, codes, refl, sym, ap, ◌∙◌, Ok}
use Rattle.std.proofs.lemmas.Bool.{cases_Bool, and_parts, not-true}
use Rattle.sqlite_ast.specs.declared.Expr.{Expr, out-Expr}
use Rattle.sqlite_ast.specs.declared.Expr.TheOpen.{Expr-F}
use Rattle.sqlite_ast.specs.declared.Binary.{Binary}
use Rattle.sqlite_ast.specs.declared.Binary.TheVariants as binary
use Rattle.sqlite_ast.specs.Layer.{Layer}
use Rattle.sqlite_value.specs.declared.keys.Collation.{Collation}
use Rattle.sqlite_sql.specs.Term.{Term, lit, col, op1, op2, case}
use Rattle.sqlite_sql.specs.declared.ops.BinaryOp.{BinaryOp}
use Rattle.sqlite_sql.specs.declared.ops.BinaryOp.TheVariants as by
use Rattle.sqlite_schema.specs.declared.schema.Table.{Table}
use Rattle.sqlite_schema.specs.declared.schema.Schema.{Schema}
use Rattle.sqlite_schema.specs.Names.{column_named, place_of}
use Rattle.sqlite_resolve.specs.declared.scope.Output.{Output}
use Rattle.sqlite_resolve.specs.declared.scope.Found.TheVariants.{Column, Rowid}
use Rattle.sqlite_resolve.specs.Lowering.{Checked, or_else, carry, ◌>>=◌, ◌>>◌, Lowering, lift, nothing, pure, spend, begin, finish, last, chosen}
use Rattle.sqlite_resolve.specs.Scope.{Name, Context, column, find, term_of, in_level, only, hit, is_among, is_rowid, column_in, rowid_in, column_at, declared}
use Rattle.sqlite_resolve.specs.declared.state.Carried.{Carried}
use Rattle.sqlite_resolve.specs.declared.error.CompileError.TheVariants.{NoSuchColumn}
use Rattle.sqlite_resolve.specs.Compare.{of_column, affinity_of, compared}
use Rattle.sqlite_resolve.specs.Expr.{is_identity, lower_to, node, node_at, opened, passes, operation, both, combine, applied, operator, star, wanted_truth, tests_truth, tests_alias}
use Rattle.sqlite_resolve.specs.Body.{heading, heading_at, found_name, declared as declared_name}
use Rattle.agv_store_schema.proofs.OneTable.{is_bare, is_shown_by, reads_only_at, reads_only, scope_of}

abbrev pub around : Expr → Lowering Term → Lowering Term
around e inside = do
  spend 1
  outer ← begin
  x ← inside
  finish outer (passes e)
  pure x

-- the rowid, and the name that it is shown under: that of the column that stands for it, or its own
abbrev pub rowid_term : Lowering Term
rowid_term = carry nothing >> pure (col 1 0)

abbrev pub rowid_heading : Table → Name
rowid_heading t = unwrap_or (option_and_then (λ k. option_map (λ c. c.name) (slice_get t.columns k)) t.key) (codes "rowid")

-- the name is no column's, and so means the rowid
pub record NamesRowid (t : Table) (c : Name) : Type 0 where
  pub unnamed : column_named t c ≡ None
  pub rowid : is_rowid c ≡ true
  pub low : nat_lt t.tree (2 ^ 31) ≡ true

-- the column of that name, or the rowid
abbrev FoundBy : Table → Name → Type 0
FoundBy t c = ((k : ℕ) × (column_named t c ≡ Some k)) ⊎ NamesRowid t c

found_by : (t : Table) (c : Name) → is_bare t None c ≡ true → FoundBy t c
found_by t c bare = go (column_named t c) refl bare
  where
    go : (o : Option ℕ) → column_named t c ≡ o → is_shown_by o t c ≡ true → FoundBy t c
    go (Some k) named h = inl (k, named)
    go None named h = let both = and_parts _ _ h in inr (record { unnamed = named; rowid = both.0; low = both.1 })

module _ (t : Table) (s s' : Schema) (at at' : ℕ) (there : slice_get s.tables at ≡ Some t) (there' : slice_get s'.tables at' ≡ Some t) (name : Name) (shown : List Output) (may_aggregate may_alias : Bool) where
  abbrev here : Context
  here = scope_of s at name shown may_aggregate may_alias

  abbrev elsewhere : Context
  elsewhere = scope_of s' at' name shown may_aggregate may_alias

  -- ---- columns

  finds : (u : Schema) (n k : ℕ) → slice_get u.tables n ≡ Some t → (c : Name) → column_named t c ≡ Some k → find (scope_of u n name shown may_aggregate may_alias) None c ≡ Ok (Column 1 n k)
  unfolding find in_level only hit column_in is_among
  finds u n k is c named = rw (is, named)

  abbrev column_of : ℕ → Checked (Term × Carried)
  column_of k = or_else (option_map (λ c. (col 1 (place_of t k), declared t k c)) (slice_get t.columns k)) NoSuchColumn

  abbrev carried : Checked (Term × Carried) → Lowering Term
  carried r = lift r >>= (λ it. carry it.1 >> pure it.0)

  column_at_is : (u : Schema) (n k : ℕ) → slice_get u.tables n ≡ Some t → column_at u 1 n k ≡ column_of k
  unfolding column_at
  column_at_is u n k is = rw is

  column_is : (u : Schema) (n k : ℕ) → slice_get u.tables n ≡ Some t → (c : Name) → column_named t c ≡ Some k → column (scope_of u n name shown may_aggregate may_alias) None c ≡ carried (column_of k)
  unfolding column term_of
  column_is u n k is c named = ap (λ r. lift r >>= term_of (scope_of u n name shown may_aggregate may_alias)) (finds u n k is c named) ∙ ap carried (column_at_is u n k is)

  finds_rowid : (u : Schema) (n : ℕ) → slice_get u.tables n ≡ Some t → (c : Name) → NamesRowid t c → find (scope_of u n name shown may_aggregate may_alias) None c ≡ Ok (Rowid 1 n)
  unfolding find in_level only hit column_in rowid_in is_among
  finds_rowid u n is c it = rw (is, it.unnamed, it.rowid, it.low)

  rowid_is : (u : Schema) (n : ℕ) → slice_get u.tables n ≡ Some t → (c : Name) → NamesRowid t c → column (scope_of u n name shown may_aggregate may_alias) None c ≡ rowid_term
  unfolding column term_of
  rowid_is u n is c it = ap (λ r. lift r >>= term_of (scope_of u n name shown may_aggregate may_alias)) (finds_rowid u n is c it)

  column_same : (c : Name) → is_bare t None c ≡ true → column here None c ≡ column elsewhere None c
  column_same c bare = elim (found_by t c bare) [
    | inl k ↦ column_is s at k.0 there c k.1 ∙ sym (column_is s' at' k.0 there' c k.1)
    | inr it ↦ rowid_is s at there c it ∙ sym (rowid_is s' at' there' c it)
  ]

  -- ---- operators

  of_column_same : (slot k : ℕ) → of_column here slot k ≡ of_column elsewhere slot k
  unfolding of_column
  of_column_same slot zero = elim (cases_Bool (1 == slot)) [ inl e ↦ rw e | inr e ↦ rw e ]
  of_column_same slot (suc k) = elim (cases_Bool (1 == slot)) [ inl e ↦ rw (e, there, there') | inr e ↦ rw e ]

  affinity_same : (x : Term) → affinity_of here x ≡ affinity_of elsewhere x
  unfolding affinity_of
  affinity_same (lit v) = refl
  affinity_same (col slot k) = of_column_same slot k
  affinity_same (op1 op a) = refl
  affinity_same (op2 op a b) = refl
  affinity_same (case x a b) = refl

  compared_same : (op : BinaryOp) (a b : Term) → compared here op a b ≡ compared elsewhere op a b
  unfolding compared
  compared_same op a b = rw (affinity_same a, affinity_same b)

  applied_same : (o : Option BinaryOp) (a b : Term) → applied here o a b ≡ applied elsewhere o a b
  applied_same None a b = refl
  applied_same (Some (by.Compare op how)) a b = rw (compared_same (by.Compare op how) a b)
  applied_same (Some (by.Is how)) a b = rw (compared_same (by.Is how) a b)
  applied_same (Some _) a b = refl

  combine_same : (op : Binary) (how : Collation) (a b : Term) → is_identity op ≡ false → combine here op how a b ≡ combine elsewhere op how a b
  unfolding combine
  combine_same binary.IsNot how a b plain = absurd (cc)
  combine_same binary.Concat how a b plain = refl
  combine_same op how a b plain = applied_same (operator how op) a b

  abbrev one_then_other : Lowering Term → Lowering Term → (Collation → Term → Term → Lowering Term) → Lowering Term
  one_then_other a b joined = do
    x ← a
    p ← last
    y ← b
    joined (chosen p (← last)) x y

  operation_is : (d : ℕ) (c : Context) (op : Binary) (a b : Expr) → is_identity op ≡ false → operation (lower_to d) c op a b ≡ one_then_other (lower_to d c a) (lower_to d c b) (combine c op)
  unfolding operation both wanted_truth tests_truth tests_alias
  operation_is d c op a b plain = rw (plain, plain)

  -- ---- expressions

  star_same : (c : Name) → star here c ≡ star elsewhere c
  unfolding star
  star_same c = refl

  layer_same : (d : ℕ) → ((e : Expr) → reads_only t d e ≡ true → lower_to d here e ≡ lower_to d elsewhere e) → (x : Layer) → reads_only_at t (reads_only t d) x ≡ true → node_at (lower_to d) here x ≡ node_at (lower_to d) elsewhere x
  layer_same d same (Expr-F.Column None c) h = column_same c h
  layer_same d same (Expr-F.Column (Some qualifier) c) h = absurd (cc)
  layer_same d same (Expr-F.Parameter n) h = refl
  layer_same d same (Expr-F.Integer digits) h = refl
  layer_same d same (Expr-F.Text text) h = refl
  layer_same d same Expr-F.Null h = refl
  layer_same d same (Expr-F.CallStar c) h = star_same c
  layer_same d same (Expr-F.Binary op a b) h =
      let outer = and_parts _ _ h in
      let sides = and_parts _ _ outer.1 in
      let plain : is_identity op ≡ false = not-true _ outer.0 in
      let left = same a sides.0 in
      let right = same b sides.1 in
      let joined : combine here op ≡ combine elsewhere op = λ i how x y. combine_same op how x y plain i in
      operation_is d here op a b plain ∙ (λ i. one_then_other (left i) (right i) (joined i)) ∙ sym (operation_is d elsewhere op a b plain)
  layer_same d same _ h = absurd (cc)

  lower_is : (d : ℕ) (c : Context) (e : Expr) → lower_to (suc d) c e ≡ around e (node_at (lower_to d) c (out-Expr e))
  unfolding lower_to node opened
  lower_is d c e = refl

  pub lower_same : (d : ℕ) (e : Expr) → reads_only t d e ≡ true → lower_to d here e ≡ lower_to d elsewhere e
  unfolding lower_to
  lower_same zero e h = refl
  lower_same (suc d) e h = lower_is d here e ∙ ap (around e) (layer_same d (lower_same d) (out-Expr e) h) ∙ sym (lower_is d elsewhere e)

  -- ---- the names of columns that are shown

  declared_is : (u : Schema) (n k : ℕ) → slice_get u.tables n ≡ Some t → declared_name u n (Some k) ≡ option_map (λ c. c.name) (slice_get t.columns k)
  unfolding declared_name
  declared_is u n k is = rw is

  found_is : (u : Schema) (n k : ℕ) → slice_get u.tables n ≡ Some t → (c text : Name) → column_named t c ≡ Some k
      → found_name u text (find (scope_of u n name shown may_aggregate may_alias) None c) ≡ unwrap_or (option_map (λ x. x.name) (slice_get t.columns k)) text
  found_is u n k is c text named = ap (found_name u text) (finds u n k is c named) ∙ ap (λ o. unwrap_or o text) (declared_is u n k is)

  rowid_name : (u : Schema) (n : ℕ) → slice_get u.tables n ≡ Some t → found_name u [] (Ok (Rowid 1 n)) ≡ rowid_heading t
  unfolding declared_name
  rowid_name u n is = rw is

  found_rowid : (u : Schema) (n : ℕ) → slice_get u.tables n ≡ Some t → (c text : Name) → NamesRowid t c → found_name u text (find (scope_of u n name shown may_aggregate may_alias) None c) ≡ rowid_heading t
  found_rowid u n is c text it = ap (found_name u text) (finds_rowid u n is c it) ∙ rowid_name u n is

  heading_layer_same : (d : ℕ) (text : Name) (x : Layer) → reads_only_at t (reads_only t d) x ≡ true → heading_at here text x ≡ heading_at elsewhere text x
  heading_layer_same d text (Expr-F.Column None c) h = elim (found_by t c h) [
    | inl k ↦ found_is s at k.0 there c text k.1 ∙ sym (found_is s' at' k.0 there' c text k.1)
    | inr it ↦ found_rowid s at there c text it ∙ sym (found_rowid s' at' there' c text it)
  ]
  heading_layer_same d text (Expr-F.Column (Some qualifier) c) h = absurd (cc)
  heading_layer_same d text (Expr-F.Parameter n) h = refl
  heading_layer_same d text (Expr-F.Integer digits) h = refl
  heading_layer_same d text (Expr-F.Text word) h = refl
  heading_layer_same d text Expr-F.Null h = refl
  heading_layer_same d text (Expr-F.CallStar c) h = refl
  heading_layer_same d text (Expr-F.Binary op a b) h = refl
  heading_layer_same d text _ h = absurd (cc)

  pub heading_same : (d : ℕ) (e : Expr) (text : Name) → reads_only t (suc d) e ≡ true → heading here e text ≡ heading elsewhere e text
  unfolding heading
  heading_same d e text h = heading_layer_same d text (out-Expr e) h

  -- ---- the rowid that is shown

  pub rowid_lowered : (d : ℕ) (e : Expr) (c : Name) → out-Expr e ≡ Expr-F.Column None c → NamesRowid t c → lower_to (suc d) here e ≡ around e rowid_term
  rowid_lowered d e c is it = lower_is d here e ∙ ap (λ x. around e (node_at (lower_to d) here x)) is ∙ ap (around e) (rowid_is s at there c it)

  pub rowid_headed : (e : Expr) (text c : Name) → out-Expr e ≡ Expr-F.Column None c → NamesRowid t c → heading here e text ≡ rowid_heading t
  unfolding heading
  rowid_headed e text c is it = ap (heading_at here text) is ∙ found_rowid s at there c text it
