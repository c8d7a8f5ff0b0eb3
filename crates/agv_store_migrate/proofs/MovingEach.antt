-- Rows that are written for each entry of a table, in turn.
use Rattle.std.proofs.Common.{◌≡◌, ◌∙◌, ◌++◌, List, [], ◌∷◌, append_assoc, append-nil, Result, Ok, Err, OnOk, IsTrue, refl, sym, ap, subst, arith}
use Rattle.sqlite_value.specs.Order.{Row}
use Rattle.sqlite_trees.specs.Tree.{Trees}
use Rattle.sqlite.specs.State.{HasCleanDisk, State, Survives}
use Rattle.agv_store_migrate.specs.Moved.{for_each}
use Rattle.agv_store_schema.specs.DeskRows.{Makes}
use Rattle.agv_store_changes.proofs.ChangesRun.{makes_nothing}
use Rattle.agv_store_sql.proofs.DeskStatements.{makes_then}

module _ {E : Type 0} (step : E → List (List Row) → List (List Row)) where
  each_more : (es : List E) (one : E) (lists : List (List Row)) → for_each step (es ++ one ∷ []) lists ≡ step one (for_each step es lists)
  each_more [] one lists = refl
  each_more (e ∷ es) one lists = each_more es one (step e lists)

  -- it is done for those before the rest
  pub record Leads (all : List E) (first : State) (rest : List E) (now : State) : Type 0 where
    pub before : List E
    pub is : before ++ rest ≡ all
    pub made : Makes (for_each step before) first now

  pub leads_first : (all rest : List E) (first : State) → rest ≡ all → IsTrue first.in_transaction → Leads all first rest first
  leads_first all rest first same inside = record { before = []; is = same; made = makes_nothing first inside }

  -- one more is done
  pub leads_next : (all : List E) (first : State) (one : E) (left rest : List E) (now next : State) → left ≡ one ∷ rest → Leads all first left now → Makes (step one) now next → Leads all first rest next
  leads_next all first one left rest now next is leads done = record {
    before = leads.before ++ one ∷ [];
    is = append_assoc leads.before (one ∷ []) rest ∙ ap (λ es. leads.before ++ es) (sym is) ∙ leads.is;
    made = subst (λ (change : List (List Row) → List (List Row)). Makes change first next) (λ i lists. sym (each_more leads.before one lists) i) (makes_then (for_each step leads.before) (step one) first now next leads.made done);
  }

  -- none is left
  pub leads_all : (all : List E) (first : State) (rest : List E) (now : State) → rest ≡ [] → Leads all first rest now → Makes (for_each step all) first now
  leads_all all first rest now none leads = subst (λ es. Makes (for_each step es) first now) (sym (append-nil leads.before) ∙ ap (λ es. leads.before ++ es) (sym none) ∙ leads.is) leads.made

-- one change, and then another that may fail
pub then_made : {X E : Type 0} (f g : List (List Row) → List (List Row)) (a b c : State) (r : Result X E) → Makes f a b → OnOk r (Makes g b c) → OnOk r (Makes (λ lists. g (f lists)) a c)
then_made f g a b c (Ok x) p q = makes_then f g a b c p q
then_made f g a b c (Err e) p q = tt

-- a state before another of a clean store was clean
pub was_clean : (a b : State) (leaves : Trees → Type 0) → Survives a b leaves → HasCleanDisk b → HasCleanDisk a
was_clean a b leaves survives clean = omega (arith, survives.clean)
