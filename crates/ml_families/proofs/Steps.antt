-- The decision game of `<a;a;..>p & [a*]!p`.
--
-- Behind j actions the sequent has the node at which the run goes on, and behind the start that of the star's box. The run
-- ends at p, where nothing is left to do.
--
--   StepNodes g k o  == the nodes of the graph, for k + 1 actions; the box stands at the occurrence o
--   step_nodes       == so they are
--   Here k o j       == the nodes of the spread behind j actions
--   IsBehind k o j p == p is a position behind j actions
--   step_kinds       == the moves lead from each of these to the next one
use Rattle.std.proofs.Common.{◌≡◌, ℕ, zero, suc, ◌+◌, ◌%◌, ◌<◌, ◌≤◌, ◌⊎◌, true, false, codes, List, [], ◌∷◌, inl, inr, refl, sym, ap, subst, ◌∙◌, arith}
use Rattle.std.proofs.lemmas.Bool.{cases_lt}
use Rattle.ml_lists.specs.Member.{IsMember}
use Rattle.ml_graph.specs.Graph.{Graph, node_at, priority_at}
use Rattle.ml_graph.specs.declared.node.Node.TheVariants as node
use Rattle.ml_nodes.specs.Nodes.{positive, negative, IsNode, LeadsTo}
use Rattle.ml_pdl.specs.Formula.{Formula, Prop, Not, Modal, Star, program_occurrences}
use Rattle.ml_pdl.specs.declared.term.Modality.TheVariants.{Square}
use Rattle.ml_pdl_graph.specs.PdlGraph.{IsGraphOf, ProgramStandsAt, StandsAt, diamond, box, plain}
use Rattle.ml_gen.specs.Formulas.{act, acts, step_formula}
use Rattle.ml_gen.proofs.Occurrences.{acts_count}
use Rattle.ml_sequent.specs.LocalWalk.{children_of, stays}
use Rattle.ml_product.specs.Position.{Position}
use Rattle.ml_product.specs.DecisionGame.{To, Turn}
use Rattle.ml_families.proofs.Acts.{IsLeft, Walked, acts_walked, first_reached, left_at, leads_reach}
use Rattle.ml_families.proofs.Forms.{Form, IsFormed, denies, form_quiet, form_region, leaves, moved, splits, squares}
use Rattle.ml_families.proofs.Listed.{Kinds}
use Rattle.ml_families.proofs.Regions.{AreIn, Reaches, is_quiet, no_target, one_more}

-- ---- the nodes

-- the occurrence at which p stands behind the run, and that of the box
abbrev pub goal_place : ℕ → ℕ
goal_place k = 2 + k + k + 1

abbrev pub box_place : ℕ → ℕ
box_place k = 2 + k + k + 2

abbrev always_not : List ℕ → Formula
always_not p = Modal Square (Star act) (Not (Prop p))

-- the occurrences behind that of the box
abbrev pub star_place : ℕ → ℕ
star_place o = o + 1

abbrev pub again_place : ℕ → ℕ
again_place o = star_place o + 1

abbrev pub not_place : ℕ → ℕ
not_place o = star_place o + 2

abbrev pub never_place : ℕ → ℕ
never_place o = not_place o + 1

pub record StepNodes (g : Graph) (k o : ℕ) : Type 0 where
  pub top : IsNode g (positive 0) (node.And (positive 1) (positive o)) plain
  pub run : LeadsTo g (positive 1) (diamond 2) plain
  pub walked : Walked g 2 k (positive (goal_place k))
  pub goal : (p : ℕ) × IsNode g (positive (goal_place k)) (node.Lit p true) plain
  pub always : LeadsTo g (positive o) (box (star_place o)) plain
  pub star : IsNode g (box (star_place o)) (node.And (positive (not_place o)) (box (again_place o))) 2
  pub again : (a : ℕ) × IsNode g (box (again_place o)) (node.Square a (box (star_place o))) plain
  pub not_here : LeadsTo g (positive (not_place o)) (negative (never_place o)) plain
  pub never : (p : ℕ) × IsNode g (negative (never_place o)) (node.Lit p false) plain

pub step_nodes : (g : Graph) (k : ℕ) → IsGraphOf g (step_formula (suc k)) false → StepNodes g k (box_place k)
step_nodes g k is =
    let count = acts_count k in
    let run = is.stands.1 in
    let goal_at : 2 + program_occurrences (acts (suc k)) ≡ goal_place k = omega (arith, count) in
    let box_at : 1 + (1 + program_occurrences (acts (suc k)) + 1) ≡ box_place k = omega (arith, count) in
    let always : StandsAt g (box_place k) (always_not (codes "p")) =
    subst (λ o. StandsAt g o (always_not (codes "p"))) box_at is.stands.2 in
    let goal : (p : ℕ) × IsNode g (positive (goal_place k)) (node.Lit p true) plain =
    subst (λ r. (p : ℕ) × IsNode g (positive r) (node.Lit p true) plain) goal_at (run.3.0.0, run.3.0.1) in
    record {
      top = subst (λ o. IsNode g (positive 0) (node.And (positive 1) (positive o)) plain) box_at is.stands.0.0;
      run = run.0;
      walked = acts_walked g k 2 (positive (goal_place k)) (negative (goal_place k))
          (subst (λ r. ProgramStandsAt g 2 (positive r) (negative r) (acts (suc k))) goal_at run.2);
      goal = goal;
      always = always.0;
      star = always.2.1;
      again = (always.2.2.0, always.2.2.2);
      not_here = always.3.0;
      never = (always.3.2.1.0, always.3.2.1.1);
    }

pub step_root : (g : Graph) (k : ℕ) → IsGraphOf g (step_formula (suc k)) false → g.root ≡ 0
step_root g k is = is.root_is

-- ---- the spreads

pub data Below (o n : ℕ) : Type 0 where
  at_star : n ≡ box (star_place o) → Below o n
  at_again : n ≡ box (again_place o) → Below o n
  at_not_here : n ≡ positive (not_place o) → Below o n
  at_never : n ≡ negative (never_place o) → Below o n

pub data Here (k o j n : ℕ) : Type 0 where
  at_top : j ≡ 0 → n ≡ positive 0 → Here k o j n
  at_run : j ≡ 0 → n ≡ positive 1 → Here k o j n
  at_always : j ≡ 0 → n ≡ positive o → Here k o j n
  on_way : j ≡ 0 → (i : ℕ) → i < k → n ≡ diamond (2 + i) → Here k o j n
  at_act : n ≡ diamond (2 + k + j) → Here k o j n
  below : Below o n → Here k o j n

way : (k o j i : ℕ) → j ≡ 0 → i ≤ k → Here k o j (diamond (2 + i))
way k o j i z low = by_place (cases_lt i k)
  where
    by_place : (i < k) ⊎ (k ≤ i) → Here k o j (diamond (2 + i))
    by_place (inl before) = on_way z i before refl
    by_place (inr at) = at_act (omega arith)

module _ (g : Graph) (k o : ℕ) (x : StepNodes g k o) where
  act_left : (j : ℕ) → j ≤ k → IsLeft g (diamond (2 + k + j)) (diamond (2 + k + j + 1))
  act_left j low = by_place (cases_lt j k)
    where
      by_place : (j < k) ⊎ (k ≤ j) → IsLeft g (diamond (2 + k + j)) (diamond (2 + k + j + 1))
      by_place (inl before) = x.walked.leaves j before
      by_place (inr at) =
          left_at g (diamond (2 + k + k)) (diamond (2 + k + j)) (positive (goal_place k)) (diamond (2 + k + j + 1))
          (omega arith) (omega arith) x.walked.last

  form : (j n : ℕ) → Here k o j n → Form g (Here k o j) (diamond (2 + k + j)) (box (star_place o)) n
  form j n (at_top z e) =
      splits (positive 1) (positive o) (ap (node_at g) e ∙ x.top.0) (at_run z refl) (at_always z refl)
  form j n (at_run z e) =
      let on = way k o j 0 z (omega arith) in
      splits (diamond 2) (diamond 2) (ap (node_at g) e ∙ x.run.0) on on
  form j n (at_always z e) =
      splits (box (star_place o)) (box (star_place o)) (ap (node_at g) e ∙ x.always.0) (below (at_star refl)) (below (at_star refl))
  form j n (on_way z i low e) =
      let on = way k o j (i + 1) z (omega arith) in
      let same : diamond (2 + (i + 1)) ≡ diamond (2 + i + 1) = omega arith in
      let there = subst (Here k o j) same on in
      splits (diamond (2 + i + 1)) (diamond (2 + i + 1)) (ap (node_at g) e ∙ (x.walked.leads i low).0) there there
  form j n (at_act e) = leaves e
  form j n (below (at_star e)) =
      splits (positive (not_place o)) (box (again_place o)) (ap (node_at g) e ∙ x.star.0) (below (at_not_here refl))
      (below (at_again refl))
  form j n (below (at_again e)) = squares x.again.0 (ap (node_at g) e ∙ x.again.1.0)
  form j n (below (at_not_here e)) =
      splits (negative (never_place o)) (negative (never_place o)) (ap (node_at g) e ∙ x.not_here.0) (below (at_never refl))
      (below (at_never refl))
  form j n (below (at_never e)) = denies x.never.0 (ap (node_at g) e ∙ x.never.1.0)

  -- even where the node of the run is
  even : (j n : ℕ) → priority_at g (diamond (2 + k + j)) ≡ plain → Here k o j n → priority_at g n % 2 ≡ 0
  even j n act (at_top z e) = let same = ap (priority_at g) e in omega (arith, same, x.top.1)
  even j n act (at_run z e) = let same = ap (priority_at g) e in omega (arith, same, x.run.1)
  even j n act (at_always z e) = let same = ap (priority_at g) e in omega (arith, same, x.always.1)
  even j n act (on_way z i low e) = let same = ap (priority_at g) e in omega (arith, same, (x.walked.leads i low).1)
  even j n act (at_act e) = let same = ap (priority_at g) e in omega (arith, same, act)
  even j n act (below (at_star e)) = let same = ap (priority_at g) e in omega (arith, same, x.star.1)
  even j n act (below (at_again e)) = let same = ap (priority_at g) e in omega (arith, same, x.again.1.1)
  even j n act (below (at_not_here e)) = let same = ap (priority_at g) e in omega (arith, same, x.not_here.1)
  even j n act (below (at_never e)) = let same = ap (priority_at g) e in omega (arith, same, x.never.1.1)

  formed : (j : ℕ) → priority_at g (diamond (2 + k + j)) ≡ plain
      → IsFormed g (Here k o j) (diamond (2 + k + j)) (box (star_place o))
  formed j act = record { form = form j; even = λ n here. even j n act here }

  -- ---- the positions

  -- the node at which the run goes on
  abbrev pub goes_on : ℕ → ℕ
  goes_on zero = positive 0
  goes_on (suc j) = diamond (2 + k + suc j)

  pub record IsBehind (j : ℕ) (p : Position) : Type 0 where
    pub unchosen : p.choice ≡ []
    pub has : IsMember (goes_on j) p.sequent
    pub only : (m : ℕ) → IsMember m p.sequent → (m ≡ goes_on j) ⊎ (m ≡ box (star_place o))

  first_here : (j : ℕ) → Here k o j (goes_on j)
  first_here zero = at_top refl refl
  first_here (suc j) = at_act refl

  sequent_here : (j : ℕ) (p : Position) → IsBehind j p → AreIn (Here k o j) p.sequent
  sequent_here j p b m i = by_node (b.only m i)
    where
      by_node : (m ≡ goes_on j) ⊎ (m ≡ box (star_place o)) → Here k o j m
      by_node (inl same) = subst (Here k o j) (sym same) (first_here j)
      by_node (inr same) = below (at_star same)

  reached : (p : Position) (j : ℕ) → Reaches g p.choice (goes_on j) (diamond (2 + k + j))
  reached p zero =
      let on = leads_reach g p.choice (positive 1) (diamond 2) (diamond (2 + k)) plain x.run
      (first_reached g p.choice 2 k (positive (goal_place k)) x.walked) in
      let top = one_more g p.choice (positive 0) (positive 1) (diamond (2 + k))
      (subst (IsMember (positive 1)) (sym (ap (children_of p.choice (positive 0)) x.top.0)) (inl refl)) on in
      subst (λ n. Reaches g p.choice (positive 0) (diamond n)) (omega arith) top
  reached p (suc j) = (priority_at g (diamond (2 + k + suc j)), stays (diamond (2 + k + suc j)))

  goes : (j : ℕ) → j < suc k → (p : Position) → IsBehind j p → (t : Turn g p)
      → (q : Position) × (t.targets ≡ To q ∷ []) × IsBehind (suc j) q
  goes j low p b t =
      let left = act_left j (omega arith) in
      let m = moved g p (Here k o j) (diamond (2 + k + j)) (box (star_place o)) left.0 (diamond (2 + k + j + 1))
      (formed j left.1.1) left.1.0 (sequent_here j p b) t (goes_on j) b.has (reached p j) in
      let on : diamond (2 + k + j + 1) ≡ goes_on (suc j) = omega arith in (
        m.step.to,
        m.step.is,
        record {
          unchosen = m.step.follows.unchosen;
          has = subst (λ n. IsMember n m.step.to.sequent) on m.has;
          only = subst (λ n. (i : ℕ) → IsMember i m.step.to.sequent → (i ≡ n) ⊎ (i ≡ box (star_place o))) on m.only;
        },
      )

  place_even : (j : ℕ) → goes_on j % 2 ≡ 0
  place_even zero = omega arith
  place_even (suc j) = omega arith

  one_place : (i j : ℕ) → goes_on i ≡ goes_on j → i ≡ j
  one_place zero zero e = refl
  one_place zero (suc j) e = absurd (omega arith)
  one_place (suc i) zero e = absurd (omega arith)
  one_place (suc i) (suc j) e = omega arith

  apart : (i j : ℕ) (p : Position) → IsBehind i p → IsBehind j p → i ≡ j
  apart i j p a b = by_node (b.only (goes_on i) a.has)
    where
      by_node : (goes_on i ≡ goes_on j) ⊎ (goes_on i ≡ box (star_place o)) → i ≡ j
      by_node (inl same) = one_place i j same
      by_node (inr other) = let even_place = place_even i in absurd (omega (arith, even_place, other))

  -- at p nothing is left to do
  ends : (p : Position) → IsBehind (suc k) p → (t : Turn g p) (q : Position) → IsMember (To q) t.targets → ⊥
  ends p b t q to =
      let at : diamond (2 + k + suc k) ≡ positive (goal_place k) = omega arith in
      let literal : node_at g (diamond (2 + k + suc k)) ≡ node.Lit x.goal.0 true = ap (node_at g) at ∙ x.goal.1.0 in
      let usual : priority_at g (diamond (2 + k + suc k)) ≡ plain = ap (priority_at g) at ∙ x.goal.1.1 in
      let all = formed (suc k) usual in
      no_target g p (Here k o (suc k))
      (form_region g p.choice (Here k o (suc k)) (diamond (2 + k + suc k)) (box (star_place o)) all
      (ap (children_of p.choice (diamond (2 + k + suc k))) literal))
      (sequent_here (suc k) p b)
      (λ n here. quiet n literal
      (form_quiet g (Here k o (suc k)) (diamond (2 + k + suc k)) (box (star_place o)) n (all.form n here))) t q to
    where
      quiet : (n : ℕ) → node_at g (diamond (2 + k + suc k)) ≡ node.Lit x.goal.0 true
          → (n ≡ diamond (2 + k + suc k)) ⊎ (is_quiet (node_at g n) ≡ true)
          → is_quiet (node_at g n) ≡ true
      quiet n literal (inl same) = ap (λ m. is_quiet (node_at g m)) same ∙ ap is_quiet literal
      quiet n literal (inr is) = is

  pub step_kinds : g.root ≡ 0 → Kinds g IsBehind (suc k)
  step_kinds root = record {
    apart = apart;
    starts = record {
      unchosen = refl;
      has = inl (sym root);
      only = only;
    };
    goes = goes;
    ends = λ p b t q to. absurd (ends p b t q to);
  }
    where
      only : (m : ℕ) → (m ≡ g.root) ⊎ ⊥ → (m ≡ positive 0) ⊎ (m ≡ box (star_place o))
      only m (inl same) = inl (same ∙ root)
      only m (inr none) = absurd none
