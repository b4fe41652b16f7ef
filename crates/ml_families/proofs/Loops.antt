-- The decision game of `repeat(a;a;..)`.
--
-- The start is a position of its own. Behind it the same positions come again and again, round by round: one for each node
-- to which an action leads, the last of which is the first node of the graph.
--
--   LoopNodes g k    == the nodes of the graph, for k + 1 actions
--   loop_nodes       == so they are
--   IsAfter k i v    == the action number i, counted from 0, leads to the node v
--   IsRound g k j p  == p is the start, where j is 0; or the fresh position to whose node the action before j leads
--   loop_kinds       == the moves lead from each of these to the next one, and from the last to the first behind the start
use Rattle.std.proofs.Common.{◌≡◌, ℕ, zero, suc, ◌+◌, ◌%◌, ◌==◌, ◌<◌, ◌≤◌, ◌⊎◌, false, List, [], ◌∷◌, Some, None, inl, inr, refl, sym, ap, subst, ◌∙◌, arith}
use Rattle.std.proofs.lemmas.Bool.{cases_lt}
use Rattle.ml_lists.specs.Member.{IsMember}
use Rattle.ml_lists.specs.Ascending.{ascending}
use Rattle.ml_lists.proofs.Ascending.{member-ascending}
use Rattle.ml_lists.proofs.Member.{member-filter, member-map, place-member}
use Rattle.ml_graph.specs.Graph.{Graph, node_at, odd_priorities, priority_at}
use Rattle.ml_nodes.specs.Nodes.{positive, negative, LeadsTo}
use Rattle.ml_pdl_graph.specs.PdlGraph.{IsGraphOf, diamond}
use Rattle.ml_gen.specs.Formulas.{loop_formula}
use Rattle.ml_gen.proofs.Occurrences.{acts_count}
use Rattle.ml_sequent.specs.LocalWalk.{stays}
use Rattle.ml_trace.specs.Automaton.{number}
use Rattle.ml_trace.specs.Stack.{Item}
use Rattle.ml_product.specs.Position.{Position, start_of}
use Rattle.ml_product.specs.DecisionGame.{To, Turn}
use Rattle.ml_families.proofs.Acts.{IsLeft, Walked, acts_walked, first_reached, left_at, leads_reach}
use Rattle.ml_families.proofs.Beginnings.{fresh}
use Rattle.ml_families.proofs.Forms.{Form, leaves, splits}
use Rattle.ml_families.proofs.Fresh.{IsBegun, fresh_at, fresh_begun, fresh_move, node_states}
use Rattle.ml_families.proofs.Listed.{IsLone, Kinds}

pub record LoopNodes (g : Graph) (k : ℕ) : Type 0 where
  pub root : g.root ≡ 0
  pub top : LeadsTo g (positive 0) (diamond 1) 0
  pub walked : Walked g 1 k (positive 0)
  -- the negation's priority is one of the odd ones
  pub odd : IsMember 1 (odd_priorities g)

pub loop_nodes : (g : Graph) (k : ℕ) → IsGraphOf g (loop_formula (suc k)) false → LoopNodes g k
loop_nodes g k is = record {
  root = is.root_is;
  top = is.stands.0;
  walked = acts_walked g k 1 (positive 0) (negative 0) is.stands.2;
  odd = member-ascending 1 _ (member-filter (λ d. d % 2 == 1) 1 g.priorities stands refl);
}
  where
    stands : IsMember 1 g.priorities
    stands =
        let whole = is.is_graph.priorities in
        let two = is.two_for_each in
        let count = acts_count k in
        subst (λ d. IsMember d g.priorities) is.stands.1.1
        (place-member g.priorities (negative 0) 0 (omega (arith, whole, two, count)))

pub data IsAfter (k i v : ℕ) : Type 0 where
  before_end : i < k → v ≡ diamond (1 + k + i + 1) → IsAfter k i v
  at_end : i ≡ k → v ≡ positive 0 → IsAfter k i v

after_one : (k i v w : ℕ) → IsAfter k i v → IsAfter k i w → v ≡ w
after_one k i v w (before_end low e) (before_end under f) = e ∙ sym f
after_one k i v w (before_end low e) (at_end end f) = absurd (omega arith)
after_one k i v w (at_end end e) (before_end low f) = absurd (omega arith)
after_one k i v w (at_end end e) (at_end ends f) = e ∙ sym f

after_apart : (k i j v : ℕ) → IsAfter k i v → IsAfter k j v → i ≡ j
after_apart k i j v (before_end low e) (before_end under f) = omega arith
after_apart k i j v (before_end low e) (at_end end f) = absurd (omega arith)
after_apart k i j v (at_end end e) (before_end low f) = absurd (omega arith)
after_apart k i j v (at_end end e) (at_end ends f) = omega arith

-- the nodes of the spread at the first node
data Round (k n : ℕ) : Type 0 where
  at_top : n ≡ positive 0 → Round k n
  on_way : (i : ℕ) → i < k → n ≡ diamond (1 + i) → Round k n
  at_act : n ≡ diamond (1 + k) → Round k n

way : (k i : ℕ) → i ≤ k → Round k (diamond (1 + i))
way k i low = by_place (cases_lt i k)
  where
    by_place : (i < k) ⊎ (k ≤ i) → Round k (diamond (1 + i))
    by_place (inl before) = on_way i before refl
    by_place (inr at) = at_act (omega arith)

-- the two states of a node differ, so the fresh position isn't the start
one_entry : (xs : List (Item ℕ)) (x a b : Item ℕ) → xs ≡ x ∷ [] → IsMember a xs → IsMember b xs → a.state ≡ b.state
one_entry xs x a b is of_a of_b = by_one (subst (IsMember a) is of_a) (subst (IsMember b) is of_b)
  where
    by_one : (a ≡ x) ⊎ ⊥ → (b ≡ x) ⊎ ⊥ → a.state ≡ b.state
    by_one (inl same) (inl also) = ap (λ (y : Item ℕ). y.state) (same ∙ sym also)
    by_one (inl same) (inr none) = absurd none
    by_one (inr none) other = absurd none

module _ (g : Graph) (k : ℕ) (x : LoopNodes g k) where
  act_left : (j : ℕ) → j ≤ k → (v : ℕ) × IsAfter k j v × IsLeft g (diamond (1 + k + j)) v
  act_left j low = by_place (cases_lt j k)
    where
      by_place : (j < k) ⊎ (k ≤ j) → (v : ℕ) × IsAfter k j v × IsLeft g (diamond (1 + k + j)) v
      by_place (inl before) = (diamond (1 + k + j + 1), before_end before refl, x.walked.leaves j before)
      by_place (inr at) = (
        positive 0,
        at_end (omega arith) refl,
        left_at g (diamond (1 + k + k)) (diamond (1 + k + j)) (positive 0) (positive 0) (omega arith) refl x.walked.last,
      )

  -- ---- from the first node

  first : (v : ℕ) × IsAfter k 0 v × IsLeft g (diamond (1 + k)) v
  first =
      let left = act_left 0 (omega arith) in
      (left.0, left.1, left_at g (diamond (1 + k + 0)) (diamond (1 + k)) left.0 left.0 (omega arith) refl left.2)

  form : (b n : ℕ) → Round k n → Form g (Round k) (diamond (1 + k)) b n
  form b n (at_top e) =
      let on = way k 0 (omega arith) in
      splits (diamond 1) (diamond 1) (ap (node_at g) e ∙ x.top.0) on on
  form b n (on_way i low e) =
      let on = way k (i + 1) (omega arith) in
      let same : diamond (1 + (i + 1)) ≡ diamond (1 + i + 1) = omega arith in
      let there = subst (Round k) same on in
      splits (diamond (1 + i + 1)) (diamond (1 + i + 1)) (ap (node_at g) e ∙ (x.walked.leads i low).0) there there
  form b n (at_act e) = leaves e

  even : (n : ℕ) → Round k n → priority_at g n % 2 ≡ 0
  even n (at_top e) = let same = ap (priority_at g) e in omega (arith, same, x.top.1)
  even n (on_way i low e) = let same = ap (priority_at g) e in omega (arith, same, (x.walked.leads i low).1)
  even n (at_act e) = let same = ap (priority_at g) e in omega (arith, same, first.2.1.1)

  from_first : (p : Position) → IsBegun g (positive 0) p → (t : Turn g p) → t.targets ≡ To (fresh_at g first.0) ∷ []
  from_first p begun =
      fresh_move g p (Round k) (positive 0) (diamond (1 + k)) first.2.0 first.0 begun
      (record { form = form first.0; even = even }) first.2.1.0 (at_top refl)
      (leads_reach g p.choice (positive 0) (diamond 1) (diamond (1 + k)) 0 x.top
      (first_reached g p.choice 1 k (positive 0) x.walked))

  -- ---- from the others

  abbrev Alone : ℕ → ℕ → Type 0
  Alone d n = n ≡ d

  from_other : (p : Position) (d v : ℕ)
      → IsBegun g d p
      → IsLeft g d v
      → (t : Turn g p)
      → t.targets ≡ To (fresh_at g v) ∷ []
  from_other p d v begun left =
      fresh_move g p (Alone d) d d left.0 v begun
      (record {
        form = λ n here. leaves here;
        even = λ n here. let same = ap (priority_at g) here in omega (arith, same, left.1.1);
      }) left.1.0 refl (priority_at g d, stays d)

  -- ---- the positions

  abbrev pub IsRound : ℕ → Position → Type 0
  IsRound zero p = p ≡ start_of g
  IsRound (suc i) p = (v : ℕ) × IsAfter k i v × (p ≡ fresh_at g v)

  start_begun : IsBegun g (positive 0) (start_of g)
  start_begun = record {
    sequent = ap (λ r. r ∷ []) x.root;
    unchosen = refl;
    fresh = each;
    has_state = record {
      item = fresh (number (odd_priorities g) (record { node = g.root; odd = None }));
      member = inl refl;
      state_is = ap (λ r. number (odd_priorities g) (record { node = r; odd = None })) x.root;
    };
  }
    where
      each : (a : Item ℕ) → IsMember a (start_of g).history → a.stack ≡ 0 ∷ []
      each a (inl same) = ap (λ (y : Item ℕ). y.stack) same
      each a (inr none) = absurd none

  next_kind : (i : ℕ) (p : Position) (v w : ℕ) → p ≡ fresh_at g v → IsAfter k (suc i) w → IsLeft g v w
      → (t : Turn g p)
      → (q : Position) × (t.targets ≡ To q ∷ []) × IsRound (suc (suc i)) q
  next_kind i p v w is after left t =
      let begun = subst (IsBegun g v) (sym is) (fresh_begun g v) in
      (fresh_at g w, from_other p v w begun left t, (w, after, refl))

  goes : (i : ℕ) → i < suc k → (p : Position) → IsRound i p → (t : Turn g p)
      → (q : Position) × (t.targets ≡ To q ∷ []) × IsRound (suc i) q
  goes zero low p is t =
      let begun = subst (IsBegun g (positive 0)) (sym is) start_begun in
      (fresh_at g first.0, from_first p begun t, (first.0, first.1, refl))
  goes (suc i) low p (v, before_end under e, is) t =
      let left = act_left (suc i) (omega arith) in
      let same : diamond (1 + k + suc i) ≡ v = omega arith in
      next_kind i p v left.0 is left.1 (subst (λ n. IsLeft g n left.0) same left.2) t
  goes (suc i) low p (v, at_end end e, is) t = absurd (omega arith)

  ends : (p : Position) → IsRound (suc k) p → (t : Turn g p) → (q : Position) → IsMember (To q) t.targets
      → (j : ℕ) × (0 < j) × (j ≤ suc k) × IsLone IsRound j q
  ends p (v, before_end under e, is) t q m = absurd (omega arith)
  ends p (v, at_end end e, is) t q m =
      let begun = subst (IsBegun g (positive 0)) (sym (is ∙ ap (fresh_at g) e)) (fresh_begun g (positive 0)) in
      by_one (subst (IsMember (To q)) (from_first p begun t) m)
    where
      lone : q ≡ fresh_at g first.0 → IsLone IsRound 1 q
      lone same = record {
        is_of = (first.0, first.1, same);
        alone = λ r (w, after, there). there ∙ ap (fresh_at g) (after_one k 0 w first.0 after first.1) ∙ sym same;
      }

      by_one : (To q ≡ To (fresh_at g first.0)) ⊎ ⊥ → (j : ℕ) × (0 < j) × (j ≤ suc k) × IsLone IsRound j q
      by_one (inl same) = (1, omega arith, omega arith, lone (cc))
      by_one (inr none) = absurd none

  not_start : (v : ℕ) → fresh_at g v ≡ start_of g → ⊥
  not_start v same =
      let odds = odd_priorities g in
      let plainly = number odds (record { node = v; odd = None }) in
      let guessed = number odds (record { node = v; odd = Some 1 }) in
      let states = node_states odds v in
      let histories = ap (λ (p : Position). p.history) same in
      let e = one_entry (fresh_at g v).history (fresh (number odds (record { node = g.root; odd = None })))
      (fresh plainly) (fresh guessed) histories
      (member-map fresh plainly (ascending states) (member-ascending plainly states (inl refl)))
      (member-map fresh guessed (ascending states)
      (member-ascending guessed states
      (inr (member-map (λ d. number odds (record { node = v; odd = Some d })) 1 odds x.odd)))) in
      omega (arith, e)

  apart : (i j : ℕ) (p : Position) → IsRound i p → IsRound j p → i ≡ j
  apart zero zero p a b = refl
  apart zero (suc j) p a (w, after, is) = absurd (not_start w (sym is ∙ a))
  apart (suc i) zero p (v, after, is) b = absurd (not_start v (sym is ∙ b))
  apart (suc i) (suc j) p (v, after, is) (w, also, there) =
      let same = ap (λ (q : Position). first_of q.sequent) (sym is ∙ there) in
      let later = after_apart k i j v after (subst (IsAfter k j) (sym same) also) in
      omega arith
    where
      first_of : List ℕ → ℕ
      first_of [] = 0
      first_of (n ∷ ns) = n

  pub loop_kinds : Kinds g IsRound (suc k)
  loop_kinds = record { apart = apart; starts = refl; goes = goes; ends = ends }
