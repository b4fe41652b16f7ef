-- What there is one of: where a step leads, what is done at a position, and its moves.
--
--   same_follow   == a step along a diamond leads to one position
--   same_verdict  == a spread has one verdict
--   same_targets  == a position has the same moves by any turn
--   same_mover    == and the same player moves
use Rattle.std.proofs.Common.{ℕ, ◌≡◌, ◌<◌, ◌≤◌, ◌⊎◌, inl, inr, List, [], ◌∷◌, length, refl, sym, ap, ◌∙◌, subst, arith}
use Rattle.std.proofs.lemmas.Bool.{cases_lt}
use Rattle.ml_lists.specs.Member.{IsMember}
use Rattle.ml_lists.proofs.Ascending.{ascending_same}
use Rattle.ml_graph.specs.Graph.{Graph, odd_priorities}
use Rattle.ml_trace.specs.declared.letters.Transition.{Transition}
use Rattle.ml_trace.specs.declared.letters.Triple.{Triple}
use Rattle.ml_trace.specs.Automaton.{IsLetterOf}
use Rattle.ml_trace.specs.Marks.{priority}
use Rattle.ml_history.proofs.definition.LetterSets.{letters_are_sets}
use Rattle.ml_sequent.specs.Spread.{SpreadList, IsLeastOpenOr}
use Rattle.ml_product.specs.Position.{Position, neutral, Follows}
use Rattle.ml_product.specs.DecisionGame.{Verdict, Clashing, Open, Leading, Settled, Target, To, AreSteps, AreMoves, IsVerdictOf, Turn}
use Rattle.ml_product.specs.Movers.{mover}
use Rattle.ml_product.proofs.OnePlace.{same_spread}

-- letters of traces that are the same set have the same transitions
within : (odds : List ℕ) (ts us : List Triple) (l m : List Transition)
    → ((t : Triple) → IsMember t ts → IsMember t us)
    → IsLetterOf odds ts l
    → IsLetterOf odds us m
    → (t : Transition)
    → IsMember t l
    → IsMember t m
within odds ts us l m inside of_l of_m t i =
    let found = (of_l t).0 i in (of_m t).1 (found.0, inside found.0 found.1, found.2)

-- a step along a diamond leads to one position
pub same_follow : (g : Graph) (p : Position) (sp : SpreadList) (d : ℕ) (q r : Position)
    → Follows g p sp d q
    → Follows g p sp d r
    → q ≡ r
same_follow g p sp d q r f h =
    let sequents : q.sequent ≡ r.sequent =
    ascending_same q.sequent r.sequent f.is_step.ascends h.is_step.ascends
    (λ n m. (h.is_step.targets n).1 ((f.is_step.targets n).0 m))
    (λ n m. (f.is_step.targets n).1 ((h.is_step.targets n).0 m)) in
    let same =
    letters_are_sets p.history f.letter h.letter
    (within (odd_priorities g) f.traces h.traces f.letter h.letter
    (λ t m. (h.is_step.traces t).1 ((f.is_step.traces t).0 m)) f.is_letter h.is_letter)
    (within (odd_priorities g) h.traces f.traces h.letter f.letter
    (λ t m. (f.is_step.traces t).1 ((h.is_step.traces t).0 m)) h.is_letter f.is_letter) in
    let histories : q.history ≡ r.history = f.history ∙ same.0 ∙ sym h.history in
    let priorities : q.priority ≡ r.priority = f.marked ∙ ap (priority (neutral g)) same.1 ∙ sym h.marked in
    let choices : q.choice ≡ r.choice = f.unchosen ∙ sym h.unchosen in
    λ i. record { sequent = sequents i; history = histories i; priority = priorities i; choice = choices i }

same_steps : (g : Graph) (p : Position) (sp : SpreadList) (ds : List ℕ) (ts us : List Target)
    → AreSteps g p sp ds ts
    → AreSteps g p sp ds us
    → ts ≡ us
same_steps g p sp [] ts us a b = a ∙ sym b
same_steps g p sp (d ∷ ds) ts us (q, others, follows, rest, is) (r, more, also, behind, are) =
    let here = same_follow g p sp d q r follows also in
    let later = same_steps g p sp ds others more rest behind in
    is ∙ (λ i. To (here i) ∷ later i) ∙ sym are

same_moves : (g : Graph) (p : Position) (sp : SpreadList) (v : Verdict) (ts us : List Target)
    → AreMoves g p sp v ts
    → AreMoves g p sp v us
    → ts ≡ us
same_moves g p sp Clashing ts us a b = a ∙ sym b
same_moves g p sp (Open o) ts us a b = a ∙ sym b
same_moves g p sp (Leading ds) ts us a b = same_steps g p sp ds ts us a b
same_moves g p sp Settled ts us a b = a ∙ sym b

-- the least open or-node is one
same_open : (g : Graph) (sp : SpreadList) (n m : ℕ) → IsLeastOpenOr g sp n → IsLeastOpenOr g sp m → n ≡ m
same_open g sp n m a b = by_order (cases_lt n m) (cases_lt m n)
  where
    by_order : (n < m) ⊎ (m ≤ n) → (m < n) ⊎ (n ≤ m) → n ≡ m
    by_order (inl less) other = absurd (b.least n less a.is_open)
    by_order (inr more) (inl less) = absurd (a.least m less b.is_open)
    by_order (inr more) (inr less) = omega arith

-- a spread has one verdict
pub same_verdict : (g : Graph) (sp : SpreadList) (v w : Verdict) → IsVerdictOf g sp v → IsVerdictOf g sp w → v ≡ w
same_verdict g sp Clashing Clashing a b = refl
same_verdict g sp Clashing (Open o) a b = absurd (b.0 a.0 a.1)
same_verdict g sp Clashing (Leading ds) a b = absurd (b.0.no_clash a.0 a.1)
same_verdict g sp Clashing Settled a b = absurd (b.0.no_clash a.0 a.1)
same_verdict g sp (Open o) Clashing a b = absurd (a.0 b.0 b.1)
same_verdict g sp (Open o) (Open n) a b = ap Open (same_open g sp o n a.1 b.1)
same_verdict g sp (Open o) (Leading ds) a b = absurd (b.0.none_open o a.1.is_open)
same_verdict g sp (Open o) Settled a b = absurd (b.0.none_open o a.1.is_open)
same_verdict g sp (Leading ds) Clashing a b = absurd (a.0.no_clash b.0 b.1)
same_verdict g sp (Leading ds) (Open o) a b = absurd (a.0.none_open o b.1.is_open)
same_verdict g sp (Leading ds) (Leading es) a b = ap Leading (a.1 ∙ sym b.1)
same_verdict g sp (Leading ds) Settled a b = let e = ap length (a.1 ∙ b.1) in absurd (omega (arith, a.2))
same_verdict g sp Settled Clashing a b = absurd (a.0.no_clash b.0 b.1)
same_verdict g sp Settled (Open o) a b = absurd (a.0.none_open o b.1.is_open)
same_verdict g sp Settled (Leading ds) a b = let e = ap length (b.1 ∙ a.1) in absurd (omega (arith, b.2))
same_verdict g sp Settled Settled a b = refl

module _ (g : Graph) (p : Position) (t u : Turn g p) where
  same_found : t.spread ≡ u.spread
  same_found = same_spread g p.sequent p.choice t.spread u.spread t.is_spread u.is_spread

  same_done : t.verdict ≡ u.verdict
  same_done =
      same_verdict g u.spread t.verdict u.verdict (subst (λ sp. IsVerdictOf g sp t.verdict) same_found t.is_verdict)
      u.is_verdict

  -- a position has the same moves by any turn
  pub same_targets : t.targets ≡ u.targets
  same_targets =
      same_moves g p u.spread u.verdict t.targets u.targets
      (subst (λ v. AreMoves g p u.spread v t.targets) same_done
      (subst (λ sp. AreMoves g p sp t.verdict t.targets) same_found t.are_moves))
      u.are_moves

  -- and the same player moves
  pub same_mover : mover t.verdict ≡ mover u.verdict
  same_mover = ap mover same_done
