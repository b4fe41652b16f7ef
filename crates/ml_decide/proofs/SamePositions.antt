-- The decision games of graphs that differ in the numbers of names alone have the same positions.
--
--   same_verdict, same_step, same_follow, same_turn == what is said in g is said in h
--   same_reached   == a position that is reached in g is reached in h
--   more_there     == so as many positions are reached
use Rattle.std.proofs.Common.{◌≡◌, ℕ, ◌+◌, ◌*◌, Bool, None, List, [], ◌∷◌, filter, if◌then◌else◌, refl, sym, ◌∙◌, ap, subst}
use Rattle.ml_lists.specs.Member.{IsMember}
use Rattle.ml_graph.specs.Graph.{Graph, size, node_at, odd_priorities}
use Rattle.ml_history.specs.HistoryStep.{start}
use Rattle.ml_history.specs.HistoryStep.{step_mark}
use Rattle.ml_trace.specs.Marks.{priority}
use Rattle.ml_product.specs.Position.{Position, Follows, neutral, start_of, with_chosen}
use Rattle.ml_product.specs.DecisionGame.{AreMoves, AreSteps, Clashing, HasMoreThan, IsReached, IsResolved, IsVerdictOf, Leading}
use Rattle.ml_product.specs.DecisionGame.{Open, Settled, Target, To, Turn, Verdict, at_start, by_move, diamonds_of}
use Rattle.ml_sequent.specs.Spread.{SpreadList, is_diamond}
use Rattle.ml_sequent.specs.Step.{IsStep}
use Rattle.ml_sequent.specs.declared.choice.Side.{Side}
use Rattle.ml_sequent.specs.declared.choice.Side.TheVariants.{Left, Right}
use Rattle.ml_trace.specs.Automaton.{IsLetterOf, number, states_per_node}
use Rattle.ml_trace.specs.declared.letters.Triple.{Triple}
use Rattle.ml_refute_check.proofs.AlikeGraphs.{cause_same, is_diamond_same, odds_same, open_same, spread_same, target_same, trace_same}
use Rattle.ml_front.proofs.AlikeGraphs.{AreAlike, flip}

same_filter : (p q : ℕ → Bool) → ((n : ℕ) → p n ≡ q n) → (xs : List ℕ) → filter p xs ≡ filter q xs
same_filter p q same [] = refl
same_filter p q same (x ∷ xs) =
    ap (λ b. if b then x ∷ filter p xs else filter p xs) (same x)
    ∙ ap (λ ys. if q x then x ∷ ys else ys) (same_filter p q same xs)

module _ (g h : Graph) (x : AreAlike g h) where
  same_neutral : neutral g ≡ neutral h
  same_neutral =
      ap (λ n. 2 * (n * states_per_node (odd_priorities g) + 1)) x.sizes
      ∙ ap (λ ds. 2 * (size h * states_per_node ds + 1)) (odds_same g h x)

  same_diamonds : (sp : SpreadList) → diamonds_of g sp ≡ diamonds_of h sp
  same_diamonds sp =
      same_filter (λ n. is_diamond (node_at g n)) (λ n. is_diamond (node_at h n)) (is_diamond_same g h x) sp.nodes

  same_chosen : (p : Position) (o : ℕ) (s : Side) → with_chosen g p o s ≡ with_chosen h p o s
  same_chosen p o s = ap (λ k. record (with_chosen g p o s) { priority = k }) same_neutral

  same_start : start_of g ≡ start_of h
  same_start =
      let first : List ℕ → ℕ → ℕ = λ ds r. number ds (record { node = r; odd = None }) in
      ap (λ r. record (start_of g) { sequent = r ∷ []; history = start (first (odd_priorities g) r) }) x.roots
      ∙ ap (λ ds. record (start_of h) { history = start (first ds h.root); priority = neutral g }) (odds_same g h x)
      ∙ ap (λ k. record (start_of h) { priority = k }) same_neutral

module _ (g h : Graph) (x : AreAlike g h) where
  abbrev back : AreAlike h g
  back = flip g h x

  same_resolved : (sp : SpreadList) → IsResolved g sp → IsResolved h sp
  same_resolved sp r = record {
    no_clash = λ y is. r.no_clash y (cause_same h g back sp y is);
    none_open = λ n is. r.none_open n (open_same h g back sp n is);
  }

  same_verdict : (sp : SpreadList) (v : Verdict) → IsVerdictOf g sp v → IsVerdictOf h sp v
  same_verdict sp Clashing is = (is.0, cause_same g h x sp is.0 is.1)
  same_verdict sp (Open o) is = (
    λ y there. is.0 y (cause_same h g back sp y there),
    record {
      is_open = open_same g h x sp o is.1.is_open;
      least = λ m below there. is.1.least m below (open_same h g back sp m there);
    },
  )
  same_verdict sp (Leading ds) is = (same_resolved sp is.0, is.1 ∙ same_diamonds g h x sp, is.2)
  same_verdict sp Settled is = (same_resolved sp is.0, sym (same_diamonds g h x sp) ∙ is.1)

  same_step : (C : List ℕ) (sp : SpreadList) (d : ℕ) (next : List ℕ) (made : List Triple) → IsStep g C sp d next made
      → IsStep h C sp d next made
  same_step C sp d next made is = record {
    ascends = is.ascends;
    targets = λ m. (
      λ member. target_same g h x sp d m ((is.targets m).0 member),
      λ there. (is.targets m).1 (target_same h g back sp d m there),
    );
    traces = λ t. (
      λ member. trace_same g h x C sp d t ((is.traces t).0 member),
      λ there. (is.traces t).1 (trace_same h g back C sp d t there),
    );
  }

  same_follow : (p : Position) (sp : SpreadList) (d : ℕ) (q : Position) → Follows g p sp d q → Follows h p sp d q
  same_follow p sp d q f = record {
    traces = f.traces;
    letter = f.letter;
    is_step = same_step p.sequent sp d q.sequent f.traces f.is_step;
    is_letter = subst (λ ds. IsLetterOf ds f.traces f.letter) (odds_same g h x) f.is_letter;
    history = f.history;
    marked = f.marked ∙ ap (λ k. priority k (step_mark p.history f.letter)) (same_neutral g h x);
    unchosen = f.unchosen;
  }

  same_steps : (p : Position) (sp : SpreadList) (ds : List ℕ) (ts : List Target)
      → AreSteps g p sp ds ts
      → AreSteps h p sp ds ts
  same_steps p sp [] ts are = are
  same_steps p sp (d ∷ ds) ts are =
      (are.0, are.1, same_follow p sp d are.0 are.2, same_steps p sp ds are.1 are.3, are.4)

  same_moves : (p : Position) (sp : SpreadList) (v : Verdict) (ts : List Target)
      → AreMoves g p sp v ts
      → AreMoves h p sp v ts
  same_moves p sp Clashing ts are = are
  same_moves p sp (Open o) ts are =
      are ∙ ap (λ q. To q ∷ To (with_chosen g p o Right) ∷ []) (same_chosen g h x p o Left)
      ∙ ap (λ q. To (with_chosen h p o Left) ∷ To q ∷ []) (same_chosen g h x p o Right)
  same_moves p sp (Leading ds) ts are = same_steps p sp ds ts are
  same_moves p sp Settled ts are = are

  same_turn : (p : Position) → (t : Turn g p) → (u : Turn h p) × (u.targets ≡ t.targets)
  same_turn p t = (
    record {
      spread = t.spread;
      verdict = t.verdict;
      targets = t.targets;
      is_spread = spread_same g h x p.sequent p.choice t.spread t.is_spread;
      is_verdict = same_verdict t.spread t.verdict t.is_verdict;
      are_moves = same_moves p t.spread t.verdict t.targets t.are_moves;
    },
    refl,
  )

  same_reached : (p : Position) → IsReached g p → IsReached h p
  same_reached p at_start = subst (IsReached h) (sym (same_start g h x)) at_start
  same_reached q (by_move p _ t reached member) =
      let turn = same_turn p t in
      by_move p q turn.0 (same_reached p reached) (subst (IsMember (To q)) (sym turn.1) member)

  pub more_there : (n : ℕ) → HasMoreThan g n → HasMoreThan h n
  more_there n more = record {
    positions = more.positions;
    are_different = more.are_different;
    are_reached = λ p member. same_reached p (more.are_reached p member);
    are_more = more.are_more;
  }
