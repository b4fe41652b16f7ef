-- Positions that differ in their priority alone.
--
--   twin_recorded == what is found at the one is found at the other
--   like_recorded == what says the same is found there too
use Rattle.std.proofs.Common.{ℕ, ◌≡◌, List, [], ◌∷◌, sym, ◌∙◌, subst}
use Rattle.ml_graph.specs.Graph.{Graph}
use Rattle.ml_sequent.specs.Spread.{SpreadList}
use Rattle.ml_product.specs.Position.{Position}
use Rattle.ml_product.specs.DecisionGame.{Verdict, Clashing, Open, Leading, Settled, Target, AreSteps, AreMoves}
use Rattle.ml_product.specs.declared.recorded.Recorded.{Recorded}
use Rattle.ml_product.specs.private.Recorded.{IsLike, AreVerticesAt, IsRecorded}

module _ (g : Graph) (p : Position) (k : ℕ) where
  abbrev twin : Position
  twin = record { sequent = p.sequent; history = p.history; priority = k; choice = p.choice }

  twin_steps : (sp : SpreadList) (ds : List ℕ) (ts : List Target) → AreSteps g p sp ds ts → AreSteps g twin sp ds ts
  twin_steps sp [] ts steps = steps
  twin_steps sp (d ∷ ds) ts (q, others, follows, rest, is) = (
    q,
    others,
    record {
      traces = follows.traces;
      letter = follows.letter;
      is_step = follows.is_step;
      is_letter = follows.is_letter;
      history = follows.history;
      marked = follows.marked;
      unchosen = follows.unchosen;
    },
    twin_steps sp ds others rest,
    is,
  )

  twin_moves : (sp : SpreadList) (v : Verdict) (ts : List Target) → AreMoves g p sp v ts → AreMoves g twin sp v ts
  twin_moves sp Clashing ts are = are
  twin_moves sp (Open o) ts are = are
  twin_moves sp (Leading ds) ts are = twin_steps sp ds ts are
  twin_moves sp Settled ts are = are

  twin_found : (ps : List Position) (r : Recorded) → IsRecorded g ps p r → IsRecorded g ps twin r
  twin_found ps r is = record {
    turn = record {
      spread = is.turn.spread;
      verdict = is.turn.verdict;
      targets = is.turn.targets;
      is_spread = is.turn.is_spread;
      is_verdict = is.turn.is_verdict;
      are_moves = twin_moves is.turn.spread is.turn.verdict is.turn.targets is.turn.are_moves;
    };
    owner_is = is.owner_is;
    moves_are = is.moves_are;
  }

-- what is found at the one is found at the other
pub twin_recorded : (g : Graph) (ps : List Position) (p q : Position) (r : Recorded) → p.sequent ≡ q.sequent
    → p.history ≡ q.history
    → p.choice ≡ q.choice
    → IsRecorded g ps p r
    → IsRecorded g ps q r
twin_recorded g ps p q r s h c is =
    let same : twin g p q.priority ≡ q =
    λ i. record { sequent = s i; history = h i; priority = q.priority; choice = c i } in
    subst (λ x. IsRecorded g ps x r) same (twin_found g p q.priority ps r is)

-- what says the same is found there too
pub like_recorded : (g : Graph) (ps : List Position) (p : Position) (r s : Recorded) → IsLike r s → IsRecorded g ps p s
    → IsRecorded g ps p r
like_recorded g ps p r s like is = record {
  turn = is.turn;
  owner_is = like.owner_is ∙ is.owner_is;
  moves_are = λ n. subst (AreVerticesAt n ps is.turn.targets) (sym (like.moves_are n)) (is.moves_are n);
}
