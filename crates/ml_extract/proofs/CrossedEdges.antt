-- From a state of the model to a next one, as a piece of two plays and of a run.
--
-- A play that follows a winning strategy of Odd's enters a state at a node of its sequent. It leaves it along a
-- diamond: a piece of a play of the checking game; a local trace of the step along the diamond, with the same lowest
-- priority; and a piece of a play of the decision game that follows Even's moves.
--
--   Entered    == a state that was entered by a step, at a node of its sequent, where Odd's strategy wins
--   Step, step == the next one, with the letter of the step
--   facts_at   == the facts of the position
use Rattle.std.proofs.Common.{ℕ, ◌≡◌, List, sym, ap, ◌∙◌, subst}
use Rattle.ml_lists.specs.Member.{IsMember}
use Rattle.ml_graph.specs.Graph.{odd_priorities}
use Rattle.ml_graph.specs.CheckingGame.{checking_game}
use Rattle.ml_parity.specs.declared.players.Player.TheVariants.{Odd}
use Rattle.ml_parity.specs.Game.{priority_of}
use Rattle.ml_parity.proofs.FollowedWalks.{won_at_end}
use Rattle.ml_trace.specs.declared.letters.Transition.{Transition}
use Rattle.ml_trace.specs.declared.letters.Triple.{Triple}
use Rattle.ml_trace.specs.Automaton.{Gives}
use Rattle.ml_trace.specs.Marks.{priority}
use Rattle.ml_history.specs.HistoryStep.{stepped, step_mark}
use Rattle.ml_product.specs.Position.{neutral}
use Rattle.ml_product.specs.Arena.{game_of}
use Rattle.ml_product.proofs.ArenaGame.{here}
use Rattle.ml_product.proofs.Reached.{Facts, Guessed, reached_facts, step_guesses}
use Rattle.ml_extract.proofs.Setting.{Setting, EvenWalk}
use Rattle.ml_extract.proofs.AtNodes.{Rival, pair, OddWalk, OddWins, AtState, resolved_at, in_spread}
use Rattle.ml_extract.proofs.LeavingStates.{Leaving, leave, lowest_occurs}

-- the facts of the position of a state
pub facts_at : (S : Setting) (t : AtState S) → Facts S.g t.position
facts_at S t = reached_facts S.g t.position (here S.g S.a S.arena t.state.first t.position t.stands)

-- a state that was entered by a step, at a node of its sequent, where Odd's strategy wins
pub record Entered (S : Setting) (R : Rival S) : Type 0 where
  pub place : AtState S
  pub node : ℕ
  pub member : IsMember node place.position.sequent
  pub wins : OddWins S R place.number node
  pub guesses : Guessed S.g place.position

-- the next one, with the letter of the step
pub record Step (S : Setting) (R : Rival S) (t : AtState S) (n : ℕ) : Type 0 where
  pub next : Entered S R
  pub letter : List Transition
  pub lowest : ℕ
  pub occurs : IsMember lowest S.g.priorities
  pub walk : OddWalk S R (pair S t.number n) lowest (pair S next.place.number next.node)
  pub traced : (m : Transition) → Gives (odd_priorities S.g) (record { from = n; lowest = lowest; to = next.node }) m
      → IsMember m letter
  pub history : next.place.position.history ≡ stepped t.position.history letter
  pub marked : next.place.position.priority ≡ priority (neutral S.g) (step_mark t.position.history letter)
  pub play : EvenWalk S t.state.first (priority_of (game_of S.a) t.state.first) next.place.state.first

module _ (S : Setting) (R : Rival S) (t : AtState S) (n : ℕ) (member : IsMember n t.position.sequent)
    (wins : OddWins S R t.number n) where
  step_along : Leaving S R t n → Step S R t n
  step_along l =
      let c = resolved_at S t in
      let x = l.crossing in
      let f = x.next.follows in
      let triple : Triple = record { from = n; lowest = l.lowest; to = x.child } in
      let traced = (f.is_step.traces triple).1 (record {
        from = subst (IsMember n) (sym c.sequent_is) member;
        leaving = l.exit;
        walk = l.course.walk;
        leads = x.leads;
      }) in
      let walk = l.course.plays (pair S x.next.place.number x.child) x.move in
      let end_facts = reached_facts S.g c.position (here S.g S.a S.arena t.state.last c.position c.stands) in
      record {
        next = record {
          place = x.next.place;
          node = x.child;
          member = (f.is_step.targets x.child).1 (record { leaving = l.exit; leads = x.leads });
          wins =
              won_at_end (checking_game S.g S.m) Odd R.moves (pair S t.number n) l.lowest
              (pair S x.next.place.number x.child) walk wins;
          guesses =
              step_guesses S.g c.position x.next.place.position t.state.spread x.diamond c.is_spread x.next.member f
              end_facts;
        };
        letter = f.letter;
        lowest = l.lowest;
        occurs = lowest_occurs S R t n l.lowest l.exit l.course.walk (in_spread S t n member);
        walk = walk;
        traced = λ m gives. (f.is_letter m).1 (triple, traced, gives);
        history = f.history ∙ ap (λ h. stepped h f.letter) c.history_is;
        marked = f.marked ∙ ap (λ h. priority (neutral S.g) (step_mark h f.letter)) c.history_is;
        play = c.goes_on x.next.place.state.first x.next.step;
      }

  pub step : Step S R t n
  step = step_along (leave S R t n (in_spread S t n member) wins)
