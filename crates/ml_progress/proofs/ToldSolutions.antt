-- Winners and choices that are read off the least measures, and the solution that they are.
--
--   least_for                       == the measure of each player is the least one
--   told                            == the winner is the player whose measure isn't the top
--   told_solution, told_elsewhere   == they are a solution of the game
--   answer_even, .., answer_first == what is said of the answer
use Rattle.std.proofs.Common.{ℕ, ◌≡◌, ◌≢◌, ◌<◌, ⊎_elim, ◌↔◌, List, get_or, Option, Some, None, refl, sym, ap, ◌∙◌, subst}
use Rattle.ml_parity.specs.declared.players.Player.{Player}
use Rattle.ml_parity.specs.declared.players.Player.TheVariants.{Even, Odd}
use Rattle.ml_parity.specs.Game.{ParityGame, IsGame, HasMove, moves_of, owner_of, size}
use Rattle.ml_parity.specs.Winner.{WinsFrom, Wins}
use Rattle.ml_parity.specs.Solution.{GameSolution, IsSolution, FirstElsewhere, winner_at, choice_at}
use Rattle.ml_parity.proofs.Boards.{first_move, move_to}
use Rattle.ml_parity.proofs.Winners.{clash, won_by_either}
use Rattle.ml_progress.specs.Measure.{HasList}
use Rattle.ml_progress.specs.Measure.{Measure, Progresses, IsLeastMeasure, measure_at}
use Rattle.ml_progress.specs.Measured.{MeasuredGame, measure_of, IsTold, IsFirstProgress, FirstProgressing}
use Rattle.ml_progress.specs.private.Choices.{winner_from, AreWinners, IsChoiceFor, measure_for, AreChoices, AreReadOff}
use Rattle.ml_progress.proofs.Winning.{progress_wins}
use Rattle.ml_progress.proofs.WhoWins.{listed_won, won_listed}

-- a player is told by the measure of Even
from_even : (a : Option (List ℕ)) → (winner_from a ≡ Even) ↔ (a ≢ None)
from_even None = (λ e. absurd (cc), λ listed. absurd (listed refl))
from_even (Some xs) = (λ e f. cc, λ listed. refl)

from_odd : (a : Option (List ℕ)) → (winner_from a ≡ Odd) ↔ (a ≡ None)
from_odd None = (λ e. refl, λ e. refl)
from_odd (Some xs) = (λ e. absurd (cc), λ e. absurd (cc))

pub least_for : (g : ParityGame) (me mo : Measure) → IsLeastMeasure g Even me → IsLeastMeasure g Odd mo
    → (p : Player)
    → IsLeastMeasure g p (measure_for p me mo)
least_for g me mo even odd Even = even
least_for g me mo even odd Odd = odd

module _ (g : ParityGame) (ok : IsGame g) (me mo : Measure) (even : IsLeastMeasure g Even me)
    (odd : IsLeastMeasure g Odd mo)
    (winners : List Player) (choices : List ℕ) (won : AreWinners g me winners)
    (chosen : AreChoices g me mo choices) where
  -- the winner is the player whose measure isn't the top
  told : (p : Player) (v : ℕ) → v < size g → (winner_at winners v ≡ p) ↔ HasList (measure_for p me mo) v
  told Even v low = (
    λ e. (from_even (measure_at me v)).0 (sym (won.each v low) ∙ e),
    λ listed. won.each v low ∙ (from_even (measure_at me v)).1 listed,
  )
  told Odd v low = (
    λ e top. odd_lost ((from_odd (measure_at me v)).0 (sym (won.each v low) ∙ e)) top,
    λ listed. won.each v low ∙ (from_odd (measure_at me v)).1 (even_lost listed),
  )
    where
      odd_lost : measure_at me v ≡ None → measure_at mo v ≡ None → ⊥
      odd_lost top_e top_o = ⊎_elim
          (λ (a : Wins g Even v). won_listed g ok Even me even v low a top_e)
          (λ (a : Wins g Odd v). won_listed g ok Odd mo odd v low a top_o)
          (won_by_either g ok Even v low)

      even_lost : HasList mo v → measure_at me v ≡ None
      even_lost listed = from (measure_at me v) refl
        where
          from : (a : Option (List ℕ)) → measure_at me v ≡ a → a ≡ None
          from None is = refl
          from (Some xs) is =
              let has : HasList me v = λ top. let wrong = sym is ∙ top in cc in
              absurd (clash g ok Even v low (listed_won g ok Even me even.progress v low has)
              (listed_won g ok Odd mo odd.progress v low listed))

  choice_for : (v : ℕ) (p : Player) → v < size g → owner_of g v ≡ p
      → IsChoiceFor g p (measure_for p me mo) v (choice_at choices v)
  choice_for v p low own =
      subst (λ q. IsChoiceFor g q (measure_for q me mo) v (choice_at choices v)) own (chosen.each v low)

  -- where the owner has a list, the choice is the first successor to which the move progresses
  first : (v : ℕ) (p : Player) → v < size g → owner_of g v ≡ p → HasList (measure_for p me mo) v
      → IsFirstProgress g p (measure_for p me mo) v (choice_at choices v)
  first v p low own = (choice_for v p low own).listed

  -- each choice is a move
  move_of : (v : ℕ) (p : Player) → v < size g → owner_of g v ≡ p
      → (a : Option (List ℕ)) → measure_at (measure_for p me mo) v ≡ a → HasMove g v (choice_at choices v)
  move_of v p low own None is =
      subst (HasMove g v) (sym ((choice_for v p low own).top is)) (first_move g ok v low)
  move_of v p low own (Some xs) is =
      let f = first v p low own (λ top. let wrong = sym is ∙ top in cc) in
      subst (HasMove g v) (sym f.there) (move_to g v f.place f.first.below)

  move : (v : ℕ) → v < size g → HasMove g v (choice_at choices v)
  move v low = move_of v (owner_of g v) low refl (measure_at (measure_for (owner_of g v) me mo) v) refl

  -- a player wins with these choices wherever the player's measure has a list
  wins_by : (p : Player) (v : ℕ) → v < size g → HasList (measure_for p me mo) v → WinsFrom g p (choice_at choices) v
  wins_by p v low listed =
      progress_wins g ok p (measure_for p me mo) (least_for g me mo even odd p).progress (choice_at choices)
      (λ u below own has.
      let f = first u p below own has in
      subst (Progresses g p (measure_for p me mo) u) (sym f.there) f.first.holds)
      v low listed

  wins : (v : ℕ) → v < size g → WinsFrom g (winner_at winners v) (choice_at choices) v
  wins v low = wins_by (winner_at winners v) v low ((told (winner_at winners v) v low).0 refl)

  -- they are a solution of the game
  pub told_solution : IsSolution g (record { winner = winners; choice = choices })
  told_solution = record {
    winners = won.long;
    choices = chosen.long;
    strategies = λ p v low own. move v low;
    right = λ v low. record {
      strategy = choice_at choices;
      is_strategy = λ u below own. move u below;
      wins = wins v low;
    };
    wins = wins;
  }

  pub told_elsewhere : FirstElsewhere g (record { winner = winners; choice = choices })
  told_elsewhere v low other = at (measure_at (measure_for (owner_of g v) me mo) v) refl
    where
      at : (a : Option (List ℕ)) → measure_at (measure_for (owner_of g v) me mo) v ≡ a
          → choice_at choices v ≡ get_or (moves_of g v) 0 0
      at None is = (choice_for v (owner_of g v) low refl).top is
      at (Some xs) is =
          absurd (other (sym ((told (owner_of g v) v low).1 (λ top. let wrong = sym is ∙ top in cc))))

-- all of it, of the answer
module _ (g : ParityGame) (ok : IsGame g) (me mo : Measure) (even : IsLeastMeasure g Even me)
    (odd : IsLeastMeasure g Odd mo)
    (m : MeasuredGame) (read : AreReadOff g me mo m) where
  abbrev won : AreWinners g me m.solution.winner
  won = read.solution.winners

  abbrev chosen : AreChoices g me mo m.solution.choice
  chosen = read.solution.choices

  abbrev winners : List Player
  winners = m.solution.winner

  abbrev choices : List ℕ
  choices = m.solution.choice

  measure_is : (p : Player) → measure_of m p ≡ measure_for p me mo
  measure_is Even = read.even_is
  measure_is Odd = read.odd_is

  pub answer_even : IsLeastMeasure g Even m.even
  answer_even = subst (IsLeastMeasure g Even) (sym read.even_is) even

  pub answer_odd : IsLeastMeasure g Odd m.odd
  answer_odd = subst (IsLeastMeasure g Odd) (sym read.odd_is) odd

  pub answer_solution : IsSolution g m.solution
  answer_solution = told_solution g ok me mo even odd winners choices won chosen

  pub answer_elsewhere : FirstElsewhere g m.solution
  answer_elsewhere = told_elsewhere g ok me mo even odd winners choices won chosen

  pub answer_told : IsTold g m
  answer_told v p low =
      subst (λ k. (winner_at winners v ≡ p) ↔ HasList k v) (sym (measure_is p))
      (told g ok me mo even odd winners choices won chosen p v low)

  pub answer_first : FirstProgressing g m
  answer_first v low own =
      subst (λ k. IsFirstProgress g (owner_of g v) k v (choice_at choices v)) (sym (measure_is (owner_of g v)))
      (first g ok me mo even odd winners choices won chosen v (owner_of g v) low refl
      ((told g ok me mo even odd winners choices won chosen (owner_of g v) v low).0 (sym own)))
