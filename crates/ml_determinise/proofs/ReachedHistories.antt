-- Histories that are reached: their states are below the number of states, so the marks of their steps have priorities
-- below the neutral one.
--
--   behind        == what is behind a history that is reached is reached
--   reached_small == the states of a history that is reached are states of the automaton
--   reached_fits  == the mark of a step from it has a number below the neutral priority
use Rattle.std.proofs.Common.{ℕ, ◌<◌, List, [], ◌∷◌, refl, sym, subst, inl}
use Rattle.ml_lists.specs.Member.{IsMember}
use Rattle.ml_lists.proofs.Member.{Image, Place, member-map_from, member-place}
use Rattle.ml_trace.specs.declared.letters.Transition.{Transition}
use Rattle.ml_trace.specs.MarkOrder.{FitsBelow}
use Rattle.ml_trace.specs.Stack.{Item}
use Rattle.ml_history.specs.HistoryStep.{stepped, step_mark}
use Rattle.ml_determinise.specs.Histories.{StaysBelow, letter_at, neutral}
use Rattle.ml_determinise.specs.Numbering.{IsReached, at_start, along, successors}
use Rattle.ml_determinise.proofs.FiniteHistories.{Small, start_small, small_step, marks_fit}

pub behind : (row : List (List Transition)) (q : ℕ) (h k : List (Item ℕ))
    → IsReached row q h
    → IsMember k (successors row h)
    → IsReached row q k
behind row q h k r m = from (member-map_from (stepped h) k row m)
  where
    from : Image (stepped h) k row → IsReached row q k
    from i = subst (IsReached row q) (sym i.holds) (along h i.from r i.member)

module _ (states : ℕ) (row : List (List Transition)) (q : ℕ) (stays : StaysBelow states row) (low : q < states) where
  pub reached_small : (h : List (Item ℕ)) → IsReached row q h → Small states h
  reached_small h at_start = start_small states q low
  reached_small k (along h letter r m) = at (member-place letter row m) (reached_small h r)
    where
      at : Place letter row → Small states h → Small states (stepped h letter)
      at p small =
          subst (λ l. Small states (stepped h l)) (p.holds []) (small_step states row stays h p.place small)

  pub reached_fits : (h : List (Item ℕ)) (letter : List Transition)
      → IsReached row q h
      → IsMember letter row
      → FitsBelow (neutral states) (step_mark h letter)
  reached_fits h letter r m = at (member-place letter row m)
    where
      at : Place letter row → FitsBelow (neutral states) (step_mark h letter)
      at p =
          subst (λ l. FitsBelow (neutral states) (step_mark h l)) (p.holds [])
          (marks_fit states row stays h (p.place ∷ []) (reached_small h r) (step_mark h (letter_at row p.place))
          (inl refl))
