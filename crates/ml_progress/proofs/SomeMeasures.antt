-- Each game has least measures of both players, with the solution that they tell.
--
--   goes_or_not     == whether a move progresses is decided
--   some_first      == at a vertex of the player some successor is the first to which the move progresses
--   some_choice     == at each vertex there is a choice
--   some_measures   == there are both measures, with winners and choices read off them
use Rattle.std.proofs.Common.{ℕ, ◌≡◌, ◌+◌, ◌<◌, ◌≤◌, ◌⊎◌, inl, inr, ⊎_elim, arith, List, length, get_or, map, take, Option, Some, None, refl, sym, ◌∙◌, subst}
use Rattle.std.specs.List.{range_with_len}
use Rattle.std.proofs.lemmas.Bool.{cases_lt}
use Rattle.std.proofs.lemmas.List.{get_or_default}
use Rattle.std.proofs.lemmas.List.FromFn.{length-map-range_with_len, get_or-map-range_with_len}
use Rattle.ml_lists.specs.Found.{First}
use Rattle.ml_lists.proofs.Search.{search_first}
use Rattle.ml_parity.specs.declared.players.Player.{Player}
use Rattle.ml_parity.specs.declared.players.Player.TheVariants.{Even, Odd}
use Rattle.ml_parity.specs.Game.{ParityGame, IsGame, moves_of, owner_of, priority_of, size}
use Rattle.ml_progress.specs.Law.{SomeMeasured}
use Rattle.ml_progress.specs.Measure.{IsLeastMeasure, Measure, Progresses, ProgressesFrom, is_bad, measure_at}
use Rattle.ml_progress.specs.Measured.{IsFirstProgress, IsMeasured, MeasuredGame}
use Rattle.ml_progress.specs.private.Bounds.{bounds_of, cut_length}
use Rattle.ml_progress.specs.private.Choices.{AreChoices, AreWinners, IsChoiceFor, measure_for, winner_from, AreReadOff}
use Rattle.ml_progress.specs.private.Codes.{FitsIn, code, cut_level, step_of}
use Rattle.ml_progress.proofs.Progress.{measure_fits, progress_steps, steps_progress}
use Rattle.ml_progress.proofs.SomeLeast.{some_least}
use Rattle.ml_progress.proofs.ToldSolutions.{answer_first, answer_solution, answer_told, least_for}

module _ (g : ParityGame) (ok : IsGame g) where
  module _ (p : Player) (m : Measure) (least : IsLeastMeasure g p m) where
    abbrev bs : List ℕ
    bs = bounds_of g p

    goes_from : (v : ℕ) (a b : Option (List ℕ)) → FitsIn bs a → FitsIn bs b
        → ProgressesFrom g p v a b ⊎ (ProgressesFrom g p v a b → ⊥)
    goes_from v None b f h = inl tt
    goes_from v (Some xs) b f h =
        let c = cut_length g p v in
        let t = is_bad p (priority_of g v) in
        ⊎_elim
        (λ (less : code (take c bs) (take c xs) < cut_level c bs b + step_of t).
        let no_step : ProgressesFrom g p v (Some xs) b → ⊥ =
        λ goes. omega (arith, progress_steps g p v (Some xs) b f h goes, less) in
        inr no_step)
        (λ (more : cut_level c bs b + step_of t ≤ code (take c bs) (take c xs)).
        inl (steps_progress g p v (Some xs) b f h more))
        (cases_lt (code (take c bs) (take c xs)) (cut_level c bs b + step_of t))

    fits : (v : ℕ) → v < size g → FitsIn bs (measure_at m v)
    fits = measure_fits g p m least.progress.measure

    -- at a vertex of the player some successor is the first to which the move progresses
    some_first : (v : ℕ) → v < size g → owner_of g v ≡ p → (w : ℕ) × IsFirstProgress g p m v w
    some_first v low own = from (search_first P decide (length (moves_of g v)))
      where
        P : ℕ → Type 0
        P k = (k < length (moves_of g v)) × Progresses g p m v (get_or (moves_of g v) k 0)

        decide_at : (k : ℕ) → (k < length (moves_of g v)) ⊎ (length (moves_of g v) ≤ k) → P k ⊎ (P k → ⊥)
        decide_at k (inr past) = inr (λ holds. omega (arith, holds.0, past))
        decide_at k (inl within) =
            let there = ok.in_range v (get_or (moves_of g v) k 0)
            (k, within, get_or_default (moves_of g v) k (get_or (moves_of g v) k 0) 0 within) in
            ⊎_elim
            (λ (goes : Progresses g p m v (get_or (moves_of g v) k 0)). inl (within, goes))
            (λ (stays : Progresses g p m v (get_or (moves_of g v) k 0) → ⊥). inr (λ holds. stays holds.1))
            (goes_from v (measure_at m v) (measure_at m (get_or (moves_of g v) k 0)) (fits v low)
            (fits (get_or (moves_of g v) k 0) there))

        decide : (k : ℕ) → P k ⊎ (P k → ⊥)
        decide k = decide_at k (cases_lt k (length (moves_of g v)))

        from : First P (length (moves_of g v)) ⊎ ((k : ℕ) → k < length (moves_of g v) → P k → ⊥)
            → (w : ℕ) × IsFirstProgress g p m v w
        from (inl f) = (
          get_or (moves_of g v) f.place 0,
          record {
            place = f.place;
            first = record {
              below = f.is_first.below;
              holds = f.is_first.holds.1;
              before = λ j less goes. f.is_first.before j less (omega (arith, less, f.is_first.below), goes);
            };
            there = refl;
          },
        )
        from (inr none) =
            let some = least.progress.own v low own in
            let place = some.move in
            let here = get_or_default (moves_of g v) place.0 0 some.to place.1 ∙ place.2 in
            absurd (none place.0 place.1 (place.1, subst (Progresses g p m v) (sym here) some.progresses))

    -- there is a choice: the first successor to which the move progresses, or the first one where the player has the top
    some_choice : (v : ℕ) → v < size g → owner_of g v ≡ p → (w : ℕ) × IsChoiceFor g p m v w
    some_choice v low own = from (measure_at m v) refl
      where
        from : (a : Option (List ℕ)) → measure_at m v ≡ a → (w : ℕ) × IsChoiceFor g p m v w
        from None is = (get_or (moves_of g v) 0 0, record { listed = λ has. absurd (has is); top = λ none. refl })
        from (Some xs) is =
            let first = some_first v low own in
            (first.0, record { listed = λ has. first.1; top = λ none. let wrong = sym is ∙ none in absurd (cc) })

  module _ (me mo : Measure) (even : IsLeastMeasure g Even me) (odd : IsLeastMeasure g Odd mo) where
    choice_at_vertex : (v : ℕ) → v < size g
        → (w : ℕ) × IsChoiceFor g (owner_of g v) (measure_for (owner_of g v) me mo) v w
    choice_at_vertex v low =
        some_choice (owner_of g v) (measure_for (owner_of g v) me mo) (least_for g me mo even odd (owner_of g v)) v low
        refl

    abbrev chosen_by : (v : ℕ) → (v < size g) ⊎ (size g ≤ v) → ℕ
    chosen_by v (inl low) = (choice_at_vertex v low).0
    chosen_by v (inr past) = 0

    abbrev chosen : ℕ → ℕ
    chosen v = chosen_by v (cases_lt v (size g))

    chosen_is : (v : ℕ) (place : (v < size g) ⊎ (size g ≤ v)) → v < size g
        → IsChoiceFor g (owner_of g v) (measure_for (owner_of g v) me mo) v (chosen_by v place)
    chosen_is v (inl low) below = (choice_at_vertex v low).1
    chosen_is v (inr past) below = absurd (omega (arith, below, past))

    abbrev winners : List Player
    winners = map (λ v. winner_from (measure_at me v)) (range_with_len 0 (size g))

    abbrev choices : List ℕ
    choices = map chosen (range_with_len 0 (size g))

    are_winners : AreWinners g me winners
    are_winners = record {
      long = length-map-range_with_len (λ v. winner_from (measure_at me v)) 0 (size g);
      each = λ v low. get_or-map-range_with_len (λ u. winner_from (measure_at me u)) 0 (size g) v v Even low
          (omega arith);
    }

    are_choices : AreChoices g me mo choices
    are_choices = record {
      long = length-map-range_with_len chosen 0 (size g);
      each = λ v low.
          subst (IsChoiceFor g (owner_of g v) (measure_for (owner_of g v) me mo) v)
          (sym (get_or-map-range_with_len chosen 0 (size g) v v 0 low (omega arith)))
          (chosen_is v (cases_lt v (size g)) low);
    }

    abbrev all : MeasuredGame
    all = record { even = me; odd = mo; solution = record { winner = winners; choice = choices } }

    read : AreReadOff g me mo all
    read = record {
      even_is = refl;
      odd_is = refl;
      solution = record { winners = are_winners; choices = are_choices };
    }

    are_measured : IsMeasured g all
    are_measured = record {
      even = even;
      odd = odd;
      solution = answer_solution g ok me mo even odd all read;
      told = answer_told g ok me mo even odd all read;
      first = answer_first g ok me mo even odd all read;
    }

-- there are both measures, with winners and choices read off them
pub some_measures : SomeMeasured
some_measures g ok =
    let even = some_least g ok Even in
    let odd = some_least g ok Odd in
    (all g ok even.0 odd.0 even.1 odd.1, are_measured g ok even.0 odd.0 even.1 odd.1)
