-- What an environment plays, as it is made.
--
--   numbers_none, numbers_more == the numbers of a row, one after the other
--   row_numbered == one state more of the row behind the choice is numbered
--   environment_first, environment_more == what is played in the states, one state after the other
use Rattle.std.proofs.Common.{ℕ, ◌≡◌, ◌<◌, ◌≤◌, ⊎_elim, arith, List, [], ◌∷◌, ◌++◌, length, get_or, slice_get, Some}
use Rattle.std.proofs.Common.{refl, sym, ap, ◌∙◌, subst, length-append}
use Rattle.std.proofs.lemmas.Bool.{cases_lt}
use Rattle.std.proofs.lemmas.List.{get_or_append_left, get_or_push}
use Rattle.std.proofs.lemmas.Option.{same_Some, slice_get_within}
use Rattle.ml_lists.specs.Added.{IsAdded}
use Rattle.ml_lists.proofs.Added.{added_keeps}
use Rattle.ml_lists.proofs.Entries.{some_entry}
use Rattle.ml_parity.specs.Game.{ParityGame, moves_of, size}
use Rattle.ml_parity.specs.Solution.{GameSolution, choice_at}
use Rattle.ml_synthesis.specs.Machines.{EnvironmentTable, play_at}
use Rattle.ml_synthesis.specs.declared.arrival.Arrival.{Arrival}
use Rattle.ml_synthesis.specs.private.Solved.{IsSolved}
use Rattle.ml_synthesis.specs.private.Numbered.{AreNumbersOf, IsAnswerAt, IsEnvironmentMet, IsRowMet}
use Rattle.ml_synthesis.proofs.RowsMet.{met_first, met_more, row_kept, row_more}
use Rattle.ml_synthesis.proofs.Choices.{IsStateVertex, choice_low, row_behind}

pub numbers_none : (ks : List ℕ) → AreNumbersOf ks [] []
numbers_none ks = record { one_each = refl; stand = λ k low. absurd (omega (arith, low)) }

pub numbers_more : (ks row ns : List ℕ) (x : ℕ) (js : List ℕ) (i : ℕ)
    → AreNumbersOf ks row ns
    → IsAdded ks x js i
    → AreNumbersOf js (row ++ x ∷ []) (ns ++ i ∷ [])
numbers_more ks row ns x js i are added = record {
  one_each =
      let long = are.one_each in
      let a = length-append ns (i ∷ []) in
      let b = length-append row (x ∷ []) in
      omega (arith, long, a, b);
  stand = λ k low.
      ⊎_elim
      (λ (before : k < length row).
      let long = are.one_each in
      ap (slice_get js) (get_or_append_left ns (i ∷ []) 0 k (omega (arith, before, long)))
      ∙ added_keeps ks js x i added (get_or ns k 0) (get_or row k 0) (are.stand k before)
      ∙ ap Some (sym (get_or_append_left row (x ∷ []) 0 k before)))
      (λ (past : length row ≤ k).
      let last : length row ≡ k = let b = length-append row (x ∷ []) in omega (arith, past, low, b) in
      ap (slice_get js) (get_or_push ns i 0 k (are.one_each ∙ last)) ∙ added.stands
      ∙ ap Some (sym (get_or_push row x 0 k last)))
      (cases_lt k (length row));
}

module _ (n base : ℕ) (g : ParityGame) (choice : List ℕ) where
  -- an answer keeps its meaning where states are added
  answer_kept : (ks row js : List ℕ) (v play : ℕ) (ns : List ℕ) → IsRowMet base (size g) ks row js
      → IsAnswerAt n g choice ks v play ns
      → IsAnswerAt n g choice js v play ns
  answer_kept ks row js v play ns met a = record {
    play_is = a.play_is;
    numbers = record {
      one_each = a.numbers.one_each;
      stand = λ k low.
          row_kept base (size g) ks row js met (get_or ns k 0) (get_or (moves_of g (choice_at choice v)) k 0)
          (a.numbers.stand k low);
    };
  }

  pub environment_first : base < size g → IsEnvironmentMet n base g choice (base ∷ [])
      (record { plays = []; next = [] })
  environment_first some = record {
    met = met_first base (size g) some;
    a_play_each = refl;
    answers = λ s v low is. absurd (omega (arith, low));
  }

  pub environment_more : (ks js : List ℕ) (e : EnvironmentTable) (v play : ℕ) (row : List ℕ)
      → IsEnvironmentMet n base g choice ks e
      → slice_get ks (length e.next) ≡ Some v
      → IsAnswerAt n g choice js v play row
      → IsRowMet base (size g) ks row js
      → IsEnvironmentMet n base g choice js (record { plays = e.plays ++ play ∷ []; next = e.next ++ row ∷ [] })
  environment_more ks js e v play row is next answer met = record {
    met = met_more base (size g) ks e.next is.met row js (slice_get_within ks (length e.next) v next) met;
    a_play_each =
        let a = length-append e.plays (play ∷ []) in
        let b = length-append e.next (row ∷ []) in
        let each = is.a_play_each in
        omega (arith, a, b, each);
    answers = at;
  }
    where
      longer : EnvironmentTable
      longer = record { plays = e.plays ++ play ∷ []; next = e.next ++ row ∷ [] }

      at : (s u : ℕ) → s < length (e.plays ++ play ∷ []) → slice_get js s ≡ Some u
          → IsAnswerAt n g choice js u (get_or (e.plays ++ play ∷ []) s 0) (get_or (e.next ++ row ∷ []) s [])
      at s u low stands =
          ⊎_elim
          (λ (before : s < length e.plays).
          let each = is.a_play_each in
          let inside : s < length ks = let place = slice_get_within ks (length e.next) v next in
          omega (arith, before, place, each) in
          let f = some_entry ks s inside in
          let same : f.0 ≡ u = same_Some f.0 u (sym (row_kept base (size g) ks row js met s f.0 f.1) ∙ stands) in
          subst (λ p. IsAnswerAt n g choice js u p (get_or (e.next ++ row ∷ []) s []))
          (sym (get_or_append_left e.plays (play ∷ []) 0 s before)) (subst (IsAnswerAt n g choice js u (play_at e s))
          (sym (get_or_append_left e.next (row ∷ []) [] s (omega (arith, before, each))))
          (answer_kept ks row js u (play_at e s) (get_or e.next s []) met
          (is.answers s u before (f.1 ∙ ap Some same)))))
          (λ (past : length e.plays ≤ s).
          let last : length e.plays ≡ s = let one = length-append e.plays (play ∷ []) in
          omega (arith, past, low, one) in
          let here = row_kept base (size g) ks row js met (length e.next) v next in
          let same : v ≡ u = same_Some v u (sym here ∙ ap (slice_get js) (sym is.a_play_each ∙ last) ∙ stands) in
          subst (λ p. IsAnswerAt n g choice js u p (get_or (e.next ++ row ∷ []) s []))
          (sym (get_or_push e.plays play 0 s last))
          (subst (IsAnswerAt n g choice js u play) (sym (get_or_push e.next row [] s (sym is.a_play_each ∙ last)))
          (subst (λ w. IsAnswerAt n g choice js w play row) same answer))) (cases_lt s (length e.plays))

-- one state more of the row behind the choice is numbered
pub row_numbered : (n base : ℕ) (arrivals : List Arrival) (g : ParityGame) (s : GameSolution)
    (solved : IsSolved n base arrivals g s) (v : ℕ)
    → base ≤ v
    → v < size g
    → (items : List ℕ) (x : ℕ)
    → items ≡ s.choice
    → x ≡ get_or items v x
    → (row : List ℕ)
    → row ≡ moves_of g x
    → (i : ℕ)
    → i < length row
    → (ks ns js hs : List ℕ) (j : ℕ)
    → IsRowMet base (size g) ks ns js
    → IsAdded js (get_or row i 0) hs j
    → IsRowMet base (size g) ks (ns ++ j ∷ []) hs
row_numbered n base arrivals g s solved v behind low items x same entry row is i inside ks ns js hs j met added =
    row_more base (size g) ks ns js (get_or row i 0) hs j met state.behind state.inside added
  where
    state : IsStateVertex n base arrivals g s solved (get_or row i 0)
    state =
        subst (λ (r : List ℕ). IsStateVertex n base arrivals g s solved (get_or r i 0)) (sym is)
        (row_behind n base arrivals g s solved x i
        (choice_low n base arrivals g s solved v behind low items x same entry)
        (subst (λ (r : List ℕ). i < length r) is inside))
