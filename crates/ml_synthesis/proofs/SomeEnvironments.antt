-- A solution has an environment of its choices.
--
--   some_row          == states are numbered, as the program does it
--   some_environment  == one state after the other
use Rattle.std.proofs.Common.{ℕ, zero, suc, ◌≡◌, ◌+◌, ◌%◌, ◌<◌, ◌≤◌, inl, inr, ⊎_elim, arith}
use Rattle.std.proofs.Common.{List, [], ◌∷◌, ◌++◌, length, get_or, slice_get, Some, refl, ap, subst}
use Rattle.std.proofs.Common.{length-append}
use Rattle.std.proofs.lemmas.Bool.{cases_lt}
use Rattle.ml_lists.specs.Member.{IsMember}
use Rattle.ml_lists.proofs.Entries.{some_entry}
use Rattle.ml_lists.proofs.Member.{member-place}
use Rattle.ml_parity.specs.Game.{ParityGame, moves_of, size}
use Rattle.ml_parity.specs.Solution.{GameSolution, choice_at}
use Rattle.ml_synthesis.specs.Machines.{EnvironmentTable}
use Rattle.ml_synthesis.specs.declared.arrival.Arrival.{Arrival}
use Rattle.ml_synthesis.specs.private.Numbered.{AreNumbers, AreNumbersOf}
use Rattle.ml_synthesis.specs.private.Numbered.{IsEnvironment, IsEnvironmentMet, IsRowMet}
use Rattle.ml_synthesis.specs.private.Solved.{IsSolved}
use Rattle.ml_synthesis.proofs.Choices.{IsSetChoice, IsStateVertex, base_is_vertex}
use Rattle.ml_synthesis.proofs.Choices.{choice_at_state, row_behind}
use Rattle.ml_synthesis.proofs.EnvironmentSteps.{environment_first, environment_more}
use Rattle.ml_synthesis.proofs.MachineSteps.{rows_joined}
use Rattle.ml_synthesis.proofs.RowsMet.{few_numbers, row_kept, row_more, row_none}
use Rattle.ml_synthesis.proofs.SomeGames.{add_number}

module _ (n base : ℕ) (ks : List Arrival) (g : ParityGame) (s : GameSolution) (solved : IsSolved n base ks g s) where
  record Row (states row : List ℕ) : Type 0 where
    behind : List ℕ
    numbers : List ℕ
    are : AreNumbersOf behind row numbers
    met : IsRowMet base (size g) states numbers behind

  some_row : (states row : List ℕ)
      → AreNumbers base (size g) states
      → ((x : ℕ) → IsMember x row → IsStateVertex n base ks g s solved x)
      → Row states row
  some_row states [] numbers inside = record {
    behind = states;
    numbers = [];
    are = record { one_each = refl; stand = λ k low. absurd (omega (arith, low)) };
    met = row_none base (size g) states numbers;
  }
  some_row states (x ∷ row) numbers inside =
      let a = add_number states x in
      let here = inside x (inl refl) in
      let first = row_more base (size g) states [] states x a.behind a.place (row_none base (size g) states numbers)
      here.behind here.inside a.added in
      let r = some_row a.behind row first.numbers (λ y m. inside y (inr m)) in
      record {
        behind = r.behind;
        numbers = a.place ∷ r.numbers;
        are = record {
          one_each = ap suc r.are.one_each;
          stand = stand a.behind r.behind r.numbers a.place
              (row_kept base (size g) a.behind r.numbers r.behind r.met a.place x
              a.added.stands) r.are;
        };
        met = rows_joined base (size g) states (a.place ∷ []) a.behind r.numbers r.behind first r.met;
      }
    where
      stand : (middle behind ns : List ℕ) (i : ℕ)
          → slice_get behind i ≡ Some x
          → AreNumbersOf behind row ns
          → (k : ℕ)
          → k < length (x ∷ row)
          → slice_get behind (get_or (i ∷ ns) k 0) ≡ Some (get_or (x ∷ row) k 0)
      stand middle behind ns i first are zero low = first
      stand middle behind ns i first are (suc k) low = are.stand k (omega (arith, low))

  abbrev TheEnvironment : Type 0
  TheEnvironment = (t : EnvironmentTable) × IsEnvironment n base g s.choice t

  abbrev EnvironmentFrom : ℕ → Type 0
  EnvironmentFrom fuel =
      (states : List ℕ) (e : EnvironmentTable)
      → IsEnvironmentMet n base g s.choice states e
      → size g ≤ length e.next + fuel
      → TheEnvironment

  all_played : (states : List ℕ) (e : EnvironmentTable) → IsEnvironmentMet n base g s.choice states e
      → length states ≤ length e.next
      → TheEnvironment
  all_played states e is past =
      let within = is.met.within in
      let each = is.a_play_each in
      (e, record { states = states; met = is; all = omega (arith, past, within, each) })

  of_row : (u : ℕ) → u < base → (x : ℕ) → IsMember x (moves_of g u) → IsStateVertex n base ks g s solved x
  of_row u low x m =
      let seat = member-place x (moves_of g u) m in
      subst (IsStateVertex n base ks g s solved) (seat.holds 0)
      (row_behind n base ks g s solved u seat.place low seat.below)

  one_played : (fuel : ℕ) → EnvironmentFrom fuel → EnvironmentFrom (suc fuel)
  one_played fuel rest states e is enough =
      ⊎_elim (λ (here : length e.next < length states). further here)
      (λ (past : length states ≤ length e.next). all_played states e is past)
      (cases_lt (length e.next) (length states))
    where
      further : length e.next < length states → TheEnvironment
      further here =
          let v = some_entry states (length e.next) here in
          let c : IsSetChoice n base ks g s solved v.0 = choice_at_state n base ks g s solved v.0
          (is.met.numbers.from_first (length e.next) v.0 v.1) (is.met.numbers.low (length e.next) v.0 v.1) in
          let r = some_row states (moves_of g (choice_at s.choice v.0)) is.met.numbers
          (of_row (choice_at s.choice v.0) c.low) in
          rest r.behind (record {
            plays = e.plays ++ (choice_at s.choice v.0 % n) ∷ [];
            next = e.next ++ r.numbers ∷ [];
          })
          (environment_more n base g s.choice states r.behind e v.0 (choice_at s.choice v.0 % n) r.numbers is v.1
          (record { play_is = refl; numbers = r.are }) r.met)
          (let one = length-append e.next (r.numbers ∷ []) in omega (arith, enough, one))

  environment_from : (fuel : ℕ) → EnvironmentFrom fuel
  environment_from zero states e is enough =
      let few = few_numbers base (size g) states is.met.numbers in all_played states e is (omega (arith, few, enough))
  environment_from (suc fuel) states e is enough = one_played fuel (environment_from fuel) states e is enough

  pub some_environment : (t : EnvironmentTable) × IsEnvironment n base g s.choice t
  some_environment =
      environment_from (size g) (base ∷ []) (record { plays = []; next = [] })
      (environment_first n base g s.choice (base_is_vertex n base ks g s solved)) (omega arith)
