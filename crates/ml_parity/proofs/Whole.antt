-- The whole game as a part of itself.
--
--   whole_row    == the part of all vertices
--   whole_solved == where it is solved, the game is
--   whole_part   == it is a part
--   whole_left   == how many moves a vertex has is how many lead into it
--   whole_begins == so the solver begins with it
--   whole_lists  == the same, in the words of lists of flags
use Rattle.std.proofs.Common.{ℕ, suc, ◌≡◌, ◌<◌, ◌≤◌, ◌⊎◌, inl, inr, ⊎_elim, Bool, true, arith, List, [], ◌∷◌, length, get_or, nat_lt, replicate, subst, sym, ◌∙◌, refl, lt-ltb, le-ltb, zero}
use Rattle.std.specs.List.{count_by}
use Rattle.std.proofs.lemmas.Bool.{cases_lt}
use Rattle.std.proofs.lemmas.List.{get_or_past}
use Rattle.std.proofs.Math.Path.{fun_ext}
use Rattle.ml_parity.specs.declared.players.Player.{Player}
use Rattle.ml_parity.specs.declared.zielonka.attractor.Work.{Work}
use Rattle.ml_parity.specs.Game.{ParityGame, IsGame, size, moves_of}
use Rattle.ml_parity.specs.Solution.{winner_at, choice_at}
use Rattle.ml_parity.specs.private.Sinks.{Solves}
use Rattle.ml_parity.specs.private.SinkGame.{board_of, SolvesLists}
use Rattle.ml_parity.specs.private.Parts.{part, SolvesPart, IsPart}
use Rattle.ml_parity.specs.private.SolverSteps.{place_of, number_at, places, choices, lefts, IsLeft, IsRow, IsWork}
use Rattle.ml_parity.specs.private.SolverFrames.{SolvesWhole, IsAtPart}
use Rattle.ml_parity.proofs.Boards.{move_to}
use Rattle.ml_parity.proofs.Filled.{all_set}
use Rattle.ml_parity.proofs.Occurrences.{counts-true}

-- the part of all vertices is that of the numbers below the size
whole_row : (order place : List ℕ) (n : ℕ)
    → IsRow order place
    → length place ≡ n
    → part (place_of place) n ≡ (λ v. nat_lt v n)
whole_row order place n row long = fun_ext (λ v. by_size v (cases_lt v n))
  where
    by_size : (v : ℕ) → (v < n) ⊎ (n ≤ v) → nat_lt (place_of place v) n ≡ nat_lt v n
    by_size v (inl low) =
        let inside = row.placed v (omega arith) in
        lt-ltb (place_of place v) n (omega arith) ∙ sym (lt-ltb v n low)
    by_size v (inr past) =
        let behind = get_or_past place v (length place) (omega arith) in
        le-ltb (place_of place v) n (omega arith) ∙ sym (le-ltb v n past)

-- where it is solved, the game is
pub whole_solved : (g : ParityGame) (w : Work) (winner : List Player) (n : ℕ) → n ≡ size g → IsAtPart g w n
    → SolvesPart (board_of g) (places w) n (winner_at winner) (choices w) → SolvesWhole g winner w.choice.items
whole_solved g w winner n is at solves =
    let at_size : SolvesPart (board_of g) (places w) (size g) (winner_at winner) (choices w) =
    subst (λ m. SolvesPart (board_of g) (places w) m (winner_at winner) (choices w)) is solves in
    subst (λ (live : ℕ → Bool). Solves (board_of g) live (winner_at winner) (winner_at winner) (choices w))
    (whole_row w.row.order.items w.row.place.items (size g) at.work.row at.work.vertices) at_size

-- a vertex that stands in the whole row, and one that is a vertex
in_row : (order place : List ℕ) (n : ℕ) → IsRow order place → length place ≡ n → (v : ℕ) → v < n → place_of place v < n
in_row order place n row long v low = let inside = row.placed v (omega arith) in omega arith

-- it is a part
pub whole_part : (g : ParityGame)
    → IsGame g
    → (order place : List ℕ)
    → IsRow order place
    → length place ≡ size g
    → (win : ℕ → Player)
    → IsPart (board_of g) (place_of place) (size g) win
whole_part g ok order place row long win = record {
  leaves = λ v w low move outside.
      absurd (omega (arith, in_row order place (size g) row long w (ok.in_range v w move)));
  stays = λ v low.
      let some = ok.goes_on v (vertex v low) in
      let move = move_to g v 0 some in
      record {
        to = get_or (moves_of g v) 0 0;
        move = move;
        inside = in_row order place (size g) row long (get_or (moves_of g v) 0 0)
            (ok.in_range v (get_or (moves_of g v) 0 0) move);
      };
}
  where
    vertex : (v : ℕ) → place_of place v < size g → v < size g
    vertex v low = ⊎_elim (λ (h : v < size g). h)
        (λ (h : size g ≤ v). absurd (omega (arith, get_or_past place v (length place) (omega arith))))
        (cases_lt v (size g))

-- where all entries pass, the count is the length
count_all : (p : ℕ → Bool) (xs : List ℕ)
    → ((k : ℕ) → k < length xs → p (get_or xs k 0) ≡ true)
    → count_by p xs ≡ length xs
count_all p [] all = refl
count_all p (x ∷ xs) all =
    let first = counts-true p x xs (all zero (omega arith)) in
    let rest = count_all p xs (λ k low. all (suc k) (omega arith)) in
    omega arith

-- how many moves a vertex has is how many lead into it
pub whole_left : (g : ParityGame) → IsGame g → (order place left : List ℕ) → IsRow order place → length place ≡ size g
    → ((v : ℕ) → v < size g → get_or left v 0 ≡ length (moves_of g v))
    → IsLeft g (place_of place) (size g) (number_at left)
whole_left g ok order place left row long each v low =
    each v low ∙ sym (count_all (part (place_of place) (size g)) (moves_of g v)
    (λ k inside. lt-ltb (place_of place (get_or (moves_of g v) k 0)) (size g)
    (in_row order place (size g) row long (get_or (moves_of g v) k 0)
    (ok.in_range v (get_or (moves_of g v) k 0) (move_to g v k inside)))))

-- so the solver begins with it
pub whole_begins : (g : ParityGame) → IsGame g → (w : Work) → IsWork g w
    → ((v : ℕ) → v < size g → lefts w v ≡ length (moves_of g v)) → IsAtPart g w (size g)
whole_begins g ok w work each = record {
  work = work;
  counted = whole_left g ok w.row.order.items w.row.place.items w.left.items work.row work.vertices each;
}

-- the whole game, solved, in the words of the lists
pub whole_lists : (g : ParityGame) (winner : List Player) (choice : List ℕ) → SolvesWhole g winner choice
    → SolvesLists g (replicate (size g) true) winner winner choice
whole_lists g winner choice solves =
    subst (λ (live : ℕ → Bool). Solves (board_of g) live (winner_at winner) (winner_at winner) (choice_at choice))
    (sym (all_set g (replicate (size g) true) refl)) solves
