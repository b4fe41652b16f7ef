-- What is found of a problem.
--
--   has_more         == the game of a graph has more positions than any smaller number
--   counted          == so its arena counts them
--   of_solved, of_passed == what is found in a solved game of the problem, or where the game passes the limit
--   one_size, one_count == the graphs of a problem have as many nodes, and their games as many positions
--   one_finding      == so one thing is found of it at most
--   some_finding     == and something is
use Rattle.std.proofs.Common.{◌≡◌, ℕ, ◌<◌, ◌≤◌, ◌^◌, ◌⊎◌, ◌↔◌, Bool, true, false, IsTrue, length, refl, sym, ap, ap₂, ◌∙◌, inl, inr, ⊎_elim, arith}
use Rattle.std.proofs.lemmas.Bool.{cases_lt}
use Rattle.ml_front.specs.Graphs.{HasLargeClosure, IsGraphOf}
use Rattle.ml_front.specs.Logics.{IsWellFormed}
use Rattle.ml_front.specs.Problems.{IsSatisfiable}
use Rattle.ml_front.specs.declared.problem.Problem.{Problem}
use Rattle.ml_front.specs.declared.problem.TheConstants.{MOST_NODES}
use Rattle.ml_front.proofs.Graphs.{graphs_alike}
use Rattle.ml_graph.specs.Graph.{Graph, size}
use Rattle.ml_parity.specs.Solution.{winner_at}
use Rattle.ml_parity.specs.declared.players.Player.{Player}
use Rattle.ml_parity.specs.declared.players.Player.TheVariants.{Even, Odd}
use Rattle.ml_product.specs.Arena.{Arena, IsArenaOf, game_of}
use Rattle.ml_product.specs.DecisionGame.{HasMoreThan}
use Rattle.ml_product.proofs.ArenaGame.{is_game}
use Rattle.ml_product.proofs.SomeSolution.{some_solution}
use Rattle.ml_decide.specs.Laws.{OneFinding, SomeFinding}
use Rattle.ml_decide.specs.Measures.{HasNodes, HasPositions, IsFinding}
use Rattle.ml_decide.specs.declared.cause.Cause.TheVariants.{Positions, Closure}
use Rattle.ml_decide.specs.declared.finding.Finding.{Finding}
use Rattle.ml_decide.specs.declared.finding.Finding.TheVariants.{Decided, GamePassed, ClosurePassed}
use Rattle.ml_decide.specs.declared.way.Way.TheVariants.{WholeGame}
use Rattle.ml_decide.specs.private.Findings.{finding_in, is_even}
use Rattle.ml_decide.specs.private.Translated.{IsTranslated}
use Rattle.ml_decide.proofs.Closed.{closed}
use Rattle.ml_front.proofs.HeldGraphs.{HeldGraph, held_graph}
use Rattle.ml_decide.proofs.ProblemGraphs.{few_positions, keeps_limit, same_positions, translated}
use Rattle.ml_decide.proofs.SomeArena.{some_arena}
use Rattle.ml_decide.proofs.Winners.{even_wins, odd_wins}
use Rattle.ml_search.specs.WholeGame.{IsSolvedGame}
use Rattle.ml_search.specs.declared.whole_game.SolvedGame.{SolvedGame}

pub has_more : (g : Graph) (a : Arena) (n : ℕ) → IsArenaOf g a → n < length a.positions → HasMoreThan g n
has_more g a n arena more = record {
  positions = a.positions;
  are_different = arena.are_different;
  are_reached = λ p member. (arena.are_reached p).0 member;
  are_more = more;
}

fewer_than : (g : Graph) (a : Arena) (n : ℕ) → IsArenaOf g a → HasMoreThan g n → n < length a.positions
fewer_than g a n arena more =
    ⊎_elim (λ (less : n < length a.positions). less)
    (λ (few : length a.positions ≤ n). absurd (few_positions g a n arena few more))
    (cases_lt n (length a.positions))

-- ---- in a graph of the problem

-- the positions are counted by any arena
pub counted : (p : Problem) (g : Graph) (a : Arena) → IsGraphOf g p → IsArenaOf g a → HasPositions p (length a.positions)
counted p g a is_graph arena = record {
  graph = g;
  is_graph = is_graph;
  holds = λ n. (λ more. fewer_than g a n arena more, λ less. has_more g a n arena less);
}

module _ (p : Problem) (n : ℕ) (small : n < 2 ^ 32) (well : IsWellFormed p.formula) (g : Graph)
    (is : IsTranslated p g) where
  told : (x : SolvedGame) (w : Player) → IsSolvedGame g x → length x.arena.positions ≤ n → winner_at x.solution.winner 0 ≡ w
      → IsTrue (is_even w) ↔ IsSatisfiable p
  told x Even solved within wins =
      let satisfiable = even_wins p well g is x.arena solved.is_arena x.solution solved.is_solution wins in
      (λ even. satisfiable, λ holds. refl)
  told x Odd solved within wins =
      let excluded =
      odd_wins p well g is x.arena solved.is_arena x.solution solved.is_solution
      (omega (arith, small, within)) wins in
      (λ (even : false ≡ true). absurd (cc), λ holds. absurd (excluded holds))

  pub of_solved : (x : SolvedGame) → IsSolvedGame g x → length x.arena.positions ≤ n → IsFinding n p (finding_in g x)
  of_solved x solved within =
      let few = few_positions g x.arena n solved.is_arena within in (
        closed WholeGame n p is.fits (keeps_limit p g n is.is_graph_of few),
        record { graph = g; is_graph = is.is_graph_of; holds = refl },
        counted p g x.arena is.is_graph_of solved.is_arena,
        told x (winner_at x.solution.winner 0) solved within refl,
      )

  pub of_passed : HasMoreThan g n → IsFinding n p (GamePassed (size g))
  of_passed more = (
    (refl, is.fits, record { graph = g; is_graph = is.is_graph_of; holds = more }),
    record { graph = g; is_graph = is.is_graph_of; holds = refl },
  )

-- ---- one at most

module _ (p : Problem) where
  one_size : (j k : ℕ) → HasNodes p j → HasNodes p k → j ≡ k
  one_size j k x y =
      sym x.holds ∙ (graphs_alike p x.graph y.graph x.is_graph y.is_graph).sizes ∙ y.holds

  no_more : (j k : ℕ) → HasPositions p j → HasPositions p k → j ≤ k
  no_more j k x y =
      ⊎_elim
      (λ (more : k < j).
      let also = (y.holds k).0 (same_positions p x.graph y.graph k x.is_graph y.is_graph ((x.holds k).1 more)) in
      absurd (omega (arith, also)))
      (λ (le : j ≤ k). le)
      (cases_lt k j)

  one_count : (j k : ℕ) → HasPositions p j → HasPositions p k → j ≡ k
  one_count j k x y = omega (arith, no_more j k x y, no_more k j y x)

  one_answer : (b c : Bool) → IsTrue b ↔ IsSatisfiable p → IsTrue c ↔ IsSatisfiable p → b ≡ c
  one_answer true true x y = refl
  one_answer true false x y = sym (y.1 (x.0 refl))
  one_answer false true x y = x.1 (y.0 refl)
  one_answer false false x y = refl

  one_of_problem : (n : ℕ) (x y : Finding) → IsFinding n p x → IsFinding n p y → x ≡ y
  one_of_problem n (Decided j k b) (Decided l m c) x y =
      ap₂ (λ u v. Decided u v b) (one_size j l x.1 y.1) (one_count k m x.2 y.2)
      ∙ ap (Decided l m) (one_answer b c x.3 y.3)
  one_of_problem n (Decided j k b) (GamePassed l) x y = absurd (x.0 (Positions n) y.0)
  one_of_problem n (Decided j k b) ClosurePassed x y = absurd (x.0 Closure y)
  one_of_problem n (GamePassed j) (Decided l m c) x y = absurd (y.0 (Positions n) x.0)
  one_of_problem n (GamePassed j) (GamePassed l) x y = ap GamePassed (one_size j l x.1 y.1)
  one_of_problem n (GamePassed j) ClosurePassed x y = absurd (x.0.1 y)
  one_of_problem n ClosurePassed (Decided l m c) x y = absurd (y.0 Closure x)
  one_of_problem n ClosurePassed (GamePassed l) x y = absurd (y.0.1 x)
  one_of_problem n ClosurePassed ClosurePassed x y = refl

pub one_finding : OneFinding
one_finding n p x y = one_of_problem p n x y

-- ---- some one

pub some_finding : SomeFinding
some_finding n p small well = by_graph (held_graph p.formula p.negated well)
  where
    by_game : (g : Graph) → IsTranslated p g
        → ((a : Arena) × (IsArenaOf g a × (length a.positions ≤ n))) ⊎ HasMoreThan g n
        → (x : Finding) × IsFinding n p x
    by_game g is (inr more) = (GamePassed (size g), of_passed p n small well g is more)
    by_game g is (inl (a, made)) =
        let s = some_solution (game_of a) (is_game g a made.0) in
        let x : SolvedGame = record { arena = a; solution = s.0 } in
        (finding_in g x, of_solved p n small well g is x (record { is_arena = made.0; is_solution = s.1 }) made.1)

    by_graph : HeldGraph p.formula p.negated ⊎ HasLargeClosure p MOST_NODES → (x : Finding) × IsFinding n p x
    by_graph (inr large) = (ClosurePassed, large)
    by_graph (inl h) =
        let is = translated p h.graph well h.is_graph h.fits in
        by_game h.graph is (some_arena h.graph is.small.is_graph n)
