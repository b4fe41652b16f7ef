-- Where Odd wins, there is a refutation.
--
--   some_refutation == a solution of the game of a graph that Odd wins makes a refutation
use Rattle.ml_graph.specs.Graph.{Graph, IsGraph}
use Rattle.ml_parity.specs.Solution.{GameSolution}
use Rattle.ml_product.specs.Arena.{Arena}
use Rattle.ml_refutation.specs.Refutation.{Refutation}
use Rattle.ml_refute.specs.Extracted.{IsRefutationOf}
use Rattle.ml_refute.specs.Laws.{SomeRefutation}
use Rattle.ml_refute.specs.private.Found.{OddWins}
use Rattle.ml_refute.specs.private.PutTogether.{go_graph_of}
use Rattle.ml_refute.proofs.LongestCounts.{Longest, some_longest}
use Rattle.ml_refute.proofs.PuttingTogether.{one_sided_here, no_cycle_here, entries_with, put_with, is_refutation}
use Rattle.ml_refute.proofs.SomeEntries.{Looked, some_entries, SomeNames, some_names}

module _ (g : Graph) (ok : IsGraph g) (a : Arena) (s : GameSolution) (odd : OddWins g a s) where
  abbrev Made : Type 0
  Made = (r : Refutation) × IsRefutationOf g a s r

  with_names : (x : Looked g ok a s odd) → SomeNames g ok a s odd x.vertices x.are.numbered → Made
  with_names x n =
      with_heights (some_longest (go_graph_of n.number x.decisions)
      (one_sided_here g a s odd x.vertices x.decisions x.are x.all n.number n.are)
      (no_cycle_here g a s odd x.vertices x.decisions x.are x.all n.number n.are))
    where
      with_heights : Longest (go_graph_of n.number x.decisions) → Made
      with_heights l =
          let es = entries_with g a s odd x.vertices x.decisions x.are x.all n.number n.are l.rows in
          let put = put_with g a s odd x.vertices x.decisions x.are x.all n.number n.are l.rows in (
            record { names = n.number; entries = es },
            is_refutation g a s odd x.vertices x.decisions x.are x.all n.number n.are l.rows es put l.are,
          )

  made : Made
  made =
      let x = some_entries g ok a s odd in
      with_names x (some_names g ok a s odd x.vertices x.are.numbered)

pub some_refutation : SomeRefutation
some_refutation g a s ok arena solution wins =
    made g ok a s (record { arena = arena; solution = solution; wins = wins })
