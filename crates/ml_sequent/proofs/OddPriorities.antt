-- The odd priorities of some nodes, one after the other.
--
--   more_odds   == the least node on a cycle, of one priority more
--   first_odd   == that of all odd priorities is the first node on an odd cycle
use Rattle.std.proofs.Common.{ℕ, ◌≡◌, ◌==◌, ◌%◌, ◌+◌, ◌<◌, ◌⊎◌, inl, inr, true, List, [], ◌∷◌, ◌++◌, length, filter, get_or, map, take, Option, Some, None, MatchOption, sym, subst, arith}
use Rattle.std.proofs.lemmas.Bool.{eqb-true}
use Rattle.std.proofs.lemmas.Bool.Decides.{nat_tests}
use Rattle.std.proofs.lemmas.List.{take_more}
use Rattle.ml_lists.specs.Ascending.{ascending}
use Rattle.ml_lists.specs.Member.{IsMember}
use Rattle.ml_lists.proofs.Ascending.{member-ascending, ascending-member}
use Rattle.ml_lists.proofs.Member.{member-append, member-append_left, member-append_right, member-filter, member-filter_from, member-map}
use Rattle.ml_graph.specs.Graph.{Graph, priority_at}
use Rattle.ml_sequent.specs.declared.choice.Side.{Side}
use Rattle.ml_sequent.specs.Spread.{IsOddCycle}
use Rattle.ml_sequent.specs.private.ConnectedParts.{IsLeast, IsLoop, IsLoopIn, lesser}
use Rattle.ml_sequent.specs.private.Tests.{IsFirstOddCycle}
use Rattle.ml_sequent.proofs.LeastLoops.{same_least, lesser_least}

module _ (g : Graph) (c : List (ℕ × Side)) (nodes : List ℕ) where
  -- the least node on a cycle, of one priority more
  pub more_odds : (odds : List ℕ) (i : ℕ) (best least : Option ℕ)
      → i < length odds
      → IsLeast (IsLoopIn g c nodes (take i odds)) best
      → IsLeast (λ n. IsMember n nodes × IsLoop g c (get_or odds i 0) n) least
      → IsLeast (IsLoopIn g c nodes (take (i + 1) odds)) (lesser best least)
  more_odds odds i best least low is_best is_least =
      same_least (λ n. IsLoopIn g c nodes (take i odds) n ⊎ (IsMember n nodes × IsLoop g c (get_or odds i 0) n)) (IsLoopIn g c nodes (take (i + 1) odds))
      (lesser best least) to from
      (lesser_least (IsLoopIn g c nodes (take i odds)) (λ n. IsMember n nodes × IsLoop g c (get_or odds i 0) n) best least is_best is_least)
    where
      longer : take (i + 1) odds ≡ take i odds ++ get_or odds i 0 ∷ []
      longer = take_more odds i 0 low

      to : (n : ℕ) → IsLoopIn g c nodes (take i odds) n ⊎ (IsMember n nodes × IsLoop g c (get_or odds i 0) n) → IsLoopIn g c nodes (take (i + 1) odds) n
      to n (inl old) =
          (old.0, subst (IsMember (priority_at g n)) (sym longer) (member-append_left (priority_at g n) (take i odds) (get_or odds i 0 ∷ []) old.1), old.2)
      to n (inr new) =
          (new.0, subst (IsMember (priority_at g n)) (sym longer) (member-append_right (priority_at g n) (take i odds) (get_or odds i 0 ∷ []) (inl new.1.0)), new.1.1)

      from : (n : ℕ) → IsLoopIn g c nodes (take (i + 1) odds) n → IsLoopIn g c nodes (take i odds) n ⊎ (IsMember n nodes × IsLoop g c (get_or odds i 0) n)
      from n loop = by_part (member-append (priority_at g n) (take i odds) (get_or odds i 0 ∷ []) (subst (IsMember (priority_at g n)) longer loop.1))
        where
          by_part : IsMember (priority_at g n) (take i odds) ⊎ IsMember (priority_at g n) (get_or odds i 0 ∷ [])
              → IsLoopIn g c nodes (take i odds) n ⊎ (IsMember n nodes × IsLoop g c (get_or odds i 0) n)
          by_part (inl old) = inl (loop.0, old, loop.2)
          by_part (inr (inl same)) = inr (loop.0, (same, loop.2))
          by_part (inr (inr none)) = absurd none

  is_odd_in : (n : ℕ) → IsMember (priority_at g n) (ascending (filter (λ d. d % 2 == 1) (map (priority_at g) nodes))) → priority_at g n % 2 ≡ 1
  is_odd_in n m =
      let kept = member-filter_from (λ d. d % 2 == 1) (priority_at g n) (map (priority_at g) nodes) (ascending-member (priority_at g n) (filter (λ d. d % 2 == 1) (map (priority_at g) nodes)) m) in
      eqb-true (priority_at g n % 2) 1 kept.1

  in_odds : (n : ℕ) → IsMember n nodes → priority_at g n % 2 ≡ 1 → IsMember (priority_at g n) (ascending (filter (λ d. d % 2 == 1) (map (priority_at g) nodes)))
  in_odds n m odd =
      let test : (priority_at g n % 2 == 1) ≡ true = grind (arith, nat_tests) in
      member-ascending (priority_at g n) (filter (λ d. d % 2 == 1) (map (priority_at g) nodes))
      (member-filter (λ d. d % 2 == 1) (priority_at g n) (map (priority_at g) nodes) (member-map (priority_at g) n nodes m) test)

  -- that of all odd priorities is the first node on an odd cycle
  pub first_odd : (found : Option ℕ)
      → IsLeast (IsLoopIn g c nodes (ascending (filter (λ d. d % 2 == 1) (map (priority_at g) nodes)))) found
      → MatchOption found ((n : ℕ) → IsMember n nodes → IsOddCycle g c n → ⊥) (IsFirstOddCycle g c nodes)
  first_odd None is = λ n m cycle. is n (m, in_odds n m cycle.0, cycle.1)
  first_odd (Some n) is = record {
    member = is.0.0;
    is = (is_odd_in n is.0.1, is.0.2);
    first = λ k m less cycle. let least = is.1 k (m, in_odds k m cycle.0, cycle.1) in omega arith;
  }
