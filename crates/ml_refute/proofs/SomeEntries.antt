-- Where Odd wins, there are entries: their vertices, with a decision for each.
--
--   Numbered, some_number == a vertex has a number, a new one if it had none
--   Deciding, some_decision == there is a decision at each vertex that Odd wins
--   Looked, some_entries  == the entries that are found from the start, each with its decision
--   some_names            == there is a greatest number of names in use
use Rattle.std.proofs.Common.{ℕ, zero, suc, ◌≡◌, ◌+◌, ◌-◌, ◌<◌, ◌≤◌, ◌⊎◌, inl, inr, max, true, false, List, [], ◌∷◌, ◌++◌, Some, length}
use Rattle.std.proofs.Common.{get_or, slice_get, nat_eq, refl, sym, ap, ◌∙◌, subst, arith, add-one, length-append}
use Rattle.std.specs.List.{list_any}
use Rattle.std.proofs.lemmas.Bool.{cases_Bool, cases_lt, cond-true, cond-false}
use Rattle.std.proofs.lemmas.Bool.Decides.{nat_tests}
use Rattle.std.proofs.lemmas.Option.{slice_get-get_or}
use Rattle.indexmap.specs.IndexSet.{insert_key}
use Rattle.ml_lists.specs.Member.{IsMember}
use Rattle.ml_lists.proofs.Member.{Place, member-place, member-append_right, Passing, list_any-member}
use Rattle.ml_graph.specs.Graph.{Graph, IsGraph}
use Rattle.ml_history.specs.HistoryStep.{live}
use Rattle.ml_parity.specs.Solution.{GameSolution, choice_at}
use Rattle.ml_product.specs.Arena.{Arena}
use Rattle.ml_product.specs.DecisionGame.{Verdict, Clashing, Open, Leading, Settled, Turn, IsResolved, IsVerdictOf}
use Rattle.ml_refutation.specs.Refutation.{Decision, Split, Clash, Go}
use Rattle.ml_refute.specs.private.Found.{OddWins, IsWon, AreNumbered, IsNumberOf, IsDecided, AreLooked, position_at}
use Rattle.ml_refute.specs.private.PutTogether.{IsMostBelow, IsNamesOf}
use Rattle.ml_refute.proofs.FoundEntries.{number_more, clash_decided, leave_decided, split_decided, sides_left, fewer_left, fewer_right, look_start, look_more, next_won, looked_few}
use Rattle.ml_refute.proofs.Leaving.{placed, LeavingAt, leaving_at, BothSides, both_sides}
use Rattle.ml_refute.proofs.PuttingTogether.{some_numbered, most_none, most_more, most_done}
use Rattle.ml_refute.proofs.SomeFirstCause.{SomeFirst, some_first_cause}

-- what is put into a list of different numbers stands in it
stands_in : (vs : List ℕ) (v : ℕ) → IsMember v (insert_key nat_eq vs v)
stands_in vs v = by_test (cases_Bool (list_any (nat_eq v) vs))
  where
    same_key : (k : ℕ) → nat_eq v k ≡ true → k ≡ v
    same_key k e = grind (arith, nat_tests)

    of_old : Passing (nat_eq v) vs → IsMember v vs
    of_old p = subst (λ w. IsMember w vs) (same_key p.item p.passes) p.member

    by_test : (list_any (nat_eq v) vs ≡ true) ⊎ (list_any (nat_eq v) vs ≡ false) → IsMember v (insert_key nat_eq vs v)
    by_test (inl old) =
        subst (IsMember v) (sym (cond-true (list_any (nat_eq v) vs) vs (vs ++ v ∷ []) old))
        (of_old (list_any-member (nat_eq v) vs old))
    by_test (inr new) =
        subst (IsMember v) (sym (cond-false (list_any (nat_eq v) vs) vs (vs ++ v ∷ []) new))
        (member-append_right v vs (v ∷ []) (inl refl))

module _ (g : Graph) (ok : IsGraph g) (a : Arena) (s : GameSolution) (odd : OddWins g a s) where
  -- ---- numbers

  record Numbered (vs : List ℕ) (v : ℕ) : Type 0 where
    pub grown : List ℕ
    pub number : ℕ
    pub is : IsNumberOf g a s vs grown v number

  some_number : (vs : List ℕ) (v : ℕ) → AreNumbered g a s vs → IsWon a s v → (position_at g a v).choice ≡ []
      → Numbered vs v
  some_number vs v numbered won unchosen = at_place (member-place v (insert_key nat_eq vs v) (stands_in vs v))
    where
      own_key : nat_eq v v ≡ true
      own_key = grind (arith, nat_tests)

      at_place : Place v (insert_key nat_eq vs v) → Numbered vs v
      at_place p = record {
        grown = insert_key nat_eq vs v;
        number = p.place;
        is = number_more g a s odd vs (insert_key nat_eq vs v) v p.place v numbered won unchosen refl
            (slice_get-get_or (insert_key nat_eq vs v) p.place v p.below ∙ ap Some (p.holds v)) own_key;
      }

  -- ---- decisions

  record Deciding (vs : List ℕ) (v : ℕ) : Type 0 where
    pub grown : List ℕ
    pub decision : Decision
    pub is : IsDecided g a s vs grown v decision

  -- where fewer sides are left to choose than at v, there is a decision
  abbrev DecidedBelow : ℕ → Type 0
  DecidedBelow v = (us : List ℕ) (w : ℕ) → sides_left g a s odd w < sides_left g a s odd v → AreNumbered g a s us
      → IsWon a s w → Deciding us w

  left_along : (vs : List ℕ) (v : ℕ) (turn : Turn g (position_at g a v)) → AreNumbered g a s vs → IsWon a s v
      → IsResolved g turn.spread → Deciding vs v
  left_along vs v turn numbered won resolved = at_diamond (leaving_at g a s odd v won turn.spread turn.is_spread resolved)
    where
      at_diamond : LeavingAt g a s odd v won turn.spread → Deciding vs v
      at_diamond l = at_number (some_number vs (choice_at s.choice v) numbered l.leaves.won l.leaves.unchosen)
        where
          at_number : Numbered vs (choice_at s.choice v) → Deciding vs v
          at_number n = record {
            grown = n.grown;
            decision = Go _ n.number l.leaves.mark;
            is = leave_decided g a s odd vs n.grown v _ n.number l.leaves.mark won
                (record { spread = turn.spread; is_spread = turn.is_spread; holds = (resolved, l.leaves) }) n.is refl;
          }

  split_into : (vs : List ℕ) (v o : ℕ) (turn : Turn g (position_at g a v)) → AreNumbered g a s vs → IsWon a s v
      → IsVerdictOf g turn.spread (Open o)
      → DecidedBelow v
      → Deciding vs v
  split_into vs v o turn numbered won verdict decide =
      at_sides (both_sides g a s odd v won o turn.spread turn.is_spread verdict)
    where
      at_sides : BothSides g a s odd v won o → Deciding vs v
      at_sides b =
          at_left (decide vs b.left (fewer_left g a s odd v o b.left b.right b.are_sides) numbered b.are_sides.left_won)
        where
          at_right : (x : Deciding vs b.left) → Deciding x.grown b.right → Deciding vs v
          at_right x y = record {
            grown = y.grown;
            decision = Split o x.decision y.decision;
            is = split_decided g a s odd vs x.grown y.grown v o b.left b.right x.decision y.decision
                (record { spread = turn.spread; is_spread = turn.is_spread; holds = verdict }) b.are_sides x.is y.is;
          }

          at_left : Deciding vs b.left → Deciding vs v
          at_left x =
              at_right x (decide x.grown b.right (fewer_right g a s odd v o b.left b.right b.are_sides) x.is.numbered
              b.are_sides.right_won)

  decide_by : (vs : List ℕ) (v : ℕ) (turn : Turn g (position_at g a v)) → AreNumbered g a s vs → IsWon a s v
      → DecidedBelow v
      → (x : Verdict) → IsVerdictOf g turn.spread x → Deciding vs v
  decide_by vs v turn numbered won decide Clashing verdict =
      at_first (some_first_cause g ok (position_at g a v).sequent (position_at g a v).choice turn.spread turn.is_spread
      verdict.0 verdict.1)
    where
      at_first : SomeFirst g ok (position_at g a v).sequent (position_at g a v).choice turn.spread turn.is_spread
          → Deciding vs v
      at_first f = record {
        grown = vs;
        decision = Clash f.found;
        is = clash_decided g a s odd vs v f.found numbered
            (record { spread = turn.spread; is_spread = turn.is_spread; holds = f.is_first });
      }
  decide_by vs v turn numbered won decide (Open o) verdict = split_into vs v o turn numbered won verdict decide
  decide_by vs v turn numbered won decide (Leading ds) verdict = left_along vs v turn numbered won verdict.0
  decide_by vs v turn numbered won decide Settled verdict = left_along vs v turn numbered won verdict.0

  turn_at : (v : ℕ) → IsWon a s v → Turn g (position_at g a v)
  turn_at v won = (odd.arena.played v (position_at g a v) (placed g a s odd v won)).turn

  some_decision : (fuel : ℕ) (vs : List ℕ) (v : ℕ) → sides_left g a s odd v < fuel → AreNumbered g a s vs
      → IsWon a s v → Deciding vs v
  some_decision zero vs v few numbered won = absurd (omega (arith, few))
  some_decision (suc fuel) vs v few numbered won =
      let turn = turn_at v won in
      decide_by vs v turn numbered won (λ us w fewer. some_decision fuel us w (omega (arith, few, fewer))) turn.verdict
      turn.is_verdict

  -- ---- all entries

  pub record Looked : Type 0 where
    pub vertices : List ℕ
    pub decisions : List Decision
    pub are : AreLooked g a s vertices decisions
    pub all : length decisions ≡ length vertices

  -- what was looked at, with one entry more
  next_looked : (vs : List ℕ) (ds : List Decision) → AreLooked g a s vs ds → length ds < length vs
      → (ws : List ℕ) × ((d : Decision) × AreLooked g a s ws (ds ++ d ∷ []))
  next_looked vs ds looked more = at_vertex (get_or vs (length ds) 0) (slice_get-get_or vs (length ds) 0 more)
    where
      at_vertex : (v : ℕ)
          → slice_get vs (length ds) ≡ Some v
          → (ws : List ℕ) × ((d : Decision) × AreLooked g a s ws (ds ++ d ∷ []))
      at_vertex v stands =
          let won = next_won g a s odd vs ds (length ds) v looked stands in
          let x = some_decision (sides_left g a s odd v + 1) vs v (omega arith) looked.numbered won in
          (x.grown, (x.decision, look_more g a s odd vs x.grown ds v x.decision looked stands x.is))

  look : (fuel : ℕ) (vs : List ℕ) (ds : List Decision) → AreLooked g a s vs ds
      → length a.positions - length ds ≤ fuel → Looked
  look zero vs ds looked left = by_order (cases_lt (length ds) (length vs))
    where
      by_order : (length ds < length vs) ⊎ (length vs ≤ length ds) → Looked
      by_order (inl more) = absurd (omega (arith, more, left, looked_few g a s odd vs ds looked))
      by_order (inr done) =
          record { vertices = vs; decisions = ds; are = looked; all = omega (arith, done, looked.few) }
  look (suc fuel) vs ds looked left = by_order (cases_lt (length ds) (length vs)) (look fuel)
    where
      by_order : (length ds < length vs) ⊎ (length vs ≤ length ds)
          → ((ws : List ℕ) (es : List Decision) → AreLooked g a s ws es → length a.positions - length es ≤ fuel → Looked)
          → Looked
      by_order (inl more) on =
          let next = next_looked vs ds looked more in
          on next.0 (ds ++ next.1.0 ∷ []) next.1.1
          (omega (arith, left, more, looked_few g a s odd vs ds looked, length-append ds (next.1.0 ∷ [])))
      by_order (inr done) on =
          record { vertices = vs; decisions = ds; are = looked; all = omega (arith, done, looked.few) }

  pub some_entries : Looked
  some_entries = look (length a.positions) (0 ∷ []) [] (look_start g a s odd (0 ∷ []) [] refl refl) (omega arith)

  -- ---- the names

  module _ (vs : List ℕ) (numbered : AreNumbered g a s vs) where
    abbrev live_of : ℕ → ℕ
    live_of k = live (position_at g a (get_or vs k 0)).history

    record Most (k : ℕ) : Type 0 where
      pub number : ℕ
      pub is : IsMostBelow g a vs k number

    most_below : (k : ℕ) → k ≤ length vs → Most k
    most_below zero low =
        let some = some_numbered g a s vs numbered in
        record {
          number = live_of 0;
          is = most_none g a s vs numbered (get_or vs 0 0) (live_of 0) (slice_get-get_or vs 0 0 some) refl;
        }
    most_below (suc k) low = one_more (most_below k (omega (arith, low)))
      where
        one_more : Most k → Most (suc k)
        one_more m = record {
          number = max m.number (live_of k);
          is = subst (λ i. IsMostBelow g a vs i (max m.number (live_of k))) (add-one k)
              (most_more g a s vs numbered k m.number (max m.number (live_of k)) (live_of k) (omega (arith, low)) m.is
              refl refl);
        }

    pub record SomeNames : Type 0 where
      pub number : ℕ
      pub are : IsNamesOf g a vs number

    pub some_names : SomeNames
    some_names =
        let m = most_below (length vs) (omega arith) in
        record { number = m.number; are = most_done g a s vs numbered m.number (length vs) (omega arith) m.is }
