-- An accepted word of a system goes round a cycle of pairs with an accepting arc.
--
--   moving s        == how the system moves, as an automaton of which no transition means more than another
--   path_on         == moves from place to place are a run
--   stem_moves, turn_moves == so are those along the stem of a word, and along its turn
--   walked, walked_accepting == joint runs are walks
--   cycle_of        == an accepted word makes an even cycle
use Rattle.std.proofs.Common.{ℕ, zero, suc, ◌≡◌, ◌+◌, ◌<◌, inl, inr, arith, Bool, true, false, List, [], ◌∷◌, ◌++◌}
use Rattle.std.proofs.Common.{length, get_or, take, drop, refl, sym, ap, ◌∙◌, subst, Some, slice_get}
use Rattle.std.proofs.lemmas.List.{get_or-take, get_or-drop, length-take-le, length-drop}
use Rattle.std.proofs.lemmas.Option.{slice_get_within}
use Rattle.ml_lists.specs.Lasso.{Lasso, round, entry}
use Rattle.ml_lists.specs.Repeated.{repeated}
use Rattle.ml_lists.proofs.Lasso.{round-entry, round-end}
use Rattle.ml_lists.proofs.Members.{contains_of_member}
use Rattle.ml_parity.specs.declared.one_sided.graph.Arc.{Arc}
use Rattle.ml_parity.specs.OneSided.{EvenCycleIn, IsWalk, OneSidedGraph, count_at}
use Rattle.ml_trace.specs.declared.letters.Transition.{Transition}
use Rattle.ml_trace.specs.Run.{Run, AcceptingRun}
use Rattle.ml_trace.specs.WordAutomata.{WordLasso, stem, turn}
use Rattle.ml_trace.proofs.Runs.{run-append}
use Rattle.ml_emptiness.specs.Emptiness.{IsAccepted, reads}
use Rattle.ml_emptiness.specs.Systems.{Goes, IsWordOn, SystemTable}
use Rattle.ml_emptiness.specs.private.Pairs.{IsPartly, arc, pair}
use Rattle.ml_emptiness.specs.declared.pairs.Origin.{Origin}
use Rattle.ml_emptiness.specs.declared.pairs.Pair.{Pair}
use Rattle.ml_lists.specs.Member.{IsMember}

abbrev pub moving : SystemTable → ℕ → ℕ → ℕ → Bool → Type 0
moving s l a b accepting = Goes s a l b

module _ (s : SystemTable) where
  pub path_on : (us : List ℕ) (at : ℕ → ℕ)
      → ((k : ℕ) → k < length us → Goes s (at k) (get_or us k 0) (at (suc k)))
      → Run (moving s) us (at 0) (at (length us))
  path_on [] at goes = refl
  path_on (u ∷ us) at goes =
      (at 1, false, goes 0 (omega arith), path_on us (λ k. at (suc k)) (λ k low. goes (suc k) (omega (arith, low))))

  module _ (lasso : Lasso) (w : WordLasso ℕ) (on : IsWordOn s lasso w) where
    at : ℕ → ℕ
    at k = get_or (round lasso) k 0

    starts : lasso.start < length lasso.entries
    starts = let a = on.one_length in let b = on.one_loop in let c = on.loops in omega (arith, a, b, c)

    at_first : at 0 ≡ 0
    unfolding at
    at_first = round-entry lasso 0 (omega (arith, starts)) ∙ on.begins

    at_end : at (length w.word) ≡ at w.loop_start
    unfolding at
    at_end =
        round-end lasso (length w.word) (sym on.one_length)
        ∙ sym (round-entry lasso lasso.start starts)
        ∙ ap (λ k. get_or (round lasso) k 0) on.one_loop

    goes_at : (k : ℕ) → k < length w.word → Goes s (at k) (get_or w.word k 0) (at (suc k))
    unfolding at
    goes_at k low =
        let one : k + 1 ≡ suc k = omega arith in
        subst (λ j. Goes s (get_or (round lasso) k 0) (get_or w.word k 0) (get_or (round lasso) j 0)) one (on.goes_on k low)

    -- the state at the loop start
    pub home : ℕ
    home = at w.loop_start

    pub stem_moves : Run (moving s) (stem w) 0 home
    unfolding home
    stem_moves =
        let long : length (stem w) ≡ w.loop_start = length-take-le w.loop_start w.word (let l = on.loops in omega arith) in
        subst (λ a. Run (moving s) (stem w) a (at w.loop_start)) at_first
        (subst (λ n. Run (moving s) (stem w) (at 0) (at n)) long
        (path_on (stem w) at (λ k low.
        let here : k < w.loop_start = omega arith in
        subst (λ u. Goes s (at k) u (at (suc k))) (sym (get_or-take w.loop_start w.word k 0 here))
        (goes_at k (let l = on.loops in omega arith)))))

    pub turn_moves : Run (moving s) (turn w) home home
    unfolding home
    turn_moves =
        let long : length w.word ≡ w.loop_start + length (turn w) =
        let d = length-drop w.loop_start w.word in let l = on.loops in omega arith in
        subst (λ a. Run (moving s) (turn w) (at w.loop_start) a) (ap at (sym long) ∙ at_end)
        (subst (λ n. Run (moving s) (turn w) (at n) (at (w.loop_start + length (turn w)))) zero_more
        (path_on (turn w) (λ k. at (w.loop_start + k)) (λ k low.
        let one : suc (w.loop_start + k) ≡ w.loop_start + suc k = omega arith in
        subst (λ n. Goes s (at (w.loop_start + k)) (get_or (turn w) k 0) (at n)) one
        (subst (λ u. Goes s (at (w.loop_start + k)) u (at (suc (w.loop_start + k))))
        (sym (get_or-drop w.loop_start w.word k 0))
        (goes_at (w.loop_start + k) (omega arith))))))
      where
        zero_more : w.loop_start + 0 ≡ w.loop_start
        zero_more = omega arith

-- a run that comes back, several times over
pub repeated_run : {S L : Type 0} (leads : L → S → S → Bool → Type 0) (u : List L) (p : S) (n : ℕ)
    → Run leads u p p
    → Run leads (repeated n u) p p
repeated_run leads u p zero run = refl
repeated_run leads u p (suc n) run = run-append leads u (repeated n u) p p p run (repeated_run leads u p n run)

module _ (row : List (List Transition)) (s : SystemTable) (pairs : List Pair) (arcs : List Arc) (origins : List Origin)
    (found : IsPartly row s pairs arcs origins (length pairs)) (size top : ℕ) where
  abbrev graph : OneSidedGraph
  graph = record { size = size; top = top; arcs = arcs }

  -- the pair to which a joint run leads, with a walk to it
  pub record Walked (i a q : ℕ) : Type 0 where
    pub number : ℕ
    pub stands : slice_get pairs number ≡ Some (pair a q)
    pub way : List Arc
    pub walk : IsWalk graph 0 i way number

  pub record WalkedAccepting (i a q : ℕ) : Type 0 where
    pub number : ℕ
    pub stands : slice_get pairs number ≡ Some (pair a q)
    pub way : List Arc
    pub walk : IsWalk graph 0 i way number
    pub met : 0 < count_at 0 way

  -- one step
  record Stepped (i a q : ℕ) (accepting : Bool) : Type 0 where
    pub number : ℕ
    pub stands : slice_get pairs number ≡ Some (pair a q)
    pub member : IsMember (arc i accepting number) arcs

  step : (i a q l b r : ℕ) (accepting : Bool)
      → slice_get pairs i ≡ Some (pair a q)
      → Goes s a l b
      → reads row l q r accepting
      → Stepped i b r accepting
  step i a q l b r accepting at goes is_read =
      let left = found.are_left i (within at) (pair a q) l (pair b r) accepting at (record { goes = goes; is_read = is_read }) in
      record { number = left.0; stands = left.1; member = left.2 }
    where
      within : slice_get pairs i ≡ Some (pair a q) → i < length pairs
      within at = slice_get_within pairs i (pair a q) at

  pub walked : (us : List ℕ) (i a q b r : ℕ)
      → slice_get pairs i ≡ Some (pair a q)
      → Run (moving s) us a b
      → Run (reads row) us q r
      → Walked i b r
  walked [] i a q b r at moves run = record {
    number = i;
    stands = at ∙ ap (λ c. Some (pair c q)) moves ∙ ap (λ t. Some (pair b t)) run;
    way = [];
    walk = refl;
  }
  walked (u ∷ us) i a q b r at moves run =
      let st = step i a q u moves.0 run.0 run.1 at moves.2 run.2 in
      let rest = walked us st.number moves.0 run.0 b r st.stands moves.3 run.3 in
      record {
        number = rest.number;
        stands = rest.stands;
        way = arc i run.1 st.number ∷ rest.way;
        walk = (
          record {
            member = contains_of_member (arc i run.1 st.number) arcs st.member;
            leaves = refl;
            high = omega arith;
          },
          rest.walk,
        );
      }

  pub walked_accepting : (us : List ℕ) (i a q b r : ℕ)
      → slice_get pairs i ≡ Some (pair a q)
      → Run (moving s) us a b
      → AcceptingRun (reads row) us q r
      → WalkedAccepting i b r
  walked_accepting [] i a q b r at moves run = absurd run
  walked_accepting (u ∷ us) i a q b r at moves (inl here) =
      let st = step i a q u moves.0 here.0 true at moves.2 here.1 in
      let rest = walked us st.number moves.0 here.0 b r st.stands moves.3 here.2 in
      record {
        number = rest.number;
        stands = rest.stands;
        way = arc i true st.number ∷ rest.way;
        walk = (
          record {
            member = contains_of_member (arc i true st.number) arcs st.member;
            leaves = refl;
            high = omega arith;
          },
          rest.walk,
        );
        met = omega arith;
      }
  walked_accepting (u ∷ us) i a q b r at moves (inr later) =
      let st = step i a q u moves.0 later.0 later.1 at moves.2 later.2 in
      let rest = walked_accepting us st.number moves.0 later.0 b r st.stands moves.3 later.3 in
      let m = rest.met in
      record {
        number = rest.number;
        stands = rest.stands;
        way = arc i later.1 st.number ∷ rest.way;
        walk = (
          record {
            member = contains_of_member (arc i later.1 st.number) arcs st.member;
            leaves = refl;
            high = omega arith;
          },
          rest.walk,
        );
        met = omega arith;
      }

  pub cycle_of : (lasso : Lasso) (w : WordLasso ℕ) → IsAccepted row s lasso w → EvenCycleIn graph
  cycle_of lasso w accepted = record {
    arcs = round_it.way;
    is_even = record {
      lowest = 0;
      even = refl;
      begins = to.number;
      leads_back = subst (λ j. IsWalk graph 0 to.number round_it.way j) same round_it.walk;
      met = round_it.met;
    };
  }
    where
      on : IsWordOn s lasso w
      on = accepted.is_word

      here : ℕ
      here = home s lasso w on

      to : Walked 0 here accepted.is_accepted.state
      to =
          walked (stem w ++ repeated accepted.is_accepted.turns (turn w)) 0 0 0 here accepted.is_accepted.state
          found.met.begins
          (run-append (moving s) (stem w) (repeated accepted.is_accepted.turns (turn w)) 0 here here
          (stem_moves s lasso w on)
          (repeated_run (moving s) (turn w) here accepted.is_accepted.turns (turn_moves s lasso w on)))
          accepted.is_accepted.comes

      round_it : WalkedAccepting to.number here accepted.is_accepted.state
      round_it =
          walked_accepting (repeated accepted.is_accepted.rounds (turn w)) to.number here accepted.is_accepted.state here
          accepted.is_accepted.state to.stands
          (repeated_run (moving s) (turn w) here accepted.is_accepted.rounds (turn_moves s lasso w on))
          accepted.is_accepted.returns

      same : round_it.number ≡ to.number
      same = found.once round_it.number to.number (pair here accepted.is_accepted.state) round_it.stands to.stands
