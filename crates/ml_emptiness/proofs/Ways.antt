-- Ways over pairs of states make accepted words.
--
--   way_long            == a way has a letter for each state
--   way_append, accepting_behind == one way behind another
--   accepting_is_way    == an accepting way is one
--   way_runs, accepting_runs == the automaton's run along a way
--   way_goes            == the system's moves along a way
--   found_on            == a way from the start to a pair, and an accepting one from there back to it, make an accepted word
use Rattle.std.proofs.Common.{ℕ, zero, suc, ◌≡◌, ◌+◌, ◌-◌, ◌<◌, inl, inr, arith, true, List, [], ◌∷◌, ◌++◌}
use Rattle.std.proofs.Common.{length, get_or, take, drop, refl, sym, ap, ◌∙◌, subst, length-append}
use Rattle.std.proofs.Math.Seq.{get_or-append_seam, take-append_seam, drop-append_seam}
use Rattle.std.proofs.lemmas.List.{append-nil}
use Rattle.ml_lists.specs.Lasso.{Lasso, round}
use Rattle.ml_lists.specs.Repeated.{repeated}
use Rattle.ml_lists.proofs.Repeated.{repeated-one}
use Rattle.ml_trace.specs.declared.letters.Transition.{Transition}
use Rattle.ml_trace.specs.Run.{Run, AcceptingRun}
use Rattle.ml_trace.specs.WordAutomata.{IsAcceptedFrom, WordLasso, stem, turn}
use Rattle.ml_emptiness.specs.Emptiness.{IsFound, reads}
use Rattle.ml_emptiness.specs.Systems.{Goes, IsWordOn, SystemTable}
use Rattle.ml_emptiness.specs.private.Pairs.{AcceptingWay, Way, pair}
use Rattle.ml_emptiness.specs.declared.pairs.Pair.{Pair}

module _ (row : List (List Transition)) (s : SystemTable) where
  pub way_long : (x : Pair) (ns ls : List ℕ) (y : Pair) → Way row s x ns ls y → length ns ≡ length ls
  way_long x [] [] y way = refl
  way_long x [] (l ∷ ls) y way = absurd way
  way_long x (a ∷ ns) [] y way = absurd way
  way_long x (a ∷ ns) (l ∷ ls) y way = ap suc (way_long way.1.0 ns ls y way.1.3)

  pub accepting_is_way : (x : Pair) (ns ls : List ℕ) (y : Pair) → AcceptingWay row s x ns ls y → Way row s x ns ls y
  accepting_is_way x [] [] y way = absurd way
  accepting_is_way x [] (l ∷ ls) y way = absurd way
  accepting_is_way x (a ∷ ns) [] y way = absurd way
  accepting_is_way x (a ∷ ns) (l ∷ ls) y (at, inl here) = (at, (here.0, true, here.1, here.2))
  accepting_is_way x (a ∷ ns) (l ∷ ls) y (at, inr later) =
      (at, (later.0, later.1, later.2, accepting_is_way later.0 ns ls y later.3))

  pub way_append : (x : Pair) (ns ls : List ℕ) (y : Pair) (bs ms : List ℕ) (z : Pair)
      → Way row s x ns ls y
      → Way row s y bs ms z
      → Way row s x (ns ++ bs) (ls ++ ms) z
  way_append x [] [] y bs ms z same way = subst (λ v. Way row s v bs ms z) (sym same) way
  way_append x [] (l ∷ ls) y bs ms z first way = absurd first
  way_append x (a ∷ ns) [] y bs ms z first way = absurd first
  way_append x (a ∷ ns) (l ∷ ls) y bs ms z first way =
      (first.0, (first.1.0, first.1.1, first.1.2, way_append first.1.0 ns ls y bs ms z first.1.3 way))

  pub way_runs : (x : Pair) (ns ls : List ℕ) (y : Pair) → Way row s x ns ls y → Run (reads row) ls x.at y.at
  way_runs x [] [] y same = ap (λ (v : Pair). v.at) same
  way_runs x [] (l ∷ ls) y way = absurd way
  way_runs x (a ∷ ns) [] y way = absurd way
  way_runs x (a ∷ ns) (l ∷ ls) y way =
      (way.1.0.at, way.1.1, way.1.2.is_read, way_runs way.1.0 ns ls y way.1.3)

  pub accepting_runs : (x : Pair) (ns ls : List ℕ) (y : Pair)
      → AcceptingWay row s x ns ls y
      → AcceptingRun (reads row) ls x.at y.at
  accepting_runs x [] [] y way = absurd way
  accepting_runs x [] (l ∷ ls) y way = absurd way
  accepting_runs x (a ∷ ns) [] y way = absurd way
  accepting_runs x (a ∷ ns) (l ∷ ls) y (at, inl here) =
      inl (here.0.at, here.1.is_read, way_runs here.0 ns ls y here.2)
  accepting_runs x (a ∷ ns) (l ∷ ls) y (at, inr later) =
      inr (later.0.at, later.1, later.2.is_read, accepting_runs later.0 ns ls y later.3)

  -- the first state of a way with its end behind it
  first_of : (x : Pair) (ns ls : List ℕ) (y : Pair)
      → Way row s x ns ls y
      → get_or (ns ++ y.state ∷ []) 0 0 ≡ x.state
  first_of x [] [] y same = ap (λ (v : Pair). v.state) (sym same)
  first_of x [] (l ∷ ls) y way = absurd way
  first_of x (a ∷ ns) [] y way = absurd way
  first_of x (a ∷ ns) (l ∷ ls) y way = sym way.0

  pub way_goes : (x : Pair) (ns ls : List ℕ) (y : Pair)
      → Way row s x ns ls y
      → (k : ℕ)
      → k < length ls
      → Goes s (get_or (ns ++ y.state ∷ []) k 0) (get_or ls k 0) (get_or (ns ++ y.state ∷ []) (suc k) 0)
  way_goes x [] [] y way k low = absurd (omega (arith, low))
  way_goes x [] (l ∷ ls) y way k low = absurd way
  way_goes x (a ∷ ns) [] y way k low = absurd way
  way_goes x (a ∷ ns) (l ∷ ls) y way zero low =
      subst (λ b. Goes s a l b) (sym (first_of way.1.0 ns ls y way.1.3))
      (subst (λ b. Goes s b l way.1.0.state) way.0 way.1.2.goes)
  way_goes x (a ∷ ns) (l ∷ ls) y way (suc k) low = way_goes way.1.0 ns ls y way.1.3 k (omega (arith, low))

  -- an accepting way has a step
  has_step : (x : Pair) (ns ls : List ℕ) (y : Pair) → AcceptingWay row s x ns ls y → 0 < length ls
  has_step x [] [] y way = absurd way
  has_step x [] (l ∷ ls) y way = absurd way
  has_step x (a ∷ ns) [] y way = absurd way
  has_step x (a ∷ ns) (l ∷ ls) y way = omega arith

  -- the accepted word of a way to a pair, and an accepting one round from there
  module _ (x y : Pair) (ns ls bs ms : List ℕ) (begins : x ≡ pair 0 0) (to : Way row s x ns ls y)
      (round_it : AcceptingWay row s y bs ms y) where
    long : length ns ≡ length ls
    long = way_long x ns ls y to

    round_way : Way row s y bs ms y
    round_way = accepting_is_way y bs ms y round_it

    whole : Way row s x (ns ++ bs) (ls ++ ms) y
    whole = way_append x ns ls y bs ms y to round_way

    lasso : Lasso
    lasso = record { entries = ns ++ bs; start = length ns }

    word : WordLasso ℕ
    word = record { word = ls ++ ms; loop_start = length ns }

    -- the entry at the loop start is the state to which the word leads back
    back : (ps qs : List ℕ) (z : Pair) → 0 < length qs → Way row s z ps qs y → get_or (ns ++ ps) (length ns) 0 ≡ z.state
    back [] [] z some way = absurd (omega (arith, some))
    back [] (q ∷ qs) z some way = absurd way
    back (p ∷ ps) [] z some way = absurd way
    back (p ∷ ps) (q ∷ qs) z some way = get_or-append_seam ns p ps 0 ∙ sym way.0

    -- the first state of a way
    head : (ps qs : List ℕ) (z : Pair) → 0 < length qs → Way row s z ps qs y → get_or ps 0 0 ≡ z.state
    head [] [] z some way = absurd (omega (arith, some))
    head [] (q ∷ qs) z some way = absurd way
    head (p ∷ ps) [] z some way = absurd way
    head (p ∷ ps) (q ∷ qs) z some way = sym way.0

    stem_is : stem word ≡ ls
    unfolding word
    stem_is = ap (λ n. take n (ls ++ ms)) long ∙ take-append_seam ls ms

    turn_is : turn word ≡ ms
    unfolding word
    turn_is = ap (λ n. drop n (ls ++ ms)) long ∙ drop-append_seam ls ms

    is_word : IsWordOn s lasso word
    unfolding word lasso
    is_word = record {
      begins =
          head (ns ++ bs) (ls ++ ms) x
          (let e = length-append ls ms in let h = has_step y bs ms y round_it in omega arith) whole
          ∙ ap (λ (v : Pair). v.state) begins;
      one_length = way_long x (ns ++ bs) (ls ++ ms) y whole;
      one_loop = refl;
      loops = let e = length-append ls ms in let l = long in let h = has_step y bs ms y round_it in omega arith;
      goes_on = λ k low. let one : suc k ≡ k + 1 = omega arith in
          subst (λ (b : ℕ). Goes s (get_or (round lasso) k 0) (get_or (ls ++ ms) k 0) (get_or (round lasso) b 0)) one
          (subst (λ (c : ℕ). Goes s (get_or ((ns ++ bs) ++ c ∷ []) k 0) (get_or (ls ++ ms) k 0) (get_or ((ns ++ bs) ++ c ∷ []) (suc k) 0))
          (sym (back bs ms y (has_step y bs ms y round_it) round_way)) (way_goes x (ns ++ bs) (ls ++ ms) y whole k low));
    }

    is_accepted : IsAcceptedFrom (reads row) 0 word
    is_accepted = record {
      turns = 0;
      state = y.at;
      comes =
          subst (λ us. Run (reads row) us 0 y.at) (sym (append-nil (stem word) ∙ stem_is))
          (subst (λ q. Run (reads row) ls q y.at) (ap (λ (v : Pair). v.at) begins) (way_runs x ns ls y to));
      rounds = 1;
      once = omega arith;
      returns =
          subst (λ us. AcceptingRun (reads row) us y.at y.at) (sym (repeated-one (turn word) ∙ turn_is))
          (accepting_runs y bs ms y round_it);
    }

    pub found_on : IsFound row s (ns ++ bs) (ls ++ ms) (length ns)
    unfolding word lasso
    found_on = record { is_word = is_word; is_accepted = is_accepted }
