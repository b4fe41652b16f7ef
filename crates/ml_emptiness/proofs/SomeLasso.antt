-- Whether a system has a word that is accepted is decided.
--
-- Pairs of a state of the system and one of the automaton are numbers below a bound here, reached or not. An accepted word is
-- there exactly where an accepting joint move is reached from the start, and leads back to where it begins.
--
--   bound row     == a number above all states to which the letters of the row lead
--   code, pair_of == a pair as a number, and back
--   Steps, Hits   == a joint move; an accepting one
--   Turn          == an accepting one that is reached, and leads back
--   way_of        == ways of joint moves
--   turn_found, found_turn == an accepted word is there exactly where a turn is
--   some_lasso    == a lasso with an accepted word, or none
use Rattle.std.proofs.Common.{ℕ, zero, suc, ◌≡◌, ◌+◌, ◌*◌, ◌/◌, ◌%◌, ◌<◌, ◌≤◌, ◌⊎◌, inl, inr, arith, max, Bool, true, false, List, [], ◌∷◌, ◌++◌}
use Rattle.std.proofs.Common.{length, get_or, refl, sym, ap, ◌∙◌, subst}
use Rattle.std.proofs.Math.Nat.{add-mul-div_left, add-mul-mod_self_left, div-eq_of_lt, mod-eq_of_lt, mul-le-mul_left, mul-suc}
use Rattle.ml_lists.specs.Found.{Found}
use Rattle.ml_lists.specs.Lasso.{Lasso}
use Rattle.ml_lists.specs.Member.{IsMember}
use Rattle.ml_lists.specs.Reach.{Reaches}
use Rattle.ml_lists.specs.Repeated.{repeated}
use Rattle.ml_lists.proofs.Decided.{Decided, decided_both, decided_either, decided_less, decided_number, decided_same}
use Rattle.ml_lists.proofs.DecidedReach.{Leads, decided_leads, first_step, no_step}
use Rattle.ml_lists.proofs.Deciding.{decided_member, decided_truth, some_below}
use Rattle.ml_lists.proofs.Reach.{reaches_self, reaches_step, reaches_through}
use Rattle.ml_trace.specs.declared.letters.Transition.{Transition}
use Rattle.ml_trace.specs.Run.{Run, AcceptingRun}
use Rattle.ml_trace.specs.WordAutomata.{WordLasso, stem, turn}
use Rattle.ml_trace.proofs.Runs.{run-append}
use Rattle.ml_emptiness.specs.Emptiness.{IsAccepted, IsEmpty, reads}
use Rattle.ml_emptiness.specs.Laws.{SomeLasso}
use Rattle.ml_emptiness.specs.Systems.{Goes, IsSystem, SystemTable, moves_of}
use Rattle.ml_emptiness.specs.private.Pairs.{AcceptingWay, Joins, Way, pair}
use Rattle.ml_emptiness.specs.declared.pairs.Pair.{Pair}
use Rattle.ml_emptiness.specs.declared.systems.Move.{Move}
use Rattle.ml_emptiness.proofs.Accepted.{home, moving, repeated_run, stem_moves, turn_moves}
use Rattle.ml_emptiness.proofs.Tables.{goes_low}
use Rattle.ml_emptiness.proofs.Ways.{found_on}

-- ---- a bound on the automaton's states

above : List Transition → ℕ
above [] = 1
above (t ∷ ts) = max (suc t.to) (above ts)

bound : List (List Transition) → ℕ
bound [] = 1
bound (ts ∷ row) = max (above ts) (bound row)

to_above : (ts : List Transition) (t : Transition) → IsMember t ts → t.to < above ts
unfolding above
to_above [] t h = absurd h
to_above (u ∷ ts) t (inl is) = let e = ap (λ (v : Transition). v.to) is in omega arith
to_above (u ∷ ts) t (inr h) = let low = to_above ts t h in omega arith

to_bound : (row : List (List Transition)) (l : ℕ) (t : Transition) → IsMember t (get_or row l []) → t.to < bound row
unfolding bound
to_bound [] l t h = absurd h
to_bound (ts ∷ row) zero t h = let low = to_above ts t h in omega arith
to_bound (ts ∷ row) (suc l) t h = let low = to_bound row l t h in omega arith

some_bound : (row : List (List Transition)) → 0 < bound row
unfolding bound
some_bound [] = omega arith
some_bound (ts ∷ row) = let more = some_bound row in omega arith

-- ---- equality

same_move : (x y : Move) → Decided (x ≡ y)
same_move x y =
    decided_same (λ (both : (x.letter ≡ y.letter) × (x.to ≡ y.to)). λ i. record { letter = both.0 i; to = both.1 i })
    (λ e. (ap (λ (m : Move). m.letter) e, ap (λ (m : Move). m.to) e))
    (decided_both (decided_number x.letter y.letter) (decided_number x.to y.to))

same_transition : (x y : Transition) → Decided (x ≡ y)
same_transition x y =
    decided_same
    (λ (both : (x.from ≡ y.from) × ((x.to ≡ y.to) × (x.accepting ≡ y.accepting))). λ i.
    record { from = both.0 i; to = both.1.0 i; accepting = both.1.1 i })
    (λ e. (ap (λ (t : Transition). t.from) e, (ap (λ (t : Transition). t.to) e, ap (λ (t : Transition). t.accepting) e)))
    (decided_both (decided_number x.from y.from)
    (decided_both (decided_number x.to y.to) (decided_truth x.accepting y.accepting)))

module _ (row : List (List Transition)) (s : SystemTable) (sys : IsSystem (length row) s) where
  -- ---- pairs as numbers

  abbrev width : ℕ
  width = bound row

  abbrev size : ℕ
  size = width * length s

  abbrev code : ℕ → ℕ → ℕ
  code a q = q + width * a

  abbrev pair_of : ℕ → Pair
  pair_of k = pair (k / width) (k % width)

  code_low : (a q : ℕ) → a < length s → q < width → code a q < size
  code_low a q low few =
      let more : width * suc a ≤ width * length s = mul-le-mul_left width low in
      let next = mul-suc width a in
      omega (arith, few, more, next)

  pair_is : (a q : ℕ) → q < width → pair_of (code a q) ≡ pair a q
  pair_is a q few =
      let some = some_bound row in
      let at : (q + width * a) / width ≡ a =
      add-mul-div_left q a {y = width} some ∙ ap (λ n. n + a) (div-eq_of_lt {n = q} {m = width} few) ∙ none a in
      let rest : (q + width * a) % width ≡ q = add-mul-mod_self_left q width a ∙ mod-eq_of_lt {n = q} {m = width} few in
      λ i. pair (at i) (rest i)
    where
      none : (n : ℕ) → 0 + n ≡ n
      none n = omega arith

  -- ---- joint moves

  record Steps (k l : ℕ) : Type 0 where
    pub from_low : k < size
    pub to_low : l < size
    pub letter : ℕ
    pub accepting : Bool
    pub joins : Joins row s (pair_of k) letter (pair_of l) accepting

  record Hits (k l : ℕ) : Type 0 where
    pub from_low : k < size
    pub to_low : l < size
    pub letter : ℕ
    pub joins : Joins row s (pair_of k) letter (pair_of l) true

  decided_joins : (x y : Pair) (l : ℕ) (b : Bool) → Decided (Joins row s x l y b)
  decided_joins x y l b =
      decided_same
      (λ (both : IsMember {X = Move} (record { letter = l; to = y.state }) (moves_of s x.state)
      × IsMember {X = Transition} (record { from = x.at; to = y.at; accepting = b }) (get_or row l [])).
      record { goes = both.0; is_read = both.1 })
      (λ j. (j.goes, j.is_read))
      (decided_both (decided_member same_move (record { letter = l; to = y.state }) (moves_of s x.state))
      (decided_member same_transition (record { from = x.at; to = y.at; accepting = b }) (get_or row l [])))

  letter_low : (x y : Pair) (l : ℕ) (b : Bool) → Joins row s x l y b → l < length row
  letter_low x y l b j = sys.read x.state (record { letter = l; to = y.state }) j.goes

  abbrev Either : ℕ → ℕ → ℕ → Type 0
  Either k l n = Joins row s (pair_of k) n (pair_of l) true ⊎ Joins row s (pair_of k) n (pair_of l) false

  decided_steps : (k l : ℕ) → Decided (Steps k l)
  decided_steps k l =
      decided_same there back
      (decided_both (decided_less k size) (decided_both (decided_less l size)
      (some_below (Either k l) (length row)
      (λ n low. decided_either (decided_joins (pair_of k) (pair_of l) n true) (decided_joins (pair_of k) (pair_of l) n false)))))
    where
      by_kind : k < size → l < size → (n : ℕ) → Either k l n → Steps k l
      by_kind from to n (inl j) = record { from_low = from; to_low = to; letter = n; accepting = true; joins = j }
      by_kind from to n (inr j) = record { from_low = from; to_low = to; letter = n; accepting = false; joins = j }

      there : ((k < size) × ((l < size) × Found (Either k l) (length row))) → Steps k l
      there h = by_kind h.0 h.1.0 h.1.1.place h.1.1.holds

      either : (n : ℕ) (b : Bool) → Joins row s (pair_of k) n (pair_of l) b → Either k l n
      either n true j = inl j
      either n false j = inr j

      back : Steps k l → (k < size) × ((l < size) × Found (Either k l) (length row))
      back st = (
        st.from_low,
        (
          st.to_low,
          record {
            place = st.letter;
            below = letter_low (pair_of k) (pair_of l) st.letter st.accepting st.joins;
            holds = either st.letter st.accepting st.joins;
          },
        ),
      )

  decided_hits : (k l : ℕ) → Decided (Hits k l)
  decided_hits k l =
      decided_same
      (λ (h : (k < size) × ((l < size) × Found (λ n. Joins row s (pair_of k) n (pair_of l) true) (length row))).
      record { from_low = h.0; to_low = h.1.0; letter = h.1.1.place; joins = h.1.1.holds })
      (λ (st : Hits k l). (
        st.from_low,
        (
          st.to_low,
          record {
            place = st.letter;
            below = letter_low (pair_of k) (pair_of l) st.letter true st.joins;
            holds = st.joins;
          },
        ),
      ))
      (decided_both (decided_less k size) (decided_both (decided_less l size)
      (some_below (λ n. Joins row s (pair_of k) n (pair_of l) true) (length row)
      (λ n low. decided_joins (pair_of k) (pair_of l) n true))))

  -- ---- turns

  record Turn : Type 0 where
    pub from : ℕ
    pub to : ℕ
    pub comes : Leads Steps 0 from
    pub hits : Hits from to
    pub returns : Leads Steps to from

  start_low : 0 < size
  start_low =
      let low = code_low 0 0 sys.some (some_bound row) in
      let is : 0 + width * 0 ≡ 0 = grind arith in
      subst (λ n. n < size) is low

  decided_turn : Decided Turn
  decided_turn =
      decided_same there back
      (some_below (λ k. Leads Steps 0 k × Found (λ l. Hits k l × Leads Steps l k) size) size (λ k low.
      decided_both (decided_leads Steps size (λ x y st. st.to_low) decided_steps 0 k start_low)
      (some_below (λ l. Hits k l × Leads Steps l k) size (λ l few.
      decided_both (decided_hits k l) (decided_leads Steps size (λ x y st. st.to_low) decided_steps l k few)))))
    where
      there : Found (λ k. Leads Steps 0 k × Found (λ l. Hits k l × Leads Steps l k) size) size → Turn
      there f = record {
        from = f.place;
        to = f.holds.1.place;
        comes = f.holds.0;
        hits = f.holds.1.holds.0;
        returns = f.holds.1.holds.1;
      }

      back : Turn → Found (λ k. Leads Steps 0 k × Found (λ l. Hits k l × Leads Steps l k) size) size
      back t = record {
        place = t.from;
        below = t.hits.from_low;
        holds = (t.comes, record { place = t.to; below = t.hits.to_low; holds = (t.hits, t.returns) });
      }

  -- ---- an accepted word of a turn

  record WayOf (k l : ℕ) : Type 0 where
    pub states : List ℕ
    pub letters : List ℕ
    pub way : Way row s (pair_of k) states letters (pair_of l)

  way_of : (m k l : ℕ) → Reaches Steps k l m → WayOf k l
  way_of zero k l r = record { states = []; letters = []; way = ap pair_of (no_step Steps k l r) }
  way_of (suc m) k l r =
      let f = first_step Steps k l m r in
      let rest = way_of m f.next l f.rest in
      record {
        states = (k / width) ∷ rest.states;
        letters = f.step.letter ∷ rest.letters;
        way = (refl, (pair_of f.next, f.step.accepting, f.step.joins, rest.way));
      }

  found_turn : Turn → (lasso : Lasso) × ((w : WordLasso ℕ) × IsAccepted row s lasso w)
  found_turn t =
      let to = way_of t.comes.steps 0 t.from t.comes.reaches in
      let rest = way_of t.returns.steps t.to t.from t.returns.reaches in
      let round_it : AcceptingWay row s (pair_of t.from) ((t.from / width) ∷ rest.states) (t.hits.letter ∷ rest.letters) (pair_of t.from) =
      (refl, inl (pair_of t.to, t.hits.joins, rest.way)) in
      let found = found_on row s (pair_of 0) (pair_of t.from) to.states to.letters ((t.from / width) ∷ rest.states)
      (t.hits.letter ∷ rest.letters) begins to.way round_it in
      (_, (_, found))
    where
      begins : pair_of 0 ≡ pair 0 0
      begins =
          let some = some_bound row in
          let at : 0 / width ≡ 0 = div-eq_of_lt {n = 0} {m = width} some in
          let rest : 0 % width ≡ 0 = mod-eq_of_lt {n = 0} {m = width} some in
          λ i. pair (at i) (rest i)

  -- ---- a turn of an accepted word

  leads_on : (k l m : ℕ) → Leads Steps k l → Leads Steps l m → Leads Steps k m
  leads_on k l m one two = record {
    steps = one.steps + two.steps;
    reaches = reaches_through Steps k l m one.steps two.steps one.reaches two.reaches;
  }

  step_of : (a q l b r : ℕ) (accepting : Bool) → q < width → Goes s a l b → reads row l q r accepting
      → Steps (code a q) (code b r)
  step_of a q l b r accepting few goes is_read = record {
    from_low = code_low a q (goes_low s a l b goes) few;
    to_low = code_low b r (sys.leads a (record { letter = l; to = b }) goes) (to_bound row l (record { from = q; to = r; accepting = accepting }) is_read);
    letter = l;
    accepting = accepting;
    joins =
        subst (λ x. Joins row s x l (pair_of (code b r)) accepting) (sym (pair_is a q few))
        (subst (λ y. Joins row s (pair a q) l y accepting)
        (sym (pair_is b r (to_bound row l (record { from = q; to = r; accepting = accepting }) is_read)))
        (record { goes = goes; is_read = is_read }));
  }

  led : (us : List ℕ) (a q b r : ℕ) → q < width → Run (moving s) us a b → Run (reads row) us q r
      → Leads Steps (code a q) (code b r) × (r < width)
  led [] a q b r few moves run = (
    subst (λ n. Leads Steps (code a q) n) (λ i. run i + width * moves i)
        (record { steps = 0; reaches = reaches_self Steps (code a q) }),
    subst (λ n. n < width) run few,
  )
  led (u ∷ us) a q b r few moves run =
      let st = step_of a q u moves.0 run.0 run.1 few moves.2 run.2 in
      let low = to_bound row u (record { from = q; to = run.0; accepting = run.1 }) run.2 in
      let rest = led us moves.0 run.0 b r low moves.3 run.3 in (
        record {
          steps = suc rest.0.steps;
          reaches = reaches_step Steps (code a q) (code moves.0 run.0) (code b r) rest.0.steps st rest.0.reaches;
        },
        rest.1,
      )

  record HitOn (k m : ℕ) : Type 0 where
    pub from : ℕ
    pub to : ℕ
    pub before : Leads Steps k from
    pub hits : Hits from to
    pub behind : Leads Steps to m

  hit_on : (us : List ℕ) (a q b r : ℕ) → q < width → Run (moving s) us a b → AcceptingRun (reads row) us q r
      → HitOn (code a q) (code b r)
  unfolding step_of
  hit_on [] a q b r few moves run = absurd run
  hit_on (u ∷ us) a q b r few moves (inl here) =
      let st = step_of a q u moves.0 here.0 true few moves.2 here.1 in
      let low = to_bound row u (record { from = q; to = here.0; accepting = true }) here.1 in
      record {
        from = code a q;
        to = code moves.0 here.0;
        before = record { steps = 0; reaches = reaches_self Steps (code a q) };
        hits = record { from_low = st.from_low; to_low = st.to_low; letter = u; joins = st.joins };
        behind = (led us moves.0 here.0 b r low moves.3 here.2).0;
      }
  hit_on (u ∷ us) a q b r few moves (inr later) =
      let st = step_of a q u moves.0 later.0 later.1 few moves.2 later.2 in
      let low = to_bound row u (record { from = q; to = later.0; accepting = later.1 }) later.2 in
      let rest = hit_on us moves.0 later.0 b r low moves.3 later.3 in
      record {
        from = rest.from;
        to = rest.to;
        before = record {
          steps = suc rest.before.steps;
          reaches = reaches_step Steps (code a q) (code moves.0 later.0) rest.from rest.before.steps st rest.before.reaches;
        };
        hits = rest.hits;
        behind = rest.behind;
      }

  turn_found : (lasso : Lasso) (w : WordLasso ℕ) → IsAccepted row s lasso w → Turn
  turn_found lasso w accepted =
      let on = accepted.is_word in
      let here = home s lasso w on in
      let a = accepted.is_accepted in
      let to = led (stem w ++ repeated a.turns (turn w)) 0 0 here a.state (some_bound row)
      (run-append (moving s) (stem w) (repeated a.turns (turn w)) 0 here here (stem_moves s lasso w on)
      (repeated_run (moving s) (turn w) here a.turns (turn_moves s lasso w on))) a.comes in
      let hit = hit_on (repeated a.rounds (turn w)) here a.state here a.state to.1
      (repeated_run (moving s) (turn w) here a.rounds (turn_moves s lasso w on)) a.returns in
      let begins : 0 + width * 0 ≡ 0 = grind arith in
      record {
        from = hit.from;
        to = hit.to;
        comes =
            subst (λ n. Leads Steps n hit.from) begins
            (leads_on (code 0 0) (code here a.state) hit.from to.0 hit.before);
        hits = hit.hits;
        returns = leads_on hit.to (code here a.state) hit.from hit.behind hit.before;
      }

  decided_lasso : ((lasso : Lasso) × ((w : WordLasso ℕ) × IsAccepted row s lasso w)) ⊎ IsEmpty row s
  decided_lasso = by_turn decided_turn
    where
      by_turn : Decided Turn → ((lasso : Lasso) × ((w : WordLasso ℕ) × IsAccepted row s lasso w)) ⊎ IsEmpty row s
      by_turn (inl t) = inl (found_turn t)
      by_turn (inr none) = inr (λ lasso w accepted. none (turn_found lasso w accepted))

pub some_lasso : SomeLasso
some_lasso row s sys = decided_lasso row s sys
