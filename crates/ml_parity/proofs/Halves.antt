-- The two halves of a turn of the fast solver: what is solved when what is left of the part is.
--
--   first_solved   == where q won all that was left, the part is solved as winners and choices stand
--   all_won        == and q wins the whole part
--   firm           == else what the opponent of q won is the opponent's for good, once it is moved to the end
--   second_solved  == where what was left is solved, the part is
use Rattle.std.proofs.Common.{ℕ, ◌≡◌, ◌+◌, ◌<◌, ◌≤◌, ◌⊎◌, inl, inr, ⊎_elim, arith, subst, sym, ap, ◌∙◌, lt-ltb}
use Rattle.std.proofs.lemmas.Bool.{cases_lt}
use borrow.Author.Tests.{ltb-true}
use Rattle.ml_lists.proofs.Loops.{around}
use Rattle.ml_parity.specs.declared.players.Player.{Player}
use Rattle.ml_parity.specs.Player.{opponent}
use Rattle.ml_parity.specs.private.Sinks.{Board, Holds, Loop, GoodFor}
use Rattle.ml_parity.specs.private.Parts.{part, SolvesPart, IsFirm, IsFirstHalf, IsSecondHalf, Gathers}
use Rattle.ml_parity.proofs.Opponents.{cases_player, opponent-opponent, not_both}
use Rattle.ml_parity.proofs.Attractors.{loop_inside, above}

module _ (b : Board) (place : ℕ → ℕ) (n mid rest : ℕ) (q : Player) (win : ℕ → Player) (s : ℕ → ℕ)
    (half : IsFirstHalf b place n mid rest q win s) (won : (v : ℕ) → place v < rest → win v ≡ q) where
  -- q wins the whole part
  pub all_won : (v : ℕ) → place v < n → win v ≡ q
  all_won v inside = ⊎_elim (λ (low : place v < rest). won v low) (λ (late : rest ≤ place v). half.given v late inside)
      (cases_lt (place v) rest)

  -- q keeps to the vertices of lowest priority, since each move in the part is won
  lowest_keeps : (v : ℕ) → mid ≤ place v → place v < n → Holds b win q (s v) v
  lowest_keeps v top inside = record {
    own = λ own. let m = half.chosen v top inside own in record { move = m.0; wins = all_won (s v) m.1 };
    other = λ other w move. ⊎_elim
        (λ (within : place w < n). all_won w within)
        (λ (outside : n ≤ place w). half.is_part.leaves v w inside move outside ∙ ap opponent other
        ∙ opponent-opponent q)
        (cases_lt (place w) n);
  }

  -- a loop through one of them is good for q
  lowest_loops : (c : ℕ → ℕ) (m k : ℕ) → Loop b (part place n) win s q c m → k < m → mid ≤ place (c k) → GoodFor b q c m
  lowest_loops c m k loop low top = record {
    place = k;
    below = low;
    least = λ j below. half.lowest (c k) (c j) top (inside k (omega arith)) (inside j (omega arith));
    right = half.good (c k) top (inside k (omega arith));
  }
    where
      inside : (j : ℕ) → j ≤ m → place (c j) < n
      inside = loop_inside b place n win s q c m loop

  -- where q won all that was left, the part is solved as winners and choices stand
  pub first_solved : SolvesPart b place rest win s → SolvesPart b place n win s
  first_solved below = above b place n mid rest q win s half.is_part half.attracted half.given lowest_keeps lowest_loops
      below

-- where what was left is solved, the part is, in the second half
module _ (b : Board) (place : ℕ → ℕ) (n mid rest : ℕ) (q : Player) (win : ℕ → Player) (s : ℕ → ℕ)
    (half : IsSecondHalf b place n mid rest q win s) where
  firm_keeps : (v : ℕ) → mid ≤ place v → place v < n → Holds b win q (s v) v
  firm_keeps v top inside = record {
    own = λ own. let m = half.firm.own v top inside own in record { move = m.move; wins = m.wins };
    other = λ other w move. (half.firm.other v w top inside other move).1;
  }

  -- a loop that meets what is firm stays there
  firm_loops : (c : ℕ → ℕ) (m k : ℕ) → Loop b (part place n) win s q c m → k < m → mid ≤ place (c k) → GoodFor b q c m
  firm_loops c m k loop low top = half.firm.loops c m loop (λ j below. stays j (omega arith))
    where
      next : (j : ℕ) → j < m → mid ≤ place (c j) → mid ≤ place (c (j + 1))
      next j below here = by_owner (cases_player (b.owner (c j)) q)
        where
          inside : place (c j) < n
          inside = loop_inside b place n win s q c m loop j (omega arith)

          by_owner : (b.owner (c j) ≡ q) ⊎ (b.owner (c j) ≡ opponent q) → mid ≤ place (c (j + 1))
          by_owner (inl own) = subst (λ w. mid ≤ place w) (sym ((loop.steps j below).chosen own))
              (half.firm.own (c j) here inside own).behind
          by_owner (inr other) = (half.firm.other (c j) (c (j + 1)) here inside other (loop.steps j below).move).0

      stays : (j : ℕ) → j ≤ m → mid ≤ place (c j)
      stays = around c (λ v. mid ≤ place v) m loop.closed next k (omega arith) top

  pub second_solved : SolvesPart b place rest win s → SolvesPart b place n win s
  second_solved below = above b place n mid rest q win s half.is_part half.attracted half.given firm_keeps firm_loops
      below

-- what the opponent of q won in the first half is the opponent's for good, once it is moved to the end of the part
module _ (b : Board) (place : ℕ → ℕ) (n mid rest : ℕ) (q : Player) (win : ℕ → Player) (s : ℕ → ℕ) (place2 : ℕ → ℕ)
    (mid2 : ℕ)
    (half : IsFirstHalf b place n mid rest q win s) (below : SolvesPart b place rest win s)
    (gathers : Gathers place place2 n mid2 (λ v. win v ≡ opponent q)) where
  -- what was moved was left, and the opponent won it
  left_before : (v : ℕ) → mid2 ≤ place2 v → place2 v < n → (place v < rest) × (win v ≡ opponent q)
  left_before v top inside = by_place (cases_lt (place v) n) (cases_lt (place v) rest)
    where
      lost : win v ≡ opponent q
      lost = gathers.passes v top inside

      by_place : (place v < n) ⊎ (n ≤ place v)
          → (place v < rest) ⊎ (rest ≤ place v)
          → (place v < rest) × (win v ≡ opponent q)
      by_place (inr outside) t = absurd (omega (arith, gathers.behind v outside))
      by_place (inl within) (inl low) = (low, lost)
      by_place (inl within) (inr late) = absurd (not_both (win v) q (half.given v late within) lost)

  -- a vertex that the opponent won stands at the end of the part, or behind the part
  behind : (w : ℕ) → win w ≡ opponent q → mid2 ≤ place2 w
  behind w lost = by_place (cases_lt (place w) n) (cases_lt (place2 w) mid2)
    where
      by_place : (place w < n) ⊎ (n ≤ place w) → (place2 w < mid2) ⊎ (mid2 ≤ place2 w) → mid2 ≤ place2 w
      by_place p (inr top) = top
      by_place (inr outside) (inl low) = omega (arith, gathers.behind w outside, gathers.fits)
      by_place (inl within) (inl low) = absurd (gathers.fails w low lost)

  held : (v : ℕ) → mid2 ≤ place2 v → place2 v < n → Holds b win (opponent q) (s v) v
  held v top inside =
      let l = left_before v top inside in
      subst (λ p. Holds b win p (s v) v) l.1 (below.keeps v (lt-ltb (place v) rest l.0))

  pub firm : IsFirm b place2 n mid2 (opponent q) win s
  firm = record {
    own = λ v top inside own.
        let g = (held v top inside).own own in
        record { move = g.move; behind = behind (s v) g.wins; wins = g.wins };
    other = λ v w top inside other move.
        let lost = (held v top inside).other other w move in
        (behind w lost, lost);
    loops = λ c m loop top. below.loops (opponent q) c m (record {
      long = loop.long;
      closed = loop.closed;
      steps = λ k low.
          let inside = ltb-true (place2 (c k)) n (loop.steps k low).alive in
          record {
            alive = lt-ltb (place (c k)) rest (left_before (c k) (top k low) inside).0;
            mine = (loop.steps k low).mine;
            move = (loop.steps k low).move;
            chosen = (loop.steps k low).chosen;
          };
    });
  }
