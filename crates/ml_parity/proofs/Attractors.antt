-- Attractors and parts: the lemma that both halves of a turn share.
--
--   above             == a part is solved if what is left of it is, its attractor is given to q, and what attracts is kept
--                        by q with good loops
--   rest_is_part      == what is left of a part is a part
use Rattle.std.proofs.Common.{ℕ, ◌≡◌, ◌+◌, ◌-◌, ◌<◌, ◌≤◌, ◌⊎◌, inl, inr, ⊎_elim, arith, subst, sym, ap, ◌∙◌, refl, lt-ltb}
use Rattle.std.proofs.lemmas.Bool.{cases_lt}
use borrow.Author.Tests.{ltb-true}
use Rattle.ml_lists.specs.Found.{Found}
use Rattle.ml_lists.proofs.Search.{search}
use Rattle.ml_lists.proofs.Loops.{around, loop_is_flat}
use Rattle.ml_parity.specs.declared.players.Player.{Player}
use Rattle.ml_parity.specs.Player.{opponent}
use Rattle.ml_parity.specs.private.Sinks.{Board, Holds, Step, Loop, GoodFor}
use Rattle.ml_parity.specs.private.Parts.{part, SolvesPart, MoveInto, IsPart, IsAttracted, IsGiven}
use Rattle.ml_parity.proofs.Opponents.{cases_player, opponent-opponent}

-- a number is at least the bound, or below it
pub from_or_below : (a b : ℕ) → (b ≤ a) ⊎ (a < b)
from_or_below a b = ⊎_elim (λ (h : a < b). inr h) (λ (h : b ≤ a). inl h) (cases_lt a b)

-- each vertex of a loop of a part stands in the part, the last one too
pub loop_inside : (b : Board) (place : ℕ → ℕ) (n : ℕ) (win : ℕ → Player) (s : ℕ → ℕ) (p : Player) (c : ℕ → ℕ) (m : ℕ)
    → Loop b (part place n) win s p c m → (k : ℕ) → k ≤ m → place (c k) < n
loop_inside b place n win s p c m loop k fits = by_place (cases_lt k m)
  where
    at : (k : ℕ) → k < m → place (c k) < n
    at k low = ltb-true (place (c k)) n (loop.steps k low).alive

    by_place : (k < m) ⊎ (m ≤ k) → place (c k) < n
    by_place (inl low) = at k low
    by_place (inr last) =
        let e : m ≡ k = omega arith in
        let closed : place (c k) ≡ place (c 0) = ap (λ i. place (c i)) (sym e) ∙ ap place loop.closed in
        omega (arith, at 0 loop.long, closed)

module _ (b : Board) (place : ℕ → ℕ) (n mid rest : ℕ) (q : Player) (win : ℕ → Player) (s : ℕ → ℕ)
    (is_part : IsPart b place n win) (attracted : IsAttracted b place n mid rest q s)
    (given : IsGiven place rest n win q) where
  -- a step within the part from an attracted vertex leads further back
  back : (p : Player) (v w : ℕ) → Step b (part place n) win s p v w → rest ≤ place v → place v < mid → place w < n
      → place v < place w
  back p v w step low high inside = by_owner (cases_player (b.owner v) q)
    where
      by_owner : (b.owner v ≡ q) ⊎ (b.owner v ≡ opponent q) → place v < place w
      by_owner (inl own) =
          let mine : q ≡ p = sym (given v low (omega (arith, attracted.high))) ∙ step.mine in
          subst (λ x. place v < place x) (sym (step.chosen (own ∙ mine))) (attracted.own v low high own).behind
      by_owner (inr other) = attracted.other v w low high other step.move inside

  -- from an attracted vertex q keeps to where q wins
  pulled : (v : ℕ) → rest ≤ place v → place v < mid → Holds b win q (s v) v
  pulled v low high = record {
    own = λ own.
        let m = attracted.own v low high own in
        record { move = m.move; wins = given (s v) (omega (arith, m.behind)) m.inside };
    other = λ other w move. by_end other w move (cases_lt (place w) n);
  }
    where
      by_end : b.owner v ≡ opponent q → (w : ℕ) → b.Move v w → (place w < n) ⊎ (n ≤ place w) → win w ≡ q
      by_end other w move (inl inside) = given w (omega (arith, attracted.other v w low high other move inside)) inside
      by_end other w move (inr outside) =
          is_part.leaves v w (omega (arith, attracted.high)) move outside ∙ ap opponent other ∙ opponent-opponent q

  -- what is left of the part is a part
  pub rest_is_part : IsPart b place rest win
  rest_is_part = record {
    leaves = λ v w low move outside. by_end v w low move outside (cases_lt (place w) n);
    stays = λ v low. by_owner v low (cases_player (b.owner v) q);
  }
    where
      by_end : (v w : ℕ) → place v < rest → b.Move v w → rest ≤ place w → (place w < n) ⊎ (n ≤ place w)
          → win w ≡ opponent (b.owner v)
      by_end v w low move outside (inr out) = is_part.leaves v w (omega (arith, attracted.low, attracted.high)) move out
      by_end v w low move outside (inl inside) = ⊎_elim
          (λ (own : b.owner v ≡ q). absurd (omega (arith, attracted.closed_own v w low own move inside)))
          (λ (other : b.owner v ≡ opponent q). given w outside inside ∙ sym (opponent-opponent q)
          ∙ sym (ap opponent other))
          (cases_player (b.owner v) q)

      by_owner : (v : ℕ) → place v < rest → (b.owner v ≡ q) ⊎ (b.owner v ≡ opponent q) → MoveInto b place rest v
      by_owner v low (inl own) =
          let m = is_part.stays v (omega (arith, attracted.low, attracted.high)) in
          record { to = m.to; move = m.move; inside = attracted.closed_own v m.to low own m.move m.inside }
      by_owner v low (inr other) = attracted.closed_other v low other

  -- the part is solved if what is left of it is, and what attracts is kept by q, with good loops
  module _ (top_keeps : (v : ℕ) → mid ≤ place v → place v < n → Holds b win q (s v) v)
      (top_loops : (c : ℕ → ℕ) (m k : ℕ) → Loop b (part place n) win s q c m → k < m → mid ≤ place (c k)
      → GoodFor b q c m)
      (below : SolvesPart b place rest win s) where
    keeps : (v : ℕ) → place v < n → Holds b win (win v) (s v) v
    keeps v inside = by_place (cases_lt (place v) rest) (cases_lt (place v) mid)
      where
        for_q : rest ≤ place v → Holds b win q (s v) v → Holds b win (win v) (s v) v
        for_q late held = subst (λ p. Holds b win p (s v) v) (sym (given v late inside)) held

        by_place : (place v < rest) ⊎ (rest ≤ place v) → (place v < mid) ⊎ (mid ≤ place v) → Holds b win (win v) (s v) v
        by_place (inl early) t = below.keeps v (lt-ltb (place v) rest early)
        by_place (inr late) (inl low) = for_q late (pulled v late low)
        by_place (inr late) (inr top) = for_q late (top_keeps v top inside)

    -- a loop that avoids what attracts does not meet the attractor
    avoids : (p : Player) (c : ℕ → ℕ) (m : ℕ) → Loop b (part place n) win s p c m
        → ((k : ℕ) → k < m → place (c k) < mid) → (k : ℕ) → k < m → rest ≤ place (c k) → ⊥
    avoids p c m loop low k within late =
        loop_is_flat r m closed (λ j below. omega (arith, rises j below)) 0 loop.long
        (omega (arith, rises 0 loop.long, inside 1 loop.long))
      where
        inside : (j : ℕ) → j ≤ m → place (c j) < n
        inside = loop_inside b place n win s p c m loop

        r : ℕ → ℕ
        r j = n - place (c j)

        closed : r m ≡ r 0
        closed = ap (λ v. n - place v) loop.closed

        late_next : (j : ℕ) → j < m → rest ≤ place (c j) → rest ≤ place (c (j + 1))
        late_next j below here = omega (
          arith,
          back p (c j) (c (j + 1)) (loop.steps j below) here (low j below) (inside (j + 1) (omega arith)),
        )

        all_late : (j : ℕ) → j ≤ m → rest ≤ place (c j)
        all_late = around c (λ v. rest ≤ place v) m loop.closed late_next k (omega arith) late

        rises : (j : ℕ) → j < m → place (c j) < place (c (j + 1))
        rises j below = back p (c j) (c (j + 1)) (loop.steps j below) (all_late j (omega arith)) (low j below)
            (inside (j + 1) (omega arith))

    loops : (p : Player) (c : ℕ → ℕ) (m : ℕ) → Loop b (part place n) win s p c m → GoodFor b p c m
    loops p c m loop = by_top (search (λ k. mid ≤ place (c k)) (λ k. place (c k) < mid)
        (λ k. from_or_below (place (c k)) mid) m)
      where
        inside : (j : ℕ) → j ≤ m → place (c j) < n
        inside = loop_inside b place n win s p c m loop

        by_rest : ((k : ℕ) → k < m → place (c k) < mid)
            → Found (λ k. rest ≤ place (c k)) m ⊎ ((k : ℕ) → k < m → place (c k) < rest) → GoodFor b p c m
        by_rest low (inl f) = absurd (avoids p c m loop low f.place f.below f.holds)
        by_rest low (inr early) = below.loops p c m (record {
          long = loop.long;
          closed = loop.closed;
          steps = λ k within. record {
            alive = lt-ltb (place (c k)) rest (early k within);
            mine = (loop.steps k within).mine;
            move = (loop.steps k within).move;
            chosen = (loop.steps k within).chosen;
          };
        })

        by_top : Found (λ k. mid ≤ place (c k)) m ⊎ ((k : ℕ) → k < m → place (c k) < mid) → GoodFor b p c m
        by_top (inl f) =
            let mine : q ≡ p = sym (given (c f.place) (omega (arith, attracted.low, f.holds))
            (inside f.place (omega (arith, f.below)))) ∙ (loop.steps f.place f.below).mine in
            subst (λ p. GoodFor b p c m) mine
            (top_loops c m f.place (subst (λ p. Loop b (part place n) win s p c m) (sym mine) loop) f.below f.holds)
        by_top (inr low) = by_rest low (search (λ k. rest ≤ place (c k)) (λ k. place (c k) < rest)
            (λ k. from_or_below (place (c k)) rest) m)

    pub above : SolvesPart b place n win s
    above = record {
      ends = λ v dead. refl;
      keeps = λ v alive. keeps v (ltb-true (place v) n alive);
      loops = loops;
    }
