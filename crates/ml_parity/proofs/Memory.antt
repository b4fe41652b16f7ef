-- Finite memory is not needed: a winning way to play with a finite memory gives a positional winning strategy.
--
-- A way to play with memory answers a move for each vertex and memory, and the memory after each move. Its memories
-- may be of any type; a code below a bound tells those apart that come up. Say that every lasso of vertices with
-- their memories, which begins with v and a first memory and follows the way to play, is good for p. Then p wins v.
-- Otherwise the opponent wins v by a positional strategy; both together make a walk over finitely many pairs of a
-- vertex and a memory, so a lasso, and that is good for both.
--
--   MemoryStrategy A        == a move for each vertex and memory, and the memory after each move
--   MemoryStep              == step k of the sequences of vertices and memories is one of that way to play
--   IsMemoryStrategyOf      == moves are moves, the invariant is kept, and codes tell memories apart
--   WinsWithMemory          == each lasso of vertices with their memories is good for p
--   memory_wins             == so p wins, by a positional strategy
use Rattle.std.proofs.Common.{ℕ, ◌≡◌, ◌+◌, ◌*◌, ◌<◌, ◌≤◌, cond, ◌⊎◌, inl, inr, ⊎_elim, arith, subst, sym, ap, ◌∙◌, refl, get_or}
use Rattle.std.proofs.lemmas.Bool.{cond-true, cond-false}
use Rattle.std.proofs.lemmas.Nat.{mul-add-lt, same_from_place}
use Rattle.ml_lists.specs.Pigeons.{Twice}
use Rattle.ml_lists.specs.Walk.{walk}
use Rattle.ml_lists.proofs.Pigeons.{pigeons}
use Rattle.ml_lists.proofs.Lasso.{lasso_of, lasso_of-entry, lasso_of-round, lasso_of-length, lasso_of_is}
use Rattle.ml_lists.proofs.Walks.{walk-add-one, walk_keeps}
use Rattle.ml_parity.specs.declared.players.Player.{Player}
use Rattle.ml_parity.specs.Player.{opponent}
use Rattle.ml_parity.specs.Game.{ParityGame, IsGame, HasMove, owner_of, size}
use Rattle.ml_lists.specs.Lasso.{Lasso, entry, round}
use Rattle.ml_parity.specs.Winner.{IsPlay, Follows, winner, Wins}
use Rattle.ml_parity.proofs.Opponents.{cases_player, no_own_opponent, same_player, same_player-true, same_player-false}
use Rattle.ml_parity.proofs.Winners.{won_by_either}

-- a move for each vertex and memory, and the memory after each move
pub record MemoryStrategy (A : Type 0) : Type 0 where
  pub move : ℕ → A → ℕ
  pub update : ℕ → A → ℕ → A

-- step k of the sequences of vertices and memories is one of that way to play
pub record MemoryStep (g : ParityGame) (p : Player) (A : Type 0) (way : MemoryStrategy A) (c : ℕ → ℕ) (memory : ℕ → A)
    (k : ℕ) : Type 0 where
  pub move : HasMove g (c k) (c (k + 1))
  pub chosen : owner_of g (c k) ≡ p → c (k + 1) ≡ way.move (c k) (memory k)
  pub remembers : memory (k + 1) ≡ way.update (c k) (memory k) (c (k + 1))

-- where the invariant holds of a vertex and a memory: the move is a move, the invariant is kept by each move that
-- respects it, and codes below the bound tell the memories apart
pub record IsMemoryStrategyOf (g : ParityGame) (p : Player) (A : Type 0) (way : MemoryStrategy A) (Inv : ℕ → A → Type 0)
    (code : A → ℕ) (bound : ℕ) : Type 0 where
  pub is_move : (x : ℕ) (m : A) → x < size g → Inv x m → owner_of g x ≡ p → HasMove g x (way.move x m)
  pub kept : (x : ℕ) (m : A) (y : ℕ) → x < size g → Inv x m → HasMove g x y → (owner_of g x ≡ p → y ≡ way.move x m)
      → Inv y (way.update x m y)
  pub bounded : (x : ℕ) (m : A) → Inv x m → code m < bound
  pub apart : (x y : ℕ) (m n : A) → Inv x m → Inv y n → code m ≡ code n → m ≡ n

-- each lasso of vertices with their memories that begins with v and the memory m0 is good for p
abbrev pub WinsWithMemory : (g : ParityGame) (p : Player) (A : Type 0) → MemoryStrategy A → (ℕ → A → Type 0) → ℕ → A
    → Type 0
WinsWithMemory g p A way Inv v m0 =
    (c : ℕ → ℕ) (memory : ℕ → A) (i j : ℕ) → i < j → c 0 ≡ v → memory 0 ≡ m0
    → ((k : ℕ) → k < j → MemoryStep g p A way c memory k) → ((k : ℕ) → k ≤ j → Inv (c k) (memory k))
    → c i ≡ c j → memory i ≡ memory j → winner g (lasso_of c i j) ≡ p

-- a way to play with memory that wins from v gives a positional strategy that wins from v
module _ (g : ParityGame) (ok : IsGame g) (p : Player) (A : Type 0) (way : MemoryStrategy A) (Inv : ℕ → A → Type 0)
    (code : A → ℕ) (bound : ℕ)
    (is_way : IsMemoryStrategyOf g p A way Inv code bound) (v : ℕ) (m0 : A) (v_low : v < size g) (first : Inv v m0)
    (good : WinsWithMemory g p A way Inv v m0) where
  -- the move from a vertex with a memory, where the opponent plays t
  abbrev target : (ℕ → ℕ) → ℕ × A → ℕ
  target t q = cond (same_player (owner_of g q.0) p) (way.move q.0 q.1) (t q.0)

  target-own : (t : ℕ → ℕ) (q : ℕ × A) → owner_of g q.0 ≡ p → target t q ≡ way.move q.0 q.1
  target-own t q own = cond-true (same_player (owner_of g q.0) p) (way.move q.0 q.1) (t q.0)
      (same_player-true (owner_of g q.0) p own)

  target-other : (t : ℕ → ℕ) (q : ℕ × A) → owner_of g q.0 ≡ opponent p → target t q ≡ t q.0
  target-other t q own = cond-false (same_player (owner_of g q.0) p) (way.move q.0 q.1) (t q.0)
      (same_player-false (owner_of g q.0) p (λ o. no_own_opponent p (sym o ∙ own)))

  abbrev next : (ℕ → ℕ) → ℕ × A → ℕ × A
  next t q = (target t q, way.update q.0 q.1 (target t q))

  -- what holds of each pair on the walk
  record Fine (q : ℕ × A) : Type 0 where
    pub low : q.0 < size g
    pub inv : Inv q.0 q.1

  -- the code of a pair
  abbrev code_of : ℕ × A → ℕ
  code_of q = q.0 * bound + code q.1

  code_low : (q : ℕ × A) → Fine q → code_of q < bound * size g
  code_low q f = mul-add-lt q.0 bound (code q.1) (size g) f.low (is_way.bounded q.0 q.1 f.inv)

  -- against a strategy of the opponent's: each move is one, and the next pair is as fine
  module _ (t : ℕ → ℕ) (t_moves : (x : ℕ) → x < size g → owner_of g x ≡ opponent p → HasMove g x (t x)) where
    move : (q : ℕ × A) → Fine q → HasMove g q.0 (target t q)
    move q f = ⊎_elim
        (λ (own : owner_of g q.0 ≡ p). subst (HasMove g q.0) (sym (target-own t q own))
        (is_way.is_move q.0 q.1 f.low f.inv own))
        (λ (own : owner_of g q.0 ≡ opponent p).
        subst (HasMove g q.0) (sym (target-other t q own)) (t_moves q.0 f.low own))
        (cases_player (owner_of g q.0) p)

    fine : (q : ℕ × A) → Fine q → Fine (next t q)
    fine q f = record {
      low = ok.in_range q.0 (target t q) (move q f);
      inv = is_way.kept q.0 q.1 (target t q) f.low f.inv (move q f) (target-own t q);
    }

    along : (k : ℕ) → Fine (walk (next t) (v, m0) k)
    along = walk_keeps (next t) Fine fine (v, m0) (record { low = v_low; inv = first })

    -- the walk comes back to a pair, so it makes a lasso that follows both
    clash : ((l : Lasso) → IsPlay g l → entry l 0 ≡ v → Follows g (opponent p) t l → winner g l ≡ opponent p) → ⊥
    clash wins = from (pigeons (bound * size g) (λ k. code_of (walk (next t) (v, m0) k))
        (λ k low. code_low (walk (next t) (v, m0) k) (along k)))
      where
        from : Twice (λ k. code_of (walk (next t) (v, m0) k)) (bound * size g) → ⊥
        from r =
            let c : ℕ → ℕ = λ k. (walk (next t) (v, m0) k).0 in
            let memory : ℕ → A = λ k. (walk (next t) (v, m0) k).1 in
            let i : ℕ = r.first in
            let j : ℕ = r.second in
            let parts = same_from_place (c i) (code (memory i)) (c j) (code (memory j)) bound
            (is_way.bounded (c i) (memory i) (along i).inv) (is_way.bounded (c j) (memory j) (along j).inv)
            r.same in
            let same_memory : memory i ≡ memory j =
            is_way.apart (c i) (c j) (memory i) (memory j) (along i).inv (along j).inv parts.1 in
            let after : (k : ℕ) → walk (next t) (v, m0) (k + 1) ≡ next t (walk (next t) (v, m0) k) =
            λ k. walk-add-one (next t) (v, m0) k in
            let c_after : (k : ℕ) → c (k + 1) ≡ target t (walk (next t) (v, m0) k) =
            λ k. ap (λ (q : ℕ × A). q.0) (after k) in
            let c_move : (k : ℕ) → HasMove g (c k) (c (k + 1)) =
            λ k. subst (HasMove g (c k)) (sym (c_after k)) (move (walk (next t) (v, m0) k) (along k)) in
            let step : (k : ℕ) → MemoryStep g p A way c memory k = λ k. record {
              move = c_move k;
              chosen = λ own. c_after k ∙ target-own t (walk (next t) (v, m0) k) own;
              remembers = ap (λ (q : ℕ × A). q.1) (after k) ∙ ap (way.update (c k) (memory k)) (sym (c_after k));
            } in
            let for_p : winner g (lasso_of c i j) ≡ p =
            good c memory i j r.apart refl refl (λ k low. step k) (λ k low. (along k).inv) parts.0 same_memory in
            let play : IsPlay g (lasso_of c i j) = lasso_of_is (HasMove g) c i j r.apart parts.0 (λ k low. c_move k) in
            let begins : entry (lasso_of c i j) 0 ≡ v = lasso_of-entry c i j 0 (omega (arith, r.apart)) in
            let for_other : winner g (lasso_of c i j) ≡ opponent p =
            wins (lasso_of c i j) play begins (λ k low.
            follow c i j r.apart parts.0 c_after k (omega (arith, lasso_of-length c i j, low))) in
            no_own_opponent p (sym for_p ∙ for_other)
          where
            follow : (c : ℕ → ℕ) (i j : ℕ) → i < j → c i ≡ c j
                → ((k : ℕ) → c (k + 1) ≡ cond (same_player (owner_of g (c k)) p)
                (way.move (c k) (walk (next t) (v, m0) k).1) (t (c k)))
                → (k : ℕ) → k < j → owner_of g (get_or (round (lasso_of c i j)) k 0) ≡ opponent p
                → get_or (round (lasso_of c i j)) (k + 1) 0 ≡ t (get_or (round (lasso_of c i j)) k 0)
            follow c i j apart same after k low own =
                let here : get_or (round (lasso_of c i j)) k 0 ≡ c k =
                lasso_of-round c i j k apart same (omega arith) in
                let there : get_or (round (lasso_of c i j)) (k + 1) 0 ≡ c (k + 1) =
                lasso_of-round c i j (k + 1) apart same (omega arith) in
                let is_other : owner_of g (c k) ≡ opponent p = ap (owner_of g) (sym here) ∙ own in
                there
                ∙ after k
                ∙ cond-false (same_player (owner_of g (c k)) p) (way.move (c k) (walk (next t) (v, m0) k).1) (t (c k))
                (same_player-false (owner_of g (c k)) p (λ o. no_own_opponent p (sym o ∙ is_other)))
                ∙ ap t (sym here)

  pub memory_wins : Wins g p v
  memory_wins = by_case (won_by_either g ok p v v_low)
    where
      by_case : Wins g p v ⊎ Wins g (opponent p) v → Wins g p v
      by_case (inl a) = a
      by_case (inr b) = absurd (clash b.strategy b.is_strategy b.wins)
