-- Walks in a parity game that follow a strategy.
--
-- A walk has at least one move. Its lowest priority counts each vertex but the last, so that it is that of the loop
-- where the walk is closed, and that walks which are put together have the lower one of theirs.
--
--   FollowedMove g p s v w   == a move from v to w, that of the strategy s where v is the player p's
--   FollowedWalk g p s v k w == such moves lead from v to w, and k is the lowest priority on the way
--   walks_joined             == two walks, one behind the other
--   won_behind               == a strategy that wins from v wins where a move that follows it leads
--   won_at_end               == and where a walk does
--   closed_walk_good         == where it wins from v, the lowest priority of a closed walk from v is good for its player
--   odd_is_not_even          == an odd priority isn't good for Even
use Rattle.std.proofs.Common.{ℕ, zero, suc, ◌≡◌, ◌+◌, ◌<◌, ◌%◌, min, eqb, ne_eqb, List, [], ◌∷◌, ◌++◌, length, get_or, map, refl, sym, ap, ◌∙◌, subst, arith}
use Rattle.std.proofs.lemmas.Bool.{cond-false}
use Rattle.ml_lists.specs.Lasso.{Lasso}
use Rattle.ml_lists.specs.Lowest.{lowest}
use Rattle.ml_parity.specs.declared.players.Player.{Player}
use Rattle.ml_parity.specs.declared.players.Player.TheVariants.{Even, Odd}
use Rattle.ml_parity.specs.Player.{side}
use Rattle.ml_parity.specs.Game.{ParityGame, HasMove, owner_of, priority_of}
use Rattle.ml_parity.specs.Winner.{IsPlay, Follows, WinsFrom}
use Rattle.ml_parity.proofs.AlongPlays.{kept_by_move}

-- a move from v to w, that of the strategy where v is the player's
pub record FollowedMove (g : ParityGame) (p : Player) (s : ℕ → ℕ) (v w : ℕ) : Type 0 where
  pub move : HasMove g v w
  pub chosen : owner_of g v ≡ p → w ≡ s v

-- such moves lead from one vertex to another, with the lowest priority on the way
pub data FollowedWalk (g : ParityGame) (p : Player) (s : ℕ → ℕ) : ℕ → ℕ → ℕ → Type 0 where
  last : (v w : ℕ) → FollowedMove g p s v w → FollowedWalk g p s v (priority_of g v) w
  before : {k x : ℕ} (v w : ℕ)
      → FollowedMove g p s v w
      → FollowedWalk g p s w k x
      → FollowedWalk g p s v (min (priority_of g v) k) x

module _ (g : ParityGame) (p : Player) (s : ℕ → ℕ) where
  -- two walks, one behind the other
  pub walks_joined : (v j w k x : ℕ)
      → FollowedWalk g p s v j w
      → FollowedWalk g p s w k x
      → FollowedWalk g p s v (min j k) x
  walks_joined v j w k x (last _ _ move) rest = before v w move rest
  walks_joined v j w k x (before {k = i} _ next move walk) rest =
      let same : min (priority_of g v) (min i k) ≡ min (min (priority_of g v) i) k = omega arith in
      subst (λ l. FollowedWalk g p s v l x) same (before v next move (walks_joined next i w k x walk rest))

  -- a strategy that wins from v wins where a move that follows it leads
  pub won_behind : (v w : ℕ) → FollowedMove g p s v w → WinsFrom g p s v → WinsFrom g p s w
  won_behind v w move wins = kept_by_move g p s v w wins move.move move.chosen

  -- and where a walk does
  pub won_at_end : (v k w : ℕ) → FollowedWalk g p s v k w → WinsFrom g p s v → WinsFrom g p s w
  won_at_end v k w (last _ _ move) wins = won_behind v w move wins
  won_at_end v k w (before {k = i} _ next move walk) wins = won_at_end next i w walk (won_behind v next move wins)

  -- the vertices of a walk from v, behind v and without the last one x
  record Listed (v k x : ℕ) : Type 0 where
    pub rest : List ℕ
    pub joined : (i : ℕ) → i < length (v ∷ rest)
        → FollowedMove g p s (get_or ((v ∷ rest) ++ x ∷ []) i 0) (get_or ((v ∷ rest) ++ x ∷ []) (i + 1) 0)
    pub lowest_is : lowest (priority_of g v) (map (priority_of g) rest) ≡ k

  listed : (v k x : ℕ) → FollowedWalk g p s v k x → Listed v k x
  listed v k x (last _ _ move) = record { rest = []; joined = at; lowest_is = refl }
    where
      at : (i : ℕ) → i < length (v ∷ [])
          → FollowedMove g p s (get_or ((v ∷ []) ++ x ∷ []) i 0) (get_or ((v ∷ []) ++ x ∷ []) (i + 1) 0)
      at zero low = move
      at (suc i) low = absurd (omega arith)
  listed v k x (before {k = j} _ w move walk) = from (listed w j x walk)
    where
      from : Listed w j x → Listed v (min (priority_of g v) j) x
      from l = record { rest = w ∷ l.rest; joined = at; lowest_is = ap (min (priority_of g v)) l.lowest_is }
        where
          at : (i : ℕ) → i < length (v ∷ w ∷ l.rest)
              → FollowedMove g p s (get_or ((v ∷ w ∷ l.rest) ++ x ∷ []) i 0) (get_or ((v ∷ w ∷ l.rest) ++ x ∷ []) (i + 1) 0)
          at zero low = move
          at (suc i) low =
              let e : suc (i + 1) ≡ suc i + 1 = omega arith in
              subst (λ n. FollowedMove g p s (get_or ((w ∷ l.rest) ++ x ∷ []) i 0) (get_or ((v ∷ w ∷ l.rest) ++ x ∷ []) n 0)) e (l.joined i (omega arith))

  -- where it wins from v, the lowest priority of a closed walk from v is good for its player
  pub closed_walk_good : (v k : ℕ) → FollowedWalk g p s v k v → WinsFrom g p s v → side k ≡ p
  closed_walk_good v k walk wins = from (listed v k v walk)
    where
      from : Listed v k v → side k ≡ p
      from l =
          let loop : Lasso = record { entries = v ∷ l.rest; start = 0 } in
          let play : IsPlay g loop = record { starts = omega arith; joined = λ i low. (l.joined i low).move } in
          let follows : Follows g p s loop = λ i low own. (l.joined i low).chosen own in
          sym (ap side l.lowest_is) ∙ wins loop play refl follows

-- an odd priority isn't good for Even
pub odd_is_not_even : (k : ℕ) → k % 2 ≡ 1 → side k ≡ Even → ⊥
odd_is_not_even k odd even =
    let other : side k ≡ Odd = cond-false (eqb (k % 2) 0) Even Odd (ne_eqb (k % 2) 0 (λ z. let wrong : 0 ≡ 1 = sym z ∙ odd in omega arith)) in
    let wrong : Even ≡ Odd = sym even ∙ other in
    absurd (cc)
