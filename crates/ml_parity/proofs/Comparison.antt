-- The comparison of two games that differ at some vertices of a region.
--
-- Two games have as many vertices, and in a region the same owners and priorities. Say that a vertex is no worse for p
-- in the second: there p has each move of the first game, and the opponent no new one. If each vertex of the region is no
-- worse for p and all its moves stay in the region, or p wins it in the second game if in the first, then in the region p
-- wins in the second game whatever p wins in the first. The region may be all vertices.
--
--   NoWorse g h p x     == x is no worse for p in h than in g
--   same_moves          == a vertex with the same moves in both games is no worse
--   SameVertices g h R  == the vertices of R have the same owners and priorities in g and h
--   StaysNoWorse        == a vertex of R is no worse, and its moves stay in R
--   compared            == so p wins in h whatever p wins in g
use Rattle.std.proofs.Common.{ℕ, ◌≡◌, ◌<◌, ◌⊎◌, inl, inr, ⊎_elim, arith, subst, sym, List, Contains, refl}
use Rattle.ml_parity.specs.declared.players.Player.{Player}
use Rattle.ml_parity.specs.Player.{opponent}
use Rattle.ml_parity.specs.Game.{ParityGame, IsGame, HasMove, owner_of, priority_of, moves_of, size}
use Rattle.ml_parity.specs.Winner.{Wins}
use Rattle.ml_parity.proofs.Carried.{IsCarried, IsRegion, straight, carried}

-- x is no worse for p in h than in g: p has each move of g there, and the opponent no new one
pub record NoWorse (g h : ParityGame) (p : Player) (x : ℕ) : Type 0 where
  pub own : owner_of g x ≡ p → (y : ℕ) → HasMove g x y → HasMove h x y
  pub other : owner_of g x ≡ opponent p → (y : ℕ) → HasMove h x y → HasMove g x y

-- a vertex with the same moves in both games is no worse
pub same_moves : (g h : ParityGame) (p : Player) (x : ℕ) → moves_of g x ≡ moves_of h x → NoWorse g h p x
same_moves g h p x same = record {
  own = λ o y move. subst (λ (xs : List ℕ). Contains xs y) same move;
  other = λ o y move. subst (λ (xs : List ℕ). Contains xs y) (sym same) move;
}

-- the games have as many vertices, and those of R have the same owners and priorities
pub record SameVertices (g h : ParityGame) (R : ℕ → Type 0) : Type 0 where
  pub sizes : size g ≡ size h
  pub low : (x : ℕ) → R x → x < size g
  pub owners : (x : ℕ) → R x → owner_of g x ≡ owner_of h x
  pub priorities : (x : ℕ) → R x → priority_of g x ≡ priority_of h x

-- a vertex is no worse for p, and its moves stay in R
pub record StaysNoWorse (g h : ParityGame) (p : Player) (R : ℕ → Type 0) (x : ℕ) : Type 0 where
  pub no_worse : NoWorse g h p x
  pub inside : (y : ℕ) → HasMove g x y → R y

-- in R, p wins in h whatever p wins in g
pub compared : (g h : ParityGame) → IsGame g → IsGame h → (p : Player) (R : ℕ → Type 0) → SameVertices g h R
    → ((x : ℕ) → R x → (Wins g p x → Wins h p x) ⊎ StaysNoWorse g h p R x)
    → (v : ℕ) → R v → Wins g p v → Wins h p v
compared g h g_ok h_ok p R same better = carried g h g_ok h_ok (λ x. x) (λ q. q) 0 straight R region p carries
  where
    region : IsRegion g h (λ x. x) R
    region = record { low = same.low; image_low = λ x r. subst (λ n. x < n) same.sizes (same.low x r) }

    carries : (x : ℕ) → R x → (Wins g p x → Wins h p x) ⊎ IsCarried g h (λ x. x) (λ q. q) 0 R p x
    carries x r = ⊎_elim
        (λ (known : Wins g p x → Wins h p x). inl known)
        (λ (n : StaysNoWorse g h p R x). inr (record {
          owner = sym (same.owners x r);
          priority = omega (arith, same.priorities x r);
          own = n.no_worse.own;
          other = λ o z move. record { to = z; move = n.no_worse.other o z move; is = refl };
          inside = n.inside;
        }))
        (better x r)
