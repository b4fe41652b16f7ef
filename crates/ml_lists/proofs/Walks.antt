-- Walks of a function, and the lassos that they make.
--
-- A walk that stays below a bound meets some number twice, by the pigeonhole principle, and so makes a lasso whose
-- steps are those of the function.
--
--   walk-add-one == one step more
--   walk-sum     == a walk that begins where another one ends
--   walk_keeps   == what the function keeps, and holds at first, holds all along the walk
--   WalkLasso    == a lasso that begins with v, of numbers with P, each step of which is a step of next
--   walk_lasso   == the walk from a number with P, where P is kept and implies a bound, makes such a lasso
use Rattle.std.proofs.Common.{ℕ, zero, suc, ◌≡◌, ◌+◌, ◌<◌, ◌≤◌, arith, length, get_or, subst, sym, ap, ◌∙◌, add-one, add-zero, add-suc}
use Rattle.ml_lists.specs.Walk.{walk}
use Rattle.ml_lists.specs.Pigeons.{Twice}
use Rattle.ml_lists.specs.Lasso.{Lasso, entry, round}
use Rattle.ml_lists.proofs.Pigeons.{pigeons}
use Rattle.ml_lists.proofs.Lasso.{lasso_of, lasso_of-length, lasso_of-entry, lasso_of-round}

-- one step more
pub walk-add-one : {A : Type 0} → (next : A → A) (x : A) (k : ℕ) → walk next x (k + 1) ≡ next (walk next x k)
walk-add-one next x k = ap (walk next x) (add-one k)

-- a walk that begins where another one ends
pub walk-sum : {A : Type 0} → (next : A → A) (x : A) (d k : ℕ) → walk next (walk next x d) k ≡ walk next x (d + k)
walk-sum next x d zero = sym (ap (walk next x) (add-zero d))
walk-sum next x d (suc k) = ap next (walk-sum next x d k) ∙ sym (ap (walk next x) (add-suc d k))

-- what the function keeps, and holds at first, holds all along the walk
pub walk_keeps : {A : Type 0} → (next : A → A) (P : A → Type 0) → ((x : A) → P x → P (next x)) → (x : A) → P x
    → (k : ℕ) → P (walk next x k)
walk_keeps next P keeps x first zero = first
walk_keeps next P keeps x first (suc k) = keeps (walk next x k) (walk_keeps next P keeps x first k)

-- a lasso that begins with v, of numbers with P, each step of which is a step of next
pub record WalkLasso (next : ℕ → ℕ) (P : ℕ → Type 0) (v : ℕ) : Type 0 where
  pub lasso : Lasso
  pub starts : lasso.start < length lasso.entries
  pub begins : entry lasso 0 ≡ v
  pub inside : (k : ℕ) → k ≤ length lasso.entries → P (get_or (round lasso) k 0)
  pub steps : (k : ℕ) → k < length lasso.entries → get_or (round lasso) (k + 1) 0 ≡ next (get_or (round lasso) k 0)

-- the walk from a number with P, where P is kept and implies a bound, makes such a lasso
pub walk_lasso : (next : ℕ → ℕ) (P : ℕ → Type 0) (n : ℕ) → ((x : ℕ) → P x → x < n) → ((x : ℕ) → P x → P (next x))
    → (v : ℕ) → P v → WalkLasso next P v
walk_lasso next P n bounded keeps v first = from (pigeons n (walk next v) (λ k low. bounded (walk next v k) (along k)))
  where
    along : (k : ℕ) → P (walk next v k)
    along = walk_keeps next P keeps v first

    from : Twice (walk next v) n → WalkLasso next P v
    from t =
        let size = lasso_of-length (walk next v) t.first t.second in
        record {
          lasso = lasso_of (walk next v) t.first t.second;
          starts = omega (arith, t.apart);
          begins = lasso_of-entry (walk next v) t.first t.second 0 (omega (arith, t.apart));
          inside = λ k low. subst P (sym (lasso_of-round (walk next v) t.first t.second k t.apart t.same (omega arith))) (along k);
          steps = λ k low.
              lasso_of-round (walk next v) t.first t.second (k + 1) t.apart t.same (omega arith)
              ∙ walk-add-one next v k
              ∙ ap next (sym (lasso_of-round (walk next v) t.first t.second k t.apart t.same (omega arith)));
        }
