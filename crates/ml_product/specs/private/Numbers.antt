-- Tables of keys, with a number for each.
--
--   IsNamed ks ns k next ls ms n == the table had the key k with the number n, and is as before, or it has it now, with
--                                   the next number
--   IsTopAt key xs k w == no side is chosen at the position at w, whose key is k
--   Leads key xs ks ns == the table has the keys of the positions without a choice, each with the number of one
use Rattle.std.specs.Prelude.{ℕ, ◌≡◌, ◌⊎◌, List, [], ◌∷◌, ◌++◌, length, get_or, slice_get, Some}
use Rattle.ml_lists.specs.Member.{IsMember}
use Rattle.ml_product.specs.Placed.{Placed}

-- it had the key, and is as before
pub record HasName {K : Type 0} (ks : List K) (ns : List ℕ) (k : K) (ls : List K) (ms : List ℕ) (n : ℕ) : Type 0 where
  pub place : ℕ
  pub stands : slice_get ks place ≡ Some k
  pub keys : ls ≡ ks
  pub numbers : ms ≡ ns
  pub is : n ≡ get_or ns place 0

-- it has it now
pub record GetsName {K : Type 0} (ks : List K) (ns : List ℕ) (k : K) (next : ℕ) (ls : List K) (ms : List ℕ)
    (n : ℕ) : Type 0 where
  pub is_new : ¬ (IsMember k ks)
  pub keys : ls ≡ ks ++ k ∷ []
  pub numbers : ms ≡ ns ++ next ∷ []
  pub is : n ≡ next

abbrev pub IsNamed : {K : Type 0} → List K → List ℕ → K → ℕ → List K → List ℕ → ℕ → Type 0
IsNamed ks ns k next ls ms n = HasName ks ns k ls ms n ⊎ GetsName ks ns k next ls ms n

-- no side is chosen at the position at w, whose key is k
pub record IsTopAt {K : Type 0} (key : Placed → K) (xs : List Placed) (k : K) (w : ℕ) : Type 0 where
  pub entry : Placed
  pub stands : slice_get xs w ≡ Some entry
  pub unchosen : entry.choice ≡ []
  pub key_is : key entry ≡ k

-- the table has the keys of the positions without a choice
pub record Leads {K : Type 0} (key : Placed → K) (xs : List Placed) (ks : List K) (ns : List ℕ) : Type 0 where
  pub even : length ks ≡ length ns
  pub leads : (i : ℕ) (k : K) → slice_get ks i ≡ Some k → IsTopAt key xs k (get_or ns i 0)
  pub all : (v : ℕ) (x : Placed) → slice_get xs v ≡ Some x → x.choice ≡ [] → IsMember (key x) ks
