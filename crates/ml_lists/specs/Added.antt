-- Lists to which something is added, if it isn't there.
--
--   IsAdded xs x ys i == x stands at the place i of ys, which is xs, or xs with x behind it if x isn't in xs
--   HasOnePlace xs    == nothing stands at two places of xs
use Rattle.std.specs.Prelude.{ℕ, ◌≡◌, ◌⊎◌, List, [], ◌∷◌, ◌++◌, Some, slice_get}
use Rattle.ml_lists.specs.Member.{IsMember}

pub record IsAdded {X : Type 0} (xs : List X) (x : X) (ys : List X) (i : ℕ) : Type 0 where
  pub stands : slice_get ys i ≡ Some x
  pub grown : (ys ≡ xs) ⊎ ((ys ≡ xs ++ x ∷ []) × ¬ (IsMember x xs))

abbrev pub HasOnePlace : {X : Type 0} → List X → Type 0
HasOnePlace {X} xs = (i j : ℕ) (x : X) → slice_get xs i ≡ Some x → slice_get xs j ≡ Some x → i ≡ j
