-- What holds of each element of lists that are put together.
--
--   all_both, all_parts == what holds of all elements of two lists holds of all of both together, and the other way round
--   all_last            == so does what holds of all elements of a list and of one more
use Rattle.std.proofs.Common.{List, [], ◌∷◌, ◌++◌}
use Rattle.std.specs.List.{AllByRecursion}

module _ {A : Type 0} (P : A → Type 0) where
  pub all_both : (xs ys : List A) → AllByRecursion P xs → AllByRecursion P ys → AllByRecursion P (xs ++ ys)
  all_both [] ys all also = also
  all_both (x ∷ xs) ys all also = (all.0, all_both xs ys all.1 also)

  pub all_parts : (xs ys : List A) → AllByRecursion P (xs ++ ys) → AllByRecursion P xs × AllByRecursion P ys
  all_parts [] ys all = (tt, all)
  all_parts (x ∷ xs) ys all = let rest = all_parts xs ys all.1 in ((all.0, rest.0), rest.1)

  pub all_last : (xs : List A) (x : A) → AllByRecursion P xs → P x → AllByRecursion P (xs ++ x ∷ [])
  all_last xs x all last = all_both xs (x ∷ []) all (last, tt)
