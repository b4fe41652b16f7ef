-- Lists in another order: std's permutations, and membership by recursion.
--
--   permuted-member == a member of a list is one of the list in another order
--   same_members    == the two have the same members
use Rattle.std.proofs.Common.{◌↔◌, List}
use Rattle.std.specs.List.Sorted.{IsPermutation}
use Rattle.std.proofs.lemmas.List.Sorted.{IsPermutation-sym, Contains-permutation}
use Rattle.ml_lists.specs.Member.{IsMember}
use Rattle.ml_lists.proofs.Members.{member_of_contains, contains_of_member}

pub permuted-member : {X : Type 0} (x : X) (xs ys : List X) → IsPermutation xs ys → IsMember x xs → IsMember x ys
permuted-member x xs ys p m = member_of_contains x ys (Contains-permutation xs ys x p (contains_of_member x xs m))

pub same_members : {X : Type 0} (x : X) (xs ys : List X) → IsPermutation xs ys → IsMember x ys ↔ IsMember x xs
same_members x xs ys p = (permuted-member x ys xs (IsPermutation-sym xs ys p), permuted-member x xs ys p)
