-- What holds of all rows.
--
--   all_permuted  == holds of them in another order
--   all_from_map  == if it holds of what the rows stand for, it holds of the rows, so read
use Rattle.std.proofs.Common.{List, map, All}
use Rattle.std.specs.List.Sorted.{IsPermutation}
use Rattle.std.proofs.lemmas.List.Sorted.{IsPermutation-sym}
use Rattle.ml_lists.proofs.Member.{member-map, All-member, member-All}
use Rattle.ml_lists.proofs.Permuted.{permuted-member}

pub all_permuted : {R : Type 0} (P : R → Type 0) (xs ys : List R) → IsPermutation xs ys → All P xs → All P ys
all_permuted P xs ys perm all = member-All P ys (λ x member.
    All-member P xs all x (permuted-member x ys xs (IsPermutation-sym xs ys perm) member))

-- what holds of the values of a map's members holds of the members
pub all_from_map : {X Y : Type 0} (f : X → Y) (P : Y → Type 0) (xs : List X) → All P (map f xs) → All (λ x. P (f x)) xs
all_from_map f P xs all =
    member-All (λ x. P (f x)) xs (λ x member. All-member P (map f xs) all (f x) (member-map f x xs member))
