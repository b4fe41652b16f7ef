-- Two ascending lists as one, number by number.
--
--   IsUnion l r both      == both has the members of l and those of r
--   Merged l r out xs ys   == of the lists l and r, out was written and xs and ys are left
--   merge_start            == nothing was written
--   merge_swap             == the two lists are alike
--   merge_less             == the lesser head was written
--   merge_equal            == the head of both was written
--   merge_end, merge_union == one list is empty: with the rest of the other the two are one
--   less_step, greater_step, equal_step  == a turn, by the order of the two heads
--   ends_left, ends_right  == the end, where the first or the second list is empty
use Rattle.std.proofs.Common.{◌≡◌, ◌↔◌, ℕ, ◌-◌, ◌<◌, ◌⊎◌, List, [], ◌∷◌, ◌++◌, length, take, drop, get_or, Contains, inl, inr, sym, subst, ⊎_elim, arith}
use Rattle.std.specs.List.Sorted.{IsStrictlyIncreasing}
use Rattle.std.specs.Ordering.{nat_cmp}
use Rattle.std.specs.declared.cmp.Ordering.TheVariants.{Less, Equal, Greater}
use Rattle.std.proofs.lemmas.Cmp.{ranked}
use Rattle.std.proofs.lemmas.List.{take_all}
use Rattle.std.proofs.lemmas.List.Elements.{Contains-append_left, Contains-append_right, Contains-append_cases}
use Rattle.ml_lists.proofs.Members.{contains_head, contains_later, contains_cases, contains_none, contains_middle, member_of_contains, contains_of_member}
use Rattle.ml_lists.proofs.Increasing.{Ascends, ascends_from, increasing_from, ascends_moved, ascends_merge, increasing_of_ascending, ascending_of_increasing}
use Rattle.ml_lists.specs.Ascending.{IsAscending, ascending}
use Rattle.ml_lists.specs.Member.{IsMember}
use Rattle.ml_lists.proofs.Ascending.{ascending-is, ascending_same, ascending-member, member-ascending}
use Rattle.ml_lists.proofs.Member.{member-append, member-append_left, member-append_right}

abbrev pub IsUnion : List ℕ → List ℕ → List ℕ → Type 0
IsUnion left right both = (y : ℕ) → Contains both y ↔ (Contains left y ⊎ Contains right y)

pub record Merged (l r out xs ys : List ℕ) : Type 0 where
  pub on_left : Ascends (out ++ xs)
  pub on_right : Ascends (out ++ ys)
  pub kept : (z : ℕ) → Contains l z ⊎ Contains r z → Contains out z ⊎ (Contains xs z ⊎ Contains ys z)
  pub given : (z : ℕ) → Contains out z ⊎ (Contains xs z ⊎ Contains ys z) → Contains l z ⊎ Contains r z

pub merge_start : (l r : List ℕ) → IsAscending l → IsAscending r → Merged l r [] l r
merge_start l r left right = record {
  on_left = ascends_from l (increasing_of_ascending l left);
  on_right = ascends_from r (increasing_of_ascending r right);
  kept = λ z inside. inr inside;
  given = λ z inside. ⊎_elim (λ (h : Contains [] z). absurd (contains_none z h)) (λ (h : Contains l z ⊎ Contains r z). h) inside;
}

swap_sides : {A B : Type 0} → A ⊎ B → B ⊎ A
swap_sides {A} {B} s = ⊎_elim (λ (a : A). inr a) (λ (b : B). inl b) s

pub merge_swap : (l r out xs ys : List ℕ) → Merged l r out xs ys → Merged r l out ys xs
merge_swap l r out xs ys so_far = record {
  on_left = so_far.on_right;
  on_right = so_far.on_left;
  kept = λ z inside.
      ⊎_elim (λ (h : Contains out z). inl h) (λ (h : Contains xs z ⊎ Contains ys z). inr (swap_sides h)) (so_far.kept z (swap_sides inside));
  given = λ z inside.
      swap_sides (so_far.given z
      (⊎_elim (λ (h : Contains out z). inl h) (λ (h : Contains ys z ⊎ Contains xs z). inr (swap_sides h)) inside));
}

-- the head of the first list moves to what was written
moved_there : (out : List ℕ) (x : ℕ) (xs ys : List ℕ) (z : ℕ) → Contains out z ⊎ (Contains (x ∷ xs) z ⊎ Contains ys z)
    → Contains (out ++ x ∷ []) z ⊎ (Contains xs z ⊎ Contains ys z)
moved_there out x xs ys z inside =
    ⊎_elim
    (λ (h : Contains out z). inl (Contains-append_left out (x ∷ []) z h))
    (λ (h : Contains (x ∷ xs) z ⊎ Contains ys z).
    ⊎_elim
    (λ (first : Contains (x ∷ xs) z).
    ⊎_elim
    (λ (is : x ≡ z). inl (subst (λ w. Contains (out ++ x ∷ []) w) is (contains_middle out x [])))
    (λ (later : Contains xs z). inr (inl later))
    (contains_cases x xs z first))
    (λ (second : Contains ys z). inr (inr second))
    h)
    inside

moved_back : (out : List ℕ) (x : ℕ) (xs ys : List ℕ) (z : ℕ) → Contains (out ++ x ∷ []) z ⊎ (Contains xs z ⊎ Contains ys z)
    → Contains out z ⊎ (Contains (x ∷ xs) z ⊎ Contains ys z)
moved_back out x xs ys z inside =
    ⊎_elim
    (λ (h : Contains (out ++ x ∷ []) z).
    ⊎_elim
    (λ (before : Contains out z). inl before)
    (λ (last : Contains (x ∷ []) z).
    ⊎_elim
    (λ (is : x ≡ z). inr (inl (subst (λ w. Contains (x ∷ xs) w) is (contains_head x xs))))
    (λ (none : Contains [] z). absurd (contains_none z none))
    (contains_cases x [] z last))
    (Contains-append_cases out (x ∷ []) z h))
    (λ (h : Contains xs z ⊎ Contains ys z).
    ⊎_elim
    (λ (first : Contains xs z). inr (inl (contains_later x xs z first)))
    (λ (second : Contains ys z). inr (inr second))
    h)
    inside

-- a head that was written already may go from the second list
gone_there : (out : List ℕ) (x : ℕ) (xs ys : List ℕ) (z : ℕ) → Contains out x → Contains out z ⊎ (Contains xs z ⊎ Contains (x ∷ ys) z)
    → Contains out z ⊎ (Contains xs z ⊎ Contains ys z)
gone_there out x xs ys z written inside =
    ⊎_elim
    (λ (h : Contains out z). inl h)
    (λ (h : Contains xs z ⊎ Contains (x ∷ ys) z).
    ⊎_elim
    (λ (first : Contains xs z). inr (inl first))
    (λ (second : Contains (x ∷ ys) z).
    ⊎_elim
    (λ (is : x ≡ z). inl (subst (Contains out) is written))
    (λ (later : Contains ys z). inr (inr later))
    (contains_cases x ys z second))
    h)
    inside

gone_back : (out : List ℕ) (x : ℕ) (xs ys : List ℕ) (z : ℕ) → Contains out z ⊎ (Contains xs z ⊎ Contains ys z)
    → Contains out z ⊎ (Contains xs z ⊎ Contains (x ∷ ys) z)
gone_back out x xs ys z inside =
    ⊎_elim
    (λ (h : Contains out z). inl h)
    (λ (h : Contains xs z ⊎ Contains ys z).
    ⊎_elim
    (λ (first : Contains xs z). inr (inl first))
    (λ (second : Contains ys z). inr (inr (contains_later x ys z second)))
    h)
    inside

pub merge_less : (l r out : List ℕ) (x : ℕ) (xs : List ℕ) (y : ℕ) (ys : List ℕ) → x < y → Merged l r out (x ∷ xs) (y ∷ ys)
    → Merged l r (out ++ x ∷ []) xs (y ∷ ys)
merge_less l r out x xs y ys below so_far = record {
  on_left = ascends_moved out x xs so_far.on_left;
  on_right = ascends_merge out x xs y ys below so_far.on_left so_far.on_right;
  kept = λ z inside. moved_there out x xs (y ∷ ys) z (so_far.kept z inside);
  given = λ z inside. so_far.given z (moved_back out x xs (y ∷ ys) z inside);
}

pub merge_equal : (l r out : List ℕ) (x : ℕ) (xs ys : List ℕ) → Merged l r out (x ∷ xs) (x ∷ ys) → Merged l r (out ++ x ∷ []) xs ys
merge_equal l r out x xs ys so_far = record {
  on_left = ascends_moved out x xs so_far.on_left;
  on_right = ascends_moved out x ys so_far.on_right;
  kept = λ z inside.
      gone_there (out ++ x ∷ []) x xs ys z (contains_middle out x []) (moved_there out x xs (x ∷ ys) z (so_far.kept z inside));
  given = λ z inside. so_far.given z (moved_back out x xs (x ∷ ys) z (gone_back (out ++ x ∷ []) x xs ys z inside));
}

pub merge_end : (l r out rest : List ℕ) → Merged l r out [] rest → IsStrictlyIncreasing (out ++ rest)
merge_end l r out rest so_far = increasing_from (out ++ rest) so_far.on_right

pub merge_union : (l r out rest : List ℕ) → Merged l r out [] rest → IsUnion l r (out ++ rest)
merge_union l r out rest so_far = λ z. (there z, back z)
  where
    there : (z : ℕ) → Contains (out ++ rest) z → Contains l z ⊎ Contains r z
    there z inside =
        so_far.given z
        (⊎_elim (λ (h : Contains out z). inl h) (λ (h : Contains rest z). inr (inr h)) (Contains-append_cases out rest z inside))

    back : (z : ℕ) → Contains l z ⊎ Contains r z → Contains (out ++ rest) z
    back z inside =
        ⊎_elim
        (λ (h : Contains out z). Contains-append_left out rest z h)
        (λ (h : Contains [] z ⊎ Contains rest z).
        ⊎_elim
        (λ (none : Contains [] z). absurd (contains_none z none))
        (λ (more : Contains rest z). Contains-append_right out rest z more)
        h)
        (so_far.kept z inside)

-- the numbers behind the head, as a slice gives them
abbrev pub rest_of : List ℕ → List ℕ
rest_of xs = take (length xs - 1) (drop 1 xs)

rest_is : (x : ℕ) (xs : List ℕ) → rest_of (x ∷ xs) ≡ xs
rest_is x xs = take_all (length (x ∷ xs) - 1) xs (omega arith)

pub less_step : (l r out more xs ys : List ℕ) → 0 < length xs → 0 < length ys → Less ≡ nat_cmp (get_or xs 0 0) (get_or ys 0 0)
    → more ≡ out ++ get_or xs 0 0 ∷ [] → Merged l r out xs ys → Merged l r more (rest_of xs) ys
less_step l r out more [] ys xs_long ys_long order wrote so_far = absurd (omega arith)
less_step l r out more (x ∷ xs) [] xs_long ys_long order wrote so_far = absurd (omega arith)
less_step l r out more (x ∷ xs) (y ∷ ys) xs_long ys_long order wrote so_far =
    subst (λ rest. Merged l r more rest (y ∷ ys)) (sym (rest_is x xs))
    (subst (λ out'. Merged l r out' xs (y ∷ ys)) (sym wrote) (merge_less l r out x xs y ys (ranked x y Less order) so_far))

pub greater_step : (l r out more xs ys : List ℕ) → 0 < length xs → 0 < length ys → Greater ≡ nat_cmp (get_or xs 0 0) (get_or ys 0 0)
    → more ≡ out ++ get_or ys 0 0 ∷ [] → Merged l r out xs ys → Merged l r more xs (rest_of ys)
greater_step l r out more [] ys xs_long ys_long order wrote so_far = absurd (omega arith)
greater_step l r out more (x ∷ xs) [] xs_long ys_long order wrote so_far = absurd (omega arith)
greater_step l r out more (x ∷ xs) (y ∷ ys) xs_long ys_long order wrote so_far =
    merge_swap r l more (rest_of (y ∷ ys)) (x ∷ xs)
    (subst (λ rest. Merged r l more rest (x ∷ xs)) (sym (rest_is y ys))
    (subst (λ out'. Merged r l out' ys (x ∷ xs)) (sym wrote)
    (merge_less r l out y ys x xs (ranked x y Greater order) (merge_swap l r out (x ∷ xs) (y ∷ ys) so_far))))

pub equal_step : (l r out more xs ys : List ℕ) → 0 < length xs → 0 < length ys → Equal ≡ nat_cmp (get_or xs 0 0) (get_or ys 0 0)
    → more ≡ out ++ get_or xs 0 0 ∷ [] → Merged l r out xs ys → Merged l r more (rest_of xs) (rest_of ys)
equal_step l r out more [] ys xs_long ys_long order wrote so_far = absurd (omega arith)
equal_step l r out more (x ∷ xs) [] xs_long ys_long order wrote so_far = absurd (omega arith)
equal_step l r out more (x ∷ xs) (y ∷ ys) xs_long ys_long order wrote so_far =
    let same : Merged l r out (x ∷ xs) (x ∷ ys) = subst (λ z. Merged l r out (x ∷ xs) (z ∷ ys)) (sym (ranked x y Equal order)) so_far in
    subst (λ rest. Merged l r more rest (rest_of (y ∷ ys))) (sym (rest_is x xs))
    (subst (λ rest. Merged l r more xs rest) (sym (rest_is y ys))
    (subst (λ out'. Merged l r out' xs ys) (sym wrote) (merge_equal l r out x xs ys same)))

-- one list is empty, and the rest of the other was written
abbrev pub IsWhole : List ℕ → List ℕ → List ℕ → Type 0
IsWhole l r whole = (whole ≡ ascending (l ++ r)) × IsAscending whole

union_is : (l r both : List ℕ) → IsUnion l r both → IsStrictlyIncreasing both → IsWhole l r both
union_is l r both union increases = (
  ascending_same both (ascending (l ++ r)) (ascending_of_increasing both increases) (ascending-is (l ++ r))
      (λ z inside. member-ascending z (l ++ r)
      (⊎_elim
      (λ (h : Contains l z). member-append_left z l r (member_of_contains z l h))
      (λ (h : Contains r z). member-append_right z l r (member_of_contains z r h))
      ((union z).0 (contains_of_member z both inside))))
      (λ z inside. member_of_contains z both ((union z).1
      (⊎_elim
      (λ (h : IsMember z l). inl (contains_of_member z l h))
      (λ (h : IsMember z r). inr (contains_of_member z r h))
      (member-append z l r (ascending-member z (l ++ r) inside))))),
  ascending_of_increasing both increases,
)

union_swap : (l r whole : List ℕ) → IsUnion r l whole → IsUnion l r whole
union_swap l r whole union = λ z. (λ inside. swap_sides ((union z).0 inside), λ inside. (union z).1 (swap_sides inside))

left_done : (l r out whole xs ys : List ℕ) → length xs ≡ 0 → whole ≡ out ++ ys → Merged l r out xs ys → IsWhole l r whole
left_done l r out whole [] ys empty wrote so_far =
    subst (IsWhole l r) (sym wrote) (union_is l r (out ++ ys) (merge_union l r out ys so_far) (merge_end l r out ys so_far))
left_done l r out whole (x ∷ xs) ys empty wrote so_far = absurd (omega arith)

pub ends_left : (l r out whole xs ys : List ℕ) → length xs < 1 → whole ≡ out ++ ys → Merged l r out xs ys → IsWhole l r whole
ends_left l r out whole xs ys empty wrote so_far = left_done l r out whole xs ys (omega arith) wrote so_far

pub ends_right : (l r out whole xs ys : List ℕ) → length ys < 1 → whole ≡ out ++ xs → Merged l r out xs ys → IsWhole l r whole
ends_right l r out whole xs [] empty wrote so_far =
    let swapped = merge_swap l r out xs [] so_far in
    subst (IsWhole l r) (sym wrote)
    (union_is l r (out ++ xs) (union_swap l r (out ++ xs) (merge_union r l out xs swapped)) (merge_end r l out xs swapped))
ends_right l r out whole xs (y ∷ ys) empty wrote so_far = absurd (omega arith)
