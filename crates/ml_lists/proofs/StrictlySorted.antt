-- Strictly ascending lists are determined by what they contain.
--
--   below_later       == the head of a strictly ascending list is below what its tail contains
--   same_from_members == strictly ascending lists that contain the same are equal
use Rattle.std.proofs.Common.{◌≡◌, List, [], ◌∷◌, Contains, Ordering, refl, sym, ap, subst, ◌∙◌, ⊎_elim}
use Rattle.std.specs.Cmp.{IsTotalOrder}
use Rattle.std.specs.List.Sorted.{IsStrictlySortedBy}
use Rattle.std.specs.Ordering.{ordering_reverse}
use Rattle.std.specs.declared.cmp.Ordering.TheVariants.{Less, Equal, Greater}
use Rattle.std.proofs.lemmas.Cmp.{tied_itself}
use Rattle.std.proofs.lemmas.List.Elements.{All-contains}
use Rattle.std.proofs.lemmas.Map.Keys.{sorted_tail}
use Rattle.std.proofs.lemmas.Map.Views.{All-after_first}
use Rattle.ml_lists.proofs.Members.{contains_head, contains_later, contains_cases, contains_none}

module _ {K : Type 0} (R : K → K → Ordering) (order : IsTotalOrder R) (exact : (x y : K) → R x y ≡ Equal → x ≡ y) where
  below_later : (x : K) (xs : List K) → IsStrictlySortedBy R (x ∷ xs) → (q : K) → Contains xs q → R x q ≡ Less
  below_later x xs ascends q h = All-contains (λ (y : K). R x y ≡ Less) xs q (All-after_first R x xs ascends) h

  -- a value isn't below itself
  not_below : (x q : K) → x ≡ q → R x q ≡ Less → ⊥
  not_below x q e less = let tied = tied_itself order x in let same : R x q ≡ Equal = subst (λ y. R x y ≡ Equal) e tied in cc

  -- where each head is in the other list, neither is below the other
  not_less : (x y : K) (ys : List K) → IsStrictlySortedBy R (y ∷ ys) → Contains (y ∷ ys) x → R x y ≡ Less → ⊥
  not_less x y ys ascends h less =
      ⊎_elim
      (λ (e : y ≡ x). not_below x y (sym e) less)
      (λ (later : Contains ys x). let above = below_later y ys ascends x later in let turned = order.antisymm x y in
      let greater : R x y ≡ Greater = turned ∙ ap ordering_reverse above in cc)
      (contains_cases y ys x h)

  heads : (x y : K) (xs ys : List K)
      → IsStrictlySortedBy R (x ∷ xs)
      → IsStrictlySortedBy R (y ∷ ys)
      → Contains (y ∷ ys) x
      → Contains (x ∷ xs) y → (o : Ordering) → R x y ≡ o → x ≡ y
  heads x y xs ys up_x up_y x_in y_in Less e = absurd (not_less x y ys up_y x_in e)
  heads x y xs ys up_x up_y x_in y_in Equal e = exact x y e
  heads x y xs ys up_x up_y x_in y_in Greater e =
      absurd (not_less y x xs up_x y_in (order.antisymm y x ∙ ap ordering_reverse e))

  -- what the tail of one list contains, the tail of the other does, where the heads are equal
  tails : (x y : K) (xs ys : List K) → IsStrictlySortedBy R (x ∷ xs) → x ≡ y
      → ((q : K) → Contains (x ∷ xs) q → Contains (y ∷ ys) q) → (q : K) → Contains xs q → Contains ys q
  tails x y xs ys up e within q h =
      ⊎_elim
      (λ (head : y ≡ q). absurd (not_below x q (e ∙ head) (below_later x xs up q h)))
      (λ (later : Contains ys q). later)
      (contains_cases y ys q (within q (contains_later x xs q h)))

  pub same_from_members : (xs ys : List K) → IsStrictlySortedBy R xs → IsStrictlySortedBy R ys
      → ((q : K) → Contains xs q → Contains ys q) → ((q : K) → Contains ys q → Contains xs q) → xs ≡ ys
  same_from_members [] [] up_xs up_ys there back = refl
  same_from_members [] (y ∷ ys) up_xs up_ys there back = absurd (contains_none y (back y (contains_head y ys)))
  same_from_members (x ∷ xs) [] up_xs up_ys there back = absurd (contains_none x (there x (contains_head x xs)))
  same_from_members (x ∷ xs) (y ∷ ys) up_xs up_ys there back =
      let same = heads x y xs ys up_xs up_ys (there x (contains_head x xs)) (back y (contains_head y ys)) (R x y) refl in
      let rest = same_from_members xs ys (sorted_tail R x xs up_xs) (sorted_tail R y ys up_ys)
      (tails x y xs ys up_xs same there) (tails y x ys xs up_ys (sym same) back) in
      λ i. same i ∷ rest i
