-- The positions that are reached by choosing sides of or-nodes, one node after the other.
--
--   chosen_at g c    == the start, with the choice c
--   trees g os c     == the positions from that one on, where sides of the nodes os are still to be chosen
--   branch g o os c s == those where the side s of the node o is chosen first
--   trees_count      == how many they are
--   IsLeft all os c  == of the nodes `all` those of os have no side in c, and no others
--   Choosing         == what is known of the game: at each of these positions with a node left, both sides of the first such
--                       node are the moves; and where none is left, there is no move to a position
--   trees_listed     == then these are the positions that are reached
use Rattle.std.proofs.Common.{◌≡◌, ℕ, suc, ◌+◌, ◌*◌, ◌^◌, ◌⊎◌, List, [], ◌∷◌, ◌++◌, length, Option, Some, None, inl, inr, refl, sym, ap, subst, ◌∙◌, arith, length-append}
use Rattle.std.proofs.lemmas.Nat.{pow-add}
use Rattle.ml_lists.specs.Ascending.{IsAscending}
use Rattle.ml_lists.specs.Member.{IsMember}
use Rattle.ml_lists.proofs.Member.{member-append, member-append_left, member-append_right}
use Rattle.ml_graph.specs.Graph.{Graph}
use Rattle.ml_sequent.specs.declared.choice.Side.{Side}
use Rattle.ml_sequent.specs.declared.choice.Side.TheVariants.{Left, Right}
use Rattle.ml_sequent.specs.Choice.{side_of, with_side}
use Rattle.ml_sequent.proofs.ChoicesWith.{side_kept, side_new, side_with}
use Rattle.ml_product.specs.Position.{Position, neutral, start_of}
use Rattle.ml_product.specs.DecisionGame.{To, Turn, IsReached, at_start, by_move, AreDifferent}
use Rattle.ml_families.proofs.Listed.{IsListed, LeadInto}

abbrev pub Choice : Type 0
Choice = List (ℕ × Side)

abbrev pub chosen_at : Graph → Choice → Position
chosen_at g c = record {
  sequent = (start_of g).sequent;
  history = (start_of g).history;
  priority = neutral g;
  choice = c;
}

abbrev pub trees : Graph → List ℕ → Choice → List Position
trees g [] c = chosen_at g c ∷ []
trees g (o ∷ os) c = chosen_at g c ∷ (trees g os (with_side c o Left) ++ trees g os (with_side c o Right))

-- those behind one side of the first node
abbrev pub branch : Graph → ℕ → List ℕ → Choice → Side → List Position
branch g o os c s = trees g os (with_side c o s)

pub trees_count : (g : Graph) (os : List ℕ) (c : Choice) → length (trees g os c) + 1 ≡ 2 ^ (length os + 1)
trees_count g [] c = refl
trees_count g (o ∷ os) c =
    let left = trees_count g os (with_side c o Left) in
    let right = trees_count g os (with_side c o Right) in
    let whole = length-append (branch g o os c Left) (branch g o os c Right) in
    let further : suc (length os) + 1 ≡ length os + 1 + 1 = omega arith in
    let doubled : 2 ^ (suc (length os) + 1) ≡ 2 ^ (length os + 1) * 2 =
    ap (λ n. 2 ^ n) further ∙ pow-add 2 (length os + 1) 1 in
    omega (arith, left, right, whole, doubled)

-- ---- what is left

pub record IsLeft (all os : List ℕ) (c : Choice) : Type 0 where
  pub ascends : IsAscending os
  pub within : (n : ℕ) → IsMember n os → IsMember n all
  pub unchosen : (n : ℕ) → IsMember n os → side_of c n ≡ None
  pub no_others : (n : ℕ) → IsMember n all → side_of c n ≡ None → IsMember n os

pub one_less : (all os : List ℕ) (o : ℕ) (c : Choice) (s : Side)
    → IsLeft all (o ∷ os) c
    → IsLeft all os (with_side c o s)
one_less all os o c s left = record {
  ascends = left.ascends.1;
  within = λ n m. left.within n (inr m);
  unchosen = λ n m. none n m (side_of (with_side c o s) n) refl;
  no_others = λ n m is. behind n is (side_of c n) refl (left.no_others n m);
}
  where
    none : (n : ℕ) → IsMember n os → (x : Option Side) → side_of (with_side c o s) n ≡ x
        → side_of (with_side c o s) n ≡ None
    none n m None is = is
    none n m (Some y) is = by_source (side_with c o s n y is)
      where
        by_source : ((o ≡ n) × (s ≡ y)) ⊎ (side_of c n ≡ Some y) → side_of (with_side c o s) n ≡ None
        by_source (inl same) = let low = left.ascends.0 n m in absurd (omega (arith, low, same.0))
        by_source (inr before) = let free = left.unchosen n (inr m) in absurd (cc)

    behind : (n : ℕ) → side_of (with_side c o s) n ≡ None → (x : Option Side) → side_of c n ≡ x
        → (side_of c n ≡ None → (n ≡ o) ⊎ IsMember n os)
        → IsMember n os
    behind n is (Some y) before rest =
        let kept = side_kept c o s n y (left.unchosen o (inl refl)) before in absurd (cc)
    behind n is None before rest = by_place (rest before)
      where
        by_place : (n ≡ o) ⊎ IsMember n os → IsMember n os
        by_place (inr m) = m
        by_place (inl same) =
            let new = side_new c o s (left.unchosen o (inl refl)) in
            let here = ap (side_of (with_side c o s)) same in
            absurd (cc)

-- ---- they differ

-- these positions keep what was chosen
kept : (g : Graph) (all os : List ℕ) (c : Choice) → IsLeft all os c
    → (n : ℕ) (y : Side) → side_of c n ≡ Some y
    → (p : Position) → IsMember p (trees g os c) → side_of p.choice n ≡ Some y
kept g all [] c left n y is p (inl same) = ap (λ (q : Position). side_of q.choice n) same ∙ is
kept g all [] c left n y is p (inr none) = absurd none
kept g all (o ∷ os) c left n y is p (inl same) = ap (λ (q : Position). side_of q.choice n) same ∙ is
kept g all (o ∷ os) c left n y is p (inr m) =
    by_part (member-append p (branch g o os c Left) (branch g o os c Right) m)
    (kept g all os (with_side c o Left) (one_less all os o c Left left) n y (side_kept c o Left n y free is) p)
    (kept g all os (with_side c o Right) (one_less all os o c Right left) n y (side_kept c o Right n y free is) p)
  where
    free : side_of c o ≡ None
    free = left.unchosen o (inl refl)

    by_part : IsMember p (branch g o os c Left) ⊎ IsMember p (branch g o os c Right)
        → (IsMember p (branch g o os c Left) → side_of p.choice n ≡ Some y)
        → (IsMember p (branch g o os c Right) → side_of p.choice n ≡ Some y)
        → side_of p.choice n ≡ Some y
    by_part (inl m) a b = a m
    by_part (inr m) a b = b m

both_differ : (xs ys : List Position) → AreDifferent xs → AreDifferent ys
    → ((p : Position) → IsMember p xs → IsMember p ys → ⊥)
    → AreDifferent (xs ++ ys)
both_differ [] ys a b apart = b
both_differ (x ∷ xs) ys a b apart = (
  (λ m. by_part (member-append x xs ys m)),
  both_differ xs ys a.1 b (λ p m k. apart p (inr m) k),
)
  where
    by_part : IsMember x xs ⊎ IsMember x ys → ⊥
    by_part (inl m) = a.0 m
    by_part (inr m) = apart x (inl refl) m

differ : (g : Graph) (all os : List ℕ) (c : Choice) → IsLeft all os c → AreDifferent (trees g os c)
differ g all [] c left = ((λ m. m), tt)
differ g all (o ∷ os) c left = (
  (λ m. first_new (member-append (chosen_at g c) (branch g o os c Left) (branch g o os c Right) m)),
  both_differ (branch g o os c Left) (branch g o os c Right)
      (differ g all os (with_side c o Left) (one_less all os o c Left left))
      (differ g all os (with_side c o Right) (one_less all os o c Right left))
      (λ p m k. let a = on Left p m in let b = on Right p k in left_right (sym a ∙ b)),
)
  where
    free : side_of c o ≡ None
    free = left.unchosen o (inl refl)

    on : (s : Side) (p : Position) → IsMember p (branch g o os c s) → side_of p.choice o ≡ Some s
    on s p m = kept g all os (with_side c o s) (one_less all os o c s left) o s (side_new c o s free) p m

    left_right : Some Left ≡ Some Right → ⊥
    left_right e = cc

    chosen_none : (s : Side) → side_of c o ≡ Some s → ⊥
    chosen_none s is = let none = free in cc

    first_new : IsMember (chosen_at g c) (branch g o os c Left)
        ⊎ IsMember (chosen_at g c) (branch g o os c Right)
        → ⊥
    first_new (inl m) = chosen_none Left (on Left (chosen_at g c) m)
    first_new (inr m) = chosen_none Right (on Right (chosen_at g c) m)

-- ---- they are those that are reached

pub record Choosing (g : Graph) (all : List ℕ) : Type 0 where
  pub sides : (o : ℕ) (os : List ℕ) (c : Choice) → IsLeft all (o ∷ os) c → (t : Turn g (chosen_at g c))
      → t.targets ≡ To (chosen_at g (with_side c o Left)) ∷ To (chosen_at g (with_side c o Right)) ∷ []
  pub none : (c : Choice)
      → IsLeft all [] c
      → (t : Turn g (chosen_at g c))
      → (q : Position)
      → IsMember (To q) t.targets
      → ⊥

first_of_trees : (g : Graph) (os : List ℕ) (c : Choice) → IsMember (chosen_at g c) (trees g os c)
first_of_trees g [] c = inl refl
first_of_trees g (o ∷ os) c = inl refl

module _ (g : Graph) (all : List ℕ) (choosing : Choosing g all) where
  closed : (os : List ℕ) (c : Choice) → IsLeft all os c
      → (p : Position) → IsMember p (trees g os c) → (t : Turn g p) → LeadInto (trees g os c) t.targets
  closed [] c left p (inl same) =
      subst (λ (x : Position). (t : Turn g x) → LeadInto (trees g [] c) t.targets) (sym same)
      (λ t q m. absurd (choosing.none c left t q m))
  closed [] c left p (inr none) = absurd none
  closed (o ∷ os) c left p (inl same) =
      subst (λ (x : Position). (t : Turn g x) → LeadInto (trees g (o ∷ os) c) t.targets) (sym same) here
    where
      by_side : (q : Position)
          → IsMember (To q) (To (chosen_at g (with_side c o Left)) ∷ To (chosen_at g (with_side c o Right)) ∷ [])
          → IsMember q (trees g (o ∷ os) c)
      by_side q (inl e) =
          let is : chosen_at g (with_side c o Left) ≡ q = cc in
          inr (member-append_left q (branch g o os c Left) (branch g o os c Right)
          (subst (λ x. IsMember x (branch g o os c Left)) is (first_of_trees g os (with_side c o Left))))
      by_side q (inr (inl e)) =
          let is : chosen_at g (with_side c o Right) ≡ q = cc in
          inr (member-append_right q (branch g o os c Left) (branch g o os c Right)
          (subst (λ x. IsMember x (branch g o os c Right)) is (first_of_trees g os (with_side c o Right))))
      by_side q (inr (inr none)) = absurd none

      here : (t : Turn g (chosen_at g c)) → LeadInto (trees g (o ∷ os) c) t.targets
      here t q m = by_side q (subst (IsMember (To q)) (choosing.sides o os c left t) m)
  closed (o ∷ os) c left p (inr m) =
      by_part (member-append p (branch g o os c Left) (branch g o os c Right) m)
      (closed os (with_side c o Left) (one_less all os o c Left left) p)
      (closed os (with_side c o Right) (one_less all os o c Right left) p)
    where
      by_part : IsMember p (branch g o os c Left) ⊎ IsMember p (branch g o os c Right)
          → (IsMember p (branch g o os c Left) → (t : Turn g p) → LeadInto (branch g o os c Left) t.targets)
          → (IsMember p (branch g o os c Right) → (t : Turn g p) → LeadInto (branch g o os c Right) t.targets)
          → (t : Turn g p)
          → LeadInto (trees g (o ∷ os) c) t.targets
      by_part (inl k) a b t q to =
          inr (member-append_left q (branch g o os c Left) (branch g o os c Right) (a k t q to))
      by_part (inr k) a b t q to =
          inr (member-append_right q (branch g o os c Left) (branch g o os c Right) (b k t q to))

  module _ (turn_of : (p : Position) → IsReached g p → Turn g p) where
    reached : (os : List ℕ) (c : Choice) → IsLeft all os c → IsReached g (chosen_at g c)
        → (p : Position) → IsMember p (trees g os c) → IsReached g p
    reached [] c left here p (inl same) = subst (IsReached g) (sym same) here
    reached [] c left here p (inr none) = absurd none
    reached (o ∷ os) c left here p (inl same) = subst (IsReached g) (sym same) here
    reached (o ∷ os) c left here p (inr m) =
        let t = turn_of (chosen_at g c) here in
        let is = choosing.sides o os c left t in
        let a = by_move (chosen_at g c) (chosen_at g (with_side c o Left)) t here
        (subst (IsMember (To (chosen_at g (with_side c o Left)))) (sym is) (inl refl)) in
        let b = by_move (chosen_at g c) (chosen_at g (with_side c o Right)) t here
        (subst (IsMember (To (chosen_at g (with_side c o Right)))) (sym is) (inr (inl refl))) in
        by_part (member-append p (branch g o os c Left) (branch g o os c Right) m)
        (reached os (with_side c o Left) (one_less all os o c Left left) a p)
        (reached os (with_side c o Right) (one_less all os o c Right left) b p)
      where
        by_part : IsMember p (branch g o os c Left) ⊎ IsMember p (branch g o os c Right)
            → (IsMember p (branch g o os c Left) → IsReached g p)
            → (IsMember p (branch g o os c Right) → IsReached g p)
            → IsReached g p
        by_part (inl k) a b = a k
        by_part (inr k) a b = b k

    pub trees_listed : IsAscending all → IsListed g (trees g all [])
    trees_listed ascends =
        let left : IsLeft all all [] =
        record { ascends = ascends; within = λ n m. m; unchosen = λ n m. refl; no_others = λ n m is. m } in
        record {
          starts = first_of_trees g all [];
          are_different = differ g all all [] left;
          are_reached = reached all [] left at_start;
          closed = closed all [] left;
        }
