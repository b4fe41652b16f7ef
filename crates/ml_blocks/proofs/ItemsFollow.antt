-- What follows an item that comes of a formula comes of it too.
--
--   Follows y x       == y is an item of the row of x, or what an X asks of the next place
--   within_closed     == what follows an item that comes of f comes of f
--   follows_of        == the same of items now or put off
--   next_of_of        == what an item asks of the next place comes of f too
--   is_eventuality    == an eventuality that comes of f is in the list
use Rattle.std.proofs.Common.{ℕ, ◌≡◌, ◌+◌, ◌⊎◌, inl, inr, true, false, Bool, not, List, ◌∷◌, ◌++◌, refl, sym, subst, map, filter}
use Rattle.ml_lists.specs.Member.{IsMember}
use Rattle.ml_lists.proofs.Ascending.{member-ascending}
use Rattle.ml_lists.proofs.Member.{member-append, member-append_left, member-append_right, member-map, member-filter}
use Rattle.ml_text.specs.declared.token.Operator.TheVariants as operator
use Rattle.ml_ctl.specs.Formula as plain
use Rattle.ml_ctl.specs.Formula.{Formula, occurrences}
use Rattle.ml_ctl.specs.declared.term.Tense.TheVariants as tense
use Rattle.ml_ctl.specs.declared.term.Pairing.TheVariants as pairing
use Rattle.ml_blocks.specs.Items.{Item, Row, OfState, Waits, Becomes, Either, now, put_off, row, behind_next, is_least}
use Rattle.ml_blocks.specs.ItemSets.{key, due, items_within, eventualities}
use Rattle.ml_blocks.proofs.ItemsWithin.{IsOf}
use Rattle.ml_blocks.proofs.RowsOfItems.{due_now}

abbrev pub FollowsBy : Item → Item → Row → Type 0
FollowsBy y x OfState = ⊥
FollowsBy y x Waits = y ≡ behind_next x
FollowsBy y x (Becomes ys) = IsMember y ys
FollowsBy y x (Either ys zs) = IsMember y ys ⊎ IsMember y zs

abbrev pub Follows : Item → Item → Type 0
Follows y x = FollowsBy y x (row x)

pub itself_within : (i : ℕ) (f : Formula) (b : Bool) → IsMember (now i f b) (items_within i f b)
itself_within i (plain.Const c) b = inl refl
itself_within i (plain.Prop p) b = inl refl
itself_within i (plain.Not f) b = inl refl
itself_within i (plain.Binary operator.And f g) b = inl refl
itself_within i (plain.Binary operator.Or f g) b = inl refl
itself_within i (plain.Binary operator.Implies f g) b = inl refl
itself_within i (plain.Binary operator.Iff f g) b = inl refl
itself_within i (plain.Temporal t f) b = inl refl
itself_within i (plain.Paired p f g) b = inl refl
itself_within i (plain.Quantified q f) b = inl refl

one_of : {A E : Type 0} → (E → A) → E ⊎ ⊥ → A
one_of e (inl a) = e a
one_of e (inr none) = absurd none

two_of : {A E F : Type 0} → (E → A) → (F → A) → E ⊎ (F ⊎ ⊥) → A
two_of e f (inl a) = e a
two_of e f (inr (inl b)) = f b
two_of e f (inr (inr none)) = absurd none

either_of : {A E F : Type 0} → (E → A) → (F → A) → (E ⊎ ⊥) ⊎ (F ⊎ ⊥) → A
either_of e f (inl a) = one_of e a
either_of e f (inr (inl b)) = f b
either_of e f (inr (inr none)) = absurd none

unless_of : {A E F G : Type 0} → (G → A) → (F → A) → (E → A) → (G ⊎ ⊥) ⊎ (F ⊎ (E ⊎ ⊥)) → A
unless_of g f e (inl (inl a)) = g a
unless_of g f e (inl (inr none)) = absurd none
unless_of g f e (inr (inl b)) = f b
unless_of g f e (inr (inr (inl c))) = e c
unless_of g f e (inr (inr (inr none))) = absurd none

released_of : {A E F G : Type 0} → (G → A) → (F → A) → (E → A) → (G ⊎ (F ⊎ ⊥)) ⊎ (G ⊎ (E ⊎ ⊥)) → A
released_of g f e (inl (inl a)) = g a
released_of g f e (inl (inr (inl b))) = f b
released_of g f e (inl (inr (inr none))) = absurd none
released_of g f e (inr (inl a)) = g a
released_of g f e (inr (inr (inl c))) = e c
released_of g f e (inr (inr (inr none))) = absurd none

pairs_of : {A P Q R S : Type 0} → (P → A) → (Q → A) → (R → A) → (S → A) → (P ⊎ (Q ⊎ ⊥)) ⊎ (R ⊎ (S ⊎ ⊥)) → A
pairs_of p q r s (inl (inl a)) = p a
pairs_of p q r s (inl (inr (inl a))) = q a
pairs_of p q r s (inl (inr (inr none))) = absurd none
pairs_of p q r s (inr (inl a)) = r a
pairs_of p q r s (inr (inr (inl a))) = s a
pairs_of p q r s (inr (inr (inr none))) = absurd none

operand : (y : Item) (i : ℕ) (f : Formula) (b : Bool) → y ≡ now i f b → IsMember (due y) (items_within i f b)
operand y i f b e = subst (λ z. IsMember (due z) (items_within i f b)) (sym e) (itself_within i f b)

-- the item itself put off
again : (y : Item) (i : ℕ) (f : Formula) (b : Bool) → y ≡ put_off (now i f b) → IsMember (due y) (items_within i f b)
again y i f b e = subst (λ z. IsMember (due z) (items_within i f b)) (sym e) (itself_within i f b)

module _ (y : Item) (i : ℕ) (f g : Formula) where
  -- the lists of the two operands
  in_left : (b c : Bool) (l r : ℕ)
      → y ≡ now l f b
      → (whole : Item)
      → IsMember (due y) (whole ∷ (items_within l f b ++ items_within r g c))
  in_left b c l r e whole = inr (member-append_left (due y) (items_within l f b) (items_within r g c) (operand y l f b e))

  in_right : (b c : Bool) (l r : ℕ)
      → y ≡ now r g c
      → (whole : Item)
      → IsMember (due y) (whole ∷ (items_within l f b ++ items_within r g c))
  in_right b c l r e whole = inr (member-append_right (due y) (items_within l f b) (items_within r g c) (operand y r g c e))

  abbrev All4 : ℕ → ℕ → List Item
  All4 l r = (items_within l f true ++ items_within l f false) ++ (items_within r g true ++ items_within r g false)

  left_pair : (l r : ℕ)
      → IsMember (due y) (items_within l f true ++ items_within l f false)
      → IsMember (due y) (All4 l r)
  left_pair l r m =
      member-append_left (due y) (items_within l f true ++ items_within l f false)
      (items_within r g true ++ items_within r g false) m

  right_pair : (l r : ℕ)
      → IsMember (due y) (items_within r g true ++ items_within r g false)
      → IsMember (due y) (All4 l r)
  right_pair l r m =
      member-append_right (due y) (items_within l f true ++ items_within l f false)
      (items_within r g true ++ items_within r g false) m

  left_true : (l r : ℕ) → y ≡ now l f true → IsMember (due y) (All4 l r)
  left_true l r e =
      left_pair l r (member-append_left (due y) (items_within l f true) (items_within l f false) (operand y l f true e))

  left_false : (l r : ℕ) → y ≡ now l f false → IsMember (due y) (All4 l r)
  left_false l r e =
      left_pair l r (member-append_right (due y) (items_within l f true) (items_within l f false) (operand y l f false e))

  right_true : (l r : ℕ) → y ≡ now r g true → IsMember (due y) (All4 l r)
  right_true l r e =
      right_pair l r (member-append_left (due y) (items_within r g true) (items_within r g false) (operand y r g true e))

  right_false : (l r : ℕ) → y ≡ now r g false → IsMember (due y) (All4 l r)
  right_false l r e =
      right_pair l r (member-append_right (due y) (items_within r g true) (items_within r g false) (operand y r g false e))

pub head_closed : (i : ℕ) (f : Formula) (b : Bool) (y : Item)
    → Follows y (now i f b)
    → IsMember (due y) (items_within i f b)
head_closed i (plain.Const c) b y none = absurd none
head_closed i (plain.Prop p) b y none = absurd none
head_closed i (plain.Quantified q f) b y none = absurd none
head_closed i (plain.Not f) b y m = one_of (λ e. inr (operand y (i + 1) f (not b) e)) m
head_closed i (plain.Temporal tense.Next f) b y e = inr (operand y (i + 1) f b e)
head_closed i (plain.Temporal tense.Finally f) true y m =
    either_of (λ e. inr (operand y (i + 1) f true e)) (λ e. again y i (plain.Temporal tense.Finally f) true e) m
head_closed i (plain.Temporal tense.Finally f) false y m =
    two_of (λ e. inr (operand y (i + 1) f false e)) (λ e. again y i (plain.Temporal tense.Finally f) false e) m
head_closed i (plain.Temporal tense.Globally f) true y m =
    two_of (λ e. inr (operand y (i + 1) f true e)) (λ e. again y i (plain.Temporal tense.Globally f) true e) m
head_closed i (plain.Temporal tense.Globally f) false y m =
    either_of (λ e. inr (operand y (i + 1) f false e)) (λ e. again y i (plain.Temporal tense.Globally f) false e) m
head_closed i (plain.Paired pairing.Until f g) true y m =
    let x = now i (plain.Paired pairing.Until f g) true in let l = i + 1 in let r = l + occurrences f in
    unless_of (λ e. in_right y i f g true true l r e x) (λ e. in_left y i f g true true l r e x)
    (λ e. again y i (plain.Paired pairing.Until f g) true e) m
head_closed i (plain.Paired pairing.Until f g) false y m =
    let x = now i (plain.Paired pairing.Until f g) false in let l = i + 1 in let r = l + occurrences f in
    released_of (λ e. in_right y i f g false false l r e x) (λ e. in_left y i f g false false l r e x)
    (λ e. again y i (plain.Paired pairing.Until f g) false e) m
head_closed i (plain.Paired pairing.Weak f g) true y m =
    let x = now i (plain.Paired pairing.Weak f g) true in let l = i + 1 in let r = l + occurrences f in
    unless_of (λ e. in_right y i f g true true l r e x) (λ e. in_left y i f g true true l r e x)
    (λ e. again y i (plain.Paired pairing.Weak f g) true e) m
head_closed i (plain.Paired pairing.Weak f g) false y m =
    let x = now i (plain.Paired pairing.Weak f g) false in let l = i + 1 in let r = l + occurrences f in
    released_of (λ e. in_right y i f g false false l r e x) (λ e. in_left y i f g false false l r e x)
    (λ e. again y i (plain.Paired pairing.Weak f g) false e) m
head_closed i (plain.Paired pairing.Release f g) true y m =
    let x = now i (plain.Paired pairing.Release f g) true in let l = i + 1 in let r = l + occurrences f in
    released_of (λ e. in_right y i f g true true l r e x) (λ e. in_left y i f g true true l r e x)
    (λ e. again y i (plain.Paired pairing.Release f g) true e) m
head_closed i (plain.Paired pairing.Release f g) false y m =
    let x = now i (plain.Paired pairing.Release f g) false in let l = i + 1 in let r = l + occurrences f in
    unless_of (λ e. in_right y i f g false false l r e x) (λ e. in_left y i f g false false l r e x)
    (λ e. again y i (plain.Paired pairing.Release f g) false e) m
head_closed i (plain.Binary operator.And f g) true y m =
    let x = now i (plain.Binary operator.And f g) true in let l = i + 1 in let r = l + occurrences f in
    two_of (λ e. in_left y i f g true true l r e x) (λ e. in_right y i f g true true l r e x) m
head_closed i (plain.Binary operator.And f g) false y m =
    let x = now i (plain.Binary operator.And f g) false in let l = i + 1 in let r = l + occurrences f in
    either_of (λ e. in_left y i f g false false l r e x) (λ e. in_right y i f g false false l r e x) m
head_closed i (plain.Binary operator.Or f g) true y m =
    let x = now i (plain.Binary operator.Or f g) true in let l = i + 1 in let r = l + occurrences f in
    either_of (λ e. in_left y i f g true true l r e x) (λ e. in_right y i f g true true l r e x) m
head_closed i (plain.Binary operator.Or f g) false y m =
    let x = now i (plain.Binary operator.Or f g) false in let l = i + 1 in let r = l + occurrences f in
    two_of (λ e. in_left y i f g false false l r e x) (λ e. in_right y i f g false false l r e x) m
head_closed i (plain.Binary operator.Implies f g) true y m =
    let x = now i (plain.Binary operator.Implies f g) true in let l = i + 1 in let r = l + occurrences f in
    either_of (λ e. in_left y i f g false true l r e x) (λ e. in_right y i f g false true l r e x) m
head_closed i (plain.Binary operator.Implies f g) false y m =
    let x = now i (plain.Binary operator.Implies f g) false in let l = i + 1 in let r = l + occurrences f in
    two_of (λ e. in_left y i f g true false l r e x) (λ e. in_right y i f g true false l r e x) m
head_closed i (plain.Binary operator.Iff f g) true y m =
    let l = i + 3 in let r = l + occurrences f in
    inr (pairs_of (λ e. left_true y i f g l r e) (λ e. right_true y i f g l r e) (λ e. left_false y i f g l r e)
    (λ e. right_false y i f g l r e) m)
head_closed i (plain.Binary operator.Iff f g) false y m =
    let l = i + 3 in let r = l + occurrences f in
    inr (pairs_of (λ e. left_true y i f g l r e) (λ e. right_false y i f g l r e) (λ e. left_false y i f g l r e)
    (λ e. right_true y i f g l r e) m)

module _ (x y : Item) (follows : Follows y x) where
  abbrev Kept : ℕ → Formula → Bool → Type 0
  Kept i f b = IsMember x (items_within i f b) → IsMember (due y) (items_within i f b)

  at_first : (i : ℕ) (f : Formula) (b : Bool) → x ≡ now i f b → IsMember (due y) (items_within i f b)
  at_first i f b e = head_closed i f b y (subst (Follows y) e follows)

  kept_in_both : (xs ys : List Item)
      → (IsMember x xs → IsMember (due y) xs)
      → (IsMember x ys → IsMember (due y) ys)
      → IsMember x (xs ++ ys)
      → IsMember (due y) (xs ++ ys)
  kept_in_both xs ys a b m = from (member-append x xs ys m)
    where
      from : IsMember x xs ⊎ IsMember x ys → IsMember (due y) (xs ++ ys)
      from (inl i) = member-append_left (due y) xs ys (a i)
      from (inr i) = member-append_right (due y) xs ys (b i)

  pub within_closed : (i : ℕ) (f : Formula) (b : Bool) → Kept i f b
  within_closed i (plain.Const c) b (inl e) = at_first i (plain.Const c) b e
  within_closed i (plain.Const c) b (inr none) = absurd none
  within_closed i (plain.Prop p) b (inl e) = at_first i (plain.Prop p) b e
  within_closed i (plain.Prop p) b (inr none) = absurd none
  within_closed i (plain.Quantified q f) b (inl e) = at_first i (plain.Quantified q f) b e
  within_closed i (plain.Quantified q f) b (inr none) = absurd none
  within_closed i (plain.Not f) b (inl e) = at_first i (plain.Not f) b e
  within_closed i (plain.Not f) b (inr m) = inr (within_closed (i + 1) f (not b) m)
  within_closed i (plain.Temporal t f) b (inl e) = at_first i (plain.Temporal t f) b e
  within_closed i (plain.Temporal t f) b (inr m) = inr (within_closed (i + 1) f b m)
  within_closed i (plain.Paired p f g) b (inl e) = at_first i (plain.Paired p f g) b e
  within_closed i (plain.Paired p f g) b (inr m) =
      inr (kept_in_both (items_within (i + 1) f b) (items_within (i + 1 + occurrences f) g b)
      (within_closed (i + 1) f b) (within_closed (i + 1 + occurrences f) g b) m)
  within_closed i (plain.Binary operator.And f g) b (inl e) = at_first i (plain.Binary operator.And f g) b e
  within_closed i (plain.Binary operator.And f g) b (inr m) =
      inr (kept_in_both (items_within (i + 1) f b) (items_within (i + 1 + occurrences f) g b)
      (within_closed (i + 1) f b) (within_closed (i + 1 + occurrences f) g b) m)
  within_closed i (plain.Binary operator.Or f g) b (inl e) = at_first i (plain.Binary operator.Or f g) b e
  within_closed i (plain.Binary operator.Or f g) b (inr m) =
      inr (kept_in_both (items_within (i + 1) f b) (items_within (i + 1 + occurrences f) g b)
      (within_closed (i + 1) f b) (within_closed (i + 1 + occurrences f) g b) m)
  within_closed i (plain.Binary operator.Implies f g) b (inl e) = at_first i (plain.Binary operator.Implies f g) b e
  within_closed i (plain.Binary operator.Implies f g) b (inr m) =
      inr (kept_in_both (items_within (i + 1) f (not b)) (items_within (i + 1 + occurrences f) g b)
      (within_closed (i + 1) f (not b)) (within_closed (i + 1 + occurrences f) g b) m)
  within_closed i (plain.Binary operator.Iff f g) b (inl e) = at_first i (plain.Binary operator.Iff f g) b e
  within_closed i (plain.Binary operator.Iff f g) b (inr m) =
      let l = i + 3 in let r = l + occurrences f in
      inr (kept_in_both (items_within l f true ++ items_within l f false) (items_within r g true ++ items_within r g false)
      (kept_in_both (items_within l f true) (items_within l f false) (within_closed l f true) (within_closed l f false))
      (kept_in_both (items_within r g true) (items_within r g false) (within_closed r g true) (within_closed r g false)) m)

pub follows_of : (first x y : Item) → x.later ≡ false → IsOf first x → Follows y x → IsOf first y
follows_of first x y is_now of follows =
    within_closed x y follows first.number first.formula first.positive
    (subst (λ z. IsMember z (items_within first.number first.formula first.positive)) (due_now x is_now) of)

pub is_eventuality : (first x : Item)
    → IsOf first x
    → is_least x ≡ true
    → IsMember (key (due x)) (eventualities first)
is_eventuality first x of least =
    let all = items_within first.number first.formula first.positive in
    member-ascending (key (due x)) (map key (filter is_least all))
    (member-map key (due x) (filter is_least all) (member-filter is_least (due x) all of least))
