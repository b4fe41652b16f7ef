-- The eventualities that are gathered along a formula are those of its item.
--
--   Of plus minus k X    == k is among X true, if plus, or among X false, if minus
--   wanted_to, wanted_from == what is gathered is what comes of the formula asked to be true, to be false, or both
--   wanted_within        == their keys are those of occurrences of the formula
--   wanted_ascends       == they come in the order of items
--   eventualities_same   == so they are the eventualities of its item
use Rattle.std.proofs.Common.{ℕ, ◌≡◌, ◌+◌, ◌*◌, ◌<◌, ◌≤◌, ◌⊎◌, ◌||◌, inl, inr, arith, Bool, true, false, not, List, [], ◌∷◌, ◌++◌, refl, sym, ap, ◌∙◌, subst, map, filter, Some}
use Rattle.std.proofs.lemmas.List.{map-append}
use Rattle.std.proofs.lemmas.List.Elements.{filter-append}
use Rattle.std.proofs.lemmas.Bool.{or_cases, or_left, or_right}
use Rattle.ml_lists.specs.Ascending.{IsAscending, ascending}
use Rattle.ml_lists.specs.Member.{IsMember}
use Rattle.ml_lists.proofs.Ascending.{ascending-is, ascending-member, member-ascending, ascending_same}
use Rattle.ml_lists.proofs.Member.{member-append, member-append_left, member-append_right}
use Rattle.ml_text.specs.declared.token.Operator.TheVariants as operator
use Rattle.ml_ctl.specs.Formula.{Formula, Const, Prop, Not, Binary, Temporal, Paired, Quantified, occurrences}
use Rattle.ml_ctl.specs.declared.term.Tense.{Tense}
use Rattle.ml_ctl.specs.declared.term.Tense.TheVariants as tense
use Rattle.ml_ctl.specs.declared.term.Pairing.{Pairing}
use Rattle.ml_ctl.specs.declared.term.Pairing.TheVariants as pairing
use Rattle.ml_blocks.specs.Items.{Item, now, is_least}
use Rattle.ml_blocks.specs.ItemSets.{key, items_within, eventualities}
use Rattle.ml_blocks.specs.private.Occurrences.{wanted, own_tense, own_pairing, eventualities_here}

false_true : false ≡ true → ⊥
false_true e = cc

-- the keys of eventualities among items
abbrev keys_of : List Item → List ℕ
keys_of xs = map key (filter is_least xs)

abbrev keys : ℕ → Formula → Bool → List ℕ
keys i f b = keys_of (items_within i f b)

keys-append : (xs ys : List Item) → keys_of (xs ++ ys) ≡ keys_of xs ++ keys_of ys
keys-append xs ys = ap (map key) (filter-append is_least xs ys) ∙ map-append key (filter is_least xs) (filter is_least ys)

abbrev pub Of : (plus minus : Bool) → ℕ → (Bool → List ℕ) → Type 0
Of plus minus k X = ((plus ≡ true) × IsMember k (X true)) ⊎ ((minus ≡ true) × IsMember k (X false))

module _ (plus minus : Bool) (k : ℕ) where
  changed : (X Y : Bool → List ℕ) → ((b : Bool) → X b ≡ Y b) → Of plus minus k X → Of plus minus k Y
  changed X Y same (inl m) = inl (m.0, subst (IsMember k) (same true) m.1)
  changed X Y same (inr m) = inr (m.0, subst (IsMember k) (same false) m.1)

  split : (X Y : Bool → List ℕ) → Of plus minus k (λ b. X b ++ Y b) → Of plus minus k X ⊎ Of plus minus k Y
  split X Y (inl m) = from (member-append k (X true) (Y true) m.1)
    where
      from : IsMember k (X true) ⊎ IsMember k (Y true) → Of plus minus k X ⊎ Of plus minus k Y
      from (inl i) = inl (inl (m.0, i))
      from (inr i) = inr (inl (m.0, i))
  split X Y (inr m) = from (member-append k (X false) (Y false) m.1)
    where
      from : IsMember k (X false) ⊎ IsMember k (Y false) → Of plus minus k X ⊎ Of plus minus k Y
      from (inl i) = inl (inr (m.0, i))
      from (inr i) = inr (inr (m.0, i))

  joined : (X Y : Bool → List ℕ) → Of plus minus k X ⊎ Of plus minus k Y → Of plus minus k (λ b. X b ++ Y b)
  joined X Y (inl (inl m)) = inl (m.0, member-append_left k (X true) (Y true) m.1)
  joined X Y (inl (inr m)) = inr (m.0, member-append_left k (X false) (Y false) m.1)
  joined X Y (inr (inl m)) = inl (m.0, member-append_right k (X true) (Y true) m.1)
  joined X Y (inr (inr m)) = inr (m.0, member-append_right k (X false) (Y false) m.1)

  swapped : (X : Bool → List ℕ) → Of minus plus k X → Of plus minus k (λ b. X (not b))
  swapped X (inl m) = inr m
  swapped X (inr m) = inl m

  swapped_back : (X : Bool → List ℕ) → Of plus minus k (λ b. X (not b)) → Of minus plus k X
  swapped_back X (inl m) = inr m
  swapped_back X (inr m) = inl m

both_ways : (plus minus : Bool) (k : ℕ) (X : Bool → List ℕ)
    → Of (plus || minus) (plus || minus) k X
    → Of plus minus k (λ b. X true ++ X false)
both_ways plus minus k X (inl m) = from (or_cases plus minus m.0)
  where
    from : (plus ≡ true) ⊎ (minus ≡ true) → Of plus minus k (λ b. X true ++ X false)
    from (inl e) = inl (e, member-append_left k (X true) (X false) m.1)
    from (inr e) = inr (e, member-append_left k (X true) (X false) m.1)
both_ways plus minus k X (inr m) = from (or_cases plus minus m.0)
  where
    from : (plus ≡ true) ⊎ (minus ≡ true) → Of plus minus k (λ b. X true ++ X false)
    from (inl e) = inl (e, member-append_right k (X true) (X false) m.1)
    from (inr e) = inr (e, member-append_right k (X true) (X false) m.1)

some_way : (plus minus : Bool) (k : ℕ) (X : Bool → List ℕ)
    → Of plus minus k (λ b. X true ++ X false)
    → Of (plus || minus) (plus || minus) k X
some_way plus minus k X of = from of
  where
    part : (plus || minus) ≡ true → IsMember k (X true) ⊎ IsMember k (X false) → Of (plus || minus) (plus || minus) k X
    part e (inl i) = inl (e, i)
    part e (inr i) = inr (e, i)

    from : Of plus minus k (λ b. X true ++ X false) → Of (plus || minus) (plus || minus) k X
    from (inl m) = part (or_left plus minus m.0) (member-append k (X true) (X false) m.1)
    from (inr m) = part (or_right plus minus m.0) (member-append k (X true) (X false) m.1)

-- ---- an eventuality itself

abbrev own : ℕ → Formula → Bool → List ℕ
own i f b = keys_of (now i f b ∷ [])

module _ (k i : ℕ) (f g : Formula) where
  tense_to : (t : Tense) (plus minus : Bool)
      → IsMember k (own_tense t i plus minus)
      → Of plus minus k (own i (Temporal t f))
  tense_to tense.Next plus minus none = absurd none
  tense_to tense.Finally true minus (inl e) = inl (refl, inl (omega (arith, e)))
  tense_to tense.Finally true minus (inr none) = absurd none
  tense_to tense.Finally false minus none = absurd none
  tense_to tense.Globally plus true (inl e) = inr (refl, inl (omega (arith, e)))
  tense_to tense.Globally plus true (inr none) = absurd none
  tense_to tense.Globally plus false none = absurd none

  tense_from : (t : Tense) (plus minus : Bool)
      → Of plus minus k (own i (Temporal t f))
      → IsMember k (own_tense t i plus minus)
  tense_from tense.Next plus minus (inl m) = m.1
  tense_from tense.Next plus minus (inr m) = m.1
  tense_from tense.Finally true minus (inl (e, inl is)) = inl (omega (arith, is))
  tense_from tense.Finally true minus (inl (e, inr none)) = absurd none
  tense_from tense.Finally false minus (inl m) = absurd (false_true m.0)
  tense_from tense.Finally true minus (inr m) = absurd m.1
  tense_from tense.Finally false minus (inr m) = m.1
  tense_from tense.Globally plus true (inr (e, inl is)) = inl (omega (arith, is))
  tense_from tense.Globally plus true (inr (e, inr none)) = absurd none
  tense_from tense.Globally plus false (inr m) = absurd (false_true m.0)
  tense_from tense.Globally plus true (inl m) = absurd m.1
  tense_from tense.Globally plus false (inl m) = m.1

  pairing_to : (p : Pairing) (plus minus : Bool)
      → IsMember k (own_pairing p i plus minus)
      → Of plus minus k (own i (Paired p f g))
  pairing_to pairing.Until true minus (inl e) = inl (refl, inl (omega (arith, e)))
  pairing_to pairing.Until true minus (inr none) = absurd none
  pairing_to pairing.Until false minus none = absurd none
  pairing_to pairing.Release plus true (inl e) = inr (refl, inl (omega (arith, e)))
  pairing_to pairing.Release plus true (inr none) = absurd none
  pairing_to pairing.Release plus false none = absurd none
  pairing_to pairing.Weak plus true (inl e) = inr (refl, inl (omega (arith, e)))
  pairing_to pairing.Weak plus true (inr none) = absurd none
  pairing_to pairing.Weak plus false none = absurd none

  pairing_from : (p : Pairing) (plus minus : Bool)
      → Of plus minus k (own i (Paired p f g))
      → IsMember k (own_pairing p i plus minus)
  pairing_from pairing.Until true minus (inl (e, inl is)) = inl (omega (arith, is))
  pairing_from pairing.Until true minus (inl (e, inr none)) = absurd none
  pairing_from pairing.Until true minus (inr m) = absurd m.1
  pairing_from pairing.Until false minus (inl m) = absurd (false_true m.0)
  pairing_from pairing.Until false minus (inr m) = m.1
  pairing_from pairing.Release plus true (inr (e, inl is)) = inl (omega (arith, is))
  pairing_from pairing.Release plus true (inr (e, inr none)) = absurd none
  pairing_from pairing.Release plus true (inl m) = absurd m.1
  pairing_from pairing.Release plus false (inr m) = absurd (false_true m.0)
  pairing_from pairing.Release plus false (inl m) = m.1
  pairing_from pairing.Weak plus true (inr (e, inl is)) = inl (omega (arith, is))
  pairing_from pairing.Weak plus true (inr (e, inr none)) = absurd none
  pairing_from pairing.Weak plus true (inl m) = absurd m.1
  pairing_from pairing.Weak plus false (inr m) = absurd (false_true m.0)
  pairing_from pairing.Weak plus false (inl m) = m.1

-- ---- all that is gathered

-- in one of two lists
parts : {A : Type 0} (k : ℕ) (xs ys : List ℕ) → (IsMember k xs → A) → (IsMember k ys → A) → IsMember k (xs ++ ys) → A
parts {A = A} k xs ys a b m = from (member-append k xs ys m)
  where
    from : IsMember k xs ⊎ IsMember k ys → A
    from (inl i) = a i
    from (inr i) = b i

-- into one of two lists
whole : {A B : Type 0} (k : ℕ) (xs ys : List ℕ)
    → (A → IsMember k xs)
    → (B → IsMember k ys)
    → A ⊎ B
    → IsMember k (xs ++ ys)
whole k xs ys a b (inl i) = member-append_left k xs ys (a i)
whole k xs ys a b (inr i) = member-append_right k xs ys (b i)

abbrev side : ℕ → Formula → Bool → List ℕ
side i f b = keys i f b

two_iff : (i : ℕ) (f g : Formula) (b : Bool)
    → keys i (Binary operator.Iff f g) b
    ≡ (keys (i + 3) f true ++ keys (i + 3) f false)
    ++ (keys (i + 3 + occurrences f) g true ++ keys (i + 3 + occurrences f) g false)
two_iff i f g b =
    let l = i + 3 in
    let r = l + occurrences f in
    keys-append (items_within l f true ++ items_within l f false) (items_within r g true ++ items_within r g false)
    ∙ ap (λ xs. xs ++ keys_of (items_within r g true ++ items_within r g false))
    (keys-append (items_within l f true) (items_within l f false))
    ∙ ap (λ ys. (keys l f true ++ keys l f false) ++ ys) (keys-append (items_within r g true) (items_within r g false))

two_paired : (p : Pairing) (i : ℕ) (f g : Formula) (b : Bool)
    → keys i (Paired p f g) b ≡ own i (Paired p f g) b ++ (keys (i + 1) f b ++ keys (i + 1 + occurrences f) g b)
two_paired p i f g b =
    let l = items_within (i + 1) f b in
    let r = items_within (i + 1 + occurrences f) g b in
    keys-append (now i (Paired p f g) b ∷ []) (l ++ r)
    ∙ ap (λ ys. own i (Paired p f g) b ++ ys) (keys-append l r)

pub wanted_to : (i : ℕ) (f : Formula) (plus minus : Bool) (k : ℕ)
    → IsMember k (wanted i f plus minus)
    → Of plus minus k (keys i f)
wanted_to i (Const c) plus minus k none = absurd none
wanted_to i (Prop p) plus minus k none = absurd none
wanted_to i (Quantified q f) plus minus k none = absurd none
wanted_to i (Not f) plus minus k m = swapped plus minus k (keys (i + 1) f) (wanted_to (i + 1) f minus plus k m)
wanted_to i (Binary operator.And f g) plus minus k m =
    let r = i + 1 + occurrences f in
    changed plus minus k (λ b. keys (i + 1) f b ++ keys r g b) (keys i (Binary operator.And f g))
    (λ b. sym (keys-append (items_within (i + 1) f b) (items_within r g b)))
    (joined plus minus k (keys (i + 1) f) (keys r g)
    (parts k (wanted (i + 1) f plus minus) (wanted r g plus minus)
    (λ a. inl (wanted_to (i + 1) f plus minus k a)) (λ a. inr (wanted_to r g plus minus k a)) m))
wanted_to i (Binary operator.Or f g) plus minus k m =
    let r = i + 1 + occurrences f in
    changed plus minus k (λ b. keys (i + 1) f b ++ keys r g b) (keys i (Binary operator.Or f g))
    (λ b. sym (keys-append (items_within (i + 1) f b) (items_within r g b)))
    (joined plus minus k (keys (i + 1) f) (keys r g)
    (parts k (wanted (i + 1) f plus minus) (wanted r g plus minus)
    (λ a. inl (wanted_to (i + 1) f plus minus k a)) (λ a. inr (wanted_to r g plus minus k a)) m))
wanted_to i (Binary operator.Implies f g) plus minus k m =
    let r = i + 1 + occurrences f in
    changed plus minus k (λ b. keys (i + 1) f (not b) ++ keys r g b) (keys i (Binary operator.Implies f g))
    (λ b. sym (keys-append (items_within (i + 1) f (not b)) (items_within r g b)))
    (joined plus minus k (λ b. keys (i + 1) f (not b)) (keys r g)
    (parts k (wanted (i + 1) f minus plus) (wanted r g plus minus)
    (λ a. inl (swapped plus minus k (keys (i + 1) f) (wanted_to (i + 1) f minus plus k a)))
    (λ a. inr (wanted_to r g plus minus k a)) m))
wanted_to i (Binary operator.Iff f g) plus minus k m =
    let l = i + 3 in
    let r = l + occurrences f in
    let some = plus || minus in
    changed plus minus k (λ b. (keys l f true ++ keys l f false) ++ (keys r g true ++ keys r g false))
    (keys i (Binary operator.Iff f g)) (λ b. sym (two_iff i f g b))
    (joined plus minus k (λ b. keys l f true ++ keys l f false) (λ b. keys r g true ++ keys r g false)
    (parts k (wanted l f some some) (wanted r g some some)
    (λ a. inl (both_ways plus minus k (keys l f) (wanted_to l f some some k a)))
    (λ a. inr (both_ways plus minus k (keys r g) (wanted_to r g some some k a))) m))
wanted_to i (Temporal t f) plus minus k m =
    changed plus minus k (λ b. own i (Temporal t f) b ++ keys (i + 1) f b) (keys i (Temporal t f))
    (λ b. sym (keys-append (now i (Temporal t f) b ∷ []) (items_within (i + 1) f b)))
    (joined plus minus k (own i (Temporal t f)) (keys (i + 1) f)
    (parts k (own_tense t i plus minus) (wanted (i + 1) f plus minus)
    (λ a. inl (tense_to k i f f t plus minus a)) (λ a. inr (wanted_to (i + 1) f plus minus k a)) m))
wanted_to i (Paired p f g) plus minus k m =
    let r = i + 1 + occurrences f in
    changed plus minus k (λ b. own i (Paired p f g) b ++ (keys (i + 1) f b ++ keys r g b)) (keys i (Paired p f g))
    (λ b. sym (two_paired p i f g b))
    (joined plus minus k (own i (Paired p f g)) (λ b. keys (i + 1) f b ++ keys r g b)
    (parts k (own_pairing p i plus minus) (wanted (i + 1) f plus minus ++ wanted r g plus minus)
    (λ a. inl (pairing_to k i f g p plus minus a))
    (λ n. inr (joined plus minus k (keys (i + 1) f) (keys r g)
    (parts k (wanted (i + 1) f plus minus) (wanted r g plus minus)
    (λ a. inl (wanted_to (i + 1) f plus minus k a)) (λ a. inr (wanted_to r g plus minus k a)) n))) m))

pub wanted_from : (i : ℕ) (f : Formula) (plus minus : Bool) (k : ℕ)
    → Of plus minus k (keys i f)
    → IsMember k (wanted i f plus minus)
wanted_from i (Const c) plus minus k (inl m) = m.1
wanted_from i (Const c) plus minus k (inr m) = m.1
wanted_from i (Prop p) plus minus k (inl m) = m.1
wanted_from i (Prop p) plus minus k (inr m) = m.1
wanted_from i (Quantified q f) plus minus k (inl m) = m.1
wanted_from i (Quantified q f) plus minus k (inr m) = m.1
wanted_from i (Not f) plus minus k of =
    wanted_from (i + 1) f minus plus k (swapped_back plus minus k (keys (i + 1) f) of)
wanted_from i (Binary operator.And f g) plus minus k of =
    let r = i + 1 + occurrences f in
    whole k (wanted (i + 1) f plus minus) (wanted r g plus minus)
    (λ a. wanted_from (i + 1) f plus minus k a) (λ a. wanted_from r g plus minus k a)
    (split plus minus k (keys (i + 1) f) (keys r g)
    (changed plus minus k (keys i (Binary operator.And f g)) (λ b. keys (i + 1) f b ++ keys r g b)
    (λ b. keys-append (items_within (i + 1) f b) (items_within r g b)) of))
wanted_from i (Binary operator.Or f g) plus minus k of =
    let r = i + 1 + occurrences f in
    whole k (wanted (i + 1) f plus minus) (wanted r g plus minus)
    (λ a. wanted_from (i + 1) f plus minus k a) (λ a. wanted_from r g plus minus k a)
    (split plus minus k (keys (i + 1) f) (keys r g)
    (changed plus minus k (keys i (Binary operator.Or f g)) (λ b. keys (i + 1) f b ++ keys r g b)
    (λ b. keys-append (items_within (i + 1) f b) (items_within r g b)) of))
wanted_from i (Binary operator.Implies f g) plus minus k of =
    let r = i + 1 + occurrences f in
    whole k (wanted (i + 1) f minus plus) (wanted r g plus minus)
    (λ a. wanted_from (i + 1) f minus plus k (swapped_back plus minus k (keys (i + 1) f) a))
    (λ a. wanted_from r g plus minus k a)
    (split plus minus k (λ b. keys (i + 1) f (not b)) (keys r g)
    (changed plus minus k (keys i (Binary operator.Implies f g)) (λ b. keys (i + 1) f (not b) ++ keys r g b)
    (λ b. keys-append (items_within (i + 1) f (not b)) (items_within r g b)) of))
wanted_from i (Binary operator.Iff f g) plus minus k of =
    let l = i + 3 in
    let r = l + occurrences f in
    let some = plus || minus in
    whole k (wanted l f some some) (wanted r g some some)
    (λ a. wanted_from l f some some k (some_way plus minus k (keys l f) a))
    (λ a. wanted_from r g some some k (some_way plus minus k (keys r g) a))
    (split plus minus k (λ b. keys l f true ++ keys l f false) (λ b. keys r g true ++ keys r g false)
    (changed plus minus k (keys i (Binary operator.Iff f g))
    (λ b. (keys l f true ++ keys l f false) ++ (keys r g true ++ keys r g false)) (λ b. two_iff i f g b) of))
wanted_from i (Temporal t f) plus minus k of =
    whole k (own_tense t i plus minus) (wanted (i + 1) f plus minus)
    (λ a. tense_from k i f f t plus minus a) (λ a. wanted_from (i + 1) f plus minus k a)
    (split plus minus k (own i (Temporal t f)) (keys (i + 1) f)
    (changed plus minus k (keys i (Temporal t f)) (λ b. own i (Temporal t f) b ++ keys (i + 1) f b)
    (λ b. keys-append (now i (Temporal t f) b ∷ []) (items_within (i + 1) f b)) of))
wanted_from i (Paired p f g) plus minus k of =
    let r = i + 1 + occurrences f in
    whole k (own_pairing p i plus minus) (wanted (i + 1) f plus minus ++ wanted r g plus minus)
    (λ a. pairing_from k i f g p plus minus a)
    (λ n. whole k (wanted (i + 1) f plus minus) (wanted r g plus minus)
    (λ a. wanted_from (i + 1) f plus minus k a) (λ a. wanted_from r g plus minus k a)
    (split plus minus k (keys (i + 1) f) (keys r g) n))
    (split plus minus k (own i (Paired p f g)) (λ b. keys (i + 1) f b ++ keys r g b)
    (changed plus minus k (keys i (Paired p f g)) (λ b. own i (Paired p f g) b ++ (keys (i + 1) f b ++ keys r g b))
    (λ b. two_paired p i f g b) of))

-- ---- their order

abbrev Within : ℕ → ℕ → ℕ → Type 0
Within i n k = (4 * i ≤ k) × (k < 4 * (i + n))

tense_within : (t : Tense) (i n : ℕ) (plus minus : Bool) (k : ℕ)
    → IsMember k (own_tense t i plus minus)
    → Within i (n + 1) k × (k < 4 * (i + 1))
tense_within tense.Next i n plus minus k none = absurd none
tense_within tense.Finally i n true minus k (inl e) = ((omega (arith, e), omega (arith, e)), omega (arith, e))
tense_within tense.Finally i n true minus k (inr none) = absurd none
tense_within tense.Finally i n false minus k none = absurd none
tense_within tense.Globally i n plus true k (inl e) = ((omega (arith, e), omega (arith, e)), omega (arith, e))
tense_within tense.Globally i n plus true k (inr none) = absurd none
tense_within tense.Globally i n plus false k none = absurd none

pairing_within : (p : Pairing) (i n : ℕ) (plus minus : Bool) (k : ℕ)
    → IsMember k (own_pairing p i plus minus)
    → Within i (n + 1) k × (k < 4 * (i + 1))
pairing_within pairing.Until i n true minus k (inl e) = ((omega (arith, e), omega (arith, e)), omega (arith, e))
pairing_within pairing.Until i n true minus k (inr none) = absurd none
pairing_within pairing.Until i n false minus k none = absurd none
pairing_within pairing.Release i n plus true k (inl e) = ((omega (arith, e), omega (arith, e)), omega (arith, e))
pairing_within pairing.Release i n plus true k (inr none) = absurd none
pairing_within pairing.Release i n plus false k none = absurd none
pairing_within pairing.Weak i n plus true k (inl e) = ((omega (arith, e), omega (arith, e)), omega (arith, e))
pairing_within pairing.Weak i n plus true k (inr none) = absurd none
pairing_within pairing.Weak i n plus false k none = absurd none

wider : (i n j m k : ℕ) → i ≤ j → j + m ≤ i + n → Within j m k → Within i n k
wider i n j m k low high w = (omega (arith, low, w.0), omega (arith, high, w.1))

pub wanted_within : (i : ℕ) (f : Formula) (plus minus : Bool) (k : ℕ)
    → IsMember k (wanted i f plus minus)
    → Within i (occurrences f) k
wanted_within i (Const c) plus minus k none = absurd none
wanted_within i (Prop p) plus minus k none = absurd none
wanted_within i (Quantified q f) plus minus k none = absurd none
wanted_within i (Not f) plus minus k m =
    wider i (1 + occurrences f) (i + 1) (occurrences f) k (omega arith) (omega arith)
    (wanted_within (i + 1) f minus plus k m)
wanted_within i (Binary operator.And f g) plus minus k m =
    let l = i + 1 in
    let r = l + occurrences f in
    let n = 1 + occurrences f + occurrences g in
    parts k (wanted l f plus minus) (wanted r g plus minus)
    (λ a. wider i n l (occurrences f) k (omega arith) (omega arith) (wanted_within l f plus minus k a))
    (λ a. wider i n r (occurrences g) k (omega arith) (omega arith) (wanted_within r g plus minus k a)) m
wanted_within i (Binary operator.Or f g) plus minus k m =
    let l = i + 1 in
    let r = l + occurrences f in
    let n = 1 + occurrences f + occurrences g in
    parts k (wanted l f plus minus) (wanted r g plus minus)
    (λ a. wider i n l (occurrences f) k (omega arith) (omega arith) (wanted_within l f plus minus k a))
    (λ a. wider i n r (occurrences g) k (omega arith) (omega arith) (wanted_within r g plus minus k a)) m
wanted_within i (Binary operator.Implies f g) plus minus k m =
    let l = i + 1 in
    let r = l + occurrences f in
    let n = 1 + occurrences f + occurrences g in
    parts k (wanted l f minus plus) (wanted r g plus minus)
    (λ a. wider i n l (occurrences f) k (omega arith) (omega arith) (wanted_within l f minus plus k a))
    (λ a. wider i n r (occurrences g) k (omega arith) (omega arith) (wanted_within r g plus minus k a)) m
wanted_within i (Binary operator.Iff f g) plus minus k m =
    let l = i + 3 in
    let r = l + occurrences f in
    let n = 3 + occurrences f + occurrences g in
    let some = plus || minus in
    parts k (wanted l f some some) (wanted r g some some)
    (λ a. wider i n l (occurrences f) k (omega arith) (omega arith) (wanted_within l f some some k a))
    (λ a. wider i n r (occurrences g) k (omega arith) (omega arith) (wanted_within r g some some k a)) m
wanted_within i (Temporal t f) plus minus k m =
    let n = 1 + occurrences f in
    parts k (own_tense t i plus minus) (wanted (i + 1) f plus minus)
    (λ a. wider i n i (occurrences f + 1) k (omega arith) (omega arith)
    (tense_within t i (occurrences f) plus minus k a).0)
    (λ a. wider i n (i + 1) (occurrences f) k (omega arith) (omega arith) (wanted_within (i + 1) f plus minus k a)) m
wanted_within i (Paired p f g) plus minus k m =
    let l = i + 1 in
    let r = l + occurrences f in
    let n = 1 + occurrences f + occurrences g in
    parts k (own_pairing p i plus minus) (wanted l f plus minus ++ wanted r g plus minus)
    (λ a. wider i n i (occurrences f + occurrences g + 1) k (omega arith) (omega arith)
    (pairing_within p i (occurrences f + occurrences g) plus minus k a).0)
    (λ b. parts k (wanted l f plus minus) (wanted r g plus minus)
    (λ a. wider i n l (occurrences f) k (omega arith) (omega arith) (wanted_within l f plus minus k a))
    (λ a. wider i n r (occurrences g) k (omega arith) (omega arith) (wanted_within r g plus minus k a)) b) m

-- a list that ascends, and behind it a higher one
ascends_with : (c : ℕ) (xs ys : List ℕ)
    → IsAscending xs
    → IsAscending ys
    → ((k : ℕ) → IsMember k xs → k < c)
    → ((k : ℕ) → IsMember k ys → c ≤ k)
    → IsAscending (xs ++ ys)
ascends_with c [] ys up also low high = also
ascends_with c (x ∷ xs) ys up also low high = (
  λ k m. parts k xs ys (up.0 k) (λ a. let x_low = low x (inl refl) in let k_high = high k a in omega (arith, x_low, k_high)) m,
  ascends_with c xs ys up.1 also (λ k m. low k (inr m)) high,
)

tense_ascends : (t : Tense) (i : ℕ) (plus minus : Bool) → IsAscending (own_tense t i plus minus)
tense_ascends tense.Next i plus minus = tt
tense_ascends tense.Finally i true minus = ((λ y none. absurd none), tt)
tense_ascends tense.Finally i false minus = tt
tense_ascends tense.Globally i plus true = ((λ y none. absurd none), tt)
tense_ascends tense.Globally i plus false = tt

pairing_ascends : (p : Pairing) (i : ℕ) (plus minus : Bool) → IsAscending (own_pairing p i plus minus)
pairing_ascends pairing.Until i true minus = ((λ y none. absurd none), tt)
pairing_ascends pairing.Until i false minus = tt
pairing_ascends pairing.Release i plus true = ((λ y none. absurd none), tt)
pairing_ascends pairing.Release i plus false = tt
pairing_ascends pairing.Weak i plus true = ((λ y none. absurd none), tt)
pairing_ascends pairing.Weak i plus false = tt

-- of two operands, one behind the other
two_ascend : (l : ℕ) (f g : Formula) (p m q n : Bool)
    → IsAscending (wanted l f p m)
    → IsAscending (wanted (l + occurrences f) g q n)
    → IsAscending (wanted l f p m ++ wanted (l + occurrences f) g q n)
two_ascend l f g p m q n up also =
    ascends_with (4 * (l + occurrences f)) (wanted l f p m) (wanted (l + occurrences f) g q n) up also
    (λ k a. (wanted_within l f p m k a).1) (λ k a. (wanted_within (l + occurrences f) g q n k a).0)

pub wanted_ascends : (i : ℕ) (f : Formula) (plus minus : Bool) → IsAscending (wanted i f plus minus)
wanted_ascends i (Const c) plus minus = tt
wanted_ascends i (Prop p) plus minus = tt
wanted_ascends i (Quantified q f) plus minus = tt
wanted_ascends i (Not f) plus minus = wanted_ascends (i + 1) f minus plus
wanted_ascends i (Binary operator.And f g) plus minus =
    two_ascend (i + 1) f g plus minus plus minus (wanted_ascends (i + 1) f plus minus)
    (wanted_ascends (i + 1 + occurrences f) g plus minus)
wanted_ascends i (Binary operator.Or f g) plus minus =
    two_ascend (i + 1) f g plus minus plus minus (wanted_ascends (i + 1) f plus minus)
    (wanted_ascends (i + 1 + occurrences f) g plus minus)
wanted_ascends i (Binary operator.Implies f g) plus minus =
    two_ascend (i + 1) f g minus plus plus minus (wanted_ascends (i + 1) f minus plus)
    (wanted_ascends (i + 1 + occurrences f) g plus minus)
wanted_ascends i (Binary operator.Iff f g) plus minus =
    let some = plus || minus in
    two_ascend (i + 3) f g some some some some (wanted_ascends (i + 3) f some some)
    (wanted_ascends (i + 3 + occurrences f) g some some)
wanted_ascends i (Temporal t f) plus minus =
    ascends_with (4 * (i + 1)) (own_tense t i plus minus) (wanted (i + 1) f plus minus) (tense_ascends t i plus minus)
    (wanted_ascends (i + 1) f plus minus) (λ k a. (tense_within t i 0 plus minus k a).1)
    (λ k a. (wanted_within (i + 1) f plus minus k a).0)
wanted_ascends i (Paired p f g) plus minus =
    let l = i + 1 in
    let r = l + occurrences f in
    ascends_with (4 * (i + 1)) (own_pairing p i plus minus) (wanted l f plus minus ++ wanted r g plus minus)
    (pairing_ascends p i plus minus)
    (two_ascend l f g plus minus plus minus (wanted_ascends l f plus minus) (wanted_ascends r g plus minus))
    (λ k a. (pairing_within p i 0 plus minus k a).1)
    (λ k a. parts k (wanted l f plus minus) (wanted r g plus minus) (λ b. (wanted_within l f plus minus k b).0)
    (λ b. let w = (wanted_within r g plus minus k b).0 in omega (arith, w)) a)

pub eventualities_same : (i : ℕ) (f : Formula) (b : Bool) → eventualities_here i f (Some b) ≡ eventualities (now i f b)
eventualities_same i f true =
    ascending_same (wanted i f true false) (ascending (keys i f true)) (wanted_ascends i f true false)
    (ascending-is (keys i f true))
    (λ k m. member-ascending k (keys i f true) (first k (wanted_to i f true false k m)))
    (λ k m. wanted_from i f true false k (inl (refl, ascending-member k (keys i f true) m)))
  where
    first : (k : ℕ) → Of true false k (keys i f) → IsMember k (keys i f true)
    first k (inl m) = m.1
    first k (inr m) = let wrong = m.0 in absurd (cc)
eventualities_same i f false =
    ascending_same (wanted i f false true) (ascending (keys i f false)) (wanted_ascends i f false true)
    (ascending-is (keys i f false))
    (λ k m. member-ascending k (keys i f false) (second k (wanted_to i f false true k m)))
    (λ k m. wanted_from i f false true k (inr (refl, ascending-member k (keys i f false) m)))
  where
    second : (k : ℕ) → Of false true k (keys i f) → IsMember k (keys i f false)
    second k (inr m) = m.1
    second k (inl m) = let wrong = m.0 in absurd (cc)
