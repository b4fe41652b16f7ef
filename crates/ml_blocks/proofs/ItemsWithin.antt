-- The items that come of a formula: each stands for an occurrence in it, keys tell them apart, and what comes of one of
-- them is another.
--
--   StandsAt i f j g     == g is the formula at the occurrence j in f, which is at i, outside of quantifiers
--   stands_at_within     == j is an occurrence of f
--   stands_alone         == one formula stands at an occurrence
--   within_stands        == an item that comes of f stands for an occurrence in it
--   Follows y x          == y is an item of the row of x, or what an X asks of the next place
--   within_closed        == what follows an item that comes of f comes of f
--   IsOf first x         == the item x, now or put off, comes of the item `first`
--   same_key             == among these, equal keys are those of equal items
use Rattle.std.proofs.Common.{ℕ, ◌≡◌, ◌+◌, ◌<◌, ◌≤◌, ◌⊎◌, inl, inr, arith, true, false, cond, Bool, not, List, ◌++◌, refl, sym, ap, subst, ◌∙◌}
use Rattle.ml_lists.specs.Member.{IsMember}
use Rattle.ml_lists.proofs.Member.{member-append}
use Rattle.ml_text.specs.declared.token.Operator.{Operator}
use Rattle.ml_text.specs.declared.token.Operator.TheVariants as operator
use Rattle.ml_text.specs.Operators.{weight}
use Rattle.ml_ctl.specs.Formula as plain
use Rattle.ml_ctl.specs.Formula.{Formula, occurrences}
use Rattle.ml_ctl.specs.declared.term.Tense.{Tense}
use Rattle.ml_ctl.specs.declared.term.Pairing.{Pairing}
use Rattle.ml_blocks.specs.Items.{Item, now}
use Rattle.ml_blocks.specs.ItemSets.{key, due, items_within}
use Rattle.ml_blocks.proofs.RowsOfItems.{item}

pub data StandsAt : ℕ → Formula → ℕ → Formula → Type 0 where
  here : (i : ℕ) (f : Formula) (j : ℕ) (g : Formula) → j ≡ i → g ≡ f → StandsAt i f j g
  under_not : (i : ℕ) (f : Formula) (j : ℕ) (g : Formula) → StandsAt (i + 1) f j g → StandsAt i (plain.Not f) j g
  under_tense : (t : Tense) (i : ℕ) (f : Formula) (j : ℕ) (g : Formula)
      → StandsAt (i + 1) f j g
      → StandsAt i (plain.Temporal t f) j g
  at_left : (op : Operator) (i : ℕ) (f h : Formula) (j : ℕ) (g : Formula)
      → StandsAt (i + weight op) f j g
      → StandsAt i (plain.Binary op f h) j g
  at_right : (op : Operator) (i : ℕ) (f h : Formula) (j : ℕ) (g : Formula)
      → StandsAt (i + weight op + occurrences f) h j g
      → StandsAt i (plain.Binary op f h) j g
  before : (p : Pairing) (i : ℕ) (f h : Formula) (j : ℕ) (g : Formula)
      → StandsAt (i + 1) f j g
      → StandsAt i (plain.Paired p f h) j g
  behind : (p : Pairing) (i : ℕ) (f h : Formula) (j : ℕ) (g : Formula)
      → StandsAt (i + 1 + occurrences f) h j g
      → StandsAt i (plain.Paired p f h) j g

pub some_symbol : (f : Formula) → 0 < occurrences f
some_symbol (plain.Const b) = omega arith
some_symbol (plain.Prop p) = omega arith
some_symbol (plain.Not f) = omega arith
some_symbol (plain.Binary operator.Iff f g) = omega arith
some_symbol (plain.Binary operator.Implies f g) = omega arith
some_symbol (plain.Binary operator.Or f g) = omega arith
some_symbol (plain.Binary operator.And f g) = omega arith
some_symbol (plain.Temporal t f) = omega arith
some_symbol (plain.Paired p f g) = omega arith
some_symbol (plain.Quantified q f) = omega arith

pub some_weight : (op : Operator) → 0 < weight op
some_weight operator.Iff = omega arith
some_weight operator.Implies = omega arith
some_weight operator.Or = omega arith
some_weight operator.And = omega arith

pub stands_at_within : (i : ℕ) (f : Formula) (j : ℕ) (g : Formula)
    → StandsAt i f j g
    → (i ≤ j) × (j < i + occurrences f)
stands_at_within i f _ _ (here _ _ j g at is) = let some = some_symbol f in (omega (arith, at), omega (arith, at, some))
stands_at_within i _ j g (under_not _ f _ _ s) =
    let r = stands_at_within (i + 1) f j g s in (omega (arith, r.0), omega (arith, r.1))
stands_at_within i _ j g (under_tense t _ f _ _ s) =
    let r = stands_at_within (i + 1) f j g s in (omega (arith, r.0), omega (arith, r.1))
stands_at_within i _ j g (at_left op _ f h _ _ s) =
    let r = stands_at_within (i + weight op) f j g s in (omega (arith, r.0), omega (arith, r.1))
stands_at_within i _ j g (at_right op _ f h _ _ s) =
    let r = stands_at_within (i + weight op + occurrences f) h j g s in (omega (arith, r.0), omega (arith, r.1))
stands_at_within i _ j g (before p _ f h _ _ s) =
    let r = stands_at_within (i + 1) f j g s in (omega (arith, r.0), omega (arith, r.1))
stands_at_within i _ j g (behind p _ f h _ _ s) =
    let r = stands_at_within (i + 1 + occurrences f) h j g s in (omega (arith, r.0), omega (arith, r.1))

-- an occurrence behind the one at i isn't that at i
later_only : {A : Type 0} (i k j : ℕ) (f g : Formula) → j ≡ i → i < k → StandsAt k f j g → A
later_only i k j f g at low s = let r = stands_at_within k f j g s in absurd (omega (arith, at, low, r.0))

-- no occurrence is in two operands
apart : {A : Type 0} (k : ℕ) (f h : Formula) (j : ℕ) (g e : Formula)
    → StandsAt k f j g
    → StandsAt (k + occurrences f) h j e
    → A
apart k f h j g e s t =
    let a = stands_at_within k f j g s in
    let b = stands_at_within (k + occurrences f) h j e t in
    absurd (omega (arith, a.1, b.0))

pub stands_alone : (i : ℕ) (f : Formula) (j : ℕ) (g e : Formula) → StandsAt i f j g → StandsAt i f j e → g ≡ e
stands_alone i f j g e (here _ _ _ _ at is) (here _ _ _ _ also was) = is ∙ sym was
stands_alone i _ j g e (here _ _ _ _ at is) (under_not _ f _ _ t) = later_only i (i + 1) j f e at (omega arith) t
stands_alone i _ j g e (here _ _ _ _ at is) (under_tense q _ f _ _ t) = later_only i (i + 1) j f e at (omega arith) t
stands_alone i _ j g e (here _ _ _ _ at is) (at_left op _ f h _ _ t) =
    let some = some_weight op in later_only i (i + weight op) j f e at (omega (arith, some)) t
stands_alone i _ j g e (here _ _ _ _ at is) (at_right op _ f h _ _ t) =
    let some = some_weight op in later_only i (i + weight op + occurrences f) j h e at (omega (arith, some)) t
stands_alone i _ j g e (here _ _ _ _ at is) (before p _ f h _ _ t) = later_only i (i + 1) j f e at (omega arith) t
stands_alone i _ j g e (here _ _ _ _ at is) (behind p _ f h _ _ t) =
    later_only i (i + 1 + occurrences f) j h e at (omega arith) t
stands_alone i _ j g e (under_not _ f _ _ s) (here _ _ _ _ at is) = later_only i (i + 1) j f g at (omega arith) s
stands_alone i _ j g e (under_tense q _ f _ _ s) (here _ _ _ _ at is) = later_only i (i + 1) j f g at (omega arith) s
stands_alone i _ j g e (at_left op _ f h _ _ s) (here _ _ _ _ at is) =
    let some = some_weight op in later_only i (i + weight op) j f g at (omega (arith, some)) s
stands_alone i _ j g e (at_right op _ f h _ _ s) (here _ _ _ _ at is) =
    let some = some_weight op in later_only i (i + weight op + occurrences f) j h g at (omega (arith, some)) s
stands_alone i _ j g e (before p _ f h _ _ s) (here _ _ _ _ at is) = later_only i (i + 1) j f g at (omega arith) s
stands_alone i _ j g e (behind p _ f h _ _ s) (here _ _ _ _ at is) =
    later_only i (i + 1 + occurrences f) j h g at (omega arith) s
stands_alone i _ j g e (under_not _ f _ _ s) (under_not _ _ _ _ t) = stands_alone (i + 1) f j g e s t
stands_alone i _ j g e (under_tense q _ f _ _ s) (under_tense _ _ _ _ _ t) = stands_alone (i + 1) f j g e s t
stands_alone i _ j g e (at_left op _ f h _ _ s) (at_left _ _ _ _ _ _ t) = stands_alone (i + weight op) f j g e s t
stands_alone i _ j g e (at_left op _ f h _ _ s) (at_right _ _ _ _ _ _ t) = apart (i + weight op) f h j g e s t
stands_alone i _ j g e (at_right op _ f h _ _ s) (at_left _ _ _ _ _ _ t) = apart (i + weight op) f h j e g t s
stands_alone i _ j g e (at_right op _ f h _ _ s) (at_right _ _ _ _ _ _ t) =
    stands_alone (i + weight op + occurrences f) h j g e s t
stands_alone i _ j g e (before p _ f h _ _ s) (before _ _ _ _ _ _ t) = stands_alone (i + 1) f j g e s t
stands_alone i _ j g e (before p _ f h _ _ s) (behind _ _ _ _ _ _ t) = apart (i + 1) f h j g e s t
stands_alone i _ j g e (behind p _ f h _ _ s) (before _ _ _ _ _ _ t) = apart (i + 1) f h j e g t s
stands_alone i _ j g e (behind p _ f h _ _ s) (behind _ _ _ _ _ _ t) = stands_alone (i + 1 + occurrences f) h j g e s t

-- ---- items that come of a formula

pub record IsOccurrence (i : ℕ) (f : Formula) (x : Item) : Type 0 where
  pub stands : StandsAt i f x.number x.formula
  pub is_now : x.later ≡ false

at_head : (i : ℕ) (f : Formula) (b : Bool) (x : Item) → x ≡ now i f b → IsOccurrence i f x
at_head i f b x e = subst (IsOccurrence i f) (sym e) (record { stands = here i f i f refl refl; is_now = refl })

-- in one of two lists
two_parts : {A : Type 0} (x : Item) (xs ys : List Item)
    → (IsMember x xs → A)
    → (IsMember x ys → A)
    → IsMember x (xs ++ ys)
    → A
two_parts {A = A} x xs ys a b m = from (member-append x xs ys m)
  where
    from : IsMember x xs ⊎ IsMember x ys → A
    from (inl i) = a i
    from (inr i) = b i

module _ (x : Item) where
  from_left : (op : Operator) (i : ℕ) (f h : Formula)
      → IsOccurrence (i + weight op) f x
      → IsOccurrence i (plain.Binary op f h) x
  from_left op i f h o = record { stands = at_left op i f h x.number x.formula o.stands; is_now = o.is_now }

  from_right : (op : Operator) (i : ℕ) (f h : Formula)
      → IsOccurrence (i + weight op + occurrences f) h x
      → IsOccurrence i (plain.Binary op f h) x
  from_right op i f h o = record { stands = at_right op i f h x.number x.formula o.stands; is_now = o.is_now }

pub within_stands : (i : ℕ) (f : Formula) (b : Bool) (x : Item) → IsMember x (items_within i f b) → IsOccurrence i f x
within_stands i (plain.Const c) b x (inl e) = at_head i (plain.Const c) b x e
within_stands i (plain.Const c) b x (inr none) = absurd none
within_stands i (plain.Prop p) b x (inl e) = at_head i (plain.Prop p) b x e
within_stands i (plain.Prop p) b x (inr none) = absurd none
within_stands i (plain.Quantified q f) b x (inl e) = at_head i (plain.Quantified q f) b x e
within_stands i (plain.Quantified q f) b x (inr none) = absurd none
within_stands i (plain.Not f) b x (inl e) = at_head i (plain.Not f) b x e
within_stands i (plain.Not f) b x (inr m) =
    let o = within_stands (i + 1) f (not b) x m in
    record { stands = under_not i f x.number x.formula o.stands; is_now = o.is_now }
within_stands i (plain.Temporal t f) b x (inl e) = at_head i (plain.Temporal t f) b x e
within_stands i (plain.Temporal t f) b x (inr m) =
    let o = within_stands (i + 1) f b x m in
    record { stands = under_tense t i f x.number x.formula o.stands; is_now = o.is_now }
within_stands i (plain.Paired p f g) b x (inl e) = at_head i (plain.Paired p f g) b x e
within_stands i (plain.Paired p f g) b x (inr m) =
    two_parts x (items_within (i + 1) f b) (items_within (i + 1 + occurrences f) g b)
    (λ a. let o = within_stands (i + 1) f b x a in
    record { stands = before p i f g x.number x.formula o.stands; is_now = o.is_now })
    (λ a. let o = within_stands (i + 1 + occurrences f) g b x a in
    record { stands = behind p i f g x.number x.formula o.stands; is_now = o.is_now }) m
within_stands i (plain.Binary operator.And f g) b x (inl e) = at_head i (plain.Binary operator.And f g) b x e
within_stands i (plain.Binary operator.And f g) b x (inr m) =
    two_parts x (items_within (i + 1) f b) (items_within (i + 1 + occurrences f) g b)
    (λ a. from_left x operator.And i f g (within_stands (i + 1) f b x a))
    (λ a. from_right x operator.And i f g (within_stands (i + 1 + occurrences f) g b x a)) m
within_stands i (plain.Binary operator.Or f g) b x (inl e) = at_head i (plain.Binary operator.Or f g) b x e
within_stands i (plain.Binary operator.Or f g) b x (inr m) =
    two_parts x (items_within (i + 1) f b) (items_within (i + 1 + occurrences f) g b)
    (λ a. from_left x operator.Or i f g (within_stands (i + 1) f b x a))
    (λ a. from_right x operator.Or i f g (within_stands (i + 1 + occurrences f) g b x a)) m
within_stands i (plain.Binary operator.Implies f g) b x (inl e) = at_head i (plain.Binary operator.Implies f g) b x e
within_stands i (plain.Binary operator.Implies f g) b x (inr m) =
    two_parts x (items_within (i + 1) f (not b)) (items_within (i + 1 + occurrences f) g b)
    (λ a. from_left x operator.Implies i f g (within_stands (i + 1) f (not b) x a))
    (λ a. from_right x operator.Implies i f g (within_stands (i + 1 + occurrences f) g b x a)) m
within_stands i (plain.Binary operator.Iff f g) b x (inl e) = at_head i (plain.Binary operator.Iff f g) b x e
within_stands i (plain.Binary operator.Iff f g) b x (inr m) =
    let l = i + 3 in let r = l + occurrences f in
    two_parts x (items_within l f true ++ items_within l f false) (items_within r g true ++ items_within r g false)
    (λ some. two_parts x (items_within l f true) (items_within l f false)
    (λ a. from_left x operator.Iff i f g (within_stands l f true x a))
    (λ a. from_left x operator.Iff i f g (within_stands l f false x a)) some)
    (λ some. two_parts x (items_within r g true) (items_within r g false)
    (λ a. from_right x operator.Iff i f g (within_stands r g true x a))
    (λ a. from_right x operator.Iff i f g (within_stands r g false x a)) some) m

-- the item now or put off comes of the item `first`
abbrev pub IsOf : Item → Item → Type 0
IsOf first x = IsMember (due x) (items_within first.number first.formula first.positive)

sign_bit : Bool → ℕ
sign_bit b = cond b 0 2

time_bit : Bool → ℕ
time_bit b = cond b 1 0

bits_apart : (b c d e : Bool) → cond b 0 2 + cond d 1 0 ≡ cond c 0 2 + cond e 1 0 → (b ≡ c) × (d ≡ e)
bits_apart true true true true same = (refl, refl)
bits_apart true true true false same = absurd (omega (arith, same))
bits_apart true true false true same = absurd (omega (arith, same))
bits_apart true true false false same = (refl, refl)
bits_apart true false true true same = absurd (omega (arith, same))
bits_apart true false true false same = absurd (omega (arith, same))
bits_apart true false false true same = absurd (omega (arith, same))
bits_apart true false false false same = absurd (omega (arith, same))
bits_apart false true true true same = absurd (omega (arith, same))
bits_apart false true true false same = absurd (omega (arith, same))
bits_apart false true false true same = absurd (omega (arith, same))
bits_apart false true false false same = absurd (omega (arith, same))
bits_apart false false true true same = (refl, refl)
bits_apart false false true false same = absurd (omega (arith, same))
bits_apart false false false true same = absurd (omega (arith, same))
bits_apart false false false false same = (refl, refl)

pub bits_low : (b d : Bool) → cond b 0 2 + cond d 1 0 < 4
bits_low true true = omega arith
bits_low true false = omega arith
bits_low false true = omega arith
bits_low false false = omega arith

same_items : (i : ℕ) (f g : Formula) (b c d e : Bool)
    → f ≡ g
    → b ≡ c
    → d ≡ e
    → item i f b d ≡ item i g c e
same_items i f g b c d e same_f same_b same_d =
    ap (λ h. item i h b d) same_f ∙ ap (λ h. item i g h d) same_b ∙ ap (λ h. item i g c h) same_d

pub same_key : (first x y : Item) → IsOf first x → IsOf first y → key x ≡ key y → x ≡ y
same_key first x y of_x of_y same =
    let low_x = bits_low x.positive x.later in
    let low_y = bits_low y.positive y.later in
    let number : x.number ≡ y.number = omega (arith, same, low_x, low_y) in
    let bits = bits_apart x.positive y.positive x.later y.later (omega (arith, same, number)) in
    let sx = (within_stands first.number first.formula first.positive (due x) of_x).stands in
    let sy = (within_stands first.number first.formula first.positive (due y) of_y).stands in
    let formula =
    stands_alone first.number first.formula x.number x.formula y.formula sx
    (subst (λ n. StandsAt first.number first.formula n y.formula) (sym number) sy) in
    same_items x.number x.formula y.formula x.positive y.positive x.later y.later formula bits.0 bits.1
    ∙ ap (λ n. item n y.formula y.positive y.later) number
