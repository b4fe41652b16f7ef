-- What is put off by a row is its item, and what an X asks of the next place is a now-item.
--
--   ways_later     == an item of a way of the row of x is a now-item, or x put off
--   behind_now     == what a waiting item asks of the next place is a now-item
--   next_now       == the same of all items that are left of a run
--   next_items_now == what is asked of the next place, where no item is open, is asked there as it stands
--   ways_smaller   == a now-item of a way has a smaller formula, and so has what an X asks
use Rattle.std.proofs.Common.{ℕ, ◌≡◌, ◌+◌, ◌<◌, ◌⊎◌, inl, inr, arith, true, false, Bool, not, List, [], ◌∷◌, refl, sym, ap, subst, ◌∙◌}
use Rattle.std.proofs.lemmas.Bool.{cond-true, cond-false}
use Rattle.ml_lists.specs.Member.{IsMember}
use Rattle.ml_text.specs.declared.token.Operator.TheVariants as operator
use Rattle.ml_ctl.specs.Formula as plain
use Rattle.ml_ctl.specs.Formula.{Formula, occurrences}
use Rattle.ml_ctl.specs.declared.term.Tense.TheVariants as tense
use Rattle.ml_ctl.specs.declared.term.Pairing.TheVariants as pairing
use Rattle.ml_blocks.specs.Items.{Item, Waits, row, now, put_off, behind_next}
use Rattle.ml_blocks.specs.ItemSets.{due, next_of, next_items}
use Rattle.ml_blocks.proofs.LocalRuns.{Takes, waiting}
use Rattle.ml_blocks.specs.Places.{is_open}
use Rattle.ml_blocks.proofs.RowsOfItems.{item}
use Rattle.ml_blocks.proofs.ItemSetMembers.{AreNow, next_items-member}

-- y is a now-item of a smaller formula than f, or x put off
abbrev pub Part : Formula → Item → Item → Type 0
Part f x y = ((y.later ≡ false) × (occurrences y.formula < occurrences f)) ⊎ (y ≡ put_off x)

module _ (f : Formula) (x : Item) where
  abbrev Parts : List Item → Type 0
  Parts ys = (y : Item) → IsMember y ys → Part f x y

  none_at_all : (ys : List Item) → ys ≡ [] → Parts ys
  none_at_all ys e y m = absurd (subst (IsMember y) e m)

  operand_alone : (i : ℕ) (g : Formula) (b : Bool) → occurrences g < occurrences f → Parts (now i g b ∷ [])
  operand_alone i g b low y (inl e) =
      inl (ap (λ z. z.later) e, subst (λ z. occurrences z.formula < occurrences f) (sym e) low)
  operand_alone i g b low y (inr none) = absurd none

  operand_and : (i : ℕ) (g : Formula) (b : Bool) (ys : List Item)
      → occurrences g < occurrences f
      → Parts ys
      → Parts (now i g b ∷ ys)
  operand_and i g b ys low rest y (inl e) =
      inl (ap (λ z. z.later) e, subst (λ z. occurrences z.formula < occurrences f) (sym e) low)
  operand_and i g b ys low rest y (inr m) = rest y m

  put_off_alone : Parts (put_off x ∷ [])
  put_off_alone y (inl e) = inr e
  put_off_alone y (inr none) = absurd none

  as_one : (ys zs : List Item) → ys ≡ zs → Parts zs → Parts ys
  as_one ys zs e parts = subst Parts (sym e) parts

  as_two : (ys zs ws : List Item) → (ys ≡ zs) ⊎ (ys ≡ ws) → Parts zs → Parts ws → Parts ys
  as_two ys zs ws (inl e) a b = subst Parts (sym e) a
  as_two ys zs ws (inr e) a b = subst Parts (sym e) b

  -- g with f, in one way
  two_operands : (i j : ℕ) (g h : Formula) (b c : Bool)
      → occurrences g < occurrences f
      → occurrences h < occurrences f
      → Parts (now i g b ∷ now j h c ∷ [])
  two_operands i j g h b c low also = operand_and i g b (now j h c ∷ []) low (operand_alone j h c also)

  with_put_off : (i : ℕ) (g : Formula) (b : Bool) → occurrences g < occurrences f → Parts (now i g b ∷ put_off x ∷ [])
  with_put_off i g b low = operand_and i g b (put_off x ∷ []) low put_off_alone

pub ways_parts : (i : ℕ) (f : Formula) (b t : Bool) (ys : List Item)
    → Takes (row (item i f b t)) ys
    → (y : Item)
    → IsMember y ys
    → Part f (item i f b t) y
ways_parts i (plain.Const c) b t ys e = none_at_all (plain.Const c) (item i (plain.Const c) b t) ys e
ways_parts i (plain.Prop p) b t ys e = none_at_all (plain.Prop p) (item i (plain.Prop p) b t) ys e
ways_parts i (plain.Quantified q f) b t ys e =
    none_at_all (plain.Quantified q f) (item i (plain.Quantified q f) b t) ys e
ways_parts i (plain.Not f) b t ys e =
    let h = plain.Not f in let x = item i h b t in
    as_one h x ys _ e (operand_alone h x (i + 1) f (not b) (omega arith))
ways_parts i (plain.Temporal tense.Next f) b t ys none = absurd none
ways_parts i (plain.Temporal tense.Finally f) true t ys e =
    let h = plain.Temporal tense.Finally f in let x = item i h true t in
    as_two h x ys _ _ e (operand_alone h x (i + 1) f true (omega arith)) (put_off_alone h x)
ways_parts i (plain.Temporal tense.Finally f) false t ys e =
    let h = plain.Temporal tense.Finally f in let x = item i h false t in
    as_one h x ys _ e (with_put_off h x (i + 1) f false (omega arith))
ways_parts i (plain.Temporal tense.Globally f) true t ys e =
    let h = plain.Temporal tense.Globally f in let x = item i h true t in
    as_one h x ys _ e (with_put_off h x (i + 1) f true (omega arith))
ways_parts i (plain.Temporal tense.Globally f) false t ys e =
    let h = plain.Temporal tense.Globally f in let x = item i h false t in
    as_two h x ys _ _ e (operand_alone h x (i + 1) f false (omega arith)) (put_off_alone h x)
ways_parts i (plain.Paired pairing.Until f g) true t ys e =
    let h = plain.Paired pairing.Until f g in let x = item i h true t in
    as_two h x ys _ _ e (operand_alone h x (i + 1 + occurrences f) g true (omega arith))
    (with_put_off h x (i + 1) f true (omega arith))
ways_parts i (plain.Paired pairing.Until f g) false t ys e =
    let h = plain.Paired pairing.Until f g in let x = item i h false t in
    as_two h x ys _ _ e
    (two_operands h x (i + 1 + occurrences f) (i + 1) g f false false (omega arith) (omega arith))
    (with_put_off h x (i + 1 + occurrences f) g false (omega arith))
ways_parts i (plain.Paired pairing.Weak f g) true t ys e =
    let h = plain.Paired pairing.Weak f g in let x = item i h true t in
    as_two h x ys _ _ e (operand_alone h x (i + 1 + occurrences f) g true (omega arith))
    (with_put_off h x (i + 1) f true (omega arith))
ways_parts i (plain.Paired pairing.Weak f g) false t ys e =
    let h = plain.Paired pairing.Weak f g in let x = item i h false t in
    as_two h x ys _ _ e
    (two_operands h x (i + 1 + occurrences f) (i + 1) g f false false (omega arith) (omega arith))
    (with_put_off h x (i + 1 + occurrences f) g false (omega arith))
ways_parts i (plain.Paired pairing.Release f g) true t ys e =
    let h = plain.Paired pairing.Release f g in let x = item i h true t in
    as_two h x ys _ _ e
    (two_operands h x (i + 1 + occurrences f) (i + 1) g f true true (omega arith) (omega arith))
    (with_put_off h x (i + 1 + occurrences f) g true (omega arith))
ways_parts i (plain.Paired pairing.Release f g) false t ys e =
    let h = plain.Paired pairing.Release f g in let x = item i h false t in
    as_two h x ys _ _ e (operand_alone h x (i + 1 + occurrences f) g false (omega arith))
    (with_put_off h x (i + 1) f false (omega arith))
ways_parts i (plain.Binary operator.And f g) true t ys e =
    let h = plain.Binary operator.And f g in let x = item i h true t in
    as_one h x ys _ e (two_operands h x (i + 1) (i + 1 + occurrences f) f g true true (omega arith) (omega arith))
ways_parts i (plain.Binary operator.And f g) false t ys e =
    let h = plain.Binary operator.And f g in let x = item i h false t in
    as_two h x ys _ _ e (operand_alone h x (i + 1) f false (omega arith))
    (operand_alone h x (i + 1 + occurrences f) g false (omega arith))
ways_parts i (plain.Binary operator.Or f g) true t ys e =
    let h = plain.Binary operator.Or f g in let x = item i h true t in
    as_two h x ys _ _ e (operand_alone h x (i + 1) f true (omega arith))
    (operand_alone h x (i + 1 + occurrences f) g true (omega arith))
ways_parts i (plain.Binary operator.Or f g) false t ys e =
    let h = plain.Binary operator.Or f g in let x = item i h false t in
    as_one h x ys _ e (two_operands h x (i + 1) (i + 1 + occurrences f) f g false false (omega arith) (omega arith))
ways_parts i (plain.Binary operator.Implies f g) true t ys e =
    let h = plain.Binary operator.Implies f g in let x = item i h true t in
    as_two h x ys _ _ e (operand_alone h x (i + 1) f false (omega arith))
    (operand_alone h x (i + 1 + occurrences f) g true (omega arith))
ways_parts i (plain.Binary operator.Implies f g) false t ys e =
    let h = plain.Binary operator.Implies f g in let x = item i h false t in
    as_one h x ys _ e (two_operands h x (i + 1) (i + 1 + occurrences f) f g true false (omega arith) (omega arith))
ways_parts i (plain.Binary operator.Iff f g) true t ys e =
    let h = plain.Binary operator.Iff f g in let x = item i h true t in
    as_two h x ys _ _ e
    (two_operands h x (i + 3) (i + 3 + occurrences f) f g true true (omega arith) (omega arith))
    (two_operands h x (i + 3) (i + 3 + occurrences f) f g false false (omega arith) (omega arith))
ways_parts i (plain.Binary operator.Iff f g) false t ys e =
    let h = plain.Binary operator.Iff f g in let x = item i h false t in
    as_two h x ys _ _ e
    (two_operands h x (i + 3) (i + 3 + occurrences f) f g true false (omega arith) (omega arith))
    (two_operands h x (i + 3) (i + 3 + occurrences f) f g false true (omega arith) (omega arith))

-- ---- X

abbrev Behind : Item → Type 0
Behind x = ((behind_next x).later ≡ false) × (occurrences (behind_next x).formula < occurrences x.formula)

pub behind_parts : (i : ℕ) (f : Formula) (b t : Bool) → row (item i f b t) ≡ Waits → Behind (item i f b t)
behind_parts i (plain.Temporal tense.Next f) b t e = (refl, omega arith)
behind_parts i (plain.Const c) b t e = absurd (cc)
behind_parts i (plain.Prop p) b t e = absurd (cc)
behind_parts i (plain.Quantified q f) b t e = absurd (cc)
behind_parts i (plain.Not f) b t e = absurd (cc)
behind_parts i (plain.Temporal tense.Finally f) true t e = absurd (cc)
behind_parts i (plain.Temporal tense.Finally f) false t e = absurd (cc)
behind_parts i (plain.Temporal tense.Globally f) true t e = absurd (cc)
behind_parts i (plain.Temporal tense.Globally f) false t e = absurd (cc)
behind_parts i (plain.Paired pairing.Until f g) true t e = absurd (cc)
behind_parts i (plain.Paired pairing.Until f g) false t e = absurd (cc)
behind_parts i (plain.Paired pairing.Weak f g) true t e = absurd (cc)
behind_parts i (plain.Paired pairing.Weak f g) false t e = absurd (cc)
behind_parts i (plain.Paired pairing.Release f g) true t e = absurd (cc)
behind_parts i (plain.Paired pairing.Release f g) false t e = absurd (cc)
behind_parts i (plain.Binary operator.And f g) true t e = absurd (cc)
behind_parts i (plain.Binary operator.And f g) false t e = absurd (cc)
behind_parts i (plain.Binary operator.Or f g) true t e = absurd (cc)
behind_parts i (plain.Binary operator.Or f g) false t e = absurd (cc)
behind_parts i (plain.Binary operator.Implies f g) true t e = absurd (cc)
behind_parts i (plain.Binary operator.Implies f g) false t e = absurd (cc)
behind_parts i (plain.Binary operator.Iff f g) true t e = absurd (cc)
behind_parts i (plain.Binary operator.Iff f g) false t e = absurd (cc)

pub next_later : (x : Item) → x.later ≡ true → next_of x ≡ due x
next_later x later = cond-true x.later (due x) (behind_next x) later

pub next_waits : (x : Item) → x.later ≡ false → next_of x ≡ behind_next x
next_waits x now = cond-false x.later (due x) (behind_next x) now

pub next_now : (x : Item) → is_open x ≡ false → (next_of x).later ≡ false
next_now x shut = from (waiting x shut)
  where
    from : (x.later ≡ true) ⊎ ((x.later ≡ false) × (row x ≡ Waits)) → (next_of x).later ≡ false
    from (inl later) = ap (λ y. y.later) (next_later x later)
    from (inr (now, waits)) =
        ap (λ y. y.later) (next_waits x now) ∙ (behind_parts x.number x.formula x.positive x.later waits).0

-- what is asked of the next place, where no item is open, is asked there as it stands
pub next_items_now : (xs : List Item)
    → ((x : Item) → IsMember x xs → is_open x ≡ false)
    → AreNow (next_items xs)
next_items_now xs shut v m =
    let found = next_items-member v xs m in ap (λ z. z.later) found.2 ∙ next_now found.0 (shut found.0 found.1)
