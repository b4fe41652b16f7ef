-- What a formula without quantifiers asks of a state: a constant or a proposition.
--
--   linear_within == what stands in such a formula is one
--   IsAtom f      == f is a constant or a proposition
--   atom_of       == so is each item of a state that comes of such a formula
use Rattle.std.proofs.Common.{ℕ, ◌≡◌, ◌+◌, ◌⊎◌, inl, inr, true, false, Bool, List, refl, ap, ◌∙◌}
use Rattle.std.proofs.lemmas.Bool.{and_parts, false≢true}
use Rattle.ml_text.specs.declared.token.Operator.TheVariants as operator
use Rattle.ml_ctl.specs.Formula as plain
use Rattle.ml_ctl.specs.Formula.{Formula}
use Rattle.ml_ctl.specs.Sorts.{is_linear}
use Rattle.ml_ctl.specs.declared.term.Tense.TheVariants as tense
use Rattle.ml_ctl.specs.declared.term.Pairing.TheVariants as pairing
use Rattle.ml_blocks.specs.Items.{Item, OfState, now, row}
use Rattle.ml_blocks.proofs.ItemsWithin.{IsOf, within_stands, StandsAt, here, under_not, under_tense, at_left, at_right, before, behind}
use Rattle.ml_blocks.proofs.RowsOfItems.{item}

linear_within : (i : ℕ) (f : Formula) (j : ℕ) (h : Formula) → StandsAt i f j h → is_linear f ≡ true → is_linear h ≡ true
linear_within i f j h (here _ _ _ _ at is) e = ap is_linear is ∙ e
linear_within i _ j h (under_not _ f _ _ s) e = linear_within (i + 1) f j h s e
linear_within i _ j h (under_tense t _ f _ _ s) e = linear_within (i + 1) f j h s e
linear_within i _ j h (at_left op _ f k _ _ s) e = linear_within _ f j h s (and_parts (is_linear f) (is_linear k) e).0
linear_within i _ j h (at_right op _ f k _ _ s) e = linear_within _ k j h s (and_parts (is_linear f) (is_linear k) e).1
linear_within i _ j h (before p _ f k _ _ s) e = linear_within _ f j h s (and_parts (is_linear f) (is_linear k) e).0
linear_within i _ j h (behind p _ f k _ _ s) e = linear_within _ k j h s (and_parts (is_linear f) (is_linear k) e).1

-- a constant, or a proposition
abbrev pub IsAtom : Formula → Type 0
IsAtom f = ((b : Bool) × (f ≡ plain.Const b)) ⊎ ((p : List ℕ) × (f ≡ plain.Prop p))

atom_row : (i : ℕ) (f : Formula) (b t : Bool) → is_linear f ≡ true → row (item i f b t) ≡ OfState → IsAtom f
atom_row i (plain.Const c) b t linear e = inl (c, refl)
atom_row i (plain.Prop p) b t linear e = inr (p, refl)
atom_row i (plain.Quantified q f) b t linear e = absurd (false≢true linear)
atom_row i (plain.Not f) b t linear e = absurd (cc)
atom_row i (plain.Temporal tense.Next f) b t linear e = absurd (cc)
atom_row i (plain.Temporal tense.Finally f) true t linear e = absurd (cc)
atom_row i (plain.Temporal tense.Finally f) false t linear e = absurd (cc)
atom_row i (plain.Temporal tense.Globally f) true t linear e = absurd (cc)
atom_row i (plain.Temporal tense.Globally f) false t linear e = absurd (cc)
atom_row i (plain.Paired pairing.Until f g) true t linear e = absurd (cc)
atom_row i (plain.Paired pairing.Until f g) false t linear e = absurd (cc)
atom_row i (plain.Paired pairing.Weak f g) true t linear e = absurd (cc)
atom_row i (plain.Paired pairing.Weak f g) false t linear e = absurd (cc)
atom_row i (plain.Paired pairing.Release f g) true t linear e = absurd (cc)
atom_row i (plain.Paired pairing.Release f g) false t linear e = absurd (cc)
atom_row i (plain.Binary operator.And f g) true t linear e = absurd (cc)
atom_row i (plain.Binary operator.And f g) false t linear e = absurd (cc)
atom_row i (plain.Binary operator.Or f g) true t linear e = absurd (cc)
atom_row i (plain.Binary operator.Or f g) false t linear e = absurd (cc)
atom_row i (plain.Binary operator.Implies f g) true t linear e = absurd (cc)
atom_row i (plain.Binary operator.Implies f g) false t linear e = absurd (cc)
atom_row i (plain.Binary operator.Iff f g) true t linear e = absurd (cc)
atom_row i (plain.Binary operator.Iff f g) false t linear e = absurd (cc)

pub atom_of : (i : ℕ) (f : Formula) (c : Bool) → is_linear f ≡ true → (x : Item)
    → IsOf (now i f c) x
    → row x ≡ OfState
    → IsAtom x.formula
atom_of i f c linear x of e =
    let stands = (within_stands i f c _ of).stands in
    atom_row x.number x.formula x.positive x.later (linear_within i f x.number x.formula stands linear) e
