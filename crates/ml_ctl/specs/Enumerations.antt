-- Enumerations: exactly one of some propositions is true, at each moment.
--
-- The formulas are made by halves of the list, so that few occurrences are enough. The number k in `none_in k` and `one_in k`
-- says only how often a list may be cut on the way to one proposition; its length is enough.
--
--   first_half ps, second_half ps == a list in two parts, of which the first is the larger one, where they differ
--   none_in k ps, none ps  == none of ps is true: `!p` of a single one; of more, with the halves A and B, `(none A & none B)`
--   one_in k ps, one ps    == exactly one of ps is true: `p` of a single one; of more, with the halves A and B,
--                             `((one A & none B) | (none A & one B))`
--   always w f             == f holds at each moment: `G f` in LTL, `A G f` in CTL*
--   enumeration w ps       == exactly one of ps is true at each moment
--   ArePropositions ps     == the words ps may stand as propositions
use Rattle.std.specs.Prelude.{ℕ, zero, suc, ◌+◌, ◌/◌, ◌≡◌, true, false, List, [], ◌∷◌, length, take, drop}
use Rattle.std.specs.List.{AllByRecursion}
use Rattle.ml_text.specs.declared.token.Operator.TheVariants.{And, Or}
use Rattle.ml_ctl.specs.Formula.{Binary, Const, Formula, Not, Prop, Quantified, Temporal}
use Rattle.ml_ctl.specs.Spelling.{is_proposition}
use Rattle.ml_ctl.specs.declared.language.Language.{Language}
use Rattle.ml_ctl.specs.declared.language.Language.TheVariants.{Ctl, Ltl}
use Rattle.ml_ctl.specs.declared.term.Quantifier.TheVariants.{Forall}
use Rattle.ml_ctl.specs.declared.term.Tense.TheVariants.{Globally}

abbrev pub first_half : List (List ℕ) → List (List ℕ)
first_half ps = take ((length ps + 1) / 2) ps

abbrev pub second_half : List (List ℕ) → List (List ℕ)
second_half ps = drop ((length ps + 1) / 2) ps

abbrev pub none_in : ℕ → List (List ℕ) → Formula
none_in k [] = Const true
none_in k (p ∷ []) = Not (Prop p)
none_in zero (p ∷ q ∷ ps) = Const true
none_in (suc k) (p ∷ q ∷ ps) =
    Binary And (none_in k (first_half (p ∷ q ∷ ps))) (none_in k (second_half (p ∷ q ∷ ps)))

abbrev pub none : List (List ℕ) → Formula
none ps = none_in (length ps) ps

abbrev pub one_in : ℕ → List (List ℕ) → Formula
one_in k [] = Const false
one_in k (p ∷ []) = Prop p
one_in zero (p ∷ q ∷ ps) = Const true
one_in (suc k) (p ∷ q ∷ ps) =
    Binary Or
    (Binary And (one_in k (first_half (p ∷ q ∷ ps))) (none_in k (second_half (p ∷ q ∷ ps))))
    (Binary And (none_in k (first_half (p ∷ q ∷ ps))) (one_in k (second_half (p ∷ q ∷ ps))))

abbrev pub one : List (List ℕ) → Formula
one ps = one_in (length ps) ps

abbrev pub always : Language → Formula → Formula
always Ctl f = Quantified Forall (Temporal Globally f)
always Ltl f = Temporal Globally f

abbrev pub enumeration : Language → List (List ℕ) → Formula
enumeration w ps = always w (one ps)

abbrev pub ArePropositions : List (List ℕ) → Type 0
ArePropositions ps = AllByRecursion (λ p. is_proposition p ≡ true) ps
