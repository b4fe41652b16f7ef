-- Formulas of any logic, made of others.
--
--   both_logic, negation_logic, truth_logic, all_logic, joined_logic == of which logic they are
--   both_size, negation_size == how many occurrences they have
--   well_small   == a formula that the program holds isn't too large
--   all_grows    == formulas that are joined to others have no fewer occurrences
--   all_append   == to join formulas to one is to join the first ones, and then the others
--   joined_more, joined_grows == formulas joined with one more behind them; with others behind them they have no fewer
--                                occurrences
--   with_fits, with_joined, with_large == one formula more is joined to those that were joined so far
--   front_more   == a list begins with its first elements and the next one
use Rattle.std.proofs.Common.{◌≡◌, ◌≤◌, ◌<◌, ◌+◌, List, [], ◌∷◌, ◌++◌, drop, get_or, length, take, Option, None, Some, MatchOption, refl, sym, ap, subst, ◌∙◌, arith}
use Rattle.std.proofs.lemmas.List.{take-append-drop, take_more}
use Rattle.ml_text.specs.Limits.{most_occurrences}
use Rattle.ml_lists.proofs.AllOf.{all_parts}
use Rattle.ml_front.specs.Connectives.{all_of, both, joined, negation, occurrences, truth, AreOf}
use Rattle.ml_front.specs.Logics.{logic_of}
use Rattle.ml_front.specs.WellFormed.{IsWellFormed}
use Rattle.ml_front.specs.declared.logic.Logic.{Logic}
use Rattle.ml_front.specs.declared.logic.Logic.TheVariants as logic
use Rattle.ml_front.specs.declared.problem.AnyFormula.{AnyFormula}
use Rattle.ml_front.specs.declared.problem.AnyFormula.TheVariants.{Mu, Pdl, Ctl, Ltl, Word}
use Rattle.ml_front.specs.private.JoinedSoFar.{IsJoined, IsWith}

append_some : (fs : List AnyFormula) (g : AnyFormula) → fs ++ g ∷ [] ≡ [] → ⊥
append_some [] g e = cc
append_some (f ∷ fs) g e = cc

-- ---- their size

pub well_small : (f : AnyFormula) → IsWellFormed f → occurrences f ≤ most_occurrences
well_small (Mu f) well = well.is_small
well_small (Pdl f) well = well.is_small
well_small (Ctl f) well = well.is_small
well_small (Ltl f) well = well.is_small
well_small (Word f) well = well.is_small

-- ---- their logic

pub both_logic : (f g : AnyFormula) → logic_of (both f g) ≡ logic_of f
both_logic (Mu f) (Mu g) = refl
both_logic (Pdl f) (Pdl g) = refl
both_logic (Ctl f) (Ctl g) = refl
both_logic (Ltl f) (Ltl g) = refl
both_logic (Word f) (Word g) = refl
both_logic f g = refl

pub negation_logic : (f : AnyFormula) → logic_of (negation f) ≡ logic_of f
negation_logic (Mu f) = refl
negation_logic (Pdl f) = refl
negation_logic (Ctl f) = refl
negation_logic (Ltl f) = refl
negation_logic (Word f) = refl

pub truth_logic : (l : Logic) → logic_of (truth l) ≡ l
truth_logic logic.Mu = refl
truth_logic logic.Pdl = refl
truth_logic logic.Ctl = refl
truth_logic logic.Ltl = refl
truth_logic logic.Word = refl

pub all_logic : (f : AnyFormula) (gs : List AnyFormula) → logic_of (all_of f gs) ≡ logic_of f
all_logic f [] = refl
all_logic f (g ∷ gs) = all_logic (both f g) gs ∙ both_logic f g

pub joined_logic : (l : Logic) (fs : List AnyFormula) → AreOf l fs → logic_of (joined l fs) ≡ l
joined_logic l [] are = truth_logic l
joined_logic l (f ∷ fs) are = all_logic f fs ∙ are.0

-- ---- their size

pub both_size : (f g : AnyFormula) → logic_of f ≡ logic_of g → occurrences (both f g) ≡ occurrences f + (1 + occurrences g)
both_size (Mu f) (Mu g) e = omega arith
both_size (Pdl f) (Pdl g) e = omega arith
both_size (Ctl f) (Ctl g) e = omega arith
both_size (Ltl f) (Ltl g) e = omega arith
both_size (Word f) (Word g) e = omega arith
both_size f g e = cc

pub negation_size : (f : AnyFormula) → occurrences (negation f) ≡ 1 + occurrences f
negation_size (Mu f) = refl
negation_size (Pdl f) = refl
negation_size (Ctl f) = refl
negation_size (Ltl f) = refl
negation_size (Word f) = refl

both_grows : (f g : AnyFormula) → occurrences f ≤ occurrences (both f g)
both_grows (Mu f) (Mu g) = omega arith
both_grows (Pdl f) (Pdl g) = omega arith
both_grows (Ctl f) (Ctl g) = omega arith
both_grows (Ltl f) (Ltl g) = omega arith
both_grows (Word f) (Word g) = omega arith
both_grows f g = omega arith

pub all_grows : (f : AnyFormula) (gs : List AnyFormula) → occurrences f ≤ occurrences (all_of f gs)
all_grows f [] = omega arith
all_grows f (g ∷ gs) = omega (arith, both_grows f g, all_grows (both f g) gs)

-- ---- one more

pub all_append : (f : AnyFormula) (gs hs : List AnyFormula) → all_of f (gs ++ hs) ≡ all_of (all_of f gs) hs
all_append f [] hs = refl
all_append f (g ∷ gs) hs = all_append (both f g) gs hs

pub joined_more : (l : Logic) (fs : List AnyFormula) (g : AnyFormula)
    → ¬ (fs ≡ [])
    → joined l (fs ++ g ∷ []) ≡ both (joined l fs) g
joined_more l [] g some = absurd (some refl)
joined_more l (f ∷ fs) g some = all_append f fs (g ∷ [])

pub joined_grows : (l : Logic) (fs gs : List AnyFormula)
    → ¬ (fs ≡ [])
    → occurrences (joined l fs) ≤ occurrences (joined l (fs ++ gs))
joined_grows l [] gs some = absurd (some refl)
joined_grows l (f ∷ fs) gs some =
    subst (λ h. occurrences (all_of f fs) ≤ occurrences h) (sym (all_append f fs gs)) (all_grows (all_of f fs) gs)

-- ---- one formula after the other

pub with_joined : (l : Logic) (ys : List AnyFormula) (g : AnyFormula) (before made : Option AnyFormula) (more : AnyFormula)
    → IsJoined l ys before
    → IsWith before g made
    → made ≡ Some more
    → IsJoined l (ys ++ g ∷ []) (Some more)
with_joined l ys g None made more is one some =
    let same : more ≡ g = (let e : Some more ≡ Some g = sym some ∙ one in cc) in
    (same ∙ ap (λ hs. joined l (hs ++ g ∷ [])) (sym is), append_some ys g)
with_joined l ys g (Some f) made more is one some =
    let two = subst (λ o. MatchOption o (most_occurrences < occurrences (both f g)) (λ h. h ≡ both f g)) some one in
    (two ∙ ap (λ h. both h g) is.0 ∙ sym (joined_more l ys g is.1), append_some ys g)

-- the formulas begin with those that came and the next one
module _ (l : Logic) (xs ys zs : List AnyFormula) (g : AnyFormula) (whole : xs ≡ (ys ++ g ∷ []) ++ zs) where
  of_front : AreOf l xs → AreOf l ys × (logic_of g ≡ l)
  of_front are =
      let front = all_parts (λ f. logic_of f ≡ l) (ys ++ g ∷ []) zs (subst (AreOf l) whole are) in
      let parts = all_parts (λ f. logic_of f ≡ l) ys (g ∷ []) front.0 in
      (parts.0, parts.1.0)

  pub with_fits : (before : Option AnyFormula)
      → AreOf l xs
      → IsJoined l ys before
      → MatchOption before (Unit {0}) (λ f. logic_of f ≡ logic_of g)
  with_fits None are is = tt
  with_fits (Some f) are is =
      let of = of_front are in ap logic_of is.0 ∙ joined_logic l ys of.0 ∙ sym of.1

  pub with_large : (before made : Option AnyFormula)
      → IsJoined l ys before
      → IsWith before g made
      → made ≡ None
      → most_occurrences < occurrences (joined l xs)
  with_large None made is one none = let e : None ≡ Some g = sym none ∙ one in cc
  with_large (Some f) made is one none =
      let large = subst (λ o. MatchOption o (most_occurrences < occurrences (both f g)) (λ h. h ≡ both f g)) none one in
      let same : both f g ≡ joined l (ys ++ g ∷ []) = ap (λ h. both h g) is.0 ∙ sym (joined_more l ys g is.1) in
      let first : most_occurrences < occurrences (joined l (ys ++ g ∷ [])) =
      subst (λ h. most_occurrences < occurrences h) same large in
      let grows = joined_grows l (ys ++ g ∷ []) zs (append_some ys g) in
      subst (λ fs. most_occurrences < occurrences (joined l fs)) (sym whole) (omega (arith, first, grows))

pub front_more : {X : Type 0} (xs ys : List X) (g : X)
    → ys ≡ take (length ys) xs
    → (length ys < length xs) × (g ≡ get_or xs (length ys) g)
    → xs ≡ (ys ++ g ∷ []) ++ drop (length ys + 1) xs
front_more xs ys g front next =
    sym (take-append-drop (length ys + 1) xs)
    ∙ ap (λ f. f ++ drop (length ys + 1) xs)
    (take_more xs (length ys) g next.0 ∙ ap (λ y. take (length ys) xs ++ y ∷ []) (sym next.1) ∙ ap (λ zs. zs ++ g ∷ []) (sym front))
