-- The closure of a problem is finite, by recursion on its formula.
--
--   OfAll f            == what is reached from each formula that stands in f, outside of quantifiers, or from its negation,
--                         is finite
--   finite_of          == so it is with each formula
--   closures_are_finite == the law
use Rattle.std.proofs.Common.{ℕ, ◌≡◌, ◌+◌, inl, inr, arith, true, false, Bool, not, List, [], ◌∷◌, refl, sym, subst, length}
use Rattle.ml_lists.specs.Member.{IsMember}
use Rattle.ml_text.specs.declared.token.Operator.{Operator}
use Rattle.ml_text.specs.declared.token.Operator.TheVariants as operator
use Rattle.ml_text.specs.Operators.{weight}
use Rattle.ml_ctl.specs.Formula as plain
use Rattle.ml_ctl.specs.Formula.{Formula, occurrences}
use Rattle.ml_ctl.specs.declared.term.Pairing.{Pairing}
use Rattle.ml_ctl.specs.declared.term.Quantifier.{Quantifier}
use Rattle.ml_ctl.specs.declared.term.Tense.{Tense}
use Rattle.ml_ctl.specs.declared.term.Quantifier.TheVariants.{Exists, Forall}
use Rattle.ml_blocks.specs.BlockGraph.{linear_start_of, start_of}
use Rattle.ml_blocks.specs.BlockClosures.{at_root, behind as behind_place, children}
use Rattle.ml_blocks.specs.BlockClosures.{IsReached}
use Rattle.ml_blocks.specs.Closures.{HasMoreThan}
use Rattle.ml_blocks.specs.FiniteClosures.{ClosuresAreFinite, IsFinite}
use Rattle.ml_blocks.specs.Items.{now}
use Rattle.ml_blocks.specs.Places.{Place, Root, Total, HasEdge, LeadsOn, True, Holding, Both, Neither, block_of, form_of}
use Rattle.ml_lists.proofs.FirstEntries.{none_more}
use Rattle.ml_blocks.proofs.FiniteBlocks.{block_finite}
use Rattle.ml_blocks.proofs.ItemsFollow.{itself_within}
use Rattle.ml_blocks.proofs.ItemsWithin.{StandsAt, here, under_not, under_tense, at_left, at_right, before, behind, within_stands}
use Rattle.ml_blocks.proofs.PlaceEquality.{same_place}
use Rattle.ml_blocks.proofs.ReachedPlaces.{Finite, above}
use Rattle.ml_nodes.proofs.ValueTests.{value_eq, value_eq-tells}

abbrev OfOne : Formula → Type 0
OfOne f = (i : ℕ) (sign : Bool) → Finite (Holding i f sign)

abbrev OfAll : Formula → Type 0
OfAll f = (i j : ℕ) (g : Formula) → StandsAt i f j g → OfOne g

itself : (f : Formula) → OfAll f → OfOne f
itself f all = all 0 0 f (here 0 f 0 f refl refl)

of_same : (f g : Formula) → g ≡ f → OfOne f → OfOne g
of_same f g e one i sign = subst (λ h. Finite (Holding i h sign)) (sym e) (one i sign)

-- ---- places with no children, one, or two

abbrev AllFinite : List Place → Type 0
AllFinite cs = (c : Place) → IsMember c cs → Finite c

none : AllFinite []
none c m = absurd m

one : (p : Place) → Finite p → AllFinite (p ∷ [])
one p fp c (inl e) = subst Finite (sym e) fp
one p fp c (inr m) = absurd m

two : (l r : Place) → Finite l → Finite r → AllFinite (l ∷ r ∷ [])
two l r fl fr c (inl e) = subst Finite (sym e) fl
two l r fl fr c (inr m) = one r fr c m

-- ---- each formula

of_binary : (op : Operator) (f g : Formula) → OfOne f → OfOne g → OfOne (plain.Binary op f g)
of_binary operator.And f g ff fg i true = above (Holding i (plain.Binary operator.And f g) true) (two _ _ (ff _ true) (fg _ true))
of_binary operator.And f g ff fg i false = above (Holding i (plain.Binary operator.And f g) false) (two _ _ (ff _ false) (fg _ false))
of_binary operator.Or f g ff fg i true = above (Holding i (plain.Binary operator.Or f g) true) (two _ _ (ff _ true) (fg _ true))
of_binary operator.Or f g ff fg i false = above (Holding i (plain.Binary operator.Or f g) false) (two _ _ (ff _ false) (fg _ false))
of_binary operator.Implies f g ff fg i true =
    above (Holding i (plain.Binary operator.Implies f g) true) (two _ _ (ff _ false) (fg _ true))
of_binary operator.Implies f g ff fg i false =
    above (Holding i (plain.Binary operator.Implies f g) false) (two _ _ (ff _ true) (fg _ false))
of_binary operator.Iff f g ff fg i sign =
    above (Holding i (plain.Binary operator.Iff f g) sign)
    (two (Both (i + 1) f g sign) (Neither (i + 2) f g sign)
    (above (Both (i + 1) f g sign) (two _ _ (ff _ true) (fg _ sign)))
    (above (Neither (i + 2) f g sign) (two _ _ (ff _ false) (fg _ (not sign)))))

block_of_all : (f : Formula) → OfAll f → (i : ℕ) (positive sign : Bool) → Finite (block_of (now i f positive) sign)
block_of_all f all i positive sign =
    block_finite (now i f positive) sign
    (λ x m. all i x.number x.formula (within_stands i f positive x m).stands x.number) (itself_within i f positive) refl

of_quantified : (q : Quantifier) (f : Formula) → OfAll f → OfOne (plain.Quantified q f)
of_quantified Exists f all i sign =
    let b = block_of_all f all (i + 1) true sign in
    above (Holding i (plain.Quantified Exists f) sign) (two _ _ b b)
of_quantified Forall f all i sign =
    let b = block_of_all f all (i + 1) false (not sign) in
    above (Holding i (plain.Quantified Forall f) sign) (two _ _ b b)

of_const : (c : Bool) → OfOne (plain.Const c)
of_const c i sign = above (Holding i (plain.Const c) sign) none

of_prop : (p : List ℕ) → OfOne (plain.Prop p)
of_prop p i sign = above (Holding i (plain.Prop p) sign) none

of_not : (f : Formula) → OfOne f → OfOne (plain.Not f)
of_not f ff i sign = above (Holding i (plain.Not f) sign) (two _ _ (ff (i + 1) (not sign)) (ff (i + 1) (not sign)))

of_temporal : (t : Tense) (f : Formula) → OfOne (plain.Temporal t f)
of_temporal t f i sign = above (Holding i (plain.Temporal t f) sign) none

of_paired : (p : Pairing) (f g : Formula) → OfOne (plain.Paired p f g)
of_paired p f g i sign = above (Holding i (plain.Paired p f g) sign) none

pub finite_of : (f : Formula) → OfAll f
finite_of (plain.Const c) i j g (here _ _ _ _ at is) = of_same (plain.Const c) g is (of_const c)
finite_of (plain.Prop p) i j g (here _ _ _ _ at is) = of_same (plain.Prop p) g is (of_prop p)
finite_of (plain.Not f) i j g (here _ _ _ _ at is) =
    of_same (plain.Not f) g is (of_not f (itself f (finite_of f)))
finite_of (plain.Not f) i j g (under_not _ _ _ _ s) = finite_of f (i + 1) j g s
finite_of (plain.Temporal t f) i j g (here _ _ _ _ at is) = of_same (plain.Temporal t f) g is (of_temporal t f)
finite_of (plain.Temporal t f) i j g (under_tense _ _ _ _ _ s) = finite_of f (i + 1) j g s
finite_of (plain.Paired p f h) i j g (here _ _ _ _ at is) = of_same (plain.Paired p f h) g is (of_paired p f h)
finite_of (plain.Paired p f h) i j g (before _ _ _ _ _ _ s) = finite_of f (i + 1) j g s
finite_of (plain.Paired p f h) i j g (behind _ _ _ _ _ _ s) = finite_of h (i + 1 + occurrences f) j g s
finite_of (plain.Binary op f h) i j g (here _ _ _ _ at is) =
    of_same (plain.Binary op f h) g is (of_binary op f h (itself f (finite_of f)) (itself h (finite_of h)))
finite_of (plain.Binary op f h) i j g (at_left _ _ _ _ _ _ s) = finite_of f (i + weight op) j g s
finite_of (plain.Binary op f h) i j g (at_right _ _ _ _ _ _ s) = finite_of h (i + weight op + occurrences f) j g s
finite_of (plain.Quantified q f) i j g (here _ _ _ _ at is) =
    of_same (plain.Quantified q f) g is (of_quantified q f (finite_of f))

-- ---- the root

abbrev edges : List Place
edges = Total ∷ HasEdge ∷ LeadsOn ∷ True ∷ []

edges_closed : (q p : Place) → IsMember q edges → IsMember p (children (form_of q)) → IsMember p edges
edges_closed q p (inl e) m = from (subst (λ v. IsMember p (children (form_of v))) e m)
  where
    from : IsMember p (HasEdge ∷ LeadsOn ∷ []) → IsMember p edges
    from (inl is) = inr (inl is)
    from (inr (inl is)) = inr (inr (inl is))
    from (inr (inr no_more)) = absurd no_more
edges_closed q p (inr (inl e)) m = from (subst (λ v. IsMember p (children (form_of v))) e m)
  where
    from : IsMember p (True ∷ []) → IsMember p edges
    from (inl is) = inr (inr (inr (inl is)))
    from (inr no_more) = absurd no_more
edges_closed q p (inr (inr (inl e))) m = from (subst (λ v. IsMember p (children (form_of v))) e m)
  where
    from : IsMember p (Total ∷ []) → IsMember p edges
    from (inl is) = inl is
    from (inr no_more) = absurd no_more
edges_closed q p (inr (inr (inr (inl e)))) m = absurd (subst (λ v. IsMember p (children (form_of v))) e m)
edges_closed q p (inr (inr (inr (inr no_more)))) m = absurd no_more

edges_finite : Finite Total
edges_finite = record { places = edges; has_all = λ p reached. all p reached }
  where
    all : (p : Place) → IsReached Total p → IsMember p edges
    all _ at_root = inl refl
    all _ (behind_place q p reached m) = edges_closed q p (all q reached) m

is_finite : (start : Place) → Finite start → IsFinite (Root start)
is_finite start finite = (length root.places, few)
  where
    root : Finite (Root start)
    root = above (Root start) (two start Total finite edges_finite)

    few : ¬ (HasMoreThan (Root start) (length root.places))
    few many =
        let most =
        none_more (value_eq same_place) (value_eq-tells same_place) many.places root.places many.once
        (λ p m. root.has_all p (many.are_reached p m)) in
        let more = many.is_longer in
        absurd (omega (arith, most, more))

pub closures_are_finite : ClosuresAreFinite
closures_are_finite f negated = (
  is_finite (start_of f negated) (itself f (finite_of f) 0 (not negated)),
  is_finite (linear_start_of f negated) (block_of_all f (finite_of f) 0 (not negated) true),
)
