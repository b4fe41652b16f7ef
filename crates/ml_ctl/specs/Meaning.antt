-- What formulas mean: at which places of a path they are true, and at which states.
--
-- Truth is a proposition and no test, since a quantifier speaks of all paths from a state, and there is no end of them.
-- At a place, X goes to the next place; on m places `f U g` is the m-th iterate, from nowhere, of "g, or f and next", and
-- `f R g` is the m-th iterate, from everywhere, of "g, and f or next". `F g` is `tt U g`, `G g` is `ff R g`, and `f W g`
-- is `g R (f | g)`. A path satisfies a formula that is true at its place 0. `E f` is true at a state if some path from
-- there satisfies f, and `A f` if every path from there does.
--
--   Property                 == a property of places
--   Nowhere, Everywhere      == the property of no place, and of all places
--   iterate_of k step start  == the k-th iterate of a step on properties of places
--   Until l f g, Release l f g == where U and R are true of two properties
--   tense t l g, pairing p l f g == where X, F and G, and U, R and W, are true of properties
--   truth_of op p q          == a connective of two propositions
--   quantified q m s P       == some path from s, or every one, has the property P
--   TruthAt m l f i          == f is true at the place i of the path l of m
--   Satisfies m l f          == the path l satisfies f
--   HoldsAt m f s            == the state formula f is true at the state s of m
use Rattle.std.specs.Prelude.{ℕ, zero, suc, ◌≡◌, ◌⊎◌, true}
use Rattle.ml_lists.specs.Lasso.{Lasso, entry, next_place}
use Rattle.ml_text.specs.declared.token.Operator.{Operator}
use Rattle.ml_text.specs.declared.token.Operator.TheVariants as operator
use Rattle.ml_base.specs.Structure.{Structure, lists}
use Rattle.ml_ctl.specs.Formula as plain
use Rattle.ml_ctl.specs.Formula.{Formula}
use Rattle.ml_ctl.specs.declared.term.Tense.{Tense}
use Rattle.ml_ctl.specs.declared.term.Tense.TheVariants.{Next, Finally, Globally}
use Rattle.ml_ctl.specs.declared.term.Pairing.{Pairing}
use Rattle.ml_ctl.specs.declared.term.Pairing.TheVariants as pair
use Rattle.ml_ctl.specs.declared.term.Quantifier.{Quantifier}
use Rattle.ml_ctl.specs.declared.term.Quantifier.TheVariants.{Exists, Forall}
use Rattle.ml_ctl.specs.Paths.{IsPathFrom, places}

abbrev pub Property : Type 1
Property = ℕ → Type 0

abbrev pub Nowhere : Property
Nowhere i = ⊥

abbrev pub Everywhere : Property
Everywhere i = Unit {0}

abbrev pub iterate_of : ℕ → (Property → Property) → Property → Property
iterate_of zero step start = start
iterate_of (suc k) step start = step (iterate_of k step start)

-- one round of U and of R
abbrev pub until_step : (ℕ → ℕ) → Property → Property → Property → Property
until_step next f g later i = g i ⊎ (f i × later (next i))

abbrev pub release_step : (ℕ → ℕ) → Property → Property → Property → Property
release_step next f g later i = g i × (f i ⊎ later (next i))

abbrev pub Until : Lasso → Property → Property → Property
Until l f g = iterate_of (places l) (until_step (next_place l) f g) Nowhere

abbrev pub Release : Lasso → Property → Property → Property
Release l f g = iterate_of (places l) (release_step (next_place l) f g) Everywhere

abbrev pub tense : Tense → Lasso → Property → Property
tense Next l g = λ i. g (next_place l i)
tense Finally l g = Until l Everywhere g
tense Globally l g = Release l Nowhere g

abbrev pub pairing : Pairing → Lasso → Property → Property → Property
pairing pair.Until l f g = Until l f g
pairing pair.Release l f g = Release l f g
pairing pair.Weak l f g = Release l g (λ i. f i ⊎ g i)

abbrev pub truth_of : Operator → Type 0 → Type 0 → Type 0
truth_of operator.And p q = p × q
truth_of operator.Or p q = p ⊎ q
truth_of operator.Implies p q = p → q
truth_of operator.Iff p q = (p → q) × (q → p)

abbrev pub quantified : Quantifier → Structure → ℕ → (Lasso → Type 0) → Type 0
quantified Exists m s P = (l : Lasso) × IsPathFrom m s l × P l
quantified Forall m s P = (l : Lasso) → IsPathFrom m s l → P l

abbrev pub TruthAt : Structure → Lasso → Formula → Property
TruthAt m l (plain.Const b) i = b ≡ true
TruthAt m l (plain.Prop p) i = lists m (entry l i) p ≡ true
TruthAt m l (plain.Not f) i = TruthAt m l f i → ⊥
TruthAt m l (plain.Binary op f g) i = truth_of op (TruthAt m l f i) (TruthAt m l g i)
TruthAt m l (plain.Temporal t f) i = tense t l (TruthAt m l f) i
TruthAt m l (plain.Paired p f g) i = pairing p l (TruthAt m l f) (TruthAt m l g) i
TruthAt m l (plain.Quantified q f) i = quantified q m (entry l i) (λ path. TruthAt m path f 0)

abbrev pub Satisfies : Structure → Lasso → Formula → Type 0
Satisfies m l f = TruthAt m l f 0

-- of a state formula; where f is none, nothing is asked of what is said here of its temporal operators
abbrev pub HoldsAt : Structure → Formula → ℕ → Type 0
HoldsAt m (plain.Const b) s = b ≡ true
HoldsAt m (plain.Prop p) s = lists m s p ≡ true
HoldsAt m (plain.Not f) s = HoldsAt m f s → ⊥
HoldsAt m (plain.Binary op f g) s = truth_of op (HoldsAt m f s) (HoldsAt m g s)
HoldsAt m (plain.Quantified q f) s = quantified q m s (λ path. Satisfies m path f)
HoldsAt m _ s = ⊥
