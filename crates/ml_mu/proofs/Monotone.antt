-- Positive bodies are monotone: where the given sets grow, or shrink where a variable stands under an odd number of
-- negations, the meaning grows.
--
--   Varies m g h f y     == from the given sets g to h the set of the variable y changes in the direction in which f
--                           grows with it, if at all
--   meaning_grows        == then the meaning of f grows
--   body_grows           == so a positive body grows with the set that its variable means
--   least_ascends        == the iterates of a least fixpoint ascend
--   greatest_descends    == and those of a greatest descend
use Rattle.std.proofs.Common.{◌≡◌, ◌==◌, ℕ, zero, suc, Bool, true, false, ◌&&◌, ◌||◌, not, cond, List, [], ◌∷◌, length, refl, sym, ap, ◌∙◌, subst}
use Rattle.std.specs.List.{list_any, list_all}
use Rattle.std.specs.Str.{bytes_eq}
use Rattle.std.proofs.lemmas.Bool.{true≢false}
use Rattle.std.proofs.lemmas.List.{length-replicate}
use Rattle.std.proofs.lemmas.Slice.Eq.{bytes_eq-Decides}
use Rattle.ml_lists.specs.Iterate.{iterate}
use Rattle.ml_lists.proofs.Iterates.{iterates_related}
use Rattle.ml_text.specs.declared.token.Operator.TheVariants as operator
use Rattle.ml_base.specs.Structure.{Structure, StateSet, is_member}
use Rattle.ml_mu.specs.Meaning.{HaveFlags}
use Rattle.ml_mu.specs.Formula.{Formula, Const, Prop, Var, Not, Binary, Modal, Binder, Diamond, Square, Fixpoint, Least, Greatest}
use Rattle.ml_text.specs.Operators.{truth_of}
use Rattle.ml_mu.specs.Meaning.{Given, given_set, some_edge, every_edge, first_iterate, meaning}
use Rattle.ml_mu.specs.Variables.{occurs_only, is_positive}
use Rattle.ml_mu.proofs.Inclusion.{Implies, Within, within_both, nowhere_within, within_everywhere, within_not, within_where}
use Rattle.ml_mu.proofs.MeaningFlags.{meaning_flags}

pub data Varies (m : Structure) (g h : Given) (f : Formula) (y : List ℕ) : Type 0 where
  same : given_set m g y ≡ given_set m h y → Varies m g h f y
  grows : occurs_only true y f ≡ true → Within (given_set m g y) (given_set m h y) → Varies m g h f y
  shrinks : occurs_only false y f ≡ true → Within (given_set m h y) (given_set m g y) → Varies m g h f y

-- a part of the formula in which the variable stands as in the whole, or under one negation more
straight : (m : Structure) (g h : Given) (f part : Formula) (y : List ℕ)
    → ((sign : Bool) → occurs_only sign y f ≡ true → occurs_only sign y part ≡ true) → Varies m g h f y → Varies m g h part y
straight m g h f part y stands (same e) = same e
straight m g h f part y stands (grows o w) = grows (stands true o) w
straight m g h f part y stands (shrinks o w) = shrinks (stands false o) w

turned : (m : Structure) (g h : Given) (f part : Formula) (y : List ℕ)
    → ((sign : Bool) → occurs_only sign y f ≡ true → occurs_only (not sign) y part ≡ true) → Varies m g h f y → Varies m h g part y
turned m g h f part y stands (same e) = same (sym e)
turned m g h f part y stands (grows o w) = shrinks (stands true o) w
turned m g h f part y stands (shrinks o w) = grows (stands false o) w

left_of : (a b : Bool) → (a && b) ≡ true → a ≡ true
left_of true b h = refl
left_of false b h = h

right_of : (a b : Bool) → (a && b) ≡ true → b ≡ true
right_of true b h = h
right_of false b h = absurd (true≢false (sym h))

and_grows : (a b c d : Bool) → Implies a c → Implies b d → Implies (a && b) (c && d)
and_grows true b c d first second h = ap (λ z. z && d) (first refl) ∙ second h
and_grows false b c d first second h = absurd (true≢false (sym h))

or_grows : (a b c d : Bool) → Implies a c → Implies b d → Implies (a || b) (c || d)
or_grows true b c d first second h = ap (λ z. z || d) (first refl)
or_grows false b true d first second h = refl
or_grows false b false d first second h = second h

implies_grows : (a b c d : Bool) → Implies c a → Implies b d → Implies (not a || b) (not c || d)
implies_grows a b false d first second h = refl
implies_grows true b true d first second h = second h
implies_grows false b true d first second h = absurd (true≢false (sym (first refl)))

-- under an iff the variable doesn't occur
either : (y : List ℕ) (f : Formula) (sign : Bool)
    → (occurs_only true y f && occurs_only false y f) ≡ true
    → occurs_only sign y f ≡ true
either y f true o = left_of (occurs_only true y f) (occurs_only false y f) o
either y f false o = right_of (occurs_only true y f) (occurs_only false y f) o

any_grows : {X : Type 0} (p q : X → Bool) (xs : List X)
    → ((x : X) → Implies (p x) (q x))
    → Implies (list_any p xs) (list_any q xs)
any_grows p q [] each h = h
any_grows p q (x ∷ xs) each h = or_grows (p x) (list_any p xs) (q x) (list_any q xs) (each x) (any_grows p q xs each) h

all_grows : {X : Type 0} (p q : X → Bool) (xs : List X)
    → ((x : X) → Implies (p x) (q x))
    → Implies (list_all p xs) (list_all q xs)
all_grows p q [] each h = h
all_grows p q (x ∷ xs) each h = and_grows (p x) (list_all p xs) (q x) (list_all q xs) (each x) (all_grows p q xs each) h

var_grows : (m : Structure) (g h : Given) (x : List ℕ)
    → Varies m g h (Var x) x
    → Within (given_set m g x) (given_set m h x)
var_grows m g h x (same e) = subst (λ s. Within (given_set m g x) s) e (λ k inside. inside)
var_grows m g h x (grows o w) = w
var_grows m g h x (shrinks o w) =
    let here : bytes_eq x x ≡ true = (bytes_eq-Decides x x).1 refl in
    absurd (true≢false (sym o ∙ ap (λ b. cond b false true) here))

-- under a binder its own variable grows, and each other one varies as before
bound_varies : (m : Structure) (g h : Given) (q : Fixpoint) (x : List ℕ) (f : Formula) (s t : StateSet)
    → occurs_only true x f ≡ true
    → Within s t
    → (y : List ℕ) → Varies m g h (Binder q x f) y → Varies m ((x, s) ∷ g) ((x, t) ∷ h) f y
bound_varies m g h q x f s t positive within y outer = by_name (bytes_eq x y) refl outer
  where
    by_name : (b : Bool) → bytes_eq x y ≡ b → Varies m g h (Binder q x f) y → Varies m ((x, s) ∷ g) ((x, t) ∷ h) f y
    by_name true named old =
        let is : x ≡ y = (bytes_eq-Decides x y).0 named in
        let here : cond (bytes_eq x y) s (given_set m g y) ≡ s = ap (λ b. cond b s (given_set m g y)) named in
        let there : cond (bytes_eq x y) t (given_set m h y) ≡ t = ap (λ b. cond b t (given_set m h y)) named in
        grows (subst (λ z. occurs_only true z f ≡ true) is positive)
        (subst (λ a. Within a (cond (bytes_eq x y) t (given_set m h y))) (sym here) (subst (λ b. Within s b) (sym there) within))
    by_name false named old = other old
      where
        here : cond (bytes_eq x y) s (given_set m g y) ≡ given_set m g y
        here = ap (λ b. cond b s (given_set m g y)) named

        there : cond (bytes_eq x y) t (given_set m h y) ≡ given_set m h y
        there = ap (λ b. cond b t (given_set m h y)) named

        apart : (b : Bool) → bytes_eq y x ≡ b → b ≡ false
        apart true is = absurd (true≢false (sym ((bytes_eq-Decides x y).1 (sym ((bytes_eq-Decides y x).0 is))) ∙ named))
        apart false is = refl

        inside : (sign : Bool) → cond (bytes_eq y x) true (occurs_only sign y f) ≡ true → occurs_only sign y f ≡ true
        inside sign o = sym (ap (λ b. cond b true (occurs_only sign y f)) (apart (bytes_eq y x) refl)) ∙ o

        other : Varies m g h (Binder q x f) y → Varies m ((x, s) ∷ g) ((x, t) ∷ h) f y
        other (same e) = same (here ∙ e ∙ sym there)
        other (grows o w) =
            grows (inside true o)
            (subst (λ a. Within a (cond (bytes_eq x y) t (given_set m h y))) (sym here)
            (subst (λ b. Within (given_set m g y) b) (sym there) w))
        other (shrinks o w) =
            shrinks (inside false o)
            (subst (λ a. Within a (cond (bytes_eq x y) s (given_set m g y))) (sym there)
            (subst (λ b. Within (given_set m h y) b) (sym here) w))

-- two sets of flags, the first within the second
abbrev pub Ordered : ℕ → StateSet → StateSet → Type 0
Ordered n s t = Within s t × (length s ≡ n) × (length t ≡ n)

first_flags : (m : Structure) (q : Fixpoint) → length (first_iterate m q) ≡ m.states
first_flags m Least = length-replicate m.states false
first_flags m Greatest = length-replicate m.states true

pub meaning_grows : (m : Structure) (f : Formula) (g h : Given)
    → HaveFlags m.states g
    → HaveFlags m.states h
    → is_positive f ≡ true
    → ((y : List ℕ) → Varies m g h f y) → Within (meaning m g f) (meaning m h f)
meaning_grows m (Const b) g h g_flags h_flags positive varies = λ k inside. inside
meaning_grows m (Prop p) g h g_flags h_flags positive varies = λ k inside. inside
meaning_grows m (Var x) g h g_flags h_flags positive varies = var_grows m g h x (varies x)
meaning_grows m (Not f) g h g_flags h_flags positive varies =
    within_not m.states (meaning m h f) (meaning m g f) (meaning_flags m h f h_flags) (meaning_flags m g f g_flags)
    (meaning_grows m f h g h_flags g_flags positive (λ y. turned m g h (Not f) f y (λ sign o. o) (varies y)))
meaning_grows m (Binary operator.And f e) g h g_flags h_flags positive varies =
    let left = meaning_grows m f g h g_flags h_flags (left_of (is_positive f) (is_positive e) positive)
    (λ y. straight m g h (Binary operator.And f e) f y (λ sign o. left_of (occurs_only sign y f) (occurs_only sign y e) o) (varies y)) in
    let right = meaning_grows m e g h g_flags h_flags (right_of (is_positive f) (is_positive e) positive)
    (λ y. straight m g h (Binary operator.And f e) e y (λ sign o. right_of (occurs_only sign y f) (occurs_only sign y e) o) (varies y)) in
    within_where m.states
    (λ s. is_member (meaning m g f) s && is_member (meaning m g e) s) (λ s. is_member (meaning m h f) s && is_member (meaning m h e) s)
    (λ k. and_grows (is_member (meaning m g f) k) (is_member (meaning m g e) k) (is_member (meaning m h f) k)
    (is_member (meaning m h e) k) (left k) (right k))
meaning_grows m (Binary operator.Or f e) g h g_flags h_flags positive varies =
    let left = meaning_grows m f g h g_flags h_flags (left_of (is_positive f) (is_positive e) positive)
    (λ y. straight m g h (Binary operator.Or f e) f y (λ sign o. left_of (occurs_only sign y f) (occurs_only sign y e) o) (varies y)) in
    let right = meaning_grows m e g h g_flags h_flags (right_of (is_positive f) (is_positive e) positive)
    (λ y. straight m g h (Binary operator.Or f e) e y (λ sign o. right_of (occurs_only sign y f) (occurs_only sign y e) o) (varies y)) in
    within_where m.states
    (λ s. is_member (meaning m g f) s || is_member (meaning m g e) s) (λ s. is_member (meaning m h f) s || is_member (meaning m h e) s)
    (λ k. or_grows (is_member (meaning m g f) k) (is_member (meaning m g e) k) (is_member (meaning m h f) k)
    (is_member (meaning m h e) k) (left k) (right k))
meaning_grows m (Binary operator.Implies f e) g h g_flags h_flags positive varies =
    let left = meaning_grows m f h g h_flags g_flags (left_of (is_positive f) (is_positive e) positive)
    (λ y. turned m g h (Binary operator.Implies f e) f y (λ sign o. left_of (occurs_only (not sign) y f) (occurs_only sign y e) o) (varies y)) in
    let right = meaning_grows m e g h g_flags h_flags (right_of (is_positive f) (is_positive e) positive)
    (λ y. straight m g h (Binary operator.Implies f e) e y (λ sign o. right_of (occurs_only (not sign) y f) (occurs_only sign y e) o) (varies y)) in
    within_where m.states
    (λ s. not (is_member (meaning m g f) s) || is_member (meaning m g e) s) (λ s. not (is_member (meaning m h f) s) || is_member (meaning m h e) s)
    (λ k. implies_grows (is_member (meaning m g f) k) (is_member (meaning m g e) k) (is_member (meaning m h f) k)
    (is_member (meaning m h e) k) (left k) (right k))
meaning_grows m (Binary operator.Iff f e) g h g_flags h_flags positive varies =
    let f_positive = left_of (is_positive f) (is_positive e) positive in
    let e_positive = right_of (is_positive f) (is_positive e) positive in
    let whole = Binary operator.Iff f e in
    let f_same = within_both (meaning m g f) (meaning m h f) (meaning_flags m g f g_flags ∙ sym (meaning_flags m h f h_flags))
    (meaning_grows m f g h g_flags h_flags f_positive
    (λ y. straight m g h whole f y
    (λ sign o. either y f sign
    (left_of (occurs_only true y f && occurs_only false y f) (occurs_only true y e && occurs_only false y e) o))
    (varies y)))
    (meaning_grows m f h g h_flags g_flags f_positive
    (λ y. turned m g h whole f y
    (λ sign o. either y f (not sign)
    (left_of (occurs_only true y f && occurs_only false y f) (occurs_only true y e && occurs_only false y e) o))
    (varies y)))
    in
    let e_same = within_both (meaning m g e) (meaning m h e) (meaning_flags m g e g_flags ∙ sym (meaning_flags m h e h_flags))
    (meaning_grows m e g h g_flags h_flags e_positive
    (λ y. straight m g h whole e y
    (λ sign o. either y e sign
    (right_of (occurs_only true y f && occurs_only false y f) (occurs_only true y e && occurs_only false y e) o))
    (varies y)))
    (meaning_grows m e h g h_flags g_flags e_positive
    (λ y. turned m g h whole e y
    (λ sign o. either y e (not sign)
    (right_of (occurs_only true y f && occurs_only false y f) (occurs_only true y e && occurs_only false y e) o))
    (varies y)))
    in
    within_where m.states
    (λ s. truth_of operator.Iff (is_member (meaning m g f) s) (is_member (meaning m g e) s))
    (λ s. truth_of operator.Iff (is_member (meaning m h f) s) (is_member (meaning m h e) s))
    (λ k. subst
    (λ a. Implies (truth_of operator.Iff (is_member (meaning m g f) k) (is_member (meaning m g e) k))
    (truth_of operator.Iff (is_member a k) (is_member (meaning m h e) k)))
    f_same
    (subst
    (λ b. Implies (truth_of operator.Iff (is_member (meaning m g f) k) (is_member (meaning m g e) k))
    (truth_of operator.Iff (is_member (meaning m g f) k) (is_member b k)))
    e_same (λ inside. inside)))
meaning_grows m (Modal Diamond a f) g h g_flags h_flags positive varies =
    let inner = meaning_grows m f g h g_flags h_flags positive (λ y. straight m g h (Modal Diamond a f) f y (λ sign o. o) (varies y)) in
    within_where m.states (some_edge m a (meaning m g f)) (some_edge m a (meaning m h f))
    (λ k. any_grows
    (λ e. (e.source == k) && bytes_eq e.action a && is_member (meaning m g f) e.target)
    (λ e. (e.source == k) && bytes_eq e.action a && is_member (meaning m h f) e.target)
    m.edges
    (λ e. and_grows ((e.source == k) && bytes_eq e.action a) (is_member (meaning m g f) e.target)
    ((e.source == k) && bytes_eq e.action a) (is_member (meaning m h f) e.target)
    (λ is. is) (inner e.target)))
meaning_grows m (Modal Square a f) g h g_flags h_flags positive varies =
    let inner = meaning_grows m f g h g_flags h_flags positive (λ y. straight m g h (Modal Square a f) f y (λ sign o. o) (varies y)) in
    within_where m.states (every_edge m a (meaning m g f)) (every_edge m a (meaning m h f))
    (λ k. all_grows
    (λ e. not ((e.source == k) && bytes_eq e.action a) || is_member (meaning m g f) e.target)
    (λ e. not ((e.source == k) && bytes_eq e.action a) || is_member (meaning m h f) e.target)
    m.edges
    (λ e. or_grows (not ((e.source == k) && bytes_eq e.action a)) (is_member (meaning m g f) e.target)
    (not ((e.source == k) && bytes_eq e.action a)) (is_member (meaning m h f) e.target)
    (λ is. is) (inner e.target)))
meaning_grows m (Binder q x f) g h g_flags h_flags positive varies =
    (iterates_related (Ordered m.states) (λ set. meaning m ((x, set) ∷ g) f) (λ set. meaning m ((x, set) ∷ h) f)
    (first_iterate m q) (first_iterate m q) m.states
    ((λ k inside. inside), first_flags m q, first_flags m q)
    (λ s t below. (
      meaning_grows m f ((x, s) ∷ g) ((x, t) ∷ h) (below.1, g_flags) (below.2, h_flags) (right_of (occurs_only true x f) (is_positive f) positive)
          (λ y. bound_varies m g h q x f s t (left_of (occurs_only true x f) (is_positive f) positive) below.0 y (varies y)),
      meaning_flags m ((x, s) ∷ g) f (below.1, g_flags),
      meaning_flags m ((x, t) ∷ h) f (below.2, h_flags),
    ))).0

pub body_grows : (m : Structure) (q : Fixpoint) (x : List ℕ) (f : Formula) (g : Given) (s t : StateSet)
    → is_positive (Binder q x f) ≡ true
    → HaveFlags m.states g → length s ≡ m.states → length t ≡ m.states → Within s t → Within (meaning m ((x, s) ∷ g) f) (meaning m ((x, t) ∷ g) f)
body_grows m q x f g s t positive flags s_flags t_flags within =
    meaning_grows m f ((x, s) ∷ g) ((x, t) ∷ g) (s_flags, flags) (t_flags, flags) (right_of (occurs_only true x f) (is_positive f) positive)
    (λ y. bound_varies m g g q x f s t (left_of (occurs_only true x f) (is_positive f) positive) within y (same refl))

pub least_ascends : (m : Structure) (x : List ℕ) (f : Formula) (g : Given) (k : ℕ)
    → is_positive (Binder Least x f) ≡ true
    → HaveFlags m.states g
    → Ordered m.states (iterate k (λ set. meaning m ((x, set) ∷ g) f) (first_iterate m Least))
    (iterate (suc k) (λ set. meaning m ((x, set) ∷ g) f) (first_iterate m Least))
least_ascends m x f g zero positive flags = (
  nowhere_within m.states (meaning m ((x, first_iterate m Least) ∷ g) f),
  first_flags m Least,
  meaning_flags m ((x, first_iterate m Least) ∷ g) f (first_flags m Least, flags),
)
least_ascends m x f g (suc k) positive flags =
    let step : StateSet → StateSet = λ set. meaning m ((x, set) ∷ g) f in
    let before = least_ascends m x f g k positive flags in (
      body_grows m Least x f g (iterate k step (first_iterate m Least)) (step (iterate k step (first_iterate m Least)))
          positive flags before.1 before.2 before.0,
      before.2,
      meaning_flags m ((x, step (iterate k step (first_iterate m Least))) ∷ g) f (before.2, flags),
    )

pub greatest_descends : (m : Structure) (x : List ℕ) (f : Formula) (g : Given) (k : ℕ)
    → is_positive (Binder Greatest x f) ≡ true
    → HaveFlags m.states g
    → Ordered m.states (iterate (suc k) (λ set. meaning m ((x, set) ∷ g) f) (first_iterate m Greatest))
    (iterate k (λ set. meaning m ((x, set) ∷ g) f) (first_iterate m Greatest))
greatest_descends m x f g zero positive flags =
    let next = meaning_flags m ((x, first_iterate m Greatest) ∷ g) f (first_flags m Greatest, flags) in
    (within_everywhere m.states (meaning m ((x, first_iterate m Greatest) ∷ g) f) next, next, first_flags m Greatest)
greatest_descends m x f g (suc k) positive flags =
    let step : StateSet → StateSet = λ set. meaning m ((x, set) ∷ g) f in
    let before = greatest_descends m x f g k positive flags in (
      body_grows m Greatest x f g (step (iterate k step (first_iterate m Greatest)))
          (iterate k step (first_iterate m Greatest)) positive flags before.1 before.2 before.0,
      meaning_flags m ((x, step (iterate k step (first_iterate m Greatest))) ∷ g) f (before.1, flags),
      before.1,
    )
