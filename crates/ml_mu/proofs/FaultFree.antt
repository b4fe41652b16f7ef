-- Where all variables of a formula are bound and positive, none is at fault.
--
--   standing_fine      == a variable is fine that stands as its innermost binder allows
--   found_innermost    == a bound name has an innermost binder
--   not_well, and_well, iff_well, binder_well == the parts of a formula whose variables stand well are such formulas
--   fine               == where the variables stand well, none is at fault
--   well_fine          == a formula with bound and positive variables has no fault
use Rattle.std.proofs.Common.{◌≡◌, ℕ, ◌+◌, ◌%◌, ◌<◌, ◌≤◌, true, false, ◌&&◌, ◌||◌, ◌==◌, List, [], ◌∷◌, ◌++◌, Some, refl, sym, ◌∙◌, ap, subst, ⊎_elim, arith, cond, bytes_eq, eq-eqb}
use Rattle.std.specs.List.{list_any}
use Rattle.std.proofs.lemmas.Bool.{and_from, and_parts, cases_Bool, cases_lt, cond-true, cond-false}
use Rattle.std.proofs.lemmas.Slice.Eq.{bytes_eq-Decides}
use Rattle.ml_text.specs.declared.token.Operator.TheVariants.{Iff, Implies, Or, And}
use Rattle.ml_text.proofs.NameLists.{same_name}
use Rattle.ml_mu.specs.Formula.{Formula, Fixpoint, Const, Prop, Var, Not, Binary, Modal, Binder}
use Rattle.ml_mu.specs.Variables.{is_bound, occurs_only, is_positive}
use Rattle.ml_mu.specs.VariableFaults.{Standing, Fine, Unbound, NotPositive, Around, standing_of, standings_in, standings, are_fine}
use Rattle.ml_mu.proofs.Fine.{names, innermost, even_from, even_more, IsOnly, IsWell, AreAround, around_more, around_iff, around_binder}

pub standing_fine : (bs : List Around) (n i : ℕ) (x : List ℕ) (b : Around) → innermost bs x ≡ Some b → i ≡ b.iffs
    → even_from n b.negations ≡ true → standing_of bs n i x ≡ Fine
standing_fine [] n i x b is same even = absurd (cc)
standing_fine (a ∷ bs) n i x b is same even =
    ⊎_elim
    (λ (here : bytes_eq a.name x ≡ true).
    let some : Some a ≡ Some b = sym (cond-true (bytes_eq a.name x) (Some a) (innermost bs x) here) ∙ is in
    let found : a ≡ b = cc in
    let at : (i == a.iffs) ≡ true = eq-eqb i a.iffs (same ∙ ap (λ (c : Around). c.iffs) (sym found)) in
    let pairs : even_from n a.negations ≡ true = ap (λ (c : Around). even_from n c.negations) found ∙ even in
    cond-true (bytes_eq a.name x) (cond ((i == a.iffs) && even_from n a.negations) Fine NotPositive) (standing_of bs n i x) here
    ∙ cond-true ((i == a.iffs) && even_from n a.negations) Fine NotPositive (and_from (i == a.iffs) (even_from n a.negations) at pairs))
    (λ (other : bytes_eq a.name x ≡ false).
    cond-false (bytes_eq a.name x) (cond ((i == a.iffs) && even_from n a.negations) Fine NotPositive) (standing_of bs n i x) other
    ∙ standing_fine bs n i x b (sym (cond-false (bytes_eq a.name x) (Some a) (innermost bs x) other) ∙ is) same even)
    (cases_Bool (bytes_eq a.name x))

pub found_innermost : (bs : List Around) (x : List ℕ) → list_any (λ y. bytes_eq y x) (names bs) ≡ true
    → (b : Around) × (innermost bs x ≡ Some b)
found_innermost [] x is = absurd (cc)
found_innermost (a ∷ bs) x is =
    ⊎_elim
    (λ (here : bytes_eq a.name x ≡ true). (a, cond-true (bytes_eq a.name x) (Some a) (innermost bs x) here))
    (λ (other : bytes_eq a.name x ≡ false).
    let later = found_innermost bs x (sym (ap (λ v. v || list_any (λ y. bytes_eq y x) (names bs)) other) ∙ is) in
    (later.0, cond-false (bytes_eq a.name x) (Some a) (innermost bs x) other ∙ later.1))
    (cases_Bool (bytes_eq a.name x))

variable_fine : (bs : List Around) (n i : ℕ) (x : List ℕ)
    → AreAround bs n i
    → IsWell bs n i (Var x)
    → standing_of bs n i x ≡ Fine
variable_fine bs n i x around w =
    let found = found_innermost bs x w.bound in
    let inside = around x found.0 found.1 in
    let only : IsOnly found.0 n i x (Var x) = w.only x found.0 found.1 in
    ⊎_elim
    (λ (less : found.0.iffs < i).
    let never : occurs_only false x (Var x) ≡ false = cond-true (bytes_eq x x) false true (same_name x) in
    let occurs = (only.under less).1 in
    absurd (cc))
    (λ (le : i ≤ found.0.iffs).
    let same : i ≡ found.0.iffs = omega (arith, inside.1, le) in
    standing_fine bs n i x found.0 found.1 same
    (sym (cond-true (bytes_eq x x) (even_from n found.0.negations) true (same_name x)) ∙ only.here same))
    (cases_lt found.0.iffs i)

-- ---- the parts of a formula

only_inside : (b : Around) (n i : ℕ) (x : List ℕ) (f : Formula)
    → b.negations ≤ n
    → IsOnly b n i x (Not f)
    → IsOnly b (n + 1) i x f
only_inside b n i x f le only = record {
  here = λ same. ap (λ s. occurs_only s x f) (even_more n b.negations le) ∙ only.here same;
  under = λ less. ((only.under less).1, (only.under less).0);
}

pub not_well : (bs : List Around) (n i : ℕ) (f : Formula)
    → AreAround bs n i
    → IsWell bs n i (Not f)
    → IsWell bs (n + 1) i f
not_well bs n i f around w = record {
  bound = w.bound;
  positive = w.positive;
  only = λ x b is. only_inside b n i x f (around x b is).0 (w.only x b is);
}

only_left : (b : Around) (n i : ℕ) (x : List ℕ) (f g : Formula) → IsOnly b n i x (Binary And f g) → IsOnly b n i x f
only_left b n i x f g only = record {
  here = λ same. (and_parts (occurs_only (even_from n b.negations) x f) (occurs_only (even_from n b.negations) x g) (only.here same)).0;
  under = λ less. (
    (and_parts (occurs_only true x f) (occurs_only true x g) (only.under less).0).0,
    (and_parts (occurs_only false x f) (occurs_only false x g) (only.under less).1).0,
  );
}

only_right : (b : Around) (n i : ℕ) (x : List ℕ) (f g : Formula) → IsOnly b n i x (Binary And f g) → IsOnly b n i x g
only_right b n i x f g only = record {
  here = λ same. (and_parts (occurs_only (even_from n b.negations) x f) (occurs_only (even_from n b.negations) x g) (only.here same)).1;
  under = λ less. (
    (and_parts (occurs_only true x f) (occurs_only true x g) (only.under less).0).1,
    (and_parts (occurs_only false x f) (occurs_only false x g) (only.under less).1).1,
  );
}

pub and_well : (bs : List Around) (n i : ℕ) (f g : Formula)
    → IsWell bs n i (Binary And f g)
    → IsWell bs n i f × IsWell bs n i g
and_well bs n i f g w =
    let bound = and_parts (is_bound (names bs) f) (is_bound (names bs) g) w.bound in
    let positive = and_parts (is_positive f) (is_positive g) w.positive in (
      record { bound = bound.0; positive = positive.0; only = λ x b is. only_left b n i x f g (w.only x b is) },
      record { bound = bound.1; positive = positive.1; only = λ x b is. only_right b n i x f g (w.only x b is) },
    )

-- an or stands as an and does, and an implication as the and with its left operand negated
or_as_and : (bs : List Around) (n i : ℕ) (f g : Formula)
    → IsWell bs n i (Binary Or f g)
    → IsWell bs n i (Binary And f g)
or_as_and bs n i f g w = record {
  bound = w.bound;
  positive = w.positive;
  only = λ x b is. let o : IsOnly b n i x (Binary Or f g) = w.only x b is in record { here = o.here; under = o.under };
}

implies_as_and : (bs : List Around) (n i : ℕ) (f g : Formula)
    → IsWell bs n i (Binary Implies f g)
    → IsWell bs n i (Binary And (Not f) g)
implies_as_and bs n i f g w = record {
  bound = w.bound;
  positive = w.positive;
  only = λ x b is. let o : IsOnly b n i x (Binary Implies f g) = w.only x b is in record { here = o.here; under = o.under };
}

-- under an iff a variable of an outer binder doesn't occur
only_iff : (b : Around) (n i : ℕ) (x : List ℕ) (f g : Formula) → b.iffs ≤ i → IsOnly b n i x (Binary Iff f g)
    → IsOnly b n (i + 1) x f × IsOnly b n (i + 1) x g
only_iff b n i x f g le only =
    let all : occurs_only true x (Binary Iff f g) ≡ true =
    ⊎_elim
    (λ (less : b.iffs < i). (only.under less).0)
    (λ (ge : i ≤ b.iffs). only.here (omega arith))
    (cases_lt b.iffs i)
    in
    let both = and_parts (occurs_only true x f && occurs_only false x f) (occurs_only true x g && occurs_only false x g) all in
    let l = and_parts (occurs_only true x f) (occurs_only false x f) both.0 in
    let r = and_parts (occurs_only true x g) (occurs_only false x g) both.1 in (
      record { here = λ same. absurd (omega arith); under = λ less. l },
      record { here = λ same. absurd (omega arith); under = λ less. r },
    )

pub iff_well : (bs : List Around) (n i : ℕ) (f g : Formula) → AreAround bs n i → IsWell bs n i (Binary Iff f g)
    → IsWell bs n (i + 1) f × IsWell bs n (i + 1) g
iff_well bs n i f g around w =
    let bound = and_parts (is_bound (names bs) f) (is_bound (names bs) g) w.bound in
    let positive = and_parts (is_positive f) (is_positive g) w.positive in (
      record { bound = bound.0; positive = positive.0; only = λ x b is. (only_iff b n i x f g (around x b is).1 (w.only x b is)).0 },
      record { bound = bound.1; positive = positive.1; only = λ x b is. (only_iff b n i x f g (around x b is).1 (w.only x b is)).1 },
    )

abbrev binder_at : List ℕ → ℕ → ℕ → Around
binder_at y n i = record { name = y; negations = n; iffs = i }

pub other_name : (y x : List ℕ) → bytes_eq y x ≡ false → bytes_eq x y ≡ false
other_name y x other =
    ⊎_elim
    (λ (same : bytes_eq x y ≡ true).
    let e = (bytes_eq-Decides x y).0 same in let back = (bytes_eq-Decides y x).1 (sym e) in absurd (cc))
    (λ (is : bytes_eq x y ≡ false). is)
    (cases_Bool (bytes_eq x y))

only_outer : (q : Fixpoint) (b : Around) (n i : ℕ) (x y : List ℕ) (f : Formula)
    → bytes_eq x y ≡ false
    → IsOnly b n i x (Binder q y f)
    → IsOnly b n i x f
only_outer q b n i x y f other only = record {
  here = λ same. sym (cond-false (bytes_eq x y) true (occurs_only (even_from n b.negations) x f) other) ∙ only.here same;
  under = λ less. (
    sym (cond-false (bytes_eq x y) true (occurs_only true x f) other) ∙ (only.under less).0,
    sym (cond-false (bytes_eq x y) true (occurs_only false x f) other) ∙ (only.under less).1,
  );
}

-- the variable of a positive binder, in its body
only_own : (y : List ℕ) (n i : ℕ) (f : Formula) → occurs_only true y f ≡ true → IsOnly (binder_at y n i) n i y f
only_own y n i f positive = record {
  here = λ same. ap (λ k. occurs_only (k % 2 == 0) y f) (Rattle.std.proofs.Math.Nat.sub_self n) ∙ positive;
  under = λ less. absurd (omega arith);
}

pub binder_well : (bs : List Around) (n i : ℕ) (q : Fixpoint) (y : List ℕ) (f : Formula) → IsWell bs n i (Binder q y f)
    → IsWell (binder_at y n i ∷ bs) n i f
binder_well bs n i q y f w =
    let parts = and_parts (occurs_only true y f) (is_positive f) w.positive in
    record {
      bound = w.bound;
      positive = parts.1;
      only = λ x b is.
          ⊎_elim
          (λ (here : bytes_eq y x ≡ true).
          let some : Some (binder_at y n i) ≡ Some b = sym (cond-true (bytes_eq y x) (Some (binder_at y n i)) (innermost bs x) here) ∙ is in
          let found : binder_at y n i ≡ b = cc in
          let name : y ≡ x = (bytes_eq-Decides y x).0 here in
          subst (λ c. IsOnly c n i x f) found (subst (λ z. IsOnly (binder_at y n i) n i z f) name (only_own y n i f parts.0)))
          (λ (other : bytes_eq y x ≡ false).
          only_outer q b n i x y f (other_name y x other)
          (w.only x b (sym (cond-false (bytes_eq y x) (Some (binder_at y n i)) (innermost bs x) other) ∙ is)))
          (cases_Bool (bytes_eq y x));
    }

-- ---- all formulas

both_fine : (a b : List Standing) → are_fine a ≡ true → are_fine b ≡ true → are_fine (a ++ b) ≡ true
both_fine [] b x y = y
both_fine (Fine ∷ a) b x y = both_fine a b x y
both_fine (Unbound ∷ a) b x y = absurd (cc)
both_fine (NotPositive ∷ a) b x y = absurd (cc)

pub fine : (f : Formula) (bs : List Around) (n i : ℕ)
    → AreAround bs n i
    → IsWell bs n i f
    → are_fine (standings_in bs n i f) ≡ true
fine (Const c) bs n i around w = refl
fine (Prop p) bs n i around w = refl
fine (Var x) bs n i around w = ap (λ s. are_fine (s ∷ [])) (variable_fine bs n i x around w)
fine (Not f) bs n i around w = fine f bs (n + 1) i (around_more bs n i around) (not_well bs n i f around w)
fine (Binary And f g) bs n i around w =
    let parts = and_well bs n i f g w in
    both_fine (standings_in bs n i f) (standings_in bs n i g) (fine f bs n i around parts.0) (fine g bs n i around parts.1)
fine (Binary Or f g) bs n i around w =
    let parts = and_well bs n i f g (or_as_and bs n i f g w) in
    both_fine (standings_in bs n i f) (standings_in bs n i g) (fine f bs n i around parts.0) (fine g bs n i around parts.1)
fine (Binary Implies f g) bs n i around w =
    let parts = and_well bs n i (Not f) g (implies_as_and bs n i f g w) in
    both_fine (standings_in bs (n + 1) i f) (standings_in bs n i g)
    (fine f bs (n + 1) i (around_more bs n i around) (not_well bs n i f around parts.0)) (fine g bs n i around parts.1)
fine (Binary Iff f g) bs n i around w =
    let parts = iff_well bs n i f g around w in
    let inside = around_iff bs n i around in
    both_fine (standings_in bs n (i + 1) f) (standings_in bs n (i + 1) g)
    (fine f bs n (i + 1) inside parts.0) (fine g bs n (i + 1) inside parts.1)
fine (Modal m a f) bs n i around w =
    fine f bs n i around (record {
      bound = w.bound;
      positive = w.positive;
      only = λ x b is. let o : IsOnly b n i x (Modal m a f) = w.only x b is in record { here = o.here; under = o.under };
    })
fine (Binder q y f) bs n i around w =
    fine f (binder_at y n i ∷ bs) n i (around_binder bs n i y around) (binder_well bs n i q y f w)

pub well_fine : (f : Formula) → is_bound [] f ≡ true → is_positive f ≡ true → are_fine (standings f) ≡ true
well_fine f bound positive =
    fine f [] 0 0 (λ x b is. absurd (cc)) (record { bound = bound; positive = positive; only = λ x b is. absurd (cc) })
