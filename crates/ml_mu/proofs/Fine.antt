-- Where no variable of a formula is at fault, all are bound and positive, and the other way round.
--
--   innermost bs x     == the innermost binder of x around
--   even_from n k      == an even number of negations stands between the k-th and the n-th
--   IsOnly b n i x f   == x occurs in f only as the binder b allows it there, under n negations and i iffs
--   fine_well          == a formula without faults has its variables bound and positive
use Rattle.std.proofs.Common.{◌≡◌, ℕ, ◌+◌, ◌-◌, ◌%◌, ◌<◌, ◌≤◌, Bool, true, false, ◌&&◌, not, ◌==◌, List, [], ◌∷◌, ◌++◌, map, Option, Some}
use Rattle.std.proofs.Common.{None, refl, sym, ◌∙◌, ap, subst, ⊎_elim, arith, if◌then◌else◌, cond, bytes_eq, eqb-true}
use Rattle.std.proofs.lemmas.Bool.{eqb-false}
use Rattle.std.specs.List.{list_any}
use Rattle.std.proofs.lemmas.Bool.{and_from, or_left, or_right, cases_Bool, cond-true, cond-false}
use Rattle.std.proofs.lemmas.Slice.Eq.{bytes_eq-Decides}
use Rattle.ml_text.specs.declared.token.Operator.TheVariants.{Iff, Implies, Or, And}
use Rattle.ml_mu.specs.Formula.{Formula, Const, Prop, Var, Not, Binary, Modal, Binder}
use Rattle.ml_mu.specs.Variables.{is_bound, occurs_only, is_positive}
use Rattle.ml_mu.specs.VariableFaults.{Standing, Fine, Unbound, NotPositive, Around, standing_of, standings_in, standings, are_fine}

abbrev pub names : List Around → List (List ℕ)
names bs = map (λ b. b.name) bs

abbrev pub innermost : List Around → List ℕ → Option Around
innermost [] x = None
innermost (b ∷ bs) x = if bytes_eq b.name x then Some b else innermost bs x

abbrev pub even_from : ℕ → ℕ → Bool
even_from n k = (n - k) % 2 == 0

pub even_more : (n k : ℕ) → k ≤ n → even_from (n + 1) k ≡ not (even_from n k)
even_more n k le =
    ⊎_elim
    (λ (is : even_from n k ≡ true).
    let zero_now = eqb-true ((n - k) % 2) 0 is in
    let one_more : (n + 1 - k) % 2 ≡ 1 = omega arith in
    ap (λ v. v == 0) one_more ∙ ap not (sym is))
    (λ (is : even_from n k ≡ false).
    let some = eqb-false ((n - k) % 2) 0 is in
    let none_more : (n + 1 - k) % 2 ≡ 0 = omega arith in
    ap (λ v. v == 0) none_more ∙ ap not (sym is))
    (cases_Bool (even_from n k))

fine_parts : (a b : List Standing) → are_fine (a ++ b) ≡ true → (are_fine a ≡ true) × (are_fine b ≡ true)
fine_parts [] b is = (refl, is)
fine_parts (Fine ∷ a) b is = fine_parts a b is
fine_parts (Unbound ∷ a) b is = absurd (cc)
fine_parts (NotPositive ∷ a) b is = absurd (cc)

-- a variable that is fine, by its innermost binder
pub record FineAt (bs : List Around) (n i : ℕ) (x : List ℕ) : Type 0 where
  pub binder : Around
  pub found : innermost bs x ≡ Some binder
  pub same : i ≡ binder.iffs
  pub even : even_from n binder.negations ≡ true

fine_here : (b : Around) (bs : List Around) (n i : ℕ) (x : List ℕ) (at even : Bool)
    → (i == b.iffs) ≡ at
    → even_from n b.negations ≡ even
    → bytes_eq b.name x ≡ true
    → cond (at && even) Fine NotPositive ≡ Fine
    → FineAt (b ∷ bs) n i x
fine_here b bs n i x true true p q is fine =
    record {
      binder = b;
      found = cond-true (bytes_eq b.name x) (Some b) (innermost bs x) is;
      same = eqb-true i b.iffs p;
      even = q;
    }
fine_here b bs n i x true false p q is fine = absurd (cc)
fine_here b bs n i x false even p q is fine = absurd (cc)

fine_later : (b : Around) (bs : List Around) (n i : ℕ) (x : List ℕ)
    → bytes_eq b.name x ≡ false
    → FineAt bs n i x
    → FineAt (b ∷ bs) n i x
fine_later b bs n i x is f =
    record {
      binder = f.binder;
      found = cond-false (bytes_eq b.name x) (Some b) (innermost bs x) is ∙ f.found;
      same = f.same;
      even = f.even;
    }

fine_at : (bs : List Around) (n i : ℕ) (x : List ℕ) → standing_of bs n i x ≡ Fine → FineAt bs n i x
fine_at [] n i x fine = absurd (cc)
fine_at (b ∷ bs) n i x fine =
    ⊎_elim
    (λ (is : bytes_eq b.name x ≡ true). fine_here b bs n i x (i == b.iffs) (even_from n b.negations) refl refl is
    (sym (cond-true (bytes_eq b.name x) (cond ((i == b.iffs) && even_from n b.negations) Fine NotPositive)
    (standing_of bs n i x) is)
    ∙ fine))
    (λ (is : bytes_eq b.name x ≡ false). fine_later b bs n i x is
    (fine_at bs n i x
    (sym (cond-false (bytes_eq b.name x) (cond ((i == b.iffs) && even_from n b.negations) Fine NotPositive)
    (standing_of bs n i x) is)
    ∙ fine)))
    (cases_Bool (bytes_eq b.name x))

-- a name with a binder is among the names
found_bound : (bs : List Around) (x : List ℕ) (b : Around)
    → innermost bs x ≡ Some b
    → list_any (λ y. bytes_eq y x) (names bs) ≡ true
found_bound [] x b is = absurd (cc)
found_bound (a ∷ bs) x b is =
    ⊎_elim
    (λ (here : bytes_eq a.name x ≡ true). or_left (bytes_eq a.name x) (list_any (λ y. bytes_eq y x) (names bs)) here)
    (λ (other : bytes_eq a.name x ≡ false). or_right (bytes_eq a.name x) (list_any (λ y. bytes_eq y x) (names bs))
    (found_bound bs x b (sym (cond-false (bytes_eq a.name x) (Some a) (innermost bs x) other) ∙ is)))
    (cases_Bool (bytes_eq a.name x))

-- x occurs in f only as its binder b allows, where n negations and i iffs stand around f
pub record IsOnly (b : Around) (n i : ℕ) (x : List ℕ) (f : Formula) : Type 0 where
  pub here : i ≡ b.iffs → occurs_only (even_from n b.negations) x f ≡ true
  pub under : b.iffs < i → (occurs_only true x f ≡ true) × (occurs_only false x f ≡ true)

-- the binders around stand under fewer negations and iffs
abbrev pub AreAround : List Around → ℕ → ℕ → Type 0
AreAround bs n i = (x : List ℕ) (b : Around) → innermost bs x ≡ Some b → (b.negations ≤ n) × (b.iffs ≤ i)

pub record IsWell (bs : List Around) (n i : ℕ) (f : Formula) : Type 0 where
  pub bound : is_bound (names bs) f ≡ true
  pub positive : is_positive f ≡ true
  pub only : (x : List ℕ) (b : Around) → innermost bs x ≡ Some b → IsOnly b n i x f

-- ---- one line for each kind of formula

only_both : (b : Around) (n i : ℕ) (x : List ℕ) (f g : Formula)
    → IsOnly b n i x f
    → IsOnly b n i x g
    → IsOnly b n i x (Binary And f g)
only_both b n i x f g p q = record {
  here = λ same. and_from (occurs_only (even_from n b.negations) x f) (occurs_only (even_from n b.negations) x g) (p.here same) (q.here same);
  under =
      λ less. (
        and_from (occurs_only true x f) (occurs_only true x g) (p.under less).0 (q.under less).0,
        and_from (occurs_only false x f) (occurs_only false x g) (p.under less).1 (q.under less).1,
      );
}

only_not : (b : Around) (n i : ℕ) (x : List ℕ) (f : Formula)
    → b.negations ≤ n
    → IsOnly b (n + 1) i x f
    → IsOnly b n i x (Not f)
only_not b n i x f le p = record {
  here = λ same. ap (λ s. occurs_only s x f) (sym (even_more n b.negations le)) ∙ p.here same;
  under = λ less. ((p.under less).1, (p.under less).0);
}

only_implies : (b : Around) (n i : ℕ) (x : List ℕ) (f g : Formula)
    → b.negations ≤ n
    → IsOnly b (n + 1) i x f
    → IsOnly b n i x g
    → IsOnly b n i x (Binary Implies f g)
only_implies b n i x f g le p q =
    let left : IsOnly b n i x (Not f) = only_not b n i x f le p in
    record {
      here =
          λ same. and_from (occurs_only (not (even_from n b.negations)) x f) (occurs_only (even_from n b.negations) x g)
          (left.here same) (q.here same);
      under =
          λ less. (
            and_from (occurs_only false x f) (occurs_only true x g) (left.under less).0 (q.under less).0,
            and_from (occurs_only true x f) (occurs_only false x g) (left.under less).1 (q.under less).1,
          );
    }

only_iff : (b : Around) (n i : ℕ) (x : List ℕ) (f g : Formula)
    → b.iffs ≤ i
    → IsOnly b n (i + 1) x f
    → IsOnly b n (i + 1) x g
    → IsOnly b n i x (Binary Iff f g)
only_iff b n i x f g le p q =
    let less : b.iffs < i + 1 = omega arith in
    let l = p.under less in
    let r = q.under less in
    let all : ((occurs_only true x f && occurs_only false x f) && (occurs_only true x g && occurs_only false x g)) ≡ true =
    and_from _ _ (and_from (occurs_only true x f) (occurs_only false x f) l.0 l.1) (and_from (occurs_only true x g) (occurs_only false x g) r.0 r.1)
    in
    record { here = λ same. all; under = λ less. (all, all) }

only_binder : (q : Rattle.ml_mu.specs.Formula.Fixpoint) (b : Around) (n i : ℕ) (x y : List ℕ) (f : Formula)
    → (bytes_eq y x ≡ false → IsOnly b n i x f)
    → IsOnly b n i x (Binder q y f)
only_binder q b n i x y f later =
    ⊎_elim
    (λ (same : bytes_eq x y ≡ true). let all : (s : Bool) → cond (bytes_eq x y) true (occurs_only s x f) ≡ true =
    λ s. cond-true (bytes_eq x y) true (occurs_only s x f) same
    in
    record { here = λ e. all (even_from n b.negations); under = λ l. (all true, all false) })
    (λ (other : bytes_eq x y ≡ false).
    let o : IsOnly b n i x f = later (not_same y x other) in
    record {
      here = λ e. cond-false (bytes_eq x y) true (occurs_only (even_from n b.negations) x f) other ∙ o.here e;
      under =
          λ l. (
            cond-false (bytes_eq x y) true (occurs_only true x f) other ∙ (o.under l).0,
            cond-false (bytes_eq x y) true (occurs_only false x f) other ∙ (o.under l).1,
          );
    })
    (cases_Bool (bytes_eq x y))
  where
    not_same : (y x : List ℕ) → bytes_eq x y ≡ false → bytes_eq y x ≡ false
    not_same y x other =
        ⊎_elim
        (λ (same : bytes_eq y x ≡ true). let e = (bytes_eq-Decides y x).0 same in let back = (bytes_eq-Decides x y).1 (sym e) in absurd (cc))
        (λ (is : bytes_eq y x ≡ false). is)
        (cases_Bool (bytes_eq y x))

well_var : (bs : List Around) (n i : ℕ) (x : List ℕ) → standing_of bs n i x ≡ Fine → IsWell bs n i (Var x)
well_var bs n i x fine =
    let at : FineAt bs n i x = fine_at bs n i x fine in
    record {
      bound = found_bound bs x at.binder at.found;
      positive = refl;
      only = λ y b is.
          ⊎_elim
          (λ (same : bytes_eq y x ≡ true).
          let e = (bytes_eq-Decides y x).0 same in
          let found : innermost bs x ≡ Some b = ap (innermost bs) (sym e) ∙ is in
          let b_is : at.binder ≡ b = cc (at.found, found) in
          subst (λ b. IsOnly b n i y (Var x)) b_is (record {
            here = λ here. cond-true (bytes_eq y x) (even_from n at.binder.negations) true same ∙ at.even;
            under = λ less. absurd (omega (arith, at.same));
          }))
          (λ (other : bytes_eq y x ≡ false).
          let all : (s : Bool) → cond (bytes_eq y x) s true ≡ true = λ s. cond-false (bytes_eq y x) s true other in
          record { here = λ e. all (even_from n b.negations); under = λ l. (all true, all false) })
          (cases_Bool (bytes_eq y x));
    }

fine_one : (s : Standing) → are_fine (s ∷ []) ≡ true → s ≡ Fine
fine_one Fine is = refl
fine_one Unbound is = absurd (cc)
fine_one NotPositive is = absurd (cc)

pub around_more : (bs : List Around) (n i : ℕ) → AreAround bs n i → AreAround bs (n + 1) i
around_more bs n i around = λ x b is. let a = around x b is in (omega arith, a.1)

pub around_iff : (bs : List Around) (n i : ℕ) → AreAround bs n i → AreAround bs n (i + 1)
around_iff bs n i around = λ x b is. let a = around x b is in (a.0, omega arith)

pub around_binder : (bs : List Around) (n i : ℕ) (x : List ℕ) → AreAround bs n i → AreAround (record { name = x; negations = n; iffs = i } ∷ bs) n i
around_binder bs n i x around = λ y b is.
    ⊎_elim
    (λ (here : bytes_eq x y ≡ true). let e : (record { name = x; negations = n; iffs = i }) ≡ b =
    cc
    (sym (cond-true (bytes_eq x y) (Some (record { name = x; negations = n; iffs = i })) (innermost bs y) here) ∙ is)
    in
    subst (λ c. (c.negations ≤ n) × (c.iffs ≤ i)) e (omega arith, omega arith))
    (λ (other : bytes_eq x y ≡ false). around y b
    (sym (cond-false (bytes_eq x y) (Some (record { name = x; negations = n; iffs = i })) (innermost bs y) other)
    ∙ is))
    (cases_Bool (bytes_eq x y))

-- ---- all formulas

pub well : (f : Formula) (bs : List Around) (n i : ℕ)
    → AreAround bs n i
    → are_fine (standings_in bs n i f) ≡ true
    → IsWell bs n i f
well (Const c) bs n i around fine = record { bound = refl; positive = refl; only = λ x b is. record { here = λ e. refl; under = λ l. (refl, refl) } }
well (Prop p) bs n i around fine = record { bound = refl; positive = refl; only = λ x b is. record { here = λ e. refl; under = λ l. (refl, refl) } }
well (Var x) bs n i around fine = well_var bs n i x (fine_one (standing_of bs n i x) fine)
well (Not f) bs n i around fine =
    let w : IsWell bs (n + 1) i f = well f bs (n + 1) i (around_more bs n i around) fine in
    record { bound = w.bound; positive = w.positive; only = λ x b is. only_not b n i x f (around x b is).0 (w.only x b is) }
well (Binary And f g) bs n i around fine =
    let parts = fine_parts (standings_in bs n i f) (standings_in bs n i g) fine in
    let l : IsWell bs n i f = well f bs n i around parts.0 in
    let r : IsWell bs n i g = well g bs n i around parts.1 in
    record {
      bound = and_from (is_bound (names bs) f) (is_bound (names bs) g) l.bound r.bound;
      positive = and_from (is_positive f) (is_positive g) l.positive r.positive;
      only = λ x b is. only_both b n i x f g (l.only x b is) (r.only x b is);
    }
well (Binary Or f g) bs n i around fine =
    let parts = fine_parts (standings_in bs n i f) (standings_in bs n i g) fine in
    let l : IsWell bs n i f = well f bs n i around parts.0 in
    let r : IsWell bs n i g = well g bs n i around parts.1 in
    record {
      bound = and_from (is_bound (names bs) f) (is_bound (names bs) g) l.bound r.bound;
      positive = and_from (is_positive f) (is_positive g) l.positive r.positive;
      only =
          λ x b is.
          let o : IsOnly b n i x (Binary And f g) = only_both b n i x f g (l.only x b is) (r.only x b is) in
          record { here = o.here; under = o.under };
    }
well (Binary Implies f g) bs n i around fine =
    let parts = fine_parts (standings_in bs (n + 1) i f) (standings_in bs n i g) fine in
    let l : IsWell bs (n + 1) i f = well f bs (n + 1) i (around_more bs n i around) parts.0 in
    let r : IsWell bs n i g = well g bs n i around parts.1 in
    record {
      bound = and_from (is_bound (names bs) f) (is_bound (names bs) g) l.bound r.bound;
      positive = and_from (is_positive f) (is_positive g) l.positive r.positive;
      only = λ x b is. only_implies b n i x f g (around x b is).0 (l.only x b is) (r.only x b is);
    }
well (Binary Iff f g) bs n i around fine =
    let parts = fine_parts (standings_in bs n (i + 1) f) (standings_in bs n (i + 1) g) fine in
    let l : IsWell bs n (i + 1) f = well f bs n (i + 1) (around_iff bs n i around) parts.0 in
    let r : IsWell bs n (i + 1) g = well g bs n (i + 1) (around_iff bs n i around) parts.1 in
    record {
      bound = and_from (is_bound (names bs) f) (is_bound (names bs) g) l.bound r.bound;
      positive = and_from (is_positive f) (is_positive g) l.positive r.positive;
      only = λ x b is. only_iff b n i x f g (around x b is).1 (l.only x b is) (r.only x b is);
    }
well (Modal m a f) bs n i around fine =
    let w : IsWell bs n i f = well f bs n i around fine in
    record { bound = w.bound; positive = w.positive; only = λ x b is. let o : IsOnly b n i x f = w.only x b is in record { here = o.here; under = o.under } }
well (Binder q y f) bs n i around fine =
    let here : Around = record { name = y; negations = n; iffs = i } in
    let w : IsWell (here ∷ bs) n i f = well f (here ∷ bs) n i (around_binder bs n i y around) fine in
    let own : IsOnly here n i y f = w.only y here (cond-true (bytes_eq y y) (Some here) (innermost bs y) ((bytes_eq-Decides y y).1 refl)) in
    let even : even_from n n ≡ true = ap (λ k. k % 2 == 0) (Rattle.std.proofs.Math.Nat.sub_self n) in
    record {
      bound = w.bound;
      positive = and_from (occurs_only true y f) (is_positive f) (ap (λ s. occurs_only s y f) (sym even) ∙ own.here refl) w.positive;
      only = λ x b is. only_binder q b n i x y f (λ other. w.only x b (cond-false (bytes_eq y x) (Some here) (innermost bs x) other ∙ is));
    }

pub record IsWellBound (f : Formula) : Type 0 where
  pub bound : is_bound [] f ≡ true
  pub positive : is_positive f ≡ true

pub fine_well : (f : Formula) → are_fine (standings f) ≡ true → IsWellBound f
fine_well f fine =
    let w : IsWell [] 0 0 f = well f [] 0 0 (λ x b is. absurd (cc)) fine in
    record { bound = w.bound; positive = w.positive }
