-- Formulas whose propositions are replaced are as sound as before.
--
--   IsAmong xs x      == x is one of the names xs
--   bound_among       == what is bound by names is bound by more of them
--   occurs_nowhere    == a variable that doesn't bind a formula's variables from outside doesn't occur in it
--   itself            == a formula is as sound as itself
--   sound             == a formula that the program holds is as sound as any
--   behind_not, under_operator, behind_modality, behind_binder == so are formulas with operands that are
--   replaced_is_held  == what is as sound as a formula that the program holds, the program holds too, if it is small enough
use Rattle.std.proofs.Common.{◌≡◌, ℕ, ◌≤◌, Bool, true, false, not, ◌&&◌, ◌||◌, if◌then◌else◌, List, [], ◌∷◌, ◌++◌, refl, sym, ◌∙◌, ap, ⊎_elim, bytes_eq}
use Rattle.std.specs.List.{list_any}
use Rattle.std.proofs.lemmas.Bool.{and_from, and_parts, cases_Bool, cond-true, cond-false}
use Rattle.std.proofs.lemmas.Slice.Eq.{bytes_eq-Decides}
use Rattle.ml_text.specs.Limits.{most_occurrences}
use Rattle.ml_text.specs.Names.{Action, Variable, are_spelled, is_spelled_name}
use Rattle.ml_text.specs.declared.token.Operator.{Operator}
use Rattle.ml_text.specs.declared.token.Operator.TheVariants.{Iff, Implies, Or, And}
use Rattle.ml_lists.proofs.BothTests.{both_keep}
use Rattle.ml_text.proofs.Names.{short_both, spelled_both_keep}
use Rattle.ml_mu.specs.Formula.{Binary, Binder, Const, Fixpoint, Formula, Modal, Modality, Not, Prop, Var, occurrences}
use Rattle.ml_mu.specs.FormulaNames.{names}
use Rattle.ml_mu.specs.Signs.{own}
use Rattle.ml_mu.specs.Variables.{is_bound, is_positive, occurs_only}
use Rattle.ml_mu.specs.WellFormed.{IsWellFormed}
use Rattle.ml_mu.specs.private.AsSound.{IsAsSound}
use Rattle.ml_mu.proofs.FaultFree.{other_name}

-- ---- closed formulas

abbrev IsAmong : List (List ℕ) → List ℕ → Type 0
IsAmong xs x = list_any (λ y. bytes_eq y x) xs ≡ true

either_keeps : (a b c : Bool) → (b ≡ true → c ≡ true) → (a || b) ≡ true → (a || c) ≡ true
either_keeps true b c keeps is = refl
either_keeps false b c keeps is = keeps is

bound_among : (xs ys : List (List ℕ)) (f : Formula)
    → ((x : List ℕ) → IsAmong xs x → IsAmong ys x)
    → is_bound xs f ≡ true
    → is_bound ys f ≡ true
bound_among xs ys (Const b) more bound = refl
bound_among xs ys (Prop p) more bound = refl
bound_among xs ys (Var x) more bound = more x bound
bound_among xs ys (Not f) more bound = bound_among xs ys f more bound
bound_among xs ys (Binary op f g) more bound =
    both_keep (is_bound xs f) (is_bound xs g) (is_bound ys f) (is_bound ys g)
    (bound_among xs ys f more) (bound_among xs ys g more) bound
bound_among xs ys (Modal m a f) more bound = bound_among xs ys f more bound
bound_among xs ys (Binder q x f) more bound =
    bound_among (x ∷ xs) (x ∷ ys) f
    (λ y. either_keeps (bytes_eq x y) (list_any (λ z. bytes_eq z y) xs) (list_any (λ z. bytes_eq z y) ys) (more y)) bound

closed_bound : (ys : List (List ℕ)) (f : Formula) → is_bound [] f ≡ true → is_bound ys f ≡ true
closed_bound ys f bound = bound_among [] ys f (λ x none. absurd (cc)) bound

-- a bound variable is none that doesn't bind
not_among : (xs : List (List ℕ)) (x y : List ℕ)
    → list_any (λ z. bytes_eq z x) xs ≡ false
    → IsAmong xs y
    → bytes_eq x y ≡ false
not_among xs x y none among =
    ⊎_elim
    (λ (same : bytes_eq x y ≡ true).
    let is : x ≡ y = (bytes_eq-Decides x y).0 same in
    let here : list_any (λ z. bytes_eq z x) xs ≡ list_any (λ z. bytes_eq z y) xs =
    ap (λ v. list_any (λ z. bytes_eq z v) xs) is in
    absurd (cc))
    (λ (other : bytes_eq x y ≡ false). other)
    (cases_Bool (bytes_eq x y))

occurs_nowhere : (xs : List (List ℕ)) (x : List ℕ) (sign : Bool) (f : Formula)
    → list_any (λ y. bytes_eq y x) xs ≡ false
    → is_bound xs f ≡ true
    → occurs_only sign x f ≡ true
occurs_nowhere xs x sign (Const b) none bound = refl
occurs_nowhere xs x sign (Prop p) none bound = refl
occurs_nowhere xs x sign (Var y) none bound = cond-false (bytes_eq x y) sign true (not_among xs x y none bound)
occurs_nowhere xs x sign (Not f) none bound = occurs_nowhere xs x (not sign) f none bound
occurs_nowhere xs x sign (Binary And f g) none bound =
    let parts = and_parts (is_bound xs f) (is_bound xs g) bound in
    and_from (occurs_only sign x f) (occurs_only sign x g)
    (occurs_nowhere xs x sign f none parts.0) (occurs_nowhere xs x sign g none parts.1)
occurs_nowhere xs x sign (Binary Or f g) none bound =
    let parts = and_parts (is_bound xs f) (is_bound xs g) bound in
    and_from (occurs_only sign x f) (occurs_only sign x g)
    (occurs_nowhere xs x sign f none parts.0) (occurs_nowhere xs x sign g none parts.1)
occurs_nowhere xs x sign (Binary Implies f g) none bound =
    let parts = and_parts (is_bound xs f) (is_bound xs g) bound in
    and_from (occurs_only (not sign) x f) (occurs_only sign x g)
    (occurs_nowhere xs x (not sign) f none parts.0) (occurs_nowhere xs x sign g none parts.1)
occurs_nowhere xs x sign (Binary Iff f g) none bound =
    let parts = and_parts (is_bound xs f) (is_bound xs g) bound in
    and_from (occurs_only true x f && occurs_only false x f) (occurs_only true x g && occurs_only false x g)
    (and_from (occurs_only true x f) (occurs_only false x f)
    (occurs_nowhere xs x true f none parts.0) (occurs_nowhere xs x false f none parts.0))
    (and_from (occurs_only true x g) (occurs_only false x g)
    (occurs_nowhere xs x true g none parts.1) (occurs_nowhere xs x false g none parts.1))
occurs_nowhere xs x sign (Modal m a f) none bound = occurs_nowhere xs x sign f none bound
occurs_nowhere xs x sign (Binder q y f) none bound =
    ⊎_elim
    (λ (same : bytes_eq x y ≡ true). cond-true (bytes_eq x y) true (occurs_only sign x f) same)
    (λ (other : bytes_eq x y ≡ false).
    cond-false (bytes_eq x y) true (occurs_only sign x f) other
    ∙ occurs_nowhere (y ∷ xs) x sign f
    (ap (λ b. b || list_any (λ z. bytes_eq z x) xs) (other_name x y other) ∙ none) bound)
    (cases_Bool (bytes_eq x y))

-- ---- leaves

pub itself : (f : Formula) → IsAsSound f f
itself f = record {
  names_are_short = λ short. short;
  names_are_spelled = λ spelled. spelled;
  variables_are_bound = λ xs bound. bound;
  variables_occur = λ sign x only. only;
  variables_are_positive = λ positive. positive;
}

pub sound : (f g : Formula) → IsWellFormed g → IsAsSound f g
sound f g held = record {
  names_are_short = λ short. held.names_are_short;
  names_are_spelled = λ spelled. held.names_are_spelled;
  variables_are_bound = λ xs bound. closed_bound xs g held.variables_are_bound;
  variables_occur = λ sign x only. occurs_nowhere [] x sign g refl held.variables_are_bound;
  variables_are_positive = λ positive. held.variables_are_positive;
}

-- ---- one operand

pub behind_not : (f g : Formula) → IsAsSound f g → IsAsSound (Not f) (Not g)
behind_not f g kept = record {
  names_are_short = kept.names_are_short;
  names_are_spelled = kept.names_are_spelled;
  variables_are_bound = kept.variables_are_bound;
  variables_occur = λ sign. kept.variables_occur (not sign);
  variables_are_positive = kept.variables_are_positive;
}

pub behind_modality : (m : Modality) (a : List ℕ) (f g : Formula) → IsAsSound f g → IsAsSound (Modal m a f) (Modal m a g)
behind_modality m a f g kept = record {
  names_are_short = λ short. (short.0, kept.names_are_short short.1);
  names_are_spelled =
      both_keep (is_spelled_name own (Action, a)) (are_spelled own (names f)) (is_spelled_name own (Action, a))
      (are_spelled own (names g)) (λ is. is) kept.names_are_spelled;
  variables_are_bound = kept.variables_are_bound;
  variables_occur = kept.variables_occur;
  variables_are_positive = kept.variables_are_positive;
}

unless_keeps : (b c d : Bool)
    → (c ≡ true → d ≡ true)
    → (if b then true else c) ≡ true
    → (if b then true else d) ≡ true
unless_keeps true c d keeps is = refl
unless_keeps false c d keeps is = keeps is

pub behind_binder : (q : Fixpoint) (x : List ℕ) (f g : Formula) → IsAsSound f g → IsAsSound (Binder q x f) (Binder q x g)
behind_binder q x f g kept = record {
  names_are_short = λ short. (short.0, kept.names_are_short short.1);
  names_are_spelled =
      both_keep (is_spelled_name own (Variable, x)) (are_spelled own (names f)) (is_spelled_name own (Variable, x))
      (are_spelled own (names g)) (λ is. is) kept.names_are_spelled;
  variables_are_bound = λ xs. kept.variables_are_bound (x ∷ xs);
  variables_occur = λ sign y.
      unless_keeps (bytes_eq y x) (occurs_only sign y f) (occurs_only sign y g) (kept.variables_occur sign y);
  variables_are_positive =
      both_keep (occurs_only true x f) (is_positive f) (occurs_only true x g) (is_positive g)
      (kept.variables_occur true x) kept.variables_are_positive;
}

-- ---- two operands

abbrev OccursAlike : Formula → Formula → Type 0
OccursAlike f g = (sign : Bool) (x : List ℕ) → occurs_only sign x f ≡ true → occurs_only sign x g ≡ true

occur_both : (op : Operator) (f g h k : Formula)
    → OccursAlike f g
    → OccursAlike h k
    → OccursAlike (Binary op f h) (Binary op g k)
occur_both And f g h k one other sign x =
    both_keep (occurs_only sign x f) (occurs_only sign x h) (occurs_only sign x g) (occurs_only sign x k)
    (one sign x) (other sign x)
occur_both Or f g h k one other sign x =
    both_keep (occurs_only sign x f) (occurs_only sign x h) (occurs_only sign x g) (occurs_only sign x k)
    (one sign x) (other sign x)
occur_both Implies f g h k one other sign x =
    both_keep (occurs_only (not sign) x f) (occurs_only sign x h) (occurs_only (not sign) x g) (occurs_only sign x k)
    (one (not sign) x) (other sign x)
occur_both Iff f g h k one other sign x =
    both_keep (occurs_only true x f && occurs_only false x f) (occurs_only true x h && occurs_only false x h)
    (occurs_only true x g && occurs_only false x g) (occurs_only true x k && occurs_only false x k)
    (both_keep (occurs_only true x f) (occurs_only false x f) (occurs_only true x g) (occurs_only false x g)
    (one true x) (one false x))
    (both_keep (occurs_only true x h) (occurs_only false x h) (occurs_only true x k) (occurs_only false x k)
    (other true x) (other false x))

pub under_operator : (op : Operator) (f g h k : Formula)
    → IsAsSound f g
    → IsAsSound h k
    → IsAsSound (Binary op f h) (Binary op g k)
under_operator op f g h k one other = record {
  names_are_short = short_both (names f) (names g) (names h) (names k) one.names_are_short other.names_are_short;
  names_are_spelled = spelled_both_keep own (names f) (names g) (names h) (names k) one.names_are_spelled other.names_are_spelled;
  variables_are_bound = λ xs.
      both_keep (is_bound xs f) (is_bound xs h) (is_bound xs g) (is_bound xs k)
      (one.variables_are_bound xs) (other.variables_are_bound xs);
  variables_occur = occur_both op f g h k one.variables_occur other.variables_occur;
  variables_are_positive =
      both_keep (is_positive f) (is_positive h) (is_positive g) (is_positive k)
      one.variables_are_positive other.variables_are_positive;
}

-- ---- what is held

pub replaced_is_held : (f g : Formula)
    → IsWellFormed f
    → IsAsSound f g
    → occurrences g ≤ most_occurrences
    → IsWellFormed g
replaced_is_held f g held kept small = record {
  is_small = small;
  names_are_short = kept.names_are_short held.names_are_short;
  names_are_spelled = kept.names_are_spelled held.names_are_spelled;
  variables_are_bound = kept.variables_are_bound [] held.variables_are_bound;
  variables_are_positive = kept.variables_are_positive held.variables_are_positive;
}
