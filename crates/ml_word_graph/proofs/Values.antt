-- The truth values of formulas of LTL along a lasso, computed.
--
--   Says P b           == P holds exactly where b is true
--   both_say, either_says, not_says, equal_values == of propositions together, and of equivalent ones
--   truth m l f i      == the truth value of f at the place i of the lasso l
--   says_truth         == it is true where the formula is
use Rattle.std.proofs.Common.{◌≡◌, ◌↔◌, ℕ, zero, suc, ◌⊎◌, Bool, true, false, ◌&&◌, ◌||◌, not, inl, inr, refl, sym, ⊎_elim}
use Rattle.std.proofs.lemmas.Bool.{false≢true, and_parts, and_from}
use Rattle.ml_lists.specs.Lasso.{Lasso, entry, next_place}
use Rattle.ml_base.specs.Structure.{Structure, lists}
use Rattle.ml_text.specs.declared.token.Operator.{Operator}
use Rattle.ml_text.specs.declared.token.Operator.TheVariants as operator
use Rattle.ml_ctl.specs.Formula.{Formula, Const, Prop, Not, Binary, Temporal, Paired, Quantified}
use Rattle.ml_ctl.specs.Sorts.{is_linear}
use Rattle.ml_ctl.specs.declared.term.Tense.{Tense}
use Rattle.ml_ctl.specs.declared.term.Tense.TheVariants as tense
use Rattle.ml_ctl.specs.declared.term.Pairing.{Pairing}
use Rattle.ml_ctl.specs.declared.term.Pairing.TheVariants as pairing
use Rattle.ml_ctl.specs.Laws.{IsDecided}
use Rattle.ml_ctl.specs.Meaning.{Nowhere, Everywhere, TruthAt, iterate_of, until_step, release_step}
use Rattle.ml_ctl.specs.Paths.{places}

abbrev pub Says : Type 0 → Bool → Type 0
Says P b = P ↔ (b ≡ true)

pub both_say : {P Q : Type 0} (a b : Bool) → Says P a → Says Q b → Says (P × Q) (a && b)
both_say a b x y = (λ h. and_from a b (x.0 h.0) (y.0 h.1), λ e. let parts = and_parts a b e in (x.1 parts.0, y.1 parts.1))

pub either_says : {P Q : Type 0} (a b : Bool) → Says P a → Says Q b → Says (P ⊎ Q) (a || b)
either_says true b x y = (λ h. refl, λ e. inl (x.1 refl))
either_says {P = P} {Q = Q} false b x y = (λ h. ⊎_elim (λ (p : P). absurd (false≢true (x.0 p))) (λ (q : Q). y.0 q) h, λ e. inr (y.1 e))

pub not_says : {P : Type 0} (a : Bool) → Says P a → Says (P → ⊥) (not a)
not_says true x = (λ none. absurd (none (x.1 refl)), λ e. absurd (false≢true e))
not_says false x = (λ none. refl, λ e p. false≢true (x.0 p))

pub implies_says : {P Q : Type 0} (a b : Bool) → Says P a → Says Q b → Says (P → Q) (not a || b)
implies_says true b x y = (λ h. y.0 (h (x.1 refl)), λ e p. y.1 e)
implies_says false b x y = (λ h. refl, λ e p. absurd (false≢true (x.0 p)))

pub equal_values : {P Q : Type 0} (a b : Bool) → P ↔ Q → Says P a → Says Q b → a ≡ b
equal_values true true same x y = refl
equal_values true false same x y = sym (y.0 (same.0 (x.1 refl)))
equal_values false true same x y = x.0 (same.1 (y.1 refl))
equal_values false false same x y = refl

pub decided_value : {P : Type 0} (a : Bool) → Says P a → IsDecided P
decided_value true x = inl (x.1 refl)
decided_value false x = inr (λ p. false≢true (x.0 p))

-- ---- the value of each operator

abbrev pub connective_value : Operator → Bool → Bool → Bool
connective_value operator.And a b = a && b
connective_value operator.Or a b = a || b
connective_value operator.Implies a b = not a || b
connective_value operator.Iff a b = (not a || b) && (not b || a)

abbrev pub untils : (ℕ → ℕ) → (f g : ℕ → Bool) → ℕ → ℕ → Bool
untils next f g zero i = false
untils next f g (suc k) i = g i || (f i && untils next f g k (next i))

abbrev pub releases : (ℕ → ℕ) → (f g : ℕ → Bool) → ℕ → ℕ → Bool
releases next f g zero i = true
releases next f g (suc k) i = g i && (f i || releases next f g k (next i))

abbrev pub tense_value : Tense → Lasso → (ℕ → Bool) → ℕ → Bool
tense_value tense.Next l g i = g (next_place l i)
tense_value tense.Finally l g i = untils (next_place l) (λ j. true) g (places l) i
tense_value tense.Globally l g i = releases (next_place l) (λ j. false) g (places l) i

abbrev pub pairing_value : Pairing → Lasso → (f g : ℕ → Bool) → ℕ → Bool
pairing_value pairing.Until l f g i = untils (next_place l) f g (places l) i
pairing_value pairing.Release l f g i = releases (next_place l) f g (places l) i
pairing_value pairing.Weak l f g i = releases (next_place l) g (λ j. f j || g j) (places l) i

abbrev pub truth : Structure → Lasso → Formula → ℕ → Bool
truth m l (Const b) i = b
truth m l (Prop p) i = lists m (entry l i) p
truth m l (Not f) i = not (truth m l f i)
truth m l (Binary op f g) i = connective_value op (truth m l f i) (truth m l g i)
truth m l (Temporal t f) i = tense_value t l (truth m l f) i
truth m l (Paired p f g) i = pairing_value p l (truth m l f) (truth m l g) i
truth m l (Quantified q f) i = false

-- ---- it is true where the formula is

module _ (next : ℕ → ℕ) (F G : ℕ → Type 0) (f g : ℕ → Bool) (x : (i : ℕ) → Says (F i) (f i)) (y : (i : ℕ) → Says (G i) (g i)) where
  pub untils_say : (k i : ℕ) → Says (iterate_of k (until_step next F G) Nowhere i) (untils next f g k i)
  untils_say zero i = (λ none. absurd none, λ e. absurd (false≢true e))
  untils_say (suc k) i =
      either_says (g i) (f i && untils next f g k (next i)) (y i)
      (both_say (f i) (untils next f g k (next i)) (x i) (untils_say k (next i)))

  pub releases_say : (k i : ℕ) → Says (iterate_of k (release_step next F G) Everywhere i) (releases next f g k i)
  releases_say zero i = (λ u. refl, λ e. tt)
  releases_say (suc k) i =
      both_say (g i) (f i || releases next f g k (next i)) (y i)
      (either_says (f i) (releases next f g k (next i)) (x i) (releases_say k (next i)))

everywhere_says : (i : ℕ) → Says (Everywhere i) true
everywhere_says i = (λ u. refl, λ e. tt)

nowhere_says : (i : ℕ) → Says (Nowhere i) false
nowhere_says i = (λ none. absurd none, λ e. absurd (false≢true e))

pub says_truth : (m : Structure) (l : Lasso) (f : Formula) → is_linear f ≡ true → (i : ℕ) → Says (TruthAt m l f i) (truth m l f i)
says_truth m l (Const b) linear i = (λ e. e, λ e. e)
says_truth m l (Prop p) linear i = (λ e. e, λ e. e)
says_truth m l (Not f) linear i = not_says (truth m l f i) (says_truth m l f linear i)
says_truth m l (Binary operator.And f g) linear i =
    let parts = and_parts (is_linear f) (is_linear g) linear in
    both_say (truth m l f i) (truth m l g i) (says_truth m l f parts.0 i) (says_truth m l g parts.1 i)
says_truth m l (Binary operator.Or f g) linear i =
    let parts = and_parts (is_linear f) (is_linear g) linear in
    either_says (truth m l f i) (truth m l g i) (says_truth m l f parts.0 i) (says_truth m l g parts.1 i)
says_truth m l (Binary operator.Implies f g) linear i =
    let parts = and_parts (is_linear f) (is_linear g) linear in
    implies_says (truth m l f i) (truth m l g i) (says_truth m l f parts.0 i) (says_truth m l g parts.1 i)
says_truth m l (Binary operator.Iff f g) linear i =
    let parts = and_parts (is_linear f) (is_linear g) linear in
    let x = says_truth m l f parts.0 i in
    let y = says_truth m l g parts.1 i in
    both_say (not (truth m l f i) || truth m l g i) (not (truth m l g i) || truth m l f i)
    (implies_says (truth m l f i) (truth m l g i) x y) (implies_says (truth m l g i) (truth m l f i) y x)
says_truth m l (Temporal tense.Next f) linear i = says_truth m l f linear (next_place l i)
says_truth m l (Temporal tense.Finally f) linear i =
    untils_say (next_place l) Everywhere (TruthAt m l f) (λ j. true) (truth m l f) everywhere_says (says_truth m l f linear)
    (places l) i
says_truth m l (Temporal tense.Globally f) linear i =
    releases_say (next_place l) Nowhere (TruthAt m l f) (λ j. false) (truth m l f) nowhere_says (says_truth m l f linear)
    (places l) i
says_truth m l (Paired pairing.Until f g) linear i =
    let parts = and_parts (is_linear f) (is_linear g) linear in
    untils_say (next_place l) (TruthAt m l f) (TruthAt m l g) (truth m l f) (truth m l g) (says_truth m l f parts.0)
    (says_truth m l g parts.1) (places l) i
says_truth m l (Paired pairing.Release f g) linear i =
    let parts = and_parts (is_linear f) (is_linear g) linear in
    releases_say (next_place l) (TruthAt m l f) (TruthAt m l g) (truth m l f) (truth m l g) (says_truth m l f parts.0)
    (says_truth m l g parts.1) (places l) i
says_truth m l (Paired pairing.Weak f g) linear i =
    let parts = and_parts (is_linear f) (is_linear g) linear in
    let x = says_truth m l f parts.0 in
    let y = says_truth m l g parts.1 in
    releases_say (next_place l) (TruthAt m l g) (λ j. TruthAt m l f j ⊎ TruthAt m l g j) (truth m l g)
    (λ j. truth m l f j || truth m l g j) y (λ j. either_says (truth m l f j) (truth m l g j) (x j) (y j)) (places l) i
says_truth m l (Quantified q f) linear i = absurd (false≢true linear)
