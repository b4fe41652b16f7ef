-- Propositions and their truth values.
--
-- With a value for each of its parts a proposition made of connectives has the value that a table gives.
--
--   Says P b                  == P holds exactly where b is true
--   says_same, says_by        == an equal value, and a proposition that is as good
--   both_say, either_says     == both of two, and one of two
--   not_says, implies_says    == not, and if one then the other
--   equal_values, same_truth  == what holds together has one value
--   not-and, not-or, iff_is   == De Morgan's laws, and equivalence as two implications
use Rattle.std.proofs.Common.{◌≡◌, ◌↔◌, ◌⊎◌, inl, inr, Bool, true, false, not, ◌&&◌, ◌||◌, refl, sym, subst, ⊎_elim}
use Rattle.std.proofs.lemmas.Bool.{false≢true, and_from, and_parts}

abbrev pub Says : Type 0 → Bool → Type 0
Says P b = P ↔ (b ≡ true)

pub says_same : (P : Type 0) (b c : Bool) → b ≡ c → Says P b → Says P c
says_same P b c e says = subst (Says P) e says

pub says_by : (P Q : Type 0) (b : Bool) → P ↔ Q → Says Q b → Says P b
says_by P Q b same says = (λ p. says.0 (same.0 p), λ e. same.1 (says.1 e))

pub both_say : (P Q : Type 0) (a b : Bool) → Says P a → Says Q b → Says (P × Q) (a && b)
both_say P Q a b x y =
    (λ h. and_from a b (x.0 h.0) (y.0 h.1), λ e. let parts = and_parts a b e in (x.1 parts.0, y.1 parts.1))

pub either_says : (P Q : Type 0) (a b : Bool) → Says P a → Says Q b → Says (P ⊎ Q) (a || b)
either_says P Q true b x y = (λ h. refl, λ e. inl (x.1 refl))
either_says P Q false b x y = (
  λ h. ⊎_elim (λ (p : P). absurd (false≢true (x.0 p))) (λ (q : Q). y.0 q) h,
  λ e. inr (y.1 e),
)

pub not_says : (P : Type 0) (a : Bool) → Says P a → Says (P → ⊥) (not a)
not_says P true x = (λ none. absurd (none (x.1 refl)), λ e. absurd (false≢true e))
not_says P false x = (λ none. refl, λ e p. false≢true (x.0 p))

pub implies_says : (P Q : Type 0) (a b : Bool) → Says P a → Says Q b → Says (P → Q) (not a || b)
implies_says P Q true b x y = (λ h. y.0 (h (x.1 refl)), λ e p. y.1 e)
implies_says P Q false b x y = (λ h. refl, λ e p. absurd (false≢true (x.0 p)))

pub same_truth : (a b : Bool) → (a ≡ true → b ≡ true) → (b ≡ true → a ≡ true) → a ≡ b
same_truth true b to from = sym (to refl)
same_truth false true to from = from refl
same_truth false false to from = refl

pub equal_values : (P Q : Type 0) (a b : Bool) → P ↔ Q → Says P a → Says Q b → a ≡ b
equal_values P Q a b same x y = same_truth a b (λ e. y.0 (same.0 (x.1 e))) (λ e. x.0 (same.1 (y.1 e)))

pub not-and : (a b : Bool) → (not a || not b) ≡ not (a && b)
not-and true b = refl
not-and false b = refl

pub not-or : (a b : Bool) → (not a && not b) ≡ not (a || b)
not-or true b = refl
not-or false b = refl

pub iff_is : (a b : Bool) → ((a && b) || (not a && not b)) ≡ ((not a || b) && (not b || a))
iff_is true true = refl
iff_is true false = refl
iff_is false true = refl
iff_is false false = refl
