-- Truth is decided at each place of a path along which quantified formulas are.
--
--   decided_untils, decided_releases == iterates of decided properties
--   truth_is_decided                 == the law
use Rattle.std.proofs.Common.{ℕ, zero, suc, ◌<◌, ◌⊎◌, inl, inr}
use Rattle.ml_lists.specs.Lasso.{Lasso, entry, next_place}
use Rattle.ml_lists.proofs.Decided.{decided_test, decided_both, decided_either}
use Rattle.ml_lists.proofs.Deciding.{decided_if, decided_not}
use Rattle.ml_text.specs.declared.token.Operator.TheVariants as operator
use Rattle.ml_base.specs.Structure.{Structure, lists}
use Rattle.ml_ctl.specs.Formula as plain
use Rattle.ml_ctl.specs.Formula.{Formula}
use Rattle.ml_ctl.specs.declared.term.Tense.TheVariants as tense
use Rattle.ml_ctl.specs.declared.term.Pairing.TheVariants as pairing
use Rattle.ml_ctl.specs.Laws.{IsDecided, IsDecidedAlong}
use Rattle.ml_ctl.specs.Meaning.{Nowhere, Everywhere, TruthAt}
use Rattle.ml_ctl.specs.Paths.{places}
use Rattle.ml_ctl.specs.Unrolled.{IsPlace}
use Rattle.ml_ctl.proofs.Iterated.{untils, releases}
use Rattle.ml_ctl.proofs.StepByStep.{closed, next_is_place}
use Rattle.ml_blocks.specs.Laws.{TruthIsDecided}

module _ (next : ℕ → ℕ) (n : ℕ) (closes : (y : ℕ) → y < n → next y < n) (F G : ℕ → Type 0)
    (decided_f : (x : ℕ) → x < n → IsDecided (F x)) (decided_g : (x : ℕ) → x < n → IsDecided (G x)) where
  pub decided_untils : (k x : ℕ) → x < n → IsDecided (untils next F G k x)
  decided_untils zero x low = inr (λ none. none)
  decided_untils (suc k) x low =
      decided_either (decided_g x low) (decided_both (decided_f x low) (decided_untils k (next x) (closes x low)))

  pub decided_releases : (k x : ℕ) → x < n → IsDecided (releases next F G k x)
  decided_releases zero x low = inl tt
  decided_releases (suc k) x low =
      decided_both (decided_g x low) (decided_either (decided_f x low) (decided_releases k (next x) (closes x low)))

-- what is decided along l, at places as numbers
pub along : (m : Structure) (l : Lasso) (f : Formula) → l.start < places l → IsDecidedAlong m l f
    → (x : ℕ)
    → x < places l
    → IsDecided (TruthAt m l f x)
along m l f starts decided x low = decided x (starts, low)

module _ (m : Structure) (l : Lasso) where
  until_decided : (F G : ℕ → Type 0)
      → ((x : ℕ) → IsPlace l x → IsDecided (F x))
      → ((x : ℕ) → IsPlace l x → IsDecided (G x))
      → (i : ℕ)
      → IsPlace l i
      → IsDecided (untils (next_place l) F G (places l) i)
  until_decided F G f g i place =
      decided_untils (next_place l) (places l) (closed l place.0) F G (λ x low. f x (place.0, low))
      (λ x low. g x (place.0, low)) (places l) i place.1

  release_decided : (F G : ℕ → Type 0)
      → ((x : ℕ) → IsPlace l x → IsDecided (F x))
      → ((x : ℕ) → IsPlace l x → IsDecided (G x))
      → (i : ℕ)
      → IsPlace l i
      → IsDecided (releases (next_place l) F G (places l) i)
  release_decided F G f g i place =
      decided_releases (next_place l) (places l) (closed l place.0) F G (λ x low. f x (place.0, low))
      (λ x low. g x (place.0, low)) (places l) i place.1

pub truth_is_decided : TruthIsDecided
truth_is_decided m l (plain.Const b) given i place = decided_test b
truth_is_decided m l (plain.Prop p) given i place = decided_test (lists m (entry l i) p)
truth_is_decided m l (plain.Not f) given i place = decided_not (truth_is_decided m l f given i place)
truth_is_decided m l (plain.Binary operator.And f g) given i place =
    decided_both (truth_is_decided m l f given.0 i place) (truth_is_decided m l g given.1 i place)
truth_is_decided m l (plain.Binary operator.Or f g) given i place =
    decided_either (truth_is_decided m l f given.0 i place) (truth_is_decided m l g given.1 i place)
truth_is_decided m l (plain.Binary operator.Implies f g) given i place =
    decided_if (truth_is_decided m l f given.0 i place) (λ p. truth_is_decided m l g given.1 i place)
truth_is_decided m l (plain.Binary operator.Iff f g) given i place =
    let a = truth_is_decided m l f given.0 i place in
    let b = truth_is_decided m l g given.1 i place in
    decided_both (decided_if a (λ p. b)) (decided_if b (λ p. a))
truth_is_decided m l (plain.Temporal tense.Next f) given i place =
    truth_is_decided m l f given (next_place l i) (next_is_place l i place)
truth_is_decided m l (plain.Temporal tense.Finally f) given i place =
    until_decided m l Everywhere (TruthAt m l f) (λ x p. inl tt) (truth_is_decided m l f given) i place
truth_is_decided m l (plain.Temporal tense.Globally f) given i place =
    release_decided m l Nowhere (TruthAt m l f) (λ x p. inr (λ none. none)) (truth_is_decided m l f given) i place
truth_is_decided m l (plain.Paired pairing.Until f g) given i place =
    until_decided m l (TruthAt m l f) (TruthAt m l g) (truth_is_decided m l f given.0)
    (truth_is_decided m l g given.1) i place
truth_is_decided m l (plain.Paired pairing.Release f g) given i place =
    release_decided m l (TruthAt m l f) (TruthAt m l g) (truth_is_decided m l f given.0)
    (truth_is_decided m l g given.1) i place
truth_is_decided m l (plain.Paired pairing.Weak f g) given i place =
    release_decided m l (TruthAt m l g) (λ x. TruthAt m l f x ⊎ TruthAt m l g x) (truth_is_decided m l g given.1)
    (λ x p. decided_either (truth_is_decided m l f given.0 x p) (truth_is_decided m l g given.1 x p)) i place
truth_is_decided m l (plain.Quantified q f) given i place = given i place
