-- Negations of temporal operators and of quantifiers.
--
--   not_until, until_not        == the iterates of U and those of R of the negations exclude one another, and one of both holds
--   not_release, release_not    == the same of R
--   negations_of_..             == the laws
use Rattle.std.proofs.Common.{ℕ, zero, suc, ◌<◌, ◌⊎◌, inl, inr, ⊎_elim}
use Rattle.ml_lists.specs.Lasso.{next_place}
use Rattle.ml_lists.proofs.Decided.{decided_either}
use Rattle.ml_ctl.specs.Formula.{Quantified}
use Rattle.ml_ctl.specs.declared.term.Quantifier.TheVariants.{Exists}
use Rattle.ml_ctl.specs.Laws.{IsDecided, NegationsOfNext, NegationsOfUntil, NegationsOfRelease, NegationsOfWeak, NegationsOfFinally, NegationsOfGlobally, AllAreNotSome, SomeAreNotAll}
use Rattle.ml_ctl.specs.Meaning.{Nowhere, Everywhere, TruthAt, Satisfies, HoldsAt}
use Rattle.ml_ctl.specs.Paths.{places}
use Rattle.ml_ctl.proofs.Iterated.{untils, releases, until_maps, release_maps}
use Rattle.ml_ctl.proofs.StepByStep.{closed}

module _ (next : ℕ → ℕ) (n : ℕ) (closes : (y : ℕ) → y < n → next y < n) (F G : ℕ → Type 0) where
  abbrev NotF : ℕ → Type 0
  NotF x = F x → ⊥

  abbrev NotG : ℕ → Type 0
  NotG x = G x → ⊥

  pub not_until : ((x : ℕ) → x < n → IsDecided (F x))
      → (k x : ℕ)
      → x < n
      → (untils next F G k x → ⊥)
      → releases next NotF NotG k x
  not_until decided zero x low none = tt
  not_until decided (suc k) x low none = (
    (λ g. none (inl g)),
    ⊎_elim
        (λ (f : F x). inr (not_until decided k (next x) (closes x low) (λ later. none (inr (f, later)))))
        (λ (not_f : NotF x). inl not_f) (decided x low),
  )

  pub until_not : (k x : ℕ) → releases next NotF NotG k x → untils next F G k x → ⊥
  until_not zero x all none = none
  until_not (suc k) x (not_g, rest) (inl g) = not_g g
  until_not (suc k) x (not_g, inl not_f) (inr (f, later)) = not_f f
  until_not (suc k) x (not_g, inr never) (inr (f, later)) = until_not k (next x) never later

  pub not_release : ((x : ℕ) → x < n → IsDecided (G x))
      → (k x : ℕ)
      → x < n
      → (releases next F G k x → ⊥)
      → untils next NotF NotG k x
  not_release decided zero x low none = none tt
  not_release decided (suc k) x low none =
      ⊎_elim
      (λ (g : G x). inr (
        (λ f. none (g, inl f)),
        not_release decided k (next x) (closes x low) (λ later. none (g, inr later)),
      ))
      (λ (not_g : NotG x). inl not_g) (decided x low)

  pub release_not : (k x : ℕ) → untils next NotF NotG k x → releases next F G k x → ⊥
  release_not zero x none all = none
  release_not (suc k) x (inl not_g) (g, rest) = not_g g
  release_not (suc k) x (inr (not_f, later)) (g, inl f) = not_f f
  release_not (suc k) x (inr (not_f, later)) (g, inr always) = release_not k (next x) later always

pub negations_of_next : NegationsOfNext
negations_of_next m l f i place = ((λ t. t), (λ t. t))

pub negations_of_until : NegationsOfUntil
negations_of_until m l f g decided i place = (
  not_until (next_place l) (places l) (closed l place.0) (TruthAt m l f) (TruthAt m l g) (λ x low. decided x (place.0, low))
      (places l) i place.1,
  until_not (next_place l) (places l) (closed l place.0) (TruthAt m l f) (TruthAt m l g) (places l) i,
)

pub negations_of_release : NegationsOfRelease
negations_of_release m l f g decided i place = (
  not_release (next_place l) (places l) (closed l place.0) (TruthAt m l f) (TruthAt m l g) (λ x low. decided x (place.0, low))
      (places l) i place.1,
  release_not (next_place l) (places l) (closed l place.0) (TruthAt m l f) (TruthAt m l g) (places l) i,
)

pub negations_of_weak : NegationsOfWeak
negations_of_weak m l f g decided_f decided_g i place = ((λ none. apart (not_weak none)), (λ u. weak_not (together u)))
  where
    F : ℕ → Type 0
    F = TruthAt m l f

    G : ℕ → Type 0
    G = TruthAt m l g

    Both : ℕ → Type 0
    Both x = (F x → ⊥) × (G x → ⊥)

    Neither : ℕ → Type 0
    Neither x = F x ⊎ G x → ⊥

    not_weak : (releases (next_place l) G (λ x. F x ⊎ G x) (places l) i → ⊥)
        → untils (next_place l) (λ x. G x → ⊥) Neither (places l) i
    not_weak none =
        not_release (next_place l) (places l) (closed l place.0) G (λ x. F x ⊎ G x)
        (λ x low. decided_either (decided_f x (place.0, low)) (decided_g x (place.0, low))) (places l) i place.1 none

    weak_not : untils (next_place l) (λ x. G x → ⊥) Neither (places l) i
        → releases (next_place l) G (λ x. F x ⊎ G x) (places l) i
        → ⊥
    weak_not = release_not (next_place l) (places l) (closed l place.0) G (λ x. F x ⊎ G x) (places l) i

    apart : untils (next_place l) (λ x. G x → ⊥) Neither (places l) i
        → untils (next_place l) (λ x. G x → ⊥) Both (places l) i
    apart =
        until_maps (next_place l) (λ x. G x → ⊥) Neither (λ x. G x → ⊥) Both (λ x t. t)
        (λ x none. ((λ a. none (inl a)), (λ b. none (inr b)))) (places l) i

    together : untils (next_place l) (λ x. G x → ⊥) Both (places l) i
        → untils (next_place l) (λ x. G x → ⊥) Neither (places l) i
    together =
        until_maps (next_place l) (λ x. G x → ⊥) Both (λ x. G x → ⊥) Neither (λ x t. t)
        (λ x both. ⊎_elim both.0 both.1) (places l) i

pub negations_of_finally : NegationsOfFinally
negations_of_finally m l f i place = (
  (λ none.
      release_maps (next_place l) (λ x. Unit {0} → ⊥) (λ x. TruthAt m l f x → ⊥) Nowhere (λ x. TruthAt m l f x → ⊥)
      (λ x never. never tt) (λ x t. t) (places l) i
      (not_until (next_place l) (places l) (closed l place.0) Everywhere (TruthAt m l f) (λ x low. inl tt) (places l) i place.1 none)),
  (λ always.
      until_not (next_place l) (places l) (closed l place.0) Everywhere (TruthAt m l f) (places l) i
      (release_maps (next_place l) Nowhere (λ x. TruthAt m l f x → ⊥) (λ x. Unit {0} → ⊥) (λ x. TruthAt m l f x → ⊥)
      (λ x none. absurd none) (λ x t. t) (places l) i always)),
)

pub negations_of_globally : NegationsOfGlobally
negations_of_globally m l f decided i place = (
  (λ none.
      until_maps (next_place l) (λ x. ⊥ → ⊥) (λ x. TruthAt m l f x → ⊥) Everywhere (λ x. TruthAt m l f x → ⊥)
      (λ x t. tt) (λ x t. t) (places l) i
      (not_release (next_place l) (places l) (closed l place.0) Nowhere (TruthAt m l f) (λ x low. decided x (place.0, low)) (places l)
      i place.1 none)),
  (λ some.
      release_not (next_place l) (places l) (closed l place.0) Nowhere (TruthAt m l f) (places l) i
      (until_maps (next_place l) Everywhere (λ x. TruthAt m l f x → ⊥) (λ x. ⊥ → ⊥) (λ x. TruthAt m l f x → ⊥)
      (λ x t none. none) (λ x t. t) (places l) i some)),
)

pub all_are_not_some : AllAreNotSome
all_are_not_some m f s decided = (
  (λ all some. some.2 (all some.0 some.1)),
  (λ none path from.
      ⊎_elim (λ (t : Satisfies m path f). t) (λ (fails : Satisfies m path f → ⊥). absurd (none (path, from, fails))) (decided path from)),
)

pub some_are_not_all : SomeAreNotAll
some_are_not_all m f s decided = (
  (λ some all. all some.0 some.1 some.2),
  (λ not_all.
      ⊎_elim (λ (t : HoldsAt m (Quantified Exists f) s). t)
      (λ (none : HoldsAt m (Quantified Exists f) s → ⊥). absurd (not_all (λ path from t. none (path, from, t)))) decided),
)

-- the laws of the temporal operators, for the function that states them
pub ruleset negations = (negations_of_next, negations_of_until, negations_of_release, negations_of_weak, negations_of_finally, negations_of_globally)
