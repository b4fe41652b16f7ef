-- The states of each structure have classes.
--
--   NumberedTo k   == the first k states have numbers in turn, which are equal exactly if the states are bisimilar
--   one_more       == with a state more, which has a number of its own exactly if none before it is bisimilar
--   some_classes   == the law
use Rattle.std.proofs.Common.{ℕ, zero, suc, ◌≡◌, ◌+◌, ◌<◌, ◌≤◌, ◌⊎◌, ◌↔◌, inl, inr, List, [], ◌∷◌, ◌++◌, length, refl, sym, ◌∙◌, subst, arith, length-append}
use Rattle.std.proofs.lemmas.Bool.{cases_eq}
use Rattle.std.proofs.lemmas.List.{get_or_append_left, get_or_push}
use Rattle.ml_base.specs.Structure.{Structure, IsStructure}
use Rattle.ml_lists.specs.InTurn.{RunsOn}
use Rattle.ml_lists.specs.Found.{Found}
use Rattle.ml_lists.proofs.Decided.{Decided}
use Rattle.ml_lists.proofs.Deciding.{some_below}
use Rattle.ml_lists.proofs.InTurn.{runs_append}
use Rattle.ml_bisim.specs.Bisimilar.{Bisimilar}
use Rattle.ml_bisim.specs.Laws.{SomeClasses}
use Rattle.ml_bisim.specs.Quotient.{class_of}
use Rattle.ml_bisim.proofs.DecidedBisimilar.{decided_bisimilar}
use Rattle.ml_bisim.proofs.Equivalent.{itself, through, turned}
use Rattle.ml_bisim.proofs.Turns.{runs_low}

module _ (m : Structure) (ok : IsStructure m) where
  record NumberedTo (k : ℕ) : Type 0 where
    pub class : List ℕ
    pub count : ℕ
    pub long : length class ≡ k
    pub runs : RunsOn 0 class count
    pub tells : (s t : ℕ) → s < k → t < k → (class_of class s ≡ class_of class t) ↔ Bisimilar m s t

  -- the next state has the number v, which tells the states that are bisimilar to it
  module _ (k : ℕ) (low : k < m.states) (x : NumberedTo k) (v : ℕ)
      (tells : (s : ℕ) → s < k → (class_of x.class s ≡ v) ↔ Bisimilar m s k) where
    abbrev longer : List ℕ
    longer = x.class ++ v ∷ []

    old : (s : ℕ) → s < k → class_of longer s ≡ class_of x.class s
    old s s_low = get_or_append_left x.class (v ∷ []) 0 s (omega (arith, s_low, x.long))

    new : class_of longer k ≡ v
    new = get_or_push x.class v 0 k x.long

    tells_all : (s t : ℕ) → s < suc k → t < suc k → (class_of longer s ≡ class_of longer t) ↔ Bisimilar m s t
    tells_all s t s_low t_low = by_cases (cases_eq s k) (cases_eq t k)
      where
        by_cases : (s ≡ k) ⊎ (s ≡ k → ⊥) → (t ≡ k) ⊎ (t ≡ k → ⊥)
            → (class_of longer s ≡ class_of longer t) ↔ Bisimilar m s t
        by_cases (inl same) (inl also) =
            let one = same ∙ sym also in (
              (λ e. subst (λ u. Bisimilar m s u) one (itself m s)),
              (λ b. subst (λ u. class_of longer s ≡ class_of longer u) one refl),
            )
        by_cases (inr other) (inl also) =
            let under : s < k = omega (arith, s_low, other) in
            subst (λ u. (class_of longer s ≡ class_of longer u) ↔ Bisimilar m s u) (sym also) (
              (λ e. (tells s under).0 (sym (old s under) ∙ e ∙ new)),
              (λ b. old s under ∙ (tells s under).1 b ∙ sym new),
            )
        by_cases (inl same) (inr other) =
            let under : t < k = omega (arith, t_low, other) in
            subst (λ u. (class_of longer u ≡ class_of longer t) ↔ Bisimilar m u t) (sym same) (
              (λ e. turned m t k ((tells t under).0 (sym (old t under) ∙ sym e ∙ new))),
              (λ b. new ∙ sym ((tells t under).1 (turned m k t b)) ∙ sym (old t under)),
            )
        by_cases (inr here) (inr there) =
            let s_under : s < k = omega (arith, s_low, here) in
            let t_under : t < k = omega (arith, t_low, there) in (
              (λ e. (x.tells s t s_under t_under).0 (sym (old s s_under) ∙ e ∙ old t t_under)),
              (λ b. old s s_under ∙ (x.tells s t s_under t_under).1 b ∙ sym (old t t_under)),
            )

    one_more : (count : ℕ) → RunsOn x.count (v ∷ []) count → NumberedTo (suc k)
    one_more count runs = record {
      class = longer;
      count = count;
      long = omega (arith, length-append x.class (v ∷ []), x.long);
      runs = runs_append 0 x.count count x.class (v ∷ []) x.runs runs;
      tells = tells_all;
    }

  next : (k : ℕ) → k < m.states → NumberedTo k → Decided (Found (λ s. Bisimilar m s k) k) → NumberedTo (suc k)
  next k low x (inl f) =
      one_more k low x (class_of x.class f.place) tells x.count
      (inl (runs_low 0 x.count x.class x.runs f.place (omega (arith, f.below, x.long)), refl))
    where
      tells : (s : ℕ) → s < k → (class_of x.class s ≡ class_of x.class f.place) ↔ Bisimilar m s k
      tells s under =
          let there : f.place < m.states = omega (arith, f.below, low) in (
            (λ e. through m ok s f.place k there ((x.tells s f.place under f.below).0 e) f.holds),
            (λ b. (x.tells s f.place under f.below).1 (through m ok s k f.place low b (turned m f.place k f.holds))),
          )
  next k low x (inr none) = one_more k low x x.count tells (x.count + 1) (inr (refl, refl))
    where
      tells : (s : ℕ) → s < k → (class_of x.class s ≡ x.count) ↔ Bisimilar m s k
      tells s under = (
        (λ e. absurd (omega (arith, e, runs_low 0 x.count x.class x.runs s (omega (arith, under, x.long))))),
        (λ b. absurd (none (record { place = s; below = under; holds = b }))),
      )

  numbered : (k : ℕ) → k ≤ m.states → NumberedTo k
  numbered zero low = record {
    class = [];
    count = 0;
    long = refl;
    runs = refl;
    tells = λ s t s_low t_low. absurd (omega arith);
  }
  numbered (suc k) low =
      next k (omega arith) (numbered k (omega arith))
      (some_below (λ s. Bisimilar m s k) k
      (λ s under. decided_bisimilar m ok s k (omega (arith, under, low)) (omega arith)))

pub some_classes : SomeClasses
some_classes m ok =
    let x = numbered m ok m.states (omega arith) in
    (x.count, (x.class, record { each_state = x.long; bisimilar = x.tells; in_turn = x.runs }))
