-- Binders around, as the program holds them, changed at one variable.
--
--   put_at      == where the map has another binder at a variable, that one stands inside the others
--   left_again  == a binder that is entered and left for the outer one leaves the binders as they were
--   low_same, low_inside == no occurrence is above a bound, with the same binders, and with one that isn't either
use Rattle.std.proofs.Common.{ℕ, ◌≡◌, ◌≤◌, ⊎_elim, Bool, true, false, cond, bytes_eq, List, Option, unwrap_or, refl, sym, ap, ◌∙◌, subst}
use Rattle.std.specs.HashMap as hash
use Rattle.std.proofs.lemmas.Bool.{cases_Bool, cond-true, cond-false}
use Rattle.std.proofs.lemmas.Map.Text.{hash_map_updates_str}
use Rattle.std.proofs.lemmas.Slice.Eq.{bytes_eq-Decides}
use Rattle.ml_mu_graph.specs.declared.binders.Binders.{Binders}
use Rattle.ml_mu_graph.specs.private.NodeList.{bound}
use Rattle.ml_mu_graph.specs.private.Views.{around}

chosen : (b : Bool) (v w : Option ℕ) → unwrap_or (cond b w v) 0 ≡ cond b (unwrap_or w 0) (unwrap_or v 0)
chosen true v w = refl
chosen false v w = refl

pub put_at : (x : List ℕ) (old new : Binders) (w : Option ℕ)
    → hash.UpdatesBy (λ y z. bytes_eq y.now z.now) (λ y. bytes_eq x y.now) old.innermost new.innermost w
    → around new ≡ bound x (unwrap_or w 0) (around old)
put_at x old new w updates = λ j y. at y j
  where
    at : (y : List ℕ) → around new y ≡ bound x (unwrap_or w 0) (around old) y
    at y =
        ap (λ o. unwrap_or o 0) (hash_map_updates_str x old.innermost new.innermost w updates y)
        ∙ chosen (bytes_eq x y) (hash.get_by (λ z. bytes_eq y z.now) old.innermost) w

pub low_same : (b c : List ℕ → ℕ) (most : ℕ) → c ≡ b → ((y : List ℕ) → b y ≤ most) → (y : List ℕ) → c y ≤ most
low_same b c most same all y = subst (λ d. d y ≤ most) (sym same) (all y)

module _ (x : List ℕ) (i : ℕ) (b : List ℕ → ℕ) where
  rebound : (y : List ℕ) → bound x (b x) (bound x i b) y ≡ b y
  rebound y =
      ⊎_elim
      (λ (here : bytes_eq x y ≡ true).
      cond-true (bytes_eq x y) (b x) (bound x i b y) here ∙ ap b ((bytes_eq-Decides x y).0 here))
      (λ (other : bytes_eq x y ≡ false).
      cond-false (bytes_eq x y) (b x) (bound x i b y) other ∙ cond-false (bytes_eq x y) i (b y) other)
      (cases_Bool (bytes_eq x y))

  pub left_again : (inside behind last : List ℕ → ℕ) (outer : ℕ) → inside ≡ bound x i b → behind ≡ inside → outer ≡ b x
      → last ≡ bound x outer behind → last ≡ b
  left_again inside behind last outer entered same is left =
      left ∙ ap (λ k. bound x k behind) is ∙ ap (bound x (b x)) (same ∙ entered) ∙ (λ j y. rebound y j)

  pub low_inside : (inside : List ℕ → ℕ) (most : ℕ) → inside ≡ bound x i b → i ≤ most → ((y : List ℕ) → b y ≤ most)
      → (y : List ℕ) → inside y ≤ most
  low_inside inside most entered low all y =
      subst (λ c. c y ≤ most) (sym entered)
      (⊎_elim
      (λ (here : bytes_eq x y ≡ true). subst (λ k. k ≤ most) (sym (cond-true (bytes_eq x y) i (b y) here)) low)
      (λ (other : bytes_eq x y ≡ false). subst (λ k. k ≤ most) (sym (cond-false (bytes_eq x y) i (b y) other)) (all y))
      (cases_Bool (bytes_eq x y)))
