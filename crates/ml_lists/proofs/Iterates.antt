-- Iterates of a function: what they keep, and where they stand still.
--
--   iterate_once_more  == the next iterate is one application more
--   iterate_stays      == where two iterates in a row are equal, all later ones are
--   iterates_once_more, stops_early  == the same of a walk that keeps what it came to
--   iterate_keeps      == what holds of the start, and stays by an application, holds of each iterate
--   iterates_related   == the same of the iterates of two functions, and a relation
use Rattle.std.proofs.Common.{◌≡◌, ℕ, zero, suc, ◌+◌, ◌-◌, ◌≤◌, sym, ap, ◌∙◌, arith, add-one, add-zero, add-suc}
use Rattle.ml_lists.specs.Iterate.{iterate}

pub iterate_once_more : {A : Type 0} (step : A → A) (x : A) (k : ℕ) → iterate (k + 1) step x ≡ step (iterate k step x)
iterate_once_more step x k = ap (λ n. iterate n step x) (add-one k)

stays_for : {A : Type 0} (step : A → A) (x : A) (k d : ℕ) → step (iterate k step x) ≡ iterate k step x
    → iterate (k + d) step x ≡ iterate k step x
stays_for step x k zero same = ap (λ n. iterate n step x) (add-zero k)
stays_for step x k (suc d) same =
    ap (λ n. iterate n step x) (add-suc k d) ∙ ap step (stays_for step x k d same) ∙ same

pub iterate_stays : {A : Type 0} (step : A → A) (x : A) (k n : ℕ) → step (iterate k step x) ≡ iterate k step x → k ≤ n
    → iterate n step x ≡ iterate k step x
iterate_stays step x k n same within =
    let parts : n ≡ k + (n - k) = omega arith in
    ap (λ j. iterate j step x) parts ∙ stays_for step x k (n - k) same

pub iterates_once_more : {A : Type 0} (step : A → A) (first x next : A) (k : ℕ)
    → x ≡ iterate k step first
    → next ≡ step x
    → next ≡ iterate (k + 1) step first
iterates_once_more step first x next k so_far is = is ∙ ap step so_far ∙ sym (iterate_once_more step first k)

pub stops_early : {A : Type 0} (step : A → A) (first x next : A) (k n : ℕ)
    → x ≡ iterate k step first
    → next ≡ step x
    → next ≡ x
    → k ≤ n
    → x ≡ iterate n step first
stops_early step first x next k n so_far is same within =
    so_far ∙ sym (iterate_stays step first k n (ap step (sym so_far) ∙ sym is ∙ same ∙ so_far) within)

pub iterate_keeps : {A : Type 0} (P : A → Type 0) (step : A → A) (x : A) (k : ℕ) → P x → ((y : A) → P y → P (step y))
    → P (iterate k step x)
iterate_keeps P step x zero start more = start
iterate_keeps P step x (suc k) start more = more (iterate k step x) (iterate_keeps P step x k start more)

pub iterates_related : {A B : Type 0} (R : A → B → Type 0) (f : A → A) (g : B → B) (x : A) (y : B) (k : ℕ) → R x y
    → ((a : A) (b : B) → R a b → R (f a) (g b)) → R (iterate k f x) (iterate k g y)
iterates_related R f g x y zero start more = start
iterates_related R f g x y (suc k) start more =
    more (iterate k f x) (iterate k g y) (iterates_related R f g x y k start more)
