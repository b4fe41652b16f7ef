-- Fewer requirements can be met wherever more of them can.
--
--   fewer_chosen == what holds of all requirements that are chosen by a set holds of those that fewer choose
--   fewer_met    == fewer requirements can be met wherever more can
use Rattle.std.proofs.Common.{◌≡◌, ℕ, ◌+◌, ◌<◌, Bool, true, false, cond, List, [], ◌∷◌, filter, map, refl, sym, subst, ◌∙◌}
use Rattle.std.specs.List.{AllByRecursion}
use Rattle.ml_lists.specs.Lasso.{Lasso}
use Rattle.ml_lists.proofs.AllOf.{all_both, all_parts}
use Rattle.ml_base.specs.Structure.{Structure}
use Rattle.ml_front.specs.Logics.{logic_of}
use Rattle.ml_front.specs.Problems.{HoldsAs, IsAdmitted}
use Rattle.ml_front.specs.declared.problem.AnyFormula.{AnyFormula}
use Rattle.ml_front.specs.declared.problem.AnyFormula.TheVariants.{Mu, Pdl, Ctl, Ltl, Word}
use Rattle.ml_spec.specs.Joined.{requirements}
use Rattle.ml_spec.specs.Kinds.{is_requirement}
use Rattle.ml_spec.specs.Questions.{asked_by, chosen, chosen_from, joined_of, parts_of}
use Rattle.ml_spec.specs.declared.specification.Item.{Item}
use Rattle.ml_spec.proofs.ChosenItems.{parts_in}
use Rattle.ml_replies.specs.Laws.{FewerAreMet}
use Rattle.ml_replies.proofs.Checks.{some_path}
use Rattle.ml_replies.proofs.Chosen.{joined_in}
use Rattle.ml_replies.proofs.Truths.{joined_parts, joined_truth, Truth}

-- with one item more, or without it
one_less : (P : AnyFormula → Type 0) (b : Bool) (x : Item) (xs : List Item)
    → AllByRecursion P (requirements (cond b (x ∷ xs) xs))
    → AllByRecursion P (requirements xs)
one_less P false x xs all = all
one_less P true x xs all = by (is_requirement x.kind) (filter (λ y. is_requirement y.kind) xs) all
  where
    by : (c : Bool) (rest : List Item)
        → AllByRecursion P (map (λ y. y.formula) (cond c (x ∷ rest) rest))
        → AllByRecursion P (map (λ y. y.formula) rest)
    by true rest each = each.1
    by false rest each = each

one_kept : (P : AnyFormula → Type 0) (x : Item) (xs ys : List Item)
    → (AllByRecursion P (requirements xs) → AllByRecursion P (requirements ys))
    → AllByRecursion P (requirements (x ∷ xs))
    → AllByRecursion P (requirements (x ∷ ys))
one_kept P x xs ys go all =
    by (is_requirement x.kind) (filter (λ y. is_requirement y.kind) xs) (filter (λ y. is_requirement y.kind) ys) go all
  where
    by : (c : Bool) (many few : List Item)
        → (AllByRecursion P (map (λ y. y.formula) many) → AllByRecursion P (map (λ y. y.formula) few))
        → AllByRecursion P (map (λ y. y.formula) (cond c (x ∷ many) many))
        → AllByRecursion P (map (λ y. y.formula) (cond c (x ∷ few) few))
    by true many few go each = (each.0, go each.1)
    by false many few go each = go each

fewer_chosen : (P : AnyFormula → Type 0) (S T : ℕ → Bool) (n : ℕ) (xs : List Item)
    → ((k : ℕ) → T k ≡ true → S k ≡ true)
    → AllByRecursion P (requirements (chosen_from S n xs))
    → AllByRecursion P (requirements (chosen_from T n xs))
fewer_chosen P S T n [] fewer all = tt
fewer_chosen P S T n (x ∷ xs) fewer all =
    by (S n) (T n) refl (fewer n) (chosen_from S (n + 1) xs) (chosen_from T (n + 1) xs)
    (fewer_chosen P S T (n + 1) xs fewer) all
  where
    by : (b c : Bool)
        → T n ≡ c
        → (T n ≡ true → b ≡ true)
        → (ys zs : List Item)
        → (AllByRecursion P (requirements ys) → AllByRecursion P (requirements zs))
        → AllByRecursion P (requirements (cond b (x ∷ ys) ys))
        → AllByRecursion P (requirements (cond c (x ∷ zs) zs))
    by b false is same ys zs go each = go (one_less P b x ys each)
    by true true is same ys zs go each = one_kept P x ys zs go each
    by false true is same ys zs go each = let e : false ≡ true = same is in cc

-- what is true at each place where f is, holds where f does
carried : (m : Structure) (s : ℕ) (below : s < m.states) (f g : AnyFormula)
    → logic_of f ≡ logic_of g
    → ((p : Lasso) → Truth m s below p f → Truth m s below p g)
    → HoldsAs m s false f
    → HoldsAs m s false g
carried m s below (Mu f) (Mu g) e go holds = go some_path holds
carried m s below (Pdl f) (Pdl g) e go holds = go some_path holds
carried m s below (Ctl f) (Ctl g) e go holds = go some_path holds
carried m s below (Ltl f) (Ltl g) e go holds = (holds.0, holds.1, go holds.0 holds.2)
carried m s below (Word f) (Word g) e go holds = (holds.0, holds.1, go holds.0 holds.2)
carried m s below f g e go holds = cc

pub fewer_met : FewerAreMet
fewer_met l xs q S T specified is fewer (m, admitted, (s, below, holds)) =
    let f = joined_of l S xs q in
    let g = joined_of l T xs q in
    let f_of = joined_in l S xs specified q is in
    let g_of = joined_in l T xs specified q is in
    let go = λ (p : Lasso) (here : Truth m s below p f).
    let parts = all_parts (Truth m s below p) (requirements (chosen S xs)) (asked_by xs q)
    (joined_parts m s below p l (parts_of S xs q) (parts_in l S xs specified q is) here) in
    joined_truth m s below p l (parts_of T xs q) (parts_in l T xs specified q is)
    (all_both (Truth m s below p) (requirements (chosen T xs)) (asked_by xs q)
    (fewer_chosen (Truth m s below p) S T 0 xs fewer parts.0) parts.1) in (
      m,
      subst (λ k. IsAdmitted k m) (f_of ∙ sym g_of) admitted,
      (s, below, carried m s below f g (f_of ∙ sym g_of) go holds),
    )
