-- In all logics but LTL of paths a joined formula holds at a state exactly where each of its formulas does.
--
--   some_path          == a path for logics that need none
--   path_for           == the word from the state, where the logic speaks of words
--   plain_true, negated_true == a problem holds where its formula, or the negation of it, is true
--   checks_are_enough  == the law
use Rattle.std.proofs.Common.{◌≡◌, ◌≢◌, ℕ, ◌<◌, ◌↔◌, Bool, true, false, not, List, [], ◌∷◌, Option, Some, None, slice_get, map, refl, sym, subst, ◌∙◌, arith}
use Rattle.std.specs.List.{AllByRecursion}
use Rattle.std.proofs.lemmas.List.{get_or-map}
use Rattle.ml_lists.specs.Lasso.{Lasso}
use Rattle.ml_lists.proofs.AllOf.{all_both, all_parts}
use Rattle.ml_base.specs.Structure.{Structure, is_member}
use Rattle.ml_ctl.specs.Meaning as ctl_meaning
use Rattle.ml_mu.specs.Meaning as mu_meaning
use Rattle.ml_mu.proofs.MeaningFlags as mu_flags
use Rattle.ml_pdl.specs.Meaning as pdl_meaning
use Rattle.ml_pdl.proofs.MeaningFlags as pdl_flags
use Rattle.ml_word_graph.specs.Problem as words
use Rattle.ml_word_graph.proofs.Words.{a_word}
use Rattle.ml_front.specs.Connectives.{negation, AreOf}
use Rattle.ml_front.specs.Logics.{logic_of}
use Rattle.ml_front.specs.Problems.{HoldsAs, HoldsAt, IsAdmitted}
use Rattle.ml_front.specs.declared.logic.Logic.{Logic}
use Rattle.ml_front.specs.declared.logic.Logic.TheVariants as logic
use Rattle.ml_front.specs.declared.problem.AnyFormula.{AnyFormula}
use Rattle.ml_front.specs.declared.problem.AnyFormula.TheVariants.{Mu, Pdl, Ctl, Ltl, Word}
use Rattle.ml_spec.specs.Joined.{asked_as, requirements}
use Rattle.ml_spec.specs.Questions.{asked_by, asked_by_item, chosen, joined_of, parts_of}
use Rattle.ml_spec.specs.declared.kind.Kind.{Kind}
use Rattle.ml_spec.specs.declared.kind.Kind.TheVariants as kind
use Rattle.ml_spec.specs.declared.question.Question.{Question}
use Rattle.ml_spec.specs.declared.question.Question.TheVariants as question
use Rattle.ml_spec.specs.declared.specification.Item.{Item}
use Rattle.ml_spec.proofs.ChosenItems.{parts_in}
use Rattle.ml_spec.proofs.JoinedSizes.{asked_logic}
use Rattle.ml_replies.specs.Laws.{ChecksAreEnough}
use Rattle.ml_replies.specs.Meeting.{is_negated, plain, problems_asked, problems_by_item}
use Rattle.ml_replies.proofs.Chosen.{asked_in, joined_in}
use Rattle.ml_replies.proofs.OneWord.{one_word}
use Rattle.ml_replies.proofs.Truths.{joined_parts, joined_truth, Truth}

pub some_path : Lasso
some_path = record { entries = []; start = 0 }

-- the path along which formulas of the logic are looked at
abbrev pub IsPathFor : Structure → ℕ → Logic → Lasso → Type 0
IsPathFor m s logic.Word p = words.IsWordFrom m s p
IsPathFor m s l p = Unit {0}

pub path_for : (l : Logic) (m : Structure) (s : ℕ) → IsAdmitted l m → s < m.states → (p : Lasso) × IsPathFor m s l p
path_for logic.Word m s ok below = a_word m ok s below
path_for logic.Mu m s ok below = (some_path, tt)
path_for logic.Pdl m s ok below = (some_path, tt)
path_for logic.Ctl m s ok below = (some_path, tt)
path_for logic.Ltl m s ok below = (some_path, tt)

not_true : (b c : Bool) → b ≡ not c → (c ≡ false) ↔ (b ≡ true)
not_true b true e = ((λ x. cc), (λ x. let y : true ≡ false = sym x ∙ e in cc))
not_true b false e = ((λ x. e), (λ x. refl))

module _ (m : Structure) (s : ℕ) (below : s < m.states) (p : Lasso) where
  -- ---- one formula

  pub plain_true : (f : AnyFormula)
      → logic_of f ≢ logic.Ltl
      → IsAdmitted (logic_of f) m
      → IsPathFor m s (logic_of f) p
      → HoldsAs m s false f ↔ Truth m s below p f
  plain_true (Mu f) other ok path = ((λ x. x), (λ x. x))
  plain_true (Pdl f) other ok path = ((λ x. x), (λ x. x))
  plain_true (Ctl f) other ok path = ((λ x. x), (λ x. x))
  plain_true (Ltl f) other ok path = absurd (other refl)
  plain_true (Word f) other ok path = (
    λ x. subst (λ w. ctl_meaning.Satisfies m w f) (one_word m ok s below x.0 p x.1 path) x.2,
    λ x. (p, path, x),
  )

  pub negated_true : (f : AnyFormula)
      → logic_of f ≢ logic.Ltl
      → IsAdmitted (logic_of f) m
      → IsPathFor m s (logic_of f) p
      → HoldsAs m s true f ↔ Truth m s below p (negation f)
  negated_true (Mu f) other ok path =
      let flags = mu_meaning.meaning m [] f in
      not_true (is_member (map not flags) s) (is_member flags s)
      (get_or-map not flags s false false (omega (arith, mu_flags.meaning_flags m [] f tt, below)))
  negated_true (Pdl f) other ok path =
      let flags = pdl_meaning.meaning m f in
      not_true (is_member (map not flags) s) (is_member flags s)
      (get_or-map not flags s false false (omega (arith, pdl_flags.meaning_flags m f, below)))
  negated_true (Ctl f) other ok path = ((λ x. x), (λ x. x))
  negated_true (Ltl f) other ok path = absurd (other refl)
  negated_true (Word f) other ok path = (
    λ x. subst (λ w. ctl_meaning.Satisfies m w f → ⊥) (one_word m ok s below x.0 p x.1 path) x.2,
    λ x. (p, path, x),
  )

  -- ---- several

  module _ (l : Logic) (other : l ≢ logic.Ltl) (ok : IsAdmitted l m) (path : IsPathFor m s l p) where
    plain_in : (f : AnyFormula) → logic_of f ≡ l → HoldsAs m s false f ↔ Truth m s below p f
    plain_in f of =
        plain_true f (λ e. other (sym of ∙ e)) (subst (λ k. IsAdmitted k m) (sym of) ok)
        (subst (λ k. IsPathFor m s k p) (sym of) path)

    negated_in : (f : AnyFormula) → logic_of f ≡ l → HoldsAs m s true f ↔ Truth m s below p (negation f)
    negated_in f of =
        negated_true f (λ e. other (sym of ∙ e)) (subst (λ k. IsAdmitted k m) (sym of) ok)
        (subst (λ k. IsPathFor m s k p) (sym of) path)

    asked_in_sense : (k : Kind) (f : AnyFormula) → logic_of f ≡ l
        → HoldsAs m s (is_negated k) f ↔ Truth m s below p (asked_as k f)
    asked_in_sense kind.Require f of = plain_in f of
    asked_in_sense kind.Possible f of = plain_in f of
    asked_in_sense kind.Follows f of = negated_in f of

    all_plain : (fs : List AnyFormula) → AreOf l fs
        → AllByRecursion (HoldsAt m s) (map plain fs) ↔ AllByRecursion (Truth m s below p) fs
    all_plain [] are = ((λ x. tt), (λ x. tt))
    all_plain (f ∷ fs) are =
        let here = plain_in f are.0 in
        let rest = all_plain fs are.1 in
        ((λ x. (here.0 x.0, rest.0 x.1)), (λ x. (here.1 x.0, rest.1 x.1)))

    all_by_item : (o : Option Item) → AreOf l (asked_by_item o)
        → AllByRecursion (HoldsAt m s) (problems_by_item o) ↔ AllByRecursion (Truth m s below p) (asked_by_item o)
    all_by_item None are = ((λ x. tt), (λ x. tt))
    all_by_item (Some x) are =
        let here = asked_in_sense x.kind x.formula (sym (asked_logic x.kind x.formula) ∙ are.0) in
        ((λ y. (here.0 y.0, tt)), (λ y. (here.1 y.0, tt)))

    all_asked : (xs : List Item) (q : Question) → AreOf l (asked_by xs q)
        → AllByRecursion (HoldsAt m s) (problems_asked xs q) ↔ AllByRecursion (Truth m s below p) (asked_by xs q)
    all_asked xs question.Consistent are = ((λ x. tt), (λ x. tt))
    all_asked xs question.Rest are = ((λ x. tt), (λ x. tt))
    all_asked xs (question.Asks n) are = all_by_item (slice_get xs n) are

pub checks_are_enough : ChecksAreEnough
checks_are_enough l xs S q m s specified is other ok below =
    let path = path_for l m s ok below in
    let p = path.0 in
    let P = Truth m s below p in
    let H = HoldsAt m s in
    let fs = requirements (chosen S xs) in
    let gs = asked_by xs q in
    let are = asked_in l S xs specified q is in
    let whole = plain_in m s below p l other ok path.1 (joined_of l S xs q) (joined_in l S xs specified q is) in
    let required = all_plain m s below p l other ok path.1 fs are.0 in
    let question = all_asked m s below p l other ok path.1 xs q are.1 in
    let each = parts_in l S xs specified q is in (
      λ holds.
          let parts = all_parts P fs gs (joined_parts m s below p l (parts_of S xs q) each (whole.0 holds)) in
          all_both H (problems_asked xs q) (map plain fs) (question.1 parts.1) (required.1 parts.0),
      λ all.
          let parts = all_parts H (problems_asked xs q) (map plain fs) all in
          whole.1 (joined_truth m s below p l (parts_of S xs q) each (all_both P fs gs (required.0 parts.1) (question.0 parts.0))),
    )
