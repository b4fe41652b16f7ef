use Rattle.std.proofs.Common.{◌≡◌, ◌<◌, ◌∙◌, ℕ, false, length, subst, sym, true}
use Rattle.ml_word_check.specs.declared.cycles.Cycle.TheVariants.{Release, Until}
use Rattle.ml_word_check.specs.private.Truths.{at, tense_in}
use Rattle.ml_word_check.proofs.ValuesAround.{constant_left}
use Rattle.ml_word_check.proofs.truths.along.Goals as goal

pub returns-in_ok-always-in-Finally-clause-values : goal.returns-in_ok-always-in-Finally-clause-values
returns-in_ok-always-in-Finally-clause-values c =
    let old = c.args.truths.now in
    subst
    (λ t. (i : ℕ) → i < length old → at c.around.new.right i ≡ tense_in t (length old) c.args.start (at old) i)
    (sym c.in-Finally.is)
    (λ i low.
    c.around.ensures.values i low
    ∙ constant_left Until true c.as_slice.result.now old (length old) c.args.start c.requires.start
    (c.as_slice.ensures.value ∙ c.in_ok-always-in-Finally.ensures.items_if_clones_equal (λ y e. e)) i low)

pub returns-in_ok-never-in-Globally-clause-values : goal.returns-in_ok-never-in-Globally-clause-values
returns-in_ok-never-in-Globally-clause-values c =
    let old = c.args.truths.now in
    subst
    (λ t. (i : ℕ) → i < length old
    → at c.around-in-Globally.new.right i ≡ tense_in t (length old) c.args.start (at old) i)
    (sym c.in-Globally.is)
    (λ i low.
    c.around-in-Globally.ensures.values i low
    ∙ constant_left Release false c.as_slice-in-Globally.result.now old (length old) c.args.start c.requires.start
    (c.as_slice-in-Globally.ensures.value ∙ c.in_ok-never-in-Globally.ensures.items_if_clones_equal (λ y e. e)) i low)
