use Rattle.std.proofs.Common.{◌≡◌, ◌<◌, ◌∙◌, ◌||◌, ℕ, ap, arith, length, subst, sym}
use Rattle.ml_word_check.specs.declared.cycles.Cycle.TheVariants.{Release}
use Rattle.ml_word_check.specs.private.Truths.{at, cycles, next_in, paired_in}
use Rattle.ml_word_check.proofs.Changes.{written}
use Rattle.ml_word_check.proofs.ValuesAround.{weak_is}
use Rattle.ml_word_check.proofs.truths.paired.Goals as goal

pub returns-in-Weak-clause-values : goal.returns-in-Weak-clause-values
returns-in-Weak-clause-values c =
    let f = c.args.left.items in
    let g = c.args.right.items in
    let n = length g in
    let either = c.as_mut_slice-in-Weak-2.result.now in
    let new = c.around-in-Weak.new.right in
    let lefts = c.as_mut_slice-in-Weak.ensures.value in
    let joined : length c.join.new.left ≡ length f = c.join.ensures.each_place ∙ ap length lefts in
    let is_joined : either ≡ c.join.new.left =
    c.as_mut_slice-in-Weak-2.ensures.value
    ∙ written c.args.left.len c.join.new.left _ (omega (arith, joined, c.args.left.ok.0)) in
    let long : length either ≡ n = ap length is_joined ∙ joined ∙ c.requires.same in
    let whole : c.args.left.len ≡ length new =
    omega (arith, c.args.left.ok.0, c.requires.same, long, c.around-in-Weak.ensures.each_place) in
    let either_is = λ (i : ℕ) (low : i < n).
    ap (λ xs. at xs i) is_joined
    ∙ c.join.ensures.values i (omega (arith, low, ap length lefts, c.requires.same))
    ∙ (λ t. at (lefts t) i || at (c.as_slice-in-Weak.ensures.value t) i) in
    let values =
    subst
    (λ gs. (i : ℕ) → i < length either
    → at new i ≡ cycles Release (next_in (length either) c.args.start) (at gs) (at either) (length either) i)
    c.as_slice-in-Weak-2.ensures.value c.around-in-Weak.ensures.values in
    λ i low.
    ap (λ xs. at xs i) (written c.args.left.len new _ whole)
    ∙ subst (λ p. at new i ≡ paired_in p n c.args.start (at f) (at g) i) (sym c.in-Weak.is)
    (weak_is f g either new n c.args.start c.requires.start long either_is values i low)
