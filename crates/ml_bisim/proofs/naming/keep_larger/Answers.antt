use Rattle.std.proofs.Common.{ℕ, ◌≡◌, ◌<◌, ◌∙◌, List, ap, get_or, length, refl, set, subst, sym, arith}
use Rattle.std.proofs.lemmas.List.{get_or_default, length-set}
use Rattle.ml_bisim.specs.Quotient.{class_of}
use Rattle.ml_bisim.specs.private.Rounds.{KeepsFrom}
use Rattle.ml_bisim.proofs.KeptParts.{kept_more}
use Rattle.ml_bisim.proofs.naming.keep_larger.Goals as goal
use Rattle.ml_bisim.proofs.naming.keep_larger.Goals.{then-index, else-index}

pub index-requires-in-loop-i : goal.index-requires-in-loop-i
index-requires-in-loop-i c =
    let kept = c.loop-i.invariant.kept c.loop-i.i c.loop-i-test.true in
    let low = c.requires.numbers kept.0 0 (omega (arith, kept.2, c.requires.each_state)) in
    omega (arith, low, kept.4, c.in_ok-sizes.ensures, c.in_ok-sizes.sizes.ok.0)

abbrev AllKept : List ℕ → List ℕ → List ℕ → ℕ → List ℕ → Type 0
AllKept class states ns n keeper =
    (length keeper ≡ n)
    × ((j : ℕ) → j < length states → KeepsFrom class states ns keeper 0 (class_of class (get_or states j 0)))

kept_next : (class states ns : List ℕ) (n i : ℕ) (keeper new : List ℕ)
    → AllKept class states ns n keeper
    → i < length states
    → class_of class (get_or states i 0) < n
    → new ≡ set keeper (class_of class (get_or states i 0)) (get_or ns i 0)
    → AllKept class states ns n new
kept_next class states ns n i keeper new is low within written =
    let c = class_of class (get_or states i 0) in (
      subst (λ xs. length xs ≡ n) (sym written) (length-set keeper c (get_or ns i 0) ∙ is.0),
      λ j j_low. kept_more class states ns keeper new i 0 c (omega arith) low refl (omega (arith, within, is.0)) written
          (class_of class (get_or states j 0)) (is.1 j j_low),
    )

pub loop-i-preserved : goal.loop-i-preserved
loop-i-preserved c =
    let class = c.args.class.now in
    let states = c.args.states.now in
    let ns = c.args.parts.now.numbers.items in
    let i = c.loop-i.i in
    let keeper = c.loop-i.keeper in
    let before : AllKept class states ns (length c.args.keeper.now) keeper =
    (c.loop-i.invariant.each_class, c.loop-i.invariant.kept) in
    let state_low = c.requires.in_range i 0 c.loop-i-test.true in
    let within = c.requires.classes (get_or states i 0) 0 state_low in
    let number = c.index-part.ensures
    ∙ get_or_default ns i c.index-part.result.now 0 (omega (arith, c.loop-i-test.true, c.requires.each_state)) in
    let next : AllKept class states ns (length c.args.keeper.now) c.if-index.keeper = elim c.if-index.branch [
      | then-index w ↦
          kept_next class states ns (length c.args.keeper.now) i keeper c.if-index.keeper before c.loop-i-test.true within
          (w.keeper-is ∙ ap (set keeper (class_of class (get_or states i 0))) number)
      | else-index w ↦ subst (AllKept class states ns (length c.args.keeper.now)) (sym w.keeper-is) before
    ] in
    record { each_class = next.0; kept = next.1 }
