use Rattle.std.proofs.Common.{◌++◌, ◌∷◌, [], length, ap, sym, subst, ◌∙◌, arith}
use Rattle.std.proofs.lemmas.List.{length-append}
use Rattle.ml_realize.specs.private.Rows.{AreFirst}
use Rattle.ml_realize.proofs.PresentNames.{first_more}
use Rattle.ml_realize.proofs.letters.row_of.Goals as goal

pub loop-valuation-preserved : goal.loop-valuation-preserved
loop-valuation-preserved c =
    let l = c.loop-valuation in
    let names = c.args.inputs.now ++ c.args.outputs.now in
    let row = l.row.items in
    let letter = c.in_ok-letter.field-0 in
    let size = length-append row (letter ∷ []) in
    let items = c.in_ok-push.ensures.items in (
      ap length items ∙ omega (arith, size, l.invariant.0),
      subst (AreFirst names c.args.automaton.now) (sym items)
          (first_more names c.args.automaton.now row letter l.valuation l.invariant.0 l.invariant.1 c.in_ok-letter.ensures),
    )
