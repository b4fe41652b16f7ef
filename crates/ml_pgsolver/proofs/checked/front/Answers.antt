-- The word stands within the text.
use Rattle.std.proofs.Common.{arith, length-take}
use Rattle.ml_pgsolver.proofs.WordTokens.{word_fits}
use Rattle.ml_pgsolver.proofs.checked.front.Goals as goal

pub slice_bounds-result-end : goal.slice_bounds-result-end
slice_bounds-result-end c =
    let fits = word_fits c.args.text.now c.args.word c.requires in
    omega (arith, length-take c.args.word c.args.text.now)
