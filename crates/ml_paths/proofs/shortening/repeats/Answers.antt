use Rattle.std.proofs.Common.{◌-◌, drop, length, take}
use Rattle.std.proofs.lemmas.Bool.Decides.{Decides-eqb}
use Rattle.std.proofs.lemmas.Slice.Eq.{slice_eq-Decides}
use Rattle.ml_paths.proofs.Periods.{repeats_shifted}
use Rattle.ml_paths.proofs.shortening.repeats.Goals as goal

pub returns : goal.returns
returns c =
    let xs = c.args.states.now in
    let d = c.args.period in
    let rest = length xs - d in
    let by = slice_eq-Decides Decides-eqb (take rest (drop d xs)) (take rest xs) c.eq.result c.eq.ensures in
    let shifted = repeats_shifted xs d c.requires in
    (λ is. shifted.0 (by.0 is), λ repeats. by.1 (shifted.1 repeats))
