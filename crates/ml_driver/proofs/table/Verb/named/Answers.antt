use Rattle.std.proofs.Common.{◌∙◌, ap, option_map}
use Rattle.ml_lines.specs.Lines.{Word}
use Rattle.ml_driver.specs.Verbs.{shape_of}
use Rattle.ml_driver.specs.Words.{table}
use Rattle.ml_driver.specs.declared.table.TheConstants.{TABLE}
use Rattle.ml_driver.proofs.NamedVerbs.{shapes_named}
use Rattle.ml_driver.proofs.table.Verb.named.Goals as goal

pub returns : goal.returns
unfolding table
returns c =
    ap (option_map shape_of) c.verb_in.ensures
    ∙ shapes_named (λ (s : record { now : Word }). s.now) TABLE c.args.word.now
