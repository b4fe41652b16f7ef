use Rattle.std.proofs.Common.{sym, ◌∙◌}
use Rattle.ml_spec.specs.Statements.{value_name}
use Rattle.ml_spec.proofs.Propositions.{proposition_name, value_proposition}
use Rattle.ml_spec.proofs.words.add_value.Goals as goal

pub value_name-requires : goal.value_name-requires
value_name-requires c =
    let m = c.args.enumeration.now in
    let w = c.args.word.now in
    proposition_name c.requires.0 (value_name m w)
    (value_proposition c.requires.0 m w c.requires.1 (sym c.is_value.ensures ∙ c.if-not-is_value.false))
