use Rattle.std.proofs.Common.{sym, ◌∙◌}
use Rattle.ml_spec.proofs.context.is_among.Goals as goal
use Rattle.ml_written.proofs.FirstMissing.{declared_member, not_member}

pub returns : goal.returns
returns c =
    let ps = c.args.names.now.keys in
    let n = c.args.name.now in
    record {
      there = λ is. declared_member ps n (sym c.contains.ensures ∙ is);
      not_there = λ is. not_member ps n (sym c.contains.ensures ∙ is);
    }
