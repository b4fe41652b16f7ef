use Rattle.std.proofs.Common.{rules, sym, subst}
use Rattle.ml_ctl.specs.Parsing.{IsParsedAs}
use Rattle.ml_ctl.specs.Term.{formula_of}
use Rattle.ml_ctl.proofs.Parsed.{refused_first, found_parsed, found_well}
use Rattle.ml_ctl.proofs.parsing.parse_in.Goals as goal

pub returns-in_err-tree : goal.returns-in_err-tree
returns-in_err-tree g c =
    let refused = refused_first g.W.Words.language c.args.text.now c.in_err-tree.field-0.0 (c.in_err-tree.ensures {u = tt}) in search rules

pub new-requires : goal.new-requires
new-requires g c =
    let read = c.in_ok-tree.ensures {u = tt} in
    found_well g.W.Words.language c.args.text.now (formula_of c.in_ok-tree.field-0.tree) read.0

pub returns : goal.returns
returns g c =
    let read = c.in_ok-tree.ensures {u = tt} in
    subst (IsParsedAs g.W.Words.language c.args.text.now) (sym c.new.ensures)
    (found_parsed g.W.Words.language c.args.text.now (formula_of c.in_ok-tree.field-0.tree) read.0)
