use Rattle.std.proofs.Common.{rules, sym, subst}
use Rattle.ml_bounded.specs.Parsing.{IsParsedAs}
use Rattle.ml_bounded.specs.Term.{formula_of}
use Rattle.ml_bounded.proofs.Parsed.{refused_first, found_parsed, found_well}
use Rattle.ml_bounded.proofs.parsing.parse.Goals as goal

pub returns-in_err-tree : goal.returns-in_err-tree
returns-in_err-tree c =
    let refused = refused_first c.args.text.now c.in_err-tree.field-0.0 (c.in_err-tree.ensures {u = tt}) in search rules

pub new-requires : goal.new-requires
new-requires c =
    let read = c.in_ok-tree.ensures {u = tt} in
    found_well c.args.text.now (formula_of c.in_ok-tree.field-0.tree) read.0

pub returns : goal.returns
returns c =
    let read = c.in_ok-tree.ensures {u = tt} in
    subst (IsParsedAs c.args.text.now) (sym c.new.ensures)
    (found_parsed c.args.text.now (formula_of c.in_ok-tree.field-0.tree) read.0)
