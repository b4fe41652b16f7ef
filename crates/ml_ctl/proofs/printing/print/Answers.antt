use Rattle.std.proofs.Common.{rules, ◌≡◌, sym, subst}
use Rattle.ml_ctl.specs.Canonical.{canonical_text}
use Rattle.ml_ctl.specs.Parsing.{IsParsedAs}
use Rattle.ml_ctl.proofs.CanonicalParsed.{canonical_parsed}
use Rattle.ml_ctl.proofs.printing.print.Goals as goal

pub returns-clause-reads_back : goal.returns-clause-reads_back
returns-clause-reads_back g c =
    let written : c.append_text.new.out.items ≡ canonical_text c.args.formula.now = search rules in
    subst (λ bytes. IsParsedAs g.W.Words.language bytes c.args.formula.now) (sym written) (canonical_parsed g.W.Words.language c.args.formula.now c.append_text.ensures.well_formed)
