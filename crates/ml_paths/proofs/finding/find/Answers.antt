use Rattle.std.proofs.Common.{subst}
use Rattle.ml_paths.specs.private.Systems.{IsPathFound}
use Rattle.ml_paths.proofs.ReadPaths.{not_large}
use Rattle.ml_paths.proofs.finding.find.Goals as goal

pub returns-in-Some-clause-found : goal.returns-in-Some-clause-found
returns-in-Some-clause-found c = (
  not_large c.args.formula.now c.args.negated c.in-Ok.automaton c.in-Ok.ensures.automaton c.in-Ok.ensures.fits,
  (subst (IsPathFound c.args.structure.now c.args.start c.args.formula.now c.args.negated) c.in-Some.is c.in_ok-path.ensures).0,
)

pub returns-in-Some-clause-shortest : goal.returns-in-Some-clause-shortest
returns-in-Some-clause-shortest c =
    (subst (IsPathFound c.args.structure.now c.args.start c.args.formula.now c.args.negated) c.in-Some.is c.in_ok-path.ensures).1

pub returns-clause-found : goal.returns-clause-found
returns-clause-found c = (
  not_large c.args.formula.now c.args.negated c.in-Ok.automaton c.in-Ok.ensures.automaton c.in-Ok.ensures.fits,
  subst (IsPathFound c.args.structure.now c.args.start c.args.formula.now c.args.negated) c.in-None.is c.in_ok-path.ensures,
)
