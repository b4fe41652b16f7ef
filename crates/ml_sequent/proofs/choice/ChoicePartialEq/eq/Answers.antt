use Rattle.std.proofs.Common.{rules, ◌≡◌, ◌∙◌, sym}
use Rattle.ml_sequent.specs.ChoiceEquality.{choice_eq, choice_eq-decides}
use Rattle.ml_sequent.proofs.choice.ChoicePartialEq.eq.Goals as goal

pub returns-clause-exact : goal.returns-clause-exact
returns-clause-exact c =
    let value : c.eq.result ≡ choice_eq c.args.self.now c.args.other.now = search rules in
    let decides = choice_eq-decides c.args.self.now c.args.other.now in
    ((λ e. decides.0 (sym value ∙ e)), (λ e. value ∙ decides.1 e))
