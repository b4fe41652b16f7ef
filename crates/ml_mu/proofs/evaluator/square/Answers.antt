use Rattle.std.proofs.Common.{◌<◌, All, sym, subst, ap, ◌∙◌, not, map}
use Rattle.std.proofs.lemmas.Result.{IfOk-weaker}
use Rattle.ml_mu.specs.Formula.{Diamond}
use Rattle.ml_mu.specs.Meaning.{modal}
use Rattle.ml_mu.proofs.EdgeWalks.{every_by_some}
use Rattle.ml_mu.proofs.evaluator.square.Goals as goal

pub returns-clause-value : goal.returns-clause-value
returns-clause-value c =
    let m = c.args.structure.now in
    let a = c.args.action.now in
    let flags = c.args.set.now in
    let within = subst (λ n. All (λ e. e.target < n) m.edges) (sym c.requires) c.in_ok-leaving.ensures.ends in
    let leaving =
    c.deref-2.ensures.value ∙ c.in_ok-leaving.ensures.value
    ∙ ap (modal m Diamond a) (c.deref.ensures.value ∙ c.in_ok-outside.ensures)
    in
    IfOk-weaker c.complement-2.result _ _ (λ states is. is ∙ ap (map not) leaving ∙ every_by_some m a flags within)
    c.complement-2.ensures
