use Rattle.std.proofs.Common.{All, refl, subst}
use Rattle.ml_refute_check.specs.private.Sources.{IsReached}
use Rattle.ml_refute_check.proofs.GoFound.{reached_targets, targets_told}
use Rattle.ml_refute_check.proofs.stepping.KeptBranch.leads_to.Goals as goal

pub returns-then-lead_to_all-clause-leads : goal.returns-then-lead_to_all-clause-leads
returns-then-lead_to_all-clause-leads c = (
  λ h. reached_targets c.requires.step.step c.args.nodes.now
      (subst (λ ts. All (IsReached ts) c.args.nodes.now) c.deref.ensures.value (c.lead_to_all.ensures.0 c.if-lead_to_all.true)),
  λ all. refl,
)

pub returns-clause-leads : goal.returns-clause-leads
returns-clause-leads c =
    targets_told c.in_ok-targets.ensures c.leads_within-leads.result c.args.nodes.now c.values.ensures.value c.leads_within-leads.ensures

pub returns-clause-step : goal.returns-clause-step
returns-clause-step c = record {
  step = record { targets = c.in_ok-targets.ensures; traces = c.requires.step.step.traces };
  rise = c.requires.step.rise;
}
