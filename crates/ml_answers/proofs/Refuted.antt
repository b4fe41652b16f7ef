-- Refutations checked in a graph of a problem.
--
--   accepted_here, rejected_here == what is found there
--   problem_is == a plain problem is told by its formula
use Rattle.std.proofs.Common.{◌≡◌, false, ap, ◌∙◌}
use Rattle.ml_front.specs.Graphs.{IsGraphOf}
use Rattle.ml_front.specs.declared.problem.AnyFormula.{AnyFormula}
use Rattle.ml_front.specs.declared.problem.Problem.{Problem}
use Rattle.ml_graph.specs.Graph.{Graph}
use Rattle.ml_refutation.specs.Refutation.{Refutation}
use Rattle.ml_refute_check.proofs.OneFault.{never_both}
use Rattle.ml_refute_check.specs.Findings.{IsFinding}
use Rattle.ml_refute_check.specs.declared.finding.Fault.{Fault}
use Rattle.ml_refute_check.specs.declared.finding.Finding.TheVariants.{Accepted, Rejected}
use Rattle.ml_replies.specs.Meeting.{plain, IsHeld, IsSmall}
use Rattle.ml_answers.specs.Checked.{IsNotRefuted, IsRefuted}

pub accepted_here : (p : Problem) (g : Graph) (r : Refutation)
    → IsHeld p
    → IsSmall p
    → IsGraphOf g p
    → IsFinding g r Accepted
    → IsRefuted p r
accepted_here p g r held small graph is =
    record { is_held = held; is_small = small; is_accepted = record { graph = g; is_graph = graph; holds = is } }

pub rejected_here : (p : Problem) (g : Graph) (r : Refutation)
    → IsHeld p
    → IsSmall p
    → IsGraphOf g p
    → (fault : Fault)
    → IsFinding g r (Rejected fault)
    → IsNotRefuted p r
rejected_here p g r held small graph fault is =
    record {
      is_held = held;
      is_small = small;
      is_rejected = record {
        graph = g;
        is_graph = graph;
        holds = λ accepted. never_both g r fault.entry fault.part fault.rule accepted is;
      };
    }

pub problem_is : (p : Problem) (f : AnyFormula) → p.formula ≡ f → p.negated ≡ false → p ≡ plain f
problem_is p f formula sense =
    ap (λ g. record { formula = g; negated = p.negated }) formula
    ∙ ap (λ b. record { formula = f; negated = b }) sense
