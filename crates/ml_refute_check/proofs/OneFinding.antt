-- Checking a refutation in a graph finds exactly one thing.
--
--   one_finding == exactly one finding
use Rattle.std.proofs.Common.{ℕ, ◌≡◌, ◌⊎◌, inl, inr, refl}
use Rattle.ml_graph.specs.Graph.{Graph}
use Rattle.ml_refutation.specs.Refutation.{Refutation}
use Rattle.ml_refutation.specs.Acceptance.{IsAccepted, IsFirstBad}
use Rattle.ml_refute_check.specs.declared.finding.Finding.{Finding}
use Rattle.ml_refute_check.specs.declared.finding.Finding.TheVariants.{Accepted, Rejected}
use Rattle.ml_refute_check.specs.Findings.{IsFinding, OneFinding}
use Rattle.ml_refute_check.proofs.OneFault.{never_both, one_fault}
use Rattle.ml_refute_check.proofs.SomeFault.{some_fault}

module _ (g : Graph) (r : Refutation) where
  accepted_alone : IsAccepted g r → (w : Finding) → IsFinding g r w → Accepted ≡ w
  accepted_alone accepted Accepted is = refl
  accepted_alone accepted (Rejected f) is = absurd (never_both g r f.entry f.part f.rule accepted is)

  bad_alone : (e k n : ℕ) → IsFirstBad g r e k n → (w : Finding) → IsFinding g r w
      → Rejected (record { entry = e; part = k; rule = n }) ≡ w
  bad_alone e k n bad Accepted is = absurd (never_both g r e k n is bad)
  bad_alone e k n bad (Rejected f) is =
      let same = one_fault g r e k n f.entry f.part f.rule bad is in
      λ i. Rejected (record { entry = same.0 i; part = same.1 i; rule = same.2 i })

  of_two : IsAccepted g r ⊎ ((e : ℕ) × (k : ℕ) × (n : ℕ) × IsFirstBad g r e k n)
      → (v : Finding) × IsFinding g r v × ((w : Finding) → IsFinding g r w → v ≡ w)
  of_two (inl accepted) = (Accepted, accepted, accepted_alone accepted)
  of_two (inr (e, k, n, bad)) = (Rejected (record { entry = e; part = k; rule = n }), bad, bad_alone e k n bad)

pub one_finding : OneFinding
one_finding g r ok = of_two g r (some_fault g r ok)
