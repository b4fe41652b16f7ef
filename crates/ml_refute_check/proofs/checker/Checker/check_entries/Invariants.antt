use Rattle.std.proofs.Common.{◌≡◌, ℕ, ◌<◌}
use Rattle.ml_refute_check.specs.private.Parts.{question}
use Rattle.ml_refute_check.proofs.PartsFound.{EntryKept}
use Rattle.ml_refute_check.proofs.checker.Checker.check_entries.Given as goal

abbrev pub invariant-loop-place : goal.invariant-loop-place
invariant-loop-place l =
    record {
      same : l.branch.on.graph ≡ l.self.graph.now;
      sequents : l.branch.sequents ≡ l.self.refutation.now.sequents;
      kept : (d : ℕ) → d < l.place → EntryKept (question l.self.graph.now l.self.refutation.now) d;
    }
