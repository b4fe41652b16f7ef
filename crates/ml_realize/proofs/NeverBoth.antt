-- No task has both a machine that realizes it and an environment that defeats it: they have a word in common.
--
--   never_both == so no task has both
--   one_fails  == the word satisfies the formula or not, so one of the two fails
use Rattle.std.proofs.Common.{ℕ, ◌<◌, ◌⊎◌, inl, inr, sym, subst}
use Rattle.std.proofs.lemmas.List.{length-map}
use Rattle.ml_ctl.specs.Laws.{IsDecided}
use Rattle.ml_synthesis.specs.Machines.{IsEnvironmentWord, IsMachineWord}
use Rattle.ml_synthesis.proofs.CommonWords.{common_word}
use Rattle.ml_task.specs.NameSets.{members}
use Rattle.ml_task.specs.Task.{names_of}
use Rattle.ml_trace.specs.WordAutomata.{WordLasso}
use Rattle.ml_word_automaton.specs.Words.{SatisfiedBy}
use Rattle.ml_realize.specs.Laws.{EnvironmentFails, MachineFails, NeverBoth, OneFails}
use Rattle.ml_realize.specs.Realizing.{inputs_of, outputs_of, word_of}
use Rattle.ml_realize.proofs.RightOutcomes.{linear_decided}

pub never_both : NeverBoth
never_both t m e realizes defeats =
    let w = common_word (inputs_of t) (outputs_of t) m e realizes.fits defeats.fits in
    defeats.excludes w.0 w.2 (realizes.satisfies w.0 w.1)

pub one_fails : OneFails
one_fails t m e ok machine environment =
    let w = common_word (inputs_of t) (outputs_of t) m e machine environment in
    by w.0 w.1 w.2
    (linear_decided (word_of (names_of t) w.0) t.formula ok.is_linear
    (subst (λ n. w.0.loop_start < n) (sym (length-map w.0.word (members (names_of t)))) w.1.loops))
  where
    by : (w : WordLasso ℕ) → IsMachineWord (inputs_of t) m w → IsEnvironmentWord (inputs_of t) (outputs_of t) e w
        → IsDecided (SatisfiedBy (word_of (names_of t) w) t.formula)
        → MachineFails t m ⊎ EnvironmentFails t e
    by w machines environments (inl satisfied) = inr (w, environments, satisfied)
    by w machines environments (inr not_satisfied) = inl (w, machines, not_satisfied)
