-- How a call of `run` ends, from what was read and what was due.
--
--   calm_due       == what is due is never a fault or want of memory
--   ended_written  == a status that is due, with its output written or partly written, ends the call as it should
--   ended_with     == the same, where the words are a command
--   too_long_due   == an input past the limit of its command is refused by its length
--   given_past     == and was read, as far as it was given
--   unread         == how a call ends that lacks memory before anything is read
--   lacked         == want of memory ends a call as it should
--   line_confirmed == what a text is refused with shows no document
use Rattle.std.proofs.Common.{◌≡◌, ℕ, ◌+◌, ◌<◌, ◌≤◌, Bool, true, false, length, List, [], Option, Some, None, IfSome, if◌then◌else◌, refl, sym, ap, subst, inl, inr, ⊎_elim, arith}
use Rattle.std.specs.Io.KnownBytes.{append_known, prepend_known}
use Rattle.ml_base.specs.Faults.{Rose}
use Rattle.ml_base.specs.Whole.{AppendsPart}
use Rattle.ml_front.specs.declared.answer.Answer.{Answer}
use Rattle.ml_front.specs.declared.answer.Answer.TheVariants as answer
use Rattle.ml_model_check.specs.declared.checked.Checked.{Checked}
use Rattle.ml_model_check.specs.declared.checked.Checked.TheVariants as checked
use Rattle.ml_refute_check.specs.declared.verdict.Verdict.{Verdict}
use Rattle.ml_refute_check.specs.declared.verdict.Verdict.TheVariants as verdict
use Rattle.ml_pgsolver.specs.declared.finding.SolutionFinding.{SolutionFinding}
use Rattle.ml_pgsolver.specs.declared.finding.SolutionFinding.TheVariants as finding
use Rattle.ml_driver.specs.Confirmed.{IsConfirmed}
use Rattle.ml_driver.specs.CheckedGames.{IsGameChecked, finding_said, if_found, if_unread}
use Rattle.ml_driver.specs.Decision.{IsAnswered, if_open, if_refused, if_refuted, if_satisfied}
use Rattle.ml_driver.specs.declared.question.Question.{Question}
use Rattle.ml_decide.specs.declared.way.Way.TheVariants.{WholeGame, Search}
use Rattle.ml_driver.specs.declared.command.Command.{Command}
use Rattle.ml_driver.specs.declared.command.Command.TheVariants.{Decide, Valid, Find, Prove, CheckModel, CheckRefutation, Migrate, Quotient, SolveGame, CheckGame, Path, Show, CheckMachine, CheckAnswers, Determinise, Automaton, Realize, Make, Ask, Gen, Bench}
use Rattle.ml_driver.specs.declared.status.Status.{Status}
use Rattle.ml_driver.specs.declared.status.Status.TheVariants.{Yes, No, Undecided, Text, ReadFault, WriteFault, NoMemory}
use Rattle.ml_decide.specs.Measures.{answer_of}
use Rattle.ml_driver.specs.Bench.{status_of}
use Rattle.ml_driver.specs.Said.{said_text, status_said}
use Rattle.ml_driver.specs.Statuses.{longest_input, model_said, refutation_said}
use Rattle.ml_driver.specs.declared.said.Said.TheVariants.{TooLong}
use Rattle.ml_driver.proofs.AskedAnswers.{calm_asked}
use Rattle.ml_driver.proofs.CheckedAnswers.{calm_checked_answers}
use Rattle.ml_driver.proofs.MachineAnswers.{calm_machine}
use Rattle.ml_driver.proofs.PathAnswers.{calm_path}
use Rattle.ml_driver.proofs.TaskAnswers.{calm_task}
use Rattle.ml_driver.specs.Codes.{code_of}
use Rattle.ml_driver.specs.Run.{asked, input_limit, GaveUpTo, IsAnswer, IsCalm, IsDue, LackedMemory}
use Rattle.ml_driver.specs.Run.{World, IsWithin, WasGiven, IsWhole, Answered, FailedToWrite, Ended, Wrote}

-- ---- statuses

calm_status : (a : Answer) (s : Status) → s ≡ status_of a → code_of s ≤ 4
calm_status answer.Satisfiable s is = omega (arith, ap code_of is)
calm_status answer.Unsatisfiable s is = omega (arith, ap code_of is)
calm_status answer.Undecided s is = omega (arith, ap code_of is)

calm_check : (c : Checked) (s : Status) → s ≡ status_said (model_said c) → code_of s ≤ 4
calm_check checked.Holds s is = omega (arith, ap code_of is)
calm_check checked.Fails s is = omega (arith, ap code_of is)
calm_check checked.ClosureTooLarge s is = omega (arith, ap code_of is)
calm_check (checked.NotTotal state) s is = omega (arith, ap code_of is)
calm_check (checked.NotAWord state) s is = omega (arith, ap code_of is)
calm_check (checked.Unreadable fault) s is = omega (arith, ap code_of is)

calm_verdict : (v : Verdict) (s : Status) → s ≡ status_said (refutation_said v) → code_of s ≤ 4
calm_verdict verdict.Accepted s is = omega (arith, ap code_of is)
calm_verdict (verdict.Rejected line rule) s is = omega (arith, ap code_of is)
calm_verdict (verdict.Unreadable fault) s is = omega (arith, ap code_of is)

yes_or_no : (b : Bool) (s t u : Status) → code_of t ≤ 4 → code_of u ≤ 4 → s ≡ (if b then t else u) → code_of s ≤ 4
yes_or_no true s t u low also is = omega (arith, low, ap code_of is)
yes_or_no false s t u low also is = omega (arith, also, ap code_of is)

calm_answered : (q : Question) (text : List ℕ) (s : Status) (out : List ℕ) → IsAnswered q text s out → code_of s ≤ 4
calm_answered q text s out (if_satisfied is x) = yes_or_no q.negated s No Yes (omega arith) (omega arith) is
calm_answered q text s out (if_refuted is x) = yes_or_no q.negated s Yes No (omega arith) (omega arith) is
calm_answered q text s out (if_open is x) = omega (arith, ap code_of is)
calm_answered q text s out (if_refused is x) = omega (arith, ap code_of is)

calm_finding : (f : SolutionFinding) (s : Status) → s ≡ status_said (finding_said f) → code_of s ≤ 4
calm_finding finding.Accepted s is = omega (arith, ap code_of is)
calm_finding (finding.Rejected id rule) s is = omega (arith, ap code_of is)

calm_game : (text : List ℕ) (s : Status) (out : List ℕ) → IsGameChecked text s out → code_of s ≤ 4
calm_game text s out (if_found f is said) = calm_finding f s said.0
calm_game text s out (if_unread e is text_is line) = omega (arith, ap code_of text_is)

-- what is answered is never a fault or want of memory
calm_answer : (c : Command) (text : List ℕ) (s : Status) (out : List ℕ) → IsAnswer c text s out → code_of s ≤ 4
calm_answer (Decide l n) text s out x = calm_answered (asked false WholeGame l n) text s out x
calm_answer (Valid l n) text s out x = calm_answered (asked true WholeGame l n) text s out x
calm_answer (Find l n) text s out x = calm_answered (asked false Search l n) text s out x
calm_answer (Prove l n) text s out x = calm_answered (asked true Search l n) text s out x
calm_answer CheckModel text s out x = calm_check x.finding s x.is_said.0
calm_answer CheckRefutation text s out x = calm_verdict x.finding s x.is_said.0
calm_answer CheckGame text s out x = calm_game text s out x
calm_answer Path text s out x = calm_path x.finding s x.status_is
calm_answer CheckMachine text s out x = calm_machine x.finding s x.status_is
calm_answer CheckAnswers text s out x = calm_checked_answers x.finding s x.is_said.0
calm_answer (Ask f n) text s out x = calm_asked x.told s x.status_is
calm_answer (Make n) text s out x = calm_task Search n text s out x
calm_answer (Realize n) text s out x = calm_task WholeGame n text s out x
calm_answer (Bench f n) text s out x = calm_status (answer_of x.finding) s x.status_is
calm_answer c text Yes out x = omega arith
calm_answer c text Undecided out x = omega arith
calm_answer c text Text out x = omega arith
calm_answer Migrate text _ out x = absurd x
calm_answer Quotient text _ out x = absurd x
calm_answer Show text _ out x = absurd x
calm_answer (SolveGame e) text _ out x = absurd x
calm_answer (Determinise n) text _ out x = absurd x
calm_answer (Automaton n) text _ out x = absurd x
calm_answer (Gen f n) text _ out x = absurd x

calm_due : (c : Option Command) (text : List ℕ) (s : Status) (out : List ℕ) → IsDue c text s out → code_of s ≤ 4
calm_due None text s out due = omega (arith, ap code_of due.0)
calm_due (Some c) text s out (inl x) = calm_answer c text s out x.1
calm_due (Some c) text s out (inr x) = omega (arith, ap code_of x.1.0)

answered_ended : (c : Option Command) (w : World) (status : Status) → Answered c w status → Ended c w status
answered_ended c w ReadFault x = absurd (omega (arith, calm_due c x.text ReadFault x.output x.is_due))
answered_ended c w WriteFault x = absurd (omega (arith, calm_due c x.text WriteFault x.output x.is_due))
answered_ended c w NoMemory x = absurd (omega (arith, calm_due c x.text NoMemory x.output x.is_due))
answered_ended c w _ x = x

-- ---- ways to end

pub ended_written : (c : Option Command) (w : World) (text : List ℕ) (due : Status) (output : List ℕ) (status : Status)
    → WasGiven (input_limit c) w.left_before w.left_after text
    → w.source_faults_after ≡ w.source_faults_before
    → IsDue c text due output
    → IsConfirmed c due output
    → IsWhole output
    → Wrote w.taken_before w.taken_after w.sink_faults_before w.sink_faults_after due output status
    → Ended c w status
ended_written c w text due output status read calm is_due confirmed whole_output wrote =
    ⊎_elim
    (λ (whole : (status ≡ due)
    × (w.taken_after ≡ append_known w.taken_before output)
    × (w.sink_faults_after ≡ w.sink_faults_before)).
    subst (Ended c w) (sym whole.0) (answered_ended c w due (record {
      text = text;
      output = output;
      was_read = read;
      is_due = is_due;
      is_confirmed = confirmed;
      is_whole = whole_output;
      was_taken = whole.1;
      is_calm = record { source_is_calm = calm; sink_is_calm = whole.2 };
    })))
    (λ (part : (status ≡ WriteFault)
    × AppendsPart w.taken_before w.taken_after output
    × Rose w.sink_faults_before w.sink_faults_after).
    let failed : FailedToWrite c w = record {
      text = text;
      status = due;
      output = output;
      was_read = read;
      is_due = is_due;
      is_confirmed = confirmed;
      is_whole = whole_output;
      part_taken = part.1;
      source_is_calm = calm;
      sink_rose = part.2;
    }
    in subst (Ended c w) (sym part.0) failed)
    wrote

-- a call whose words are a command ends as that command does
pub ended_with : (c d : Option Command) (w : World) (status : Status) → d ≡ c → Ended c w status → Ended d w status
ended_with c d w status same ended = subst (λ k. Ended k w status) (sym same) ended

-- an input past the limit of its command is refused by its length
pub too_long_due : (c : Command) (k : ℕ) (text : List ℕ)
    → longest_input c ≡ Some k
    → k < length text
    → IsDue (Some c) text Text (said_text TooLong)
too_long_due c k text is long =
    let past : length text ≤ k → ⊥ = λ short. absurd (omega (arith, long, short)) in
    inr ((λ within. past (subst (λ o. IfSome o (λ n. length text ≤ n)) is within)), (refl, refl))

-- what refuses an input shows no document
pub line_confirmed : (c : Option Command) (out : List ℕ) → IsConfirmed c Text out
line_confirmed None out = tt
line_confirmed (Some Path) out = tt
line_confirmed (Some CheckMachine) out = tt
line_confirmed (Some c) out = tt

-- ---- what was given

-- what was given of an input past its limit was read: one byte more
pub given_past : (c : Command) (k : ℕ) (before after : Option (List ℕ)) (text : List ℕ)
    → longest_input c ≡ Some k
    → before ≡ prepend_known text after
    → length text ≡ k + 1
    → WasGiven (longest_input c) before after text
given_past c k before after text is gave long =
    subst (λ o. WasGiven o before after text) (sym is) (gave, inr long)

gave_within : (o : Option ℕ) (before after : Option (List ℕ)) (text : List ℕ)
    → WasGiven o before after text
    → IfSome o (λ n. length text ≤ n)
    → GaveUpTo o before after
gave_within None before after text given fits = given.0
gave_within (Some n) before after text given fits = (text, given.0, fits)

-- what was read is gone where memory is wanting behind it
pub lacking : (c : Command) (w : World) (text : List ℕ)
    → WasGiven (longest_input c) w.left_before w.left_after text
    → IsWithin c text
    → w.taken_after ≡ w.taken_before
    → IsCalm w
    → LackedMemory (Some c) w
lacking c w text given fits nothing calm = record {
  gave_at_most = gave_within (longest_input c) w.left_before w.left_after text given fits;
  nothing_taken = nothing;
  is_calm = calm;
}

-- a call that lacks memory ends so
pub lacked : (c : Option Command) (w : World) (status : Status) → status ≡ NoMemory → LackedMemory c w → Ended c w status
lacked c w status is lacks = subst (Ended c w) (sym is) lacks

-- ---- where nothing is read

nothing_given : (left : Option (List ℕ)) → left ≡ prepend_known [] left
nothing_given None = refl
nothing_given (Some bytes) = refl

gave_nothing : (o : Option ℕ) (left : Option (List ℕ)) → GaveUpTo o left left
gave_nothing None left = refl
gave_nothing (Some n) left = let few : length {A = ℕ} [] ≤ n = omega arith in ([], nothing_given left, few)

pub unread : (c : Option Command) (w : World)
    → w.left_before ≡ w.left_after
    → w.taken_after ≡ w.taken_before
    → IsCalm w
    → LackedMemory c w
unread c w same nothing calm = record {
  gave_at_most = subst (GaveUpTo (input_limit c) w.left_before) same (gave_nothing (input_limit c) w.left_before);
  nothing_taken = nothing;
  is_calm = calm;
}
