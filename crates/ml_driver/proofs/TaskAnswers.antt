-- What is the answer to `realize` and to `make`: some status, of `realize` exactly one, and of two that are due for `make`
-- both, or one of them undecided.
--
--   told_of        == an outcome that is right and found is told
--   told_answered  == what is told of the task of a text is the answer
--   calm_task      == each status is no fault, and no want of memory
--   tasks_agree    == two statuses that are the answer are the same, unless one says that the task stays open
--   one_told       == by the whole game one status is the answer at most
--   on_task        == some status is, with some output
--   makes_as_realized == what is due for `realize` is due for `make`, and but for yes and no the other way round
use Rattle.std.proofs.Common.{◌≡◌, ◌≢◌, ℕ, ◌≤◌, ◌⊎◌, true, List, refl, subst, inl, inr, ⊎_elim, arith}
use Rattle.ml_base.specs.declared.doc_fault.DocFault.{DocFault}
use Rattle.ml_decide.specs.declared.way.Way.{Way}
use Rattle.ml_decide.specs.declared.way.Way.TheVariants.{WholeGame, Search}
use Rattle.ml_make.proofs.Answered as searched
use Rattle.ml_realize.specs.Laws.{OneSize}
use Rattle.ml_realize.specs.Realizing.{IsRight}
use Rattle.ml_realize.specs.TaskGame.{IsFound, IsLarge, PassesLimit, most_nodes}
use Rattle.ml_realize.proofs.NeverBoth.{never_both}
use Rattle.ml_realize.proofs.OneGame.{one_game}
use Rattle.ml_realize.proofs.RightOutcomes.{found_right}
use Rattle.ml_realize.proofs.SomeOutcomes.{some_outcome}
use Rattle.ml_realize_text.specs.RealizeText.{outcome_text, undecided_text}
use Rattle.ml_realize_text.specs.declared.cause.Cause.{Cause}
use Rattle.ml_realize_text.specs.declared.cause.Cause.TheVariants.{Closure, Positions}
use Rattle.ml_synthesis.specs.declared.outcome.Outcome.{Outcome}
use Rattle.ml_synthesis.specs.declared.outcome.Outcome.TheVariants.{Made, Defeated}
use Rattle.ml_task.specs.Task.{IsTask, Task}
use Rattle.ml_task.specs.TaskText.{IsTaskFault, IsTaskText}
use Rattle.ml_task.proofs.OneAnswer.{one_task, some_answer, task_or_fault}
use Rattle.ml_word_automaton.proofs.BlockGraphs.{one_size}
use Rattle.ml_driver.specs.Codes.{code_of}
use Rattle.ml_driver.specs.Laws.{AgreeUnlessOpen, MakesAsRealized}
use Rattle.ml_driver.specs.Said.{said_text}
use Rattle.ml_driver.specs.Statuses.{IsUnreadable}
use Rattle.ml_driver.specs.Tasks.{IsFoundBy, IsMadeOf, IsOpenFor, IsTaskAnswered, IsTaskTold}
use Rattle.ml_driver.specs.Texts.{StandsFor}
use Rattle.ml_driver.specs.private.Outcomes.{status_of}
use Rattle.ml_driver.specs.declared.command.Command.TheVariants.{Make, Realize}
use Rattle.ml_driver.specs.declared.said.Said.TheVariants.{RefusedDocument}
use Rattle.ml_driver.specs.declared.status.Status.{Status}
use Rattle.ml_driver.specs.declared.status.Status.TheVariants.{Yes, No, Undecided, Text}
use Rattle.ml_driver.proofs.InputLimits.{with_answer}

-- ---- what is made is told, and what is told is the answer

pub told_of : (w : Way) (t : Task) (n : ℕ) (r : Outcome) (out : List ℕ)
    → IsRight t r
    → IsFoundBy w t n r
    → out ≡ outcome_text t r
    → IsTaskTold w t n (status_of r) out
told_of w t n (Made m) out right is written = (m, record { is_right = right; is_found = is; is_written = written })
told_of w t n (Defeated e) out right is written = (e, record { is_right = right; is_found = is; is_written = written })

pub told_answered : (w : Way) (n : ℕ) (text : List ℕ) (t : Task) (s : Status) (out : List ℕ)
    → IsTaskText text t
    → IsTaskTold w t n s out
    → IsTaskAnswered w n text s out
told_answered w n text t Yes out is so = record { meant = t; is_meant = is; is_so = so }
told_answered w n text t No out is so = record { meant = t; is_meant = is; is_so = so }
told_answered w n text t Undecided out is so = record { meant = t; is_meant = is; is_so = so }
told_answered w n text t _ out is so = absurd so

pub calm_task : (w : Way) (n : ℕ) (text : List ℕ) (s : Status) (out : List ℕ) → IsTaskAnswered w n text s out → code_of s ≤ 4
calm_task w n text Yes out x = omega arith
calm_task w n text No out x = omega arith
calm_task w n text Undecided out x = omega arith
calm_task w n text Text out x = omega arith
calm_task w n text _ out x = absurd x.is_so

-- ---- two statuses

both_sides : (w : Way) (n : ℕ) (text out more : List ℕ)
    → StandsFor IsTaskText text (λ t. IsTaskTold w t n Yes out)
    → StandsFor IsTaskText text (λ t. IsTaskTold w t n No more)
    → ⊥
both_sides w n text out more x y =
    let other = subst (λ t. IsTaskTold w t n No more) (one_task text y.meant x.meant y.is_meant x.is_meant) y.is_so in
    never_both x.meant x.is_so.0 other.0 x.is_so.1.is_right other.1.is_right

read_or_refused : (text out : List ℕ) (IsSo : Task → Type 0) → StandsFor IsTaskText text IsSo → IsUnreadable (IsTaskFault text) out → ⊥
read_or_refused text out IsSo x r = task_or_fault text x.meant r.fault x.is_meant r.is_fault

pub tasks_agree : (w : Way) (n : ℕ) (text : List ℕ) (s u : Status) (out more : List ℕ)
    → IsTaskAnswered w n text s out
    → IsTaskAnswered w n text u more
    → AgreeUnlessOpen s u
tasks_agree w n text Yes Yes out more x y = inl refl
tasks_agree w n text Yes No out more x y = absurd (both_sides w n text out more x y)
tasks_agree w n text No Yes out more x y = absurd (both_sides w n text more out y x)
tasks_agree w n text No No out more x y = inl refl
tasks_agree w n text Undecided u out more x y = inr (inl refl)
tasks_agree w n text s Undecided out more x y = inr (inr refl)
tasks_agree w n text Text Text out more x y = inl refl
tasks_agree w n text Yes Text out more x y = absurd (read_or_refused text more _ x y)
tasks_agree w n text No Text out more x y = absurd (read_or_refused text more _ x y)
tasks_agree w n text Text Yes out more x y = absurd (read_or_refused text out _ y x)
tasks_agree w n text Text No out more x y = absurd (read_or_refused text out _ y x)
tasks_agree w n text Yes _ out more x y = absurd y.is_so
tasks_agree w n text No _ out more x y = absurd y.is_so
tasks_agree w n text Text _ out more x y = absurd y.is_so
tasks_agree w n text _ u out more x y = absurd x.is_so

-- ---- by the whole game

-- a task is large exactly where the graph of a reading is
too_large : OneSize
too_large t r = one_size t.formula true r.automaton.graph most_nodes r.is_automaton.is_graph

-- a task isn't left open within a limit in which an outcome is found
found_or_open : (t : Task) (n : ℕ) (r : Outcome) (c : Cause) → IsFound t n r → IsOpenFor t n c → ⊥
found_or_open t n r (Positions m) x y = x.within (one_game t y.1.reading x.reading n y.1.more)
found_or_open t n r (Closure m) x y = absurd (omega (arith, (too_large t x.reading).0 y.1, x.few))

told_or_open : (t : Task) (n : ℕ) (r : Outcome) (out more : List ℕ) → IsMadeOf WholeGame t n r out → IsTaskTold WholeGame t n Undecided more
    → ⊥
told_or_open t n r out more x y = found_or_open t n r y.cause x.is_found y.is_open

-- what is told of the task that another text of it stands for
of_task : (n : ℕ) (text more : List ℕ) (t : Task) → IsTaskText text t
    → StandsFor IsTaskText text (λ u. IsTaskTold WholeGame u n Undecided more)
    → IsTaskTold WholeGame t n Undecided more
of_task n text more t is y =
    subst (λ u. IsTaskTold WholeGame u n Undecided more) (one_task text y.meant t y.is_meant is) y.is_so

yes_or_open : (n : ℕ) (text out more : List ℕ) → IsTaskAnswered WholeGame n text Yes out
    → IsTaskAnswered WholeGame n text Undecided more → ⊥
yes_or_open n text out more x y =
    told_or_open x.meant n (Made x.is_so.0) out more x.is_so.1 (of_task n text more x.meant x.is_meant y)

no_or_open : (n : ℕ) (text out more : List ℕ) → IsTaskAnswered WholeGame n text No out
    → IsTaskAnswered WholeGame n text Undecided more → ⊥
no_or_open n text out more x y =
    told_or_open x.meant n (Defeated x.is_so.0) out more x.is_so.1 (of_task n text more x.meant x.is_meant y)

pub one_told : (n : ℕ) (text : List ℕ) (s u : Status) (out more : List ℕ) → IsTaskAnswered WholeGame n text s out
    → IsTaskAnswered WholeGame n text u more → s ≡ u
one_told n text Undecided Undecided out more x y = refl
one_told n text Undecided Yes out more x y = absurd (yes_or_open n text more out y x)
one_told n text Undecided No out more x y = absurd (no_or_open n text more out y x)
one_told n text Undecided Text out more x y = absurd (read_or_refused text more _ x y)
one_told n text Yes Undecided out more x y = absurd (yes_or_open n text out more x y)
one_told n text No Undecided out more x y = absurd (no_or_open n text out more x y)
one_told n text Text Undecided out more x y = absurd (read_or_refused text out _ y x)
one_told n text Yes Yes out more x y = refl
one_told n text Yes No out more x y = absurd (both_sides WholeGame n text out more x y)
one_told n text No Yes out more x y = absurd (both_sides WholeGame n text more out y x)
one_told n text No No out more x y = refl
one_told n text Text Text out more x y = refl
one_told n text Yes Text out more x y = absurd (read_or_refused text more _ x y)
one_told n text No Text out more x y = absurd (read_or_refused text more _ x y)
one_told n text Text Yes out more x y = absurd (read_or_refused text out _ y x)
one_told n text Text No out more x y = absurd (read_or_refused text out _ y x)
one_told n text Yes _ out more x y = absurd y.is_so
one_told n text No _ out more x y = absurd y.is_so
one_told n text Text _ out more x y = absurd y.is_so
one_told n text Undecided _ out more x y = absurd y.is_so
one_told n text _ u out more x y = absurd x.is_so

-- ---- some status

abbrev Told : Way → Task → ℕ → Type 0
Told w t n = (s : Status) × ((out : List ℕ) × IsTaskTold w t n s out)

made_told : (w : Way) (t : Task) (n : ℕ) (r : Outcome) → IsRight t r → IsFoundBy w t n r → Told w t n
made_told w t n r right is = (status_of r, (outcome_text t r, told_of w t n r (outcome_text t r) right is refl))

open_told : (w : Way) (t : Task) (n : ℕ) (c : Cause) → IsOpenFor t n c → Told w t n
open_told w t n c is = (Undecided, (undecided_text t c, record { cause = c; is_open = is; is_written = refl }))

abbrev SomeFound : Way → Task → ℕ → Type 0
SomeFound w t n = (r : Outcome) × (IsRight t r × IsFoundBy w t n r)

some_found : (w : Way) (t : Task) (n : ℕ) → IsTask t → IsLarge t ⊎ (PassesLimit t n ⊎ SomeFound w t n)
some_found WholeGame t n ok =
    ⊎_elim (λ (large : IsLarge t). inl large)
    (⊎_elim (λ (more : PassesLimit t n). inr (inl more))
    (λ (r : (r : Outcome) × IsFound t n r). inr (inr (r.0, (found_right t n r.0 ok r.1, r.1)))))
    (some_outcome t n)
some_found Search t n ok =
    ⊎_elim (λ (large : IsLarge t). inl large)
    (⊎_elim (λ (more : PassesLimit t n). inr (inl more))
    (λ (r : (r : Outcome) × IsFoundBy Search t n r). inr (inr (r.0, (searched.answers_right t n r.0 ok r.1, r.1)))))
    (searched.some_answer t n)

some_told : (w : Way) (t : Task) (n : ℕ) → IsTask t → Told w t n
some_told w t n ok =
    ⊎_elim
    (λ (large : IsLarge t). open_told w t n (Closure most_nodes) (refl, large))
    (⊎_elim
    (λ (more : PassesLimit t n). open_told w t n (Positions n) (refl, more))
    (λ (r : SomeFound w t n). made_told w t n r.0 r.1.0 r.1.1))
    (some_found w t n ok)

pub on_task : (w : Way) (n : ℕ) (text : List ℕ) → (s : Status) × ((out : List ℕ) × IsTaskAnswered w n text s out)
on_task w n text =
    ⊎_elim
    (λ (read : (t : Task) × IsTaskText text t).
    let x = some_told w read.0 n read.1.is_task in
    (x.0, (x.1.0, told_answered w n text read.0 x.0 x.1.0 read.1 x.1.1)))
    (λ (bad : (fault : DocFault) × IsTaskFault text fault).
    (Text, (said_text (RefusedDocument bad.0), record { fault = bad.0; is_fault = bad.1; is_written = refl })))
    (some_answer text)

-- ---- both ways

made_of_found : (t : Task) (n : ℕ) (r : Outcome) (out : List ℕ) → IsMadeOf WholeGame t n r out → IsMadeOf Search t n r out
made_of_found t n r out x = record { is_right = x.is_right; is_found = inr x.is_found; is_written = x.is_written }

realized_made : (n : ℕ) (text : List ℕ) (s : Status) (out : List ℕ) → IsTaskAnswered WholeGame n text s out
    → IsTaskAnswered Search n text s out
realized_made n text Yes out x =
    let y = x.is_so in record {
      meant = x.meant;
      is_meant = x.is_meant;
      is_so = (y.0, made_of_found x.meant n (Made y.0) out y.1);
    }
realized_made n text No out x =
    let y = x.is_so in record {
      meant = x.meant;
      is_meant = x.is_meant;
      is_so = (y.0, made_of_found x.meant n (Defeated y.0) out y.1);
    }
realized_made n text Undecided out x = record { meant = x.meant; is_meant = x.is_meant; is_so = x.is_so }
realized_made n text Text out x = x
realized_made n text _ out x = absurd x.is_so

made_realized : (n : ℕ) (text : List ℕ) (s : Status) (out : List ℕ) → s ≢ Yes → s ≢ No → IsTaskAnswered Search n text s out
    → IsTaskAnswered WholeGame n text s out
made_realized n text Yes out other another x = absurd (other refl)
made_realized n text No out other another x = absurd (another refl)
made_realized n text Undecided out other another x = record { meant = x.meant; is_meant = x.is_meant; is_so = x.is_so }
made_realized n text Text out other another x = x
made_realized n text _ out other another x = absurd x.is_so

pub makes_as_realized : MakesAsRealized
makes_as_realized n text s out = (
  with_answer (Realize n) (Make n) text s out refl (realized_made n text s out),
  λ other another. with_answer (Make n) (Realize n) text s out refl (made_realized n text s out other another),
)
