-- Inputs within the limit of their command, and past it.
--
--   within_or_past  == an input is within its limit, or isn't
--   some_due_for    == where a command has some answer, some status is due, with some output
--   answer_due      == what is due is the answer, if it doesn't refuse an input
--   with_answer     == what is due for one command is due for another that takes as long an input, if the answer is
--   alike_due       == two things that are due are both answers, or the same line
use Rattle.std.proofs.Common.{◌≡◌, ◌≢◌, ℕ, ◌<◌, ◌≤◌, ◌⊎◌, List, length, Option, Some, None, IfSome, refl, sym, subst, ◌∙◌, inl, inr, ⊎_elim, arith}
use Rattle.std.proofs.lemmas.Bool.{cases_lt}
use Rattle.ml_driver.specs.Run.{IsAnswer, IsDue, IsWithin}
use Rattle.ml_driver.specs.Said.{said_text}
use Rattle.ml_driver.specs.Statuses.{longest_input}
use Rattle.ml_driver.specs.declared.said.Said.TheVariants.{TooLong}
use Rattle.ml_driver.specs.declared.command.Command.{Command}
use Rattle.ml_driver.specs.declared.status.Status.{Status}
use Rattle.ml_driver.specs.declared.status.Status.TheVariants.{Text}

within_or_past : (c : Command) (text : List ℕ) → IsWithin c text ⊎ (¬ (IsWithin c text))
within_or_past c text = by_limit (longest_input c)
  where
    by_limit : (o : Option ℕ) → IfSome o (λ n. length text ≤ n) ⊎ (¬ (IfSome o (λ n. length text ≤ n)))
    by_limit None = inl tt
    by_limit (Some n) =
        ⊎_elim (λ (long : n < length text). inr (λ short. absurd (omega (arith, long, short))))
        (λ (short : length text ≤ n). inl short)
        (cases_lt n (length text))

-- some status and some output are the answer
abbrev pub SomeAnswer : Command → List ℕ → Type 0
SomeAnswer c text = (s : Status) × ((out : List ℕ) × IsAnswer c text s out)

abbrev pub Due : Option Command → List ℕ → Type 0
Due c text = (s : Status) × ((out : List ℕ) × IsDue c text s out)

pub some_due_for : (c : Command) (text : List ℕ) → SomeAnswer c text → Due (Some c) text
some_due_for c text a =
    ⊎_elim (λ (within : IsWithin c text). (a.0, (a.1.0, inl (within, a.1.1))))
    (λ (past : ¬ (IsWithin c text)). (Text, (said_text TooLong, inr (past, (refl, refl)))))
    (within_or_past c text)

pub answer_due : (c : Command) (text : List ℕ) (s : Status) (out : List ℕ) → s ≢ Text
    → IsDue (Some c) text s out
    → IsAnswer c text s out
answer_due c text s out other (inl x) = x.1
answer_due c text s out other (inr x) = absurd (other x.1.0)

pub with_answer : (c d : Command) (text : List ℕ) (s : Status) (out : List ℕ) → longest_input c ≡ longest_input d
    → (IsAnswer c text s out → IsAnswer d text s out)
    → IsDue (Some c) text s out
    → IsDue (Some d) text s out
with_answer c d text s out same goes (inl x) =
    inl (subst (λ o. IfSome o (λ n. length text ≤ n)) same x.0, goes x.1)
with_answer c d text s out same goes (inr x) =
    inr (subst (λ o. ¬ (IfSome o (λ n. length text ≤ n))) same x.0, x.1)

pub alike_due : (c : Command) (text : List ℕ) (s t : Status) (out more : List ℕ) (Alike : Type 0)
    → (s ≡ t → out ≡ more → Alike)
    → (IsAnswer c text s out → IsAnswer c text t more → Alike)
    → IsDue (Some c) text s out
    → IsDue (Some c) text t more
    → Alike
alike_due c text s t out more Alike same answered (inl x) (inl y) = answered x.1 y.1
alike_due c text s t out more Alike same answered (inl x) (inr y) = absurd (y.0 x.0)
alike_due c text s t out more Alike same answered (inr x) (inl y) = absurd (x.0 y.0)
alike_due c text s t out more Alike same answered (inr x) (inr y) = same (x.1.0 ∙ sym y.1.0) (x.1.1 ∙ sym y.1.1)
