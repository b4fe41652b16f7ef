-- What is due for `show`: exactly one status.
--
--   one_shown == one status is the answer at most
--   on_shown  == some status is, with some output
use Rattle.std.proofs.Common.{◌≡◌, ◌⊎◌, ℕ, List, [], ◌∷◌, inl, inr, refl}
use Rattle.ml_show_text.specs.Shown.{IsDocument, IsFault, IsShown}
use Rattle.ml_show_text.specs.declared.refusal.ShowFault.{ShowFault}
use Rattle.ml_show_text.proofs.OneReading.{document_or_fault, never_both}
use Rattle.ml_driver.specs.Run.{IsAnswer}
use Rattle.ml_driver.specs.Said.{said_text}
use Rattle.ml_driver.specs.ShownDocuments.{said_of_shown, IsNotShown}
use Rattle.ml_driver.specs.declared.command.Command.TheVariants.{Show}
use Rattle.ml_driver.specs.declared.status.Status.{Status}
use Rattle.ml_driver.specs.declared.status.Status.TheVariants.{Yes, Text}
use Rattle.ml_driver.proofs.InputLimits.{SomeAnswer}

shown_or_refused : (text out more : List ℕ) → IsShown text out → IsNotShown text more → ⊥
shown_or_refused text out more x r = never_both text r.fault x.0 r.is_fault

pub one_shown : (text : List ℕ) (s t : Status) (out more : List ℕ)
    → IsAnswer Show text s out
    → IsAnswer Show text t more
    → s ≡ t
one_shown text Yes Yes out more x y = refl
one_shown text Yes Text out more x y = absurd (shown_or_refused text out more x y)
one_shown text Text Yes out more x y = absurd (shown_or_refused text more out y x)
one_shown text Text Text out more x y = refl
one_shown text Yes _ out more x y = absurd y
one_shown text Text _ out more x y = absurd y
one_shown text _ t out more x y = absurd x

-- a page of an empty line
pub on_shown : (text : List ℕ) → SomeAnswer Show text
on_shown text = by_reading (document_or_fault text)
  where
    by_reading : IsDocument text ⊎ ((fault : ShowFault) × IsFault text fault) → SomeAnswer Show text
    by_reading (inl is) = (Yes, (10 ∷ [], (is, refl)))
    by_reading (inr (fault, found)) =
        (Text, (said_text (said_of_shown fault), record { fault = fault; is_fault = found; is_written = refl }))
