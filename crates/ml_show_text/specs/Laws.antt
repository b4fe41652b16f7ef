-- What is true of texts that are shown or refused.
--
--   DocumentOrFault == a text is a document, or there is why it is none
--   NeverBoth       == never both
--   OneFault        == there is one such reason at most: so one first bad line, with one lowest rule
use Rattle.std.specs.Prelude.{ℕ, ◌≡◌, ◌⊎◌, List}
use Rattle.ml_show_text.specs.Shown.{IsDocument, IsFault}
use Rattle.ml_show_text.specs.declared.refusal.ShowFault.{ShowFault}

abbrev pub DocumentOrFault : Type 0
DocumentOrFault = (text : List ℕ) → IsDocument text ⊎ ((fault : ShowFault) × IsFault text fault)

abbrev pub NeverBoth : Type 0
NeverBoth = (text : List ℕ) (fault : ShowFault) → IsDocument text → ¬ (IsFault text fault)

abbrev pub OneFault : Type 0
OneFault = (text : List ℕ) (e f : ShowFault) → IsFault text e → IsFault text f → e ≡ f
