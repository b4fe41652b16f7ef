-- Laws of the texts of refutations.
--
--   IsReadableBody v t    == the text t has no bad line
--   IsRefutationText v t  == t is the text of a refutation in the version v
--   OneRefutation         == of one refutation at most
--   WrittenIsText         == the text that is written of a refutation is one of it, in each version
--   WrittenIsWritten      == it is the one of which `Canonical` speaks
--   OneWrittenText        == and no other one is
--   WrittenIsRead         == what `Canonical` says is written of a refutation is a text of it
--   ReadableOrFault       == a text has no bad line, or a first one
--   FaultOrReadable       == and never both
--   ReadableIsRefutation  == a text has no bad line exactly where it is that of a refutation
--   OneFault              == a text has one first bad line at most
--   RulesRise             == the rules of each line rise by their numbers, so the first one that is broken is the lowest
use Rattle.std.specs.Prelude.{ℕ, ◌≡◌, ◌↔◌, ◌⊎◌, List}
use Rattle.ml_base.specs.declared.doc_fault.DocFault.{DocFault}
use Rattle.ml_base.specs.declared.version.Version.{Version}
use Rattle.ml_refutation.specs.Refutation.{Refutation, IsRefutation}
use Rattle.ml_refutation_text.specs.BodyRules.{IsTextOf}
use Rattle.ml_refutation_text.specs.WrittenText.{written_text}
use Rattle.ml_refutation_text.specs.Canonical.{IsWrittenText}
use Rattle.ml_lines.specs.Reading.{lines_of, left_of}
use Rattle.ml_lists.specs.Readings.{IsReadable, NumbersRise}
use Rattle.ml_refutation_text.specs.BodyRules.{AtNames, body, IsFaultOf}

abbrev pub IsReadableBody : Version → List ℕ → Type 0
IsReadableBody v text = IsReadable (body v (left_of text)) AtNames (lines_of text)

abbrev pub IsRefutationText : Version → List ℕ → Type 0
IsRefutationText v text = (r : Refutation) × IsRefutation r × IsTextOf v text r

abbrev pub OneRefutation : Type 0
OneRefutation = (v : Version) (text : List ℕ) (r s : Refutation)
    → IsRefutation r → IsRefutation s → IsTextOf v text r → IsTextOf v text s → r ≡ s

abbrev pub WrittenIsText : Type 0
WrittenIsText = (v : Version) (r : Refutation) → IsRefutation r → IsTextOf v (written_text v r) r

abbrev pub WrittenIsWritten : Type 0
WrittenIsWritten = (v : Version) (r : Refutation) → IsRefutation r → IsWrittenText v (written_text v r) r

abbrev pub OneWrittenText : Type 0
OneWrittenText = (v : Version) (a b : List ℕ) (r : Refutation)
    → IsRefutation r → IsWrittenText v a r → IsWrittenText v b r → a ≡ b

abbrev pub WrittenIsRead : Type 0
WrittenIsRead = (v : Version) (text : List ℕ) (r : Refutation) → IsWrittenText v text r → IsTextOf v text r

abbrev pub ReadableOrFault : Type 0
ReadableOrFault = (v : Version) (text : List ℕ) (first : ℕ)
    → IsReadableBody v text ⊎ ((fault : DocFault) × IsFaultOf v text first fault)

abbrev pub FaultOrReadable : Type 0
FaultOrReadable = (v : Version) (text : List ℕ) (first : ℕ) (fault : DocFault)
    → IsReadableBody v text → IsFaultOf v text first fault → ⊥

abbrev pub ReadableIsRefutation : Type 0
ReadableIsRefutation = (v : Version) (text : List ℕ) → IsReadableBody v text ↔ IsRefutationText v text

abbrev pub OneFault : Type 0
OneFault = (v : Version) (text : List ℕ) (first : ℕ) (e f : DocFault)
    → IsFaultOf v text first e → IsFaultOf v text first f → e ≡ f

abbrev pub RulesRise : Type 0
RulesRise = (v : Version) (left : List ℕ) → NumbersRise (body v left)
