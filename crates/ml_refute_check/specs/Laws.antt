-- Laws of documents that answer `unsatisfiable`.
--
--   SomeVerdict, OneVerdict == checking a text finds exactly one thing
--   AlikeChecked            == two documents that show one refutation for one problem are both accepted, or neither is
--   AcceptedIsTrue          == what an accepted document answers is true
--   SomeDocument, OneDocument == of a problem and a refutation one document is written, and no other one
--   DocumentsReadBack       == the document that is written for a problem and a refutation shows these
--   IsAcceptedDocument text == checking the text finds that it is accepted
use Rattle.std.specs.Prelude.{ℕ, ◌≡◌, ◌↔◌, List}
use Rattle.ml_base.specs.declared.version.Version.{Version}
use Rattle.ml_base.specs.declared.version.Version.TheVariants.{Two}
use Rattle.ml_front.specs.Logics.{IsWellFormed}
use Rattle.ml_front.specs.declared.problem.Problem.{Problem}
use Rattle.ml_refutation.specs.Refutation.{Refutation, IsRefutation}
use Rattle.ml_refute_check.specs.Documents.{Finds, IsDocument, IsDocumentOf, IsVerdict, HoldsNowhere, ShowsRefutation}
use Rattle.ml_refute_check.specs.WrittenDocument.{document_of}
use Rattle.ml_refute_check.specs.declared.verdict.Verdict.{Verdict}
use Rattle.ml_refute_check.specs.declared.verdict.Verdict.TheVariants.{Accepted}

abbrev pub IsAcceptedDocument : List ℕ → Type 0
IsAcceptedDocument text = ShowsRefutation text (Finds Accepted)

-- checking a text finds something
abbrev pub SomeVerdict : Type 0
SomeVerdict = (text : List ℕ) → (v : Verdict) × IsVerdict text v

-- and one thing at most
abbrev pub OneVerdict : Type 0
OneVerdict = (text : List ℕ) (v w : Verdict) → IsVerdict text v → IsVerdict text w → v ≡ w

-- whether a document is accepted follows from its problem and its refutation alone
abbrev pub AlikeChecked : Type 0
AlikeChecked = (text other : List ℕ) (v w : Version) (p : Problem) (r : Refutation)
    → IsDocument text v p r → IsDocument other w p r → IsAcceptedDocument text ↔ IsAcceptedDocument other

-- what an accepted document answers is true
abbrev pub AcceptedIsTrue : Type 0
AcceptedIsTrue = (text : List ℕ) → IsAcceptedDocument text → HoldsNowhere text

-- a document is written
abbrev pub SomeDocument : Type 0
SomeDocument = (p : Problem) (r : Refutation) → IsRefutation r → IsDocumentOf p r (document_of p r)

-- and no other one
abbrev pub OneDocument : Type 0
OneDocument = (p : Problem) (r : Refutation) (text other : List ℕ)
    → IsRefutation r → IsDocumentOf p r text → IsDocumentOf p r other → text ≡ other

-- what is written for a problem of a well-formed formula, and a refutation, is read back
abbrev pub DocumentsReadBack : Type 0
DocumentsReadBack = (p : Problem) (r : Refutation) (text : List ℕ)
    → IsWellFormed p.formula → IsRefutation r → IsDocumentOf p r text → IsDocument text Two p r
