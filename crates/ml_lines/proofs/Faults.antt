-- The first bad line of a text, by any format.
--
--   fault_here, fault_missing  == the first line of a text is the first bad one where it breaks a rule, and where it is
--                                 missing, and a missing line breaks one
--   fault_behind               == the first bad line behind lines that were read is the first bad one
--   one_fault                  == a text has one first bad line at most
--   readable_no_fault          == and none where its lines are readable
--   readable_or_fault          == where each line is judged, the text is readable or has a first bad line
use Rattle.std.proofs.Common.{◌≡◌, ℕ, ◌⊎◌, List, [], ◌∷◌, ◌++◌, inl, inr, refl, sym, subst}
use Rattle.ml_base.specs.declared.doc_fault.DocFault.{DocFault}
use Rattle.ml_lines.specs.Lines.{Line}
use Rattle.ml_lines.specs.Reading.{lines_of, left_of}
use Rattle.ml_lines.specs.Faults.{IsFault}
use Rattle.ml_lines.specs.private.Fronts.{GoesOn}
use Rattle.ml_lists.specs.Documents.{Format, IsFirstBroken, IsFirstBad}
use Rattle.ml_lists.specs.Readings.{IsReadable, IsReadTo, Judges}
use Rattle.ml_lists.proofs.Documents.{one_bad, readable_no_bad, readable_or_bad, bad_behind}

module _ {Place : Type 0} (F : List ℕ → Format Line Place) (k : ℕ) (place : Place) (text : List ℕ) where
  abbrev here : Format Line Place
  here = F (left_of text)

  pub fault_here : (r : ℕ) (line : Line) (lines : List Line)
      → lines_of text ≡ line ∷ lines
      → IsFirstBroken (here.rules place) line r
      → IsFault F k place text (record { line = k; rule = r })
  fault_here r line lines begins broken = subst (λ ls. IsFirstBad here k place ls k r) (sym begins) (inl (refl, broken))

  pub fault_missing : (r : ℕ) → lines_of text ≡ [] → IsFirstBroken (here.rules place) here.missing r
      → IsFault F k place text (record { line = k; rule = r })
  fault_missing r none broken = subst (λ ls. IsFirstBad here k place ls k r) (sym none) (refl, broken)

  pub fault_behind : (lines : List Line) (rest : List ℕ) (j : ℕ) (at : Place) (fault : DocFault)
      → GoesOn text lines rest
      → IsReadTo here k place (lines ++ lines_of rest) j at (lines_of rest) → IsFault F j at rest fault → IsFault F k place text fault
  fault_behind lines rest j at fault goes read found =
      let behind : IsFirstBad here j at (lines_of rest) fault.line fault.rule =
      subst (λ left. IsFirstBad (F left) j at (lines_of rest) fault.line fault.rule) (sym goes.left_is) found in
      subst (λ ls. IsFirstBad here k place ls fault.line fault.rule) (sym goes.lines_are)
      (bad_behind here k place (lines ++ lines_of rest) j at (lines_of rest) fault.line fault.rule read behind)

  pub one_fault : (e f : DocFault) → IsFault F k place text e → IsFault F k place text f → e ≡ f
  one_fault e f x y =
      let same = one_bad here k place (lines_of text) e.line f.line e.rule f.rule x y in
      λ i. record { line = same.0 i; rule = same.1 i }

  pub readable_no_fault : (fault : DocFault) → IsReadable here place (lines_of text) → IsFault F k place text fault → ⊥
  readable_no_fault fault readable found = readable_no_bad here k place (lines_of text) fault.line fault.rule readable found

  pub readable_or_fault : Judges here
      → IsReadable here place (lines_of text) ⊎ ((fault : DocFault) × IsFault F k place text fault)
  readable_or_fault judges = go (readable_or_bad here judges k place (lines_of text))
    where
      go : IsReadable here place (lines_of text) ⊎ ((bad : ℕ) × (r : ℕ) × IsFirstBad here k place (lines_of text) bad r)
          → IsReadable here place (lines_of text) ⊎ ((fault : DocFault) × IsFault F k place text fault)
      go (inl readable) = inl readable
      go (inr (bad, r, found)) = inr (record { line = bad; rule = r }, found)
