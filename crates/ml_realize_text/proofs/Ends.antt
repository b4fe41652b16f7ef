-- The end of a document.
--
--   something_left   == where something is left behind `end`, the next line is the first bad one
--   end_goes         == the line `end`, and then nothing
--   other_end        == another line than `end`
use Rattle.std.proofs.Common.{◌≡◌, ◌≢◌, ℕ, List, [], ◌∷◌, ◌++◌, codes, inl, refl, sym, ap, subst, ◌∙◌}
use Rattle.std.specs.List.{AllByRecursion}
use Rattle.ml_lines.specs.Lines.{Line, text_of}
use Rattle.ml_lines.specs.Reading.{left_of, lines_of, words_of}
use Rattle.ml_lines.proofs.WrittenLines.{text_read}
use Rattle.ml_lists.specs.Documents.{IsFirstBad}
use Rattle.ml_base.specs.declared.doc_refusal.DocRefusal.{DocRefusal}
use Rattle.ml_base.specs.declared.doc_refusal.DocRefusal.TheVariants as refused
use Rattle.ml_realize_text.specs.RealizeRules.{AtEnd, AtNothing, realize}
use Rattle.ml_realize_text.specs.RealizeText.{end_line}
use Rattle.ml_realize_text.specs.private.Reads.{Breaks, Goes, IsEnded, TellsFault}
use Rattle.ml_realize_text.specs.declared.line_rule.LineRule.TheVariants.{OfKind}
use Rattle.ml_realize_text.specs.declared.rest.Rest.{Rest}
use Rattle.ml_realize_text.proofs.CutLines.{IsCut, cut_lines, no_empty_line}
use Rattle.ml_realize_text.proofs.Going.{told_behind}
use Rattle.ml_realize_text.proofs.SetReads.{text_is}

pub something_left : (rest : Rest) (e : DocRefusal)
    → rest.text.now ≢ []
    → e ≡ refused.Fault (record { line = rest.line; rule = 51 })
    → TellsFault AtNothing rest e
something_left rest e some is = subst (TellsFault AtNothing rest) (sym is) (go (lines_of rest.text.now) refl (cut_lines rest.text.now))
  where
    go : (lines : List Line)
        → lines_of rest.text.now ≡ lines
        → AllByRecursion IsCut (lines_of rest.text.now)
        → IsFirstBad (realize (left_of rest.text.now)) rest.line AtNothing (lines_of rest.text.now) rest.line 51
    go [] same cut =
        let whole : left_of rest.text.now ≡ rest.text.now =
        ap (λ ls. text_of ls ++ left_of rest.text.now) (sym same) ∙ text_read rest.text.now in
        subst (λ ls. IsFirstBad (realize (left_of rest.text.now)) rest.line AtNothing ls rest.line 51) (sym same)
        (refl, inl (refl, λ (none, nothing). some (sym whole ∙ nothing)))
    go (l ∷ ls) same cut =
        let here = subst (AllByRecursion IsCut) same cut in
        subst (λ ks. IsFirstBad (realize (left_of rest.text.now)) rest.line AtNothing ks rest.line 51) (sym same)
        (inl (refl, inl (refl, λ (none, nothing). no_empty_line l here.0 none)))

end_words : words_of (codes "end") ≡ end_line
end_words = refl

module _ (at rest : Rest) (line : List ℕ) (goes : Goes at (words_of line ∷ []) rest) where
  pub end_goes : line ≡ codes "end" → rest.text.now ≡ [] → IsEnded at
  end_goes is none = record {
    lines_are =
        goes.lines_are ∙ ap (λ l. l ∷ lines_of rest.text.now) (ap words_of is) ∙ ap (λ text. end_line ∷ lines_of text) none;
    none_left = goes.left_is ∙ ap left_of none;
  }

  pub behind_end : (e : DocRefusal) → line ≡ codes "end" → TellsFault AtNothing rest e → TellsFault AtEnd at e
  behind_end e is tells =
      told_behind AtEnd AtNothing at rest (words_of line ∷ []) e goes (λ left. ((ap words_of is, tt), refl)) tells

pub other_end : (line : List ℕ) → line ≢ codes "end" → Breaks AtEnd (words_of line) OfKind
other_end line other left = inl (refl, λ same. other (text_is line (codes "end") same))
