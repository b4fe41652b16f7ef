-- The lines of a task are cut out of a text.
--
--   IsBehind n text rest == the rest stands behind the first n lines of a text, or behind all, where there are fewer
--   behind_next          == one line more
--   lines_before         == the text before a rest has the lines before it
use Rattle.std.proofs.Common.{◌≡◌, ℕ, ◌+◌, ◌-◌, List, [], ◌∷◌, ◌++◌, length, take, inl, inr, sym, ap, subst, ◌∙◌, append_assoc, length-append, arith}
use Rattle.std.specs.List.{AllByRecursion}
use Rattle.std.proofs.Math.Seq.{take-append_seam}
use Rattle.std.proofs.lemmas.Grind.{flat_map-append}
use Rattle.std.proofs.lemmas.List.{append-nil}
use Rattle.ml_lines.specs.Lines.{Line, line_text, text_of}
use Rattle.ml_lines.specs.Reading.{left_of, lines_of}
use Rattle.ml_lines.specs.private.Fronts.{GoesOn}
use Rattle.ml_lines.proofs.Fronts.{goes_on}
use Rattle.ml_lines.proofs.WrittenLines.{text_read}
use Rattle.ml_lists.proofs.AllOf.{all_parts}
use Rattle.ml_realize_text.specs.private.Reads.{AreFirst}
use Rattle.ml_realize_text.proofs.CutLines.{IsCut, cut_lines}
use Rattle.ml_realize_text.proofs.HeadRead.{lines_back}
use Rattle.ml_task.specs.TaskText.{last_line, task_lines}
use Rattle.ml_show_text.specs.private.TaskLines.{IsBehindLine}

abbrev pub IsBehind : ℕ → (text rest : List ℕ) → Type 0
IsBehind n text rest = (lines : List Line) × GoesOn text lines rest × AreFirst n lines (lines_of rest)

behind_more : (n : ℕ) (text mid rest : List ℕ) (line : Line)
    → IsBehind n text mid
    → GoesOn mid (line ∷ []) rest
    → IsBehind (n + 1) text rest
behind_more n text mid rest line (lines, goes, inl long) next =
    (lines ++ line ∷ [], goes_on text lines mid line rest goes next.lines_are next.left_is next.shorter, inl (omega (arith, length-append lines (line ∷ []), long)))
behind_more n text mid rest line (lines, goes, inr (few, none)) next =
    let apart = sym next.lines_are ∙ none in absurd (cc)

behind_none : (n : ℕ) (text rest : List ℕ)
    → IsBehind n text rest
    → lines_of rest ≡ []
    → IsBehind (n + 1) text rest
behind_none n text rest (lines, goes, inl long) none = (lines, goes, inr (omega (arith, long), none))
behind_none n text rest (lines, goes, inr (few, also)) none = (lines, goes, inr (omega (arith, few), none))

pub behind_next : (n : ℕ) (text mid rest : List ℕ)
    → IsBehind n text mid
    → IsBehindLine mid rest
    → IsBehind (n + 1) text rest
behind_next n text mid rest behind (inl (line, goes)) = behind_more n text mid rest line behind goes
behind_next n text mid rest behind (inr (none, same)) =
    subst (IsBehind (n + 1) text) (sym same) (behind_none n text mid behind none)

module _ (text rest : List ℕ) (lines : List Line) (goes : GoesOn text lines rest) where
  whole : text ≡ text_of lines ++ rest
  whole =
      sym (text_read text)
      ∙ (λ i. text_of (goes.lines_are i) ++ goes.left_is i)
      ∙ ap (λ front. front ++ left_of rest) (flat_map-append line_text lines (lines_of rest))
      ∙ append_assoc (text_of lines) (text_of (lines_of rest)) (left_of rest)
      ∙ ap (λ behind. text_of lines ++ behind) (text_read rest)

  cut : AllByRecursion IsCut lines
  cut = (all_parts IsCut lines (lines_of rest) (subst (AllByRecursion IsCut) goes.lines_are (cut_lines text))).0

  pub lines_before : (front : List ℕ) → front ≡ take (length text - length rest) text → task_lines front ≡ lines
  lines_before front is =
      let long : length text - length rest ≡ length (text_of lines) =
      omega (arith, ap length whole, length-append (text_of lines) rest) in
      let same : front ≡ text_of lines =
      is ∙ ap (take (length text - length rest)) whole ∙ ap (λ n. take n (text_of lines ++ rest)) long
      ∙ take-append_seam (text_of lines) rest in
      let back = lines_back lines cut in
      ap task_lines same ∙ (λ i. back.0 i ++ last_line (back.1 i)) ∙ append-nil lines
