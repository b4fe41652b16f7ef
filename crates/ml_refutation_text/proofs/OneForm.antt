-- The lines of a refutation in one form, whose tables have nothing twice, are the same.
--
--   IsOnceForm F == the tables of the form F have each list once
--   one_first    == the lines before those of the entries are the same
--   one_body     == the lines of a body are the same
use Rattle.std.proofs.Common.{◌≡◌, ℕ, ◌+◌, List, [], ◌∷◌, ◌++◌, length, map, sym, ap, subst, ◌∙◌}
use Rattle.ml_lines.specs.Lines.{Word, Line}
use Rattle.ml_trace.specs.declared.letters.AutomatonState.{AutomatonState}
use Rattle.ml_trace.specs.Stack as traced
use Rattle.ml_refutation.specs.Refutation.{Refutation, Entry}
use Rattle.ml_refutation_text.specs.LineKinds.{Spells}
use Rattle.ml_refutation_text.specs.BodyRules.{Form, InFull, ByTables}
use Rattle.ml_refutation_text.specs.RefutationText.{names_line, entries_line, sequents_line, stacks_line, sequent_line, stack_line, entry_line}
use Rattle.ml_refutation_text.specs.RefutationText.{live_line, item_line, heights_line, decision_lines, end_line}
use Rattle.ml_refutation_text.specs.private.TextLines.{HeadLines, StackWords, ItemLine, ItemLines, EntryLines, EntriesLines, FirstLines, BodyLines}
use Rattle.ml_refutation_text.proofs.OnePlace.{IsOnce, one_place}
use Rattle.ml_refutation_text.proofs.SpeltWords.{one_spelling}

abbrev pub IsOnceForm : Form → Type 0
IsOnceForm InFull = Unit {0}
IsOnceForm (ByTables sequents stacks) = IsOnce sequents × IsOnce stacks

same_spelling : (w u : Word) (n m : ℕ) → n ≡ m → Spells w n → Spells u m → w ≡ u
same_spelling w u n m same x y = one_spelling w u m (subst (Spells w) same x) y

one_head : (F : Form) (i : ℕ) (q : List ℕ) (lines others : List Line)
    → IsOnceForm F
    → HeadLines F i q lines
    → HeadLines F i q others
    → lines ≡ others
one_head InFull i q lines others once x y = x ∙ sym y
one_head (ByTables qs ks) i q lines others once (s, here, is) (t, there, also) =
    is ∙ ap (λ n. entry_line i n ∷ []) (one_place qs s t q once.0 here there) ∙ sym also

one_words : (F : Form) (ns : List ℕ) (words others : List Word)
    → IsOnceForm F
    → StackWords F ns words
    → StackWords F ns others
    → words ≡ others
one_words InFull ns words others once x y = x ∙ sym y
one_words (ByTables qs ks) ns words others once (s, w, spells, here, is) (t, u, spelt, there, also) =
    is ∙ ap (λ x. x ∷ []) (same_spelling w u s t (one_place ks s t ns once.1 here there) spells spelt) ∙ sym also

module _ (F : Form) (once : IsOnceForm F) where
  one_item : (a : traced.Item AutomatonState) (line other : Line) → ItemLine F a line → ItemLine F a other → line ≡ other
  one_item a line other x y =
      x.is_line ∙ ap (item_line a.state) (one_words F a.stack x.words y.words once x.for_stack y.for_stack) ∙ sym y.is_line

  one_items : (items : List (traced.Item AutomatonState)) (lines others : List Line)
      → ItemLines F items lines
      → ItemLines F items others
      → lines ≡ others
  one_items [] lines others x y = x ∙ sym y
  one_items (a ∷ items) lines others (line, rest, first, later, is) (other, more, second, behind, also) =
      let one = one_item a line other first second in
      let all = one_items items rest more later behind in
      is ∙ (λ i. one i ∷ all i) ∙ sym also

  one_entry : (i : ℕ) (e : Entry) (lines others : List Line) → EntryLines F i e lines → EntryLines F i e others → lines ≡ others
  one_entry i e lines others x y =
      let head = one_head F i e.sequent x.head y.head once x.is_head y.is_head in
      let items = one_items e.traces.items x.items y.items x.are_items y.are_items in
      x.are_lines
      ∙ (λ j. head j ++ live_line e.traces.live ∷ (items j ++ heights_line e.heights ∷ decision_lines e.decision))
      ∙ sym y.are_lines

  one_entries : (i : ℕ) (es : List Entry) (lines others : List Line)
      → EntriesLines F i es lines
      → EntriesLines F i es others
      → lines ≡ others
  one_entries i [] lines others x y = x ∙ sym y
  one_entries i (e ∷ es) lines others (front, rest, first, later, is) (start, more, second, behind, also) =
      let one = one_entry i e front start first second in
      let all = one_entries (i + 1) es rest more later behind in
      is ∙ (λ j. one j ++ all j) ∙ sym also

pub one_first : (F : Form) (n : ℕ) (lines others : List Line) → FirstLines F n lines → FirstLines F n others → lines ≡ others
one_first InFull n lines others x y = x ∙ sym y
one_first (ByTables qs ks) n lines others (w, spells, is) (u, spelt, also) =
    is
    ∙ ap (λ word. names_line n ∷ sequents_line (length qs) ∷ (map sequent_line qs ++ stacks_line word ∷ map stack_line ks))
    (one_spelling w u (length ks) spells spelt)
    ∙ sym also

pub one_body : (F : Form) (r : Refutation) (lines others : List Line)
    → IsOnceForm F
    → BodyLines F r lines
    → BodyLines F r others
    → lines ≡ others
one_body F r lines others once x y =
    let first = one_first F r.names x.first y.first x.are_first y.are_first in
    let entries = one_entries F once 0 r.entries x.entries y.entries x.are_entries y.are_entries in
    x.are_lines ∙ (λ j. first j ++ entries_line (length r.entries) ∷ (entries j ++ end_line ∷ [])) ∙ sym y.are_lines
