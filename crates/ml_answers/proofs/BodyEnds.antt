-- Bodies at the front of a text, which is cut behind its first line `end`.
--
--   IsEnded lines   == the last of the lines is `end`, and no other one is
--   not_last        == a line whose first word is shorter or longer isn't `end`
--   body_front      == a text of such lines is what is cut off a text that it begins
--   model_front     == so is the text of a structure
use Rattle.std.proofs.Common.{◌≡◌, ◌≢◌, ℕ, ◌+◌, ◌⊎◌, ◌==◌, false, cond, List, [], ◌∷◌, ◌++◌, Option, None, Some, codes, length, map, take, take_at, drop, position, inl, inr, refl, sym, ap, subst, ◌∙◌, arith}
use Rattle.std.specs.List.{enumerate_from, join_with_byte, AllByRecursion}
use Rattle.std.specs.Str.{bytes_eq}
use Rattle.std.proofs.lemmas.Bool.{false≢true}
use Rattle.std.proofs.lemmas.List.{append_assoc, length-append}
use Rattle.std.proofs.lemmas.List.Splits.{join_with_byte-slice_split}
use Rattle.ml_base.specs.Structure.{Structure}
use Rattle.ml_kripke.specs.Laws.{IsModelText}
use Rattle.ml_kripke.specs.ModelText.{edge_line, model_lines, state_line, state_lines}
use Rattle.ml_kripke.proofs.OneText.{model_plain}
use Rattle.ml_lines.specs.Lines.{Line, Word, number, text_of}
use Rattle.ml_lines.specs.Reading.{is_line_end, left_of, lines_of, words_of}
use Rattle.ml_lines.proofs.Cuts.{line_at, line_none}
use Rattle.ml_lines.proofs.WrittenLines.{lines_read, text_read}
use Rattle.ml_lists.proofs.Entries.{same_head, same_tail}
use Rattle.ml_answers.specs.Documents.{last_line}
use Rattle.ml_answers.specs.Texts.{line_from, up_to_end, up_to_line_at}
use Rattle.ml_answers.proofs.FirstLines.{first_in_line, line_passed, text_at}
use Rattle.ml_answers.proofs.Marking.{other_word, word_same}

abbrev pub IsEnded : List Line → Type 0
IsEnded [] = ⊥
IsEnded (line ∷ lines) = ((line ≡ last_line) × (lines ≡ [])) ⊎ ((line ≢ last_line) × IsEnded lines)

-- `end` has three letters
pub not_last : (w : Word) (ws : Line) → (length w == 3) ≡ false → (w ∷ ws) ≢ last_line
not_last w ws other e = false≢true (sym other ∙ ap (λ v. length v == 3) (same_head w (codes "end") ws [] e))

-- ---- the line that is found

-- the first line `end` of the text, with the rest behind it, is the text's last line
record IsFoundAt (text rest : List ℕ) (at : ℕ) : Type 0 where
  pub place : ℕ
  pub is_found : line_from (codes "end") at [] (text ++ rest) ≡ Some place
  pub is_behind : place + 4 ≡ at + length text

module _ (text : List ℕ) (i : ℕ) (there : position is_line_end text ≡ Some i) (rest : List ℕ) (at : ℕ) (line : Line) (lines : List Line)
    (are : lines_of text ≡ line ∷ lines) (none : left_of text ≡ []) where
  first_words : words_of (take i text) ≡ line
  first_words =
      same_head (words_of (take i text)) line (lines_of (drop (i + 1) text)) lines (sym (line_at text i there).0 ∙ are)

  later_lines : lines_of (drop (i + 1) text) ≡ lines
  later_lines =
      same_tail (words_of (take i text)) line (lines_of (drop (i + 1) text)) lines (sym (line_at text i there).0 ∙ are)

  later_none : left_of (drop (i + 1) text) ≡ []
  later_none = sym (line_at text i there).1 ∙ none

  passed : line_from (codes "end") at [] (text ++ rest)
      ≡ cond (bytes_eq (take i text) (codes "end")) (Some at)
      (line_from (codes "end") (at + length (take i text) + 1) [] (drop (i + 1) text ++ rest))
  passed =
      ap (λ t. line_from (codes "end") at [] (t ++ rest)) (text_at text i there)
      ∙ ap (line_from (codes "end") at []) (append_assoc (take i text) (10 ∷ drop (i + 1) text) rest)
      ∙ line_passed (codes "end") (take i text) (drop (i + 1) text ++ rest) at [] (first_in_line text i there)

  size : length (take i text) + 1 + length (drop (i + 1) text) ≡ length text
  size =
      omega (arith, ap length (text_at text i there), length-append (take i text) (10 ∷ drop (i + 1) text))

  last_here : line ≡ last_line → lines ≡ [] → IsFoundAt text rest at
  last_here is last =
      let more = drop (i + 1) text in
      let same : take i text ≡ codes "end" =
      sym (join_with_byte-slice_split 32 (take i text)) ∙ ap (join_with_byte 32) (first_words ∙ is) in
      let three : length (take i text) ≡ 3 = ap length same in
      let none_behind : more ≡ [] =
      sym (text_read more) ∙ ap (λ ls. text_of ls ++ left_of more) (later_lines ∙ last) ∙ later_none in
      record {
        place = at;
        is_found =
            passed
            ∙ ap (λ b. cond b (Some at) (line_from (codes "end") (at + length (take i text) + 1) [] (more ++ rest)))
            (word_same (take i text) (codes "end") same);
        is_behind = omega (arith, size, three, ap length none_behind);
      }

  goes_on : line ≢ last_line
      → IsFoundAt (drop (i + 1) text) rest (at + length (take i text) + 1)
      → IsFoundAt text rest at
  goes_on other later = record {
    place = later.place;
    is_found =
        passed
        ∙ ap
        (λ b. cond b (Some at) (line_from (codes "end") (at + length (take i text) + 1) [] (drop (i + 1) text ++ rest)))
        (other_word (take i text) (codes "end") (λ e. other (sym first_words ∙ ap words_of e)))
        ∙ later.is_found;
    is_behind = omega (arith, size, later.is_behind);
  }

found_end : (lines : List Line) (text rest : List ℕ) (at : ℕ)
    → lines_of text ≡ lines
    → IsEnded lines
    → left_of text ≡ []
    → IsFoundAt text rest at
found_end [] text rest at are ended none = absurd ended
found_end (line ∷ lines) text rest at are ended none =
    by (position is_line_end text) refl ended (λ more from. found_end lines more rest from)
  where
    by : (o : Option ℕ)
        → position is_line_end text ≡ o
        → IsEnded (line ∷ lines)
        → ((more : List ℕ) (from : ℕ) → lines_of more ≡ lines → IsEnded lines → left_of more ≡ [] → IsFoundAt more rest from)
        → IsFoundAt text rest at
    by None there ended later =
        let no : lines_of text ≡ [] = (line_none text there).0 in absurd cc
    by (Some i) there (inl (is, last)) later = last_here text i there rest at line lines are none is last
    by (Some i) there (inr (other, ended)) later =
        goes_on text i there rest at line lines are none other
        (later (drop (i + 1) text) (at + length (take i text) + 1)
        (later_lines text i there rest at line lines are none)
        ended
        (later_none text i there rest at line lines are none))

pub body_front : (text rest : List ℕ) → IsEnded (lines_of text) → left_of text ≡ [] → up_to_end (text ++ rest) ≡ text
body_front text rest ended none =
    let found = found_end (lines_of text) text rest 0 refl ended none in
    let size : found.place + 4 ≡ length text = omega (arith, found.is_behind) in
    ap (λ o. up_to_line_at o (text ++ rest)) found.is_found
    ∙ ap (λ n. take n (text ++ rest)) size
    ∙ take_at text rest (length text) refl

-- ---- structures

ended_by : (ls : List Line) → AllByRecursion (λ l. l ≢ last_line) ls → IsEnded (ls ++ last_line ∷ [])
ended_by [] all = inl (refl, refl)
ended_by (l ∷ ls) all = inr (all.0, ended_by ls all.1)

all_both : (ls ks : List Line)
    → AllByRecursion (λ l. l ≢ last_line) ls
    → AllByRecursion (λ l. l ≢ last_line) ks
    → AllByRecursion (λ l. l ≢ last_line) (ls ++ ks)
all_both [] ks one other = other
all_both (l ∷ ls) ks one other = (one.0, all_both ls ks one.1 other)

all_mapped : {X : Type 0} (f : X → Line) (xs : List X)
    → ((x : X) → f x ≢ last_line)
    → AllByRecursion (λ l. l ≢ last_line) (map f xs)
all_mapped f [] each = tt
all_mapped f (x ∷ xs) each = (each x, all_mapped f xs each)

model_ended : (m : Structure) (s : ℕ) → IsEnded (model_lines m s)
model_ended m s =
    inr (
      not_last (codes "states") (number m.states ∷ []) refl,
      inr (
        not_last (codes "start") (number s ∷ []) refl,
        ended_by (state_lines 0 m.labels ++ map edge_line m.edges)
            (all_both (state_lines 0 m.labels) (map edge_line m.edges)
            (all_mapped (λ (labelled : ℕ × List (List ℕ)). state_line labelled.0 labelled.1) (enumerate_from 0 m.labels)
            (λ labelled. not_last (codes "state") (number labelled.0 ∷ labelled.1) refl))
            (all_mapped edge_line m.edges
            (λ e. not_last (codes "edge") (number e.source ∷ e.action ∷ number e.target ∷ []) refl))),
      ),
    )

pub model_front : (text rest : List ℕ) → IsModelText text → up_to_end (text ++ rest) ≡ text
model_front text rest (m, s, written, ordered, is) =
    let read = lines_read (model_lines m s) (model_plain m s written) in
    body_front text rest
    (subst IsEnded (sym (ap lines_of is ∙ read.0)) (model_ended m s))
    (ap left_of is ∙ read.1)
