-- The lines of answers, as they are written word by word.
--
--   line_written    == a word, the words behind it and the end of the line are the line
--   because_some, because_none == what is written behind `because`
--   perhaps_some, perhaps_none == what is written of those without which it stays open
use Rattle.std.proofs.Common.{◌≡◌, ℕ, true, false, cond, List, [], ◌∷◌, ◌++◌, codes, map, append_assoc, sym, ap, ◌∙◌}
use Rattle.std.specs.List.{flat_map, list_any}
use Rattle.std.proofs.lemmas.Grind.{flat_map-append}
use Rattle.std.proofs.lemmas.List.{append-nil}
use Rattle.ml_lines.specs.Lines.{Line, Word, line_text, next}
use Rattle.ml_lines.proofs.Words.{line_text-words}
use Rattle.ml_spec.specs.declared.specification.Item.{Item}
use Rattle.ml_replies.specs.declared.answer.Part as asked_part
use Rattle.ml_answers.specs.Lines.{because_words, is_needed, is_unsettled, needed_name, perhaps_words, unsettled_name}
use Rattle.ml_replies.specs.Answers.{part_of}
use Rattle.ml_ask_text.proofs.Lists.{any_map, names_joined}

pub line_written : (old one two three new : List ℕ) (given word : Word) (words told behind : Line)
    → given ≡ word
    → one ≡ old ++ given
    → two ≡ one ++ flat_map next words
    → told ≡ behind
    → three ≡ two ++ flat_map next told
    → new ≡ three ++ 10 ∷ []
    → new ≡ old ++ line_text (word ∷ (words ++ behind))
line_written old one two three new given word words told behind same first second are third ended =
    ended
    ∙ ap (λ t. t ++ 10 ∷ [])
    (third
    ∙ ap (λ t. t ++ flat_map next told) (second ∙ ap (λ t. t ++ flat_map next words) (first ∙ ap (λ t. old ++ t) same))
    ∙ ap (λ vs. ((old ++ word) ++ flat_map next words) ++ flat_map next vs) are
    ∙ append_assoc (old ++ word) (flat_map next words) (flat_map next behind)
    ∙ ap (λ t. (old ++ word) ++ t) (sym (flat_map-append next words behind)))
    ∙ append_assoc (old ++ word) (flat_map next (words ++ behind)) (10 ∷ [])
    ∙ append_assoc old word (flat_map next (words ++ behind) ++ 10 ∷ [])
    ∙ ap (λ t. old ++ t) (sym (line_text-words word (words ++ behind)))

module _ (xs : List Item) (parts : List asked_part.Part) where
  pub because_some : list_any (λ p. is_needed (part_of p)) parts ≡ true
      → flat_map (λ p. flat_map next (needed_name xs (part_of p))) parts ≡ flat_map next (because_words xs (map part_of parts))
  because_some some =
      sym (names_joined next (needed_name xs) part_of parts)
      ∙ ap (λ b. flat_map next (cond b (flat_map (needed_name xs) (map part_of parts)) (codes "-" ∷ [])))
      (sym (any_map is_needed part_of parts ∙ some))

  pub because_none : list_any (λ p. is_needed (part_of p)) parts ≡ false
      → next (codes "-") ≡ flat_map next (because_words xs (map part_of parts))
  because_none none =
      sym (append-nil (next (codes "-")))
      ∙ ap (λ b. flat_map next (cond b (flat_map (needed_name xs) (map part_of parts)) (codes "-" ∷ [])))
      (sym (any_map is_needed part_of parts ∙ none))

  pub perhaps_some : (old one two : List ℕ)
      → list_any (λ p. is_unsettled (part_of p)) parts ≡ true
      → one ≡ old ++ next (codes "perhaps:")
      → two ≡ one ++ flat_map (λ p. flat_map next (unsettled_name xs (part_of p))) parts
      → two ≡ old ++ flat_map next (perhaps_words xs (map part_of parts))
  perhaps_some old one two some first second =
      let names = flat_map next (flat_map (unsettled_name xs) (map part_of parts)) in
      second
      ∙ ap (λ t. one ++ t) (sym (names_joined next (unsettled_name xs) part_of parts))
      ∙ ap (λ t. t ++ names) first
      ∙ append_assoc old (next (codes "perhaps:")) names
      ∙ ap (λ b. old ++ flat_map next (cond b (codes "perhaps:" ∷ flat_map (unsettled_name xs) (map part_of parts)) []))
      (sym (any_map is_unsettled part_of parts ∙ some))

  pub perhaps_none : (old : List ℕ)
      → list_any (λ p. is_unsettled (part_of p)) parts ≡ false
      → old ≡ old ++ flat_map next (perhaps_words xs (map part_of parts))
  perhaps_none old none =
      sym (append-nil old)
      ∙ ap (λ b. old ++ flat_map next (cond b (codes "perhaps:" ∷ flat_map (unsettled_name xs) (map part_of parts)) []))
      (sym (any_map is_unsettled part_of parts ∙ none))
