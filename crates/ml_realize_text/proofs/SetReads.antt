-- Sets of names read from words.
--
--   dash_behind, members_behind == what stands behind the words of a set
--   no_members      == where there is no name, no words are the members of a set
--   first_found, first_missing == where the first word is the first name, the others are the members of a set of the further
--                      names, or of none
--   later_found, later_missing == where it isn't, all words are, or are of none
--   dash_is_set     == `-` is the empty set
--   members_are_set == words of a text that isn't `-` are a set exactly where they are the members of one
use Rattle.std.proofs.Common.{◌≡◌, ◌≢◌, ℕ, ◌+◌, ◌*◌, ◌<◌, ◌^◌, ◌/◌, ◌%◌, ◌⊎◌, List, [], ◌∷◌, ◌++◌, length, drop, get_or, Option, None, Some, MatchOption, codes, inl, inr, sym, ap, ◌∙◌, arith}
use Rattle.std.specs.List.{join_with_byte}
use Rattle.std.proofs.lemmas.List.Splits.{join_with_byte-slice_split}
use Rattle.ml_lines.specs.Lines.{Line, Word}
use Rattle.ml_lines.specs.Reading.{IsTextBehind, is_blank, words_of}
use Rattle.ml_lines.proofs.Cuts.{some_part}
use Rattle.ml_realize_text.specs.RealizeRules.{IsSet}
use Rattle.ml_realize_text.specs.RealizeText.{or_dash, set_words}
use Rattle.ml_task.specs.NameSets.{members}
use Rattle.ml_realize_text.proofs.SetWords.{fewer_members, members_alone, no_words, odd_or_even, some_words, twice, with_first, with_name, without_first, without_name}

-- ---- behind a set

module _ {A : Type 0} (rest : A → Line) (ns : List Word) (s : ℕ) (words : Line) where
  pub dash_behind : (r : Option A)
      → s ≡ 0
      → MatchOption r (¬ (IsTextBehind (codes "-") words)) (λ x. words ≡ codes "-" ∷ rest x)
      → MatchOption r ((w : Word) (ws : Line) → words ≢ set_words ns s ++ w ∷ ws) (λ x. words ≡ set_words ns s ++ rest x)
  dash_behind None zero none = λ w ws is.
      none (w, ws, is ∙ ap (λ set. set ++ w ∷ ws) (ap (set_words ns) zero ∙ no_words ns))
  dash_behind (Some x) zero is = is ∙ ap (λ set. set ++ rest x) (sym (ap (set_words ns) zero ∙ no_words ns))

  pub members_behind : (r : Option A)
      → s < 2 ^ length ns
      → s ≢ 0
      → MatchOption r ((w : Word) (ws : Line) → words ≢ members ns s ++ w ∷ ws) (λ x. words ≡ members ns s ++ rest x)
      → MatchOption r ((w : Word) (ws : Line) → words ≢ set_words ns s ++ w ∷ ws) (λ x. words ≡ set_words ns s ++ rest x)
  members_behind None below some none = λ w ws is.
      none w ws (is ∙ ap (λ set. set ++ w ∷ ws) (some_words ns s below (omega (arith, some))))
  members_behind (Some x) below some is =
      is ∙ ap (λ set. set ++ rest x) (sym (some_words ns s below (omega (arith, some))))

-- ---- the first name

pub no_members : (text : List ℕ) (s : ℕ) → words_of text ≢ members [] s
no_members text s is = omega (arith, ap length is, some_part is_blank text)

module _ (words : Line) (n : Word) (ns : List Word) (w : Word) (rest : Line) (begins : words ≡ w ∷ rest) where
  pub first_found : (s : ℕ) → w ≡ n → rest ≡ members ns s → words ≡ members (n ∷ ns) (2 * s + 1)
  first_found s is found = begins ∙ (λ i. is i ∷ found i) ∙ sym (with_first n ns s)

  pub first_missing : w ≡ n → ((s : ℕ) → rest ≢ members ns s) → (s : ℕ) → words ≢ members (n ∷ ns) s
  first_missing is none s found = go (odd_or_even s)
    where
      go : (s % 2 ≡ 1) ⊎ (s % 2 ≢ 1) → ⊥
      go (inl odd) = none (s / 2) (ap (drop 1) (sym begins ∙ found ∙ with_name n ns s odd))
      go (inr even) =
          let fewer = fewer_members ns (s / 2) w rest (sym begins ∙ found ∙ without_name n ns s even) in
          none fewer.0 fewer.1

  pub later_found : (s : ℕ) → words ≡ members ns s → words ≡ members (n ∷ ns) (2 * s)
  later_found s found = found ∙ sym (without_first n ns s)

  pub later_missing : w ≢ n → ((s : ℕ) → words ≢ members ns s) → (s : ℕ) → words ≢ members (n ∷ ns) s
  later_missing other none s found = go (odd_or_even s)
    where
      go : (s % 2 ≡ 1) ⊎ (s % 2 ≢ 1) → ⊥
      go (inl odd) = other (ap (λ l. get_or l 0 []) (sym begins ∙ found ∙ with_name n ns s odd))
      go (inr even) = none (s / 2) (found ∙ without_name n ns s even)

pub below_odd : (n : Word) (ns : List Word) (s : ℕ) → s < 2 ^ length ns → 2 * s + 1 < 2 ^ length (n ∷ ns)
below_odd n ns s below = omega (arith, below, twice n ns)

pub below_even : (n : Word) (ns : List Word) (s : ℕ) → s < 2 ^ length ns → 2 * s < 2 ^ length (n ∷ ns)
below_even n ns s below = omega (arith, below, twice n ns)

-- ---- whole sets

pub dash_is_set : (ns : List Word) (text : List ℕ) → text ≡ codes "-" → words_of text ≡ set_words ns 0
dash_is_set ns text is = ap words_of is ∙ sym (no_words ns)

pub text_is : (a b : List ℕ) → words_of a ≡ words_of b → a ≡ b
text_is a b same =
    sym (join_with_byte-slice_split 32 a) ∙ ap (join_with_byte 32) same ∙ join_with_byte-slice_split 32 b

pub members_are : (ns : List Word) (words ws : Line) → words ≡ or_dash ws → words ≢ codes "-" ∷ [] → words ≡ ws
members_are ns words [] is other = absurd (other is)
members_are ns words (w ∷ ws) is other = is

pub members_are_set : (ns : List Word) (text : List ℕ) (r : Option ℕ)
    → text ≢ codes "-"
    → MatchOption r ((s : ℕ) → words_of text ≢ members ns s) (λ s. (s < 2 ^ length ns) × (words_of text ≡ members ns s))
    → MatchOption r (¬ (IsSet ns (words_of text))) (λ s. (s < 2 ^ length ns) × (words_of text ≡ set_words ns s))
members_are_set ns text None other none = λ (s, below, is).
    none s (members_are ns (words_of text) (members ns s) is (λ dash. other (text_is text (codes "-") dash)))
members_are_set ns text (Some s) other (below, is) =
    (below, is ∙ sym (members_alone (members ns s) (omega (arith, ap length is, some_part is_blank text))))

pub none_without_names : (ns : List Word) (words : Line) (text : List ℕ)
    → length ns ≡ 0
    → words ≡ words_of text
    → (s : ℕ)
    → words ≢ members ns s
none_without_names [] words text none is s found = no_members text s (sym is ∙ found)
none_without_names (n ∷ ns) words text none is s found = absurd (omega (arith, none))
