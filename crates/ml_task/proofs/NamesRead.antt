-- The words of a line of a task, read as names.
--
--   reserved_words == the words of the constants are those that are reserved
--   named_is_name  == a proposition that is no longer than a name may be is a name
--   AreNamesTo all names rest == of the words `all` the names were read, and the rest is left
--   name_read      == the next word is a name
--   no_name        == a word that is none
--   names_done     == at the end all words are names
--   size_left      == how much is left
use Rattle.std.proofs.Common.{◌≡◌, ℕ, ◌+◌, Bool, true, false, ◌&&◌, ◌||◌, nat_le, List, [], ◌∷◌, ◌++◌, length, Option, None, Some, is_some, bytes_eq, codes, cond, refl, sym, ap, ◌∙◌, append_assoc}
use Rattle.std.specs.List.{list_all}
use Rattle.std.proofs.lemmas.Bool.{and_parts, leb-true}
use Rattle.std.proofs.Math.Bool.{and-true}
use Rattle.std.proofs.lemmas.List.{append-nil}
use Rattle.std.proofs.lemmas.List.Folds.{list_all-append}
use Rattle.ml_base.specs.Name.{is_name, longest_name}
use Rattle.ml_ctl.specs.Spelling.{is_proposition, is_reserved}
use Rattle.ml_lines.specs.Lines.{Word}
use Rattle.ml_lines.specs.Reading.{words_of, words_behind}
use Rattle.ml_text.specs.Words.{constant_of}
use Rattle.ml_text.proofs.FreeWords.{proposition_letters}
use Rattle.ml_text.proofs.WordNames.{word_name}
use Rattle.ml_task.specs.Task.{is_named}

reserved_by : (a b c d : Bool)
    → is_some (cond (a || (b || false)) (Some true) (cond (c || (d || false)) (Some false) None))
    ≡ (a || (b || (c || (d || false))))
reserved_by true b c d = refl
reserved_by false true c d = refl
reserved_by false false true d = refl
reserved_by false false false true = refl
reserved_by false false false false = refl

pub reserved_words : (w : List ℕ) → is_some (constant_of w) ≡ is_reserved w
unfolding constant_of
reserved_words w =
    reserved_by (bytes_eq w (codes "tt")) (bytes_eq w (codes "true")) (bytes_eq w (codes "ff")) (bytes_eq w (codes "false"))

pub named_is_name : (w : List ℕ) → is_named w ≡ true → is_name w ≡ true
named_is_name w is =
    let parts = and_parts (is_proposition w) (nat_le (length w) longest_name) is in
    word_name w (proposition_letters w (is_reserved w) parts.0) (leb-true (length w) longest_name parts.1)

-- ---- word by word

pub record AreNamesTo (all names : List Word) (rest : Option (List ℕ)) : Type 0 where
  pub whole : all ≡ names ++ words_behind rest
  pub named : list_all is_named names ≡ true

abbrev pub size_left : Option (List ℕ) → ℕ
size_left None = 0
size_left (Some text) = length text + 1

module _ (all names : List Word) (text : List ℕ) (w : Word) (behind : Option (List ℕ))
    (so_far : AreNamesTo all names (Some text)) (is : words_of text ≡ w ∷ words_behind behind) where
  whole_is : all ≡ (names ++ w ∷ []) ++ words_behind behind
  whole_is = so_far.whole ∙ ap (λ rest. names ++ rest) is ∙ sym (append_assoc names (w ∷ []) (words_behind behind))

  tested : list_all is_named (names ++ w ∷ []) ≡ is_named w
  tested =
      list_all-append is_named names (w ∷ [])
      ∙ ap (λ b. b && (is_named w && true)) so_far.named
      ∙ and-true (is_named w)

  pub name_read : is_named w ≡ true → AreNamesTo all (names ++ w ∷ []) behind
  name_read named = record { whole = whole_is; named = tested ∙ named }

  pub no_name : is_named w ≡ false → list_all is_named all ≡ false
  no_name none =
      ap (list_all is_named) whole_is
      ∙ list_all-append is_named (names ++ w ∷ []) (words_behind behind)
      ∙ ap (λ b. b && list_all is_named (words_behind behind)) (tested ∙ none)

pub names_done : (all names : List Word)
    → AreNamesTo all names None
    → (names ≡ all) × (list_all is_named names ≡ true)
names_done all names so_far = (sym (so_far.whole ∙ append-nil names), so_far.named)
