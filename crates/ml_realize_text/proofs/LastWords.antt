-- The last word of a text.
--
--   words_around    == the words around a blank are those before it, and those behind it
--   last_word_at    == behind the last blank stands the last word
--   no_blank        == a text without a blank is one word
use Rattle.std.proofs.Common.{suc, None, Some, ◌≡◌, ℕ, ◌+◌, ◌<◌, Bool, true, false, List, [], ◌∷◌, ◌++◌, length, get_or, take, drop, All, refl, sym, ap, ◌∙◌, arith}
use Rattle.std.specs.List.{onto_first}
use Rattle.std.proofs.lemmas.Bool.{false_from_ne_true}
use Rattle.std.proofs.lemmas.Bool.Decides.{nat_tests}
use Rattle.std.proofs.lemmas.List.{get_or-drop, length-drop, take-append-drop}
use Rattle.std.proofs.lemmas.List.Elements.{All-from_get_or}
use Rattle.std.proofs.Math.Seq.{drop-cons}
use Rattle.memchr.specs.Find.{IsLastByte, is_byte}
use Rattle.std.proofs.lemmas.List.Splits.{slice_split_none, slice_split-cons_no, slice_split-cons_yes}
use Rattle.ml_lines.specs.Reading.{is_blank, words_of}
use Rattle.ml_lines.proofs.Cuts.{some_part}

onto_more : (x : ℕ) (parts more : List (List ℕ))
    → 0 < length parts
    → onto_first x (parts ++ more) ≡ onto_first x parts ++ more
onto_more x [] more some = absurd (omega (arith, some))
onto_more x (part ∷ parts) more some = refl

pub words_around : (xs ys : List ℕ) → words_of (xs ++ 32 ∷ ys) ≡ words_of xs ++ words_of ys
words_around [] ys = refl
words_around (x ∷ xs) ys = go (is_blank x) refl (words_around xs ys)
  where
    go : (b : Bool)
        → is_blank x ≡ b
        → words_of (xs ++ 32 ∷ ys) ≡ words_of xs ++ words_of ys
        → words_of (x ∷ xs ++ 32 ∷ ys) ≡ words_of (x ∷ xs) ++ words_of ys
    go true is rest =
        slice_split-cons_yes is_blank x (xs ++ 32 ∷ ys) is ∙ ap (λ ws. [] ∷ ws) rest
        ∙ ap (λ ws. ws ++ words_of ys) (sym (slice_split-cons_yes is_blank x xs is))
    go false is rest =
        slice_split-cons_no is_blank x (xs ++ 32 ∷ ys) is ∙ ap (onto_first x) rest
        ∙ onto_more x (words_of xs) (words_of ys) (some_part is_blank xs)
        ∙ ap (λ ws. ws ++ words_of ys) (sym (slice_split-cons_no is_blank x xs is))

pub last_word_at : (text : List ℕ) (end : ℕ)
    → IsLastByte (is_byte 32) text (Some end)
    → words_of text ≡ words_of (take end text) ++ drop (end + 1) text ∷ []
last_word_at text end (last, is) =
    let place : text ≡ take end text ++ get_or text end 0 ∷ drop (suc end) text =
    sym (take-append-drop end text) ∙ ap (λ rest. take end text ++ rest) (drop-cons text end 0 last.high) in
    let blank : get_or text end 0 ≡ 32 = grind (arith, nat_tests, is) in
    let behind = ap (λ b. take end text ++ b ∷ drop (suc end) text) blank in
    let rest = drop (suc end) text in
    let none : All (λ b. is_blank b ≡ false) rest =
    All-from_get_or (λ b. is_blank b ≡ false) rest 0 (λ i below.
    false_from_ne_true (is_blank (get_or rest i 0)) (λ one.
    last.after (suc end + i) (omega arith) (omega (arith, below, length-drop (suc end) text))
    (ap (λ b. is_byte 32 b) (sym (get_or-drop (suc end) text i 0)) ∙ one))) in
    ap words_of (place ∙ behind) ∙ words_around (take end text) rest
    ∙ ap (λ ws. words_of (take end text) ++ ws) (slice_split_none is_blank rest none)
    ∙ ap (λ k. words_of (take end text) ++ drop k text ∷ []) (let e : suc end ≡ end + 1 = omega arith in e)

pub no_blank : (text : List ℕ) → IsLastByte (is_byte 32) text None → length (words_of text) ≡ 1
no_blank text none =
    let all : All (λ b. is_blank b ≡ false) text =
    All-from_get_or (λ b. is_blank b ≡ false) text 0 (λ i below.
    false_from_ne_true (is_blank (get_or text i 0)) (none i (omega arith) below)) in
    ap length (slice_split_none is_blank text all)
