-- The signs of a text are those of its tokens, with the marks of the whole.
--
--   marks_are_of_texts == the law
use Rattle.std.proofs.Common.{◌≡◌, ℕ, zero, suc, ◌+◌, ◌<◌, ◌≤◌, Bool, true, false, List, ◌∷◌, map, length, drop, get_or, refl, sym, ap, subst, ⊎_elim, arith}
use Rattle.std.proofs.lemmas.Bool.{cases_Bool, cases_lt}
use Rattle.ml_text.specs.Bytes.{is_blank}
use Rattle.ml_text.specs.declared.token.WordStart.TheVariants.{AnyLetter}
use Rattle.ml_text.specs.declared.token.Placed.{Placed}
use Rattle.ml_text.specs.Refusals.{signs_of}
use Rattle.ml_text.specs.Tokens.{tokens, tokens_from}
use Rattle.ml_text.proofs.Scan.{tokens_from-end, tokens_from-blank, tokens_from-token, front_token-within, front_at, placed}
use Rattle.ml_pdl.specs.MarkLaws.{marked}
use Rattle.ml_pdl.specs.Text.{sign_by, sign_at, begins_modality}
use Rattle.ml_pdl.specs.TextLaws.{items_from, MarksAreOfTexts}

abbrev AreMarked : List ℕ → Bool → List Placed → Type 0
AreMarked text b ps = signs_of (items_from text b ps) ≡ marked (map (sign_by text) ps)

are_marked : (size : ℕ) (text : List ℕ) (i : ℕ) (b : Bool)
    → length text ≤ i + size
    → AreMarked text b (tokens_from AnyLetter text i)
unfolding front_at
are_marked zero text i b fits = subst (AreMarked text b) (sym (tokens_from-end AnyLetter text i (omega arith))) refl
are_marked (suc size) text i b fits =
    ⊎_elim
    (λ (within : i < length text).
    ⊎_elim
    (λ (blank : is_blank (get_or text i 0) ≡ true).
    subst (AreMarked text b) (sym (tokens_from-blank AnyLetter text i within blank))
    (are_marked size text (i + 1) b (omega arith)))
    (λ (no_blank : is_blank (get_or text i 0) ≡ false).
    let p = placed AnyLetter text i in
    let some = front_token-within AnyLetter (get_or text i 0) (drop (i + 1) text) in
    let later = are_marked size text p.end (begins_modality (sign_at text p)) (omega (arith, some)) in
    subst (AreMarked text b) (sym (tokens_from-token AnyLetter text i within no_blank))
    (ap (λ ts. sign_at text p ∷ ts) later))
    (cases_Bool (is_blank (get_or text i 0))))
    (λ (past : length text ≤ i). subst (AreMarked text b) (sym (tokens_from-end AnyLetter text i past)) refl)
    (cases_lt i (length text))

pub marks_are_of_texts : MarksAreOfTexts
unfolding tokens
marks_are_of_texts text = are_marked (length text) text 0 false (omega arith)
