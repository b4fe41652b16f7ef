-- Texts cut at their lines.
--
--   first_in_line   == what stands before the first LF of a text has none
--   none_in_line    == nor has a text in which none is found
--   text_at         == a text is what stands before its first LF, an LF, and the rest
--   line_passed     == a search for a line compares the first one, and goes on behind it
--   no_line         == it finds none where there is no LF
--   found_within    == it finds a whole line
use Rattle.std.proofs.Common.{◌≡◌, ℕ, ◌+◌, ◌≤◌, Bool, true, false, cond, List, [], ◌∷◌, ◌++◌, None, Some, length, take, drop, get_or, position, refl, sym, ap, subst, ◌∙◌, arith}
use Rattle.std.specs.List.{AllByRecursion, list_any}
use Rattle.std.specs.Str.{bytes_eq}
use Rattle.std.proofs.lemmas.Bool.{or_parts}
use Rattle.std.proofs.lemmas.Bool.Decides.{nat_tests}
use Rattle.std.proofs.lemmas.List.{append-nil, append_assoc, length-append, length-drop, length-take-le, take-append-drop, drop_more}
use Rattle.std.proofs.lemmas.List.Quantifiers.{position-Some}
use Rattle.std.proofs.lemmas.Option.{none-some}
use Rattle.std.proofs.lemmas.Slice.Eq.{bytes_eq-Decides}
use Rattle.ml_lines.specs.Reading.{is_line_end}
use Rattle.ml_lines.proofs.Cuts.{cut_at, cut_none}
use Rattle.ml_lines.proofs.LineFronts.{parts_plain, IsInLine}
use Rattle.ml_answers.specs.Texts.{line_from}

-- ---- the first line

pub first_in_line : (text : List ℕ) (i : ℕ) → position is_line_end text ≡ Some i → IsInLine (take i text)
first_in_line text i some =
    (subst (AllByRecursion IsInLine) (cut_at is_line_end text i some).1 (parts_plain text)).0

pub none_in_line : (text : List ℕ) → position is_line_end text ≡ None → IsInLine text
none_in_line text none = (subst (AllByRecursion IsInLine) (cut_none is_line_end text none) (parts_plain text)).0

is_lf : (b : ℕ) → is_line_end b ≡ true → b ≡ 10
is_lf b is = grind (arith, nat_tests)

pub text_at : (text : List ℕ) (i : ℕ)
    → position is_line_end text ≡ Some i
    → text ≡ take i text ++ 10 ∷ drop (i + 1) text
text_at text i some =
    let at = position-Some is_line_end text i 0 some in
    sym (take-append-drop i text)
    ∙ ap (λ t. take i text ++ t) (drop_more text i 0 at.0 ∙ ap (λ b. b ∷ drop (i + 1) text) (is_lf (get_or text i 0) at.1))

-- ---- a search for a line

pub line_passed : (w bytes rest : List ℕ) (at : ℕ) (seen : List ℕ)
    → IsInLine bytes
    → line_from w at seen (bytes ++ 10 ∷ rest)
    ≡ cond (bytes_eq (seen ++ bytes) w) (Some at) (line_from w (at + length (seen ++ bytes) + 1) [] rest)
line_passed w [] rest at seen is =
    ap (λ s. cond (bytes_eq s w) (Some at) (line_from w (at + length s + 1) [] rest)) (sym (append-nil seen))
line_passed w (b ∷ bs) rest at seen is =
    let parts = or_parts (is_line_end b) (list_any is_line_end bs) is in
    ap
    (λ t. cond t
    (cond (bytes_eq seen w) (Some at) (line_from w (at + length seen + 1) [] (bs ++ 10 ∷ rest)))
    (line_from w at (seen ++ b ∷ []) (bs ++ 10 ∷ rest)))
    parts.0
    ∙ line_passed w bs rest at (seen ++ b ∷ []) parts.1
    ∙ ap (λ s. cond (bytes_eq s w) (Some at) (line_from w (at + length s + 1) [] rest)) (append_assoc seen (b ∷ []) bs)

pub no_line : (w text : List ℕ) (at : ℕ) (seen : List ℕ) → IsInLine text → line_from w at seen text ≡ None
no_line w [] at seen is = refl
no_line w (b ∷ bs) at seen is =
    let parts = or_parts (is_line_end b) (list_any is_line_end bs) is in
    ap
    (λ t. cond t
    (cond (bytes_eq seen w) (Some at) (line_from w (at + length seen + 1) [] bs))
    (line_from w at (seen ++ b ∷ []) bs))
    parts.0
    ∙ no_line w bs at (seen ++ b ∷ []) parts.1

pub found_within : (w text : List ℕ) (at : ℕ) (seen : List ℕ) (k : ℕ)
    → line_from w at seen text ≡ Some k
    → k + length w + 1 ≤ at + length seen + length text
found_within w [] at seen k e = absurd (none-some k e)
found_within w (b ∷ bs) at seen k e = go (is_line_end b) (bytes_eq seen w) refl (found_within w bs) e
  where
    go : (t u : Bool)
        → bytes_eq seen w ≡ u
        → ((at : ℕ) (seen : List ℕ) (k : ℕ)
        → line_from w at seen bs ≡ Some k → k + length w + 1 ≤ at + length seen + length bs)
        → cond t (cond u (Some at) (line_from w (at + length seen + 1) [] bs)) (line_from w at (seen ++ b ∷ []) bs)
        ≡ Some k
        → k + length w + 1 ≤ at + length seen + length (b ∷ bs)
    go true true is rest e =
        let same : at ≡ k = cc in
        let eq : seen ≡ w = (bytes_eq-Decides seen w).0 is in
        omega (arith, same, ap length eq)
    go true false is rest e = omega (arith, rest (at + length seen + 1) [] k e)
    go false u is rest e = omega (arith, rest at (seen ++ b ∷ []) k e, length-append seen (b ∷ []))

-- ---- its steps

module _ (w text : List ℕ) (at i : ℕ) (some : position is_line_end text ≡ Some i) where
  here : line_from w at [] text
      ≡ cond (bytes_eq (take i text) w) (Some at) (line_from w (at + length (take i text) + 1) [] (drop (i + 1) text))
  here =
      ap (line_from w at []) (text_at text i some)
      ∙ line_passed w (take i text) (drop (i + 1) text) at [] (first_in_line text i some)

  pub found_here : bytes_eq (take i text) w ≡ true → line_from w at [] text ≡ Some at
  found_here is =
      here
      ∙ ap (λ t. cond t (Some at) (line_from w (at + length (take i text) + 1) [] (drop (i + 1) text))) is

  pub found_on : bytes_eq (take i text) w ≡ false
      → line_from w at [] text ≡ line_from w (at + (i + 1)) [] (drop (i + 1) text)
  found_on is =
      let low = (position-Some is_line_end text i 0 some).0 in
      let size = length-take-le i text (omega (arith, low)) in
      here
      ∙ ap (λ t. cond t (Some at) (line_from w (at + length (take i text) + 1) [] (drop (i + 1) text))) is
      ∙ ap (λ n. line_from w (at + n + 1) [] (drop (i + 1) text)) size
      ∙ ap (λ n. line_from w n [] (drop (i + 1) text)) (omega arith)

  pub in_text : i + 1 + length (drop (i + 1) text) ≡ length text
  in_text =
      let low = (position-Some is_line_end text i 0 some).0 in
      omega (arith, low, length-drop (i + 1) text)
