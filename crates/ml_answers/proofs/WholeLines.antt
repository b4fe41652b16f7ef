-- What stands before a line that is found.
--
--   found_whole  == a line is found at the front of what is searched, or behind an LF
--   whole_before == so whole lines stand before a document
use Rattle.std.proofs.Common.{◌≡◌, ℕ, suc, ◌+◌, ◌-◌, ◌<◌, ◌⊎◌, Bool, true, false, cond, List, [], ◌∷◌, ◌++◌, Some, codes, length, take, inl, inr, refl, sym, ap, subst, ◌∙◌, arith}
use Rattle.std.specs.List.{slice_split, onto_first}
use Rattle.std.specs.Str.{bytes_eq}
use Rattle.std.proofs.lemmas.List.{length-append}
use Rattle.std.proofs.lemmas.Option.{none-some}
use Rattle.ml_lines.specs.Reading.{is_line_end, last_part, left_of}
use Rattle.ml_lines.proofs.Cuts.{last_more, some_part}
use Rattle.ml_answers.specs.Texts.{first_line, line_from}

-- ---- texts that end with an LF

abbrev pub AreCut : List (List ℕ) → Type 0
AreCut parts = (1 < length parts) × (last_part parts ≡ [])

abbrev pub EndsLine : List ℕ → Type 0
EndsLine text = AreCut (slice_split is_line_end text)

onto_more : (b : ℕ) (parts : List (List ℕ)) → AreCut parts → AreCut (onto_first b parts)
onto_more b [] are = absurd (omega (arith, are.0))
onto_more b (p ∷ []) are = absurd (omega (arith, are.0))
onto_more b (p ∷ q ∷ parts) are = are

lf_alone : (b : ℕ) → is_line_end b ≡ true → EndsLine (b ∷ [])
lf_alone b lf = subst (λ t. AreCut (cond t ([] ∷ [] ∷ []) (onto_first b ([] ∷ [])))) (sym lf) (omega arith, refl)

lf_before : (b : ℕ) (text : List ℕ) → is_line_end b ≡ true → EndsLine text → EndsLine (b ∷ text)
lf_before b text lf ends =
    subst
    (λ t. AreCut (cond t ([] ∷ slice_split is_line_end text) (onto_first b (slice_split is_line_end text))))
    (sym lf)
    (omega (arith, ends.0), last_more [] (slice_split is_line_end text) (some_part is_line_end text) ∙ ends.1)

byte_before : (b : ℕ) (text : List ℕ) → is_line_end b ≡ false → EndsLine text → EndsLine (b ∷ text)
byte_before b text other ends =
    subst
    (λ t. AreCut (cond t ([] ∷ slice_split is_line_end text) (onto_first b (slice_split is_line_end text))))
    (sym other)
    (onto_more b (slice_split is_line_end text) ends)

-- ---- the line that is found

-- it is the first one, which began before `from`, or a later one
abbrev pub IsWhole : ℕ → ℕ → List ℕ → ℕ → Type 0
IsWhole at from text k = (k ≡ at) ⊎ ((from < k) × EndsLine (take (k - from) text))

behind_lf : (b : ℕ) (bs : List ℕ) (at from k : ℕ)
    → is_line_end b ≡ true
    → IsWhole (from + 1) (from + 1 + 0) bs k
    → IsWhole at from (b ∷ bs) k
behind_lf b bs at from k lf (inl e) =
    let one : k - from ≡ suc 0 = omega (arith, e) in
    inr (omega (arith, e), subst (λ n. EndsLine (take n (b ∷ bs))) (sym one) (lf_alone b lf))
behind_lf b bs at from k lf (inr (low, ends)) =
    let more : k - from ≡ suc (k - (from + 1 + 0)) = omega (arith, low) in
    inr (
      omega (arith, low),
      subst (λ n. EndsLine (take n (b ∷ bs))) (sym more) (lf_before b (take (k - (from + 1 + 0)) bs) lf ends),
    )

behind_byte : (b : ℕ) (bs seen : List ℕ) (at k : ℕ)
    → is_line_end b ≡ false
    → IsWhole at (at + length (seen ++ b ∷ [])) bs k
    → IsWhole at (at + length seen) (b ∷ bs) k
behind_byte b bs seen at k other (inl e) = inl e
behind_byte b bs seen at k other (inr (low, ends)) =
    let size : length (seen ++ b ∷ []) ≡ length seen + 1 = length-append seen (b ∷ []) in
    let more : k - (at + length seen) ≡ suc (k - (at + length (seen ++ b ∷ []))) = omega (arith, low, size) in
    inr (
      omega (arith, low, size),
      subst (λ n. EndsLine (take n (b ∷ bs))) (sym more)
          (byte_before b (take (k - (at + length (seen ++ b ∷ []))) bs) other ends),
    )

pub found_whole : (w text : List ℕ) (at : ℕ) (seen : List ℕ) (k : ℕ)
    → line_from w at seen text ≡ Some k
    → IsWhole at (at + length seen) text k
found_whole w [] at seen k e = absurd (none-some k e)
found_whole w (b ∷ bs) at seen k e = go (is_line_end b) refl (bytes_eq seen w) (found_whole w bs) e
  where
    go : (t : Bool)
        → is_line_end b ≡ t
        → (u : Bool)
        → ((at : ℕ) (seen : List ℕ) (k : ℕ) → line_from w at seen bs ≡ Some k → IsWhole at (at + length seen) bs k)
        → cond t (cond u (Some at) (line_from w (at + length seen + 1) [] bs)) (line_from w at (seen ++ b ∷ []) bs)
        ≡ Some k
        → IsWhole at (at + length seen) (b ∷ bs) k
    go true lf true rest e = let same : k ≡ at = cc in inl same
    go true lf false rest e =
        behind_lf b bs at (at + length seen) k lf (rest (at + length seen + 1) [] k e)
    go false other u rest e = behind_byte b bs seen at k other (rest at (seen ++ b ∷ []) k e)

pub whole_before : (text : List ℕ) (at : ℕ)
    → first_line (codes "mlsolver answers 1") text ≡ Some at
    → left_of (take at text) ≡ []
whole_before text at e = by (found_whole (codes "mlsolver answers 1") text 0 [] at e)
  where
    by : IsWhole 0 (0 + 0) text at → left_of (take at text) ≡ []
    by (inl none) = ap (λ n. left_of (take n text)) none
    by (inr (low, ends)) =
        let same : at ≡ at - (0 + 0) = omega arith in ap (λ n. left_of (take n text)) same ∙ ends.1
