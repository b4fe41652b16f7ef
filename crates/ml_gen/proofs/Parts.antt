-- Numbered parts, with a separator between each two.
--
--   flat_map_range_more == pieces for the numbers from a on, and for one number more
--   more_parts          == the parts for 1 to i, and the part for i + 1 behind a separator
--   one_more_part       == the same, where both are appended to what stands there already
use Rattle.std.proofs.Common.{◌≡◌, ℕ, suc, zero, ◌+◌, ◌≤◌, List, ◌++◌, sym, ap, ◌∙◌, append_assoc, append-nil, arith}
use Rattle.std.specs.List.{flat_map, range_with_len}
use Rattle.ml_gen.specs.Families.{part, parts}
use Rattle.ml_gen.specs.declared.family.Family.{Family}

pub flat_map_range_more : (g : ℕ → List ℕ) (a n j : ℕ) → a + n ≡ j
    → flat_map g (range_with_len a (suc n)) ≡ flat_map g (range_with_len a n) ++ g j
flat_map_range_more g a zero j e =
    let same : a ≡ j = omega arith in append-nil (g a) ∙ ap g same
flat_map_range_more g a (suc n) j e =
    let further : a + 1 + n ≡ j = omega arith in
    ap (λ rest. g a ++ rest) (flat_map_range_more g (a + 1) n j further)
    ∙ sym (append_assoc (g a) (flat_map g (range_with_len (a + 1) n)) (g j))

pub more_parts : (family : Family) (separator : List ℕ) (i : ℕ) → 1 ≤ i
    → parts family separator (i + 1) ≡ parts family separator i ++ (separator ++ part family (i + 1))
more_parts family separator zero positive = absurd (omega arith)
more_parts family separator (suc k) positive =
    let piece : ℕ → List ℕ = λ i. separator ++ part family i in
    let on : suc k + 1 ≡ suc (suc k) = omega arith in
    let last : 2 + k ≡ suc k + 1 = omega arith in
    ap (parts family separator) on
    ∙ ap (λ rest. part family 1 ++ rest) (flat_map_range_more piece 2 k (suc k + 1) last)
    ∙ sym (append_assoc (part family 1) (flat_map piece (range_with_len 2 k)) (piece (suc k + 1)))

pub one_more_part : (family : Family) (before made separator separated after : List ℕ) (i : ℕ) → 1 ≤ i
    → made ≡ before ++ parts family separator i
    → separated ≡ made ++ separator
    → after ≡ separated ++ part family (i + 1)
    → after ≡ before ++ parts family separator (i + 1)
one_more_part family before made separator separated after i positive front between last =
    let ahead : List ℕ = parts family separator i in
    let next : List ℕ = part family (i + 1) in
    last
    ∙ ap (λ bytes. bytes ++ next) (between ∙ ap (λ bytes. bytes ++ separator) front)
    ∙ append_assoc (before ++ ahead) separator next
    ∙ append_assoc before ahead (separator ++ next)
    ∙ ap (λ rest. before ++ rest) (sym (more_parts family separator i positive))
