-- The number that digits are, computed up to a bound.
--
--   value_capped    == a number cut at the bound leads to the same number, cut there
--   capped_step     == a digit more is one that is left
--   capped_done     == where none is left, the number is there
use Rattle.std.proofs.Common.{◌≡◌, ℕ, ◌+◌, ◌-◌, ◌*◌, ◌<◌, ◌≤◌, List, [], ◌∷◌, length, get_or, drop, min, sym, ◌∙◌, ap, arith}
use Rattle.std.proofs.lemmas.Bool.Decides.{nat_tests}
use Rattle.std.proofs.lemmas.List.{drop_more, drop_all}
use Rattle.ml_lines.specs.Reading.{value_on}

cut_twice : (v d b : ℕ) → min (10 * min v b + d) b ≡ min (10 * v + d) b
cut_twice v d b = grind (arith, nat_tests)

pub value_capped : (xs : List ℕ) (v b : ℕ) → min (value_on (min v b) xs) b ≡ min (value_on v xs) b
value_capped [] v b = omega arith
value_capped (c ∷ cs) v b =
    let d = c - 48 in
    sym (value_capped cs (10 * min v b + d) b)
    ∙ ap (λ n. min (value_on n cs) b) (cut_twice v d b)
    ∙ value_capped cs (10 * v + d) b

pub capped_step : (digits : List ℕ) (i n next b : ℕ) → i < length digits
    → next ≡ min (10 * n + (get_or digits i 0 - 48)) b
    → min (value_on n (drop i digits)) b ≡ min (value_on next (drop (i + 1) digits)) b
capped_step digits i n next b within is =
    let rest = drop (i + 1) digits in
    ap (λ xs. min (value_on n xs) b) (drop_more digits i 0 within)
    ∙ sym (value_capped rest (10 * n + (get_or digits i 0 - 48)) b)
    ∙ ap (λ m. min (value_on m rest) b) (sym is)

pub capped_done : (digits : List ℕ) (i n b : ℕ) → length digits ≤ i → n ≤ b
    → min (value_on n (drop i digits)) b ≡ n
capped_done digits i n b end low = ap (λ xs. min (value_on n xs) b) (drop_all i digits end) ∙ omega arith
