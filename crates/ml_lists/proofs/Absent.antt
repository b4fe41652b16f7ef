-- Numbers that don't stand in a list, told by a test.
--
--   others_differ   == what passes a test isn't what fails it
--   absent          == a number that fails a test stands in no list of numbers that pass it
--   none_both       == where a test fails everywhere in two lists, it does in both together
use Rattle.std.proofs.Common.{◌≡◌, ℕ, Bool, true, false, ◌==◌, List, [], ◌∷◌, ◌++◌, refl, sym, ap, ◌∙◌, eqb-true}
use Rattle.std.specs.List.{list_all, list_any}
use Rattle.std.proofs.lemmas.Bool.{and_parts, or_from, true≢false}
use Rattle.std.proofs.lemmas.List.Folds.{list_any-append}

pub others_differ : (test : ℕ → Bool) (b c : ℕ) → test c ≡ false → test b ≡ true → (b == c) ≡ false
others_differ test b c fails passes = go (b == c) refl
  where
    go : (t : Bool) → (b == c) ≡ t → (b == c) ≡ false
    go false e = e
    go true e = absurd (true≢false (sym passes ∙ ap test (eqb-true b c e) ∙ fails))

pub absent : (test : ℕ → Bool) (c : ℕ)
    → test c ≡ false
    → (xs : List ℕ)
    → list_all test xs ≡ true
    → list_any (λ x. x == c) xs ≡ false
absent test c fails [] all = refl
absent test c fails (x ∷ xs) all =
    let parts = and_parts (test x) (list_all test xs) all in
    or_from (x == c) (list_any (λ y. y == c) xs) (others_differ test x c fails parts.0) (absent test c fails xs parts.1)

pub none_both : {X : Type 0} (test : X → Bool) (xs ys : List X)
    → list_any test xs ≡ false
    → list_any test ys ≡ false
    → list_any test (xs ++ ys) ≡ false
none_both test xs ys one other = list_any-append test xs ys ∙ or_from (list_any test xs) (list_any test ys) one other
