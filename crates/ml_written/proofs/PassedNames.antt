-- Names counted up to the first proposition that isn't declared.
--
--   joined      == behind two lists of names, the other behind the one
--   stops       == where it stops in the first list, it stops in both
--   goes_on     == and else it goes on in the other
use Rattle.std.proofs.Common.{◌≡◌, ℕ, List, [], ◌∷◌, ◌++◌, Result, Ok, Err, refl, sym, ap, ◌∙◌}
use Rattle.ml_text.specs.Names.{KindedName}
use Rattle.ml_written.specs.private.Passing.{on_ok, passed, passed_one}

joined_on : (ps : List (List ℕ)) (r : Result ℕ ℕ) (xs ys : List KindedName)
    → ((m : ℕ) → passed ps m (xs ++ ys) ≡ on_ok (passed ps m xs) (λ n. passed ps n ys))
    → on_ok r (λ m. passed ps m (xs ++ ys)) ≡ on_ok (on_ok r (λ m. passed ps m xs)) (λ n. passed ps n ys)
joined_on ps (Ok m) xs ys later = later m
joined_on ps (Err e) xs ys later = refl

pub joined : (ps : List (List ℕ)) (n : ℕ) (xs ys : List KindedName)
    → passed ps n (xs ++ ys) ≡ on_ok (passed ps n xs) (λ m. passed ps m ys)
joined ps n [] ys = refl
joined ps n (x ∷ xs) ys = joined_on ps (passed_one ps n x.0 x.1) xs ys (λ m. joined ps m xs ys)

pub stops : (ps : List (List ℕ)) (n e : ℕ) (xs ys : List KindedName)
    → Err e ≡ passed ps n xs
    → Err e ≡ passed ps n (xs ++ ys)
stops ps n e xs ys is = ap (λ r. on_ok r (λ m. passed ps m ys)) is ∙ sym (joined ps n xs ys)

pub goes_on : (ps : List (List ℕ)) (n m : ℕ) (xs ys : List KindedName) (r : Result ℕ ℕ)
    → Ok m ≡ passed ps n xs
    → r ≡ passed ps m ys
    → r ≡ passed ps n (xs ++ ys)
goes_on ps n m xs ys r is later = later ∙ ap (λ q. on_ok q (λ k. passed ps k ys)) is ∙ sym (joined ps n xs ys)
