-- Lists that are gone through, and calls that succeed.
--
--   further   == one more was seen, and the rest is left
--   all_seen  == where nothing is left, all were seen
--   ok_then   == what follows from what a call ensures where it succeeds
use Rattle.std.proofs.Common.{◌≡◌, List, [], ◌∷◌, ◌++◌, length, Result, Ok, Err, IfOk, refl, sym, ap, ◌∙◌, arith}
use Rattle.std.proofs.lemmas.List.{append-nil}

module _ {X : Type 0} where
  moved : (xs : List X) (x : X) (rest : List X) → (xs ++ x ∷ []) ++ rest ≡ xs ++ x ∷ rest
  moved [] x rest = refl
  moved (y ∷ ys) x rest = ap (λ zs. y ∷ zs) (moved ys x rest)

  pub further : (xs : List X) (x : X) (before rest all : List X) → before ≡ x ∷ rest → xs ++ before ≡ all
      → (xs ++ x ∷ []) ++ rest ≡ all
  further xs x before rest all e is = moved xs x rest ∙ ap (λ zs. xs ++ zs) (sym e) ∙ is

  pub all_seen : (xs rest all : List X) → length rest ≡ 0 → xs ++ rest ≡ all → xs ≡ all
  all_seen xs [] all none is = sym (append-nil xs) ∙ is
  all_seen xs (y ∷ ys) all none is = absurd (omega arith)

pub ok_then : {X E : Type 0} (P Q : X → Type 0) → ((x : X) → P x → Q x) → (r : Result X E) → IfOk r P → IfOk r Q
ok_then P Q f (Ok x) h = f x h
ok_then P Q f (Err e) h = tt
