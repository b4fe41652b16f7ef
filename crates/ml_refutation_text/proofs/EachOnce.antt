-- Lists, each once, and their places.
--
--   same             == when two lists that are lent are the same
--   shown_insert     == one more list is put into a table as into what it shows
--   place_shown      == the place of a list in a table is that in what it shows
--   place_found, place_missing == it is what a look-up gives, and otherwise the table's length
use Rattle.std.proofs.Common.{◌≡◌, ℕ, ◌+◌, ◌<◌, ◌≤◌, Bool, true, false, cond, not, List, [], ◌∷◌, ◌++◌, None, Some, Bor}
use Rattle.std.proofs.Common.{length, refl, sym, ap, ◌∙◌, inl, inr, ◌⊎◌, arith, nat_lt}
use Rattle.std.proofs.lemmas.Bool.{cases_lt}
use Rattle.std.proofs.lemmas.Bool.Decides.{nat_tests}
use Rattle.std.proofs.lemmas.List.{map-append}
use Rattle.std.proofs.lemmas.List.Sums.{prefix_len-le-length}
use Rattle.std.specs.Prelude.{position, ◌||◌}
use Rattle.std.specs.List.{list_any, position_or_len}
use Rattle.std.specs.Str.{bytes_eq}
use Rattle.indexmap.specs.IndexSet.{insert_key}
use Rattle.ml_refutation_text.specs.WrittenText.{place_in}
use Rattle.ml_refutation_text.specs.Canonical.{with_new}
use Rattle.ml_refutation_text.specs.private.Collecting.{shown}

abbrev pub same : Bor (List ℕ) → Bor (List ℕ) → Bool
same a b = bytes_eq a.now b.now

any_shown : (x : List ℕ) (keys : List (Bor (List ℕ)))
    → list_any (λ k. bytes_eq x k.now) keys ≡ list_any (bytes_eq x) (shown keys)
any_shown x [] = refl
any_shown x (k ∷ keys) = ap (λ b. bytes_eq x k.now || b) (any_shown x keys)

pub shown_insert : (keys : List (Bor (List ℕ))) (x : Bor (List ℕ))
    → shown (insert_key same keys x) ≡ with_new (shown keys) x.now
shown_insert keys x = go (list_any (same x) keys) (any_shown x.now keys)
  where
    go : (b : Bool) → b ≡ list_any (bytes_eq x.now) (shown keys)
        → shown (cond b keys (keys ++ x ∷ [])) ≡ with_new (shown keys) x.now
    go true is = ap (λ b. cond b (shown keys) (shown keys ++ x.now ∷ [])) is
    go false is =
        map-append (λ k. k.now) keys (x ∷ []) ∙ ap (λ b. cond b (shown keys) (shown keys ++ x.now ∷ [])) is

pub place_shown : (keys : List (Bor (List ℕ))) (x : List ℕ)
    → position_or_len (λ k. bytes_eq x k.now) keys ≡ place_in (shown keys) x
place_shown [] x = refl
place_shown (k ∷ keys) x = ap (λ n. cond (not (bytes_eq x k.now)) (1 + n) 0) (place_shown keys x)

module _ {X : Type 0} (p : X → Bool) where
  pub place_found : (xs : List X) (i : ℕ) → position p xs ≡ Some i → i ≡ position_or_len p xs
  place_found xs i is = go (nat_lt (position_or_len p xs) (length xs)) is
    where
      go : (b : Bool) → cond b (Some (position_or_len p xs)) None ≡ Some i → i ≡ position_or_len p xs
      go true e = cc
      go false e = absurd (cc)

  pub place_missing : (xs : List X) → position p xs ≡ None → length xs ≡ position_or_len p xs
  place_missing xs is = go (cases_lt (position_or_len p xs) (length xs))
    where
      apart : None ≡ Some (position_or_len p xs) → length xs ≡ position_or_len p xs
      apart e = absurd (cc)

      go : (position_or_len p xs < length xs) ⊎ (length xs ≤ position_or_len p xs) → length xs ≡ position_or_len p xs
      go (inl below) =
          let e : nat_lt (position_or_len p xs) (length xs) ≡ true = grind (arith, nat_tests) in
          let some : position p xs ≡ Some (position_or_len p xs) = ap (λ b. cond b (Some (position_or_len p xs)) None) e in
          apart (sym is ∙ some)
      go (inr past) = omega (arith, prefix_len-le-length (λ x. not (p x)) xs)
