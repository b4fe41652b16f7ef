-- The first proposition of a text that isn't declared, by the number of its word.
--
--   filtered_low   == the names that begin in lower case do
--   placed_first   == the place of the word with its number is where it stands
use Rattle.std.proofs.Common.{◌≡◌, ℕ, ◌+◌, true, false, List, [], ◌∷◌, Option, Some, Err, sym, ap, subst, ◌∙◌, ⊎_elim, arith}
use Rattle.std.specs.Prelude.{MatchOption}
use Rattle.std.specs.List.{AllByRecursion, slice_get, zip}
use Rattle.std.proofs.lemmas.Bool.{cases_Bool, cond-true, cond-false}
use Rattle.ml_front.specs.declared.logic.Logic.{Logic}
use Rattle.ml_text.specs.Names.{KindedName}
use Rattle.ml_text.specs.Tokens.{tokens_from}
use Rattle.ml_text.proofs.Cover.{are_tokens}
use Rattle.ml_written.specs.Places.{AreDeclared, IsFirstUndeclared, begins_lower, lower_names, places}
use Rattle.ml_written.specs.Propositions.{names}
use Rattle.ml_written.specs.Written.{IsWrittenAs, written_logic}
use Rattle.ml_written.specs.declared.written.Written.{Written}
use Rattle.ml_written.specs.private.LowerWords.{lower_places, words_of}
use Rattle.ml_written.specs.private.Passing.{passed}
use Rattle.ml_written.proofs.FirstMissing.{IsFirstMissing, IsFound, declared_member, first_of, not_member, passed_lower}
use Rattle.ml_written.proofs.LowerTokens.{IsAscending, Stands, ascends}
use Rattle.ml_written.proofs.PlacedNames.{AreFound, found}

pub filtered_low : (xs : List KindedName) → AllByRecursion (λ y. begins_lower y.1 ≡ true) (lower_names xs)
filtered_low [] = tt
filtered_low (x ∷ xs) =
    ⊎_elim
    (λ (low : begins_lower x.1 ≡ true).
    subst (AllByRecursion (λ y. begins_lower y.1 ≡ true))
    (sym (cond-true (begins_lower x.1) (x ∷ lower_names xs) (lower_names xs) low)) (low, filtered_low xs))
    (λ (other : begins_lower x.1 ≡ false).
    subst (AllByRecursion (λ y. begins_lower y.1 ≡ true))
    (sym (cond-false (begins_lower x.1) (x ∷ lower_names xs) (lower_names xs) other)) (filtered_low xs))
    (cases_Bool (begins_lower x.1))

first_found : (known : List (List ℕ)) (text : List ℕ) (w : Written) (m : ℕ)
    → AreFound text w
    → Err m ≡ passed known 0 (names w)
    → IsFound known (places text w) m (zip (places text w) (lower_names (names w)))
first_found known text w m is stops =
    let l = written_logic w in
    let ascending = ascends l (words_of l) text 0 (tokens_from (words_of l) text 0) (are_tokens (words_of l) text 0) in
    first_of known (Stands text) (places text w) m 0 (places text w) (lower_names (names w)) is.stand
    (subst IsAscending (sym is.tokens_are) ascending) (filtered_low (names w))
    (λ i. ap (slice_get (places text w)) (let e : i ≡ i + 0 = omega arith in e))
    (stops ∙ passed_lower known 0 (names w) is.lows)

first_undeclared : (known : List (List ℕ)) (text : List ℕ) (w : Written) (k : ℕ)
    → IsFirstMissing known (zip (places text w) (lower_names (names w))) k
    → IsFirstUndeclared known text w k
first_undeclared known text w k is = record {
  name = is.name;
  stands = is.stands;
  undeclared = not_member known is.name is.undeclared;
  first = λ j p less at. declared_member known p (is.first j p less at);
}

pub placed_first : (known : List (List ℕ)) (text : List ℕ) (w : Written) (m : ℕ) (l : Logic) (r : Option ℕ)
    → IsWrittenAs text w
    → Err m ≡ passed known 0 (names w)
    → l ≡ written_logic w
    → r ≡ slice_get (lower_places l text (tokens_from (words_of l) text 0)) m
    → MatchOption r (AreDeclared known w) (IsFirstUndeclared known text w)
placed_first known text w m l r written stops same at =
    let is = found text w written in
    let first = first_found known text w m is stops in
    let place : r ≡ Some first.0 =
    at ∙ ap (λ g. slice_get (lower_places g text (tokens_from (words_of g) text 0)) m) same
    ∙ ap (λ ks. slice_get ks m) (sym is.tokens_are) ∙ first.1 in
    subst (λ o. MatchOption o (AreDeclared known w) (IsFirstUndeclared known text w)) (sym place)
    (first_undeclared known text w first.0 first.2)
