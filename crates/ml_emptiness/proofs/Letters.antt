-- Letters by their sources, one after the other.
--
--   next_entry == the entries up to the next one
--   same_none, same_more == the letters so far have the same transitions
--   same_reads == what one row reads, the other reads
use Rattle.std.proofs.Common.{ℕ, ◌≡◌, ◌↔◌, ◌+◌, ◌<◌, ◌≤◌, ◌⊎◌, inl, inr, arith, List, [], ◌∷◌, ◌++◌, length, get_or, take}
use Rattle.std.proofs.Common.{refl, sym, ap, ◌∙◌, subst, length-append}
use Rattle.std.proofs.lemmas.Bool.{cases_lt}
use Rattle.std.proofs.lemmas.List.{get_or_append_left, get_or_past, get_or_push, take_more}
use Rattle.ml_lists.specs.Member.{IsMember}
use Rattle.ml_trace.specs.declared.letters.Transition.{Transition}
use Rattle.ml_emptiness.specs.private.Leaving.{AreSameLetters}

pub next_entry : {X : Type 0} (xs : List X) (i : ℕ) (x : X)
    → i < length xs
    → x ≡ get_or xs i x
    → take (i + 1) xs ≡ take i xs ++ x ∷ []
next_entry xs i x low is = take_more xs i x low ∙ ap (λ y. take i xs ++ y ∷ []) (sym is)

pub same_none : AreSameLetters [] []
same_none = record { one_length = refl; same = λ l t. (λ m. m, λ m. m) }

pub same_more : (row all : List (List Transition)) (letter m : List Transition)
    → AreSameLetters row all
    → ((t : Transition) → IsMember t m ↔ IsMember t letter)
    → AreSameLetters (row ++ letter ∷ []) (all ++ m ∷ [])
same_more row all letter m are one = record {
  one_length = length-append all (m ∷ []) ∙ ap (λ n. n + 1) are.one_length ∙ sym (length-append row (letter ∷ []));
  same = λ l t. by_place l t (cases_lt l (length row));
}
  where
    past : (xs : List (List Transition)) (x : List Transition) (l : ℕ) → length xs < l → get_or (xs ++ x ∷ []) l [] ≡ []
    past xs x l high = get_or_past (xs ++ x ∷ []) l [] (let e = length-append xs (x ∷ []) in omega arith)

    by_place : (l : ℕ) (t : Transition) → (l < length row) ⊎ (length row ≤ l)
        → IsMember t (get_or (all ++ m ∷ []) l []) ↔ IsMember t (get_or (row ++ letter ∷ []) l [])
    by_place l t (inl low) =
        let e = are.one_length in
        let a = get_or_append_left all (m ∷ []) [] l (omega arith) in
        let b = get_or_append_left row (letter ∷ []) [] l low in (
          λ h. subst (IsMember t) (sym b) ((are.same l t).0 (subst (IsMember t) a h)),
          λ h. subst (IsMember t) (sym a) ((are.same l t).1 (subst (IsMember t) b h)),
        )
    by_place l t (inr high) = at_end (cases_lt (length row) l)
      where
        at_end : (length row < l) ⊎ (l ≤ length row)
            → IsMember t (get_or (all ++ m ∷ []) l []) ↔ IsMember t (get_or (row ++ letter ∷ []) l [])
        at_end (inl more) =
            let e = are.one_length in
            let a = past all m l (omega arith) in
            let b = past row letter l more in
            (λ h. absurd (subst (IsMember t) a h), λ h. absurd (subst (IsMember t) b h))
        at_end (inr here) =
            let is : length row ≡ l = omega arith in
            let a = get_or_push all m [] l (are.one_length ∙ is) in
            let b = get_or_push row letter [] l is in (
              λ h. subst (IsMember t) (sym b) ((one t).0 (subst (IsMember t) a h)),
              λ h. subst (IsMember t) (sym a) ((one t).1 (subst (IsMember t) b h)),
            )
