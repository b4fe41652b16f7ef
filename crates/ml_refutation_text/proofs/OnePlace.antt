-- In a table that has each list once, a list has one place.
--
--   IsOnce ks       == what stands somewhere in ks stands at its place there
--   each_once_once  == so it is in the table that is made of some lists
--   one_place       == where one list stands twice, this is one place
use Rattle.std.proofs.Common.{◌≡◌, ℕ, ◌+◌, ◌<◌, ◌≤◌, ◌⊎◌, Bool, true, false, cond, not, ◌||◌, List, [], ◌∷◌, ◌++◌, Some, length, fold, get_or, refl, sym, ap, subst, ◌∙◌, inl, inr, length-append, arith}
use Rattle.std.specs.Prelude.{slice_get}
use Rattle.std.specs.List.{list_any}
use Rattle.std.specs.Str.{bytes_eq}
use Rattle.std.proofs.Math.Seq.{get_or-append_seam}
use Rattle.std.proofs.lemmas.Bool.{cases_lt}
use Rattle.std.proofs.lemmas.List.{get_or_append_left}
use Rattle.std.proofs.lemmas.Option.{slice_get_within, slice_get_read, get_or_from_slice_get}
use Rattle.ml_refutation_text.specs.Canonical.{with_new, each_once}
use Rattle.ml_refutation_text.specs.WrittenText.{place_in}
use Rattle.ml_refutation_text.proofs.MetLists.{place_before, place_last}

abbrev pub IsOnce : List (List ℕ) → Type 0
IsOnce ks = (s : ℕ) (x : List ℕ) → slice_get ks s ≡ Some x → s ≡ place_in ks x

-- what stands nowhere has its place behind the end
not_there : (ks : List (List ℕ)) (x : List ℕ) → list_any (bytes_eq x) ks ≡ false → place_in ks x ≡ length ks
not_there [] x none = refl
not_there (k ∷ ks) x none = go (bytes_eq x k) none (not_there ks x)
  where
    go : (b : Bool) → (b || list_any (bytes_eq x) ks) ≡ false
        → (list_any (bytes_eq x) ks ≡ false → place_in ks x ≡ length ks)
        → cond (not b) (1 + place_in ks x) 0 ≡ length (k ∷ ks)
    go true is others = absurd (cc)
    go false is others = omega (arith, others is)

once_push : (ks : List (List ℕ)) (x : List ℕ) → list_any (bytes_eq x) ks ≡ false → IsOnce ks → IsOnce (ks ++ x ∷ [])
once_push ks x none once s y there =
    let within : s < length (ks ++ x ∷ []) = slice_get_within (ks ++ x ∷ []) s y there in
    let is : get_or (ks ++ x ∷ []) s y ≡ y = get_or_from_slice_get (ks ++ x ∷ []) s y y there in
    go within is (cases_lt s (length ks))
  where
    go : s < length (ks ++ x ∷ []) → get_or (ks ++ x ∷ []) s y ≡ y → (s < length ks) ⊎ (length ks ≤ s)
        → s ≡ place_in (ks ++ x ∷ []) y
    go within is (inl below) =
        let before : slice_get ks s ≡ Some y =
        slice_get_read ks (length ks) s y refl below (sym is ∙ get_or_append_left ks (x ∷ []) y s below) in
        let place : s ≡ place_in ks y = once s y before in
        place ∙ sym (place_before ks x y (omega (arith, place, below)))
    go within is (inr past) =
        let last : s ≡ length ks = omega (arith, past, within, length-append ks (x ∷ [])) in
        let same : x ≡ y =
        sym (get_or-append_seam ks x [] y) ∙ ap (λ n. get_or (ks ++ x ∷ []) n y) (sym last) ∙ is in
        subst (λ z. s ≡ place_in (ks ++ x ∷ []) z) same (last ∙ sym (not_there ks x none) ∙ sym (place_last ks x))

once_new : (ks : List (List ℕ)) (x : List ℕ) → IsOnce ks → IsOnce (with_new ks x)
once_new ks x once = go (list_any (bytes_eq x) ks) refl
  where
    go : (b : Bool) → list_any (bytes_eq x) ks ≡ b → IsOnce (cond b ks (ks ++ x ∷ []))
    go true is = once
    go false is = once_push ks x is once

once_fold : (ks xs : List (List ℕ)) → IsOnce ks → IsOnce (fold with_new ks xs)
once_fold ks [] once = once
once_fold ks (x ∷ xs) once = once_fold (with_new ks x) xs (once_new ks x once)

once_none : IsOnce []
once_none s x there = let within : s < length {A = List ℕ} [] = slice_get_within [] s x there in absurd (omega (arith, within))

pub each_once_once : (xs : List (List ℕ)) → IsOnce (each_once xs)
each_once_once xs = once_fold [] xs once_none

pub one_place : (ks : List (List ℕ)) (s t : ℕ) (x : List ℕ)
    → IsOnce ks
    → slice_get ks s ≡ Some x
    → slice_get ks t ≡ Some x
    → s ≡ t
one_place ks s t x once here there = once s x here ∙ sym (once t x there)
