-- What is known of places while the lists at them are met.
--
--   met_again        == a list that has a place isn't new
--   place_before, place_last == the places with one more list behind
--   place_kept       == its place stays as one more list is met
--   place_met        == the list that is met stands at the place that it had, or at the end
--   known_kept, one_known == what is known stays known, also with one more place
--   lists_put, place_put == a list that is lent is put into a table, at its place
use Rattle.std.proofs.Common.{◌≡◌, ℕ, ◌+◌, ◌<◌, Bool, true, false, cond, not, ◌||◌, List, [], ◌∷◌, ◌++◌, Option, None, Some, length, get_or, set, refl, sym, ap, subst, ◌∙◌, inl, inr, ◌⊎◌, ◌≢◌, length-append, arith, Bor}
use Rattle.std.specs.List.{list_any, position_or_len}
use Rattle.std.specs.Str.{bytes_eq}
use Rattle.std.proofs.lemmas.Bool.{cases_eq}
use Rattle.std.proofs.lemmas.List.{get_or-set_same, get_or-set_other, length-map}
use Rattle.std.proofs.lemmas.Slice.Eq.{bytes_eq-Decides}
use Rattle.ml_refutation_text.specs.WrittenText.{place_in}
use Rattle.ml_refutation_text.specs.Canonical.{with_new}
use Rattle.indexmap.specs.IndexSet.{insert_key}
use Rattle.ml_refutation_text.specs.private.Collecting.{shown, IsPlace, ArePlaces}
use Rattle.ml_refutation_text.proofs.EachOnce.{same, shown_insert, place_shown}

stands : (ks : List (List ℕ)) (x : List ℕ) → place_in ks x < length ks → list_any (bytes_eq x) ks ≡ true
stands [] x inside = absurd (omega arith)
stands (k ∷ ks) x inside = go (bytes_eq x k) inside (stands ks x)
  where
    go : (b : Bool) → cond (not b) (1 + place_in ks x) 0 < length (k ∷ ks)
        → (place_in ks x < length ks → list_any (bytes_eq x) ks ≡ true)
        → (b || list_any (bytes_eq x) ks) ≡ true
    go true here others = refl
    go false here others = others (omega arith)

pub met_again : (ks : List (List ℕ)) (x : List ℕ) (k : ℕ) → IsPlace ks x k → with_new ks x ≡ ks
met_again ks x k at =
    ap (λ b. cond b ks (ks ++ x ∷ [])) (stands ks x (subst (λ n. n < length ks) at.is at.inside))

pub place_before : (ks : List (List ℕ)) (x y : List ℕ)
    → place_in ks y < length ks
    → place_in (ks ++ x ∷ []) y ≡ place_in ks y
place_before [] x y inside = absurd (omega arith)
place_before (k ∷ ks) x y inside = go (bytes_eq y k) inside (place_before ks x y)
  where
    go : (b : Bool) → cond (not b) (1 + place_in ks y) 0 < length (k ∷ ks)
        → (place_in ks y < length ks → place_in (ks ++ x ∷ []) y ≡ place_in ks y)
        → cond (not b) (1 + place_in (ks ++ x ∷ []) y) 0 ≡ cond (not b) (1 + place_in ks y) 0
    go true here others = refl
    go false here others = ap (λ n. 1 + n) (others (omega arith))

pub place_kept : (ks : List (List ℕ)) (x y : List ℕ) (k : ℕ) → IsPlace ks y k → IsPlace (with_new ks x) y k
place_kept ks x y k at = go (list_any (bytes_eq x) ks)
  where
    go : (b : Bool) → IsPlace (cond b ks (ks ++ x ∷ [])) y k
    go true = at
    go false = record {
      is = at.is ∙ sym (place_before ks x y (subst (λ n. n < length ks) at.is at.inside));
      inside = omega (arith, at.inside, length-append ks (x ∷ []));
    }

pub place_last : (ks : List (List ℕ)) (x : List ℕ) → place_in (ks ++ x ∷ []) x ≡ place_in ks x
place_last [] x = ap (λ b. cond (not b) 1 0) ((bytes_eq-Decides x x).1 refl)
place_last (k ∷ ks) x = ap (λ n. cond (not (bytes_eq x k)) (1 + n) 0) (place_last ks x)

pub place_met : (ks : List (List ℕ)) (x : List ℕ) → place_in (with_new ks x) x ≡ place_in ks x
place_met ks x = go (list_any (bytes_eq x) ks)
  where
    go : (b : Bool) → place_in (cond b ks (ks ++ x ∷ [])) x ≡ place_in ks x
    go true = refl
    go false = place_last ks x

pub known_kept : (all ks more : List (List ℕ)) (x : List ℕ) (known : List (Option ℕ))
    → more ≡ with_new ks x
    → ArePlaces all ks known
    → ArePlaces all more known
known_kept all ks more x known is are i k found =
    subst (λ lists. IsPlace lists (get_or all i []) k) (sym is) (place_kept ks x (get_or all i []) k (are i k found))

-- the list x at the place p is met, and is the one at j
pub one_known : (all ks more : List (List ℕ)) (x : List ℕ) (known : List (Option ℕ)) (p j : ℕ)
    → x ≡ get_or all p []
    → more ≡ with_new ks x
    → IsPlace more x j
    → p < length known
    → ArePlaces all ks known
    → ArePlaces all more (set known p (Some j))
one_known all ks more x known p j there is at inside are i k found = go (cases_eq i p)
  where
    go : (i ≡ p) ⊎ (i ≢ p) → IsPlace more (get_or all i []) k
    go (inl same) =
        let here : get_or (set known p (Some j)) i None ≡ Some j =
        ap (λ n. get_or (set known p (Some j)) n None) same ∙ get_or-set_same known p (Some j) None inside in
        let one : j ≡ k = cc in
        subst (IsPlace more (get_or all i [])) one
        (subst (λ list. IsPlace more list j) (there ∙ ap (λ n. get_or all n []) (sym same)) at)
    go (inr other) =
        known_kept all ks more x known is are i k (sym (get_or-set_other known p i (Some j) None other) ∙ found)

-- a list that is lent is put into a table
pub lists_put : (keys more : List (Bor (List ℕ))) (lent : Bor (List ℕ))
    → more ≡ insert_key same keys lent
    → shown more ≡ with_new (shown keys) lent.now
lists_put keys more lent inserted = ap shown inserted ∙ shown_insert keys lent

pub place_put : (keys more : List (Bor (List ℕ))) (lent : Bor (List ℕ)) (j : ℕ)
    → more ≡ insert_key same keys lent
    → j ≡ position_or_len (same lent) keys
    → j < length more
    → IsPlace (shown more) lent.now j
place_put keys more lent j inserted place inside = record {
  is =
      place ∙ place_shown keys lent.now ∙ sym (place_met (shown keys) lent.now)
      ∙ ap (λ ks. place_in ks lent.now) (sym (lists_put keys more lent inserted));
  inside = omega (arith, inside, length-map more (λ (k : Bor (List ℕ)). k.now));
}
