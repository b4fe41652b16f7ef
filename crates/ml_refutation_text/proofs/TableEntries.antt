-- What stands in the table that is made of some lists.
--
--   Has ks x         == x stands in ks
--   made_has         == each of the lists stands in the table that is made of them
--   made_all         == what holds of all lists holds of all lines of that table
--   made_length      == that table isn't longer than they are
--   has_inside, has_place == what stands in a table stands at its place there
use Rattle.std.proofs.Common.{◌≡◌, ℕ, suc, ◌+◌, ◌<◌, ◌≤◌, Bool, true, false, cond, not, ◌||◌, List, [], ◌∷◌, ◌++◌, Some, length, fold, get_or, All, refl, sym, ap, ◌∙◌, length-append, arith}
use Rattle.std.specs.Prelude.{slice_get}
use Rattle.std.specs.List.{list_any, AllByRecursion}
use Rattle.std.specs.Str.{bytes_eq}
use Rattle.std.proofs.lemmas.List.Elements.{All-nil, All-head, All-tail, All-push}
use Rattle.std.proofs.lemmas.List.Folds.{list_any-append}
use Rattle.std.proofs.lemmas.Option.{slice_get_read}
use Rattle.std.proofs.lemmas.Slice.Eq.{bytes_eq-Decides}
use Rattle.std.proofs.lemmas.Bool.{or_right, or_left}
use Rattle.ml_refutation_text.specs.WrittenText.{place_in}
use Rattle.ml_refutation_text.specs.Canonical.{with_new, each_once}

abbrev pub Has : List (List ℕ) → List ℕ → Type 0
Has ks x = list_any (bytes_eq x) ks ≡ true

new_keeps : (ks : List (List ℕ)) (x y : List ℕ) → Has ks y → Has (with_new ks x) y
new_keeps ks x y has = go (list_any (bytes_eq x) ks)
  where
    go : (b : Bool) → Has (cond b ks (ks ++ x ∷ [])) y
    go true = has
    go false =
        list_any-append (bytes_eq y) ks (x ∷ [])
        ∙ or_left (list_any (bytes_eq y) ks) (list_any (bytes_eq y) (x ∷ [])) has

new_has : (ks : List (List ℕ)) (x : List ℕ) → Has (with_new ks x) x
new_has ks x = go (list_any (bytes_eq x) ks) refl
  where
    go : (b : Bool) → list_any (bytes_eq x) ks ≡ b → Has (cond b ks (ks ++ x ∷ [])) x
    go true is = is
    go false is =
        list_any-append (bytes_eq x) ks (x ∷ [])
        ∙ or_right (list_any (bytes_eq x) ks) (bytes_eq x x || false)
        (or_left (bytes_eq x x) false ((bytes_eq-Decides x x).1 refl))

fold_keeps : (ks xs : List (List ℕ)) (y : List ℕ) → Has ks y → Has (fold with_new ks xs) y
fold_keeps ks [] y has = has
fold_keeps ks (x ∷ xs) y has = fold_keeps (with_new ks x) xs y (new_keeps ks x y has)

fold_has : (ks xs : List (List ℕ)) → AllByRecursion (Has (fold with_new ks xs)) xs
fold_has ks [] = tt
fold_has ks (x ∷ xs) = (fold_keeps (with_new ks x) xs x (new_has ks x), fold_has (with_new ks x) xs)

pub made_has : (xs : List (List ℕ)) → AllByRecursion (Has (each_once xs)) xs
made_has xs = fold_has [] xs

module _ (P : List ℕ → Type 0) where
  fold_all : (ks xs : List (List ℕ)) → All P ks → All P xs → All P (fold with_new ks xs)
  fold_all ks [] all more = all
  fold_all ks (x ∷ xs) all more = fold_all (with_new ks x) xs (go (list_any (bytes_eq x) ks)) (All-tail P x xs more)
    where
      go : (b : Bool) → All P (cond b ks (ks ++ x ∷ []))
      go true = all
      go false = All-push P ks x all (All-head P x xs more)

  pub made_all : (xs : List (List ℕ)) → All P xs → All P (each_once xs)
  made_all xs all = fold_all [] xs (All-nil P) all

fold_length : (ks xs : List (List ℕ)) → length (fold with_new ks xs) ≤ length ks + length xs
fold_length ks [] = omega arith
fold_length ks (x ∷ xs) = go (fold_length (with_new ks x) xs) (one (list_any (bytes_eq x) ks))
  where
    one : (b : Bool) → length (cond b ks (ks ++ x ∷ [])) ≤ length ks + 1
    one true = omega arith
    one false = omega (arith, length-append ks (x ∷ []))

    go : length (fold with_new (with_new ks x) xs) ≤ length (with_new ks x) + length xs
        → length (with_new ks x) ≤ length ks + 1
        → length (fold with_new (with_new ks x) xs) ≤ length ks + length (x ∷ xs)
    go others first = omega (arith, others, first)

pub made_length : (xs : List (List ℕ)) → length (each_once xs) ≤ length xs
made_length xs = omega (arith, fold_length [] xs)

-- x stands at its place
record Placed (ks : List (List ℕ)) (x : List ℕ) : Type 0 where
  pub inside : place_in ks x < length ks
  pub is_there : get_or ks (place_in ks x) x ≡ x

placed : (ks : List (List ℕ)) (x : List ℕ) → Has ks x → Placed ks x
placed [] x has = absurd (cc)
placed (k ∷ ks) x has = go (bytes_eq x k) refl (placed ks x)
  where
    go : (b : Bool) → bytes_eq x k ≡ b → (Has ks x → Placed ks x) → Placed (k ∷ ks) x
    go true is others =
        let here : place_in (k ∷ ks) x ≡ 0 = ap (λ c. cond (not c) (1 + place_in ks x) 0) is in record {
          inside = omega (arith, here);
          is_there = ap (λ n. get_or (k ∷ ks) n x) here ∙ sym ((bytes_eq-Decides x k).0 is);
        }
    go false is others =
        let there = others (sym (ap (λ c. c || list_any (bytes_eq x) ks) is) ∙ has) in
        let later : place_in (k ∷ ks) x ≡ suc (place_in ks x) =
        ap (λ c. cond (not c) (1 + place_in ks x) 0) is ∙ omega arith in record {
          inside = omega (arith, later, there.inside);
          is_there = ap (λ n. get_or (k ∷ ks) n x) later ∙ there.is_there;
        }

pub has_inside : (ks : List (List ℕ)) (x : List ℕ) → Has ks x → place_in ks x < length ks
has_inside ks x has = (placed ks x has).inside

pub has_place : (ks : List (List ℕ)) (x : List ℕ) → Has ks x → slice_get ks (place_in ks x) ≡ Some x
has_place ks x has =
    let is = placed ks x has in slice_get_read ks (length ks) (place_in ks x) x refl is.inside (sym is.is_there)
