-- Texts whose items are those of another logic's text with other signs: what keeps the limits there keeps them here.
--
--   with_sign f i    == the item i with another sign
--   counted_with, open_with, long_with, signs_with == what items with other signs count, open and are
--   accepted_with    == a text is accepted with the other signs, where it is accepted and they stand for something
use Rattle.std.proofs.Common.{◌≡◌, ℕ, zero, suc, ◌+◌, List, [], ◌∷◌, map, take, refl, sym, ap, subst, ◌∙◌, arith}
use Rattle.std.proofs.lemmas.List.{length-map, take-map}
use Rattle.std.proofs.lemmas.List.Sums.{sum_by-cons}
use Rattle.ml_text.specs.Refusals.{Item, Cause, Syntax, TooMany, TooNested, NameTooLong, Passes, IsAccepted, IsFault, counted, is_long_at, open_behind, open_behind_one, open_from, signs_of}
use Rattle.ml_text.proofs.AcceptedTexts.{no_syntax}

module _ {S T : Type 0} (f : S → T) where
  abbrev pub with_sign : Item S → Item T
  with_sign i = record { sign = f i.sign; at = i.at; weight = i.weight; bracket = i.bracket; is_long = i.is_long }

  pub counted_with : (is : List (Item S)) → counted (map with_sign is) ≡ counted is
  counted_with [] = refl
  counted_with (i ∷ is) =
      let here = sum_by-cons (λ (j : Item T). j.weight) (with_sign i) (map with_sign is) in
      let there = sum_by-cons (λ (j : Item S). j.weight) i is in
      omega (arith, here, there, counted_with is)

  open_with_from : (n : ℕ) (is : List (Item S)) → open_from n (map with_sign is) ≡ open_from n is
  open_with_from n [] = refl
  open_with_from n (i ∷ is) = open_with_from (open_behind_one i.bracket n) is

  pub open_with : (is : List (Item S)) → open_behind (map with_sign is) ≡ open_behind is
  open_with is = open_with_from 0 is

  pub long_with : (is : List (Item S)) (k : ℕ) → is_long_at (map with_sign is) k ≡ is_long_at is k
  long_with [] k = refl
  long_with (i ∷ is) zero = refl
  long_with (i ∷ is) (suc k) = long_with is k

  pub signs_with : (is : List (Item S)) → signs_of (map with_sign is) ≡ map f (signs_of is)
  signs_with [] = refl
  signs_with (i ∷ is) = ap (λ ts. f i.sign ∷ ts) (signs_with is)

  passes_with : (a : List (Item S) → ℕ) (b : List (Item T) → ℕ) (most : ℕ) (is : List (Item S)) (k : ℕ)
      → ((js : List (Item S)) → b (map with_sign js) ≡ a js)
      → Passes b most (map with_sign is) k
      → Passes a most is k
  passes_with a b most is k same passes =
      let before = ap b (take-map with_sign k is) ∙ same (take k is) in
      let behind = ap b (take-map with_sign (k + 1) is) ∙ same (take (k + 1) is) in
      record {
        within = omega (arith, passes.within, length-map is with_sign);
        before = omega (arith, passes.before, before);
        passes = omega (arith, passes.passes, behind);
      }

  pub accepted_with : {A B : Type 0} (R : List S → A → Type 0) (Q : List T → B → Type 0) (is : List (Item S)) (v : A) (w : B)
      → IsAccepted R is v
      → Q (map f (signs_of is)) w
      → IsAccepted Q (map with_sign is) w
  accepted_with {B = B} R Q is v w accepted reads = record { stands = stands; keeps = keeps }
    where
      stands : Q (signs_of (map with_sign is)) w
      stands = subst (λ ts. Q ts w) (sym (signs_with is)) reads

      keeps : (c : Cause) (k : ℕ) → IsFault Q c (map with_sign is) k → ⊥
      keeps Syntax k fault = no_syntax Q (map with_sign is) w (subst (λ ts. Q ts w) (sym (signs_with is)) reads) k fault
      keeps TooMany k fault = accepted.keeps TooMany k (passes_with counted counted _ is k counted_with fault)
      keeps TooNested k fault = accepted.keeps TooNested k (passes_with open_behind open_behind _ is k open_with fault)
      keeps NameTooLong k fault = accepted.keeps NameTooLong k (sym (long_with is k) ∙ fault)
