-- Lists that stand in a list from a place on.
--
--   Holds xs n ys  == from the place n on, xs has the elements of ys
--   held_first, held_later    == its first element, and the others
--   held_left, held_right     == the parts of what stands there
use Rattle.std.proofs.Common.{◌≡◌, ℕ, ◌+◌, List, [], ◌∷◌, ◌++◌, length, get_or, refl, sym, ◌∙◌, ap, subst, append_assoc, length-append}

pub record Holds {A : Type 0} (xs : List A) (n : ℕ) (ys : List A) : Type 0 where
  pub before : List A
  pub behind : List A
  pub split : xs ≡ before ++ (ys ++ behind)
  pub starts : length before ≡ n

at_seam : {A : Type 0} (before : List A) (y : A) (rest : List A) (d : A) → get_or (before ++ y ∷ rest) (length before) d ≡ y
at_seam [] y rest d = refl
at_seam (b ∷ before) y rest d = at_seam before y rest d

pub held_first : {A : Type 0} (xs : List A) (n : ℕ) (y : A) (ys : List A) (d : A) → Holds xs n (y ∷ ys) → get_or xs n d ≡ y
held_first xs n y ys d h =
    ap (λ l. get_or l n d) h.split ∙ ap (λ k. get_or (h.before ++ y ∷ (ys ++ h.behind)) k d) (sym h.starts) ∙ at_seam h.before y (ys ++ h.behind) d

pub held_later : {A : Type 0} (xs : List A) (n : ℕ) (y : A) (ys : List A) → Holds xs n (y ∷ ys) → Holds xs (n + 1) ys
held_later xs n y ys h = record {
  before = h.before ++ y ∷ [];
  behind = h.behind;
  split = h.split ∙ sym (append_assoc h.before (y ∷ []) (ys ++ h.behind));
  starts = length-append h.before (y ∷ []) ∙ ap (λ k. k + 1) h.starts;
}

pub held_left : {A : Type 0} (xs : List A) (n : ℕ) (ys zs : List A) → Holds xs n (ys ++ zs) → Holds xs n ys
held_left xs n ys zs h = record {
  before = h.before;
  behind = zs ++ h.behind;
  split = h.split ∙ ap (λ l. h.before ++ l) (append_assoc ys zs h.behind);
  starts = h.starts;
}

pub held_right : {A : Type 0} (xs : List A) (n : ℕ) (ys zs : List A) → Holds xs n (ys ++ zs) → Holds xs (n + length ys) zs
held_right xs n ys zs h = record {
  before = h.before ++ ys;
  behind = h.behind;
  split =
      h.split ∙ ap (λ l. h.before ++ l) (append_assoc ys zs h.behind) ∙ sym (append_assoc h.before ys (zs ++ h.behind));
  starts = length-append h.before ys ∙ ap (λ k. k + length ys) h.starts;
}

pub held_at : {A : Type 0} (xs : List A) (n m : ℕ) (ys : List A) → n ≡ m → Holds xs n ys → Holds xs m ys
held_at xs n m ys same h = subst (λ k. Holds xs k ys) same h
