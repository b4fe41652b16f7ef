-- One list, cut in two ways.
--
--   Splits x xs us y ys vs  == of the cuts xs, x, us and ys, y, vs of a list one is before the other, or they are the same
--   splits                  == so it is
--   last_split              == a cut of a list with one entry at its end is at that end, or one of the list before it
use Rattle.std.proofs.Common.{◌≡◌, ◌⊎◌, List, [], ◌∷◌, ◌++◌, length, refl, ap, arith, inl, inr, length-append}

pub data Splits {X : Type 0} (x : X) (xs us : List X) (y : X) (ys vs : List X) : Type 0 where
  before : (ws : List X) → ys ≡ xs ++ x ∷ ws → Splits x xs us y ys vs
  same : xs ≡ ys → x ≡ y → us ≡ vs → Splits x xs us y ys vs
  behind : (ws : List X) → xs ≡ ys ++ y ∷ ws → Splits x xs us y ys vs

longer : {X : Type 0} (a b : X) (x y : X) (xs us ys vs : List X) → a ≡ b → Splits x xs us y ys vs
    → Splits x (a ∷ xs) us y (b ∷ ys) vs
longer a b x y xs us ys vs e (before ws is) = before ws (cc)
longer a b x y xs us ys vs e (same is one rest) = same (cc) one rest
longer a b x y xs us ys vs e (behind ws is) = behind ws (cc)

pub splits : {X : Type 0} (x y : X) (xs us ys vs : List X) → xs ++ x ∷ us ≡ ys ++ y ∷ vs → Splits x xs us y ys vs
splits x y [] us [] vs is = same refl (cc) (cc)
splits x y [] us (b ∷ ys) vs is = before ys (cc)
splits x y (a ∷ xs) us [] vs is = behind xs (cc)
splits x y (a ∷ xs) us (b ∷ ys) vs is = longer a b x y xs us ys vs (cc) (splits x y xs us ys vs (cc))

pub last_split : {X : Type 0} (x y : X) (xs ys vs : List X) → xs ++ x ∷ [] ≡ ys ++ y ∷ vs
    → ((xs ≡ ys) × (x ≡ y)) ⊎ ((ws : List X) × (xs ≡ ys ++ y ∷ ws))
last_split {X} x y xs ys vs is = by (splits x y xs [] ys vs is)
  where
    by : Splits x xs [] y ys vs → ((xs ≡ ys) × (x ≡ y)) ⊎ ((ws : List X) × (xs ≡ ys ++ y ∷ ws))
    by (before ws later) =
        absurd (omega (arith, ap length is, ap length later, length-append xs (x ∷ []), length-append ys (y ∷ vs), length-append xs (x ∷ ws)))
    by (same front one rest) = inl (front, one)
    by (behind ws earlier) = inr (ws, earlier)
