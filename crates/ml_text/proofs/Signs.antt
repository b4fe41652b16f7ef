-- The longest spelling of a table with which a text begins, for any table.
--
--   Found es text best == best is the token and the length of a spelling of the table with which the text begins
use Rattle.std.proofs.Common.{◌≡◌, ℕ, ◌<◌, ◌≤◌, true, false, ◌&&◌, List, [], ◌∷◌, length, take, Option, Some, None, nat_eq}
use Rattle.std.proofs.Common.{Contains, sym, refl, ap, ◌∙◌, subst, ⊎_elim, arith, ltb-true, ltb-false, length-take}
use Rattle.std.specs.List.{starts_with}
use Rattle.std.proofs.lemmas.Bool.{cases_Bool, and_from, and_left, and_right, cond-true, cond-false}
use Rattle.std.proofs.lemmas.Slice.Eq.{bytes_eq-Decides}
use Rattle.ml_lists.proofs.Members.{contains_head, contains_cases, contains_later}
use Rattle.ml_text.specs.Tokens.{is_longer, longest_sign}
use Rattle.ml_text.specs.declared.token.Token.{Token}

-- a spelling begins the text exactly if it is the front of the text that is as long
pub starts_with-front : (text s : List ℕ) → starts_with nat_eq text s ≡ true → s ≡ take (length s) text
starts_with-front text s e = (bytes_eq-Decides s (take (length s) text)).0 e

pub front-starts_with : (text s : List ℕ) → s ≡ take (length s) text → starts_with nat_eq text s ≡ true
front-starts_with text s e = (bytes_eq-Decides s (take (length s) text)).1 e

-- what begins the text is no longer than it
pub starts_with-fits : (text s : List ℕ) → starts_with nat_eq text s ≡ true → length s ≤ length text
starts_with-fits text s e = omega (arith, ap length (starts_with-front text s e), length-take (length s) text)

-- the choice at one spelling, by the outcome of the test
pub longest_sign-taken : (e : List ℕ × Token) (es : List (List ℕ × Token)) (text : List ℕ)
    → starts_with nat_eq text e.0 ≡ true
    → is_longer e (longest_sign es text) ≡ true
    → longest_sign (e ∷ es) text ≡ Some (e.1, length e.0)
unfolding longest_sign
longest_sign-taken e es text starts longer =
    cond-true (starts_with nat_eq text e.0 && is_longer e (longest_sign es text)) (Some (e.1, length e.0))
    (longest_sign es text) (and_from _ _ starts longer)

pub longest_sign-other : (e : List ℕ × Token) (es : List (List ℕ × Token)) (text : List ℕ)
    → starts_with nat_eq text e.0 ≡ false
    → longest_sign (e ∷ es) text ≡ longest_sign es text
unfolding longest_sign
longest_sign-other e es text starts =
    cond-false (starts_with nat_eq text e.0 && is_longer e (longest_sign es text)) (Some (e.1, length e.0))
    (longest_sign es text) (and_left _ _ starts)

pub longest_sign-shorter : (e : List ℕ × Token) (es : List (List ℕ × Token)) (text : List ℕ)
    → is_longer e (longest_sign es text) ≡ false
    → longest_sign (e ∷ es) text ≡ longest_sign es text
unfolding longest_sign
longest_sign-shorter e es text longer =
    cond-false (starts_with nat_eq text e.0 && is_longer e (longest_sign es text)) (Some (e.1, length e.0))
    (longest_sign es text) (and_right _ _ longer)

pub record Found (es : List (List ℕ × Token)) (text : List ℕ) (best : Token × ℕ) : Type 0 where
  pub spelling : List ℕ
  pub listed : Contains es (spelling, best.0)
  pub starts : starts_with nat_eq text spelling ≡ true
  pub long : length spelling ≡ best.1

found_later : (e : List ℕ × Token) (es : List (List ℕ × Token)) (text : List ℕ) (best : Token × ℕ)
    → Found es text best
    → Found (e ∷ es) text best
found_later e es text best f = record {
  spelling = f.spelling;
  listed = contains_later e es (f.spelling, best.0) f.listed;
  starts = f.starts;
  long = f.long;
}

found_first : (e : List ℕ × Token) (es : List (List ℕ × Token)) (text : List ℕ)
    → starts_with nat_eq text e.0 ≡ true
    → Found (e ∷ es) text (e.1, length e.0)
found_first e es text starts = record {
  spelling = e.0;
  listed = contains_head e es;
  starts = starts;
  long = refl;
}

-- what is answered is a spelling of the table with which the text begins
pub longest_sign-found : (es : List (List ℕ × Token)) (text : List ℕ) (best : Token × ℕ)
    → longest_sign es text ≡ Some best
    → Found es text best
unfolding longest_sign
longest_sign-found [] text best is = absurd (cc)
longest_sign-found (e ∷ es) text best is =
    let later : longest_sign (e ∷ es) text ≡ longest_sign es text → Found (e ∷ es) text best =
    λ same. found_later e es text best (longest_sign-found es text best (sym same ∙ is)) in
    ⊎_elim
    (λ (starts : starts_with nat_eq text e.0 ≡ true).
    ⊎_elim
    (λ (longer : is_longer e (longest_sign es text) ≡ true). let here : (e.1, length e.0)
    ≡ best = cc (longest_sign-taken e es text starts longer, is) in
    subst (Found (e ∷ es) text) here (found_first e es text starts))
    (λ (shorter : is_longer e (longest_sign es text) ≡ false). later (longest_sign-shorter e es text shorter))
    (cases_Bool (is_longer e (longest_sign es text))))
    (λ (other : starts_with nat_eq text e.0 ≡ false). later (longest_sign-other e es text other))
    (cases_Bool (starts_with nat_eq text e.0))

-- an answer that is at least as long as n
pub record AtLeast (n : ℕ) (answer : Option (Token × ℕ)) : Type 0 where
  pub best : Token × ℕ
  pub is : answer ≡ Some best
  pub long : n ≤ best.1

-- a spelling that is not longer than the best so far
not_longer : (e : List ℕ × Token) (answer : Option (Token × ℕ))
    → is_longer e answer ≡ false
    → AtLeast (length e.0) answer
not_longer e None shorter = absurd (cc)
not_longer e (Some best) shorter = record { best = best; is = refl; long = ltb-false best.1 (length e.0) shorter }

-- the same answer
at_least_along : (n : ℕ) (old new : Option (Token × ℕ)) → new ≡ old → AtLeast n old → AtLeast n new
at_least_along n old new same a = record { best = a.best; is = same ∙ a.is; long = a.long }

-- a spelling that is longer than an answer of at least n is longer than n
is_longer-above : (e : List ℕ × Token) (n : ℕ) (answer : Option (Token × ℕ))
    → AtLeast n answer
    → is_longer e answer ≡ true
    → n ≤ length e.0
is_longer-above e n answer a longer =
    let above : a.best.1 < length e.0 = ltb-true a.best.1 (length e.0) (sym (ap (is_longer e) a.is) ∙ longer) in
    omega (arith, a.long)

-- the next spelling of the table leaves no shorter answer
longest_sign-keeps : (d : List ℕ × Token) (es : List (List ℕ × Token)) (text : List ℕ) (n : ℕ)
    → AtLeast n (longest_sign es text)
    → AtLeast n (longest_sign (d ∷ es) text)
longest_sign-keeps d es text n a =
    ⊎_elim
    (λ (starts : starts_with nat_eq text d.0 ≡ true).
    ⊎_elim
    (λ (longer : is_longer d (longest_sign es text) ≡ true).
    record {
      best = (d.1, length d.0);
      is = longest_sign-taken d es text starts longer;
      long = is_longer-above d n (longest_sign es text) a longer;
    })
    (λ (shorter : is_longer d (longest_sign es text) ≡ false). at_least_along n _ _
    (longest_sign-shorter d es text shorter) a)
    (cases_Bool (is_longer d (longest_sign es text))))
    (λ (other : starts_with nat_eq text d.0 ≡ false). at_least_along n _ _ (longest_sign-other d es text other) a)
    (cases_Bool (starts_with nat_eq text d.0))

-- a spelling with which the text begins leaves no shorter answer
longest_sign-first : (e : List ℕ × Token) (es : List (List ℕ × Token)) (text : List ℕ)
    → starts_with nat_eq text e.0 ≡ true
    → AtLeast (length e.0) (longest_sign (e ∷ es) text)
longest_sign-first e es text starts =
    ⊎_elim
    (λ (longer : is_longer e (longest_sign es text) ≡ true).
    record { best = (e.1, length e.0); is = longest_sign-taken e es text starts longer; long = omega arith })
    (λ (shorter : is_longer e (longest_sign es text) ≡ false). at_least_along (length e.0) _ _
    (longest_sign-shorter e es text shorter) (not_longer e (longest_sign es text) shorter))
    (cases_Bool (is_longer e (longest_sign es text)))

-- every spelling of the table with which the text begins is at most as long as what is answered
pub longest_sign-longest : (es : List (List ℕ × Token)) (text : List ℕ) (e : List ℕ × Token)
    → Contains es e
    → starts_with nat_eq text e.0 ≡ true
    → AtLeast (length e.0) (longest_sign es text)
longest_sign-longest [] text e listed starts = absurd (omega (arith, listed.1))
longest_sign-longest (d ∷ es) text e listed starts =
    ⊎_elim
    (λ (same : d ≡ e). subst (λ x. AtLeast (length x.0) (longest_sign (d ∷ es) text)) same
    (longest_sign-first d es text (subst (λ x. starts_with nat_eq text x.0 ≡ true) (sym same) starts)))
    (λ (later : Contains es e). longest_sign-keeps d es text (length e.0) (longest_sign-longest es text e later starts))
    (contains_cases d es e listed)
