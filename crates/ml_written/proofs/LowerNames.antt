-- The names that begin with a lower-case letter, of a formula and of the signs from which it is read.
--
--   Starts s            == a name of the sign s begins as a sign of its kind says
--   lower_words ts      == the words of signs that begin in lower case
--   lower_of xs         == the names xs that begin so, without their kinds
--   Tells xs ts rest    == such words of the signs ts are those of the names xs, and then those of the signs rest
--   starts_lower, starts_upper == a word that begins in lower or upper case begins so
--   spelled_starts      == a name that is spelled as it must be begins so
--   lower_append        == of two lists of names
--   lower_one, upper_one == of one more name
--   both_told           == of two lists of names, read one behind the other
--   named_told          == of a name that is read from one sign
use Rattle.std.proofs.Common.{◌≡◌, ℕ, true, false, List, [], ◌∷◌, ◌++◌, map, Some, refl, sym, ap, subst, ◌∙◌}
use Rattle.std.specs.List.{AllByRecursion, list_all}
use Rattle.std.proofs.lemmas.Bool.{and_parts, cond-true, cond-false}
use Rattle.std.proofs.lemmas.List.{append_assoc, map-append}
use Rattle.std.proofs.lemmas.List.Elements.{filter-append}
use Rattle.ml_text.specs.Bytes.{is_lower, is_upper, is_word_byte}
use Rattle.ml_text.specs.Names.{Kind, KindedName}
use Rattle.ml_text.specs.Signs.{Named, OwnSigns, name_of}
use Rattle.ml_text.specs.Words.{is_word_from}
use Rattle.ml_text.specs.declared.named_signs.Sign.TheVariants.{Lower, Upper}
use Rattle.ml_text.proofs.ByteKinds.{upper-no_lower}
use Rattle.ml_text.proofs.NamedSigns.{IsSpelledSign}
use Rattle.ml_written.specs.Places.{begins_lower, lower_names}

pub starts_lower : (w : List ℕ) → is_word_from is_lower w ≡ true → begins_lower w ≡ true
starts_lower [] is = is
starts_lower (b ∷ bs) is = (and_parts (is_lower b) (list_all is_word_byte bs) is).0

pub starts_upper : (w : List ℕ) → is_word_from is_upper w ≡ true → begins_lower w ≡ false
starts_upper [] is = refl
starts_upper (b ∷ bs) is = upper-no_lower b (and_parts (is_upper b) (list_all is_word_byte bs) is).0

abbrev pub lower_of : List KindedName → List (List ℕ)
lower_of xs = map (λ x. x.1) (lower_names xs)

pub lower_append : (xs ys : List KindedName) → lower_of (xs ++ ys) ≡ lower_of xs ++ lower_of ys
lower_append xs ys =
    ap (map (λ (x : KindedName). x.1)) (filter-append (λ (x : KindedName). begins_lower x.1) xs ys)
    ∙ map-append (λ (x : KindedName). x.1) (lower_names xs) (lower_names ys)

pub lower_one : (k : Kind) (w : List ℕ) (xs : List KindedName)
    → begins_lower w ≡ true
    → lower_of ((k, w) ∷ xs) ≡ w ∷ lower_of xs
lower_one k w xs is =
    ap (map (λ (x : KindedName). x.1)) (cond-true (begins_lower w) ((k, w) ∷ lower_names xs) (lower_names xs) is)

pub upper_one : (k : Kind) (w : List ℕ) (xs : List KindedName)
    → begins_lower w ≡ false
    → lower_of ((k, w) ∷ xs) ≡ lower_of xs
upper_one k w xs is =
    ap (map (λ (x : KindedName). x.1)) (cond-false (begins_lower w) ((k, w) ∷ lower_names xs) (lower_names xs) is)

module _ {X : Type 0} where
  abbrev pub Starts : Named X → Type 0
  Starts (Lower w) = begins_lower w ≡ true
  Starts (Upper w) = begins_lower w ≡ false
  Starts _ = Unit {0}

  pub spelled_starts : (own : OwnSigns X) (s : Named X) → IsSpelledSign own s → Starts s
  spelled_starts own (Lower w) is = starts_lower w (and_parts (is_word_from is_lower w) _ is).0
  spelled_starts own (Upper w) is = starts_upper w is
  spelled_starts own _ is = tt

  abbrev pub word_before : Named X → List (List ℕ) → List (List ℕ)
  word_before (Lower w) ws = w ∷ ws
  word_before _ ws = ws

  abbrev pub lower_words : List (Named X) → List (List ℕ)
  lower_words [] = []
  lower_words (t ∷ ts) = word_before t (lower_words ts)

  abbrev pub All : List (Named X) → Type 0
  All ts = AllByRecursion Starts ts

  abbrev pub Tells : List KindedName → List (Named X) → List (Named X) → Type 0
  Tells xs ts rest = (lower_words ts ≡ lower_of xs ++ lower_words rest) × All rest

  pub both_told : (xs ys : List KindedName) (ts us rest : List (Named X))
      → lower_words ts ≡ lower_of xs ++ lower_words us
      → Tells ys us rest
      → Tells (xs ++ ys) ts rest
  both_told xs ys ts us rest one other =
      let whole = one ∙ ap (λ ws. lower_of xs ++ ws) other.0 in (
        whole ∙ sym (append_assoc (lower_of xs) (lower_of ys) (lower_words rest))
            ∙ ap (λ ws. ws ++ lower_words rest) (sym (lower_append xs ys)),
        other.1,
      )

  -- a name of which one sign says that it stands there
  pub named_told : (k : Kind) (s : Named X) (w : List ℕ) (ws : List (List ℕ))
      → name_of s ≡ Some w
      → Starts s
      → word_before s ws ≡ lower_of ((k, w) ∷ []) ++ ws
  named_told k (Lower v) w ws is starts =
      let same : v ≡ w = cc in
      subst (λ u. v ∷ ws ≡ lower_of ((k, u) ∷ []) ++ ws) same (ap (λ l. l ++ ws) (sym (lower_one k v [] starts)))
  named_told k (Upper v) w ws is starts =
      let same : v ≡ w = cc in
      subst (λ u. ws ≡ lower_of ((k, u) ∷ []) ++ ws) same (ap (λ l. l ++ ws) (sym (upper_one k v [] starts)))
  named_told k _ w ws is starts = absurd (cc)
