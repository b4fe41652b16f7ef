-- The items of a text, taken one after the other.
--
--   distance_le     == what stands before the next item is a part of the text
--   front_is        == it is the text's front
--   from_item       == the items of a text are those from its first item on
--   stops_at        == where an item begins stands no blank
--   NextItem        == the next item of a text, and the others
--   next_item       == it is the next one
use Rattle.std.proofs.Common.{◌≡◌, ℕ, suc, ◌+◌, ◌-◌, ◌<◌, ◌≤◌, Bool, true, false, not, ◌==◌, List, [], ◌∷◌, length, take, drop, get_or, refl, sym, ◌∙◌, ap, subst, arith, length-drop, length-take, drop-drop}
use Rattle.std.proofs.lemmas.Bool.{cond-true, cond-false}
use Rattle.std.proofs.lemmas.List.{drop_more, drop_all}
use Rattle.std.specs.List.{suffix_len}
use Rattle.ml_text.specs.Bytes.{is_blank}
use Rattle.ml_spec.specs.Items.{begins_item, items_from, trimmed, up_to_item}
use Rattle.ml_spec.specs.Scan.{items_at}

-- ---- one byte

pub up_more : (s : Bool) (b : ℕ) (bs : List ℕ) → begins_item s b ≡ false → up_to_item s (b ∷ bs) ≡ b ∷ up_to_item (b == 10) bs
up_more s b bs e = cond-false _ _ _ e

pub up_none : (s : Bool) (b : ℕ) (bs : List ℕ) → begins_item s b ≡ true → up_to_item s (b ∷ bs) ≡ []
up_none s b bs e = cond-true _ _ _ e

pub item_more : (s : Bool) (i b : ℕ) (bs : List ℕ)
    → begins_item s b ≡ false
    → items_from s i (b ∷ bs) ≡ items_from (b == 10) (i + 1) bs
item_more s i b bs e = cond-false _ _ _ e

pub item_here : (s : Bool) (i b : ℕ) (bs : List ℕ)
    → begins_item s b ≡ true
    → items_from s i (b ∷ bs) ≡ record { at = i; bytes = trimmed (b ∷ up_to_item false bs) } ∷ items_from false (i + 1) bs
item_here s i b bs e = cond-true _ _ _ e

pub begins_filled : (s : Bool) (b : ℕ) → begins_item s b ≡ true → is_blank b ≡ false
begins_filled true b e = by (is_blank b) e
  where
    by : (t : Bool) → not t ≡ true → t ≡ false
    by true e = cc
    by false e = refl
begins_filled false b e = cc

pub filled_begins : (b : ℕ) → is_blank b ≡ false → begins_item true b ≡ true
filled_begins b e = ap not e

-- ---- what stands before the next item

distance_le : (s : Bool) (xs : List ℕ) → length (up_to_item s xs) ≤ length xs
distance_le s [] = omega arith
distance_le s (b ∷ bs) = by (begins_item s b) refl (distance_le (b == 10) bs)
  where
    by : (t : Bool)
        → begins_item s b ≡ t
        → length (up_to_item (b == 10) bs) ≤ length bs
        → length (up_to_item s (b ∷ bs)) ≤ length (b ∷ bs)
    by true e rest = rw (up_none s b bs e) (omega arith)
    by false e rest = rw (up_more s b bs e) (omega (arith, rest))

pub front_is : (s : Bool) (xs : List ℕ) → up_to_item s xs ≡ take (length (up_to_item s xs)) xs
front_is s [] = refl
front_is s (b ∷ bs) = by (begins_item s b) refl (front_is (b == 10) bs)
  where
    by : (t : Bool)
        → begins_item s b ≡ t
        → up_to_item (b == 10) bs ≡ take (length (up_to_item (b == 10) bs)) bs
        → up_to_item s (b ∷ bs) ≡ take (length (up_to_item s (b ∷ bs))) (b ∷ bs)
    by true e rest = rw (up_none s b bs e) refl
    by false e rest = rw (up_more s b bs e) (ap (λ us. b ∷ us) rest)

pub stops_at : (s : Bool) (xs : List ℕ) (b : ℕ) (bs : List ℕ)
    → drop (length (up_to_item s xs)) xs ≡ b ∷ bs
    → is_blank b ≡ false
stops_at s [] b bs is = cc
stops_at s (c ∷ cs) b bs is = by (begins_item s c) refl (stops_at (c == 10) cs b bs)
  where
    by : (t : Bool)
        → begins_item s c ≡ t
        → (drop (length (up_to_item (c == 10) cs)) cs ≡ b ∷ bs → is_blank b ≡ false)
        → is_blank b ≡ false
    by true e rest =
        let here : c ∷ cs ≡ b ∷ bs = ap (λ us. drop (length us) (c ∷ cs)) (sym (up_none s c cs e)) ∙ is in
        subst (λ x. is_blank x ≡ false) (ap (λ l. get_or l 0 0) here) (begins_filled s c e)
    by false e rest = rest (ap (λ us. drop (length us) (c ∷ cs)) (sym (up_more s c cs e)) ∙ is)

pub from_item : (s : Bool) (i : ℕ) (xs : List ℕ)
    → items_from s i xs ≡ items_from true (i + length (up_to_item s xs)) (drop (length (up_to_item s xs)) xs)
from_item s i [] = refl
from_item s i (b ∷ bs) = by (begins_item s b) refl (from_item (b == 10) (i + 1) bs)
  where
    by : (t : Bool)
        → begins_item s b ≡ t
        → items_from (b == 10) (i + 1) bs
        ≡ items_from true (i + 1 + length (up_to_item (b == 10) bs)) (drop (length (up_to_item (b == 10) bs)) bs)
        → items_from s i (b ∷ bs)
        ≡ items_from true (i + length (up_to_item s (b ∷ bs))) (drop (length (up_to_item s (b ∷ bs))) (b ∷ bs))
    by true e rest =
        let zero_more : i ≡ i + 0 = omega arith in
        subst (λ us. items_from s i (b ∷ bs) ≡ items_from true (i + length us) (drop (length us) (b ∷ bs)))
        (sym (up_none s b bs e))
        (item_here s i b bs e
        ∙ sym (item_here true i b bs (filled_begins b (begins_filled s b e)))
        ∙ ap (λ j. items_from true j (b ∷ bs)) zero_more)
    by false e rest =
        let us = up_to_item (b == 10) bs in
        let more : i + 1 + length us ≡ i + suc (length us) = omega arith in
        subst (λ vs. items_from s i (b ∷ bs) ≡ items_from true (i + length vs) (drop (length vs) (b ∷ bs)))
        (sym (up_more s b bs e))
        (item_more s i b bs e ∙ rest ∙ ap (λ j. items_from true j (drop (length us) bs)) more)

-- ---- the next item, and where what stands behind it begins

module _ (text : List ℕ) (from n : ℕ) (within : from ≤ length text)
    (is : n ≡ length (up_to_item true (drop from text))) where
  pub item_within : from + n ≤ length text
  item_within = omega (arith, is, distance_le true (drop from text), length-drop from text)

  behind : drop n (drop from text) ≡ drop (from + n) text
  behind = drop-drop n from text

  found : items_at text from ≡ items_from true (from + n) (drop (from + n) text)
  found =
      subst (λ m. items_at text from ≡ items_from true (from + m) (drop m (drop from text))) (sym is)
      (from_item true from (drop from text))
      ∙ ap (items_from true (from + n)) behind

  pub no_item : from + n ≡ length text → items_at text from ≡ []
  no_item ends = found ∙ ap (items_from true (from + n)) (drop_all (from + n) text (omega arith))

  module _ (goes_on : from + n ≡ length text → ⊥) (m : ℕ)
      (behind_is : m ≡ length (up_to_item false (drop (from + n + 1) text))) where
    abbrev pub at : ℕ
    at = from + n

    inside : from + n < length text
    inside = omega (arith, item_within, goes_on)

    pub end_within : from + n + 1 + m ≤ length text
    end_within =
        omega (arith, inside, behind_is, distance_le false (drop (from + n + 1) text), length-drop (from + n + 1) text)

    abbrev first : ℕ
    first = get_or text at 0

    head : drop at text ≡ first ∷ drop (at + 1) text
    head = drop_more text at 0 inside

    filled : is_blank first ≡ false
    filled =
        stops_at true (drop from text) first (drop (at + 1) text)
        (ap (λ k. drop k (drop from text)) (sym is) ∙ behind ∙ head)

    others : items_from false (at + 1) (drop (at + 1) text) ≡ items_at text (at + 1 + m)
    others =
        from_item false (at + 1) (drop (at + 1) text)
        ∙ ap (λ k. items_from true (at + 1 + k) (drop k (drop (at + 1) text))) (sym behind_is)
        ∙ ap (items_from true (at + 1 + m)) (drop-drop m (at + 1) text)

    whole : first ∷ up_to_item false (drop (at + 1) text) ≡ take (at + 1 + m - at) (drop at text)
    whole =
        let size : at + 1 + m - at ≡ suc m = omega arith in
        ap (λ us. first ∷ us)
        (front_is false (drop (at + 1) text) ∙ ap (λ k. take k (drop (at + 1) text)) (sym behind_is))
        ∙ sym (ap (take (suc m)) head)
        ∙ sym (ap (λ k. take k (drop at text)) size)

    pub next_item : (bytes : List ℕ)
        → bytes ≡ trimmed (take (at + 1 + m - at) (drop at text))
        → items_at text from ≡ record { at = at; bytes = bytes } ∷ items_at text (at + 1 + m)
    next_item bytes are =
        found
        ∙ ap (items_from true at) head
        ∙ item_here true at first (drop (at + 1) text) (filled_begins first filled)
        ∙ ap (λ rest. record { at = at; bytes = trimmed (first ∷ up_to_item false (drop (at + 1) text)) } ∷ rest) others
        ∙ ap (λ bs. record { at = at; bytes = bs } ∷ items_at text (at + 1 + m)) (ap trimmed whole ∙ sym are)

    pub item_fits : (bytes : List ℕ)
        → bytes ≡ trimmed (take (at + 1 + m - at) (drop at text))
        → at + length bytes ≤ length text
    item_fits bytes are =
        let front = take (at + 1 + m - at) (drop at text) in
        omega (
          arith,
          end_within,
          ap length are,
          length-take (length front - suffix_len is_blank front) front,
          length-take (at + 1 + m - at) (drop at text),
        )
