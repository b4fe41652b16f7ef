-- Where the items of a text are: each ends before the next one begins.
--
--   ends_line       == what stands before an item ends with an LF, unless the item begins a text
--   apart           == the items of a text are apart
--   items_apart     == so are those of a whole text
use Rattle.std.proofs.Common.{◌≡◌, ℕ, ◌+◌, ◌-◌, ◌≤◌, ◌⊎◌, inl, inr, Bool, true, false, ◌==◌, List, [], ◌∷◌, ◌++◌, length, drop, refl, sym, ◌∙◌, ap, subst, arith, length-take}
use Rattle.std.specs.Bool.{⊤}
use Rattle.std.proofs.lemmas.List.{reverse-append}
use Rattle.std.proofs.lemmas.Bool.{eqb-true}
use Rattle.std.specs.List.{prefix_len, suffix_len}
use Rattle.ml_text.specs.Bytes.{is_blank}
use Rattle.ml_spec.specs.Items.{ItemText, begins_item, items_from, trimmed, up_to_item}
use Rattle.ml_spec.specs.Laws.{AreApart, ItemsApart}
use Rattle.ml_spec.proofs.Splits.{filled_begins, from_item, item_here, item_more, stops_at, up_more, up_none}

abbrev BeginBehind : ℕ → List ItemText → Type 0
BeginBehind k [] = ⊤
BeginBehind k (i ∷ is) = k ≤ i.at

-- ---- the last byte before an item

abbrev EndsLine : List ℕ → Type 0
EndsLine us = (vs : List ℕ) × (us ≡ vs ++ 10 ∷ [])

is_end : (b : ℕ) → (b == 10) ≡ true → b ≡ 10
is_end b e = eqb-true b 10 e

ends_line : (s : Bool) (xs : List ℕ) (c : ℕ) (cs : List ℕ)
    → drop (length (up_to_item s xs)) xs ≡ c ∷ cs
    → ((up_to_item s xs ≡ []) × (s ≡ true)) ⊎ EndsLine (up_to_item s xs)
ends_line s [] c cs is = cc
ends_line s (b ∷ bs) c cs is = by (begins_item s b) refl (ends_line (b == 10) bs c cs)
  where
    begun : (t : Bool) → begins_item t b ≡ true → t ≡ true
    begun true e = refl
    begun false e = e

    more : begins_item s b ≡ false
        → ((up_to_item (b == 10) bs ≡ []) × ((b == 10) ≡ true)) ⊎ EndsLine (up_to_item (b == 10) bs)
        → EndsLine (up_to_item s (b ∷ bs))
    more e (inl (none, ends)) =
        ([], up_more s b bs e ∙ ap (λ us. b ∷ us) none ∙ ap (λ x. x ∷ []) (is_end b ends))
    more e (inr (vs, are)) = (b ∷ vs, up_more s b bs e ∙ ap (λ us. b ∷ us) are)

    by : (t : Bool)
        → begins_item s b ≡ t
        → (drop (length (up_to_item (b == 10) bs)) bs ≡ c ∷ cs
        → ((up_to_item (b == 10) bs ≡ []) × ((b == 10) ≡ true)) ⊎ EndsLine (up_to_item (b == 10) bs))
        → ((up_to_item s (b ∷ bs) ≡ []) × (s ≡ true)) ⊎ EndsLine (up_to_item s (b ∷ bs))
    by true e rest = inl (up_none s b bs e, begun s e)
    by false e rest = inr (more e (rest (ap (λ us. drop (length us) (b ∷ bs)) (sym (up_more s b bs e)) ∙ is)))

-- ---- an item is shorter than what stands before the next one

ended : (zs : List ℕ) → suffix_len is_blank (zs ++ 10 ∷ []) ≡ 1 + suffix_len is_blank zs
ended zs = ap (prefix_len is_blank) (reverse-append zs (10 ∷ []))

trimmed_le : (us : List ℕ) → length (trimmed us) ≤ length us
trimmed_le us = omega (arith, length-take (length us - suffix_len is_blank us) us)

trimmed_lt : (b : ℕ) (us : List ℕ) → EndsLine us → length (trimmed (b ∷ us)) ≤ length us
trimmed_lt b us (vs, are) =
    let blank : suffix_len is_blank (b ∷ us) ≡ 1 + suffix_len is_blank (b ∷ vs) =
    ap (λ l. suffix_len is_blank (b ∷ l)) are ∙ ended (b ∷ vs) in
    omega (arith, length-take (length (b ∷ us) - suffix_len is_blank (b ∷ us)) (b ∷ us))

-- ---- items are apart

raised : (k m : ℕ) (is : List ItemText) → AreApart k is → BeginBehind m is → AreApart m is
raised k m [] are begin = tt
raised k m (i ∷ is) are begin = (begin, are.1)

first_behind : (i : ℕ) (xs : List ℕ)
    → ((c : ℕ) (cs : List ℕ) → xs ≡ c ∷ cs → is_blank c ≡ false)
    → (m : ℕ)
    → ((c : ℕ) (cs : List ℕ) → xs ≡ c ∷ cs → m ≤ i)
    → BeginBehind m (items_from true i xs)
first_behind i [] filled m le = tt
first_behind i (c ∷ cs) filled m le =
    subst (BeginBehind m) (sym (item_here true i c cs (filled_begins c (filled c cs refl)))) (le c cs refl)

lower : (k m : ℕ) (is : List ItemText) → m ≤ k → AreApart k is → AreApart m is
lower k m [] le are = tt
lower k m (x ∷ xs) le are = (omega (arith, le, are.0), are.1)

-- the item at the front, b its first byte
behind_one : (i b : ℕ) (bs : List ℕ)
    → AreApart (i + 1) (items_from false (i + 1) bs)
    → AreApart (i + length (trimmed (b ∷ up_to_item false bs)) + 1) (items_from false (i + 1) bs)
behind_one i b bs others =
    let us = up_to_item false bs in
    let k = i + length (trimmed (b ∷ us)) + 1 in
    raised (i + 1) k (items_from false (i + 1) bs) others
    (subst (BeginBehind k) (sym (from_item false (i + 1) bs))
    (first_behind (i + 1 + length us) (drop (length us) bs) (λ c cs is. stops_at false bs c cs is) k
    (λ c cs is. short c cs is (ends_line false bs c cs is))))
  where
    short : (c : ℕ) (cs : List ℕ)
        → drop (length (up_to_item false bs)) bs ≡ c ∷ cs
        → ((up_to_item false bs ≡ []) × (false ≡ true)) ⊎ EndsLine (up_to_item false bs)
        → i + length (trimmed (b ∷ up_to_item false bs)) + 1 ≤ i + 1 + length (up_to_item false bs)
    short c cs is (inl (none, e)) = absurd cc
    short c cs is (inr ends) = omega (arith, trimmed_lt b (up_to_item false bs) ends)

apart : (s : Bool) (i : ℕ) (xs : List ℕ) → AreApart i (items_from s i xs)
apart s i [] = tt
apart s i (b ∷ bs) = by (begins_item s b) refl (apart false (i + 1) bs) (apart (b == 10) (i + 1) bs)
  where
    by : (t : Bool)
        → begins_item s b ≡ t
        → AreApart (i + 1) (items_from false (i + 1) bs)
        → AreApart (i + 1) (items_from (b == 10) (i + 1) bs)
        → AreApart i (items_from s i (b ∷ bs))
    by true e others over =
        let i_le : i ≤ i = omega arith in
        subst (AreApart i) (sym (item_here s i b bs e)) (i_le, behind_one i b bs others)
    by false e others over =
        let le : i ≤ i + 1 = omega arith in
        subst (AreApart i) (sym (item_more s i b bs e)) (lower (i + 1) i (items_from (b == 10) (i + 1) bs) le over)

pub items_apart : ItemsApart
items_apart text = apart true 0 text
