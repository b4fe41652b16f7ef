-- Lassos, as lists and as sequences.
--
-- A theorem about loops is said of lassos and proved of sequences, which are easier to cut, join and map: the loop of
-- a lasso is the sequence of the entries of its round from the start on, and a sequence that takes one value twice
-- makes a lasso.
--
--   round-entry, round-end == the entries of the round: those of the list, then that at the start
--   on_loop l k            == entry k of the loop, as a sequence
--   on_loop-entry          == which is the entry of the list that many places behind the start
--   loop_length l          == how many entries the loop has
--   loop_closed            == the loop comes back to where it began
--   lasso_keeps            == what each step of the round keeps, and holds at its first entry, holds at each
--   lowest_on_loop_is      == an entry of the loop with the least f gives the lowest on the loop
--   lowest_on_loop_place   == some entry of the loop does
--   lowest_on_loop_le      == the lowest on the loop is at most f of each entry of the loop
--   lasso_of c i j         == the first j values of the sequence c, with start i
--   lasso_of-round         == its round is the first j + 1 values, if c takes one value at i and j
use Rattle.std.proofs.Common.{ℕ, zero, suc, ◌≡◌, ◌+◌, ◌-◌, ◌<◌, ◌≤◌, ◌⊎◌, inl, inr, arith, [], ◌∷◌, length, get_or, map, drop, subst, subst₂, sym, ap, ◌∙◌, length-drop}
use Rattle.std.proofs.lemmas.List.{get_or_append_left, get_or_push, get_or-map, get_or-drop, length-map}
use Rattle.std.proofs.lemmas.Bool.{cases_eq}
use Rattle.std.specs.List.{range_with_len}
use Rattle.std.proofs.lemmas.List.FromFn.{length-map-range_with_len, get_or-map-range_with_len}
use Rattle.ml_lists.specs.Lasso.{Lasso, entry, round, IsLassoOf, lowest_on_loop}
use Rattle.ml_lists.proofs.Lowest.{lowest_le, lowest_place, LowestPlace}

-- an entry of the round below the length is that entry of the list
pub round-entry : (l : Lasso) (k : ℕ) → k < length l.entries → get_or (round l) k 0 ≡ entry l k
round-entry l k low = get_or_append_left l.entries (entry l l.start ∷ []) 0 k low

-- the last entry of the round is the entry at the start
pub round-end : (l : Lasso) (k : ℕ) → k ≡ length l.entries → get_or (round l) k 0 ≡ entry l l.start
round-end l k last = get_or_push l.entries (entry l l.start) 0 k (sym last)

-- entry k of the loop
abbrev pub on_loop : Lasso → ℕ → ℕ
on_loop l k = get_or (round l) (l.start + k) 0

pub on_loop-entry : (l : Lasso) (k : ℕ) → l.start ≤ k → k < length l.entries → on_loop l (k - l.start) ≡ entry l k
on_loop-entry l k late low =
    let same : l.start + (k - l.start) ≡ k = omega arith in ap (λ n. get_or (round l) n 0) same ∙ round-entry l k low

-- how many entries the loop has
abbrev pub loop_length : Lasso → ℕ
loop_length l = length l.entries - l.start

-- the loop comes back to where it began
pub loop_closed : (l : Lasso) → l.start < length l.entries → on_loop l (loop_length l) ≡ on_loop l 0
loop_closed l starts =
    let first : on_loop l 0 ≡ entry l l.start =
    subst (λ k. get_or (round l) k 0 ≡ entry l l.start) {x = l.start} {y = l.start + 0} (omega arith)
    (round-entry l l.start starts)
    in
    round-end l (l.start + loop_length l) (omega arith) ∙ sym first

-- what each step of the round keeps, and holds at its first entry, holds at each entry of the round
pub lasso_keeps : (l : Lasso) (P : ℕ → Type 0)
    → ((k : ℕ) → k < length l.entries → P (get_or (round l) k 0) → P (get_or (round l) (k + 1) 0))
    → P (get_or (round l) 0 0) → (k : ℕ) → k ≤ length l.entries → P (get_or (round l) k 0)
lasso_keeps l P keeps first zero low = first
lasso_keeps l P keeps first (suc k) low =
    let e : k + 1 ≡ suc k = omega arith in
    subst (λ i. P (get_or (round l) i 0)) e (keeps k (omega arith) (lasso_keeps l P keeps first k (omega arith)))

-- the list of the values of f on the loop has f of entry start + j at j
loop_value : (f : ℕ → ℕ) (l : Lasso) (j d : ℕ) → l.start + j < length l.entries
    → get_or (f (entry l l.start) ∷ map f (drop (suc l.start) l.entries)) j d ≡ f (entry l (l.start + j))
loop_value f l zero d low = let e : l.start ≡ l.start + 0 = omega arith in ap (λ k. f (entry l k)) e
loop_value f l (suc j) d low =
    let e : suc l.start + j ≡ l.start + suc j = omega arith in
    let fits : j < length (drop (suc l.start) l.entries) = omega (arith, length-drop (suc l.start) l.entries) in
    get_or-map f (drop (suc l.start) l.entries) j 0 d fits
    ∙ ap f (get_or-drop (suc l.start) l.entries j 0)
    ∙ ap (λ k. f (entry l k)) e

-- how long the list of the values on the loop is
loop_values_length : (f : ℕ → ℕ) (l : Lasso) → l.start < length l.entries
    → length (f (entry l l.start) ∷ map f (drop (suc l.start) l.entries)) + l.start ≡ length l.entries
loop_values_length f l starts =
    omega (arith, length-map (drop (suc l.start) l.entries) f, length-drop (suc l.start) l.entries)

-- the lowest on the loop is at most f of each entry of the loop
pub lowest_on_loop_le : (f : ℕ → ℕ) (l : Lasso) (k : ℕ) → l.start ≤ k → k < length l.entries
    → lowest_on_loop f l ≤ f (entry l k)
lowest_on_loop_le f l k later low =
    let size = loop_values_length f l (omega arith) in
    let value = loop_value f l (k - l.start) 0 (omega arith) in
    let e : l.start + (k - l.start) ≡ k = omega arith in
    let here : f (entry l (l.start + (k - l.start))) ≡ f (entry l k) = ap (λ i. f (entry l i)) e in
    let bound = lowest_le (f (entry l l.start)) (map f (drop (suc l.start) l.entries)) (k - l.start) 0 (omega arith) in
    omega arith

-- a place on the loop at which the lowest f of the loop stands
pub record LowestOnLoop (f : ℕ → ℕ) (l : Lasso) : Type 0 where
  pub place : ℕ
  pub later : l.start ≤ place
  pub below : place < length l.entries
  pub holds : f (entry l place) ≡ lowest_on_loop f l

-- some entry of the loop has the lowest f
pub lowest_on_loop_place : (f : ℕ → ℕ) (l : Lasso) → l.start < length l.entries → LowestOnLoop f l
lowest_on_loop_place f l starts = from (lowest_place (f (entry l l.start)) (map f (drop (suc l.start) l.entries)))
  where
    from : LowestPlace (f (entry l l.start)) (map f (drop (suc l.start) l.entries)) → LowestOnLoop f l
    from p =
        let size = loop_values_length f l starts in
        record {
          place = l.start + p.place;
          later = omega arith;
          below = omega (arith, p.below);
          holds = sym (loop_value f l p.place 0 (omega (arith, p.below))) ∙ p.holds 0;
        }

-- an entry of the loop with the least f gives the lowest on the loop
pub lowest_on_loop_is : (f : ℕ → ℕ) (l : Lasso) (k : ℕ) → l.start ≤ k → k < length l.entries
    → ((j : ℕ) → l.start ≤ j → j < length l.entries → f (entry l k) ≤ f (entry l j))
    → lowest_on_loop f l ≡ f (entry l k)
lowest_on_loop_is f l k later low least =
    let p = lowest_on_loop_place f l (omega arith) in
    let one = lowest_on_loop_le f l k later low in
    let two = least p.place p.later p.below in
    omega (arith, one, two, p.holds)

-- ---- a sequence that takes one value twice

-- the first j values of the sequence c, with start i
abbrev pub lasso_of : (ℕ → ℕ) → ℕ → ℕ → Lasso
lasso_of c i j = record { entries = map c (range_with_len 0 j); start = i }

-- it has j entries
pub lasso_of-length : (c : ℕ → ℕ) (i j : ℕ) → length (lasso_of c i j).entries ≡ j
lasso_of-length c i j = length-map-range_with_len c 0 j

-- its entries are the first values of c
pub lasso_of-entry : (c : ℕ → ℕ) (i j k : ℕ) → k < j → entry (lasso_of c i j) k ≡ c k
lasso_of-entry c i j k low = get_or-map-range_with_len c 0 j k k 0 low (omega arith)

-- its round is the first j + 1 values, if c takes one value at i and j
pub lasso_of-round : (c : ℕ → ℕ) (i j k : ℕ) → i < j → c i ≡ c j → k ≤ j → get_or (round (lasso_of c i j)) k 0 ≡ c k
lasso_of-round c i j k apart same low = by_case (cases_eq k j)
  where
    by_case : (k ≡ j) ⊎ (k ≡ j → ⊥) → get_or (round (lasso_of c i j)) k 0 ≡ c k
    by_case (inl last) =
        round-end (lasso_of c i j) k (last ∙ sym (lasso_of-length c i j)) ∙ lasso_of-entry c i j i apart ∙ same
        ∙ ap c (sym last)
    by_case (inr other) =
        round-entry (lasso_of c i j) k (omega (arith, lasso_of-length c i j)) ∙ lasso_of-entry c i j k (omega arith)

-- it is a lasso of each relation that has the steps of c
pub lasso_of_is : (R : ℕ → ℕ → Type 0) (c : ℕ → ℕ) (i j : ℕ) → i < j → c i ≡ c j
    → ((k : ℕ) → k < j → R (c k) (c (k + 1))) → IsLassoOf R (lasso_of c i j)
lasso_of_is R c i j apart same steps = record {
  starts = omega (arith, lasso_of-length c i j);
  joined = λ k low. step k (omega (arith, lasso_of-length c i j));
}
  where
    step : (k : ℕ) → k < j → R (get_or (round (lasso_of c i j)) k 0) (get_or (round (lasso_of c i j)) (k + 1) 0)
    step k low =
        subst₂ R (sym (lasso_of-round c i j k apart same (omega arith)))
        (sym (lasso_of-round c i j (k + 1) apart same (omega arith))) (steps k low)

-- ---- two functions, and one entry more

-- functions that agree on the entries of the list have the same lowest on the loop
pub lowest_on_loop-same : (f g : ℕ → ℕ) (l : Lasso) → l.start < length l.entries
    → ((k : ℕ) → k < length l.entries → f (entry l k) ≡ g (entry l k)) → lowest_on_loop f l ≡ lowest_on_loop g l
lowest_on_loop-same f g l starts same = from (lowest_on_loop_place g l starts)
  where
    from : LowestOnLoop g l → lowest_on_loop f l ≡ lowest_on_loop g l
    from p =
        lowest_on_loop_is f l p.place p.later p.below
        (λ j later low. omega (arith, same p.place p.below, same j low, p.holds, lowest_on_loop_le g l j later low))
        ∙ same p.place p.below
        ∙ p.holds

-- the lasso with one entry more in front
abbrev pub prepend : ℕ → Lasso → Lasso
prepend v l = record { entries = v ∷ l.entries; start = suc l.start }

-- it is a lasso of R if the new entry has a step of R to the old first one
pub prepend_is : (R : ℕ → ℕ → Type 0) (v : ℕ) (l : Lasso) → IsLassoOf R l → R v (entry l 0)
    → IsLassoOf R (prepend v l)
prepend_is R v l old step = record { starts = omega (arith, old.starts); joined = joined }
  where
    joined : (k : ℕ) → k < suc (length l.entries) → R (get_or (v ∷ round l) k 0) (get_or (v ∷ round l) (k + 1) 0)
    joined zero low = subst (R v) (sym (round-entry l 0 (omega (arith, old.starts)))) step
    joined (suc k) low =
        let e : suc (k + 1) ≡ suc k + 1 = omega arith in
        subst (λ i. R (get_or (round l) k 0) (get_or (v ∷ round l) i 0)) e (old.joined k (omega arith))
