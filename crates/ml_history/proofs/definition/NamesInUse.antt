-- Names of items: which stand in a stack, which end one, how many are in use.
--
--   Standing t y, Ending t y   == an item of t with the name y, or with the last name y
--   stands-from, stands-in     == the test for such an item
--   is_last-from, is_last-in   == the same for the last name
--   live-has                   == a name that stands in a stack is in use
--   live-witness               == below the number of names in use, some name at or above stands in a stack
use Rattle.std.proofs.Common.{ℕ, ◌≡◌, ◌<◌, ◌≤◌, ◌⊎◌, inl, inr, arith, true, List, [], ◌∷◌, refl, eqb, ap}
use Rattle.std.proofs.lemmas.Bool.{cases_lt, or_cases, or_left, or_right, eqb-true, eq-eqb}
use Rattle.ml_lists.specs.Member.{IsMember}
use Rattle.ml_lists.proofs.Member.{list_any-member, member-list_any}
use Rattle.ml_trace.specs.Stack.{Item, has, ends_in}
use Rattle.ml_history.specs.HistoryStep.{above, live, stands, is_last}

-- an item of t with the name y
pub record Standing (t : List (Item ℕ)) (y : ℕ) : Type 0 where
  pub item : Item ℕ
  pub member : IsMember item t
  pub named : has y item.stack ≡ true

-- an item of t with the last name y
pub record Ending (t : List (Item ℕ)) (y : ℕ) : Type 0 where
  pub item : Item ℕ
  pub member : IsMember item t
  pub ends : ends_in y item.stack ≡ true

-- a name that stands in some stack stands in that of an item
pub stands-from : (t : List (Item ℕ)) (y : ℕ) → stands t y ≡ true → Standing t y
stands-from t y s = let p = list_any-member (λ (a : Item ℕ). has y a.stack) t s in
    record { item = p.item; member = p.member; named = p.passes }

-- a name of an item's stack stands
pub stands-in : (t : List (Item ℕ)) (y : ℕ) (a : Item ℕ) → IsMember a t → has y a.stack ≡ true → stands t y ≡ true
stands-in t y a m h = member-list_any (λ (b : Item ℕ). has y b.stack) a t m h

-- a name that some stack ends in ends that of an item
pub is_last-from : (t : List (Item ℕ)) (y : ℕ) → is_last t y ≡ true → Ending t y
is_last-from t y s = let p = list_any-member (λ (a : Item ℕ). ends_in y a.stack) t s in
    record { item = p.item; member = p.member; ends = p.passes }

-- the last name of an item's stack is one
pub is_last-in : (t : List (Item ℕ)) (y : ℕ) (a : Item ℕ) → IsMember a t → ends_in y a.stack ≡ true → is_last t y ≡ true
is_last-in t y a m e = member-list_any (λ (b : Item ℕ). ends_in y b.stack) a t m e

-- a name of a stack is below what stands above it
above-has : (y : ℕ) (s : List ℕ) → has y s ≡ true → y < above s
above-has y [] h = absurd (cc)
above-has y (x ∷ xs) h = by_part (or_cases (eqb x y) (has y xs) h) (above-has y xs)
  where
    by_part : (eqb x y ≡ true) ⊎ (has y xs ≡ true) → (has y xs ≡ true → y < above xs) → y < above (x ∷ xs)
    by_part (inl here) rest = let e = eqb-true x y here in omega arith
    by_part (inr later) rest = let low = rest later in omega arith

-- a name that stands in a stack is in use
pub live-has : (h : List (Item ℕ)) (y : ℕ) (a : Item ℕ) → IsMember a h → has y a.stack ≡ true → y < live h
live-has [] y a m n = absurd m
live-has (b ∷ bs) y a (inl same) n =
    let low = above-has y a.stack n in
    let e : above a.stack ≡ above b.stack = ap (λ (c : Item ℕ). above c.stack) same in
    omega arith
live-has (b ∷ bs) y a (inr m) n = let low = live-has bs y a m n in omega arith

-- a name of a stack, at or above y
record NameFrom (s : List ℕ) (y : ℕ) : Type 0 where
  name : ℕ
  named : has name s ≡ true
  high : y ≤ name

-- below what stands above a stack, some name at or above stands in it
above-witness : (s : List ℕ) (y : ℕ) → y < above s → NameFrom s y
above-witness [] y low = absurd (omega arith)
above-witness (x ∷ xs) y low = by_part (cases_lt x y) (above-witness xs y)
  where
    by_part : (x < y) ⊎ (y ≤ x) → (y < above xs → NameFrom xs y) → NameFrom (x ∷ xs) y
    by_part (inl small) rest =
        let r = rest (omega arith) in
        record { name = r.name; named = or_right (eqb x r.name) (has r.name xs) r.named; high = r.high }
    by_part (inr high) rest = record { name = x; named = or_left (eqb x x) (has x xs) (eq-eqb x x refl); high = high }

-- an item of h with a name at or above y
pub record StandsFrom (h : List (Item ℕ)) (y : ℕ) : Type 0 where
  pub name : ℕ
  pub high : y ≤ name
  pub item : Item ℕ
  pub member : IsMember item h
  pub named : has name item.stack ≡ true

-- below the number of names in use, some name at or above stands in a stack
pub live-witness : (h : List (Item ℕ)) (y : ℕ) → y < live h → StandsFrom h y
live-witness [] y low = absurd (omega arith)
live-witness (b ∷ bs) y low = by_part (cases_lt y (above b.stack)) (live-witness bs y)
  where
    by_part : (y < above b.stack) ⊎ (above b.stack ≤ y) → (y < live bs → StandsFrom bs y) → StandsFrom (b ∷ bs) y
    by_part (inl here) rest =
        let n = above-witness b.stack y here in
        record { name = n.name; high = n.high; item = b; member = inl refl; named = n.named }
    by_part (inr later) rest =
        let r = rest (omega arith) in
        record { name = r.name; high = r.high; item = r.item; member = inr r.member; named = r.named }
