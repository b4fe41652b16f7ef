-- Where no cycle is even, there are longest counts. (General: it belongs to `ml_parity`.)
--
-- Numbers that are attained are raised along arcs until no arc raises one: then they are the largest. Each raise leaves
-- less room below the number of vertices, and a number above that would show a loop.
--
--   some_column  == for one priority at which there is no loop
--   some_longest == for all even ones
use Rattle.std.proofs.Common.{ℕ, zero, suc, ◌≡◌, ◌+◌, ◌*◌, ◌/◌, ◌<◌, ◌≤◌, ◌⊎◌, inl, inr, List, [], ◌∷◌, length, get_or, set, map, replicate, Contains, refl, sym, ap, ◌∙◌, subst, arith}
use Rattle.std.specs.List.{range_with_len}
use Rattle.std.proofs.lemmas.Bool.{cases_lt}
use Rattle.std.proofs.lemmas.List.{get_or_default, length-replicate}
use Rattle.std.proofs.lemmas.List.FromFn.{length-map-range_with_len, get_or-map-range_with_len}
use Rattle.ml_lists.specs.Found.{Found}
use Rattle.ml_lists.proofs.Search.{search}
use Rattle.ml_parity.specs.declared.one_sided.graph.Arc.{Arc}
use Rattle.ml_parity.specs.OneSided.{OneSidedGraph, IsOneSided, EvenCycleIn, AreLongest, IsMost, Attained, count_at}
use Rattle.ml_parity.specs.private.HeightSteps.{SettledAlong, LoopAt, AreAttained, IsColumn, number_at, room}
use Rattle.ml_parity.proofs.HeightRaises.{arc_ends, attained_set, too_high, room_falls, column_of}
use Rattle.ml_parity.proofs.HeightTables.{longest_done}
use Rattle.ml_parity.proofs.HeightWalks.{attained_none, even_cycle_of}

abbrev no_arc : Arc
no_arc = record { from = 0; priority = 0; to = 0 }

abbrev none_counted : ℕ → List ℕ
none_counted n = replicate n 0

zeros : (n v : ℕ) → number_at (none_counted n) v ≡ zero
zeros zero v = refl
zeros (suc n) zero = refl
zeros (suc n) (suc v) = zeros n v

pub record Column (g : OneSidedGraph) (p : ℕ) : Type 0 where
  pub numbers : List ℕ
  pub is : IsColumn g p numbers

-- rows of longest counts
pub record Longest (g : OneSidedGraph) : Type 0 where
  pub rows : List (List ℕ)
  pub are : AreLongest g rows

module _ (g : OneSidedGraph) (one : IsOneSided g) where
  module _ (p : ℕ) (loopless : LoopAt g p → ⊥) where
    -- attained numbers with less room
    record Raised (xs : List ℕ) : Type 0 where
      pub numbers : List ℕ
      pub attained : AreAttained g p numbers
      pub less : room g.size numbers < room g.size xs

    -- the arc asks for more than its vertex has
    record AsksMore (xs : List ℕ) (a : Arc) : Type 0 where
      pub high : p ≤ a.priority
      pub more : number_at xs a.from < count_at p (a ∷ []) + number_at xs a.to

    asks_or_settled : (xs : List ℕ) (a : Arc) → AsksMore xs a ⊎ SettledAlong p (number_at xs) a
    asks_or_settled xs a = by_level (cases_lt a.priority p)
      where
        by_number : p ≤ a.priority
            → (number_at xs a.from < count_at p (a ∷ []) + number_at xs a.to)
            ⊎ (count_at p (a ∷ []) + number_at xs a.to ≤ number_at xs a.from)
            → AsksMore xs a ⊎ SettledAlong p (number_at xs) a
        by_number high (inl more) = inl (record { high = high; more = more })
        by_number high (inr enough) = inr (λ h. enough)

        by_level : (a.priority < p) ⊎ (p ≤ a.priority) → AsksMore xs a ⊎ SettledAlong p (number_at xs) a
        by_level (inl low) = inr (λ high. absurd (omega (arith, low, high)))
        by_level (inr high) =
            by_number high (cases_lt (number_at xs a.from) (count_at p (a ∷ []) + number_at xs a.to))

    -- so much
    abbrev asked : List ℕ → Arc → ℕ
    asked xs a = count_at p (a ∷ []) + number_at xs a.to

    raised : (xs : List ℕ) (a : Arc) → AreAttained g p xs → Contains g.arcs a → AsksMore xs a → Raised xs
    raised xs a at member asks = by_size (cases_lt g.size (asked xs a))
      where
        by_size : (g.size < asked xs a) ⊎ (asked xs a ≤ g.size) → Raised xs
        by_size (inl many) =
            absurd (loopless (too_high g g refl one p xs a (asked xs a) at member asks.high refl many))
        by_size (inr fits) =
            let ends = arc_ends g g refl one a member in
            record {
              numbers = set xs a.from (asked xs a);
              attained = attained_set g p xs a (asked xs a) at ends member asks.high refl fits;
              less = room_falls g.size xs a.from (asked xs a) (omega (arith, ends.begins, at.size)) asks.more fits;
            }

    raised_or_column : (xs : List ℕ) → AreAttained g p xs → Raised xs ⊎ IsColumn g p xs
    raised_or_column xs at =
        of_search (search (λ k. AsksMore xs (get_or g.arcs k no_arc))
        (λ k. SettledAlong p (number_at xs) (get_or g.arcs k no_arc))
        (λ k. asks_or_settled xs (get_or g.arcs k no_arc)) (length g.arcs))
      where
        of_search : Found (λ k. AsksMore xs (get_or g.arcs k no_arc)) (length g.arcs)
            ⊎ ((k : ℕ) → k < length g.arcs → SettledAlong p (number_at xs) (get_or g.arcs k no_arc))
            → Raised xs ⊎ IsColumn g p xs
        of_search (inl f) =
            let a = get_or g.arcs f.place no_arc in
            inl (raised xs a at (f.place, f.below, get_or_default g.arcs f.place a no_arc f.below) f.holds)
        of_search (inr settled) =
            inr (column_of g p xs at (λ k d low.
            subst (SettledAlong p (number_at xs)) (get_or_default g.arcs k no_arc d low) (settled k low)))

    climb : (fuel : ℕ) (xs : List ℕ) → AreAttained g p xs → room g.size xs ≤ fuel → Column g p
    climb zero xs at few = of_step (raised_or_column xs at)
      where
        of_step : Raised xs ⊎ IsColumn g p xs → Column g p
        of_step (inl r) = absurd (omega (arith, few, r.less))
        of_step (inr is) = record { numbers = xs; is = is }
    climb (suc fuel) xs at few = of_step (raised_or_column xs at) (climb fuel)
      where
        of_step : Raised xs ⊎ IsColumn g p xs
            → ((ys : List ℕ) → AreAttained g p ys → room g.size ys ≤ fuel → Column g p)
            → Column g p
        of_step (inl r) on = on r.numbers r.attained (omega (arith, few, r.less))
        of_step (inr is) on = record { numbers = xs; is = is }

    pub some_column : Column g p
    some_column = climb (room g.size (none_counted g.size)) (none_counted g.size) (record {
      size = length-replicate g.size 0;
      low = λ v. omega (arith, zeros g.size v);
      attained = λ v. subst (λ k. Attained g p v k) (sym (zeros g.size v)) (attained_none g p v);
    }) (omega arith)

  module _ (no_cycle : EvenCycleIn g → ⊥) where
    no_loop : (k : ℕ) → LoopAt g (2 * k) → ⊥
    no_loop k l = no_cycle (record {
      arcs = l.arc ∷ l.back;
      is_even = even_cycle_of g (2 * k) l.arc l.back (omega arith) l.member l.level l.leads;
    })

    column : (k : ℕ) → Column g (2 * k)
    column k = some_column (2 * k) (no_loop k)

    abbrev row : ℕ → List ℕ
    row v = map (λ k. get_or (column k).numbers v 0) (range_with_len 0 (g.top / 2 + 1))

    abbrev rows : List (List ℕ)
    rows = map row (range_with_len 0 g.size)

    row_at : (v : ℕ) → v < g.size → get_or rows v [] ≡ row v
    row_at v low = get_or-map-range_with_len row 0 g.size v v [] low (omega arith)

    pub some_longest : Longest g
    some_longest = record {
      rows = rows;
      are = longest_done g (g.top / 2 + 1) rows refl (record {
        vertices = length-map-range_with_len row 0 g.size;
        numbers = λ v low. ap length (row_at v low)
            ∙ length-map-range_with_len (λ k. get_or (column k).numbers v 0) 0 (g.top / 2 + 1);
        most = λ k v few low.
            let here : get_or (get_or rows v []) k 0 ≡ get_or (column k).numbers v 0 =
            ap (λ (xs : List ℕ). get_or xs k 0) (row_at v low)
            ∙ get_or-map-range_with_len (λ j. get_or (column j).numbers v 0) 0 (g.top / 2 + 1) k k 0 few (omega arith) in
            subst (IsMost g (2 * k) v) (sym here) ((column k).is.most v low);
      });
    }
