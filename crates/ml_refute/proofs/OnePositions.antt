-- The entries of an extracted refutation are numbered in one way.
--
-- Let two refutations be extracted from one solution, and agree on which positions have the numbers up to k. Then
-- their decisions up to entry k are alike, and lead to paired entries, in one order. If the number k + 1 were of
-- different positions, each of the two would stand there at a higher number in the other refutation; and since a lower
-- number comes first, each of them would come before the other.
--
--   rows_upto        == to what the first entries lead, in order
--   in_upto, paired_upto == what one of them leads to is among it; alike entries lead to paired ones
--   range_ascends    == the numbers from one on ascend
--   sooner           == in a refutation, among it, a lower number stands before each higher one
--   next_agrees      == the next number is of one position
--   one_order        == so are all
use Rattle.std.proofs.Common.{ℕ, zero, suc, ◌≡◌, ◌+◌, ◌<◌, ◌≤◌, ◌⊎◌, inl, inr, List, [], ◌∷◌, ◌++◌, Some, length, get_or, map, slice_get, append_assoc, refl, sym, ap, ◌∙◌, subst, arith}
use Rattle.std.proofs.lemmas.Bool.{cases_lt, cases_eq}
use Rattle.std.proofs.lemmas.List.{get_or_append_left}
use Rattle.std.proofs.lemmas.Option.{slice_get_within}
use Rattle.std.specs.List.{flat_map, range_with_len}
use Rattle.ml_lists.specs.Ascending.{IsAscending}
use Rattle.ml_lists.specs.BreadthFirst.{each_once}
use Rattle.ml_lists.specs.Member.{IsMember}
use Rattle.ml_lists.proofs.Member.{Place, member-place, member-append_left, member-append_right}
use Rattle.ml_graph.specs.Graph.{Graph}
use Rattle.ml_parity.specs.Solution.{GameSolution}
use Rattle.ml_product.specs.Arena.{Arena, IsArenaOf}
use Rattle.ml_product.specs.Position.{Position}
use Rattle.ml_product.proofs.OnePlace.{same_place}
use Rattle.ml_refutation.specs.Acceptance.{entry_at, no_entry}
use Rattle.ml_refutation.specs.Refutation.{Refutation, Entry}
use Rattle.ml_refute.specs.Extracted.{leads_to, IsOutlineOf}
use Rattle.ml_refute.proofs.Alike.{IsPaired, AreAlike, decisions_alike, ArePaired, paired_append, leads_paired, PairedAt, paired_at}
use Rattle.ml_refute.proofs.Entries.{Extraction, position_at, led_from}
use Rattle.ml_lists.proofs.ComesFirst.{Earlier, comes_first}

-- ---- to what the first entries lead

abbrev pub rows_upto : ℕ → List Entry → List ℕ
rows_upto zero xs = []
rows_upto (suc k) [] = []
rows_upto (suc k) (x ∷ xs) = leads_to x.decision ++ rows_upto k xs

pub in_upto : (k : ℕ) (xs : List Entry) (j x : ℕ)
    → j < k
    → j < length xs
    → IsMember x (leads_to (get_or xs j no_entry).decision)
    → IsMember x (rows_upto k xs)
in_upto zero xs j x early low m = absurd (omega arith)
in_upto (suc k) [] j x early low m = absurd (omega arith)
in_upto (suc k) (e ∷ xs) zero x early low m = member-append_left x (leads_to e.decision) (rows_upto k xs) m
in_upto (suc k) (e ∷ xs) (suc j) x early low m =
    member-append_right x (leads_to e.decision) (rows_upto k xs) (in_upto k xs j x (omega arith) (omega arith) m)

pub paired_upto : (ps qs : List Position) (k : ℕ) (xs ys : List Entry) → k ≤ length xs → k ≤ length ys
    → ((j : ℕ) → j < k → AreAlike ps qs (get_or xs j no_entry).decision (get_or ys j no_entry).decision)
    → ArePaired ps qs (rows_upto k xs) (rows_upto k ys)
paired_upto ps qs zero xs ys x_long y_long alike = tt
paired_upto ps qs (suc k) [] ys x_long y_long alike = absurd (omega arith)
paired_upto ps qs (suc k) (x ∷ xs) [] x_long y_long alike = absurd (omega arith)
paired_upto ps qs (suc k) (x ∷ xs) (y ∷ ys) x_long y_long alike =
    paired_append ps qs (leads_to x.decision) (leads_to y.decision) (rows_upto k xs) (rows_upto k ys)
    (leads_paired ps qs x.decision y.decision (alike 0 (omega arith)))
    (paired_upto ps qs k xs ys (omega arith) (omega arith) (λ j low. alike (suc j) (omega arith)))

-- and what the others lead to stands behind it
record Behind (k : ℕ) (xs : List Entry) : Type 0 where
  pub rest : List ℕ
  pub is : flat_map (λ row. row) (map (λ (e : Entry). leads_to e.decision) xs) ≡ rows_upto k xs ++ rest

behind : (k : ℕ) (xs : List Entry) → Behind k xs
behind zero xs = record { rest = flat_map (λ row. row) (map (λ (e : Entry). leads_to e.decision) xs); is = refl }
behind (suc k) [] = record { rest = []; is = refl }
behind (suc k) (x ∷ xs) =
    let b = behind k xs in
    record {
      rest = b.rest;
      is = ap (λ zs. leads_to x.decision ++ zs) b.is ∙ sym
          (append_assoc (leads_to x.decision) (rows_upto k xs) b.rest);
    }

-- the numbers from one on ascend
from_on : (a n x : ℕ) → IsMember x (range_with_len a n) → a ≤ x
from_on a zero x m = absurd m
from_on a (suc n) x (inl same) = omega arith
from_on a (suc n) x (inr m) = let above = from_on (a + 1) n x m in omega arith

range_ascends : (a n : ℕ) → IsAscending (range_with_len a n)
range_ascends a zero = tt
range_ascends a (suc n) = (λ y m. (let above = from_on (a + 1) n y m in omega arith), range_ascends (a + 1) n)

-- in a refutation, a lower number stands before each higher one
sooner : (X : Extraction) (n t x : ℕ)
    → t < length (rows_upto n X.r.entries)
    → suc x < get_or (rows_upto n X.r.entries) t 0
    → IsMember (suc x) (rows_upto n X.r.entries)
    → Earlier (rows_upto n X.r.entries) t (suc x)
sooner X n t x fits low inside = from (behind n X.r.entries)
  where
    read : (rest : List ℕ) (k : ℕ) → k < length (rows_upto n X.r.entries)
        → get_or (rows_upto n X.r.entries ++ rest) k 0 ≡ get_or (rows_upto n X.r.entries) k 0
    read rest k k_fits = get_or_append_left (rows_upto n X.r.entries) rest 0 k k_fits

    from : Behind n X.r.entries → Earlier (rows_upto n X.r.entries) t (suc x)
    from b = at_place (comes_first all (suc t) (suc x) up all_fits all_low
        (inr (member-append_left (suc x) (rows_upto n X.r.entries) b.rest inside)))
      where
        all : List ℕ
        all = 0 ∷ (rows_upto n X.r.entries ++ b.rest)

        up : IsAscending (each_once (0 ∷ (rows_upto n X.r.entries ++ b.rest)))
        up =
            subst IsAscending (X.o.breadth_first.in_order ∙ ap (λ zs. each_once (0 ∷ zs)) b.is)
            (range_ascends 0 (length X.r.entries))

        all_fits : suc t < length (0 ∷ (rows_upto n X.r.entries ++ b.rest))
        all_fits = omega (arith, fits, Rattle.std.proofs.Common.length-append (rows_upto n X.r.entries) b.rest)

        all_low : suc x < get_or (0 ∷ (rows_upto n X.r.entries ++ b.rest)) (suc t) 0
        all_low = omega (arith, low, read b.rest t fits)

        at_place : Earlier (0 ∷ (rows_upto n X.r.entries ++ b.rest)) (suc t) (suc x)
            → Earlier (rows_upto n X.r.entries) t (suc x)
        at_place e = by_place e.place e.before e.stands
          where
            by_place : (v : ℕ)
                → v < suc t
                → get_or (0 ∷ (rows_upto n X.r.entries ++ b.rest)) v 0 ≡ suc x
                → Earlier (rows_upto n X.r.entries) t (suc x)
            by_place zero early stands = absurd (omega (arith, stands))
            by_place (suc w) early stands =
                record { place = w; before = omega arith; stands = sym (read b.rest w (omega (arith, fits))) ∙ stands }

-- ---- two refutations

-- two refutations from one solution
module _ (g : Graph) (a : Arena) (arena : IsArenaOf g a) (s : GameSolution) (r q : Refutation) (o : IsOutlineOf g a s r)
    (u : IsOutlineOf g a s q) where
  abbrev X : Extraction
  X = record { g = g; a = a; arena = arena; s = s; r = r; o = o }

  abbrev Y : Extraction
  Y = record { g = g; a = a; arena = arena; s = s; r = q; o = u }

  -- one position has two numbers only if they are one
  one_number : (f h : ℕ) (p : Position) → slice_get o.positions f ≡ Some p → slice_get o.positions h ≡ Some p → f ≡ h
  one_number f h p = same_place o.positions o.are_different f h p

  other_number : (f h : ℕ) (p : Position) → slice_get u.positions f ≡ Some p → slice_get u.positions h ≡ Some p → f ≡ h
  other_number f h p = same_place u.positions u.are_different f h p

  module _ (k : ℕ) (agree : (i : ℕ) → i < suc k → slice_get o.positions i ≡ slice_get u.positions i)
      (low : suc k < length r.entries) where
    abbrev K : List ℕ
    K = rows_upto (suc k) r.entries

    abbrev L : List ℕ
    L = rows_upto (suc k) q.entries

    long : suc k ≤ length q.entries
    long =
        let p = position_at X k (omega arith) in
        let here : slice_get u.positions k ≡ Some p.position = sym (agree k (omega arith)) ∙ p.placed in
        omega (arith, slice_get_within u.positions k p.position here, u.a_position_each)

    alike : (j : ℕ) → j < suc k → AreAlike o.positions u.positions (entry_at r j).decision (entry_at q j).decision
    alike j early =
        let p = position_at X j (omega arith) in
        let there : slice_get u.positions j ≡ Some p.position = sym (agree j early) ∙ p.placed in
        decisions_alike g a arena.are_different s o.positions u.positions (entry_at r j).decision
        (entry_at q j).decision p.position
        p.is_entry.decision (u.are_entries j p.position there).decision

    pairs : ArePaired o.positions u.positions K L
    pairs = paired_upto o.positions u.positions (suc k) r.entries q.entries (omega arith) long alike

    inside : IsMember (suc k) K
    inside =
        let l = led_from X k low in
        in_upto (suc k) r.entries l.before (suc k) l.earlier (omega (arith, l.earlier)) l.leads

    -- the number k + 1 in one, and its pair in the other
    module _ (f : ℕ) (p : Position) (here : slice_get o.positions (suc k) ≡ Some p)
        (there : slice_get u.positions f ≡ Some p) (above : suc k < f) where
      other_low : suc k < length q.entries
      other_low = omega (arith, slice_get_within u.positions f p there, u.a_position_each)

      other_inside : IsMember (suc k) L
      other_inside =
          let l = led_from Y k other_low in
          in_upto (suc k) q.entries l.before (suc k) l.earlier (omega (arith, l.earlier, other_low)) l.leads

      -- a number paired with k + 1 in the other is above k + 1
      pair_above : (h : ℕ) → IsPaired o.positions u.positions h (suc k) → suc k < h
      pair_above h pair = by_order (cases_lt h (suc k)) (cases_eq h (suc k))
        where
          by_order : (h < suc k) ⊎ (suc k ≤ h) → (h ≡ suc k) ⊎ (h ≡ suc k → ⊥) → suc k < h
          by_order (inl early) same =
              let wrong = other_number h (suc k) pair.position (sym (agree h early) ∙ pair.left) pair.right in
              absurd (omega arith)
          by_order (inr le) (inl same) =
              let at_here : slice_get o.positions (suc k) ≡ Some pair.position = ap (slice_get o.positions) (sym same)
              ∙ pair.left in
              let positions : Some p ≡ Some pair.position = sym here ∙ at_here in
              let wrong = other_number f (suc k) p there (pair.right ∙ sym positions) in
              absurd (omega arith)
          by_order (inr le) (inr differ) = omega (arith, differ)

      -- what stands at a place of k + 1 in the one is above k + 1 in the other
      pair_is : (t : ℕ) → t < length K → get_or K t 0 ≡ suc k → suc k < get_or L t 0
      pair_is t fits is = from (paired_at o.positions u.positions K L pairs t fits)
        where
          from : PairedAt o.positions u.positions L (get_or K t 0) t → suc k < get_or L t 0
          from at =
              let positions : Some p ≡ Some at.pair.position = sym here ∙ ap (slice_get o.positions) (sym is)
              ∙ at.pair.left in
              let same = other_number (get_or L t 0) f p (at.pair.right ∙ sym positions) there in
              omega (arith, same, above)

      -- an earlier place of k + 1
      go_back : (t : ℕ) → t < length K → get_or K t 0 ≡ suc k → Earlier K t (suc k)
      go_back t fits is = of_first (sooner Y (suc k) t k (paired_at o.positions u.positions K L pairs t fits).fits
          (pair_is t fits is) other_inside)
        where
          of_first : Earlier L t (suc k) → Earlier K t (suc k)
          of_first e = of_pair (paired_at o.positions u.positions K L pairs e.place (omega (arith, e.before)))
            where
              of_pair : PairedAt o.positions u.positions L (get_or K e.place 0) e.place → Earlier K t (suc k)
              of_pair at =
                  let pair : IsPaired o.positions u.positions (get_or K e.place 0) (suc k) =
                  subst (IsPaired o.positions u.positions (get_or K e.place 0)) e.stands at.pair in
                  let d = sooner X (suc k) e.place k (omega (arith, e.before)) (pair_above (get_or K e.place 0) pair)
                  inside in
                  record { place = d.place; before = omega (arith, d.before, e.before); stands = d.stands }

      no_place : (m t : ℕ) → t < m → t < length K → get_or K t 0 ≡ suc k → ⊥
      no_place zero t under fits is = absurd (omega arith)
      no_place (suc m) t under fits is =
          let e = go_back t fits is in
          no_place m e.place (omega (arith, e.before)) (omega (arith, e.before)) e.stands

    -- the next number is of one position
    pub next_agrees : slice_get o.positions (suc k) ≡ slice_get u.positions (suc k)
    next_agrees = from (member-place (suc k) K inside)
      where
        from : Place (suc k) K → slice_get o.positions (suc k) ≡ slice_get u.positions (suc k)
        from t = of_pair (paired_at o.positions u.positions K L pairs t.place t.below)
          where
            of_pair : PairedAt o.positions u.positions L (get_or K t.place 0) t.place
                → slice_get o.positions (suc k) ≡ slice_get u.positions (suc k)
            of_pair at = by_order (cases_lt (get_or L t.place 0) (suc k)) (cases_eq (get_or L t.place 0) (suc k))
              where
                here : slice_get o.positions (suc k) ≡ Some at.pair.position
                here = ap (slice_get o.positions) (sym (t.holds 0)) ∙ at.pair.left

                by_order : (get_or L t.place 0 < suc k) ⊎ (suc k ≤ get_or L t.place 0)
                    → (get_or L t.place 0 ≡ suc k) ⊎ (get_or L t.place 0 ≡ suc k → ⊥)
                    → slice_get o.positions (suc k) ≡ slice_get u.positions (suc k)
                by_order order (inl same) = here ∙ sym at.pair.right ∙ ap (slice_get u.positions) same
                by_order (inl early) (inr differ) =
                    let wrong = one_number (get_or L t.place 0) (suc k) at.pair.position
                    (agree (get_or L t.place 0) early ∙ at.pair.right) here in
                    absurd (omega arith)
                by_order (inr le) (inr differ) =
                    absurd (no_place (get_or L t.place 0) at.pair.position here at.pair.right (omega (arith, differ))
                    (suc t.place) t.place (omega arith) t.below (t.holds 0))
