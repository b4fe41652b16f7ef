-- Walks in one-sided graphs: joined, cut, and counted.
--
-- The main lemma is the bound. The arcs of priority p on a walk are numbered by a code below n, and two arcs with one
-- code leave one vertex. If the walk has more than n such arcs, then two of them leave one vertex, and the part of the
-- walk from the first one to the second is a cycle through an arc of priority p along arcs of at least p.
--
--   walk_join      == a walk, and a walk from where it ends
--   walk_keeps     == numbers that do not rise along arcs, and fall along those of priority p, bound the count of a walk
--   counts-one, counts-none == what an arc counts
--   settled_no_cycle == such numbers refuse a cycle whose lowest priority is p
--   even_cycle_of  == a loop at an even p is an even cycle
--   codes          == the codes of the arcs of priority p on a walk
--   CutAt          == a walk, cut at an arc of priority p
--   many_loop      == a walk with more than n arcs of priority p has a loop at p
--   attained_none, attained_more == counts that are attained: that of no arc, and that of one arc more
--   attained_loop  == a count above the number of vertices shows a loop
use Rattle.std.proofs.Common.{ℕ, zero, suc, ◌≡◌, ◌+◌, ◌-◌, ◌%◌, ◌<◌, ◌≤◌, ◌⊎◌, inl, inr, arith, List, [], ◌∷◌, ◌++◌, length, get_or, subst, sym, ap, ◌∙◌, refl, cond, eqb, eq-eqb, ne_eqb, Contains}
use Rattle.std.proofs.lemmas.Bool.{cases_eq, cond-true, cond-false}
use Rattle.std.proofs.lemmas.List.Elements.{All-contains}
use Rattle.ml_lists.proofs.Pigeons.{pigeons_list, TwiceInList}
use Rattle.ml_parity.specs.declared.one_sided.graph.Arc.{Arc}
use Rattle.ml_parity.specs.private.HeightSteps.{Settled, SettledAlong, LoopAt}
use Rattle.ml_parity.specs.OneSided.{OneSidedGraph, IsOneSided, IsWalk, count_at, IsEvenCycle, Attained}

-- a walk, and a walk from where it ends
pub walk_join : (g : OneSidedGraph) (p v u w : ℕ) (xs ys : List Arc) → IsWalk g p v xs u → IsWalk g p u ys w
    → IsWalk g p v (xs ++ ys) w
walk_join g p v u w [] ys ends rest = subst (λ (k : ℕ). IsWalk g p k ys w) (sym ends) rest
walk_join g p v u w (a ∷ xs) ys walk rest = (walk.0, walk_join g p a.to u w xs ys walk.1 rest)

-- an arc of priority p counts one
pub counts-one : (p : ℕ) (a : Arc) (xs : List Arc) → a.priority ≡ p → count_at p (a ∷ xs) ≡ suc (count_at p xs)
counts-one p a xs same = omega (arith, cond-true {A = ℕ} (eqb a.priority p) 1 0 (eq-eqb a.priority p same))

-- an arc of another priority counts nothing
pub counts-none : (p : ℕ) (a : Arc) (xs : List Arc) → (a.priority ≡ p → ⊥) → count_at p (a ∷ xs) ≡ count_at p xs
counts-none p a xs other = omega (arith, cond-false {A = ℕ} (eqb a.priority p) 1 0 (ne_eqb a.priority p other))

-- where the numbers f are settled, the count of a walk is at most by how much the numbers fall
pub walk_keeps : (g : OneSidedGraph) (p : ℕ) (f : ℕ → ℕ) → Settled g p f → (v w : ℕ) (xs : List Arc)
    → IsWalk g p v xs w → count_at p xs + f w ≤ f v
walk_keeps g p f settled v w [] ends = let e : f v ≡ f w = ap f ends in omega arith
walk_keeps g p f settled v w (a ∷ xs) walk =
    let rest = walk_keeps g p f settled a.to w xs walk.1 in
    let step = All-contains (SettledAlong p f) g.arcs a settled walk.0.member walk.0.high in
    let e : f a.from ≡ f v = ap f walk.0.leaves in
    omega arith

-- for an even p it is an even cycle
pub even_cycle_of : (g : OneSidedGraph) (p : ℕ) (a : Arc) (back : List Arc) → p % 2 ≡ 0 → Contains g.arcs a
    → a.priority ≡ p → IsWalk g p a.to back a.from → IsEvenCycle g (a ∷ back)
even_cycle_of g p a back even member level leads = record {
  lowest = p;
  even = even;
  begins = a.from;
  leads_back = (record { member = member; leaves = refl; high = omega arith }, leads);
  met = omega (arith, counts-one p a back level);
}

-- settled numbers refuse such cycles
pub settled_no_cycle : (g : OneSidedGraph) (f : ℕ → ℕ) (xs : List Arc) (c : IsEvenCycle g xs) → Settled g c.lowest f → ⊥
settled_no_cycle g f xs c settled = omega (
  arith,
  walk_keeps g c.lowest f settled c.begins c.begins xs c.leads_back,
  c.met,
)

-- ---- cutting a walk

-- the codes of the arcs of priority p
abbrev codes : (Arc → ℕ) → ℕ → List Arc → List ℕ
codes code p [] = []
codes code p (a ∷ xs) = cond (eqb a.priority p) (code a ∷ codes code p xs) (codes code p xs)

codes-one : (code : Arc → ℕ) (p : ℕ) (a : Arc) (xs : List Arc) → a.priority ≡ p
    → codes code p (a ∷ xs) ≡ code a ∷ codes code p xs
codes-one code p a xs same = cond-true (eqb a.priority p) (code a ∷ codes code p xs) (codes code p xs)
    (eq-eqb a.priority p same)

codes-none : (code : Arc → ℕ) (p : ℕ) (a : Arc) (xs : List Arc) → (a.priority ≡ p → ⊥)
    → codes code p (a ∷ xs) ≡ codes code p xs
codes-none code p a xs other = cond-false (eqb a.priority p) (code a ∷ codes code p xs) (codes code p xs)
    (ne_eqb a.priority p other)

-- there are as many as counted
codes-length : (code : Arc → ℕ) (p : ℕ) (xs : List Arc) → length (codes code p xs) ≡ count_at p xs
codes-length code p [] = refl
codes-length code p (a ∷ xs) = by_case (cases_eq a.priority p) (codes-length code p xs)
  where
    by_case : (a.priority ≡ p) ⊎ (a.priority ≡ p → ⊥) → length (codes code p xs) ≡ count_at p xs
        → length (codes code p (a ∷ xs)) ≡ count_at p (a ∷ xs)
    by_case (inl same) rest = omega (arith, rest, ap length (codes-one code p a xs same), counts-one p a xs same)
    by_case (inr other) rest = omega (arith, rest, ap length (codes-none code p a xs other), counts-none p a xs other)

-- the walk xs from v, cut at its arc number i of priority p: the arc, the walk up to it, and the rest
record CutAt (g : OneSidedGraph) (code : Arc → ℕ) (p v w : ℕ) (xs : List Arc) (i : ℕ) : Type 0 where
  arc : Arc
  member : Contains g.arcs arc
  level : arc.priority ≡ p
  before : List Arc
  leads : IsWalk g p v before arc.from
  after : List Arc
  rest : IsWalk g p arc.to after w
  here : get_or (codes code p xs) i 0 ≡ code arc
  later : (j : ℕ) → get_or (codes code p xs) (suc i + j) 0 ≡ get_or (codes code p after) j 0
  fewer : length (codes code p xs) ≡ suc i + length (codes code p after)

-- each walk can be cut so
cut_at : (g : OneSidedGraph) (code : Arc → ℕ) (p v w : ℕ) (xs : List Arc) (i : ℕ) → IsWalk g p v xs w
    → i < length (codes code p xs) → CutAt g code p v w xs i
cut_at g code p v w [] i walk low = absurd (omega arith)
cut_at g code p v w (a ∷ xs) i walk low =
    by_case (cases_eq a.priority p) i low (λ (k : ℕ) (below : k < length (codes code p xs)). cut_at g code p a.to w xs k
    walk.1 below)
  where
    step : (i : ℕ) → (e : codes code p (a ∷ xs) ≡ codes code p xs) → CutAt g code p a.to w xs i
        → CutAt g code p v w (a ∷ xs) i
    step i e c = record {
      arc = c.arc;
      member = c.member;
      level = c.level;
      before = a ∷ c.before;
      leads = (walk.0, c.leads);
      after = c.after;
      rest = c.rest;
      here = ap (λ (l : List ℕ). get_or l i 0) e ∙ c.here;
      later = λ j. ap (λ (l : List ℕ). get_or l (suc i + j) 0) e ∙ c.later j;
      fewer = ap length e ∙ c.fewer;
    }

    step_one : (i : ℕ) → (e : codes code p (a ∷ xs) ≡ code a ∷ codes code p xs) → CutAt g code p a.to w xs i
        → CutAt g code p v w (a ∷ xs) (suc i)
    step_one i e c = record {
      arc = c.arc;
      member = c.member;
      level = c.level;
      before = a ∷ c.before;
      leads = (walk.0, c.leads);
      after = c.after;
      rest = c.rest;
      here = ap (λ (l : List ℕ). get_or l (suc i) 0) e ∙ c.here;
      later = λ j.
          let k : suc (suc i) + j ≡ suc (suc i + j) = omega arith in
          ap (λ (l : List ℕ). get_or l (suc (suc i) + j) 0) e ∙ ap (λ (n : ℕ). get_or (code a ∷ codes code p xs) n 0) k
          ∙ c.later j;
      fewer = omega (arith, ap length e, c.fewer);
    }

    first : (same : a.priority ≡ p) → CutAt g code p v w (a ∷ xs) 0
    first same =
        let e = codes-one code p a xs same in
        record {
          arc = a;
          member = walk.0.member;
          level = same;
          before = [];
          leads = sym walk.0.leaves;
          after = xs;
          rest = walk.1;
          here = ap (λ (l : List ℕ). get_or l 0 0) e;
          later = λ j.
              let k : suc 0 + j ≡ suc j = omega arith in
              ap (λ (l : List ℕ). get_or l (suc 0 + j) 0) e ∙ ap (λ (n : ℕ). get_or (code a ∷ codes code p xs) n 0) k;
          fewer = omega (arith, ap length e);
        }

    by_case : (a.priority ≡ p) ⊎ (a.priority ≡ p → ⊥) → (i : ℕ) → i < length (codes code p (a ∷ xs))
        → ((k : ℕ) → k < length (codes code p xs) → CutAt g code p a.to w xs k) → CutAt g code p v w (a ∷ xs) i
    by_case (inr other) i low more =
        let e = codes-none code p a xs other in step i e (more i (omega (arith, low, ap length e)))
    by_case (inl same) zero low more = first same
    by_case (inl same) (suc i) low more =
        let e = codes-one code p a xs same in step_one i e (more i (omega (arith, low, ap length e)))

-- a walk with more than n arcs of priority p, whose codes are below n, has a loop
pub many_loop : (g : OneSidedGraph) (code : Arc → ℕ) (n p v w : ℕ) (xs : List Arc)
    → ((a : Arc) → Contains g.arcs a → a.priority ≡ p → code a < n)
    → ((a b : Arc) → code a ≡ code b → a.from ≡ b.from)
    → IsWalk g p v xs w → n < count_at p xs → LoopAt g p
many_loop g code n p v w xs low same walk many =
    twice (pigeons_list n (codes code p xs) (omega (arith, many, codes-length code p xs))
    (λ k below. fits k (cut_at g code p v w xs k walk below)))
  where
    fits : (k : ℕ) → CutAt g code p v w xs k → get_or (codes code p xs) k 0 < n
    fits k c = omega (arith, c.here, low c.arc c.member c.level)

    close : (i j : ℕ) → (c : CutAt g code p v w xs i) → CutAt g code p c.arc.to w c.after j
        → get_or (codes code p xs) i 0 ≡ get_or (codes code p xs) (suc i + j) 0 → LoopAt g p
    close i j c d e = record {
      arc = c.arc;
      member = c.member;
      level = c.level;
      back = d.before;
      leads = subst (λ (k : ℕ). IsWalk g p c.arc.to d.before k)
          (same d.arc c.arc (sym (sym c.here ∙ e ∙ c.later j ∙ d.here))) d.leads;
    }

    twice : TwiceInList (codes code p xs) → LoopAt g p
    twice t =
        let c = cut_at g code p v w xs t.first walk (omega (arith, t.apart, t.within)) in
        let j : ℕ = t.second - suc t.first in
        let place : t.second ≡ suc t.first + (t.second - suc t.first) = omega (arith, t.apart) in
        close t.first (t.second - suc t.first) c
        (cut_at g code p c.arc.to w c.after (t.second - suc t.first) c.rest (omega (arith, c.fewer, t.apart, t.within)))
        (t.same 0 ∙ ap (λ (k : ℕ). get_or (codes code p xs) k 0) place)

-- ---- attained counts

-- the walk without an arc
pub attained_none : (g : OneSidedGraph) (p v : ℕ) → Attained g p v 0
attained_none g p v = record { arcs = []; end = v; walk = refl; counts = refl }

-- one arc more
pub attained_more : (g : OneSidedGraph) (p n : ℕ) (a : Arc) → Contains g.arcs a → p ≤ a.priority → Attained g p a.to n
    → Attained g p a.from (count_at p (a ∷ []) + n)
attained_more g p n a member high old = record {
  arcs = a ∷ old.arcs;
  end = old.end;
  walk = (record { member = member; leaves = refl; high = high }, old.walk);
  counts = omega (arith, old.counts);
}

-- more than there are vertices: there is a loop
pub attained_loop : (g : OneSidedGraph) → IsOneSided g → (p v n : ℕ) → Attained g p v n → g.size < n → LoopAt g p
attained_loop g one p v n at many =
    many_loop g (λ (a : Arc). a.from) g.size p v at.end at.arcs low (λ a b e. e) at.walk (omega (arith, at.counts))
  where
    low : (a : Arc) → Contains g.arcs a → a.priority ≡ p → a.from < g.size
    low a member level = subst (λ (b : Arc). b.from < g.size) member.2 (one.begins member.0 a member.1)
