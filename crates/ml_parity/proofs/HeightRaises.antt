-- Numbers raised along arcs.
--
--   ArcEnds, arc_ends == the ends of an arc of a one-sided graph are vertices
--   attained_set      == a number raised to what an arc asks for is attained
--   too_high          == where an arc asks for more than there are vertices, there is a loop
--   room_falls        == a raise leaves less room
--   pass_first, pass_stays, pass_raised == a pass over arcs, step by step
--   written           == what a vector holds after its items were written through a slice
--   column_of         == attained numbers that no arc raises are the largest
use Rattle.std.proofs.Common.{ℕ, ◌≡◌, ◌+◌, ◌-◌, ◌<◌, ◌≤◌, ◌⊎◌, inl, inr, arith, List, [], ◌∷◌, length, get_or, set, subst, sym, ap, ◌∙◌}
use Rattle.std.proofs.Common.{Contains, length-set, get_or-set_same, get_or-set_other, true, false, Bool, cond, take, ◌++◌}
use Rattle.std.proofs.lemmas.Bool.{cases_eq}
use Rattle.std.proofs.Math.Seq.{take-append_seam}
use Rattle.std.proofs.lemmas.List.Elements.{All-contains}
use Rattle.std.proofs.lemmas.List.Sums.{sum_by-set}
use Rattle.ml_parity.specs.declared.one_sided.graph.Arc.{Arc}
use Rattle.ml_parity.specs.declared.one_sided.search.Pass.{Pass}
use Rattle.ml_parity.specs.declared.one_sided.search.Pass.TheVariants.{Stays, Raised}
use Rattle.ml_parity.specs.OneSided.{OneSidedGraph, IsOneSided, count_at, Attained}
use Rattle.ml_parity.specs.private.HeightSteps.{Settled, SettledAlong, LoopAt, AreAttained, IsColumn, IsPass, RaisesAlong, number_at, room}
use Rattle.ml_parity.proofs.HeightWalks.{attained_more, attained_loop, walk_keeps}

-- the ends of an arc are vertices
pub record ArcEnds (g : OneSidedGraph) (a : Arc) : Type 0 where
  pub begins : a.from < g.size
  pub ends : a.to < g.size

pub arc_ends : (h g : OneSidedGraph) → h ≡ g → IsOneSided h → (a : Arc) → Contains g.arcs a → ArcEnds g a
arc_ends h g view inside a member =
    let one : IsOneSided g = subst IsOneSided view inside in
    record {
      begins = All-contains (λ (b : Arc). b.from < g.size) g.arcs a one.begins member;
      ends = All-contains (λ (b : Arc). b.to < g.size) g.arcs a one.ends member;
    }

-- a number raised to what an arc asks for is attained
pub attained_set : (g : OneSidedGraph) (p : ℕ) (xs : List ℕ) (a : Arc) (x : ℕ) → AreAttained g p xs → ArcEnds g a
    → Contains g.arcs a → p ≤ a.priority → x ≡ count_at p (a ∷ []) + number_at xs a.to → x ≤ g.size
    → AreAttained g p (set xs a.from x)
attained_set g p xs a x old e member high is fits = record {
  size = length-set xs a.from x ∙ old.size;
  low = λ v. low v (cases_eq v a.from);
  attained = λ v. attained v (cases_eq v a.from);
}
  where
    here : get_or (set xs a.from x) a.from 0 ≡ x
    here = get_or-set_same xs a.from x 0 (omega (arith, e.begins, old.size))

    low : (v : ℕ) → (v ≡ a.from) ⊎ (v ≡ a.from → ⊥) → get_or (set xs a.from x) v 0 ≤ g.size
    low v (inl same) = subst (λ (n : ℕ). n ≤ g.size) (sym (ap (λ (k : ℕ). get_or (set xs a.from x) k 0) same ∙ here))
        fits
    low v (inr other) = subst (λ (n : ℕ). n ≤ g.size) (sym (get_or-set_other xs a.from v x 0 other)) (old.low v)

    attained : (v : ℕ) → (v ≡ a.from) ⊎ (v ≡ a.from → ⊥) → Attained g p v (get_or (set xs a.from x) v 0)
    attained v (inl same) =
        subst (λ (k : ℕ). Attained g p k (get_or (set xs a.from x) k 0)) (sym same)
        (subst (Attained g p a.from) (sym (here ∙ is))
        (attained_more g p (number_at xs a.to) a member high (old.attained a.to)))
    attained v (inr other) = subst (Attained g p v) (sym (get_or-set_other xs a.from v x 0 other)) (old.attained v)

-- where an arc asks for more than there are vertices, there is a loop
pub too_high : (h g : OneSidedGraph)
    → h ≡ g
    → IsOneSided h
    → (p : ℕ) (xs : List ℕ) (a : Arc) (x : ℕ)
    → AreAttained g p xs
    → Contains g.arcs a → p ≤ a.priority → x ≡ count_at p (a ∷ []) + number_at xs a.to → g.size < x → LoopAt g p
too_high h g view one p xs a x old member high is many =
    attained_loop g (subst IsOneSided view one) p a.from x
    (subst (Attained g p a.from) (sym is) (attained_more g p (number_at xs a.to) a member high (old.attained a.to)))
    many

-- a raise leaves less room
pub room_falls : (n : ℕ) (xs : List ℕ) (i x : ℕ)
    → i < length xs
    → get_or xs i 0 < x
    → x ≤ n
    → room n (set xs i x) < room n xs
room_falls n xs i x low more fits =
    let sum : room n (set xs i x) + (n - get_or xs i 0) ≡ room n xs + (n - x) =
    sum_by-set (λ (y : ℕ). n - y) xs i x 0 low in
    omega arith

-- ---- passes

-- the pass so far: whether some number was raised
abbrev pub so_far : Bool → Pass
so_far raised = cond raised Raised Stays

-- one arc more along which nothing is to be raised
pub settled_more : (g : OneSidedGraph) (p : ℕ) (xs : List ℕ) (i : ℕ) (a : Arc) → ((d : Arc) → get_or g.arcs i d ≡ a)
    → ((k : ℕ) (d : Arc) → k < i → SettledAlong p (number_at xs) (get_or g.arcs k d)) → SettledAlong p (number_at xs) a
    → (k : ℕ) (d : Arc) → k < i + 1 → SettledAlong p (number_at xs) (get_or g.arcs k d)
settled_more g p xs i a is old last k d below = by_case (cases_eq k i)
  where
    by_case : (k ≡ i) ⊎ (k ≡ i → ⊥) → SettledAlong p (number_at xs) (get_or g.arcs k d)
    by_case (inl same) = subst (SettledAlong p (number_at xs)) (sym (ap (λ (j : ℕ). get_or g.arcs j d) same ∙ is d))
        last
    by_case (inr other) = old k d (omega arith)

-- a pass that raised nothing goes on with an arc that raises nothing
pub pass_stays : (g : OneSidedGraph) (p : ℕ) (old xs new : List ℕ) (i : ℕ) (a : Arc) (raised : Bool)
    → ((d : Arc) → get_or g.arcs i d ≡ a) → IsPass g p old xs i (so_far raised) → RaisesAlong g p xs new a Stays
    → IsPass g p old new (i + 1) (so_far raised)
pass_stays g p old xs new i a true is so step =
    subst (λ (ys : List ℕ). room g.size ys < room g.size old) (sym step.0) so
pass_stays g p old xs new i a false is so step = (
  step.0 ∙ so.0,
  settled_more g p new i a is
      (λ k d low. subst (λ (ys : List ℕ). SettledAlong p (number_at ys) (get_or g.arcs k d)) (sym step.0) (so.1 k d low))
      step.1,
)

-- a pass goes on with an arc that raises something
pub pass_raised : (g : OneSidedGraph) (p : ℕ) (old xs new : List ℕ) (i : ℕ) (a : Arc) (raised : Bool)
    → IsPass g p old xs i (so_far raised) → RaisesAlong g p xs new a Raised → IsPass g p old new (i + 1) Raised
pass_raised g p old xs new i a true so step = omega arith
pass_raised g p old xs new i a false so step =
    let e : room g.size xs ≡ room g.size old = ap (room g.size) so.0 in
    omega arith

-- ---- beginning and end

-- attained numbers that no arc raises are the largest
pub column_of : (g : OneSidedGraph) (p : ℕ) (xs : List ℕ)
    → AreAttained g p xs
    → Settled g p (number_at xs)
    → IsColumn g p xs
column_of g p xs at settled = record {
  size = at.size;
  most = λ v low. record {
    attained = at.attained v;
    largest = λ ys w walk. omega (arith, walk_keeps g p (number_at xs) settled v w ys walk);
  };
}

-- what a vector holds after its items were written through a slice
pub written : {A : Type 0} (n : ℕ) (xs ys : List A) → n ≡ length xs → take n (xs ++ ys) ≡ xs
written n xs ys e = ap (λ (k : ℕ). take k (xs ++ ys)) e ∙ take-append_seam xs ys
