-- The least state from which no edge by an action leads, found in one walk along ascending edges.
--
--   leaves a s e              == does the edge e leave the state s by the action a?
--   dead_from a es s          == where the walk along es ends that has found edges for all states below s
--   dead_found                == no edge leaves the state where it ends, and some edge leaves each one from s on before it
--   walk_stops, walk_ends     == it ends at an edge of a later state, and behind the last edge
--   least_dead, all_go_on     == so it ends at the least such state of a structure, or behind all states
--   total_or_dead             == the one or the other
use Rattle.std.proofs.Common.{◌≡◌, ℕ, ◌+◌, ◌<◌, ◌≤◌, ◌==◌, Bool, true, false, cond, ◌&&◌, ◌||◌, nat_lt, List, [], ◌∷◌, length, drop}
use Rattle.std.proofs.Common.{get_or, IsTrue, Option, Some, None, MatchOption, ◌↔◌, refl, sym, ap, ◌∙◌, subst, arith}
use Rattle.std.specs.List.{list_any, AllByRecursion}
use Rattle.std.specs.List.Sorted.{IsStrictlySortedBy}
use Rattle.std.specs.Option.{is_none}
use Rattle.std.specs.Str.{bytes_eq}
use Rattle.std.specs.declared.cmp.Ordering.TheVariants.{Less}
use Rattle.std.proofs.lemmas.Bool.Decides.{nat_tests}
use Rattle.std.proofs.lemmas.List.{drop_more, drop_all}
use Rattle.std.proofs.lemmas.Bool.{or_right}
use Rattle.ml_base.specs.declared.structure.Edge.{Edge}
use Rattle.ml_base.specs.Structure.{Structure}
use Rattle.ml_base.specs.EdgeOrder.{edge_cmp}
use Rattle.ml_kripke.specs.Total.{IsTotal, IsLeastDead}
use Rattle.ml_base.proofs.Edges.{source_rises}

abbrev pub leaves : List ℕ → ℕ → Edge → Bool
leaves a s e = (e.source == s) && bytes_eq e.action a

abbrev pub some_leaves : List ℕ → List Edge → ℕ → Bool
some_leaves a es s = list_any (leaves a s) es

-- the state behind s, where an edge leaves s
abbrev pub behind : Bool → ℕ → ℕ
behind b s = cond b (s + 1) s

-- an edge of a later state: no edge behind it leaves s
abbrev pub dead_from : List ℕ → List Edge → ℕ → ℕ
dead_from a [] s = s
dead_from a (e ∷ es) s = cond (nat_lt s e.source) s (dead_from a es (behind (leaves a s e) s))

-- ---- what the walk finds

pub record IsDead (a : List ℕ) (es : List Edge) (s d : ℕ) : Type 0 where
  pub not_before : s ≤ d
  pub go_on : (t : ℕ) → s ≤ t → t < d → some_leaves a es t ≡ true
  pub is_dead : some_leaves a es d ≡ false

not_from : (a : List ℕ) (e : Edge) (t : ℕ) → (e.source ≡ t → ⊥) → leaves a t e ≡ false
not_from a e t ne = go (e.source == t) refl
  where
    go : (b : Bool) → (e.source == t) ≡ b → (b && bytes_eq e.action a) ≡ false
    go false is = refl
    go true is = absurd (ne (grind (arith, nat_tests)))

from_source : (a : List ℕ) (e : Edge) (t : ℕ) → leaves a t e ≡ true → e.source ≡ t
from_source a e t is = go (e.source == t) refl is
  where
    go : (b : Bool) → (e.source == t) ≡ b → (b && bytes_eq e.action a) ≡ true → e.source ≡ t
    go false no_source leads = cc
    go true at leads = grind (arith, nat_tests)

later_sources : (a : List ℕ) (e : Edge) (t : ℕ)
    → t < e.source
    → (es : List Edge)
    → AllByRecursion (λ f. edge_cmp e f ≡ Less) es
    → some_leaves a es t ≡ false
later_sources a e t below [] all = refl
later_sources a e t below (f ∷ es) all =
    let above = source_rises e f all.0 in
    let here = not_from a f t (λ same. omega (arith, above, below, same)) in
    ap (λ b. b || some_leaves a es t) here ∙ later_sources a e t below es all.1

abbrev Found : List ℕ → List Edge → ℕ → Type 0
Found a es s = IsDead a es s (dead_from a es s)

-- the first edge leads on from a later state
stopped : (a : List ℕ) (e : Edge) (es : List Edge) (s : ℕ)
    → s < e.source
    → AllByRecursion (λ f. edge_cmp e f ≡ Less) es
    → IsDead a (e ∷ es) s s
stopped a e es s below all = record {
  not_before = omega arith;
  go_on = λ t from to. absurd (omega (arith, from, to));
  is_dead = ap (λ b. b || some_leaves a es s) (not_from a e s (λ same. omega (arith, below, same)))
      ∙ later_sources a e s below es all;
}

-- one more edge in front, which leads from s by the action
led_on : (a : List ℕ) (e : Edge) (es : List Edge) (s d : ℕ)
    → leaves a s e ≡ true
    → IsDead a es (s + 1) d
    → IsDead a (e ∷ es) s d
led_on a e es s d here rest =
    let source = from_source a e s here in
    record {
      not_before = omega (arith, rest.not_before);
      go_on = λ t from to. go t from to (nat_lt s t) refl;
      is_dead =
          ap (λ b. b || some_leaves a es d) (not_from a e d (λ same. omega (arith, source, same, rest.not_before)))
          ∙ rest.is_dead;
    }
  where
    go : (t : ℕ) → s ≤ t → t < d → (b : Bool) → nat_lt s t ≡ b → some_leaves a (e ∷ es) t ≡ true
    go t from to true is =
        let past : s + 1 ≤ t = grind (arith, nat_tests) in
        or_right (leaves a t e) (some_leaves a es t) (rest.go_on t past to)
    go t from to false is =
        let same : s ≡ t = grind (arith, nat_tests) in
        subst (λ u. some_leaves a (e ∷ es) u ≡ true) same (ap (λ b. b || some_leaves a es s) here)

-- one more edge in front, which leads from no state from s on, or by another action
passed : (a : List ℕ) (e : Edge) (es : List Edge) (s d : ℕ)
    → e.source ≤ s
    → leaves a s e ≡ false
    → IsDead a es s d
    → IsDead a (e ∷ es) s d
passed a e es s d source here rest = record {
  not_before = rest.not_before;
  go_on = λ t from to. or_right (leaves a t e) (some_leaves a es t) (rest.go_on t from to);
  is_dead = ap (λ b. b || some_leaves a es d) (go (nat_lt s d) refl) ∙ rest.is_dead;
}
  where
    go : (b : Bool) → nat_lt s d ≡ b → leaves a d e ≡ false
    go true is = let past : s < d = grind (arith, nat_tests) in
        not_from a e d (λ same. omega (arith, past, same, source))
    go false is =
        let before : s ≤ d = rest.not_before in
        let same : s ≡ d = grind (arith, nat_tests) in subst (λ u. leaves a u e ≡ false) same here

pub dead_found : (a : List ℕ) (es : List Edge) (s : ℕ) → IsStrictlySortedBy edge_cmp es → Found a es s
unfolding IsStrictlySortedBy
dead_found a [] s ascends =
    record { not_before = omega arith; go_on = λ t from to. absurd (omega (arith, from, to)); is_dead = refl }
dead_found a (e ∷ es) s ascends =
    go (nat_lt s e.source) refl (leaves a s e) refl (dead_found a es (s + 1) ascends.1) (dead_found a es s ascends.1)
  where
    go : (b : Bool) → nat_lt s e.source ≡ b → (c : Bool) → leaves a s e ≡ c → Found a es (s + 1) → Found a es s
        → IsDead a (e ∷ es) s (cond b s (dead_from a es (behind c s)))
    go true is c leads one same = let below : s < e.source = grind (arith, nat_tests) in
        stopped a e es s below ascends.0
    go false is true leads one same = led_on a e es s (dead_from a es (s + 1)) leads one
    go false is false leads one same =
        let source : e.source ≤ s = grind (arith, nat_tests) in passed a e es s (dead_from a es s) source leads same

-- ---- the walk along the edges, from its place i on

pub walk_stops : (a : List ℕ) (es : List Edge) (i s : ℕ) (e : Edge) → i < length es → e ≡ get_or es i e → s < e.source
    → s ≡ dead_from a (drop i es) s
walk_stops a es i s e here is below =
    let first = drop_more es i e here ∙ ap (λ f. f ∷ drop (i + 1) es) (sym is) in
    let test : nat_lt s e.source ≡ true = grind (arith, nat_tests) in
    sym (ap (λ fs. dead_from a fs s) first
    ∙ ap (λ b. cond b s (dead_from a (drop (i + 1) es) (behind (leaves a s e) s))) test)

pub walk_ends : (a : List ℕ) (es : List Edge) (i s : ℕ) → length es ≤ i → dead_from a (drop i es) s ≡ s
walk_ends a es i s past = ap (λ fs. dead_from a fs s) (drop_all i es past)

-- ---- what is found in a structure

pub least_dead : (m : Structure) (a : List ℕ) (d : ℕ)
    → IsStrictlySortedBy edge_cmp m.edges
    → dead_from a m.edges 0 ≡ d
    → d < m.states
    → IsLeastDead m a d
least_dead m a d ascends is below =
    let found = subst (IsDead a m.edges 0) is (dead_found a m.edges 0 ascends) in
    record {
      is_state = below;
      is_dead = λ holds. let never = found.is_dead in cc;
      others_go_on = λ t less. found.go_on t (omega arith) less;
    }

pub all_go_on : (m : Structure) (a : List ℕ) (d : ℕ)
    → IsStrictlySortedBy edge_cmp m.edges
    → dead_from a m.edges 0 ≡ d
    → (d < m.states → ⊥)
    → IsTotal m a
all_go_on m a d ascends is past =
    let found = subst (IsDead a m.edges 0) is (dead_found a m.edges 0 ascends) in
    λ s below. found.go_on s (omega arith) (omega (arith, below, past))

pub total_or_dead : (m : Structure) (a : List ℕ) (o : Option ℕ)
    → MatchOption o (IsTotal m a) (IsLeastDead m a)
    → IsTrue (is_none o) ↔ IsTotal m a
total_or_dead m a None total = (λ is. total, λ is. refl)
total_or_dead m a (Some s) dead = (λ none. absurd (cc), λ total. absurd (dead.is_dead (total s dead.is_state)))
