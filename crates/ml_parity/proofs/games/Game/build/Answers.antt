-- What the two searches found, or did not find, is what each clause says of the lists.
use Rattle.std.proofs.Common.{ℕ, ◌≡◌, ◌<◌, arith, subst, sym, ◌∙◌, refl, List, length}
use Rattle.std.specs.Global.{Vec}
use Rattle.ml_lists.specs.Search.{IsFirst}
use Rattle.ml_lists.proofs.Search.{first_unique}
use Rattle.ml_parity.specs.Refusal.{IsDeadEnd, LeavesRange, lists_of}
use Rattle.ml_parity.proofs.Refusals.{is_game, no_game}
use Rattle.ml_parity.proofs.games.Game.build.Goals as goal

-- what the slice is known to be without, the vector is without
none_in : (P : List (Vec ℕ) → ℕ → Type 0) (now items : List (Vec ℕ)) (n : ℕ)
    → now ≡ items
    → length now ≡ n
    → ((v : ℕ) → v < length now → P now v → ⊥)
    → (v : ℕ)
    → v < n
    → P items v
    → ⊥
none_in P now items n same size none v low here = none v (omega arith) (subst (λ xs. P xs v) (sym same) here)

-- what is first in the slice is first in the vector
first_in : (now items : List (Vec ℕ)) (size n x : ℕ)
    → now ≡ items
    → size ≡ n
    → length now ≡ n
    → IsFirst (LeavesRange (lists_of now) size) (length now) x
    → IsFirst (LeavesRange (lists_of items) n) n x
first_in now items size n x same sizes long f =
    subst (λ k. IsFirst (LeavesRange (lists_of items) n) k x) long
    (subst (λ k. IsFirst (LeavesRange (lists_of items) k) (length now) x) sizes
    (subst (λ xs. IsFirst (LeavesRange (lists_of xs) size) (length now) x) same f))

-- the vertex that the search found leaves the range, and is the first to do so
found : (c : goal.After-drop-owner-in-Some-first_out_of_range)
    → IsFirst (LeavesRange (lists_of c.args.successors.items) c.args.owner.len) c.args.owner.len
    c.in-Some-first_out_of_range.vertex
found c = first_in c.deref-2.result.now c.args.successors.items c.len.result c.args.owner.len
    c.in-Some-first_out_of_range.vertex c.deref-2.ensures.value c.len.ensures (c.deref-2.ensures.len ∙ c.requires.lists)
    c.in-Some-first_out_of_range.ensures

pub returns-in-Some-first_out_of_range-clause-accepted :
    goal.returns-in-Some-first_out_of_range-clause-accepted
returns-in-Some-first_out_of_range-clause-accepted c = (
  (λ h. cc),
  (λ game. absurd (no_game c.args.owner c.args.priority c.args.successors c.in-Some-first_out_of_range.vertex
      (found c).holds game)),
)

pub returns-in-Some-first_out_of_range-clause-out_of_range :
    goal.returns-in-Some-first_out_of_range-clause-out_of_range
returns-in-Some-first_out_of_range-clause-out_of_range c = λ v. (
  (λ is. (
    none_dead,
    subst (IsFirst (LeavesRange (lists_of c.args.successors.items) c.args.owner.len) c.args.owner.len)
        (let same : c.in-Some-first_out_of_range.vertex ≡ v = cc in same) (found c),
  )),
  (λ h. let same = first_unique (LeavesRange (lists_of c.args.successors.items) c.args.owner.len) c.args.owner.len
      c.in-Some-first_out_of_range.vertex v (found c) h.1 in cc),
)
  where
    none_dead : (w : ℕ) → w < c.args.owner.len → IsDeadEnd (lists_of c.args.successors.items) w → ⊥
    none_dead = none_in (λ xs w. IsDeadEnd (lists_of xs) w) c.deref.result.now c.args.successors.items c.args.owner.len
        c.deref.ensures.value (c.deref.ensures.len ∙ c.requires.lists) c.in_default.ensures

-- no vertex leaves the range
none_leaves : (c : goal.In_default-first_out_of_range)
    → (v : ℕ)
    → v < c.args.owner.len
    → LeavesRange (lists_of c.args.successors.items) c.args.owner.len v
    → ⊥
none_leaves c v low leaves =
    none_in (λ xs w. LeavesRange (lists_of xs) c.len.result w) c.deref-2.result.now c.args.successors.items
    c.args.owner.len c.deref-2.ensures.value (c.deref-2.ensures.len ∙ c.requires.lists)
    c.in_default-first_out_of_range.ensures v low
    (subst (λ k. LeavesRange (lists_of c.args.successors.items) k v) (sym c.len.ensures) leaves)

pub invariant_of-result : goal.invariant_of-result
invariant_of-result c =
    is_game c.args.owner c.args.priority c.args.successors c.requires.priorities c.requires.lists
    (none_in (λ xs w. IsDeadEnd (lists_of xs) w) c.deref.result.now c.args.successors.items c.args.owner.len
    c.deref.ensures.value (c.deref.ensures.len ∙ c.requires.lists) c.in_default.ensures)
    (none_leaves c)

pub returns-clause-accepted : goal.returns-clause-accepted
returns-clause-accepted c = ((λ h. invariant_of-result c), (λ h. refl))

pub returns-clause-out_of_range : goal.returns-clause-out_of_range
returns-clause-out_of_range c = λ v. ((λ h. cc), (λ h. absurd (none_leaves c v h.1.below h.1.holds)))
