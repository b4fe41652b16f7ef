-- What the places of a trail tell of its spread: clashes, and the least open or-node.
--
--   operand_of    == a local child of a node is one of its operands
--   falls_along   == along a local walk from a node with a rank no rank is greater
--   none_clashes  == where no place has a conflict or may lie on a cycle, nothing clashes
--   conflict_told == a place with a conflict is a cause
--   least_told    == the least candidate that is open is the least open or-node
--   none_when     == where a test fails that says whether there is something, there is nothing
--   picked_ascending == what is picked of a trail, ascending, is picked of the ascending trail
use Rattle.std.proofs.Common.{ℕ, ◌≡◌, ◌<◌, ◌≤◌, ◌⊎◌, inl, inr, ◌↔◌, Bool, true, false, IsTrue, List, [], ◌∷◌, length, get_or, filter, Option, Some, None, MatchOption, refl, sym, ap, ◌∙◌, subst, arith}
use Rattle.std.proofs.lemmas.Bool.{cases_lt}
use Rattle.ml_lists.specs.Member.{IsMember}
use Rattle.ml_lists.specs.Ascending.{ascending}
use Rattle.ml_lists.proofs.Member.{member-place, place-member, member-filter, member-filter_from}
use Rattle.ml_lists.proofs.Ascending.{ascending-member, member-ascending, ascending-is, ascending-filter, ascending_same}
use Rattle.ml_graph.specs.declared.node.Node.{Node}
use Rattle.ml_graph.specs.declared.node.Node.TheVariants as node
use Rattle.ml_graph.specs.Graph.{Graph, node_at}
use Rattle.ml_sequent.specs.declared.choice.Side.{Side}
use Rattle.ml_sequent.specs.declared.choice.Side.TheVariants.{Left, Right}
use Rattle.ml_sequent.specs.declared.clashes.ClashCause.{ClashCause}
use Rattle.ml_sequent.specs.declared.clashes.ClashCause.TheVariants as cause
use Rattle.ml_sequent.specs.Choice.{side_of}
use Rattle.ml_sequent.specs.LocalWalk.{LocalWalk, stays, goes, children, children_of, chosen_child}
use Rattle.ml_sequent.specs.Spread.{IsCause, IsPair, OnCycle, IsOpenOr, IsLeastOpenOr}
use Rattle.ml_sequent.specs.private.ConnectedParts.{IsLeast}
use Rattle.ml_sequent.specs.private.Descents.{operands, Falls, MayCycle}
use Rattle.ml_sequent.specs.private.Notes.{NotesList, IsConflict, IsFirstPlace, IsNoted, IsOpenAt, HasOpen, other}
use Rattle.ml_sequent.specs.private.Tournament.{TournamentList, Holds}
use Rattle.ml_sequent.specs.private.Trails.{spread_at}

-- ---- cycles

-- a local child of a node is one of its operands
operand_of : (c : List (ℕ × Side)) (n m : ℕ) (x : Node) (o : Option Side) → side_of c n ≡ o → IsMember m
    (children_of c n x)
    → IsMember m (operands x)
operand_of c n m node.True o is h = h
operand_of c n m node.False o is h = h
operand_of c n m (node.Lit p positive) o is h = h
operand_of c n m (node.And l r) o is h = h
operand_of c n m (node.Or l r) None is h = absurd (subst (λ s. IsMember m (chosen_child s l r)) is h)
operand_of c n m (node.Or l r) (Some Left) is h = first (subst (λ s. IsMember m (chosen_child s l r)) is h)
  where
    first : IsMember m (l ∷ []) → IsMember m (l ∷ r ∷ [])
    first (inl e) = inl e
    first (inr none) = absurd none
operand_of c n m (node.Or l r) (Some Right) is h = inr (subst (λ s. IsMember m (chosen_child s l r)) is h)
operand_of c n m (node.Diamond a to) o is h = h
operand_of c n m (node.Square a to) o is h = h

module _ (g : Graph) (ranks : List ℕ) (falls : Falls g ranks) (c : List (ℕ × Side)) where
  child_falls : (n m : ℕ) → 0 < get_or ranks n 0 → IsMember m (children g c n)
      → (0 < get_or ranks m 0) × (get_or ranks m 0 < get_or ranks n 0)
  child_falls n m some h = falls.falls n m some (operand_of c n m (node_at g n) (side_of c n) refl h)

  -- along a local walk from a node with a rank no rank is greater
  falls_along : (n k m : ℕ) → LocalWalk g c n k m → 0 < get_or ranks n 0 → get_or ranks m 0 ≤ get_or ranks n 0
  falls_along n _ _ (stays _) some = omega arith
  falls_along n _ m (goes _ next child walk) some =
      let less = child_falls n next some child in
      let rest = falls_along next _ m walk less.0 in
      let step = less.1 in
      omega arith

  -- so a node with a rank lies on no cycle
  no_cycle : (n : ℕ) → 0 < get_or ranks n 0 → OnCycle g c n → ⊥
  no_cycle n some o =
      let less = child_falls n o.next some o.child in
      let rest = falls_along o.next o.lowest n o.walk less.0 in
      let step = less.1 in
      absurd (omega arith)

-- ---- clashes

module _ (g : Graph) (ranks nodes : List ℕ) (c : List (ℕ × Side)) (x : NotesList)
    (is : IsNoted g ranks nodes x.done x) where
  -- where no place has a conflict or may lie on a cycle, nothing clashes
  pub none_clashes : Falls g ranks → x.done ≡ length nodes → x.conflict ≡ None → x.suspect ≡ None
      → (y : ClashCause) → IsCause g (spread_at nodes c) y → ⊥
  none_clashes falls all no_conflict no_suspect = by_cause
    where
      calm : (j : ℕ) → j < length nodes → IsConflict g nodes j → ⊥
      calm j low = (subst (IsFirstPlace (IsConflict g nodes) x.done) no_conflict is.conflict) j
          (omega (arith, low, all))

      ranked : (j : ℕ) → j < length nodes → MayCycle g ranks (get_or nodes j 0) → ⊥
      ranked j low =
          (subst (IsFirstPlace (λ i. MayCycle g ranks (get_or nodes i 0)) x.done) no_suspect is.suspect) j
          (omega (arith, low, all))

      opposed : (i j p : ℕ) (positive : Bool) → i < j → j < length nodes → node_at g (get_or nodes j 0) ≡ node.Lit
          p positive
          → node_at g (get_or nodes i 0) ≡ node.Lit p (other positive)
          → ⊥
      opposed i j p positive before low here there =
          calm j low (inr (record {
            prop = p;
            positive = positive;
            here = here;
            there = record
                { place = i; before = before; is = there };
          }))

      pair : (i j : ℕ) → i < length nodes → j < length nodes → IsPair g (get_or nodes i 0) (get_or nodes j 0)
          → (i < j) ⊎ (j ≤ i)
          → (j < i) ⊎ (i ≤ j)
          → ⊥
      pair i j i_low j_low q (inl before) second = opposed i j q.prop false before j_low q.negative q.positive
      pair i j i_low j_low q (inr more) (inl before) = opposed j i q.prop true before i_low q.positive q.negative
      pair i j i_low j_low q (inr more) (inr less) =
          let same : i ≡ j = omega arith in
          let both = sym q.positive ∙ ap (λ k. node_at g (get_or nodes k 0)) same ∙ q.negative in
          absurd (cc)

      by_cause : (y : ClashCause) → IsCause g (spread_at nodes c) y → ⊥
      by_cause (cause.False n) (m, e) =
          let p = member-place n nodes (ascending-member n nodes m) in
          calm p.place p.below (inl (ap (node_at g) (p.holds 0) ∙ e))
      by_cause (cause.Pair n m) (n_in, m_in, q) =
          let p = member-place n nodes (ascending-member n nodes n_in) in
          let r = member-place m nodes (ascending-member m nodes m_in) in
          pair p.place r.place p.below r.below
          (subst (λ k. IsPair g k (get_or nodes r.place 0)) (sym (p.holds 0)) (subst (IsPair g n) (sym (r.holds 0)) q))
          (cases_lt p.place r.place) (cases_lt r.place p.place)
      by_cause (cause.Cycle n) (m, (odd, on)) = by_rank (cases_lt 0 (get_or ranks n 0))
        where
          by_rank : (0 < get_or ranks n 0) ⊎ (get_or ranks n 0 ≤ 0) → ⊥
          by_rank (inl some) = no_cycle g ranks falls c n some on
          by_rank (inr none) =
              let p = member-place n nodes (ascending-member n nodes m) in
              let unranked : get_or ranks n 0 ≡ 0 = omega arith in
              ranked p.place p.below (subst (MayCycle g ranks) (sym (p.holds 0)) (odd, unranked))

  -- a place with a conflict is a cause
  pub conflict_told : x.done ≤ length nodes → (x.conflict ≡ None → ⊥) → (y : ClashCause) × IsCause g
      (spread_at nodes c) y
  conflict_told within some = by_conflict x.conflict refl
    where
      at : (b : ℕ) → b < length nodes → IsConflict g nodes b → (y : ClashCause) × IsCause g (spread_at nodes c) y
      at b low (inl e) =
          (cause.False (get_or nodes b 0), (member-ascending (get_or nodes b 0) nodes (place-member nodes b 0 low), e))
      at b low (inr o) = by_sign o.positive refl
        where
          here : IsMember (get_or nodes b 0) (ascending nodes)
          here = member-ascending (get_or nodes b 0) nodes (place-member nodes b 0 low)

          there : IsMember (get_or nodes o.there.place 0) (ascending nodes)
          there = member-ascending (get_or nodes o.there.place 0) nodes
              (place-member nodes o.there.place 0 (omega (arith, o.there.before)))

          by_sign : (s : Bool) → o.positive ≡ s → (y : ClashCause) × IsCause g (spread_at nodes c) y
          by_sign true e = (
            cause.Pair (get_or nodes b 0) (get_or nodes o.there.place 0),
            (
              here,
              there,
              record {
                prop = o.prop;
                positive = o.here ∙ ap (node.Lit o.prop) e;
                negative = o.there.is ∙ ap (λ s. node.Lit o.prop (other s)) e;
              },
            ),
          )
          by_sign false e = (
            cause.Pair (get_or nodes o.there.place 0) (get_or nodes b 0),
            (
              there,
              here,
              record {
                prop = o.prop;
                positive = o.there.is ∙ ap (λ s. node.Lit o.prop (other s)) e;
                negative = o.here ∙ ap (node.Lit o.prop) e;
              },
            ),
          )

      by_conflict : (o : Option ℕ) → x.conflict ≡ o → (y : ClashCause) × IsCause g (spread_at nodes c) y
      by_conflict None e = absurd (some e)
      by_conflict (Some b) e =
          let first = subst (IsFirstPlace (IsConflict g nodes) x.done) e is.conflict in
          let low = first.0 in
          at b (omega (arith, within)) first.1

-- ---- open or-nodes

-- the least candidate that is open is the least open or-node
pub least_told : (g : Graph) (c : List (ℕ × Side)) (nodes : List ℕ) (k : ℕ) (t : TournamentList) (o : Option ℕ)
    → k ≡ length nodes
    → HasOpen g c nodes k t
    → IsLeast (λ n. Holds t n × IsOpenAt g c nodes n) o
    → MatchOption o ((n : ℕ) → IsOpenOr g (spread_at nodes c) n → ⊥) (IsLeastOpenOr g (spread_at nodes c))
least_told g c nodes k t o all has is = by_answer o is
  where
    open_at : (n : ℕ) → IsOpenOr g (spread_at nodes c) n → IsOpenAt g c nodes n
    open_at n h = record { member = ascending-member n nodes h.member; is_open = h.is_open }

    holds : (n : ℕ) → IsOpenAt g c nodes n → Holds t n
    holds n h =
        let p = member-place n nodes h.member in
        subst (Holds t) (p.holds 0)
        (has p.place (omega (arith, p.below, all)) (subst (λ m. IsOpenAt g c nodes m) (sym (p.holds 0)) h).is_open)

    by_answer : (o : Option ℕ) → IsLeast (λ n. Holds t n × IsOpenAt g c nodes n) o
        → MatchOption o ((n : ℕ) → IsOpenOr g (spread_at nodes c) n → ⊥) (IsLeastOpenOr g (spread_at nodes c))
    by_answer None none = λ n h. none n (holds n (open_at n h), open_at n h)
    by_answer (Some b) least = record {
      is_open = record { member = member-ascending b nodes least.0.1.member; is_open = least.0.1.is_open };
      least = λ m less h. (let more = least.1 m (holds m (open_at m h), open_at m h) in absurd (omega arith));
    }

-- ---- diamonds

-- what is picked of a trail, ascending, is picked of the ascending trail
pub picked_ascending : (test : ℕ → Bool) (xs : List ℕ) → ascending (filter test xs) ≡ filter test (ascending xs)
picked_ascending test xs =
    ascending_same (ascending (filter test xs)) (filter test (ascending xs)) (ascending-is (filter test xs))
    (ascending-filter test (ascending xs) (ascending-is xs))
    (λ v m. (let found = member-filter_from test v xs (ascending-member v (filter test xs) m) in
    member-filter test v (ascending xs) (member-ascending v xs found.0) found.1))
    (λ v m. (let found = member-filter_from test v (ascending xs) m in
    member-ascending v (filter test xs) (member-filter test v xs (ascending-member v xs found.0) found.1)))

-- ---- answers

-- where a test fails that says whether there is something, there is nothing
pub none_when : (o : Option ℕ) (b : Bool) → IsTrue b ↔ (o ≡ None → ⊥) → b ≡ false → o ≡ None
none_when None b told is = refl
none_when (Some n) b told is = let yes = told.1 (λ e. cc) in absurd (cc)
