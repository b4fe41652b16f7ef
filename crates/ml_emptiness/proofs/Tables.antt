-- What the program reads of a system and of its letters.
--
--   moves_are    == the moves of a state are those that a vector holds
--   goes_low     == only a state has moves
--   read_low, to_low == a move that is read has a letter, and leads to a state
--   step_next    == the moves up to the next one
--   joint_here   == a move with the transitions along it
--   joins_of     == they join two pairs
--   pair_low     == each pair has a state of the system
--   stem_end     == no pair behind the last one
use Rattle.std.proofs.Common.{ℕ, zero, suc, ◌≡◌, ◌↔◌, ◌+◌, ◌<◌, ◌≤◌, ◌⊎◌, inl, inr, arith, Bool, true, false, List, [], ◌∷◌, ◌++◌}
use Rattle.std.proofs.Common.{length, get_or, take, map, Some, None, refl, sym, ap, ◌∙◌, subst, slice_get, IsTrue, not, ◌==◌}
use Rattle.std.specs.Global.{Vec}
use Rattle.std.specs.List.{list_any}
use Rattle.std.proofs.lemmas.Bool.{cases_lt, and_parts, and_from, eqb-true, eq-eqb, not-true}
use Rattle.std.proofs.lemmas.List.{get_or-map, get_or_default, get_or_past, length-map}
use Rattle.std.proofs.lemmas.Option.{same_Some, slice_get_within}
use Rattle.ml_lists.specs.Member.{IsMember}
use Rattle.ml_lists.proofs.Entries.{some_entry}
use Rattle.ml_lists.proofs.Member.{Passing, list_any-member, member-list_any, place-member}
use Rattle.ml_trace.specs.declared.letters.Transition.{Transition}
use Rattle.ml_trace.specs.Run.{in_letter}
use Rattle.ml_emptiness.specs.Systems.{Goes, IsSystem, SystemTable, moves_of, table_of}
use Rattle.ml_emptiness.specs.private.Leaving.{IsLeaving, is_to}
use Rattle.ml_emptiness.specs.private.Pairs.{AreJoint, AreMet, IsPartly, Joins, pair}
use Rattle.ml_emptiness.specs.declared.pairs.Origin.{Origin}
use Rattle.ml_emptiness.specs.declared.pairs.Pair.{Pair}
use Rattle.ml_emptiness.specs.declared.systems.Move.{Move}
use Rattle.ml_emptiness.proofs.Letters.{next_entry}
use Rattle.ml_parity.specs.declared.one_sided.graph.Arc.{Arc}

no_move : Move
no_move = record { letter = 0; to = 0 }

pub moves_are : (system : List (Vec Move)) (a : ℕ) (row : Vec Move) (xs : List Move)
    → a < length system
    → xs ≡ (get_or system a row).items
    → moves_of (table_of system) a ≡ xs
moves_are system a row xs low is = get_or-map (λ (v : Vec Move). v.items) system a row [] low ∙ sym is

pub goes_low : (s : SystemTable) (a l b : ℕ) → Goes s a l b → a < length s
goes_low s a l b goes = by_place (cases_lt a (length s))
  where
    by_place : (a < length s) ⊎ (length s ≤ a) → a < length s
    by_place (inl low) = low
    by_place (inr high) =
        absurd (subst (IsMember {X = Move} (record { letter = l; to = b })) (get_or_past s a [] high) goes)

pub table_long : (system : List (Vec Move)) → length (table_of system) ≡ length system
table_long system = length-map system (λ (v : Vec Move). v.items)

module _ (letters : ℕ) (s : SystemTable) (a : ℕ) (xs : List Move) (sys : IsSystem letters s)
    (are : moves_of s a ≡ xs) (i : ℕ) (m : Move) (low : i < length xs) (is : m ≡ get_or xs i m) where
  pub move_member : IsMember m (moves_of s a)
  move_member =
      subst (IsMember m) (sym are) (subst (λ n. IsMember n xs) (sym is) (place-member xs i m low))

  pub read_low : m.letter < letters
  read_low = sys.read a m move_member

  pub step_next : take (i + 1) (moves_of s a) ≡ take i (moves_of s a) ++ m ∷ []
  step_next =
      ap (take (i + 1)) are ∙ next_entry xs i m low is ∙ ap (λ ys. take i ys ++ m ∷ []) (sym are)

-- an entry, read with any default
pub entry_is : {X : Type 0} (xs : List X) (i : ℕ) (d : X) → i < length xs → get_or xs i d ≡ get_or xs i (get_or xs i d)
entry_is xs i d low = get_or_default xs i d (get_or xs i d) low

pub joint_here : (row : List (List Transition)) (s : SystemTable) (x : Pair) (m : Move) (ts letter : List Transition)
    → IsMember m (moves_of s x.state)
    → letter ≡ get_or row m.letter []
    → IsLeaving letter x.at ts
    → AreJoint row s x m ts
joint_here row s x m ts letter member is leaving = (
  member,
  λ t. subst
      (λ (us : List Transition). IsMember t ts ↔ (IsMember t us × (t.from ≡ x.at))) is (leaving t),
)

pub joins_of : (row : List (List Transition)) (s : SystemTable) (x : Pair) (m : Move) (ts : List Transition) (t : Transition)
    → AreJoint row s x m ts
    → IsMember t ts
    → Joins row s x m.letter (pair m.to t.to) t.accepting
joins_of row s x m ts t joint member =
    let h = (joint.1 t).0 member in
    record {
      goes = joint.0;
      is_read =
          subst (λ q. IsMember {X = Transition} (record { from = q; to = t.to; accepting = t.accepting }) (get_or row m.letter []))
          h.1 h.0;
    }

pub pair_low : (letters : ℕ) (row : List (List Transition)) (s : SystemTable) (pairs : List Pair) (origins : List Origin)
    → IsSystem letters s
    → AreMet row s pairs origins
    → (i : ℕ) (x : Pair) → slice_get pairs i ≡ Some x
    → x.state < length s
pair_low letters row s pairs origins sys met zero x at =
    let e : pair 0 0 ≡ x = same_Some (pair 0 0) x (sym met.begins ∙ at) in
    subst (λ (y : Pair). y.state < length s) e sys.some
pair_low letters row s pairs origins sys met (suc i) x at =
    let m = met.are_met (suc i) (omega arith) (slice_get_within pairs (suc i) x at) in
    let e : m.target ≡ x = same_Some m.target x (sym m.is_target ∙ at) in
    let l = sys.leads m.source.state (record { letter = (get_or origins (suc i) (record { from = 0; letter = 0 })).letter; to = m.target.state }) m.joins.goes in
    subst (λ (y : Pair). y.state < length s) e l

pub partly_at_end : (row : List (List Transition)) (s : SystemTable) (pairs : List Pair) (arcs : List Arc) (origins : List Origin) (k : ℕ)
    → IsPartly row s pairs arcs origins k
    → slice_get pairs k ≡ None
    → IsPartly row s pairs arcs origins (length pairs)
partly_at_end row s pairs arcs origins k partly none = record {
  met = partly.met;
  once = partly.once;
  are_joint = partly.are_joint;
  are_left = λ j low. partly.are_left j (before j low (cases_lt k (length pairs)));
}
  where
    before : (j : ℕ) → j < length pairs → (k < length pairs) ⊎ (length pairs ≤ k) → j < k
    before j low (inl here) = let e = some_entry pairs k here in absurd (clash e.0 (sym none ∙ e.1))
      where
        clash : (x : Pair) → None ≡ Some x → ⊥
        clash x e = cc
    before j low (inr end) = omega arith

-- ---- transitions that are looked for

same_to : (r : ℕ) (accepting : Bool) (t : Transition) → is_to r accepting t ≡ true → (t.to ≡ r) × (t.accepting ≡ accepting)
same_to r true t e = let p = and_parts (t.to == r) t.accepting e in (eqb-true t.to r p.0, p.1)
same_to r false t e = let p = and_parts (t.to == r) (not t.accepting) e in (eqb-true t.to r p.0, not-true t.accepting p.1)

own_to : (r : ℕ) (accepting : Bool) (q : ℕ) → is_to r accepting (record { from = q; to = r; accepting = accepting }) ≡ true
own_to r true q = and_from (r == r) true (eq-eqb r r refl) refl
own_to r false q = and_from (r == r) true (eq-eqb r r refl) refl

pub reads_so : (ts xs : List Transition) (q r : ℕ) (accepting b : Bool)
    → IsLeaving ts q xs
    → b ≡ list_any (is_to r accepting) xs
    → IsTrue b ↔ in_letter ts q r accepting
reads_so ts xs q r accepting b leaving is = (
  λ h. found (list_any-member (is_to r accepting) xs (sym is ∙ h)),
  λ m. is ∙ member-list_any (is_to r accepting) (record { from = q; to = r; accepting = accepting }) xs
      ((leaving (record { from = q; to = r; accepting = accepting })).1 (m, refl)) (own_to r accepting q),
)
  where
    found_at : (t : Transition) → IsMember t xs → is_to r accepting t ≡ true → in_letter ts q r accepting
    found_at t m e =
        let l = (leaving t).0 m in
        let p = same_to r accepting t e in
        let same : t ≡ record { from = q; to = r; accepting = accepting } =
        λ i. record { from = l.1 i; to = p.0 i; accepting = p.1 i } in
        subst (λ u. IsMember u ts) same l.0

    found : Passing (is_to r accepting) xs → in_letter ts q r accepting
    found s = found_at s.item s.member s.passes
