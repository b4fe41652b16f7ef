-- The nodes that a branch reached: each stands on the trail once, at the place that is known of it.
--
--   trail_few     == no more nodes stand on a trail than there are
--   stands_once   == a node stands on it exactly where its place says so
--   placed_none, placed_more, placed_front == the empty trail, one node more, and the front of a trail
--   joined_none, joined_old, joined_new == no node, one that was reached before, and one that wasn't
--   joined_two, joined_more == nodes in two parts, and one node more of a list
--   joined_kept   == what was reached stays
--   stands_told   == what a look at the place of a node tells
use Rattle.std.proofs.Common.{ℕ, ◌≡◌, ◌+◌, ◌<◌, ◌≤◌, ◌⊎◌, ◌↔◌, inl, inr, ⊎_elim, List, [], ◌∷◌, ◌++◌, length, get_or, set, take, refl, sym, ap, ◌∙◌, subst, arith}
use Rattle.std.proofs.Common.{length-append, append-nil, append_assoc, OnOk, Result, Ok, Err, Bool, IsTrue}
use Rattle.std.proofs.Math.Seq.{get_or-append_seam}
use Rattle.std.proofs.lemmas.Bool.{cases_lt}
use Rattle.std.proofs.lemmas.List.{length-set, length-take, get_or-set_same, get_or-set_other, get_or_append_left, get_or-take, take_more}
use Rattle.ml_lists.specs.Member.{IsMember}
use Rattle.ml_lists.proofs.Member.{member-append, member-append_left, member-append_right, member-place, place-member}
use Rattle.ml_lists.proofs.Pigeons.{TwiceInList, pigeons_list}
use Rattle.ml_sequent.specs.private.Trails.{ArePlaced, IsJoined}

-- no more nodes stand on a trail than there are
pub trail_few : (places nodes : List ℕ) → ArePlaced places nodes → length nodes ≤ length places
trail_few places nodes are = ⊎_elim
    (λ (more : length places < length nodes). twice (pigeons_list (length places) nodes more are.low))
    (λ (few : length nodes ≤ length places). few)
    (cases_lt (length places) (length nodes))
  where
    twice : TwiceInList nodes → length nodes ≤ length places
    twice t =
        let low : t.first < length nodes = omega (arith, t.apart, t.within) in
        let first = are.placed t.first low in
        let second = are.placed t.second t.within in
        let same = ap (λ k. get_or places k 0) (t.same 0) in
        absurd (omega (arith, t.apart, first, second, same))

-- a node stands on it exactly where its place says so
pub stands_once : (places nodes : List ℕ) (n : ℕ) → ArePlaced places nodes
    → ((get_or places n 0 < length nodes) × (get_or nodes (get_or places n 0) 0 ≡ n)) ↔ IsMember n nodes
stands_once places nodes n are = (
  (λ h. subst (λ x. IsMember x nodes) h.1 (place-member nodes (get_or places n 0) 0 h.0)),
  (λ h. at (member-place n nodes h).place (member-place n nodes h).below ((member-place n nodes h).holds 0)),
)
  where
    at : (i : ℕ) → i < length nodes → get_or nodes i 0 ≡ n
        → (get_or places n 0 < length nodes) × (get_or nodes (get_or places n 0) 0 ≡ n)
    at i low holds =
        let here : get_or places n 0 ≡ i = ap (λ k. get_or places k 0) (sym holds) ∙ are.placed i low in
        (omega arith, ap (λ k. get_or nodes k 0) here ∙ holds)

pub member_low : (places nodes : List ℕ) (n : ℕ) → ArePlaced places nodes → IsMember n nodes → n < length places
member_low places nodes n are h =
    let p = member-place n nodes h in
    subst (λ k. k < length places) (p.holds 0) (are.low p.place p.below)

pub placed_none : (places : List ℕ) → ArePlaced places []
placed_none places = record { low = λ i low. absurd (omega arith); placed = λ i low. absurd (omega arith) }

pub placed_more : (places nodes : List ℕ) (n : ℕ) → ArePlaced places nodes
    → n < length places
    → (IsMember n nodes → ⊥)
    → ArePlaced (set places n (length nodes)) (nodes ++ n ∷ [])
placed_more places nodes n are low fresh = record {
  low = λ i i_low. low_at i (cases_lt i (length nodes)) (omega (arith, i_low, length-append nodes (n ∷ [])));
  placed = λ i i_low. placed_at i (cases_lt i (length nodes)) (omega (arith, i_low, length-append nodes (n ∷ [])));
}
  where
    before : (i : ℕ) → i < length nodes → get_or (nodes ++ n ∷ []) i 0 ≡ get_or nodes i 0
    before i i_low = get_or_append_left nodes (n ∷ []) 0 i i_low

    last : (i : ℕ) → length nodes ≤ i → i < length nodes + 1 → get_or (nodes ++ n ∷ []) i 0 ≡ n
    last i high i_low =
        let here : i ≡ length nodes = omega arith in
        ap (λ k. get_or (nodes ++ n ∷ []) k 0) here ∙ get_or-append_seam nodes n [] 0

    low_at : (i : ℕ) → (i < length nodes) ⊎ (length nodes ≤ i) → i < length nodes + 1
        → get_or (nodes ++ n ∷ []) i 0 < length (set places n (length nodes))
    low_at i (inl i_low) fits = omega (arith, before i i_low, are.low i i_low, length-set places n (length nodes))
    low_at i (inr high) fits = omega (arith, last i high fits, length-set places n (length nodes))

    placed_at : (i : ℕ) → (i < length nodes) ⊎ (length nodes ≤ i) → i < length nodes + 1
        → get_or (set places n (length nodes)) (get_or (nodes ++ n ∷ []) i 0) 0 ≡ i
    placed_at i (inl i_low) fits =
        let other : get_or nodes i 0 ≡ n → ⊥ = λ e. fresh (subst (λ x. IsMember x nodes) e (place-member nodes i 0 i_low)) in
        ap (λ k. get_or (set places n (length nodes)) k 0) (before i i_low)
        ∙ get_or-set_other places n (get_or nodes i 0) (length nodes) 0 other
        ∙ are.placed i i_low
    placed_at i (inr high) fits =
        let here : length nodes ≡ i = omega arith in
        ap (λ k. get_or (set places n (length nodes)) k 0) (last i high fits)
        ∙ get_or-set_same places n (length nodes) 0 low
        ∙ here

pub placed_front : (places nodes : List ℕ) (len : ℕ) → ArePlaced places nodes → ArePlaced places (take len nodes)
placed_front places nodes len are = record {
  low = λ i low. subst (λ k. k < length places) (sym (same i low)) (are.low i (omega (arith, low, length-take len nodes)));
  placed = λ i low. ap (λ k. get_or places k 0) (same i low) ∙ are.placed i (omega (arith, low, length-take len nodes));
}
  where
    same : (i : ℕ) → i < length (take len nodes) → get_or (take len nodes) i 0 ≡ get_or nodes i 0
    same i low = get_or-take len nodes i 0 (omega (arith, low, length-take len nodes))

-- ---- nodes that are reached

pub joined_none : (nodes : List ℕ) → IsJoined [] nodes nodes
joined_none nodes = record { new = []; grown = sym (append-nil nodes); all = λ k h. absurd h; only = λ k h. absurd h }

pub joined_old : (nodes : List ℕ) (n : ℕ) → IsMember n nodes → IsJoined (n ∷ []) nodes nodes
joined_old nodes n h = record { new = []; grown = sym (append-nil nodes); all = all; only = λ k none. absurd none }
  where
    all : (k : ℕ) → IsMember k (n ∷ []) → IsMember k nodes
    all k (inl e) = subst (λ x. IsMember x nodes) (sym e) h
    all k (inr none) = absurd none

pub joined_new : (nodes : List ℕ) (n : ℕ) → IsJoined (n ∷ []) nodes (nodes ++ n ∷ [])
joined_new nodes n = record { new = n ∷ []; grown = refl; all = λ k h. member-append_right k nodes (n ∷ []) h; only = λ k h. h }

-- what was reached stays
pub joined_kept : (ks nodes nodes2 : List ℕ) → IsJoined ks nodes nodes2 → (m : ℕ) → IsMember m nodes → IsMember m nodes2
joined_kept ks nodes nodes2 j m h = subst (IsMember m) (sym j.grown) (member-append_left m nodes j.new h)

pub joined_both : (ks js nodes nodes2 nodes3 : List ℕ)
    → IsJoined ks nodes nodes2
    → IsJoined js nodes2 nodes3
    → IsJoined (ks ++ js) nodes nodes3
joined_both ks js nodes nodes2 nodes3 one two = record {
  new = one.new ++ two.new;
  grown = two.grown ∙ ap (λ xs. xs ++ two.new) one.grown ∙ append_assoc nodes one.new two.new;
  all =
      λ k h. ⊎_elim (λ (left : IsMember k ks). joined_kept js nodes2 nodes3 two k (one.all k left))
      (λ (right : IsMember k js). two.all k right) (member-append k ks js h);
  only =
      λ k h. ⊎_elim (λ (left : IsMember k one.new). member-append_left k ks js (one.only k left))
      (λ (right : IsMember k two.new). member-append_right k ks js (two.only k right))
      (member-append k one.new two.new h);
}

-- nodes in two parts, where the second one is the answer
pub joined_two : {T E : Type 0} → (ks js whole nodes nodes2 nodes3 : List ℕ) (answer : Result T E)
    → IsJoined ks nodes nodes2
    → OnOk answer (IsJoined js nodes2 nodes3)
    → whole ≡ ks ++ js
    → OnOk answer (IsJoined whole nodes nodes3)
joined_two ks js whole nodes nodes2 nodes3 (Ok u) one two is =
    subst (λ xs. IsJoined xs nodes nodes3) (sym is) (joined_both ks js nodes nodes2 nodes3 one two)
joined_two ks js whole nodes nodes2 nodes3 (Err e) one two is = two

-- one node more of a list
pub joined_more : (ks : List ℕ) (i : ℕ) (nodes nodes2 nodes3 : List ℕ)
    → i < length ks
    → IsJoined (take i ks) nodes nodes2
    → IsJoined (get_or ks i 0 ∷ []) nodes2 nodes3
    → IsJoined (take (i + 1) ks) nodes nodes3
joined_more ks i nodes nodes2 nodes3 low one two =
    subst (λ xs. IsJoined xs nodes nodes3) (sym (take_more ks i 0 low))
    (joined_both (take i ks) (get_or ks i 0 ∷ []) nodes nodes2 nodes3 one two)

-- what a look at the place of a node tells
pub stands_told : (places nodes nodes2 : List ℕ) (n p : ℕ) (b : Bool) → ArePlaced places nodes
    → nodes2 ≡ nodes
    → p ≡ get_or places n 0
    → (IsTrue b ↔ ((p < length nodes2) × (get_or nodes2 p 0 ≡ n)))
    → IsTrue b ↔ IsMember n nodes
stands_told places nodes nodes2 n p b are same at told = ((λ h. once.0 (here.0 h)), (λ h. here.1 (once.1 h)))
  where
    once : ((get_or places n 0 < length nodes) × (get_or nodes (get_or places n 0) 0 ≡ n)) ↔ IsMember n nodes
    once = stands_once places nodes n are

    there : IsTrue b ↔ ((p < length nodes) × (get_or nodes p 0 ≡ n))
    there = subst (λ (xs : List ℕ). IsTrue b ↔ ((p < length xs) × (get_or xs p 0 ≡ n))) same told

    here : IsTrue b ↔ ((get_or places n 0 < length nodes) × (get_or nodes (get_or places n 0) 0 ≡ n))
    here = subst (λ (k : ℕ). IsTrue b ↔ ((k < length nodes) × (get_or nodes k 0 ≡ n))) at there
