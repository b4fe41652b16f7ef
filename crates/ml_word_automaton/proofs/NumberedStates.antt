-- Marked numbers, listed one by one, and the place of each.
--
--   numbered_none  == of none
--   numbered_more  == of one number more
--   numbers_held   == the marked states of a graph, as an automaton keeps them
--   state_at       == the node of a state is one
--   one_place      == two places of an ascending list with one number are one
use Rattle.std.proofs.Common.{ℕ, ◌≡◌, ◌+◌, ◌<◌, ◌≤◌, ◌⊎◌, ◌^◌, inl, inr, ⊎_elim, arith, Bool, true, false, if◌then◌else◌, List, [], ◌∷◌, ◌++◌, length, get_or, refl, sym, ap, ◌∙◌, subst, append-nil, length-append}
use Rattle.std.proofs.lemmas.Bool.{cases_eq, cases_lt}
use Rattle.std.proofs.lemmas.List.{get_or_append_left, get_or_past}
use Rattle.std.proofs.Math.Seq.{get_or-append_seam}
use Rattle.ml_lists.specs.Ascending.{IsAscending}
use Rattle.ml_lists.specs.Member.{IsMember}
use Rattle.ml_lists.proofs.Ascending.{ascending-apart, ascending-append}
use Rattle.ml_lists.proofs.Member.{member-append, member-append_left, member-append_right, place-member}
use Rattle.ml_graph.specs.Graph.{Graph, size}
use Rattle.ml_word_automaton.specs.Letters.{Automaton, HasItsStates, IsState, node_of}
use Rattle.ml_word_automaton.specs.private.Numbers.{AreMarked, AreNumbered, AreNumberedBelow, HasNumber, IsHeld, mark}

pub numbered_none : (marks : List Bool) → AreNumberedBelow 0 marks [] []
numbered_none marks = record {
  ascend = tt;
  members = λ n. ((λ m. absurd m), (λ both. let low = both.0 in absurd (omega (arith, low))));
  as_long = refl;
  few = omega arith;
  are_numbered = λ n m. absurd m;
}

module _ (k : ℕ) (marks : List Bool) (states numbers : List ℕ) (N : AreNumberedBelow k marks states numbers) where
  abbrev longer : List ℕ
  longer = numbers ++ length states ∷ []

  number_stays : (n : ℕ) → n < k → get_or longer n 0 ≡ get_or numbers n 0
  number_stays n low =
      let long = N.as_long in get_or_append_left numbers (length states ∷ []) 0 n (omega (arith, long, low))

  long_more : length longer ≡ k + 1
  long_more = let long = N.as_long in let more = length-append numbers (length states ∷ []) in omega (arith, long, more)

  low_member : (n : ℕ) → IsMember n states → n < k
  low_member n m = ((N.members n).0 m).0

  old_number : (more : List ℕ) (n : ℕ) → IsMember n states → HasNumber (states ++ more) longer n
  old_number more n m =
      let had = N.are_numbered n m in
      let same = number_stays n (low_member n m) in
      let low = had.is_low in
      record {
        is_low = let grown = length-append states more in omega (arith, low, same, grown);
        is =
            ap (λ i. get_or (states ++ more) i 0) same
            ∙ get_or_append_left states more 0 (get_or numbers n 0) low ∙ had.is;
      }

  unmarked : mark marks k ≡ false → AreNumberedBelow (k + 1) marks (states ++ []) longer
  unmarked e = record {
    ascend = subst IsAscending (sym (append-nil states)) N.ascend;
    members = λ n. (
      (λ m. let old = (N.members n).0 (subst (IsMember n) (append-nil states) m) in
          let low = old.0 in
          (omega (arith, low), old.1)),
      (λ both. member-append_left n states [] ((N.members n).1 (lower n both.0 both.1, both.1))),
    );
    as_long = long_more;
    few = let few = N.few in let grown = length-append states [] in omega (arith, few, grown);
    are_numbered = λ n m. old_number [] n (subst (IsMember n) (append-nil states) m);
  }
    where
      lower : (n : ℕ) → n < k + 1 → mark marks n ≡ true → n < k
      lower n low is =
          ⊎_elim (λ (same : n ≡ k). absurd (let here = ap (mark marks) same in cc))
          (λ (other : n ≡ k → ⊥). omega (arith, low, other)) (cases_eq n k)

  marked : mark marks k ≡ true → AreNumberedBelow (k + 1) marks (states ++ k ∷ []) longer
  marked e = record {
    ascend = ascending-append states k N.ascend low_member;
    members = λ n. ((λ m. there n (member-append n states (k ∷ []) m)), back n);
    as_long = long_more;
    few = let few = N.few in let grown = length-append states (k ∷ []) in omega (arith, few, grown);
    are_numbered = λ n m. by_part n (member-append n states (k ∷ []) m);
  }
    where
      there : (n : ℕ) → IsMember n states ⊎ IsMember n (k ∷ []) → (n < k + 1) × (mark marks n ≡ true)
      there n (inl m) = let old = (N.members n).0 m in let low = old.0 in (omega (arith, low), old.1)
      there n (inr (inl is)) = (omega (arith, is), ap (mark marks) is ∙ e)
      there n (inr (inr none)) = absurd none

      back : (n : ℕ) → (n < k + 1) × (mark marks n ≡ true) → IsMember n (states ++ k ∷ [])
      back n both =
          ⊎_elim (λ (is : n ≡ k). member-append_right n states (k ∷ []) (inl is))
          (λ (other : n ≡ k → ⊥).
          let low = both.0 in
          member-append_left n states (k ∷ []) ((N.members n).1 (omega (arith, low, other), both.1)))
          (cases_eq n k)

      here : get_or longer k 0 ≡ length states
      here = ap (λ i. get_or longer i 0) (sym N.as_long) ∙ get_or-append_seam numbers (length states) [] 0

      by_part : (n : ℕ) → IsMember n states ⊎ IsMember n (k ∷ []) → HasNumber (states ++ k ∷ []) longer n
      by_part n (inl m) = old_number (k ∷ []) n m
      by_part n (inr (inl is)) =
          subst (HasNumber (states ++ k ∷ []) longer) (sym is) (record {
            is_low = let grown = length-append states (k ∷ []) in omega (arith, here, grown);
            is = ap (λ i. get_or (states ++ k ∷ []) i 0) here ∙ get_or-append_seam states k [] 0;
          })
      by_part n (inr (inr none)) = absurd none

  by_mark : (b : Bool) → mark marks k ≡ b → AreNumberedBelow (k + 1) marks (states ++ (if b then k ∷ [] else [])) longer
  by_mark true e = marked e
  by_mark false e = unmarked e

  pub numbered_more : AreNumberedBelow (k + 1) marks (states ++ (if mark marks k then k ∷ [] else [])) longer
  numbered_more = by_mark (mark marks k) refl

-- ---- what an automaton keeps

marked_low : (marks : List Bool) (states numbers : List ℕ) → AreNumbered marks states numbers
    → (n : ℕ) → mark marks n ≡ true → n < length marks
marked_low marks states numbers N n e =
    ⊎_elim (λ (low : n < length marks). low)
    (λ (high : length marks ≤ n). let none = get_or_past marks n false high in absurd (cc)) (cases_lt n (length marks))

pub numbers_held : (g : Graph) (marks : List Bool) (states numbers : List ℕ)
    → AreMarked g marks
    → AreNumbered marks states numbers
    → size g ≤ 2 ^ 30
    → IsHeld g states numbers
numbers_held g marks states numbers M N small = record {
  listed = record {
    ascend = N.ascend;
    are_states = λ n. (
      (λ m. (M.states n).0 ((N.members n).0 m).1),
      (λ is. let e = (M.states n).1 is in (N.members n).1 (marked_low marks states numbers N n e, e)),
    );
  };
  as_long = N.as_long ∙ M.as_long;
  are_numbered = N.are_numbered;
  few = let few = N.few in let long = M.as_long in omega (arith, few, long);
  small = small;
}

-- ---- numbers of states

-- the node of a state is one
pub state_at : (a : Automaton) → HasItsStates a → (p : ℕ) → p < length a.states → IsState a.graph (node_of a p)
state_at a has p low = (has.are_states (node_of a p)).0 (place-member a.states p 0 low)

-- two places of an ascending list with one number are one
pub one_place : (xs : List ℕ) → IsAscending xs → (p q : ℕ) → p < length xs → q < length xs
    → get_or xs p 0 ≡ get_or xs q 0
    → p ≡ q
one_place xs ascend p q p_low q_low same =
    ⊎_elim (λ (less : p < q). let apart = ascending-apart xs p q 0 ascend less q_low in absurd (omega (arith, apart, same)))
    (λ (rest : q ≤ p). ⊎_elim
    (λ (more : q < p). let apart = ascending-apart xs q p 0 ascend more p_low in absurd (omega (arith, apart, same)))
    (λ (back : p ≤ q). omega (arith, rest, back))
    (cases_lt q p))
    (cases_lt p q)
