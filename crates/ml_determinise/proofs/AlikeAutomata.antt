-- Deterministic parity automata that go alike.
--
-- A relation between the states of two of them says so: related states have the same priorities along each letter, and
-- what lies behind them is related again. Then the second accepts what the first does, where a state of the first is
-- related to one of the second at most.
--
--   word_letter     == a letter that is read of a lasso is one of its word
--   accepted_alike  == what the first accepts is accepted by the second
use Rattle.std.proofs.Common.{ℕ, zero, suc, ◌≡◌, ◌⊎◌, inl, inr, List, [], ◌∷◌, ◌++◌, refl, subst}
use Rattle.std.proofs.lemmas.List.{take-append-drop}
use Rattle.ml_lists.specs.Member.{IsMember}
use Rattle.ml_lists.specs.Repeated.{repeated}
use Rattle.ml_lists.proofs.Member.{member-append, member-append_left, member-append_right}
use Rattle.ml_trace.specs.WordAutomata.{WordLasso, stem, turn, DetAutomaton, state_behind, priorities, IsLowest, IsDetAcceptedFrom}

-- ---- letters of a lasso

module _ {L : Type 0} where
  repeated_from : (l : L) (k : ℕ) (u : List L) → IsMember l (repeated k u) → IsMember l u
  repeated_from l zero u none = absurd none
  repeated_from l (suc k) u m = by_part (member-append l u (repeated k u) m) (repeated_from l k u)
    where
      by_part : IsMember l u ⊎ IsMember l (repeated k u) → (IsMember l (repeated k u) → IsMember l u) → IsMember l u
      by_part (inl here) later = here
      by_part (inr m) later = later m

  whole : (w : WordLasso L) → stem w ++ turn w ≡ w.word
  whole w = take-append-drop w.loop_start w.word

  turn_letter : (l : L) (w : WordLasso L) (k : ℕ) → IsMember l (repeated k (turn w)) → IsMember l w.word
  turn_letter l w k m =
      subst (IsMember l) (whole w) (member-append_right l (stem w) (turn w) (repeated_from l k (turn w) m))

  pub word_letter : (l : L) (w : WordLasso L) (k : ℕ) → IsMember l (stem w ++ repeated k (turn w)) → IsMember l w.word
  word_letter l w k m = by_part (member-append l (stem w) (repeated k (turn w)) m)
    where
      by_part : IsMember l (stem w) ⊎ IsMember l (repeated k (turn w)) → IsMember l w.word
      by_part (inl here) = subst (IsMember l) (whole w) (member-append_left l (stem w) (turn w) here)
      by_part (inr there) = turn_letter l w k there

-- ---- alike

-- related states have the same priorities along letters of P, and related states behind them
pub record GoAlike {S T L : Type 0} (d : DetAutomaton S L) (e : DetAutomaton T L) (R : S → T → Type 0) (P : L → Type 0)
    : Type 0 where
  pub next : (s : S) (t : T) (l : L) → R s t → P l → R (d.next s l) (e.next t l)
  pub priority : (s : S) (t : T) (l : L) → R s t → P l → d.priority s l ≡ e.priority t l
  pub one : (s : S) (t u : T) → R s t → R s u → t ≡ u

module _ {S T L : Type 0} (d : DetAutomaton S L) (e : DetAutomaton T L) (R : S → T → Type 0) (P : L → Type 0)
    (alike : GoAlike d e R P) where
  behind_alike : (u : List L) (s : S) (t : T)
      → ((l : L) → IsMember l u → P l)
      → R s t
      → R (state_behind d s u) (state_behind e t u)
  behind_alike [] s t all r = r
  behind_alike (l ∷ u) s t all r =
      behind_alike u (d.next s l) (e.next t l) (λ k m. all k (inr m)) (alike.next s t l r (all l (inl refl)))

  priorities_alike : (u : List L) (s : S) (t : T)
      → ((l : L) → IsMember l u → P l)
      → R s t
      → priorities d s u ≡ priorities e t u
  priorities_alike [] s t all r = refl
  priorities_alike (l ∷ u) s t all r =
      let here = alike.priority s t l r (all l (inl refl)) in
      let later = priorities_alike u (d.next s l) (e.next t l) (λ k m. all k (inr m))
      (alike.next s t l r (all l (inl refl))) in
      λ i. here i ∷ later i

  pub accepted_alike : (w : WordLasso L) (s : S) (t : T)
      → ((l : L) → IsMember l w.word → P l)
      → R s t
      → IsDetAcceptedFrom d s w
      → IsDetAcceptedFrom e t w
  accepted_alike w s t all r a = record {
    turns = a.turns;
    state = end;
    comes = refl;
    rounds = a.rounds;
    once = a.once;
    returns = alike.one a.state (state_behind e end circle) end back there;
    lowest = a.lowest;
    is_lowest = subst (IsLowest a.lowest) (priorities_alike circle a.state end round_letters there) a.is_lowest;
    is_odd = a.is_odd;
  }
    where
      way : List L
      way = stem w ++ repeated a.turns (turn w)

      circle : List L
      circle = repeated a.rounds (turn w)

      end : T
      end = state_behind e t way

      there : R a.state end
      there = subst (λ z. R z end) a.comes (behind_alike way s t (λ l m. all l (word_letter l w a.turns m)) r)

      round_letters : (l : L) → IsMember l circle → P l
      round_letters l m = all l (turn_letter l w a.rounds m)

      back : R a.state (state_behind e end circle)
      back =
          subst (λ z. R z (state_behind e end circle)) a.returns
          (behind_alike circle a.state end round_letters there)
