-- Runs of a deterministic parity automaton along a word.
--
--   state_behind-append, priorities-append == along a word and then another one
--   behind d s u k        == the state behind the first k letters of u
--   behind_next           == and behind one letter more
--   letter_priority, priority_letter == the priorities along a word are those at its letters
--   times_closed, times_priority == where a word leads back, so it does several times over, with the same priorities
--   IsOddRound            == the lowest priority along a word is odd
--   round_accepts, accepted_round == where the run along a lasso is back behind one turn, the lasso is accepted exactly
--                                    if the lowest priority of this turn is odd
use Rattle.std.proofs.Common.{ℕ, zero, suc, ◌≡◌, ◌%◌, ◌<◌, ◌≤◌, ◌⊎◌, inl, inr, arith, List, [], ◌∷◌, ◌++◌, length, take}
use Rattle.std.proofs.Common.{get_or}
use Rattle.std.proofs.Common.{refl, sym, ap, ◌∙◌, subst}
use Rattle.std.proofs.Math.Seq.{take-suc}
use Rattle.std.proofs.lemmas.List.{append-nil}
use Rattle.ml_lists.specs.Member.{IsMember}
use Rattle.ml_lists.specs.Repeated.{repeated}
use Rattle.ml_lists.proofs.Member.{All-member, member-All, member-append, member-append_left}
use Rattle.ml_trace.specs.WordAutomata.{WordLasso, stem, turn, DetAutomaton, state_behind, priorities, IsLowest}
use Rattle.ml_trace.specs.WordAutomata.{IsDetAcceptedFrom}

-- some priority is the lowest, and it is odd
pub record IsOddRound (ps : List ℕ) : Type 0 where
  pub lowest : ℕ
  pub is_lowest : IsLowest lowest ps
  pub is_odd : lowest % 2 ≡ 1

module _ {S L : Type 0} (d : DetAutomaton S L) where
  pub state_behind-append : (s : S) (u v : List L) → state_behind d s (u ++ v) ≡ state_behind d (state_behind d s u) v
  state_behind-append s [] v = refl
  state_behind-append s (l ∷ u) v = state_behind-append (d.next s l) u v

  pub priorities-append : (s : S) (u v : List L)
      → priorities d s (u ++ v) ≡ priorities d s u ++ priorities d (state_behind d s u) v
  priorities-append s [] v = refl
  priorities-append s (l ∷ u) v = ap (λ ps. d.priority s l ∷ ps) (priorities-append (d.next s l) u v)

  -- ---- letter by letter

  abbrev pub behind : S → List L → ℕ → S
  behind s u k = state_behind d s (take k u)

  pub behind_next : (s : S) (u : List L) (k : ℕ) (e : L) → k < length u
      → behind s u (suc k) ≡ d.next (behind s u k) (get_or u k e)
  behind_next s u k e low =
      ap (state_behind d s) (take-suc u k e low) ∙ state_behind-append s (take k u) (get_or u k e ∷ [])

  pub letter_priority : (s : S) (u : List L) (k : ℕ) (e : L) → k < length u
      → IsMember (d.priority (behind s u k) (get_or u k e)) (priorities d s u)
  letter_priority s [] k e low = absurd (omega (arith, low))
  letter_priority s (l ∷ u) zero e low = inl refl
  letter_priority s (l ∷ u) (suc k) e low = inr (letter_priority (d.next s l) u k e (omega (arith, low)))

  pub record IsAtLetter (s : S) (u : List L) (e : L) (p : ℕ) : Type 0 where
    pub place : ℕ
    pub low : place < length u
    pub is : p ≡ d.priority (behind s u place) (get_or u place e)

  pub priority_letter : (s : S) (u : List L) (e : L) (p : ℕ) → IsMember p (priorities d s u) → IsAtLetter s u e p
  priority_letter s [] e p none = absurd none
  priority_letter s (l ∷ u) e p (inl same) = record { place = 0; low = omega arith; is = same }
  priority_letter s (l ∷ u) e p (inr later) =
      let a = priority_letter (d.next s l) u e p later in
      record { place = suc a.place; low = omega (arith, a.low); is = a.is }

  -- ---- words that lead back

  pub times_closed : (s : S) (u : List L) (k : ℕ) → state_behind d s u ≡ s → state_behind d s (repeated k u) ≡ s
  times_closed s u zero closed = refl
  times_closed s u (suc k) closed =
      state_behind-append s u (repeated k u)
      ∙ ap (λ t. state_behind d t (repeated k u)) closed
      ∙ times_closed s u k closed

  pub times_priority : (s : S) (u : List L) (k p : ℕ) → state_behind d s u ≡ s
      → IsMember p (priorities d s (repeated k u))
      → IsMember p (priorities d s u)
  times_priority s u zero p closed none = absurd none
  times_priority s u (suc k) p closed m =
      by_part (member-append p (priorities d s u) (priorities d (state_behind d s u) (repeated k u))
      (subst (IsMember p) (priorities-append s u (repeated k u)) m)) (times_priority s u k p closed)
    where
      by_part : IsMember p (priorities d s u) ⊎ IsMember p (priorities d (state_behind d s u) (repeated k u))
          → (IsMember p (priorities d s (repeated k u)) → IsMember p (priorities d s u))
          → IsMember p (priorities d s u)
      by_part (inl here) later = here
      by_part (inr there) later = later (subst (λ t. IsMember p (priorities d t (repeated k u))) closed there)

  once_priority : (s : S) (u : List L) (k p : ℕ) → 1 ≤ k → IsMember p (priorities d s u)
      → IsMember p (priorities d s (repeated k u))
  once_priority s u zero p once m = absurd (omega (arith, once))
  once_priority s u (suc k) p once m =
      subst (IsMember p) (sym (priorities-append s u (repeated k u)))
      (member-append_left p (priorities d s u) (priorities d (state_behind d s u) (repeated k u)) m)

  -- ---- lassos whose run is back behind one turn

  module _ (s : S) (w : WordLasso L) where
    abbrev pub at_loop : S
    at_loop = state_behind d s (stem w)

    pub round_accepts : state_behind d at_loop (turn w) ≡ at_loop
        → IsOddRound (priorities d at_loop (turn w))
        → IsDetAcceptedFrom d s w
    round_accepts closed odd = record {
      turns = 0;
      state = at_loop;
      comes = ap (state_behind d s) (append-nil (stem w));
      rounds = 1;
      once = omega arith;
      returns = ap (state_behind d at_loop) (append-nil (turn w)) ∙ closed;
      lowest = odd.lowest;
      is_lowest = subst (λ u. IsLowest odd.lowest (priorities d at_loop u)) (sym (append-nil (turn w))) odd.is_lowest;
      is_odd = odd.is_odd;
    }

    pub accepted_round : state_behind d at_loop (turn w) ≡ at_loop
        → IsDetAcceptedFrom d s w
        → IsOddRound (priorities d at_loop (turn w))
    accepted_round closed a = record {
      lowest = a.lowest;
      is_lowest = record {
        is_one = times_priority at_loop (turn w) a.rounds a.lowest closed lowest_here.is_one;
        is_low = member-All (λ q. a.lowest ≤ q) (priorities d at_loop (turn w))
            (λ q m. All-member (λ q. a.lowest ≤ q) (priorities d at_loop (repeated a.rounds (turn w)))
            lowest_here.is_low q (once_priority at_loop (turn w) a.rounds q a.once m));
      };
      is_odd = a.is_odd;
    }
      where
        there : at_loop ≡ a.state
        there =
            sym (times_closed at_loop (turn w) a.turns closed)
            ∙ sym (state_behind-append s (stem w) (repeated a.turns (turn w)))
            ∙ a.comes

        lowest_here : IsLowest a.lowest (priorities d at_loop (repeated a.rounds (turn w)))
        lowest_here = subst (λ t. IsLowest a.lowest (priorities d t (repeated a.rounds (turn w)))) (sym there)
            a.is_lowest
