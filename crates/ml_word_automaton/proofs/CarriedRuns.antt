-- Runs of one automaton carried over to another one, which reads letters for letters.
--
-- A relation joins states of the two automata. Where each transition from a joined state goes along with one of the
-- other automaton to a state that is joined again, so does each run; and where a state is joined to one other alone,
-- what the one automaton accepts the other does.
--
--   read_as h w       == the word w, read letter by letter
--   stem_read, turn_read, turns_read == the parts of such a word
--   run_there, accepting_there, accepted_there == runs of the automaton that reads the given letters
--   run_back, accepting_back, accepted_back    == runs of the one that reads the letters for them
use Rattle.std.proofs.Common.{ℕ, zero, suc, ◌≡◌, ◌⊎◌, inl, inr, Bool, true, List, [], ◌∷◌, ◌++◌, map, refl, sym, ap, ◌∙◌, subst}
use Rattle.std.proofs.lemmas.List.{drop-map, map-append, take-append-drop, take-map}
use Rattle.ml_lists.specs.Member.{IsMember}
use Rattle.ml_lists.specs.Repeated.{repeated}
use Rattle.ml_lists.proofs.Member.{member-append, member-append_left, member-append_right}
use Rattle.ml_lists.proofs.Repeated.{repeated-member}
use Rattle.ml_trace.specs.Run.{Run, AcceptingRun}
use Rattle.ml_trace.specs.WordAutomata.{WordLasso, IsAcceptedFrom, stem, turn}

-- ---- words

abbrev pub read_as : {L K : Type 0} → (L → K) → WordLasso L → WordLasso K
read_as h w = record { word = map h w.word; loop_start = w.loop_start }

module _ {L K : Type 0} (h : L → K) (w : WordLasso L) where
  stem_read : map h (stem w) ≡ stem (read_as h w)
  stem_read = sym (take-map h w.loop_start w.word)

  turn_read : map h (turn w) ≡ turn (read_as h w)
  turn_read = sym (drop-map h w.loop_start w.word)

  turns_read : (k : ℕ) → map h (repeated k (turn w)) ≡ repeated k (turn (read_as h w))
  turns_read zero = refl
  turns_read (suc k) =
      map-append h (turn w) (repeated k (turn w))
      ∙ ap (λ u. u ++ map h (repeated k (turn w))) turn_read
      ∙ ap (λ u. turn (read_as h w) ++ u) (turns_read k)

  unrolled_read : (k : ℕ)
      → map h (stem w ++ repeated k (turn w)) ≡ stem (read_as h w) ++ repeated k (turn (read_as h w))
  unrolled_read k =
      map-append h (stem w) (repeated k (turn w))
      ∙ ap (λ u. u ++ map h (repeated k (turn w))) stem_read
      ∙ ap (λ u. stem (read_as h w) ++ u) (turns_read k)

  -- all letters that are read stand in the word
  stands : (l : L) → IsMember l (stem w ++ turn w) → IsMember l w.word
  stands l m = subst (IsMember l) (take-append-drop w.loop_start w.word) m

  turns_stand : (k : ℕ) (l : L) → IsMember l (repeated k (turn w)) → IsMember l w.word
  turns_stand k l m = stands l (member-append_right l (stem w) (turn w) (repeated-member l k (turn w) m))

  unrolled_stand : (k : ℕ) (l : L) → IsMember l (stem w ++ repeated k (turn w)) → IsMember l w.word
  unrolled_stand k l m = by_part (member-append l (stem w) (repeated k (turn w)) m)
    where
      by_part : IsMember l (stem w) ⊎ IsMember l (repeated k (turn w)) → IsMember l w.word
      by_part (inl i) = stands l (member-append_left l (stem w) (turn w) i)
      by_part (inr i) = turns_stand k l i

-- ---- runs

module _ {S T L K : Type 0} (h : L → K) (leads : L → S → S → Bool → Type 0) (others : K → T → T → Bool → Type 0)
    (R : S → T → Type 0) (Fits : L → Type 0) where
  -- from the state p and the state x that is joined to it
  module _ (step : (l : L) (p q : S) (b : Bool) (x : T) → Fits l → R p x → leads l p q b
      → (y : T) × R q y × others (h l) x y b) where
    pub run_there : (u : List L) (p q : S) (x : T)
        → ((l : L) → IsMember l u → Fits l)
        → R p x
        → Run leads u p q
        → (y : T) × R q y × Run others (map h u) x y
    run_there [] p q x fit joined same = (x, subst (λ r. R r x) same joined, refl)
    run_there (l ∷ u) p q x fit joined (r, b, lead, run) =
        let first = step l p r b x (fit l (inl refl)) joined lead in
        let rest = run_there u r q first.0 (λ k m. fit k (inr m)) first.1 run in
        (rest.0, rest.1, (first.0, b, first.2, rest.2))

    pub accepting_there : (u : List L) (p q : S) (x : T)
        → ((l : L) → IsMember l u → Fits l)
        → R p x
        → AcceptingRun leads u p q
        → (y : T) × R q y × AcceptingRun others (map h u) x y
    accepting_there [] p q x fit joined none = absurd none
    accepting_there (l ∷ u) p q x fit joined (inl (r, lead, run)) =
        let first = step l p r true x (fit l (inl refl)) joined lead in
        let rest = run_there u r q first.0 (λ k m. fit k (inr m)) first.1 run in
        (rest.0, rest.1, inl (first.0, first.2, rest.2))
    accepting_there (l ∷ u) p q x fit joined (inr (r, b, lead, run)) =
        let first = step l p r b x (fit l (inl refl)) joined lead in
        let rest = accepting_there u r q first.0 (λ k m. fit k (inr m)) first.1 run in
        (rest.0, rest.1, inr (first.0, b, first.2, rest.2))

    pub accepted_there : (w : WordLasso L) (p : S) (x : T)
        → ((s : S) (y z : T) → R s y → R s z → y ≡ z)
        → ((l : L) → IsMember l w.word → Fits l)
        → R p x
        → IsAcceptedFrom leads p w
        → IsAcceptedFrom others x (read_as h w)
    accepted_there w p x one fit joined accepted =
        let k = accepted.turns in
        let n = accepted.rounds in
        let s = accepted.state in
        let comes =
        run_there (stem w ++ repeated k (turn w)) p s x (λ l m. fit l (unrolled_stand h w k l m)) joined accepted.comes in
        let returns =
        accepting_there (repeated n (turn w)) s s comes.0 (λ l m. fit l (turns_stand h w n l m)) comes.1
        accepted.returns in record {
          turns = k;
          state = comes.0;
          comes = subst (λ u. Run others u x comes.0) (unrolled_read h w k) comes.2;
          rounds = n;
          once = accepted.once;
          returns =
              subst (λ y. AcceptingRun others (repeated n (turn (read_as h w))) comes.0 y)
              (one s returns.0 comes.0 returns.1 comes.1)
              (subst (λ u. AcceptingRun others u comes.0 returns.0) (turns_read h w n) returns.2);
        }

  -- the other way round
  module _ (step : (l : L) (p : S) (b : Bool) (x y : T) → Fits l → R p x → others (h l) x y b
      → (q : S) × R q y × leads l p q b) where
    pub run_back : (u : List L) (p : S) (x y : T)
        → ((l : L) → IsMember l u → Fits l)
        → R p x
        → Run others (map h u) x y
        → (q : S) × R q y × Run leads u p q
    run_back [] p x y fit joined same = (p, subst (R p) same joined, refl)
    run_back (l ∷ u) p x y fit joined (z, b, lead, run) =
        let first = step l p b x z (fit l (inl refl)) joined lead in
        let rest = run_back u first.0 z y (λ k m. fit k (inr m)) first.1 run in
        (rest.0, rest.1, (first.0, b, first.2, rest.2))

    pub accepting_back : (u : List L) (p : S) (x y : T)
        → ((l : L) → IsMember l u → Fits l)
        → R p x
        → AcceptingRun others (map h u) x y
        → (q : S) × R q y × AcceptingRun leads u p q
    accepting_back [] p x y fit joined none = absurd none
    accepting_back (l ∷ u) p x y fit joined (inl (z, lead, run)) =
        let first = step l p true x z (fit l (inl refl)) joined lead in
        let rest = run_back u first.0 z y (λ k m. fit k (inr m)) first.1 run in
        (rest.0, rest.1, inl (first.0, first.2, rest.2))
    accepting_back (l ∷ u) p x y fit joined (inr (z, b, lead, run)) =
        let first = step l p b x z (fit l (inl refl)) joined lead in
        let rest = accepting_back u first.0 z y (λ k m. fit k (inr m)) first.1 run in
        (rest.0, rest.1, inr (first.0, b, first.2, rest.2))

    pub accepted_back : (w : WordLasso L) (p : S) (x : T)
        → ((s r : S) (y : T) → R s y → R r y → s ≡ r)
        → ((l : L) → IsMember l w.word → Fits l)
        → R p x
        → IsAcceptedFrom others x (read_as h w)
        → IsAcceptedFrom leads p w
    accepted_back w p x one fit joined accepted =
        let k = accepted.turns in
        let n = accepted.rounds in
        let y = accepted.state in
        let comes =
        run_back (stem w ++ repeated k (turn w)) p x y (λ l m. fit l (unrolled_stand h w k l m)) joined
        (subst (λ u. Run others u x y) (sym (unrolled_read h w k)) accepted.comes) in
        let returns =
        accepting_back (repeated n (turn w)) comes.0 y y (λ l m. fit l (turns_stand h w n l m)) comes.1
        (subst (λ u. AcceptingRun others u y y) (sym (turns_read h w n)) accepted.returns) in record {
          turns = k;
          state = comes.0;
          comes = comes.2;
          rounds = n;
          once = accepted.once;
          returns =
              subst (λ q. AcceptingRun leads (repeated n (turn w)) comes.0 q) (one returns.0 comes.0 y returns.1 comes.1)
              returns.2;
        }
