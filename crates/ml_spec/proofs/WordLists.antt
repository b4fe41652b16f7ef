-- Lists of words that are read: they are good and free, and enough; or there is a first fault.
--
--   as_many       == words with their places are as many as they are without
--   word_done     == one word more is good and free
--   word_first    == the first word that is bad or taken is the first fault
--   list_short    == where all are good and free, and too few, that is the first fault
--   list_read     == where they are enough, there is none
--   no_list_fault == a list that is read has no fault
--   list_answer   == a list is read, or has a first fault
use Rattle.std.proofs.Common.{◌≡◌, ℕ, ◌+◌, ◌<◌, ◌≤◌, ◌⊎◌, Bool, true, false, List, [], ◌∷◌, ◌++◌, length, inl, inr, refl, sym, ◌∙◌, ap, subst, arith, append_assoc}
use Rattle.std.proofs.lemmas.Bool.{true≢false}
use Rattle.std.proofs.lemmas.List.{append-nil}
use Rattle.ml_lists.proofs.Decided.{Decided, decided_less}
use Rattle.ml_spec.specs.RuleNumbers.{rule_number}
use Rattle.ml_spec.specs.Words.{words_of, AreFree, AreGood, IsBadAt, IsTakenAt}
use Rattle.ml_spec.specs.declared.rule.SpecRule.{SpecRule}
use Rattle.ml_spec.specs.declared.rule.SpecRule.TheVariants.{Syntax, Unbound, NotPositive, TooMany, TooNested, NameTooLong}
use Rattle.ml_spec.specs.declared.rule.SpecRule.TheVariants.{NoLogic, NoKind, NoName, NoColon, NameTaken, TooManyItems, TooLarge, Undeclared, DefinedLate}
use Rattle.ml_spec.specs.private.Lists.{is_bad, is_taken, too_few, AreListed, BreaksWord, IsFirstInList, IsListedTo, IsListFault}
use Rattle.ml_spec.proofs.WordPlaces.{InOrder}

abbrev pub ComesBehind : SpecRule → ℕ → SpecRule → ℕ → Type 0
ComesBehind r at s k = (at < k) ⊎ ((at ≡ k) × (rule_number r ≤ rule_number s))

abbrev pub Words : Type 0
Words = List (ℕ × List ℕ)

pub as_many : (vs : List (ℕ × List ℕ)) → length (words_of vs) ≡ length vs
as_many [] = refl
as_many (v ∷ vs) = omega (arith, as_many vs)

pub words_more : (ws : Words) (w : ℕ × List ℕ) → words_of (ws ++ w ∷ []) ≡ words_of ws ++ w.1 ∷ []
words_more [] w = refl
words_more (v ∷ vs) w = ap (λ ps. v.1 ∷ ps) (words_more vs w)

module _ (good : List ℕ → Bool) (taken : List (List ℕ) → List ℕ → Type 0) where
  pub good_more : (ps : List (List ℕ)) (p : List ℕ) → AreGood good ps → good p ≡ true → AreGood good (ps ++ p ∷ [])
  good_more [] p are is = (is, tt)
  good_more (q ∷ qs) p are is = (are.0, good_more qs p are.1 is)

  pub free_more : (seen ps : List (List ℕ)) (p : List ℕ)
      → AreFree taken seen ps
      → ¬ (taken (seen ++ ps) p)
      → AreFree taken seen (ps ++ p ∷ [])
  free_more seen [] p are none = (λ is. none (subst (λ ns. taken ns p) (sym (append-nil seen)) is), tt)
  free_more seen (q ∷ qs) p are none = (
    are.0,
    free_more (seen ++ q ∷ []) qs p are.1
        (λ is. none (subst (λ ns. taken ns p) (append_assoc seen (q ∷ []) qs) is)),
  )

  abbrev pub word_done : (all rest : Words) (w : ℕ × List ℕ) (listed : IsListedTo good taken all (w ∷ rest))
      → good w.1 ≡ true
      → ¬ (taken (words_of listed.done) w.1)
      → IsListedTo good taken all rest
  word_done all rest w listed is none = record {
    done = listed.done ++ w ∷ [];
    whole = listed.whole ∙ sym (append_assoc listed.done (w ∷ []) rest);
    are_good = subst (AreGood good) (sym (words_more listed.done w)) (good_more (words_of listed.done) w.1 listed.are_good is);
    are_free = subst (AreFree taken []) (sym (words_more listed.done w)) (free_more [] (words_of listed.done) w.1 listed.are_free none);
  }

  pub nothing_done : (all : Words) → IsListedTo good taken all all
  nothing_done all = record { done = []; whole = refl; are_good = tt; are_free = tt }

  -- ---- places

  bad_place : (k end at : ℕ) (ws : Words) → InOrder k end ws → IsBadAt good ws at → (k ≤ at) × (at < end)
  bad_place k end at [] order bad = absurd bad
  bad_place k end at (w ∷ ws) order (inl here) = (omega (arith, order.0, here.1), omega (arith, order.1, here.1))
  bad_place k end at (w ∷ ws) order (inr later) =
      let rest = bad_place (w.0 + 1) end at ws order.2 later in (omega (arith, order.0, rest.0), rest.1)

  taken_place : (k end at : ℕ) (seen : List (List ℕ)) (ws : Words)
      → InOrder k end ws
      → IsTakenAt taken seen ws at
      → (k ≤ at) × (at < end)
  taken_place k end at seen [] order is = absurd is
  taken_place k end at seen (w ∷ ws) order (inl here) = (omega (arith, order.0, here.1), omega (arith, order.1, here.1))
  taken_place k end at seen (w ∷ ws) order (inr later) =
      let rest = taken_place (w.0 + 1) end at (seen ++ w.1 ∷ []) ws order.2 later in (omega (arith, order.0, rest.0), rest.1)

  pub list_fault_place : (least : ℕ) (ws : Words) (start end k : ℕ) (s : SpecRule)
      → start ≤ end
      → InOrder start end ws
      → IsListFault good taken least ws end k s
      → (start ≤ k) × (k ≤ end)
  list_fault_place least ws start end k s le order (is_bad bad) =
      let place = bad_place start end k ws order bad in (place.0, omega (arith, place.1))
  list_fault_place least ws start end k s le order (too_few few is) = (omega (arith, le, is), omega (arith, is))
  list_fault_place least ws start end k s le order (is_taken taken) =
      let place = taken_place start end k [] ws order taken in (place.0, omega (arith, place.1))

  -- ---- words that are read have no fault

  bad_behind : (done rest : Words) (at : ℕ) → AreGood good (words_of done) → IsBadAt good (done ++ rest) at → IsBadAt good rest at
  bad_behind [] rest at are bad = bad
  bad_behind (w ∷ ws) rest at are (inl here) = absurd (true≢false (sym are.0 ∙ here.0))
  bad_behind (w ∷ ws) rest at are (inr later) = bad_behind ws rest at are.1 later

  taken_behind : (seen : List (List ℕ)) (done rest : Words) (at : ℕ)
      → AreFree taken seen (words_of done)
      → IsTakenAt taken seen (done ++ rest) at
      → IsTakenAt taken (seen ++ words_of done) rest at
  taken_behind seen [] rest at are is = subst (λ ns. IsTakenAt taken ns rest at) (sym (append-nil seen)) is
  taken_behind seen (w ∷ ws) rest at are (inl here) = absurd (are.0 here.0)
  taken_behind seen (w ∷ ws) rest at are (inr later) =
      subst (λ ns. IsTakenAt taken ns rest at) (append_assoc seen (w.1 ∷ []) (words_of ws))
      (taken_behind (seen ++ w.1 ∷ []) ws rest at are.1 later)

  pub no_list_fault : (least : ℕ) (ws : Words) (end k : ℕ) (s : SpecRule)
      → AreListed good taken least ws
      → IsListFault good taken least ws end k s
      → ⊥
  no_list_fault least ws end k s listed (is_bad bad) =
      bad_behind ws [] k listed.are_good (subst (λ vs. IsBadAt good vs k) (sym (append-nil ws)) bad)
  no_list_fault least ws end k s listed (too_few few is) = omega (arith, few, listed.are_enough)
  no_list_fault least ws end k s listed (is_taken taken_at) =
      taken_behind [] ws [] k listed.are_free (subst (λ vs. IsTakenAt taken [] vs k) (sym (append-nil ws)) taken_at)

  -- ---- the first fault

  order_behind : (start end : ℕ) (done : Words) (w : ℕ × List ℕ) (rest : Words)
      → InOrder start end (done ++ w ∷ rest)
      → (w.0 < end) × InOrder (w.0 + 1) end rest
  order_behind start end [] w rest order = (order.1, order.2)
  order_behind start end (v ∷ vs) w rest order = order_behind (v.0 + 1) end vs w rest order.2

  bad_among : (done : Words) (w : ℕ × List ℕ) (rest : Words) → good w.1 ≡ false → IsBadAt good (done ++ w ∷ rest) w.0
  bad_among [] w rest bad = inl (bad, refl)
  bad_among (v ∷ vs) w rest bad = inr (bad_among vs w rest bad)

  taken_among : (seen : List (List ℕ)) (done : Words) (w : ℕ × List ℕ) (rest : Words)
      → taken (seen ++ words_of done) w.1
      → IsTakenAt taken seen (done ++ w ∷ rest) w.0
  taken_among seen [] w rest is = inl (subst (λ ns. taken ns w.1) (append-nil seen) is, refl)
  taken_among seen (v ∷ vs) w rest is =
      inr (
      taken_among (seen ++ v.1 ∷ []) vs w rest
      (subst (λ ns. taken ns w.1) (sym (append_assoc seen (v.1 ∷ []) (words_of vs))) is)
      )

  module _ (least : ℕ) (all rest : Words) (w : ℕ × List ℕ) (start end : ℕ) (order : InOrder start end all)
      (listed : IsListedTo good taken all (w ∷ rest)) where
    split : InOrder start end (listed.done ++ w ∷ rest)
    split = subst (InOrder start end) listed.whole order

    behind : (w.0 < end) × InOrder (w.0 + 1) end rest
    behind = order_behind start end listed.done w rest split

    bad_later : (k : ℕ) → IsBadAt good all k → (IsBadAt good (w ∷ rest) k)
    bad_later k bad =
        bad_behind listed.done (w ∷ rest) k listed.are_good (subst (λ vs. IsBadAt good vs k) listed.whole bad)

    taken_later : (k : ℕ) → IsTakenAt taken [] all k → IsTakenAt taken (words_of listed.done) (w ∷ rest) k
    taken_later k is =
        taken_behind [] listed.done (w ∷ rest) k listed.are_free (subst (λ vs. IsTakenAt taken [] vs k) listed.whole is)

    bad_first : good w.1 ≡ false → (s : SpecRule) (k : ℕ) → IsListFault good taken least all end k s → ComesBehind NoName w.0 s k
    bad_first is s k (is_bad bad) = by (bad_later k bad)
      where
        by : IsBadAt good (w ∷ rest) k → ComesBehind NoName w.0 NoName k
        by (inl here) = inr (sym here.1, omega arith)
        by (inr later) = inl (omega (arith, (bad_place (w.0 + 1) end k rest behind.1 later).0))
    bad_first is s k (too_few few at_end) = inl (omega (arith, behind.0, at_end))
    bad_first is s k (is_taken taken_at) = by (taken_later k taken_at)
      where
        by : IsTakenAt taken (words_of listed.done) (w ∷ rest) k → ComesBehind NoName w.0 NameTaken k
        by (inl here) = inr (sym here.1, omega arith)
        by (inr later) = inl (omega (arith, (taken_place (w.0 + 1) end k (words_of listed.done ++ w.1 ∷ []) rest behind.1 later).0))

    taken_first : good w.1 ≡ true
        → (s : SpecRule) (k : ℕ)
        → IsListFault good taken least all end k s
        → ComesBehind NameTaken w.0 s k
    taken_first is s k (is_bad bad) = by (bad_later k bad)
      where
        by : IsBadAt good (w ∷ rest) k → ComesBehind NameTaken w.0 NoName k
        by (inl here) = absurd (true≢false (sym is ∙ here.0))
        by (inr later) = inl (omega (arith, (bad_place (w.0 + 1) end k rest behind.1 later).0))
    taken_first is s k (too_few few at_end) = inl (omega (arith, behind.0, at_end))
    taken_first is s k (is_taken taken_at) = by (taken_later k taken_at)
      where
        by : IsTakenAt taken (words_of listed.done) (w ∷ rest) k → ComesBehind NameTaken w.0 NameTaken k
        by (inl here) = inr (sym here.1, omega arith)
        by (inr later) = inl (omega (arith, (taken_place (w.0 + 1) end k (words_of listed.done ++ w.1 ∷ []) rest behind.1 later).0))

    pub word_first : (r : SpecRule)
        → BreaksWord good (taken (words_of listed.done) w.1) w.1 r
        → IsFirstInList good taken least all end r w.0
    word_first NoName bad = record {
      comes = is_bad (subst (λ vs. IsBadAt good vs w.0) (sym listed.whole) (bad_among listed.done w rest bad));
      first = bad_first bad;
    }
    word_first NameTaken is = record {
      comes = is_taken (subst (λ vs. IsTakenAt taken [] vs w.0) (sym listed.whole) (taken_among [] listed.done w rest is.1));
      first = taken_first is.0;
    }
    word_first Syntax is = absurd is
    word_first Unbound is = absurd is
    word_first NotPositive is = absurd is
    word_first TooMany is = absurd is
    word_first TooNested is = absurd is
    word_first NameTooLong is = absurd is
    word_first NoLogic is = absurd is
    word_first NoKind is = absurd is
    word_first NoColon is = absurd is
    word_first TooManyItems is = absurd is
    word_first TooLarge is = absurd is
    word_first Undeclared is = absurd is
    word_first DefinedLate is = absurd is

  pub list_short : (least : ℕ) (all : Words) (end : ℕ)
      → IsListedTo good taken all []
      → length all < least
      → IsFirstInList good taken least all end NoName end
  list_short least all end listed few = record { comes = too_few few refl; first = first }
    where
      whole : all ≡ listed.done
      whole = listed.whole ∙ append-nil listed.done

      first : (s : SpecRule) (k : ℕ) → IsListFault good taken least all end k s → ComesBehind NoName end s k
      first s k (is_bad bad) =
          absurd (bad_behind listed.done [] k listed.are_good (subst (λ vs. IsBadAt good vs k) listed.whole bad))
      first s k (too_few again is) = inr (sym is, omega arith)
      first s k (is_taken is) =
          absurd (taken_behind [] listed.done [] k listed.are_free (subst (λ vs. IsTakenAt taken [] vs k) listed.whole is))

  pub list_read : (least : ℕ) (all : Words) → IsListedTo good taken all [] → least ≤ length all → AreListed good taken least all
  list_read least all listed enough =
      let whole : listed.done ≡ all = sym (listed.whole ∙ append-nil listed.done) in
      record {
        are_good = subst (λ ws. AreGood good (words_of ws)) whole listed.are_good;
        are_free = subst (λ ws. AreFree taken [] (words_of ws)) whole listed.are_free;
        are_enough = enough;
      }

  -- ---- some answer

  module _ (least : ℕ) (all : Words) (start end : ℕ) (order : InOrder start end all)
      (decide : (seen : List (List ℕ)) (p : List ℕ) → Decided (taken seen p)) where
    abbrev pub IsAnswered : Type 0
    IsAnswered = AreListed good taken least all ⊎ ((r : SpecRule) × (at : ℕ) × IsFirstInList good taken least all end r at)

    answer_to : (rest : Words) → IsListedTo good taken all rest → IsAnswered
    answer_to [] listed = by (decided_less (length all) least)
      where
        by : Decided (length all < least) → IsAnswered
        by (inl few) = inr (NoName, end, list_short least all end listed few)
        by (inr enough) = inl (list_read least all listed (omega (arith, enough)))
    answer_to (w ∷ rest) listed =
        by (good w.1) refl (decide (words_of listed.done) w.1) (λ is none. answer_to rest (word_done all rest w listed is none))
      where
        by : (b : Bool)
            → good w.1 ≡ b
            → Decided (taken (words_of listed.done) w.1)
            → (good w.1 ≡ true → ¬ (taken (words_of listed.done) w.1) → IsAnswered)
            → IsAnswered
        by false is decided go = inr (NoName, w.0, word_first least all rest w start end order listed NoName is)
        by true is (inl there) go =
            inr (NameTaken, w.0, word_first least all rest w start end order listed NameTaken (is, there))
        by true is (inr none) go = go is none

    pub list_answer : IsAnswered
    list_answer = answer_to all (nothing_done all)
