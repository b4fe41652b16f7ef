-- Paths of a structure from the start, and words of the system.
--
--   mapped s l     == the lasso l with the numbers of the start s and of state 0 changed
--   round_mapped   == so is its round
--   lasso_path     == a lasso of the system with a word is a path of the structure
--   word_is        == the word has the numbers of the labels along it
--   is_system      == the moves have letters, and lead to states
--   found_shown    == a word that the automaton accepts is along a path that is asked for
--   none_shown     == and where there is none, there is no such path
--   shown_of, none_of == so what is found in the system tells of paths
use Rattle.std.proofs.Common.{ℕ, ◌≡◌, ◌+◌, ◌<◌, ◌≤◌, ◌⊎◌, inl, inr, arith, Bool, true, List, length, map, get_or, Option, Some, None, MatchOption, refl, sym, ap, ◌∙◌, subst, subst₂}
use Rattle.std.proofs.lemmas.Bool.{cases_lt}
use Rattle.std.proofs.lemmas.List.{ext_get_or, get_or-map, length-map}
use Rattle.ml_base.specs.Structure.{IsStructure, Structure}
use Rattle.ml_blocks.proofs.SaidItems.{path_states, step_states}
use Rattle.ml_ctl.specs.Formula.{Formula}
use Rattle.ml_ctl.specs.Paths.{IsPath, IsPathFrom, has_step, places}
use Rattle.ml_ctl.specs.Sorts.{is_linear}
use Rattle.ml_emptiness.specs.Emptiness.{IsAccepted, IsEmpty, IsFound, reads}
use Rattle.ml_emptiness.specs.Systems.{Goes, IsSystem, IsWordOn, SystemTable}
use Rattle.ml_emptiness.specs.declared.lassos.SystemLasso.{SystemLasso}
use Rattle.ml_lists.specs.Lasso.{Lasso, entry, round}
use Rattle.ml_lists.proofs.Lasso.{round-end, round-entry}
use Rattle.ml_trace.specs.WordAutomata.{IsAcceptedFrom, WordLasso}
use Rattle.ml_trace.specs.declared.letters.Transition.{Transition}
use Rattle.ml_word_automaton.specs.Letters.{Automaton, IsAutomatonOf}
use Rattle.ml_paths.specs.Paths.{IsShown}
use Rattle.ml_paths.specs.private.Letters.{AreLettersOf, number_of}
use Rattle.ml_paths.specs.private.Systems.{IsSystemOf, path_from, swapped}
use Rattle.ml_paths.proofs.ReadPaths.{read_path}
use Rattle.ml_paths.proofs.Swapped.{swap_low, swap_start, swap_twice}

abbrev pub mapped : ℕ → Lasso → Lasso
mapped start l = record { entries = map (swapped start) l.entries; start = l.start }

module _ (start : ℕ) (l : Lasso) (starts : l.start < places l) where
  pub long : places (mapped start l) ≡ places l
  long = length-map l.entries (swapped start)

  pub entry_mapped : (k : ℕ) → k < places l → entry (mapped start l) k ≡ swapped start (entry l k)
  entry_mapped k low = get_or-map (swapped start) l.entries k 0 0 low

  pub round_mapped : (k : ℕ) → k < places l + 1 → get_or (round (mapped start l)) k 0 ≡ swapped start (get_or (round l) k 0)
  round_mapped k low = by (cases_lt k (places l))
    where
      by : (k < places l) ⊎ (places l ≤ k) → get_or (round (mapped start l)) k 0 ≡ swapped start (get_or (round l) k 0)
      by (inl inside) =
          let size = long in
          round-entry (mapped start l) k (omega (arith, inside, size))
          ∙ entry_mapped k inside
          ∙ ap (swapped start) (sym (round-entry l k inside))
      by (inr past) =
          let last : k ≡ places l = omega (arith, low, past) in
          round-end (mapped start l) k (last ∙ sym long)
          ∙ entry_mapped l.start starts
          ∙ ap (swapped start) (sym (round-end l k last))

module _ (m : Structure) (ok : IsStructure m) (start : ℕ) (start_low : start < m.states) (numbers : List ℕ)
    (s : SystemTable) (sys : IsSystemOf m start numbers m.edges s) where
  -- ---- lassos of the system

  module _ (lasso : Lasso) (w : WordLasso ℕ) (on : IsWordOn s lasso w) where
    starts : lasso.start < places lasso
    starts = let loops = on.loops in let one = on.one_loop in let size = on.one_length in omega (arith, loops, one, size)

    pub mapped_starts : lasso.start < places (mapped start lasso)
    mapped_starts = let size = long start lasso starts in let low = starts in omega (arith, size, low)

    pub lasso_path : IsPathFrom m start (mapped start lasso)
    lasso_path = record {
      is_path = record { starts = mapped_starts; joined = joined };
      starts_at = entry_mapped start lasso starts 0 (let low = starts in omega (arith, low)) ∙ ap (swapped start) on.begins;
    }
      where
        joined : (k : ℕ) → k < places (mapped start lasso)
            → has_step m (get_or (round (mapped start lasso)) k 0) (get_or (round (mapped start lasso)) (k + 1) 0) ≡ true
        joined k below =
            let size = long start lasso starts in
            let low : k < places lasso = omega (arith, below, size) in
            let in_word : k < length w.word = let one = on.one_length in omega (arith, low, one) in
            subst₂ (λ x y. has_step m x y ≡ true)
            (sym (round_mapped start lasso starts k (omega (arith, low))))
            (sym (round_mapped start lasso starts (k + 1) (omega (arith, low))))
            ((sys.goes (get_or (round lasso) k 0) (get_or w.word k 0) (get_or (round lasso) (k + 1) 0)).0
            (on.goes_on k in_word)).0

    pub word_is : w ≡ record { word = map (number_of numbers) (mapped start lasso).entries; loop_start = lasso.start }
    word_is = λ j. record { word = word_at j; loop_start = sym on.one_loop j }
      where
        sizes : length w.word ≡ length (map (number_of numbers) (mapped start lasso).entries)
        sizes =
            sym on.one_length ∙ sym (long start lasso starts)
            ∙ sym (length-map (mapped start lasso).entries (number_of numbers))

        at : (k : ℕ) → k < length w.word
            → get_or w.word k 0 ≡ get_or (map (number_of numbers) (mapped start lasso).entries) k 0
        at k in_word =
            let low : k < places lasso = let one = on.one_length in omega (arith, in_word, one) in
            let size = long start lasso starts in
            ((sys.goes (get_or (round lasso) k 0) (get_or w.word k 0) (get_or (round lasso) (k + 1) 0)).0
            (on.goes_on k in_word)).1
            ∙ ap (λ a. number_of numbers (swapped start a)) (round-entry lasso k low)
            ∙ ap (number_of numbers) (sym (entry_mapped start lasso starts k low))
            ∙ sym (get_or-map (number_of numbers) (mapped start lasso).entries k 0 0 (omega (arith, low, size)))

        word_at : w.word ≡ map (number_of numbers) (mapped start lasso).entries
        word_at = ext_get_or 0 w.word (map (number_of numbers) (mapped start lasso).entries) sizes at

  -- ---- the automaton

  module _ (f : Formula) (negated : Bool) (linear : is_linear f ≡ true) (a : Automaton) (is : IsAutomatonOf a f negated)
      (row : List (List Transition)) (of : AreLettersOf a m numbers row) where
    pub is_system : IsSystem (length row) s
    is_system = record {
      some = let one = sys.one_each in let has = ok.has_state in omega (arith, one, has);
      read = λ b x member.
          let h = (sys.goes b x.letter x.to).0 member in
          let low = (step_states m ok (swapped start b) (swapped start x.to) h.0).0 in
          subst (λ n. n < length row) (sym h.1) (of.in_row (swapped start b) low);
      leads = λ b x member.
          let h = (sys.goes b x.letter x.to).0 member in
          let low = (step_states m ok (swapped start b) (swapped start x.to) h.0).1 in
          subst₂ (λ t n. t < n) (swap_twice start x.to) (sym sys.one_each)
          (swap_low start (swapped start x.to) m.states start_low low);
    }

    low_entries : (l : Lasso) → IsPath m l → (k : ℕ) → k < places l → entry l k < m.states
    low_entries l path k low = path_states m l ok path k (path.starts, low)

    pub found_shown : (lasso : Lasso) (w : WordLasso ℕ) → IsAccepted row s lasso w → IsShown m start f negated (mapped start lasso)
    found_shown lasso w accepted =
        let on = accepted.is_word in
        let path = lasso_path lasso w on in
        record {
          is_path = path;
          satisfies =
              (read_path f negated linear a is m numbers row of (mapped start lasso) (mapped_starts lasso w on)
              (low_entries (mapped start lasso) path.is_path)).0
              (subst (λ u. IsAcceptedFrom (reads row) 0 u) (word_is lasso w on) accepted.is_accepted);
        }

    module _ (l : Lasso) (shown : IsShown m start f negated l) where
      abbrev path : IsPath m l
      path = shown.is_path.is_path

      word_long : length (map (number_of numbers) l.entries) ≡ places l
      word_long = length-map l.entries (number_of numbers)

      shown_word : IsWordOn s (mapped start l) (record { word = map (number_of numbers) l.entries; loop_start = l.start })
      shown_word = record {
        begins =
            entry_mapped start l path.starts 0 (let low = path.starts in omega (arith, low))
            ∙ ap (swapped start) shown.is_path.starts_at
            ∙ swap_start start;
        one_length = long start l path.starts ∙ sym word_long;
        one_loop = refl;
        loops = let low = path.starts in let size = word_long in omega (arith, low, size);
        goes_on = goes_on;
      }
        where
          goes_on : (k : ℕ) → k < length (map (number_of numbers) l.entries)
              → Goes s (get_or (round (mapped start l)) k 0) (get_or (map (number_of numbers) l.entries) k 0)
              (get_or (round (mapped start l)) (k + 1) 0)
          goes_on k below =
              let size = word_long in
              let low : k < places l = omega (arith, below, size) in
              let from : swapped start (get_or (round (mapped start l)) k 0) ≡ get_or (round l) k 0 =
              ap (swapped start) (round_mapped start l path.starts k (omega (arith, low)))
              ∙ swap_twice start (get_or (round l) k 0) in
              let to : swapped start (get_or (round (mapped start l)) (k + 1) 0) ≡ get_or (round l) (k + 1) 0 =
              ap (swapped start) (round_mapped start l path.starts (k + 1) (omega (arith, low)))
              ∙ swap_twice start (get_or (round l) (k + 1) 0) in
              (sys.goes (get_or (round (mapped start l)) k 0) (get_or (map (number_of numbers) l.entries) k 0)
              (get_or (round (mapped start l)) (k + 1) 0)).1 (
                subst₂ (λ x y. has_step m x y ≡ true) (sym from) (sym to) (path.joined k low),
                get_or-map (number_of numbers) l.entries k 0 0 low
                    ∙ ap (number_of numbers) (sym (from ∙ round-entry l k low)),
              )

      pub shown_found : IsAccepted row s (mapped start l) (record { word = map (number_of numbers) l.entries; loop_start = l.start })
      shown_found = record {
        is_word = shown_word;
        is_accepted =
            (read_path f negated linear a is m numbers row of l path.starts (low_entries l path)).1 shown.satisfies;
      }

    pub none_shown : IsEmpty row s → (l : Lasso) → ¬ (IsShown m start f negated l)
    none_shown empty l shown =
        empty (mapped start l) (record { word = map (number_of numbers) l.entries; loop_start = l.start })
        (shown_found l shown)

    -- what is found in the system
    abbrev Told : Option SystemLasso → Type 0
    Told o = MatchOption o (IsEmpty row s) (λ l. IsFound row s l.states.items l.letters.items l.loop_start)

    pub shown_of : (o : Option SystemLasso) (x : SystemLasso)
        → o ≡ Some x
        → MatchOption o (IsEmpty row s) (λ l. IsFound row s l.states.items l.letters.items l.loop_start)
        → IsShown m start f negated (path_from start x)
    shown_of o x is told =
        found_shown (record { entries = x.states.items; start = x.loop_start })
        (record { word = x.letters.items; loop_start = x.loop_start }) (subst Told is told)

    pub none_of : (o : Option SystemLasso)
        → o ≡ None
        → MatchOption o (IsEmpty row s) (λ l. IsFound row s l.states.items l.letters.items l.loop_start)
        → (l : Lasso) → ¬ (IsShown m start f negated l)
    none_of o is told = none_shown (subst Told is told)
