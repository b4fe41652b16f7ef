-- Paths, as the word automaton of the formula reads them.
--
--   not_large   == an automaton with few nodes isn't large
--   listed      == a list is made of what stands at its places
--   read_path   == it accepts the numbers of the labels along a path exactly where the path satisfies the formula, or its
--                  negation where the formula is negated
use Rattle.std.proofs.Common.{ℕ, ◌≡◌, ◌+◌, ◌<◌, ◌≤◌, ◌↔◌, arith, Bool, true, List, [], All, length, map, get_or, refl, sym, ap, ◌∙◌, subst, subst₂}
use Rattle.std.specs.List.{range_with_len}
use Rattle.std.proofs.lemmas.List.{ext_get_or, get_or-map, length-map}
use Rattle.std.proofs.lemmas.List.FromFn.{get_or-map-range_with_len, get_or-range_with_len, length-map-range_with_len, length-range_with_len}
use Rattle.ml_base.specs.Structure.{Structure}
use Rattle.ml_ctl.specs.Formula.{Formula}
use Rattle.ml_ctl.specs.Meaning.{Satisfies}
use Rattle.ml_ctl.specs.Paths.{places}
use Rattle.ml_ctl.specs.Sorts.{is_linear}
use Rattle.ml_emptiness.specs.Emptiness.{reads}
use Rattle.ml_graph.specs.Graph.{size}
use Rattle.ml_lists.specs.Lasso.{Lasso, entry}
use Rattle.ml_lists.specs.Member.{IsMember}
use Rattle.ml_lists.proofs.Ranges.{range-member}
use Rattle.ml_ltl.specs.Problem.{in_sense}
use Rattle.ml_trace.specs.Run.{in_letter}
use Rattle.ml_trace.specs.WordAutomata.{IsAcceptedFrom, WordLasso}
use Rattle.ml_trace.specs.declared.letters.Transition.{Transition}
use Rattle.ml_word_automaton.specs.Letters as by_letters
use Rattle.ml_word_automaton.specs.Letters.{Automaton, HasTransitions, HasTransitionsOf, IsAutomatonOf, leads_by, letter_in}
use Rattle.ml_word_automaton.specs.Words.{Letter, SatisfiedBy}
use Rattle.ml_word_automaton.proofs.BlockGraphs.{one_size}
use Rattle.ml_word_automaton.proofs.CarriedRuns.{accepted_back, accepted_there, read_as}
use Rattle.ml_word_automaton.proofs.RowsAccept.{rows_accept}
use Rattle.ml_paths.specs.Paths.{IsLarge, labels_at, most_nodes}
use Rattle.ml_paths.specs.Runs.{word_along}
use Rattle.ml_paths.specs.private.Letters.{AreLettersOf, number_of}
use Rattle.ml_paths.proofs.SameLabels.{satisfied_along, sense_linear}

-- an automaton with few nodes isn't large
pub not_large : (f : Formula) (negated : Bool) (a : Automaton) → IsAutomatonOf a f negated → size a.graph ≤ most_nodes
    → ¬ (IsLarge f negated)
not_large f negated a is few more =
    let low = (one_size f negated a.graph most_nodes is.is_graph).0 more in absurd (omega (arith, low, few))

pub listed : {X : Type 0} (xs : List X) (d : X) → map (λ i. get_or xs i d) (range_with_len 0 (length xs)) ≡ xs
listed xs d =
    let long = length-map-range_with_len (λ i. get_or xs i d) 0 (length xs) in
    ext_get_or d (map (λ i. get_or xs i d) (range_with_len 0 (length xs))) xs long
    (λ i low. get_or-map-range_with_len (λ j. get_or xs j d) 0 (length xs) i i d (omega (arith, low, long)) (omega arith))

module _ (f : Formula) (negated : Bool) (linear : is_linear f ≡ true) (a : Automaton) (is : IsAutomatonOf a f negated)
    (m : Structure) (numbers : List ℕ) (row : List (List Transition)) (of : AreLettersOf a m numbers row) where
  module _ (l : Lasso) (starts : l.start < places l) (low : (k : ℕ) → k < places l → entry l k < m.states) where
    -- the numbers of the labels along the path
    abbrev pub numbers_along : WordLasso ℕ
    numbers_along = record { word = map (number_of numbers) l.entries; loop_start = l.start }

    -- the places of the path, the letters there, and the transitions under them
    abbrev by_place : WordLasso ℕ
    by_place = record { word = range_with_len 0 (places l); loop_start = l.start }

    abbrev each : List Letter
    each = map (labels_at m) l.entries

    abbrev transitions_of : ℕ → List Transition
    transitions_of s = get_or row (number_of numbers s) []

    abbrev each_row : List (List Transition)
    each_row = map transitions_of l.entries

    rows_long : length each_row ≡ places l
    rows_long = length-map l.entries transitions_of

    row_at : (k : ℕ) → k < places l → get_or each_row k [] ≡ transitions_of (entry l k)
    row_at k inside = get_or-map transitions_of l.entries k 0 [] inside

    have : HasTransitionsOf a each each_row
    have k inside =
        let here : k < places l = subst (λ n. k < n) rows_long inside in
        subst₂ (HasTransitions a) (sym (get_or-map (labels_at m) l.entries k 0 [] here)) (sym (row_at k here))
        (of.are (entry l k) (low k here))

    -- the number of the label at a place
    abbrev number_at : ℕ → ℕ
    number_at k = get_or (numbers_along).word k 0

    number_is : (k : ℕ) → k < places l → number_at k ≡ number_of numbers (entry l k)
    number_is k inside = get_or-map (number_of numbers) l.entries k 0 0 inside

    same_row : (k : ℕ) → k < places l → get_or each_row k [] ≡ get_or row (number_at k) []
    same_row k inside = row_at k inside ∙ ap (λ n. get_or row n []) (sym (number_is k inside))

    words : read_as number_at by_place ≡ numbers_along
    words = λ j. record { word = at j; loop_start = l.start }
      where
        at : map number_at (range_with_len 0 (places l)) ≡ (numbers_along).word
        at =
            ap (λ n. map number_at (range_with_len 0 n)) (sym (length-map l.entries (number_of numbers)))
            ∙ listed (numbers_along).word 0

    letters : by_letters.word_of each by_place ≡ word_along m l
    letters = λ j. record { word = at j; loop_start = l.start }
      where
        at : map (letter_in each) (range_with_len 0 (places l)) ≡ each
        at =
            ap (λ n. map (letter_in each) (range_with_len 0 n)) (sym (length-map l.entries (labels_at m)))
            ∙ listed each []

    inside_of : (k : ℕ) → IsMember k (by_place).word → k < places l
    inside_of k member = range-member (places l) k member

    by_rows : IsAcceptedFrom (reads row) 0 numbers_along ↔ IsAcceptedFrom (leads_by each_row) 0 by_place
    by_rows = (
      λ h.
          accepted_back number_at (leads_by each_row) (reads row) (λ (p q : ℕ). p ≡ q) (λ k. k < places l)
          (λ k p b x y inside same leads. (
            y,
            refl,
            subst (λ s. leads_by each_row k s y b) (sym same)
                (subst (λ ts. in_letter ts x y b) (sym (same_row k inside)) leads),
          ))
          by_place 0 0 (λ p q y e d. e ∙ sym d) inside_of refl
          (subst (λ w. IsAcceptedFrom (reads row) 0 w) (sym words) h),
      λ h.
          subst (λ w. IsAcceptedFrom (reads row) 0 w) words
          (accepted_there number_at (leads_by each_row) (reads row) (λ (p q : ℕ). p ≡ q) (λ k. k < places l)
          (λ k p q b x inside same leads. (
            q,
            refl,
            subst (λ s. reads row (number_at k) s q b) same
                (subst (λ ts. in_letter ts p q b) (same_row k inside) leads),
          ))
          by_place 0 0 (λ p y z e d. sym e ∙ d) inside_of refl h),
    )

    pub read_path : IsAcceptedFrom (reads row) 0 numbers_along ↔ Satisfies m l (in_sense negated f)
    read_path = (
      λ h. path.1 (subst (λ w. SatisfiedBy w (in_sense negated f)) letters (law.0 (by_rows.0 h))),
      λ t. by_rows.1 (law.1 (subst (λ w. SatisfiedBy w (in_sense negated f)) (sym letters) (path.0 t))),
    )
      where
        range_long : length (range_with_len 0 (places l)) ≡ places l
        range_long = length-range_with_len 0 (places l)

        in_rows : All (λ i. i < length each_row) (by_place).word
        in_rows k d inside =
            let is : get_or (range_with_len 0 (places l)) k d ≡ 0 + k =
            get_or-range_with_len 0 (places l) k d (omega (arith, inside, range_long)) in
            let size = rows_long in
            omega (arith, is, inside, range_long, size)

        law : IsAcceptedFrom (leads_by each_row) 0 by_place
            ↔ SatisfiedBy (by_letters.word_of each by_place) (in_sense negated f)
        law =
            rows_accept f negated a each each_row by_place linear is have (omega (arith, starts, range_long)) in_rows

        path : Satisfies m l (in_sense negated f) ↔ SatisfiedBy (word_along m l) (in_sense negated f)
        path = satisfied_along m l (in_sense negated f) starts (sense_linear negated f linear)
