-- Something is found of the paths from a state, and one thing at most.
--
--   some_letters  == the letters of the states of a structure
--   some_system   == the structure as a system
--   some_path     == so something is found
--   one_path      == and not two things
use Rattle.std.proofs.Common.{ℕ, ◌≡◌, ◌<◌, ◌≤◌, ◌⊎◌, inl, inr, ⊎_elim, arith, Bool, true, List, [], map, filter, get_or, sym, ap, ◌∙◌, subst, subst₂}
use Rattle.std.specs.List.{range_with_len}
use Rattle.std.proofs.lemmas.Bool.{cases_lt}
use Rattle.std.proofs.lemmas.List.{get_or_past}
use Rattle.std.proofs.lemmas.List.FromFn.{get_or-map-range_with_len, get_or-range_with_len, length-map-range_with_len, length-range_with_len}
use Rattle.ml_base.specs.Structure.{IsStructure, Structure}
use Rattle.ml_blocks.proofs.SaidItems.{step_states}
use Rattle.ml_ctl.specs.Formula.{Formula}
use Rattle.ml_ctl.specs.Sorts.{is_linear}
use Rattle.ml_emptiness.specs.Emptiness.{IsAccepted, IsEmpty}
use Rattle.ml_emptiness.specs.Systems.{Goes, SystemTable}
use Rattle.ml_emptiness.specs.declared.systems.Move.{Move}
use Rattle.ml_emptiness.proofs.SomeLasso.{some_lasso}
use Rattle.ml_graph.specs.Graph.{size}
use Rattle.ml_word_automaton.proofs.Listed.{some_automaton, some_transitions}
use Rattle.ml_lists.specs.Lasso.{Lasso}
use Rattle.ml_lists.specs.Member.{IsMember}
use Rattle.ml_lists.proofs.Member.{member-filter, member-filter_from, member-map, member-map_from}
use Rattle.ml_lists.proofs.Ranges.{member-range}
use Rattle.ml_trace.specs.WordAutomata.{WordLasso}
use Rattle.ml_trace.specs.declared.letters.Transition.{Transition}
use Rattle.ml_word_automaton.specs.Letters.{Automaton, HasTransitions, IsAutomatonOf}
use Rattle.ml_word_automaton.proofs.BlockGraphs.{one_size}
use Rattle.ml_paths.specs.Laws.{OnePath, SomePath}
use Rattle.ml_paths.specs.Paths.{IsFound, labels_at, most_nodes}
use Rattle.ml_paths.specs.declared.found.Found.{Found}
use Rattle.ml_paths.specs.declared.found.Found.TheVariants.{ClosureTooLarge, NoPath, Path}
use Rattle.ml_paths.specs.private.Letters.{AreLettersOf, number_of}
use Rattle.ml_paths.specs.private.Systems.{IsSystemOf, steps, swapped}
use Rattle.ml_paths.proofs.AsSystem.{found_shown, is_system, mapped, none_shown}
use Rattle.ml_paths.proofs.ReadPaths.{not_large}
use Rattle.ml_paths.proofs.Swapped.{swap_low, swap_twice}

module _ (m : Structure) (ok : IsStructure m) where
  -- ---- letters: each state has one of its own

  abbrev own_numbers : List ℕ
  own_numbers = range_with_len 0 m.states

  own_number : (s : ℕ) → s < m.states → number_of own_numbers s ≡ s
  own_number s low = get_or-range_with_len 0 m.states s 0 low ∙ omega arith

  module _ (f : Formula) (negated : Bool) (a : Automaton) (is : IsAutomatonOf a f negated) where
    abbrev own_letter : ℕ → List Transition
    own_letter s = (some_transitions f negated a (labels_at m s) is).0

    abbrev own_row : List (List Transition)
    own_row = map own_letter (range_with_len 0 m.states)

    some_letters : AreLettersOf a m own_numbers own_row
    some_letters = record {
      one_each = length-range_with_len 0 m.states;
      in_row = λ s low. subst₂ (λ k n. k < n) (sym (own_number s low)) (sym (length-map-range_with_len own_letter 0 m.states)) low;
      are = λ s low.
          subst (HasTransitions a (labels_at m s))
          (sym (ap (λ k. get_or own_row k []) (own_number s low)
          ∙ get_or-map-range_with_len own_letter 0 m.states s s [] low (omega arith)))
          (some_transitions f negated a (labels_at m s) is).1;
    }

  -- ---- the system

  module _ (start : ℕ) (start_low : start < m.states) (numbers : List ℕ) where
    abbrev leads : ℕ → ℕ → Bool
    leads b c = steps m.edges (swapped start b) (swapped start c)

    abbrev move_to : ℕ → ℕ → Move
    move_to b c = record { letter = number_of numbers (swapped start b); to = c }

    abbrev moves_from : ℕ → List Move
    moves_from b = map (move_to b) (filter (leads b) (range_with_len 0 m.states))

    abbrev table : SystemTable
    table = map moves_from (range_with_len 0 m.states)

    low_of : (b c : ℕ) → leads b c ≡ true → (b < m.states) × (c < m.states)
    low_of b c is =
        let low = step_states m ok (swapped start b) (swapped start c) is in (
          subst (λ n. n < m.states) (swap_twice start b) (swap_low start (swapped start b) m.states start_low low.0),
          subst (λ n. n < m.states) (swap_twice start c) (swap_low start (swapped start c) m.states start_low low.1),
        )

    row_is : (b : ℕ) → b < m.states → get_or table b [] ≡ moves_from b
    row_is b low = get_or-map-range_with_len moves_from 0 m.states b b [] low (omega arith)

    some_system : IsSystemOf m start numbers m.edges table
    some_system = record {
      one_each = length-map-range_with_len moves_from 0 m.states;
      goes = λ b l c. (there b l c (cases_lt b m.states), back b l c);
    }
      where
        there : (b l c : ℕ) → (b < m.states) ⊎ (m.states ≤ b) → Goes table b l c
            → (leads b c ≡ true) × (l ≡ number_of numbers (swapped start b))
        there b l c (inl low) member =
            let image =
            member-map_from (move_to b) (record { letter = l; to = c }) (filter (leads b) (range_with_len 0 m.states))
            (subst (IsMember {X = Move} (record { letter = l; to = c })) (row_is b low) member) in
            let both = member-filter_from (leads b) image.from (range_with_len 0 m.states) image.member in (
              subst (λ d. leads b d ≡ true) (sym (ap (λ (v : Move). v.to) image.holds)) both.1,
              ap (λ (v : Move). v.letter) image.holds,
            )
        there b l c (inr past) member =
            let size = length-map-range_with_len moves_from 0 m.states in
            absurd (subst (IsMember {X = Move} (record { letter = l; to = c }))
            (get_or_past table b [] (omega (arith, past, size))) member)

        back : (b l c : ℕ) → (leads b c ≡ true) × (l ≡ number_of numbers (swapped start b)) → Goes table b l c
        back b l c (is, letter) =
            let low = low_of b c is in
            subst (IsMember {X = Move} (record { letter = l; to = c })) (sym (row_is b low.0))
            (subst (λ n. IsMember {X = Move} (record { letter = n; to = c }) (moves_from b)) (sym letter)
            (member-map (move_to b) c (filter (leads b) (range_with_len 0 m.states))
            (member-filter (leads b) c (range_with_len 0 m.states) (member-range m.states c low.1) is)))

-- ---- something is found

module _ (m : Structure) (s : ℕ) (f : Formula) (negated : Bool) (ok : IsStructure m) (low : s < m.states)
    (linear : is_linear f ≡ true) (a : Automaton) (is : IsAutomatonOf a f negated) (few : size a.graph ≤ most_nodes) where
  found_with : (x : Found) × IsFound m s f negated x
  found_with =
      let numbers = own_numbers m ok in
      let row = own_row m ok f negated a is in
      let of = some_letters m ok f negated a is in
      let t = table m ok s low numbers in
      let sys = some_system m ok s low numbers in
      ⊎_elim
      (λ (found : (lasso : Lasso) × ((w : WordLasso ℕ) × IsAccepted row t lasso w)). (
        Path (mapped s found.0),
        (
          not_large f negated a is few,
          found_shown m ok s low numbers t sys f negated linear a is row of found.0 found.1.0 found.1.1,
        ),
      ))
      (λ (empty : IsEmpty row t).
      (NoPath, (not_large f negated a is few, none_shown m ok s low numbers t sys f negated linear a is row of empty)))
      (some_lasso row t (is_system m ok s low numbers t sys f negated linear a is row of))

pub some_path : SomePath
some_path m s f negated ok low linear =
    let a = some_automaton f negated in
    ⊎_elim
    (λ (large : most_nodes < size a.0.graph).
    (ClosureTooLarge, (one_size f negated a.0.graph most_nodes a.1.is_graph).1 large))
    (λ (few : size a.0.graph ≤ most_nodes). found_with m s f negated ok low linear a.0 a.1 few)
    (cases_lt most_nodes (size a.0.graph))

pub one_path : OnePath
one_path m s f negated (Path l) (Path k) x y = tt
one_path m s f negated (Path l) NoPath x y = absurd (y.1 l x.1)
one_path m s f negated (Path l) ClosureTooLarge x y = absurd (x.0 y)
one_path m s f negated NoPath (Path k) x y = absurd (x.1 k y.1)
one_path m s f negated NoPath NoPath x y = tt
one_path m s f negated NoPath ClosureTooLarge x y = absurd (x.0 y)
one_path m s f negated ClosureTooLarge (Path k) x y = absurd (y.0 x)
one_path m s f negated ClosureTooLarge NoPath x y = absurd (y.0 x)
one_path m s f negated ClosureTooLarge ClosureTooLarge x y = tt
