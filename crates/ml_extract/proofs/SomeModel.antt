-- Where Even wins the decision game, its moves make a model.
--
-- From a position that is won the choices end somewhere, since each decides one node more; the states are numbered, of
-- which there are at most as many as positions; and their labels and edges are gathered and put in order.
--
--   some_end       == where the choices from a position that is won end
--   some_behind    == what the diamonds lead to from there
--   some_numbers   == the states, numbered
--   some_parts     == their labels and edges
--   some_model     == the theorem
use Rattle.std.proofs.Common.{◌≡◌, ℕ, zero, suc, ◌+◌, ◌<◌, ◌≤◌, nat_eq, List, [], ◌∷◌, ◌++◌, length, get_or, map, slice_get, Option}
use Rattle.std.proofs.Common.{Some, None, ⊎_elim, refl, sym, ap, ◌∙◌, subst, arith, length-append}
use Rattle.std.proofs.lemmas.Bool.{cases_lt}
use Rattle.std.proofs.lemmas.List.{length-map}
use Rattle.std.proofs.lemmas.Option.{slice_get_within, slice_get-get_or, get_or_from_slice_get}
use Rattle.ml_base.specs.declared.structure.Edge.{Edge}
use Rattle.ml_base.specs.Structure.{Structure}
use Rattle.ml_graph.specs.Graph.{Graph, size}
use Rattle.ml_parity.specs.declared.players.Player.{Player}
use Rattle.ml_parity.specs.declared.players.Player.TheVariants.{Even, Odd}
use Rattle.ml_parity.specs.Solution.{GameSolution}
use Rattle.ml_sequent.specs.Spread.{SpreadList}
use Rattle.ml_product.specs.Arena.{Arena}
use Rattle.ml_product.specs.Position.{Position}
use Rattle.ml_product.proofs.ArenaGame.{here}
use Rattle.ml_product.proofs.ReachedChoices.{chosen_few}
use Rattle.indexmap.specs.IndexSet.{insert_all}
use Rattle.ml_extract.specs.Extraction.{SomeModel}
use Rattle.ml_extract.specs.Model.{Chooses, IsModelOf, State, nexts}
use Rattle.ml_extract.specs.private.Gathered.{AreGathered, edge_to, labelled, names_in}
use Rattle.ml_extract.specs.private.Numbered.{AreNumbered, IsUnderWay}
use Rattle.ml_extract.specs.private.WonPositions.{AreBehind, IsChosenEnd, IsEnd, IsWon, sides_at}
use Rattle.ml_extract.proofs.Board.{Board, board_of, even_moves}
use Rattle.ml_extract.proofs.GatheredParts.{is_model, none_gathered, one_more}
use Rattle.ml_extract.proofs.NumberedStates.{all_looked_at, begins, is_pending, looked_at, states_few}
use Rattle.ml_extract.proofs.BuiltStructures.{BuiltStructure, some_structure}
use Rattle.ml_extract.proofs.StateParts.{all_in_range, numbered_few, same_lengths, some_state}
use Rattle.ml_extract.proofs.WonEnds.{behind_even, behind_odd, chosen_before, chosen_end, ends_at_odd, ends_past, goes_on}

-- ---- where choices end

module _ (B : Board) where
  Ended : ℕ → Type 0
  Ended v = (w : ℕ) × IsChosenEnd B.g B.a B.s v w

  few_sides : (v : ℕ) → IsWon B.a B.s v → sides_at B.a v ≤ size B.g
  few_sides v won =
      let few = chosen_few B.g won.position (here B.g B.a B.arena v won.position won.stands) in
      let past : Position = record { sequent = []; history = []; priority = 0; choice = [] } in
      let sides : sides_at B.a v ≡ length won.position.choice =
      ap (λ (p : Position). length p.choice) (get_or_from_slice_get B.a.positions v won.position past won.stands) in
      omega (arith, few, sides)

  ended : (fuel first v : ℕ) → IsWon B.a B.s v
      → ((u : ℕ) (sp : SpreadList) → Chooses B.g B.a B.s v u sp → Chooses B.g B.a B.s first u sp)
      → size B.g < sides_at B.a v + fuel
      → Ended first
  unfolding Ended
  ended zero first v won before enough = absurd (omega (arith, few_sides v won, enough))
  ended (suc fuel) first v won before enough =
      by_owner (get_or B.a.owners v Even) refl (ended fuel first)
    where
      by_owner : (o : Player) → get_or B.a.owners v Even ≡ o
          → ((w : ℕ) → IsWon B.a B.s w
          → ((u : ℕ) (sp : SpreadList) → Chooses B.g B.a B.s w u sp → Chooses B.g B.a B.s first u sp)
          → size B.g < sides_at B.a w + fuel → Ended first)
          → Ended first
      by_owner Odd own again = (v, chosen_end B first v won (ends_at_odd B v won own) before)
      by_owner Even own again =
          ⊎_elim
          (λ (low : even_moves B v < length B.a.positions).
          let next = goes_on B v won (even_moves B v) own refl low in
          again (even_moves B v) next.won
          (λ u sp rest. before u sp (chosen_before B v (even_moves B v) next u sp rest))
          (omega (arith, next.longer, enough)))
          (λ (past : length B.a.positions ≤ even_moves B v).
          (v, chosen_end B first v won (ends_past B v won (even_moves B v) refl past) before))
          (cases_lt (even_moves B v) (length B.a.positions))

  some_end : (v : ℕ) → IsWon B.a B.s v → Ended v
  some_end v won = ended (suc (size B.g)) v v won (λ u sp rest. rest) (omega arith)

  some_behind : (v : ℕ) → IsWon B.a B.s v → IsEnd B.g B.a v → (ws : List ℕ) × AreBehind B.g B.a v ws
  some_behind v won is_end = by_owner (get_or B.a.owners v Even) refl
    where
      by_owner : (o : Player) → get_or B.a.owners v Even ≡ o → (ws : List ℕ) × AreBehind B.g B.a v ws
      by_owner Odd own = (get_or B.a.moves v [], behind_odd B v won is_end own)
      by_owner Even own = ([], behind_even B v won is_end own)

  -- ---- states

  Numbers : Type 0
  Numbers = (fs : List ℕ) × ((ls : List ℕ) × AreNumbered B.g B.a B.s fs ls)

  numbered : (fuel : ℕ) (fs ls : List ℕ) → IsUnderWay B.g B.a B.s fs ls
      → length B.a.positions < length ls + fuel
      → Numbers
  unfolding Numbers Ended
  numbered zero fs ls u enough = by_next (slice_get fs (length ls)) refl
    where
      by_next : (o : Option ℕ) → slice_get fs (length ls) ≡ o → Numbers
      by_next None none = (fs, (ls, all_looked_at B fs ls u none))
      by_next (Some v) is =
          absurd (omega (arith, enough, states_few B fs ls u, slice_get_within fs (length ls) v is))
  numbered (suc fuel) fs ls u enough = by_next (slice_get fs (length ls)) refl (numbered fuel)
    where
      by_next : (o : Option ℕ) → slice_get fs (length ls) ≡ o
          → ((gs ms : List ℕ) → IsUnderWay B.g B.a B.s gs ms → length B.a.positions < length ms + fuel → Numbers)
          → Numbers
      by_next None none again = (fs, (ls, all_looked_at B fs ls u none))
      by_next (Some v) is again =
          let end = some_end v (is_pending B fs ls v u is) in
          let after = some_behind end.0 end.1.won end.1.is_end in
          again (insert_all nat_eq fs after.0) (ls ++ end.0 ∷ [])
          (looked_at B fs ls v end.0 after.0 u is end.1 after.1 (insert_all nat_eq fs after.0) refl)
          (omega (arith, enough, length-append ls (end.0 ∷ [])))

  some_numbers : Numbers
  some_numbers = numbered (suc (length B.a.positions)) (0 ∷ []) [] (begins B) (omega arith)

-- ---- labels and edges

module _ (g : Graph) (a : Arena) (s : GameSolution) (fs ls : List ℕ) (n : AreNumbered g a s fs ls) where
  Parts : ℕ → Type 0
  Parts k = (labels : List (ℕ × List ℕ)) × ((edges : List Edge) × AreGathered g a n.states k labels edges)

  abbrev nowhere : State
  nowhere = record { first = 0; last = 0; spread = record { nodes = []; choice = [] } }

  some_parts : (k : ℕ) → k ≤ length n.states → Parts k
  unfolding Parts
  some_parts zero low = ([], ([], none_gathered g a s fs ls n))
  some_parts (suc k) low = more (some_parts k (omega arith))
    where
      more : Parts k → Parts (suc k)
      more (labels, rest) =
          let x : State = get_or n.states k nowhere in
          let e : k + 1 ≡ suc k = omega arith in (
            labels ++ labelled k (names_in g x.spread),
            (
              rest.0 ++ map (edge_to g fs k) (nexts g a x),
              subst (λ i. AreGathered g a n.states i (labels ++ labelled k (names_in g x.spread))
                  (rest.0 ++ map (edge_to g fs k) (nexts g a x))) e
                  (one_more g a s fs ls n k x (slice_get-get_or n.states k nowhere (omega arith)) labels
                  (labels ++ labelled k (names_in g x.spread)) rest.0 (rest.0 ++ map (edge_to g fs k) (nexts g a x))
                  rest.1 refl refl),
            ),
          )

-- ---- the model

abbrev Made : Graph → Arena → GameSolution → Type 0
Made g a s = (m : Structure) × ((start : ℕ) × (IsModelOf g a s m start × (m.states ≤ length a.positions)))

pub some_model : SomeModel
unfolding Numbers Parts
some_model g a s even = of_numbers (some_numbers (board_of g a s even))
  where
    of_structure : (fs ls : List ℕ) (n : AreNumbered g a s fs ls) (labels : List (ℕ × List ℕ)) (edges : List Edge)
        → AreGathered g a n.states (length ls) labels edges
        → BuiltStructure (length ls) labels edges
        → Made g a s
    of_structure fs ls n labels edges gathered x = (
      x.structure,
      (
        0,
        (
          is_model g a s fs ls n x.structure labels edges gathered x.is_structure x.is_ordered x.is_built,
          omega (arith, x.is_built.has_states, same_lengths g a s fs ls n, numbered_few g a s fs ls n),
        ),
      ),
    )

    of_parts : (fs ls : List ℕ) (n : AreNumbered g a s fs ls) → Parts g a s fs ls n (length n.states) → Made g a s
    of_parts fs ls n (labels, rest) =
        let long : length n.states ≡ length ls =
        sym (length-map n.states (λ (x : State). x.last)) ∙ ap length n.lasts_are in
        let gathered = subst (λ k. AreGathered g a n.states k labels rest.0) long rest.1 in
        of_structure fs ls n labels rest.0 gathered
        (some_structure (length ls) labels rest.0 (some_state g a s fs ls n)
        (all_in_range g a s fs ls n labels rest.0 gathered))

    of_numbers : Numbers (board_of g a s even) → Made g a s
    of_numbers (fs, rest) =
        of_parts fs rest.0 rest.1 (some_parts g a s fs rest.0 rest.1 (length rest.1.states) (omega arith))
