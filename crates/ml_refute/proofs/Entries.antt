-- The entries of an extracted refutation are positions that are reached.
--
--   position_at     == each entry has a position
--   start_is        == that of entry 0 is the start
--   is_reached      == each is reached
--   facts_at        == so what is true of reached positions is true of it
--   low_at          == and its nodes are in the graph
use Rattle.std.proofs.Common.{ℕ, List, zero, suc, ◌≡◌, ◌<◌, [], Some, length, get_or, map, slice_get, sym, ◌∙◌, subst, arith}
use Rattle.std.proofs.lemmas.List.{get_or-map}
use Rattle.std.proofs.lemmas.List.FromFn.{length-range_with_len, get_or-range_with_len}
use Rattle.std.specs.List.{range_with_len}
use Rattle.ml_lists.specs.Member.{IsMember}
use Rattle.ml_graph.specs.Graph.{Graph, size}
use Rattle.ml_parity.specs.Solution.{GameSolution}
use Rattle.ml_product.specs.Arena.{Arena, IsArenaOf}
use Rattle.ml_product.specs.DecisionGame.{IsReached, at_start}
use Rattle.ml_product.specs.Position.{Position, start_of}
use Rattle.ml_product.proofs.Reached.{Facts, reached_facts}
use Rattle.ml_refutation.specs.Acceptance.{entry_at, no_entry}
use Rattle.ml_refutation.specs.Refutation.{Refutation, Entry}
use Rattle.ml_refute.specs.Extracted.{leads_to, IsOutlineOf, IsEntryAt}
use Rattle.ml_refute.proofs.Decisions.{LedTo, go_to, nodes_low}
use Rattle.std.proofs.lemmas.Option.{slice_get_within, slice_get-get_or}
use Rattle.ml_lists.proofs.Member.{member_of_get}

-- a graph, its arena, a solution, and a refutation that is the solution's as far as its heights
pub record Extraction : Type 0 where
  pub g : Graph
  pub a : Arena
  pub arena : IsArenaOf g a
  pub s : GameSolution
  pub r : Refutation
  pub o : IsOutlineOf g a s r

module _ (X : Extraction) where
  -- each entry has a position
  pub record At (e : ℕ) : Type 0 where
    pub position : Position
    pub placed : slice_get X.o.positions e ≡ Some position
    pub is_entry : IsEntryAt X.g X.a X.s X.o.positions position (entry_at X.r e)

  pub position_at : (e : ℕ) → e < length X.r.entries → At e
  position_at e low =
      let p : Position = get_or X.o.positions e (start_of X.g) in
      let placed = slice_get-get_or X.o.positions e (start_of X.g) (omega (arith, X.o.a_position_each)) in
      record { position = p; placed = placed; is_entry = X.o.are_entries e p placed }

  -- that of entry 0 is the start
  pub start_is : (p : Position) → slice_get X.o.positions 0 ≡ Some p → p ≡ start_of X.g
  start_is p placed =
      let same : Some p ≡ Some (start_of X.g) = sym placed ∙ X.o.starts ∙ X.arena.starts in
      cc

  -- an entry but the first has an earlier one that leads to it
  pub record LedFrom (e : ℕ) : Type 0 where
    pub before : ℕ
    pub earlier : before < e
    pub before_at : At before
    pub leads : IsMember e (leads_to (entry_at X.r before).decision)
    pub led : LedTo X.g X.a X.s X.o.positions before_at.position e

  -- the numbers of the entries, and to which each leads
  abbrev numbers : List ℕ
  numbers = range_with_len 0 (length X.r.entries)

  abbrev rows : List (List ℕ)
  rows = map (λ (e : Entry). leads_to e.decision) X.r.entries

  pub led_from : (k : ℕ) → suc k < length X.r.entries → LedFrom (suc k)
  led_from k low =
      from (X.o.breadth_first.from_earlier (suc k) (omega arith) (omega (arith, length-range_with_len 0 (length X.r.entries))))
    where
      number_is : get_or numbers (suc k) 0 ≡ suc k
      number_is = let place = get_or-range_with_len 0 (length X.r.entries) (suc k) 0 low in omega (arith, place)

      at_row : (j : ℕ)
          → j < suc k
          → IsMember (get_or numbers (suc k) 0) (get_or rows j [])
          → IsMember (suc k) (leads_to (entry_at X.r j).decision)
      at_row j early inside =
          let row_is = get_or-map (λ (e : Entry). leads_to e.decision) X.r.entries j no_entry [] (omega arith) in
          subst (λ v. IsMember v (leads_to (entry_at X.r j).decision)) number_is
          (subst (λ row. IsMember (get_or numbers (suc k) 0) row) row_is inside)

      from : ((j : ℕ) × (j < suc k) × IsMember (get_or numbers (suc k) 0) (get_or rows j [])) → LedFrom (suc k)
      from (j, early, inside) =
          let here = position_at j (omega arith) in
          record {
            before = j;
            earlier = early;
            before_at = here;
            leads = at_row j early inside;
            led = go_to X.g X.a X.s X.o.positions here.position (entry_at X.r j).decision here.is_entry.decision (suc k)
                (at_row j early inside);
          }

  -- a position that a go leads to is one of the arena
  pub go_reached : (p : Position) (f : ℕ) (q : Position)
      → slice_get X.o.positions f ≡ Some q
      → LedTo X.g X.a X.s X.o.positions p f
      → IsReached X.g q
  go_reached p f q placed l =
      let next = l.go.is_go.next in
      let same : Some next ≡ Some q = sym l.go.is_go.is_entry ∙ placed in
      let here : next ≡ q = cc in
      subst (IsReached X.g) here
      ((X.arena.are_reached next).0 (member_of_get X.a.positions _ next l.go.is_go.is_choice.chosen))

  -- each is reached
  pub is_reached : (e : ℕ) (p : Position) → slice_get X.o.positions e ≡ Some p → IsReached X.g p
  is_reached zero p placed = subst (IsReached X.g) (sym (start_is p placed)) at_start
  is_reached (suc k) p placed =
      from (led_from k (omega (arith, slice_get_within X.o.positions (suc k) p placed, X.o.a_position_each)))
    where
      from : LedFrom (suc k) → IsReached X.g p
      from l = go_reached l.before_at.position (suc k) p placed l.led

  pub facts_at : (e : ℕ) (p : Position) → slice_get X.o.positions e ≡ Some p → Facts X.g p
  facts_at e p placed = reached_facts X.g p (is_reached e p placed)

  pub low_at : (e : ℕ) (p : Position)
      → slice_get X.o.positions e ≡ Some p
      → (n : ℕ)
      → IsMember n p.sequent
      → n < size X.g
  low_at e p placed =
      nodes_low X.g X.a X.s X.o.positions p (entry_at X.r e).decision (X.o.are_entries e p placed).decision
