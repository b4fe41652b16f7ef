-- The refutation, put together of entries that were found.
--
--   arcs_from_decisions == the arcs of entries are those of their decisions
--   most_none, most_more, most_done == the greatest number of names, vertex by vertex
--   put_none, put_more, put_next == entries as they are put, one after the other
--   row_low      == the heights of an entry fit
--   entries_with, put_with == entries with given heights, and that they are so put
--   outline      == entries that were put at the vertices are an outline
--   is_refutation == with the longest counts as heights they are the refutation
--   one_sided_here, no_cycle_here, names_here, marks_here == what is known before there are heights
--   is_held, is_accepted == what is put together is a refutation that a program holds, and breaks no rule
use Rattle.std.proofs.Common.{ℕ, ◌≡◌, ◌+◌, ◌*◌, ◌/◌, ◌<◌, ◌≤◌, ◌⊎◌, inl, inr, max, List, [], ◌∷◌, ◌++◌, Some, length, map, get_or, slice_get, All, refl, sym, ap, ◌∙◌, subst, arith}
use Rattle.std.specs.List.{flat_map, range_with_len}
use Rattle.std.proofs.lemmas.Bool.{cases_lt}
use Rattle.std.proofs.lemmas.List.{length-map, get_or-map, ext_get_or, get_or_default, get_or_append_left, length-append}
use Rattle.std.proofs.lemmas.List.FromFn.{length-range_with_len, get_or-range_with_len, length-map-range_with_len, get_or-map-range_with_len}
use Rattle.std.proofs.lemmas.Option.{slice_get_within, slice_get-get_or, get_or_from_slice_get}
use Rattle.ml_lists.specs.BreadthFirst.{each_once, IsBreadthFirst}
use Rattle.ml_lists.specs.Member.{IsMember}
use Rattle.ml_lists.proofs.Member.{place-member, member-place, Place}
use Rattle.ml_graph.specs.Graph.{Graph, IsGraph, size, odd_priorities}
use Rattle.ml_history.specs.HistoryStep.{live}
use Rattle.ml_parity.specs.declared.one_sided.graph.Arc.{Arc}
use Rattle.ml_parity.specs.OneSided.{AtMost, AreLongest, IsOneSided, EvenCycleIn}
use Rattle.ml_parity.specs.Solution.{GameSolution}
use Rattle.ml_product.specs.Arena.{Arena}
use Rattle.ml_product.specs.Position.{Position, start_of}
use Rattle.ml_lists.proofs.Member.{member_of_get}
use Rattle.ml_refutation.specs.declared.refutation.TheConstants.{NESTING_LIMIT}
use Rattle.ml_refutation.specs.Acceptance.{entry_at, no_entry, heights_of, IsAccepted}
use Rattle.ml_refutation.specs.Refutation.{Refutation, Entry, Decision, Split, Clash, Go, IsDecided, IsRefutation, Fits}
use Rattle.ml_sequent.specs.declared.clashes.ClashCause.TheVariants as cause
use Rattle.ml_refute.specs.Extracted.{IsDecisionAt, IsEntryAt, IsGreatestLive, IsOutlineOf, arcs_of, arcs_from, go_graph, IsRefutationOf, leads_to, traces_of}
use Rattle.ml_refute.specs.private.Found.{OddWins, AreNumbered, AreLooked, position_at}
use Rattle.ml_refute.specs.private.PutTogether.{IsMostBelow, HasMarksOf, arcs_at, go_graph_of, IsNamesOf, IsPut, ArePut}
use Rattle.ml_refute.specs.private.Tables.{IsPutBehind}
use Rattle.ml_refute.proofs.Accepted.{extracted_accepted}
use Rattle.ml_refute.proofs.Entries.{Extraction}
use Rattle.ml_product.proofs.Naming.{stands_last}
use Rattle.ml_refute.proofs.GoCycles.{no_even_cycle}
use Rattle.ml_refute.proofs.GoGraph.{is_one_sided}
use Rattle.ml_lists.proofs.InTurn.{in_turn}
use Rattle.ml_lists.proofs.Entries.{get_grown}
use Rattle.ml_refute.proofs.WellFormed.{names_few, decided_at, extracted_refutation}

-- the arcs of entries are those of their decisions
pub arcs_from_decisions : (top e : ℕ) (es : List Entry)
    → arcs_from top e es ≡ arcs_at top e (map (λ (x : Entry). x.decision) es)
arcs_from_decisions top e [] = refl
arcs_from_decisions top e (x ∷ es) =
    ap (λ (ys : List Arc). arcs_of top e x.decision ++ ys) (arcs_from_decisions top (e + 1) es)

-- the marks of a decision are of so many names
pub marks_of_decided : (n k : ℕ) (d : Decision) → IsDecided n k d → HasMarksOf n d
marks_of_decided n k (Split o left right) is = (marks_of_decided n k left is.1, marks_of_decided n k right is.2)
marks_of_decided n k (Clash x) is = tt
marks_of_decided n k (Go d f m) is = is.2

-- ---- the names

module _ (g : Graph) (a : Arena) (s : GameSolution) (vs : List ℕ) (numbered : AreNumbered g a s vs) where
  abbrev live_of : ℕ → ℕ
  live_of v = live (position_at g a v).history

  pub vertex_low : (k v : ℕ) → slice_get vs k ≡ Some v → v < length a.positions
  vertex_low k v is = (numbered.won v (member_of_get vs k v is)).low

  pub index_low : (k : ℕ) → k < length vs → get_or vs k 0 < length a.positions
  index_low k low = (numbered.won (get_or vs k 0) (place-member vs k 0 low)).low

  pub some_numbered : 0 < length vs
  some_numbered = slice_get_within vs 0 0 numbered.starts

  pub most_none : (v n : ℕ) → slice_get vs 0 ≡ Some v → n ≡ live (position_at g a v).history → IsMostBelow g a vs 0 n
  most_none v n first is = (
    λ i low. absurd (omega arith),
    (0, some_numbered, ap live_of (get_or_from_slice_get vs 0 v 0 first) ∙ sym is),
  )

  pub most_more : (k n m x : ℕ)
      → k < length vs
      → IsMostBelow g a vs k n
      → x ≡ live (position_at g a (get_or vs k 0)).history
      → m ≡ max n x → IsMostBelow g a vs (k + 1) m
  most_more k n m x low most x_is m_is = (below, one most.1 (cases_lt n x))
    where
      below : (i : ℕ) → i < k + 1 → live (position_at g a (get_or vs i 0)).history ≤ m
      below i early = by_order (cases_lt i k)
        where
          by_order : (i < k) ⊎ (k ≤ i) → live (position_at g a (get_or vs i 0)).history ≤ m
          by_order (inl before) = omega (arith, most.0 i before, m_is)
          by_order (inr le) =
              let same : i ≡ k = omega (arith, early, le) in
              let here = ap (λ e. live_of (get_or vs e 0)) same in
              omega (arith, here, x_is, m_is)

      one : ((j : ℕ) × (j < length vs) × (live (position_at g a (get_or vs j 0)).history ≡ n))
          → (n < x) ⊎ (x ≤ n)
          → (j : ℕ) × (j < length vs) × (live (position_at g a (get_or vs j 0)).history ≡ m)
      one old (inl more) = (k, low, omega (arith, x_is, m_is, more))
      one old (inr less) = (old.0, old.1, omega (arith, old.2, m_is, less))

  pub most_done : (n k : ℕ) → length vs ≤ k → IsMostBelow g a vs k n → IsNamesOf g a vs n
  most_done n k all most = record {
    bounds = λ v m. of_place v (member-place v vs m);
    vertex = get_or vs most.1.0 0;
    member = place-member vs most.1.0 0 most.1.1;
    is = most.1.2;
  }
    where
      of_place : (v : ℕ) → Place v vs → live (position_at g a v).history ≤ n
      of_place v i =
          let here = ap live_of (i.holds 0) in
          omega (arith, here, most.0 i.place (omega (arith, i.below, all)))

-- ---- the entries

pub put_none : (g : Graph) (a : Arena) (vs : List ℕ) (rows : List (List ℕ)) → ArePut g a vs rows [] []
put_none g a vs rows = record { an_entry_each = refl; are_put = λ k e none. absurd (cc) }

pub put_more : (g : Graph) (a : Arena) (vs : List ℕ) (rows : List (List ℕ)) (ds : List Decision) (es : List Entry)
    (d : Decision) (e : Entry)
    → ArePut g a vs rows ds es
    → IsPut (odd_priorities g) (position_at g a (get_or vs (length es) 0)) (get_or rows (length es) []) d e
    → ArePut g a vs rows (ds ++ d ∷ []) (es ++ e ∷ [])
put_more g a vs rows ds es d e put is = record {
  an_entry_each = omega (arith, put.an_entry_each, length-append es (e ∷ []), length-append ds (d ∷ []));
  are_put = λ k x stands. by_place k x stands (cases_lt k (length es));
}
  where
    by_place : (k : ℕ) (x : Entry)
        → slice_get (es ++ e ∷ []) k ≡ Some x
        → (k < length es) ⊎ (length es ≤ k)
        → (y : Decision) × (slice_get (ds ++ d ∷ []) k ≡ Some y)
        × IsPut (odd_priorities g) (position_at g a (get_or vs k 0)) (get_or rows k []) y x
    by_place k x stands (inl early) =
        let here : get_or es k x ≡ x = sym (get_or_append_left es (e ∷ []) x k early)
        ∙ get_or_from_slice_get (es ++ e ∷ []) k x x stands in
        let old = put.are_put k x (slice_get-get_or es k x early ∙ ap Some here) in
        (old.0, get_grown ds (d ∷ []) k old.0 old.1, old.2)
    by_place k x stands (inr late) =
        let k_is : length es ≡ k = omega (
          arith,
          late,
          slice_get_within (es ++ e ∷ []) k x stands,
          length-append es
              (e ∷ []),
        ) in
        let last : Some x ≡ Some e = sym stands ∙ ap (slice_get (es ++ e ∷ [])) (sym k_is) ∙ stands_last es e in
        let x_is : e ≡ x = cc in (
          d,
          ap (slice_get (ds ++ d ∷ [])) (sym k_is ∙ put.an_entry_each) ∙ stands_last ds d,
          subst (λ z. IsPut (odd_priorities g) (position_at g a (get_or vs k 0)) (get_or rows k []) d z) x_is
              (subst (λ i. IsPut (odd_priorities g) (position_at g a (get_or vs i 0)) (get_or rows i []) d e) k_is is),
        )

-- so a program puts the next one
pub put_next : (g : Graph) (a : Arena) (vs odds row : List ℕ) (rows : List (List ℕ)) (ds : List Decision)
    (es es' : List Entry) (d : Decision) (p : Position) (v i : ℕ)
    → ArePut g a vs rows ds es
    → i ≡ length es
    → slice_get vs i ≡ Some v
    → slice_get a.positions v ≡ Some p
    → odds ≡ odd_priorities g
    → row ≡ get_or rows i []
    → IsPutBehind odds p row d es es'
    → ArePut g a vs rows (ds ++ d ∷ []) es'
put_next g a vs odds row rows ds es es' d p v i put i_is vertex position odds_are row_is behind =
    let p_is : p ≡ position_at g a (get_or vs (length es) 0) =
    sym (get_or_from_slice_get a.positions v p (start_of g) position)
    ∙ ap (position_at g a) (sym (get_or_from_slice_get vs i v 0 vertex) ∙ ap (λ k. get_or vs k 0) i_is) in
    let row_here : row ≡ get_or rows (length es) [] = row_is ∙ ap (λ k. get_or rows k []) i_is in
    subst (ArePut g a vs rows (ds ++ d ∷ [])) (sym behind.grown) (put_more g a vs rows ds es d behind.entry put
    (subst (λ x. IsPut x (position_at g a (get_or vs (length es) 0)) (get_or rows (length es) []) d behind.entry) odds_are
    (subst (λ x. IsPut odds x (get_or rows (length es) []) d behind.entry) p_is
    (subst (λ x. IsPut odds p x d behind.entry) row_here behind.is_put))))

-- a row is low where no height is above so much
pub row_low : (m : ℕ) (rows : List (List ℕ)) (v : ℕ) (row : List ℕ) → AtMost m rows → row ≡ get_or rows v []
    → All (λ n. n < m + 1) row
row_low m rows v row most row_is k d below =
    let half : (2 * k) / 2 ≡ k = omega arith in
    let here : get_or (get_or rows v []) ((2 * k) / 2) 0 ≡ get_or row k d =
    ap (λ j. get_or (get_or rows v []) j 0) half ∙ ap (λ (xs : List ℕ). get_or xs k 0) (sym row_is)
    ∙ get_or_default row k 0 d below in
    omega (arith, most (2 * k) v, here)

abbrev none_here : Decision
none_here = Clash (cause.False 0)

module _ (g : Graph) (a : Arena) (s : GameSolution) (odd : OddWins g a s) (vs : List ℕ) (ds : List Decision)
    (looked : AreLooked g a s vs ds) (all : length ds ≡ length vs) (n : ℕ) (names : IsNamesOf g a vs n) where
  abbrev at : ℕ → Position
  at v = position_at g a v

  abbrev odds : List ℕ
  odds = odd_priorities g

  module _ (rows : List (List ℕ)) (es : List Entry) (put : ArePut g a vs rows ds es) where
    abbrev pub made : Refutation
    made = record { names = n; entries = es }

    -- entry e, as it was put
    pub record PutAt (e : ℕ) : Type 0 where
      pub decision : Decision
      pub stands : slice_get ds e ≡ Some decision
      pub is_put : IsPut (odd_priorities g) (position_at g a (get_or vs e 0)) (get_or rows e []) decision
          (get_or es e no_entry)

    put_at : (e : ℕ) → e < length es → PutAt e
    put_at e low =
        let i = put.are_put e (get_or es e no_entry) (slice_get-get_or es e no_entry low) in
        record { decision = i.0; stands = i.1; is_put = i.2 }

    decisions_are : map (λ (e : Entry). e.decision) es ≡ ds
    decisions_are =
        ext_get_or none_here (map (λ (e : Entry). e.decision) es) ds
        (length-map es (λ (e : Entry). e.decision) ∙ put.an_entry_each)
        (λ k low. same k (omega (arith, low, length-map es (λ (e : Entry). e.decision))))
      where
        same : (k : ℕ) → k < length es → get_or (map (λ (e : Entry). e.decision) es) k none_here ≡ get_or ds k none_here
        same k low =
            let p = put_at k low in
            get_or-map (λ (e : Entry). e.decision) es k no_entry none_here low ∙ p.is_put.decision
            ∙ sym (get_or_from_slice_get ds k p.decision none_here p.stands)

    leads_are : (xs : List Entry)
        → map (λ (e : Entry). leads_to e.decision) xs ≡ map leads_to (map (λ (e : Entry). e.decision) xs)
    leads_are [] = refl
    leads_are (x ∷ xs) = ap (λ ys. leads_to x.decision ∷ ys) (leads_are xs)

    rows_lead : map (λ (e : Entry). leads_to e.decision) es ≡ map leads_to ds
    rows_lead = leads_are es ∙ ap (map leads_to) decisions_are

    entries_are : (e : ℕ) (p : Position) → slice_get (map (position_at g a) vs) e ≡ Some p
        → IsEntryAt g a s (map (position_at g a) vs) p (entry_at made e)
    entries_are e p stands = subst (λ q. IsEntryAt g a s (map (position_at g a) vs) q (entry_at made e)) p_is (record {
      unchosen = looked.numbered.unchosen (get_or vs e 0) (place-member vs e 0 low);
      sequent = here.is_put.sequent;
      traces = here.is_put.traces;
      decision = subst (IsDecisionAt g a s (map (position_at g a) vs) (at (get_or vs e 0))) (sym here.is_put.decision)
          (looked.are_decisions e here.decision here.stands);
    })
      where
        low : e < length vs
        low = omega (arith, slice_get_within (map (position_at g a) vs) e p stands, length-map vs (position_at g a))

        here : PutAt e
        here = put_at e (omega (arith, low, all, put.an_entry_each))

        p_is : at (get_or vs e 0) ≡ p
        p_is = sym (get_or-map (position_at g a) vs e 0 (start_of g) low)
            ∙ get_or_from_slice_get (map (position_at g a) vs) e p (start_of g) stands

    count_is : length es ≡ length vs
    count_is = put.an_entry_each ∙ all

    in_order : IsBreadthFirst 0 (map (λ (e : Entry). leads_to e.decision) es) (range_with_len 0 (length es))
    in_order = record {
      a_row_each = length-map es (λ (e : Entry). leads_to e.decision) ∙ sym (length-range_with_len 0 (length es));
      in_order = ap (range_with_len 0) count_is
          ∙ sym (in_turn (length vs) (0 ∷ flat_map (λ row. row) (map leads_to ds)) looked.runs_on)
          ∙ ap (λ (xs : List (List ℕ)). each_once (0 ∷ flat_map (λ row. row) xs)) (sym rows_lead);
      from_earlier = λ k some low. earlier k (omega (arith, low, length-range_with_len 0 (length es)))
          (looked.from_earlier k some (omega (arith, low, length-range_with_len 0 (length es), count_is)));
    }
      where
        earlier : (k : ℕ)
            → k < length es
            → ((j : ℕ) × (j < k) × IsMember k (get_or (map leads_to ds) j []))
            → (j : ℕ) × (j < k) × IsMember (get_or (range_with_len 0 (length es)) k 0)
            (get_or (map (λ (e : Entry). leads_to e.decision) es) j [])
        earlier k low (j, early, inside) = (
          j,
          early,
          subst (λ x. IsMember x (get_or (map (λ (e : Entry). leads_to e.decision) es) j [])) (sym number_is)
              (subst (λ (xs : List (List ℕ)). IsMember k (get_or xs j [])) (sym rows_lead) inside),
        )
          where
            number_is : get_or (range_with_len 0 (length es)) k 0 ≡ k
            number_is = let place = get_or-range_with_len 0 (length es) k 0 low in omega (arith, place)

    live_is : (e : ℕ)
        → e < length es
        → (get_or es e no_entry).traces.live ≡ live (position_at g a (get_or vs e 0)).history
    live_is e low = ap (λ t. t.live) (put_at e low).is_put.traces

    greatest : IsGreatestLive n es
    greatest = of_place (member-place names.vertex vs names.member)
      where
        bounds : (k : ℕ) (d : Entry) → k < length es → (get_or es k d).traces.live ≤ n
        bounds k d low =
            let same = ap (λ (e : Entry). e.traces.live) (get_or_default es k d no_entry low) in
            let few = names.bounds (get_or vs k 0) (place-member vs k 0 (omega (arith, low, count_is))) in
            omega (arith, same, few, live_is k low)

        of_place : Place names.vertex vs → IsGreatestLive n es
        of_place i =
            let low : i.place < length es = omega (arith, i.below, count_is) in
            record {
              bounds = bounds;
              entry = get_or es i.place no_entry;
              member = place-member es i.place no_entry low;
              is = live_is i.place low ∙ ap (λ v. live (position_at g a v).history) (i.holds 0) ∙ names.is;
            }

    pub outline : IsOutlineOf g a s (record { names = n; entries = es })
    outline = record {
      positions = map (position_at g a) vs;
      a_position_each = length-map vs (position_at g a) ∙ sym count_is;
      starts = starts;
      are_different = looked.numbered.are_different;
      are_entries = entries_are;
      breadth_first = in_order;
      names = greatest;
    }
      where
        starts : slice_get (map (position_at g a) vs) 0 ≡ slice_get a.positions 0
        starts =
            let low = slice_get_within vs 0 0 looked.numbered.starts in
            let first = get_or_from_slice_get vs 0 0 0 looked.numbered.starts in
            slice_get-get_or (map (position_at g a) vs) 0 (start_of g)
            (omega (arith, low, length-map vs (position_at g a)))
            ∙ ap Some (get_or-map (position_at g a) vs 0 0 (start_of g) low ∙ ap (position_at g a) first
            ∙ get_or_from_slice_get a.positions 0 (start_of g) (start_of g) odd.arena.starts)
            ∙ sym odd.arena.starts

    pub graph_is : go_graph (record { names = n; entries = es }) ≡ go_graph_of n ds
    graph_is = λ i. record {
      size = put.an_entry_each i;
      top = 2 * n;
      arcs = (arcs_from_decisions (2 * n) 0 es ∙ ap (arcs_at (2 * n) 0) decisions_are) i;
    }

    pub heights_are : length rows ≡ length es → rows ≡ heights_of (record { names = n; entries = es })
    heights_are long =
        ext_get_or [] rows (map (λ (e : Entry). e.heights) es) (long ∙ sym (length-map es (λ (e : Entry). e.heights)))
        (λ k low. same k (omega (arith, low, long)))
      where
        same : (k : ℕ) → k < length es → get_or rows k [] ≡ get_or (map (λ (e : Entry). e.heights) es) k []
        same k low =
            sym (get_or-map (λ (e : Entry). e.heights) es k no_entry [] low ∙ (put_at k low).is_put.heights)

    -- with the longest counts as heights they are the refutation
    pub is_refutation : AreLongest (go_graph_of n ds) rows → IsRefutationOf g a s (record { names = n; entries = es })
    is_refutation longest = record {
      outline = outline;
      heights = subst (λ x. AreLongest x (heights_of (record { names = n; entries = es }))) (sym graph_is)
          (subst (AreLongest (go_graph_of n ds)) (heights_are (longest.shape.vertices ∙ sym put.an_entry_each))
          longest);
    }

  -- ---- entries with given heights

  abbrev entry_with : List (List ℕ) → ℕ → Entry
  entry_with rows e = record {
    sequent = (at (get_or vs e 0)).sequent;
    traces = traces_of g (at (get_or vs e 0)).history;
    heights = get_or rows e [];
    decision = get_or ds e none_here;
  }

  abbrev pub entries_with : List (List ℕ) → List Entry
  entries_with rows = map (entry_with rows) (range_with_len 0 (length ds))

  pub put_with : (rows : List (List ℕ)) → ArePut g a vs rows ds (entries_with rows)
  put_with rows = record {
    an_entry_each = length-map-range_with_len (entry_with rows) 0 (length ds);
    are_put = λ k e stands. at_place k e stands
        (omega (
          arith,
          slice_get_within (entries_with rows) k e stands,
          length-map-range_with_len (entry_with rows) 0 (length ds),
        ));
  }
    where
      at_place : (k : ℕ) (e : Entry)
          → slice_get (entries_with rows) k ≡ Some e
          → k < length ds
          → (d : Decision) × (slice_get ds k ≡ Some d)
          × IsPut (odd_priorities g) (position_at g a (get_or vs k 0)) (get_or rows k []) d e
      at_place k e stands low =
          let is : entry_with rows k ≡ e =
          sym (get_or-map-range_with_len (entry_with rows) 0 (length ds) k k e low (omega arith))
          ∙ get_or_from_slice_get (entries_with rows) k e e stands in (
            get_or ds k none_here,
            slice_get-get_or ds k none_here low,
            subst (IsPut (odd_priorities g) (position_at g a (get_or vs k 0)) (get_or rows k [])
                (get_or ds k none_here)) is
                (record { sequent = refl; traces = refl; heights = refl; decision = refl }),
          )

  -- ---- before there are heights

  abbrev blanks : List Entry
  blanks = entries_with []

  abbrev blank_extraction : Extraction
  blank_extraction = record {
    g = g;
    a = a;
    arena = odd.arena;
    s = s;
    r = record { names = n; entries = blanks };
    o = outline [] blanks (put_with []);
  }

  pub one_sided_here : IsOneSided (go_graph_of n ds)
  one_sided_here = subst IsOneSided (graph_is [] blanks (put_with [])) (is_one_sided blank_extraction)

  pub no_cycle_here : EvenCycleIn (go_graph_of n ds) → ⊥
  no_cycle_here cycle =
      no_even_cycle blank_extraction odd.solution odd.wins
      (subst EvenCycleIn (sym (graph_is [] blanks (put_with []))) cycle)

  pub names_here : IsGraph g → size g ≤ NESTING_LIMIT → n ≤ 4096 * 4097
  names_here g_ok small = names_few blank_extraction g_ok small

  pub marks_here : IsGraph g → size g ≤ NESTING_LIMIT → All (HasMarksOf n) ds
  marks_here g_ok small k d low =
      let long = length-map-range_with_len (entry_with []) 0 (length ds) in
      let is = decided_at blank_extraction g_ok small k (omega (arith, low, long)) in
      let same : (get_or blanks k no_entry).decision ≡ get_or ds k d =
      ap (λ (e : Entry). e.decision) (get_or-map-range_with_len (entry_with []) 0 (length ds) k k no_entry low
      (omega arith))
      ∙ get_or_default ds k none_here d low in
      subst (HasMarksOf n) same (marks_of_decided n (length blanks) (get_or blanks k no_entry).decision is)

  -- what was put together, with the longest counts as heights
  module _ (rows : List (List ℕ)) (es : List Entry) (put : ArePut g a vs rows ds es)
      (longest : AreLongest (go_graph_of n ds) rows) where
    abbrev made_extraction : Extraction
    made_extraction = record {
      g = g;
      a = a;
      arena = odd.arena;
      s = s;
      r = record { names = n; entries = es };
      o = outline rows es put;
    }

    pub is_held : IsGraph g → size g ≤ NESTING_LIMIT → All Fits g.priorities → Fits (length a.positions)
        → IsRefutation (record { names = n; entries = es })
    is_held g_ok small priorities_fit positions_fit =
        extracted_refutation made_extraction g_ok small (is_refutation rows es put longest).heights priorities_fit
        positions_fit

    pub is_accepted : IsAccepted g (record { names = n; entries = es })
    is_accepted = extracted_accepted made_extraction (is_refutation rows es put longest).heights
