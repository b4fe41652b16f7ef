-- Entries as they are found, and when all are found.
--
--   grown_decision   == with more entries a decision stays one
--   few_numbered     == no more vertices are numbered than there are positions
--   number_more      == a vertex gets a number, a new one if it has none
--   clash_decided, leave_decided, split_decided == the decision at a vertex
--   sides_left, fewer_left, fewer_right == how many sides are left to choose; at both sides of an or-node fewer
--   look_start, look_more == what was looked at, at first and with one entry more
--   next_won, looked_few == what is known of it
use Rattle.std.proofs.Common.{ℕ, ◌≡◌, ◌+◌, ◌-◌, ◌<◌, ◌≤◌, ◌⊎◌, inl, inr, true, false, List, [], ◌∷◌, ◌++◌, Some, length, map, get_or}
use Rattle.std.proofs.Common.{slice_get, nat_eq, refl, sym, ap, ◌∙◌, subst, arith, append_assoc, append-nil, length-append}
use Rattle.std.specs.List.{flat_map, list_any}
use Rattle.std.proofs.lemmas.Bool.{cases_Bool, cases_lt, cond-true, cond-false}
use Rattle.std.proofs.lemmas.Bool.Decides.{nat_tests}
use Rattle.std.proofs.lemmas.Grind.{flat_map-append}
use Rattle.std.proofs.lemmas.List.{get_or_append_left, get_or-append-add, length-map, map-append, get_or-map, get_or_past}
use Rattle.std.proofs.lemmas.Option.{slice_get_within, slice_get-get_or, get_or_from_slice_get}
use Rattle.indexmap.specs.IndexSet.{insert_key}
use Rattle.ml_lists.specs.Member.{IsMember}
use Rattle.ml_lists.proofs.Member.{member-append, member-map_from, Image, member-list_any}
use Rattle.ml_graph.specs.Graph.{Graph, size}
use Rattle.ml_parity.specs.Solution.{GameSolution, choice_at}
use Rattle.ml_parity.specs.Winner.{WinsFrom}
use Rattle.ml_product.specs.Arena.{Arena, game_of}
use Rattle.ml_product.specs.DecisionGame.{Open, IsVerdictOf, IsResolved, AreDifferent}
use Rattle.ml_product.specs.Position.{Position, start_of, with_chosen, neutral}
use Rattle.ml_product.proofs.ArenaGame.{size_is}
use Rattle.ml_lists.proofs.Member.{member_of_get}
use Rattle.ml_product.proofs.OnePlace.{same_place}
use Rattle.ml_product.proofs.ReachedChoices.{with_side_length, chosen_few}
use Rattle.ml_product.proofs.Explored.{few_reached}
use Rattle.ml_refutation.specs.Acceptance.{OfSpread}
use Rattle.ml_refutation.specs.Refutation.{Decision, Split, Clash, Go}
use Rattle.ml_sequent.specs.declared.choice.Side.{Side}
use Rattle.ml_sequent.specs.declared.choice.Side.TheVariants.{Left, Right}
use Rattle.ml_sequent.specs.declared.clashes.ClashCause.{ClashCause}
use Rattle.ml_sequent.specs.FirstCause.{IsFirstCause}
use Rattle.ml_trace.specs.declared.marks.Mark.{Mark}
use Rattle.ml_trace.specs.Marks.{priority}
use Rattle.ml_trace.specs.MarkOrder.{FitsBelow}
use Rattle.ml_refute.specs.Extracted.{IsDecisionAt, IsGo, leads_to}
use Rattle.ml_refute.specs.private.Found.{OddWins, IsWon, LeavesTo, AreSides, AreNumbered, IsNumberOf, IsDecided, AreLooked, position_at}
use Rattle.ml_lists.specs.InTurn.{RunsOn}
use Rattle.ml_refute.proofs.Leaving.{placed, reached_here}
use Rattle.ml_lists.proofs.InTurn.{runs_append, runs_up, runs_has}
use Rattle.ml_lists.proofs.Entries.{get_grown}
use Rattle.ml_product.proofs.Naming.{stands_last}

-- a new one stands behind
different_more : (ps : List Position) (p : Position)
    → AreDifferent ps
    → (IsMember p ps → ⊥)
    → AreDifferent (ps ++ p ∷ [])
different_more [] p apart new = ((λ m. m), tt)
different_more (q ∷ ps) p apart new = (
  λ m. by_part (member-append q ps (p ∷ []) m),
  different_more ps p apart.1 (λ m. new (inr m)),
)
  where
    by_part : IsMember q ps ⊎ IsMember q (p ∷ []) → ⊥
    by_part (inl before) = apart.0 before
    by_part (inr (inl same)) = new (inl (sym same))
    by_part (inr (inr none)) = none

module _ (g : Graph) (a : Arena) (s : GameSolution) where
  abbrev at : ℕ → Position
  at v = position_at g a v

  -- ---- decisions

  -- with more entries a decision stays one
  pub grown_decision : (ps more : List Position) (d : Decision) (p : Position) → IsDecisionAt g a s ps p d
      → IsDecisionAt g a s (ps ++ more) p d
  grown_decision ps more (Split o left right) p is = (
    is.0,
    grown_decision ps more left (with_chosen g p o Left) is.1,
    grown_decision ps more right (with_chosen g p o Right) is.2,
  )
  grown_decision ps more (Clash x) p is = is
  grown_decision ps more (Go d f m) p is = record {
    spread = is.spread;
    is_spread = is.is_spread;
    holds = (is.holds.0, grown is.holds.1);
  }
    where
      grown : IsGo g a s ps p is.spread d f m → IsGo g a s (ps ++ more) p is.spread d f m
      grown go = record {
        next = go.next;
        is_choice = go.is_choice;
        is_diamond = go.is_diamond;
        is_entry = get_grown ps more f go.next go.is_entry;
        marked = go.marked;
        is_mark = go.is_mark;
      }

  pub grown_by : (vs ws more : List ℕ) (d : Decision) (p : Position) → ws ≡ vs ++ more
      → IsDecisionAt g a s (map (position_at g a) vs) p d → IsDecisionAt g a s (map (position_at g a) ws) p d
  grown_by vs ws more d p grown is =
      subst (λ ps. IsDecisionAt g a s ps p d)
      (sym (ap (map (position_at g a)) grown ∙ map-append (position_at g a) vs more))
      (grown_decision (map (position_at g a) vs) (map (position_at g a) more) d p is)

  module _ (odd : OddWins g a s) where
    -- ---- numbers

    -- a vertex that is not numbered has a position that isn't one of theirs
    position_new : (vs : List ℕ) (v : ℕ) → ((w : ℕ) → IsMember w vs → IsWon a s w) → IsWon a s v → (IsMember v vs → ⊥)
        → IsMember (at v) (map (position_at g a) vs) → ⊥
    position_new vs v all won new m = of_image (member-map_from (position_at g a) (at v) vs m)
      where
        of_image : Image (position_at g a) (at v) vs → ⊥
        of_image i =
            let there = placed g a s odd i.from (all i.from i.member) in
            let same = same_place a.positions odd.arena.are_different v i.from (at v) (placed g a s odd v won)
            (there ∙ ap Some (sym i.holds)) in
            new (subst (λ w. IsMember w vs) (sym same) i.member)

    -- no more vertices are numbered than there are positions
    pub few_numbered : (vs : List ℕ) → AreNumbered g a s vs → length vs ≤ length a.positions
    few_numbered vs numbered =
        let few = few_reached (map (position_at g a) vs) a.positions numbered.are_different
        (λ p m. of_image p (member-map_from (position_at g a) p vs m)) in
        omega (arith, few, length-map vs (position_at g a))
      where
        of_image : (p : Position) → Image (position_at g a) p vs → IsMember p a.positions
        of_image p i =
            subst (λ q. IsMember q a.positions) (sym i.holds)
            (member_of_get a.positions i.from (at i.from) (placed g a s odd i.from (numbered.won i.from i.member)))

    numbered_more : (vs : List ℕ) (v : ℕ)
        → AreNumbered g a s vs
        → IsWon a s v
        → (at v).choice ≡ []
        → (IsMember v vs → ⊥)
        → AreNumbered g a s (vs ++ v ∷ [])
    numbered_more vs v numbered won unchosen new = record {
      starts = get_grown vs (v ∷ []) 0 0 numbered.starts;
      are_different = subst AreDifferent (sym (map-append (position_at g a) vs (v ∷ [])))
          (different_more (map (position_at g a) vs) (at v) numbered.are_different
          (position_new vs v numbered.won won new));
      won = λ w m. won_at w (member-append w vs (v ∷ []) m);
      unchosen = λ w m. unchosen_at w (member-append w vs (v ∷ []) m);
    }
      where
        won_at : (w : ℕ) → IsMember w vs ⊎ IsMember w (v ∷ []) → IsWon a s w
        won_at w (inl old) = numbered.won w old
        won_at w (inr (inl same)) = subst (IsWon a s) (sym same) won
        won_at w (inr (inr none)) = absurd none

        unchosen_at : (w : ℕ) → IsMember w vs ⊎ IsMember w (v ∷ []) → (at w).choice ≡ []
        unchosen_at w (inl old) = numbered.unchosen w old
        unchosen_at w (inr (inl same)) = ap (λ x. (at x).choice) same ∙ unchosen
        unchosen_at w (inr (inr none)) = absurd none

    same_key : (v k : ℕ) → nat_eq v k ≡ true → v ≡ k
    same_key v k e = grind (arith, nat_tests)

    own_key : (v : ℕ) → nat_eq v v ≡ true
    own_key v = grind (arith, nat_tests)

    -- a vertex gets a number, a new one if it has none
    pub number_more : (vs ws : List ℕ) (v n k : ℕ)
        → AreNumbered g a s vs
        → IsWon a s v
        → (position_at g a v).choice ≡ []
        → ws ≡ insert_key nat_eq vs v
        → slice_get ws n ≡ Some k
        → nat_eq v k ≡ true
        → IsNumberOf g a s vs ws v n
    number_more vs ws v n k numbered won unchosen ws_are stands_so same = by_test (cases_Bool (list_any (nat_eq v) vs))
      where
        stands : slice_get ws n ≡ Some v
        stands = stands_so ∙ ap Some (sym (same_key v k same))

        by_test : (list_any (nat_eq v) vs ≡ true) ⊎ (list_any (nat_eq v) vs ≡ false) → IsNumberOf g a s vs ws v n
        by_test (inl old) =
            let ws_is : ws ≡ vs = ws_are ∙ cond-true (list_any (nat_eq v) vs) vs (vs ++ v ∷ []) old in
            let low = slice_get_within ws n v stands in
            record {
              more = [];
              grown = ws_is ∙ sym (append-nil vs);
              numbered = subst (AreNumbered g a s) (sym ws_is) numbered;
              stands = stands;
              runs_on =
                  inl (
                    (omega (arith, low, ap (λ (xs : List ℕ). length xs) ws_is)),
                    ap (λ (xs : List ℕ). length xs)
                        (sym ws_is),
                  );
            }
        by_test (inr fresh) = record {
          more = v ∷ [];
          grown = ws_is;
          numbered = subst (AreNumbered g a s) (sym ws_is) (numbered_more vs v numbered won unchosen new);
          stands = stands;
          runs_on = inr (last, omega (arith, longer));
        }
          where
            ws_is : ws ≡ vs ++ v ∷ []
            ws_is = ws_are ∙ cond-false (list_any (nat_eq v) vs) vs (vs ++ v ∷ []) fresh

            longer : length ws ≡ length vs + 1
            longer = ap (λ (xs : List ℕ). length xs) ws_is ∙ length-append vs (v ∷ [])

            new : IsMember v vs → ⊥
            new m = let known = member-list_any (nat_eq v) v vs m (own_key v) in
                let wrong : true ≡ false = sym known ∙ fresh in
                absurd (cc)

            last : n ≡ length vs
            last = by_order (cases_lt n (length vs))
              where
                by_order : (n < length vs) ⊎ (length vs ≤ n) → n ≡ length vs
                by_order (inl early) =
                    let here : get_or vs n v ≡ v = sym (get_or_append_left vs (v ∷ []) v n early)
                    ∙ ap (λ (xs : List ℕ). get_or xs n v) (sym ws_is) ∙ get_or_from_slice_get ws n v v stands in
                    absurd (new (member_of_get vs n v (slice_get-get_or vs n v early ∙ ap Some here)))
                by_order (inr late) = omega (arith, late, slice_get_within ws n v stands, longer)

    -- ---- the decision at a vertex

    pub clash_decided : (vs : List ℕ) (v : ℕ) (x : ClashCause)
        → AreNumbered g a s vs
        → OfSpread g (position_at g a v).sequent (position_at g a v).choice (λ sp. IsFirstCause g sp x)
        → IsDecided g a s vs vs v (Clash x)
    clash_decided vs v x numbered is = record {
      more = [];
      grown = sym (append-nil vs);
      numbered = numbered;
      is_decision = is;
      runs_on = refl;
    }

    pub leave_decided : (vs ws : List ℕ) (v d n : ℕ) (m : Mark)
        → IsWon a s v
        → (t : OfSpread g (position_at g a v).sequent (position_at g a v).choice
        (λ sp. IsResolved g sp × LeavesTo g a s v sp d))
        → IsNumberOf g a s vs ws (choice_at s.choice v) n
        → m ≡ t.holds.1.mark
        → IsDecided g a s vs ws v (Go d n m)
    leave_decided vs ws v d n m won t number mark_is = record {
      more = number.more;
      grown = number.grown;
      numbered = number.numbered;
      is_decision = record { spread = t.spread; is_spread = t.is_spread; holds = (t.holds.0, go t.holds.1 mark_is) };
      runs_on = number.runs_on;
    }
      where
        go : (l : LeavesTo g a s v t.spread d)
            → m ≡ l.mark
            → IsGo g a s (map (position_at g a) ws) (at v) t.spread d n m
        go l same = record {
          next = at (choice_at s.choice v);
          is_choice = record {
            vertex = v;
            is_here = placed g a s odd v won;
            chosen = placed g a s odd (choice_at s.choice v) l.won;
          };
          is_diamond = l.is_diamond;
          is_entry = entry;
          marked = l.marked ∙ ap (priority (neutral g)) (sym same);
          is_mark = subst (FitsBelow (neutral g)) (sym same) l.is_mark;
        }
          where
            entry : slice_get (map (position_at g a) ws) n ≡ Some (at (choice_at s.choice v))
            entry =
                let low = slice_get_within ws n (choice_at s.choice v) number.stands in
                let d0 : Position = start_of g in
                slice_get-get_or (map (position_at g a) ws) n d0 (omega (arith, low, length-map ws (position_at g a)))
                ∙ ap Some (get_or-map (position_at g a) ws n 0 d0 low
                ∙ ap (position_at g a) (get_or_from_slice_get ws n (choice_at s.choice v) 0 number.stands))

    pub split_decided : (vs us ws : List ℕ) (v o l r : ℕ) (left right : Decision)
        → OfSpread g (position_at g a v).sequent (position_at g a v).choice (λ sp. IsVerdictOf g sp (Open o))
        → AreSides g a s v o l r
        → IsDecided g a s vs us l left
        → IsDecided g a s us ws r right
        → IsDecided g a s vs ws v (Split o left right)
    split_decided vs us ws v o l r left right verdict sides at_left at_right = record {
      more = at_left.more ++ at_right.more;
      grown = at_right.grown ∙ ap (λ xs. xs ++ at_right.more) at_left.grown
          ∙ append_assoc vs at_left.more at_right.more;
      numbered = at_right.numbered;
      is_decision = (
        verdict,
        subst (λ p. IsDecisionAt g a s (map (position_at g a) ws) p left) sides.left
            (grown_by us ws at_right.more left (at l) at_right.grown at_left.is_decision),
        subst (λ p. IsDecisionAt g a s (map (position_at g a) ws) p right) sides.right at_right.is_decision,
      );
      runs_on = runs_append (length vs) (length us) (length ws) (leads_to left) (leads_to right) at_left.runs_on
          at_right.runs_on;
    }

    -- ---- entry by entry

    abbrev rows : List Decision → List (List ℕ)
    rows ds = map leads_to ds

    pub look_none : IsWon a s 0 → AreLooked g a s (0 ∷ []) []
    look_none won = record {
      numbered = record {
        starts = refl;
        are_different = ((λ m. m), tt);
        won = λ v m. won_at v m;
        unchosen = λ v m. unchosen_at v m;
      };
      few = omega arith;
      are_decisions = λ e d none. absurd (cc);
      runs_on = inr (refl, refl);
      from_earlier = λ k some low. absurd (omega arith);
    }
      where
        won_at : (v : ℕ) → IsMember v (0 ∷ []) → IsWon a s v
        won_at v (inl same) = subst (IsWon a s) (sym same) won
        won_at v (inr none) = absurd none

        start_is : at 0 ≡ start_of g
        start_is = get_or_from_slice_get a.positions 0 (start_of g) (start_of g) odd.arena.starts

        unchosen_at : (v : ℕ) → IsMember v (0 ∷ []) → (at v).choice ≡ []
        unchosen_at v (inl same) = ap (λ x. (at x).choice) same ∙ ap (λ (p : Position). p.choice) start_is
        unchosen_at v (inr none) = absurd none

    pub look_more : (vs ws : List ℕ) (ds : List Decision) (v : ℕ) (d : Decision)
        → AreLooked g a s vs ds
        → slice_get vs (length ds) ≡ Some v
        → IsDecided g a s vs ws v d
        → AreLooked g a s ws (ds ++ d ∷ [])
    look_more vs ws ds v d looked next is = record {
      numbered = is.numbered;
      few = omega (arith, here_low, up, length-append ds (d ∷ []));
      are_decisions = λ e x stands. decision_at e x stands (cases_lt e (length ds));
      runs_on = runs;
      from_earlier = λ k some low. earlier k some low (cases_lt k (length vs));
    }
      where
        here_low : length ds < length vs
        here_low = slice_get_within vs (length ds) v next

        up : length vs ≤ length ws
        up = runs_up (length vs) (length ws) (leads_to d) is.runs_on

        vertex_kept : (e : ℕ) → e < length vs → get_or vs e 0 ≡ get_or ws e 0
        vertex_kept e low =
            sym (ap (λ (xs : List ℕ). get_or xs e 0) is.grown ∙ get_or_append_left vs is.more 0 e low)

        here_is : v ≡ get_or ws (length ds) 0
        here_is = sym (get_or_from_slice_get vs (length ds) v 0 next) ∙ vertex_kept (length ds) here_low

        decision_at : (e : ℕ) (x : Decision)
            → slice_get (ds ++ d ∷ []) e ≡ Some x
            → (e < length ds) ⊎ (length ds ≤ e)
            → IsDecisionAt g a s (map (position_at g a) ws) (position_at g a (get_or ws e 0)) x
        decision_at e x stands (inl early) =
            let there : get_or ds e x ≡ x = sym (get_or_append_left ds (d ∷ []) x e early)
            ∙ get_or_from_slice_get (ds ++ d ∷ []) e x x stands in
            let old = looked.are_decisions e x (slice_get-get_or ds e x early ∙ ap Some there) in
            subst (λ w. IsDecisionAt g a s (map (position_at g a) ws) (position_at g a w) x)
            (vertex_kept e (omega (arith, early, here_low)))
            (grown_by vs ws is.more x (position_at g a (get_or vs e 0)) is.grown old)
        decision_at e x stands (inr late) =
            let e_is : e ≡ length ds = omega (
              arith,
              late,
              slice_get_within (ds ++ d ∷ []) e x stands,
              length-append ds
                  (d ∷ []),
            ) in
            let last : Some x ≡ Some d = sym stands ∙ ap (slice_get (ds ++ d ∷ [])) e_is ∙ stands_last ds d in
            let x_is : d ≡ x = cc in
            subst (λ y. IsDecisionAt g a s (map (position_at g a) ws) (position_at g a (get_or ws e 0)) y) x_is
            (subst (λ w. IsDecisionAt g a s (map (position_at g a) ws) (position_at g a w) d)
            (here_is ∙ ap (λ k. get_or ws k 0) (sym e_is)) is.is_decision)

        rows_are : map leads_to (ds ++ d ∷ []) ≡ map leads_to ds ++ leads_to d ∷ []
        rows_are = map-append leads_to ds (d ∷ [])

        all_are : flat_map (λ (r : List ℕ). r) (map leads_to (ds ++ d ∷ []))
            ≡ flat_map (λ (r : List ℕ). r) (map leads_to ds) ++ leads_to d
        all_are =
            ap (flat_map (λ (r : List ℕ). r)) rows_are
            ∙ flat_map-append (λ (r : List ℕ). r) (map leads_to ds) (leads_to d ∷ [])
            ∙ ap (λ xs. flat_map (λ (r : List ℕ). r) (map leads_to ds) ++ xs) (append-nil (leads_to d))

        runs : RunsOn 0 (0 ∷ flat_map (λ r. r) (map leads_to (ds ++ d ∷ []))) (length ws)
        runs =
            subst (λ xs. RunsOn 0 (0 ∷ xs) (length ws)) (sym all_are)
            (runs_append 0 (length vs) (length ws) (0 ∷ flat_map (λ r. r) (map leads_to ds)) (leads_to d) looked.runs_on
            is.runs_on)

        row_kept : (j : ℕ) → j < length ds → get_or (map leads_to ds) j [] ≡ get_or (map leads_to (ds ++ d ∷ [])) j []
        row_kept j low =
            sym (ap (λ (xs : List (List ℕ)). get_or xs j []) rows_are
            ∙ get_or_append_left (map leads_to ds) (leads_to d ∷ []) [] j (omega (arith, low, length-map ds leads_to)))

        last_row : get_or (map leads_to (ds ++ d ∷ [])) (length ds) [] ≡ leads_to d
        last_row =
            let place : length ds ≡ length (map leads_to ds) + 0 = omega (arith, length-map ds leads_to) in
            ap (λ (xs : List (List ℕ)). get_or xs (length ds) []) rows_are
            ∙ ap (λ k. get_or (map leads_to ds ++ leads_to d ∷ []) k []) place
            ∙ get_or-append-add (map leads_to ds) (leads_to d ∷ []) 0 []

        earlier : (k : ℕ) → 0 < k → k < length ws → (k < length vs) ⊎ (length vs ≤ k)
            → (j : ℕ) × (j < k) × IsMember k (get_or (map leads_to (ds ++ d ∷ [])) j [])
        earlier k some low (inl old) = of_old (looked.from_earlier k some old)
          where
            of_old : ((j : ℕ) × (j < k) × IsMember k (get_or (map leads_to ds) j []))
                → (j : ℕ) × (j < k) × IsMember k (get_or (map leads_to (ds ++ d ∷ [])) j [])
            of_old (j, early, inside) = (j, early, by_place (cases_lt j (length ds)))
              where
                by_place : (j < length ds) ⊎ (length ds ≤ j) → IsMember k (get_or (map leads_to (ds ++ d ∷ [])) j [])
                by_place (inl within) = subst (IsMember k) (row_kept j within) inside
                by_place (inr past) =
                    absurd (subst (IsMember k) (get_or_past (map leads_to ds) j [] (omega (
                      arith,
                      past,
                      length-map ds
                          leads_to,
                    ))) inside)
        earlier k some low (inr new) = (
          length ds,
          omega (arith, here_low, new),
          subst (IsMember k) (sym last_row) (runs_has (length vs) (length ws) (leads_to d) is.runs_on k new low),
        )

    pub start_won : IsWon a s 0
    start_won =
        let low = slice_get_within a.positions 0 (start_of g) odd.arena.starts in
        record {
          low = low;
          wins = subst (λ x. WinsFrom (game_of a) x (choice_at s.choice) 0) odd.wins
              (odd.solution.wins 0 (omega (arith, low, size_is g a odd.arena)));
        }

    pub look_start : (vs : List ℕ) (ds : List Decision) → vs ≡ 0 ∷ [] → ds ≡ [] → AreLooked g a s vs ds
    look_start vs ds vs_are ds_are =
        subst (λ xs. AreLooked g a s xs ds) (sym vs_are)
        (subst (AreLooked g a s (0 ∷ [])) (sym ds_are) (look_none start_won))

    pub next_won : (vs : List ℕ) (ds : List Decision) (k v : ℕ)
        → AreLooked g a s vs ds
        → slice_get vs k ≡ Some v
        → IsWon a s v
    next_won vs ds k v looked is = looked.numbered.won v (member_of_get vs k v is)

    pub looked_few : (vs : List ℕ) (ds : List Decision) → AreLooked g a s vs ds → length vs ≤ length a.positions
    looked_few vs ds looked = few_numbered vs looked.numbered

    -- ---- how far down a decision goes

    -- how many sides are left to choose
    abbrev pub sides_left : ℕ → ℕ
    sides_left v = size g - length (position_at g a v).choice

    sides_few : (v : ℕ) → IsWon a s v → length (position_at g a v).choice ≤ size g
    sides_few v won = chosen_few g (at v) (reached_here g a s odd v won)

    fewer : (v w o : ℕ) (x : Side) → IsWon a s w → position_at g a w ≡ with_chosen g (position_at g a v) o x
        → sides_left w < sides_left v
    fewer v w o x won is =
        let longer = ap (λ (p : Position). length p.choice) is in
        let more = with_side_length (at v).choice o x in
        omega (arith, longer, more, sides_few w won)

    pub fewer_left : (v o l r : ℕ) → AreSides g a s v o l r → sides_left l < sides_left v
    fewer_left v o l r sides = fewer v l o Left sides.left_won sides.left

    pub fewer_right : (v o l r : ℕ) → AreSides g a s v o l r → sides_left r < sides_left v
    fewer_right v o l r sides = fewer v r o Right sides.right_won sides.right
