-- A solution makes one refutation.
--
--   agree_below      == two refutations agree on the positions of their entries
--   one_outline      == so their entries are the same, as far as heights
--   one_names        == and they have as many names
--   one_height       == the longest counts of one graph are one
--   one_refutation   == the theorem
use Rattle.std.proofs.Common.{ℕ, zero, suc, ◌≡◌, ◌+◌, ◌*◌, ◌/◌, ◌%◌, ◌<◌, ◌≤◌, ◌⊎◌, inl, inr, List, [], ◌∷◌, ◌++◌, length, get_or, slice_get, refl, sym, ap, ◌∙◌, subst, arith}
use Rattle.std.proofs.lemmas.Bool.{cases_lt}
use Rattle.std.proofs.lemmas.List.{get_or-map, ext_get_or}
use Rattle.std.proofs.lemmas.Option.{slice_get_past}
use Rattle.ml_lists.proofs.Member.{Place, member-place, All-member, place-member}
use Rattle.ml_graph.specs.Graph.{Graph}
use Rattle.ml_parity.specs.Heights.{height_of}
use Rattle.ml_parity.specs.OneSided.{OneSidedGraph, IsMost, AreLongest}
use Rattle.ml_parity.specs.Solution.{GameSolution}
use Rattle.ml_product.specs.Arena.{Arena, IsArenaOf}
use Rattle.ml_product.specs.Position.{Position}
use Rattle.ml_refutation.specs.Acceptance.{entry_at, no_entry, heights_of}
use Rattle.ml_refutation.specs.Refutation.{Refutation, Entry}
use Rattle.ml_refute.specs.Extracted.{IsDecisionAt, IsOutlineOf, arcs_of, arcs_from, go_graph, IsRefutationOf}
use Rattle.ml_refute.proofs.Alike.{decisions_alike, one_decision}
use Rattle.ml_refute.proofs.Entries.{At, position_at}
use Rattle.ml_refute.proofs.OnePositions.{next_agrees}

-- lists that read the same are one
same_list : {X : Type 0} (xs ys : List X) → ((i : ℕ) → slice_get xs i ≡ slice_get ys i) → xs ≡ ys
same_list [] [] same = refl
same_list [] (y ∷ ys) same = let wrong = same 0 in cc
same_list (x ∷ xs) [] same = let wrong = same 0 in cc
same_list (x ∷ xs) (y ∷ ys) same =
    let head : x ≡ y = (let heads = same 0 in cc) in
    let tail = same_list xs ys (λ i. same (suc i)) in
    λ i. head i ∷ tail i

module _ (g : Graph) (a : Arena) (arena : IsArenaOf g a) (s : GameSolution) where
  -- two refutations agree on the positions of their entries
  agree_below : (r q : Refutation) (o : IsOutlineOf g a s r) (u : IsOutlineOf g a s q) (k i : ℕ) → i < suc k
      → slice_get o.positions i ≡ slice_get u.positions i
  agree_below r q o u zero i low = subst (λ j. slice_get o.positions j ≡ slice_get u.positions j) first
      (o.starts ∙ sym u.starts)
    where
      first : 0 ≡ i
      first = omega arith
  agree_below r q o u (suc k) i low = by_order (cases_lt i (suc k)) (agree_below r q o u k)
      (cases_lt (suc k) (length r.entries)) (cases_lt (suc k) (length q.entries))
    where
      by_order : (i < suc k) ⊎ (suc k ≤ i)
          → ((j : ℕ) → j < suc k → slice_get o.positions j ≡ slice_get u.positions j)
          → (suc k < length r.entries) ⊎ (length r.entries ≤ suc k)
          → (suc k < length q.entries) ⊎ (length q.entries ≤ suc k)
          → slice_get o.positions i ≡ slice_get u.positions i
      by_order (inl early) before r_has q_has = before i early
      by_order (inr le) before (inl r_low) q_has =
          let last : suc k ≡ i = omega arith in
          subst (λ j. slice_get o.positions j ≡ slice_get u.positions j) last
          (next_agrees g a arena s r q o u k before r_low)
      by_order (inr le) before (inr r_past) (inl q_low) =
          let last : suc k ≡ i = omega arith in
          subst (λ j. slice_get o.positions j ≡ slice_get u.positions j) last
          (sym (next_agrees g a arena s q r u o k (λ j early. sym (before j early)) q_low))
      by_order (inr le) before (inr r_past) (inr q_past) =
          slice_get_past o.positions i (omega (arith, o.a_position_each)) ∙ sym
          (slice_get_past u.positions i (omega (arith, u.a_position_each)))

  module _ (r q : Refutation) (o : IsOutlineOf g a s r) (u : IsOutlineOf g a s q) where
    one_order : o.positions ≡ u.positions
    one_order = same_list o.positions u.positions (λ i. agree_below r q o u i i (omega arith))

    one_length : length r.entries ≡ length q.entries
    one_length = omega (arith, o.a_position_each, u.a_position_each, ap (λ (ps : List Position). length ps) one_order)

    -- the entries are the same, as far as heights
    pub record SameEntry (e : ℕ) : Type 0 where
      pub sequent : (entry_at r e).sequent ≡ (entry_at q e).sequent
      pub traces : (entry_at r e).traces ≡ (entry_at q e).traces
      pub decision : (entry_at r e).decision ≡ (entry_at q e).decision

    same_entry : (e : ℕ) → e < length r.entries → SameEntry e
    same_entry e low = from (position_at (record { g = g; a = a; arena = arena; s = s; r = r; o = o }) e low)
      where
        from : At (record { g = g; a = a; arena = arena; s = s; r = r; o = o }) e → SameEntry e
        from h =
            let there = u.are_entries e h.position (sym (agree_below r q o u e e (omega arith)) ∙ h.placed) in
            let decided : IsDecisionAt g a s o.positions h.position (entry_at q e).decision =
            subst (λ ps. IsDecisionAt g a s ps h.position (entry_at q e).decision) (sym one_order) there.decision in
            record {
              sequent = h.is_entry.sequent ∙ sym there.sequent;
              traces = h.is_entry.traces ∙ sym there.traces;
              decision = one_decision o.positions o.are_different (entry_at r e).decision (entry_at q e).decision
                  (decisions_alike g a arena.are_different s o.positions o.positions (entry_at r e).decision
                  (entry_at q e).decision h.position h.is_entry.decision decided);
            }

    -- there are no more names in the one
    no_more_names : r.names ≤ q.names
    no_more_names = from (member-place o.names.entry r.entries o.names.member)
      where
        from : Place o.names.entry r.entries → r.names ≤ q.names
        from p =
            let live_is : (entry_at r p.place).traces.live ≡ r.names = ap (λ (x : Entry). x.traces.live)
            (p.holds no_entry) ∙ o.names.is in
            let same : (entry_at r p.place).traces.live ≡ (entry_at q p.place).traces.live =
            ap (λ t. t.live) (same_entry p.place p.below).traces in
            let within : (entry_at q p.place).traces.live ≤ q.names =
            All-member (λ (x : Entry). x.traces.live ≤ q.names) q.entries u.names.bounds (entry_at q p.place)
            (place-member q.entries p.place no_entry (omega (arith, p.below, one_length))) in
            omega (arith, live_is, same, within)

-- ---- heights

-- entries with the same decisions have the same arcs
same_arcs : (top base : ℕ) (xs ys : List Entry) → length xs ≡ length ys
    → ((e : ℕ) → e < length xs → (get_or xs e no_entry).decision ≡ (get_or ys e no_entry).decision)
    → arcs_from top base xs ≡ arcs_from top base ys
same_arcs top base [] [] same decisions = refl
same_arcs top base [] (y ∷ ys) same decisions = absurd (omega arith)
same_arcs top base (x ∷ xs) [] same decisions = absurd (omega arith)
same_arcs top base (x ∷ xs) (y ∷ ys) same decisions =
    let rest = same_arcs top (base + 1) xs ys (omega arith) (λ e low. decisions (suc e) (omega arith)) in
    let first = decisions 0 (omega arith) in
    λ i. arcs_of top base (first i) ++ rest i

-- a longest count isn't above another
not_above : (h : OneSidedGraph) (p v m n : ℕ) → IsMost h p v m → IsMost h p v n → m ≤ n
not_above h p v m n x y =
    let most = y.largest x.attained.arcs x.attained.end x.attained.walk in
    omega (arith, most, x.attained.counts)

-- the longest counts of one graph are one
one_row : (h : OneSidedGraph) (rows others : List (List ℕ))
    → h.top % 2 ≡ 0
    → AreLongest h rows
    → AreLongest h others
    → (v : ℕ)
    → v < h.size
    → get_or rows v [] ≡ get_or others v []
one_row h rows others even x y v low =
    ext_get_or 0 (get_or rows v []) (get_or others v []) (x.shape.numbers v low ∙ sym (y.shape.numbers v low))
    (λ k k_low. at k (omega (arith, k_low, x.shape.numbers v low)))
  where
    at : (k : ℕ) → k < h.top / 2 + 1 → get_or (get_or rows v []) k 0 ≡ get_or (get_or others v []) k 0
    at k k_low =
        let half : 2 * k / 2 ≡ k = omega arith in
        let fits : 2 * k ≤ h.top = omega arith in
        let level : 2 * k % 2 ≡ 0 = omega arith in
        let mine = x.most (2 * k) v level fits low in
        let theirs = y.most (2 * k) v level fits low in
        let up = not_above h (2 * k) v (height_of rows (2 * k) v) (height_of others (2 * k) v) mine theirs in
        let down = not_above h (2 * k) v (height_of others (2 * k) v) (height_of rows (2 * k) v) theirs mine in
        let same : height_of rows (2 * k) v ≡ height_of others (2 * k) v = omega arith in
        ap (λ j. get_or (get_or rows v []) j 0) (sym half) ∙ same ∙ ap (λ j. get_or (get_or others v []) j 0) half

-- ---- the theorem

pub one_refutation : (g : Graph) (a : Arena) (s : GameSolution) (r q : Refutation)
    → IsArenaOf g a
    → IsRefutationOf g a s r
    → IsRefutationOf g a s q → r ≡ q
one_refutation g a s r q arena x y = λ i. record { names = names i; entries = entries i }
  where
    names : r.names ≡ q.names
    names =
        let up = no_more_names g a arena s r q x.outline y.outline in
        let down = no_more_names g a arena s q r y.outline x.outline in
        omega arith

    lengths : length r.entries ≡ length q.entries
    lengths = one_length g a arena s r q x.outline y.outline

    graphs : go_graph q ≡ go_graph r
    graphs =
        λ i. record { size = sym lengths i; top = 2 * sym names i; arcs = both i }
      where
        both : arcs_from (2 * q.names) 0 q.entries ≡ arcs_from (2 * r.names) 0 r.entries
        both =
            ap (λ n. arcs_from (2 * n) 0 q.entries) (sym names)
            ∙ sym (same_arcs (2 * r.names) 0 r.entries q.entries lengths
            (λ e low. (same_entry g a arena s r q x.outline y.outline e low).decision))

    heights : (e : ℕ) → e < length r.entries → (entry_at r e).heights ≡ (entry_at q e).heights
    heights e low =
        let row = one_row (go_graph r) (heights_of r) (heights_of q) (omega arith) x.heights
        (subst (λ h. AreLongest h (heights_of q)) graphs y.heights) e low in
        sym (get_or-map (λ (z : Entry). z.heights) r.entries e no_entry [] low) ∙ row
        ∙ get_or-map (λ (z : Entry). z.heights) q.entries e no_entry [] (omega (arith, lengths))

    same : (e : ℕ) → e < length r.entries → entry_at r e ≡ entry_at q e
    same e low =
        let known = same_entry g a arena s r q x.outline y.outline e low in
        let row = heights e low in
        λ i. record { sequent = known.sequent i; traces = known.traces i; heights = row i; decision = known.decision i }

    entries : r.entries ≡ q.entries
    entries = ext_get_or no_entry r.entries q.entries lengths same
