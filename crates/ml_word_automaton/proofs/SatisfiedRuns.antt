-- Where Even wins the block at the first place, the automaton accepts the word.
--
-- Even's strategy gives a run along the word, place after place (`BlockTurns`). Where it comes to True, it stays there. Else
-- some node comes twice at the loop start; in between the moves are a closed walk that follows the strategy, so its lowest
-- priority is even. All its priorities are 0 or 1, and 0 is that of a Diamond, which accepts.
--
--   Legs u x y      == transitions one after the other, along the letters u
--   carried         == what is passed on the way
--   accepted        == the law
use Rattle.std.proofs.Common.{ℕ, zero, suc, ◌≡◌, ◌+◌, ◌<◌, ◌≤◌, ◌⊎◌, ◌%◌, min, inl, inr, arith, true, not, Bool, List, [], ◌∷◌, ◌++◌, length, Some, refl, sym, ap, subst, ◌∙◌, ⊎_elim, length-append}
use Rattle.std.proofs.lemmas.Bool.{cases_eq}
use Rattle.ml_lists.specs.Member.{IsMember}
use Rattle.ml_lists.specs.Pigeons.{Twice}
use Rattle.ml_lists.specs.Repeated.{repeated}
use Rattle.ml_lists.specs.Walk.{walk}
use Rattle.ml_lists.proofs.Pigeons.{pigeons}
use Rattle.ml_lists.proofs.Repeated.{repeated-add, repeated-one}
use Rattle.ml_parity.specs.declared.players.Player.TheVariants.{Even}
use Rattle.ml_parity.specs.Player.{side}
use Rattle.ml_parity.specs.Game.{ParityGame}
use Rattle.ml_parity.specs.Winner.{IsStrategyOf, WinsFrom}
use Rattle.ml_parity.proofs.FollowedWalks.{FollowedWalk, walks_joined, closed_walk_good, odd_is_not_even}
use Rattle.ml_graph.specs.declared.node.Node.TheVariants as node
use Rattle.ml_graph.specs.Graph.{Graph, node_at, size}
use Rattle.ml_trace.specs.Run.{Run, AcceptingRun}
use Rattle.ml_trace.specs.WordAutomata.{WordLasso, IsWordLasso, IsAcceptedFrom, stem, turn}
use Rattle.ml_ctl.specs.Formula.{Formula}
use Rattle.ml_ctl.specs.Sorts.{is_linear}
use Rattle.ml_blocks.specs.Items.{Item, now}
use Rattle.ml_nodes.specs.ClosureGraph.{Constant}
use Rattle.ml_blocks.proofs.ItemSetMembers.{alone}
use Rattle.ml_blocks.proofs.BlockSteps.{path}
use Rattle.ml_blocks.proofs.ItemsFollow.{itself_within}
use Rattle.ml_blocks.proofs.ItemsWithin.{IsOf}
use Rattle.ml_blocks.proofs.PlaceVertices as vertices
use Rattle.ml_blocks.proofs.PlaceVertices.{Board, Known, Branches, Edges, at, form_as, number_low, same_number, vertex_is, own_branch, other_left, other_right, own_edge, priority_at_place, move_walk, way_walk}
use Rattle.ml_word_automaton.specs.WordAutomaton.{IsBlockGraph, itself, Leads}
use Rattle.ml_word_automaton.specs.Words.{Letter}
use Rattle.ml_word_automaton.proofs.WordBoards.{letter_at, Reads, board, reads_stem, reads_turn, turn_long}
use Rattle.ml_word_automaton.proofs.BlockTurns as place

module _ (g : Graph) (f : Formula) (negated : Bool) (w : WordLasso Letter) (is : IsBlockGraph g f negated)
    (ok : IsWordLasso w) (linear : is_linear f ≡ true) where
  abbrev B : Board
  B = board g f negated w is ok

  abbrev G : ParityGame
  G = vertices.game B

  abbrev first : Item
  first = now 0 f (not negated)

  module _ (choice : ℕ → ℕ) (is_strategy : IsStrategyOf G Even choice) where
    abbrev Entry : Type 0
    Entry = place.Entry g f negated w is ok linear choice is_strategy

    abbrev vertex : Entry → ℕ
    vertex x = at B x.s x.a.number

    -- something is still asked
    abbrev Asks : Entry → Type 0
    Asks x = (v : Item) × IsMember v x.xs

    abbrev OneStep : Entry → Entry → Type 0
    OneStep x y = place.OneStep g f negated w is ok linear choice is_strategy x y

    abbrev From : ℕ → Type 0
    From v = WinsFrom G Even choice v

    abbrev Walk : ℕ → ℕ → ℕ → Type 0
    Walk v k x = FollowedWalk G Even choice v k x

    -- ---- along words

    data Legs : List Letter → Entry → Entry → Type 0 where
      stop : (x : Entry) → Legs [] x x
      go : (l : Letter) (u : List Letter) (x y z : Entry)
          → l ≡ letter_at w x.s
          → OneStep x y
          → Legs u y z
          → Legs (l ∷ u) x z

    legs_joined : (u v : List Letter) (x y z : Entry) → Legs u x y → Legs v y z → Legs (u ++ v) x z
    legs_joined _ v x _ z (stop _) more = more
    legs_joined _ v x y z (go l u _ t _ e step rest) more = go l (u ++ v) x t z e step (legs_joined u v t y z rest more)

    still_asked : (u : List Letter) (x z : Entry) → Legs u x z → Asks z → Asks x
    still_asked _ x _ (stop _) asks = asks
    still_asked _ x z (go l u _ y _ e step rest) asks = step.asked (still_asked u y z rest asks)

    run_of : (u : List Letter) (x z : Entry) → Legs u x z → Run (Leads g) u x.a.number z.a.number
    run_of _ x _ (stop _) = refl
    run_of _ x z (go l u _ y _ e step rest) = (
      y.a.number,
      step.accepting,
      subst (λ k. Leads g k x.a.number y.a.number step.accepting) (sym e) step.leads,
      run_of u y z rest,
    )

    record Stretch (u : List Letter) (x z : Entry) : Type 0 where
      pub lowest : ℕ
      pub low : lowest < 2
      pub walk : Walk (vertex x) lowest (vertex z)
      pub accepts : lowest ≡ 0 → AcceptingRun (Leads g) u x.a.number z.a.number

    abbrev Carried : List Letter → Entry → Entry → Type 0
    Carried u x z = ((length u ≡ 0) × (vertex x ≡ vertex z)) ⊎ Stretch u x z

    carried : (u : List Letter) (x z : Entry) → Legs u x z → Asks z → Carried u x z
    carried _ x _ (stop _) asks = inl (refl, refl)
    carried _ x z (go l u _ y _ e step rest) asks = inr (by_rest (carried u y z rest asks))
      where
        here_walk : Walk (vertex x) step.lowest (vertex y)
        here_walk = step.walk (still_asked u y z rest asks)

        leads_by : (b : Bool) → step.accepting ≡ b → Leads g l x.a.number y.a.number b
        leads_by b is_b =
            subst (Leads g l x.a.number y.a.number) is_b
            (subst (λ k. Leads g k x.a.number y.a.number step.accepting) (sym e) step.leads)

        at_once : step.lowest ≡ 0 → AcceptingRun (Leads g) (l ∷ u) x.a.number z.a.number
        at_once zero_is = inl (y.a.number, leads_by true (step.accepts zero_is), run_of u y z rest)

        by_rest : Carried u y z → Stretch (l ∷ u) x z
        by_rest (inl (none, same)) = record {
          lowest = step.lowest;
          low = step.low;
          walk = subst (Walk (vertex x) step.lowest) same here_walk;
          accepts = at_once;
        }
        by_rest (inr r) = record {
          lowest = min step.lowest r.lowest;
          low = let first_low = step.low in let later_low = r.low in omega (arith, first_low, later_low);
          walk = walks_joined G Even choice (vertex x) step.lowest (vertex y) r.lowest (vertex z) here_walk r.walk;
          accepts = λ both.
              ⊎_elim (λ (now_zero : step.lowest ≡ 0). at_once now_zero)
              (λ (not_now : step.lowest ≡ 0 → ⊥).
              inr (y.a.number, step.accepting, leads_by step.accepting refl, r.accepts (later_zero both not_now)))
              (cases_eq step.lowest 0);
        }
          where
            later_zero : min step.lowest r.lowest ≡ 0 → (step.lowest ≡ 0 → ⊥) → r.lowest ≡ 0
            later_zero both not_now = omega (arith, both, not_now)

    record Followed (u : List Letter) (x : Entry) (j : ℕ) : Type 0 where
      pub to : Entry
      pub is_at : to.s ≡ j
      pub legs : Legs u x to

    follow : (u : List Letter) (x : Entry) (j : ℕ) → Reads w u x.s j → Followed u x j
    follow [] x j e = record { to = x; is_at = e; legs = stop x }
    follow (l ∷ u) x j (low, is_letter, rest) =
        let t = place.advance g f negated w is ok linear choice is_strategy x in
        let r = follow u t.to j (subst (λ i. Reads w u i j) (sym t.step.next) rest) in
        record { to = r.to; is_at = r.is_at; legs = go l u x t.to r.to is_letter t.step r.legs }

    -- ---- turn by turn

    record AtLoop : Type 0 where
      pub entry : Entry
      pub is_at : entry.s ≡ w.loop_start

    one_turn : (x : AtLoop) → Followed (turn w) x.entry w.loop_start
    one_turn x =
        follow (turn w) x.entry w.loop_start (subst (λ i. Reads w (turn w) i w.loop_start) (sym x.is_at) (reads_turn w ok))

    next_turn : AtLoop → AtLoop
    next_turn x = record { entry = (one_turn x).to; is_at = (one_turn x).is_at }

    one_more : (r : ℕ) (x : Entry) (y : AtLoop)
        → Legs (repeated r (turn w)) x y.entry
        → Legs (repeated (r + 1) (turn w)) x (one_turn y).to
    one_more r x y legs =
        subst (λ u. Legs u x (one_turn y).to) (repeated-add r 1 (turn w))
        (legs_joined (repeated r (turn w)) (repeated 1 (turn w)) x y.entry (one_turn y).to legs
        (subst (λ u. Legs u y.entry (one_turn y).to) (sym (repeated-one (turn w))) (one_turn y).legs))

    module _ (begin : AtLoop) where
      abbrev X : ℕ → AtLoop
      X k = walk next_turn begin k

      come : (k : ℕ) → (r : ℕ) × Legs (repeated r (turn w)) begin.entry (X k).entry
      unfolding next_turn
      come zero = (0, stop begin.entry)
      come (suc k) = let so_far = come k in (so_far.0 + 1, one_more so_far.0 begin.entry (X k) so_far.1)

      between : (i j : ℕ) → i < j → (r : ℕ) × (1 ≤ r) × Legs (repeated r (turn w)) (X i).entry (X j).entry
      unfolding next_turn
      between i zero less = absurd (omega (arith, less))
      between i (suc j) less =
          ⊎_elim
          (λ (same : i ≡ j).
          subst (λ n. (r : ℕ) × (1 ≤ r) × Legs (repeated r (turn w)) (X n).entry (X (suc j)).entry) (sym same) (
            1,
            omega arith,
            subst (λ u. Legs u (X j).entry (one_turn (X j)).to) (sym (repeated-one (turn w))) (one_turn (X j)).legs,
          ))
          (λ (apart : i ≡ j → ⊥).
          let so_far = between i j (omega (arith, less, apart)) in
          (so_far.0 + 1, omega arith, one_more so_far.0 (X i).entry (X j) so_far.2))
          (cases_eq i j)

    -- ---- the law

    -- at True each letter is accepted
    module _ (n : ℕ) (is_true : node_at g n ≡ node.True) where
      here_true : (l : Letter) → Leads g l n n true
      here_true l = inr (record { walks = itself; is_true = is_true; accepts = refl })

      stay : (u : List Letter) → Run (Leads g) u n n
      stay [] = refl
      stay (l ∷ u) = (n, true, here_true l, stay u)

      stay_well : (u : List Letter) → 0 < length u → AcceptingRun (Leads g) u n n
      stay_well [] none = absurd (omega (arith, none))
      stay_well (l ∷ u) some = inl (n, here_true l, stay u)

    some_long : (r : ℕ) → 1 ≤ r → 0 < length (repeated r (turn w))
    some_long zero less = absurd (omega (arith, less))
    some_long (suc r) less =
        let size = length-append (turn w) (repeated r (turn w)) in let long = turn_long w ok in omega (arith, size, long)

    zero_lowest : (k : ℕ) → k < 2 → side k ≡ Even → k ≡ 0
    zero_lowest k low even =
        ⊎_elim (λ (zero_is : k ≡ 0). zero_is)
        (λ (not_zero : k ≡ 0 → ⊥).
        let one : k ≡ 1 = omega (arith, low, not_zero) in absurd (odd_is_not_even k (ap (λ n. n % 2) one) even))
        (cases_eq k 0)

    module _ (a : Known B (path first true (first ∷ []) 0)) (wins : From (at B 0 a.number)) where
      start : Entry
      start = record {
        s = 0;
        low = omega (arith, ok);
        xs = first ∷ [];
        k = 0;
        a = a;
        of = λ x member. subst (IsOf first) (sym (alone x first member)) (itself_within 0 f (not negated));
        from = λ y member. wins;
      }

      module _ (begun : Followed (stem w) start w.loop_start) where
        abbrev begin : AtLoop
        begin = record { entry = begun.to; is_at = begun.is_at }

        abbrev E : ℕ → Entry
        E k = (X begin k).entry

        comes_to : (k : ℕ) → Run (Leads g) (stem w ++ repeated (come begin k).0 (turn w)) start.a.number (E k).a.number
        comes_to k =
            run_of (stem w ++ repeated (come begin k).0 (turn w)) start (E k)
            (legs_joined (stem w) (repeated (come begin k).0 (turn w)) start begun.to (E k) begun.legs (come begin k).1)

        -- True was reached
        at_true : (k : ℕ) → (E k).xs ≡ [] → IsAcceptedFrom (Leads g) start.a.number w
        at_true k e =
            let known : Known B (path first true [] (E k).k) =
            record { number = (E k).a.number; is = (E k).a.is ∙ ap (λ zs. Some (path first true zs (E k).k)) e } in
            record {
              turns = (come begin k).0;
              state = (E k).a.number;
              comes = comes_to k;
              rounds = 1;
              once = omega arith;
              returns =
                  stay_well (E k).a.number (form_as B known (Constant true) refl) (repeated 1 (turn w))
                  (some_long 1 (omega arith));
            }

        -- a node came twice
        at_twice : (i j : ℕ)
            → i < j
            → (E i).a.number ≡ (E j).a.number
            → Asks (E j)
            → IsAcceptedFrom (Leads g) start.a.number w
        at_twice i j less same asks = by_walk (between begin i j less)
          where
            vertices_same : vertex (E i) ≡ vertex (E j)
            vertices_same =
                ap (λ s. at B s (E i).a.number) ((X begin i).is_at ∙ sym (X begin j).is_at) ∙ ap (at B (E j).s) same

            by_stretch : (r : ℕ)
                → 1 ≤ r
                → Legs (repeated r (turn w)) (E i) (E j)
                → Carried (repeated r (turn w)) (E i) (E j)
                → IsAcceptedFrom (Leads g) start.a.number w
            by_stretch r once legs (inl (none, also)) = let long = some_long r once in absurd (omega (arith, long, none))
            by_stretch r once legs (inr t) =
                let asked = still_asked (repeated r (turn w)) (E i) (E j) legs asks in
                let closed = subst (Walk (vertex (E i)) t.lowest) (sym vertices_same) t.walk in
                let even = closed_walk_good G Even choice (vertex (E i)) t.lowest closed ((E i).from asked.0 asked.1) in
                record {
                  turns = (come begin i).0;
                  state = (E i).a.number;
                  comes = comes_to i;
                  rounds = r;
                  once = once;
                  returns =
                      subst (AcceptingRun (Leads g) (repeated r (turn w)) (E i).a.number) (sym same)
                      (t.accepts (zero_lowest t.lowest t.low even));
                }

            by_walk : (r : ℕ) × (1 ≤ r) × Legs (repeated r (turn w)) (E i) (E j)
                → IsAcceptedFrom (Leads g) start.a.number w
            by_walk (r, once, legs) =
                by_stretch r once legs (carried (repeated r (turn w)) (E i) (E j) legs asks)

        by_turns : Twice (λ k. (E k).a.number) (size g) → IsAcceptedFrom (Leads g) start.a.number w
        by_turns t = by_items (E t.second).xs refl
          where
            by_items : (zs : List Item) → (E t.second).xs ≡ zs → IsAcceptedFrom (Leads g) start.a.number w
            by_items [] e = at_true t.second e
            by_items (z ∷ zs) e = at_twice t.first t.second t.apart t.same (z, subst (IsMember z) (sym e) (inl refl))

        accepted_from : IsAcceptedFrom (Leads g) start.a.number w
        accepted_from = by_turns (pigeons (size g) (λ k. (E k).a.number) (λ k low. number_low B (E k).a))

      pub accepted : IsAcceptedFrom (Leads g) a.number w
      unfolding start
      accepted = accepted_from (follow (stem w) start w.loop_start (reads_stem w ok))
