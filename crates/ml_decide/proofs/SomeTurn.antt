-- At each position whose sequent has nodes of the graph something is done: there is a spread, a verdict and moves.
--
--   any_cause   == whether a spread clashes is decided
--   follow      == the step along a diamond leads to some position
--   some_turn   == a position has a turn
use Rattle.std.proofs.Common.{◌≡◌, ℕ, ◌%◌, ◌==◌, ◌<◌, ◌⊎◌, List, [], ◌∷◌, filter, map, inl, inr, refl, sym, subst, arith}
use Rattle.std.specs.List.{flat_map}
use Rattle.ml_lists.specs.Member.{IsMember}
use Rattle.ml_lists.specs.Found.{First}
use Rattle.ml_lists.proofs.Ascending.{ascending-is}
use Rattle.ml_lists.proofs.Decided.{Decided, decided_same, decided_either}
use Rattle.ml_lists.proofs.Member.{member-All, member-map, member-flat_map, member-filter_from, place-member}
use Rattle.ml_lists.proofs.Search.{search_first}
use Rattle.ml_graph.specs.Graph.{Graph, IsGraph, size, node_at, odd_priorities}
use Rattle.ml_graph.specs.declared.node.Node.TheVariants as node
use Rattle.ml_graph.proofs.References.{diamond_target, square_target}
use Rattle.ml_history.specs.HistoryStep.{stepped, step_mark}
use Rattle.ml_trace.specs.declared.letters.Triple.{Triple}
use Rattle.ml_trace.specs.Marks.{priority}
use Rattle.ml_trace.specs.private.LetterMoves.{rows}
use Rattle.ml_trace.proofs.LetterLemmas.{rows-letter}
use Rattle.ml_sequent.specs.declared.clashes.ClashCause.{ClashCause}
use Rattle.ml_sequent.specs.declared.clashes.ClashCause.TheVariants as cause
use Rattle.ml_sequent.specs.Spread.{SpreadList, IsSpreadOf, IsCause, IsOpenOr, is_diamond}
use Rattle.ml_sequent.specs.Step.{LeadsOut, IsTarget, IsTrace}
use Rattle.ml_product.specs.Position.{Position, Follows, neutral}
use Rattle.ml_product.specs.DecisionGame.{Clashing, Open, Leading, Settled, Target, To, Lost, Won, Turn, AreSteps, IsResolved, diamonds_of}
use Rattle.ml_lists.proofs.Deciding.{Having, some_member, sieve}
use Rattle.ml_decide.proofs.SievedLists.{sieved_list}
use Rattle.ml_refute_check.proofs.DecidedSpreads.{Within, SomeSpread, some_spread, decided_cause, decided_open_or, decided_target, decided_trace}
use Rattle.ml_refute_check.proofs.DecidedWalks.{lowest_occurs}

module _ (g : Graph) (ok : IsGraph g) (p : Position) (low : (n : ℕ) → IsMember n p.sequent → n < size g) where
  within : Within g p.sequent
  within = member-All (λ n. n < size g) p.sequent low

  module _ (sp : SpreadList) (is : IsSpreadOf g p.sequent p.choice sp) where
    -- ---- clashes

    decided : (x : ClashCause) → Decided (IsCause g sp x)
    decided x = decided_cause g sp ok is.low x

    abbrev IsFalse : ℕ → Type 0
    IsFalse n = IsCause g sp (cause.False n)

    abbrev ArePair : ℕ → ℕ → Type 0
    ArePair n m = IsCause g sp (cause.Pair n m)

    abbrev OnCycle : ℕ → Type 0
    OnCycle n = IsCause g sp (cause.Cycle n)

    any_cause : Decided ((x : ClashCause) × IsCause g sp x)
    any_cause =
        decided_same there back
        (decided_either (some_member IsFalse sp.nodes (λ n m. decided (cause.False n)))
        (decided_either
        (some_member (λ n. Having (ArePair n) sp.nodes) sp.nodes
        (λ n m. some_member (ArePair n) sp.nodes (λ k i. decided (cause.Pair n k))))
        (some_member OnCycle sp.nodes (λ n m. decided (cause.Cycle n)))))
      where
        there : Having IsFalse sp.nodes
            ⊎ (Having (λ n. Having (ArePair n) sp.nodes) sp.nodes ⊎ Having OnCycle sp.nodes)
            → (x : ClashCause) × IsCause g sp x
        there (inl h) = (cause.False h.item, h.holds)
        there (inr (inl h)) = (cause.Pair h.item h.holds.item, h.holds.holds)
        there (inr (inr h)) = (cause.Cycle h.item, h.holds)

        back : (x : ClashCause) × IsCause g sp x
            → Having IsFalse sp.nodes
            ⊎ (Having (λ n. Having (ArePair n) sp.nodes) sp.nodes ⊎ Having OnCycle sp.nodes)
        back (cause.False n, h) = inl (record { item = n; member = h.0; holds = h })
        back (cause.Pair n k, h) =
            inr (inl (record { item = n; member = h.0; holds = record { item = k; member = h.1; holds = h } }))
        back (cause.Cycle n, h) = inr (inr (record { item = n; member = h.0; holds = h }))

    -- ---- steps

    leads_low : (d e m : ℕ) → IsMember d sp.nodes → LeadsOut g sp d e m → m < size g
    leads_low d e m inside l = by_kind l.leaves
      where
        by_kind : ((e ≡ d) × (m ≡ l.child)) ⊎ (IsMember e sp.nodes × (node_at g e ≡ node.Square l.action m))
            → m < size g
        by_kind (inl same) =
            subst (λ k. k < size g) (sym same.1)
            (diamond_target g ok d (is.low d inside) l.action l.child l.is_diamond)
        by_kind (inr square) = square_target g ok e (is.low e square.0) l.action m square.1

    -- triples from nodes of the sequent to such nodes, with each priority
    abbrev triples : List ℕ → List Triple
    triples next =
        flat_map (λ n. flat_map (λ k. map (λ m. record { from = n; lowest = k; to = m }) next) g.priorities) p.sequent

    among : (next : List ℕ) (d : ℕ) (t : Triple) → IsTrace g p.sequent sp d t → IsMember t.to next
        → IsMember t (triples next)
    among next d t trace inside =
        let f = lowest_occurs g sp.choice ok t.from t.lowest trace.leaving (low t.from trace.from) trace.walk in
        let level : IsMember t.lowest g.priorities =
        subst (λ k. IsMember k g.priorities) f.holds
        (place-member g.priorities f.place 0 (omega (arith, f.below, ok.priorities))) in
        member-flat_map (λ n. flat_map (λ k. map (λ m. record { from = n; lowest = k; to = m }) next) g.priorities)
        t.from t p.sequent trace.from
        (member-flat_map (λ k. map (λ m. record { from = t.from; lowest = k; to = m }) next) t.lowest t g.priorities level
        (member-map (λ m. record { from = t.from; lowest = t.lowest; to = m }) t.to next inside))

    follow : (d : ℕ) → IsMember d sp.nodes → (q : Position) × Follows g p sp d q
    follow d inside =
        let next = sieve (IsTarget g sp d) (size g) (λ m m_low. decided_target g sp d m) in
        let traces = sieved_list (IsTrace g p.sequent sp d) (triples next.list)
        (λ t. decided_trace g sp ok p.sequent within d t) in
        let letter = rows (odd_priorities g) traces.list in (
          record {
            sequent = next.list;
            history = stepped p.history letter;
            priority = priority (neutral g) (step_mark p.history letter);
            choice = [];
          },
          record {
            traces = traces.list;
            letter = letter;
            is_step = record {
              ascends = next.ascends;
              targets = λ m. (
                (λ h. (next.members m h).1),
                (λ t. next.all m (leads_low d t.leaving m inside t.leads) t),
              );
              traces = λ t. (
                (λ h. traces.holds t h),
                (λ h. traces.all t
                    (among next.list d t h
                    (next.all t.to (leads_low d h.leaving t.to inside h.leads)
                    (record { leaving = h.leaving; leads = h.leads })))
                    h),
              );
            };
            is_letter =
                rows-letter (odd_priorities g) (ascending-is (filter (λ k. k % 2 == 1) g.priorities)) traces.list;
            history = refl;
            marked = refl;
            unchosen = refl;
          },
        )

    steps : (ds : List ℕ) → ((d : ℕ) → IsMember d ds → IsMember d sp.nodes)
        → (ts : List Target) × AreSteps g p sp ds ts
    steps [] inside = ([], refl)
    steps (d ∷ ds) inside =
        let f = follow d (inside d (inl refl)) in
        let rest = steps ds (λ e m. inside e (inr m)) in
        (To f.0 ∷ rest.0, (f.0, rest.0, f.1, rest.1, refl))

    -- ---- what is done

    turn_here : Turn g p
    turn_here = by_cause any_cause
      where
        by_diamonds : IsResolved g sp → (ds : List ℕ) → diamonds_of g sp ≡ ds → Turn g p
        by_diamonds resolved [] none = record {
          spread = sp;
          verdict = Settled;
          targets = Won ∷ [];
          is_spread = is;
          is_verdict = (resolved, none);
          are_moves = refl;
        }
        by_diamonds resolved (d ∷ ds) some =
            let made = steps (d ∷ ds)
            (λ e m. (member-filter_from (λ n. is_diamond (node_at g n)) e sp.nodes
            (subst (IsMember e) (sym some) m)).0) in
            record {
              spread = sp;
              verdict = Leading (d ∷ ds);
              targets = made.0;
              is_spread = is;
              is_verdict = (resolved, sym some, omega arith);
              are_moves = made.1;
            }

        by_open : ((x : ClashCause) → ¬ (IsCause g sp x))
            → First (IsOpenOr g sp) (size g) ⊎ ((n : ℕ) → n < size g → IsOpenOr g sp n → ⊥)
            → Turn g p
        by_open no_clash (inl f) = record {
          spread = sp;
          verdict = Open f.place;
          targets = _;
          is_spread = is;
          is_verdict = (no_clash, record { is_open = f.is_first.holds; least = f.is_first.before });
          are_moves = refl;
        }
        by_open no_clash (inr none) =
            by_diamonds (record { no_clash = no_clash; none_open = λ n o. none n (is.low n o.member) o })
            (diamonds_of g sp) refl

        by_cause : Decided ((x : ClashCause) × IsCause g sp x) → Turn g p
        by_cause (inl x) = record {
          spread = sp;
          verdict = Clashing;
          targets = Lost ∷ [];
          is_spread = is;
          is_verdict = x;
          are_moves = refl;
        }
        by_cause (inr none) =
            by_open (λ x c. none (x, c)) (search_first (IsOpenOr g sp) (decided_open_or g sp) (size g))

  -- a position has a turn
  pub some_turn : Turn g p
  some_turn = of_spread (some_spread g ok p.sequent within p.choice)
    where
      of_spread : SomeSpread g p.sequent p.choice → Turn g p
      of_spread s = turn_here s.spread s.is
