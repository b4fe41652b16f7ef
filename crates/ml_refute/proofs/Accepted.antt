-- An extracted refutation breaks no rule of acceptance.
--
--   branches_kept       == a decision keeps the rules of branches
--   names_stand, items_stand == the traces of an entry keep theirs
--   extracted_accepted  == the theorem
use Rattle.std.proofs.Common.{ℕ, ◌≡◌, ◌*◌, ◌<◌, ◌⊎◌, inl, inr, List, [], Some, length, map, slice_get, All, refl, sym, ap, ◌∙◌, subst}
use Rattle.ml_lists.specs.Documents.{KeepsAll}
use Rattle.ml_lists.specs.Member.{IsMember}
use Rattle.ml_lists.proofs.Member.{member-append, member-append_left, member-append_right, member-map, member-map_from, member-filter_from, member-All, Image}
use Rattle.ml_graph.specs.Graph.{size, node_at, odd_priorities}
use Rattle.ml_parity.specs.declared.one_sided.graph.Arc.{Arc}
use Rattle.ml_parity.specs.Heights.{FallsAlong}
use Rattle.ml_parity.specs.OneSided.{AreLongest}
use Rattle.ml_product.specs.Position.{Position, with_chosen}
use Rattle.ml_product.proofs.Reached.{Facts, IsTraced}
use Rattle.ml_refutation.specs.Acceptance.{entry_at, Branch, branches, Part, Item, Decided, parts, rules, OfSpread, IsWellStarted, StandsIn, TracesNames, heights_of, IsAccepted}
use Rattle.ml_refutation.specs.GoStep.{HasTransition}
use Rattle.ml_refutation.specs.Refutation.{Decision, Split, Clash, Go}
use Rattle.ml_sequent.specs.declared.choice.Side.{Side}
use Rattle.ml_sequent.specs.declared.choice.Side.TheVariants.{Left, Right}
use Rattle.ml_sequent.specs.Choice.{with_side}
use Rattle.ml_sequent.specs.Spread.{IsOpenOr, IsCause, is_diamond}
use Rattle.ml_sequent.specs.Step.{IsDiamondOf, IsTarget}
use Rattle.ml_trace.specs.declared.letters.AutomatonState.{AutomatonState}
use Rattle.ml_trace.specs.declared.marks.Mark.{Mark}
use Rattle.ml_trace.specs.NamesCondition.{EachNameStands}
use Rattle.ml_trace.specs.Automaton.{IsState}
use Rattle.ml_trace.specs.AutomatonNumbers.{state_of}
use Rattle.ml_trace.specs.NamesCondition.{NamesCondition}
use Rattle.ml_trace.specs.Stack as traced
use Rattle.ml_trace.proofs.Stacks.{ends-has}
use Rattle.ml_trace.specs.Marks.{priority}
use Rattle.ml_refute.specs.Extracted.{IsDecisionAt, IsEntryAt, IsGo, arcs_of, go_graph, traces_of}
use Rattle.ml_refute.proofs.Decisions.{chosen_facts}
use Rattle.ml_refute.proofs.Entries.{Extraction, At, position_at, start_is, facts_at, low_at}
use Rattle.ml_refute.proofs.GoGraph.{falls}
use Rattle.ml_refute.proofs.GoSteps.{state_numbered, go_names}

module _ (X : Extraction) (longest : AreLongest (go_graph X.r) (heights_of X.r)) where
  -- ---- branches

  -- so much is known on the way down a decision
  record Below (e : ℕ) (p : Position) : Type 0 where
    pub sequent : (entry_at X.r e).sequent ≡ p.sequent
    pub traces : (entry_at X.r e).traces ≡ traces_of X.g p.history
    pub facts : Facts X.g p

  one_more : (e : ℕ) (p : Position) (n : ℕ) (x : Side) → Below e p → Below e (with_chosen X.g p n x)
  one_more e p n x b = record { sequent = b.sequent; traces = b.traces; facts = chosen_facts X.g p n x b.facts }

  go_kept : (e : ℕ) (p : Position) (d f : ℕ) (m : Mark)
      → Below e p
      → IsDecisionAt X.g X.a X.s X.o.positions p (Go d f m)
      → FallsAlong (heights_of X.r) (record { from = e; priority = priority (2 * X.r.names) m; to = f })
      → KeepsAll (rules X.r e (Decided (record { choice = p.choice; decision = Go d f m }))) X.g
  go_kept e p d f m b at falling = (
    subst (λ c. OfSpread X.g c p.choice (λ sp. IsDiamondOf X.g sp d)) (sym b.sequent)
        (record { spread = at.spread; is_spread = at.is_spread; holds = diamond }),
    (
      subst (λ c. OfSpread X.g c p.choice (λ sp. All (IsTarget X.g sp d) (entry_at X.r f).sequent)) (sym b.sequent)
          (record { spread = at.spread; is_spread = at.is_spread; holds = targets }),
      (names_kept, (falling, tt)),
    ),
  )
    where
      go : IsGo X.g X.a X.s X.o.positions p at.spread d f m
      go = at.holds.1

      next_is : IsEntryAt X.g X.a X.s X.o.positions go.next (entry_at X.r f)
      next_is = X.o.are_entries f go.next go.is_entry

      diamond : IsDiamondOf X.g at.spread d
      diamond =
          let m = member-filter_from (λ n. is_diamond (node_at X.g n)) d at.spread.nodes go.is_diamond.is_diamond in
          record { member = m.0; holds = m.1 }

      targets : All (IsTarget X.g at.spread d) (entry_at X.r f).sequent
      targets =
          subst (All (IsTarget X.g at.spread d)) (sym next_is.sequent)
          (member-All (IsTarget X.g at.spread d) go.next.sequent (λ n i. (go.is_diamond.leads.is_step.targets n).0 i))

      condition : NamesCondition (HasTransition X.g)
          (record { sequent = p.sequent; spread = at.spread; diamond = d; next = go.next.sequent }) m
          (traces_of X.g p.history) (traces_of X.g go.next.history)
      condition = go_names X.g p go.next at.spread d go.is_diamond.leads b.facts at.is_spread m go.marked go.is_mark

      at_entries : (c n : List ℕ) (t u : traced.Entry AutomatonState)
          → c ≡ p.sequent
          → n ≡ go.next.sequent
          → t ≡ traces_of X.g p.history
          → u ≡ traces_of X.g go.next.history
          → OfSpread X.g c p.choice (λ sp. NamesCondition (HasTransition X.g)
          (record { sequent = c; spread = sp; diamond = d; next = n }) m t u)
      at_entries c n t u c_is n_is t_is u_is =
          subst (λ x. OfSpread X.g x p.choice (λ sp. NamesCondition (HasTransition X.g)
          (record { sequent = x; spread = sp; diamond = d; next = n }) m t u)) (sym c_is)
          (record {
            spread = at.spread;
            is_spread = at.is_spread;
            holds = subst (λ x. NamesCondition (HasTransition X.g)
                (record { sequent = p.sequent; spread = at.spread; diamond = d; next = x }) m t u) (sym n_is)
                (subst (λ x. NamesCondition (HasTransition X.g)
                (record { sequent = p.sequent; spread = at.spread; diamond = d; next = go.next.sequent }) m x u)
                (sym t_is)
                (subst (λ x. NamesCondition (HasTransition X.g)
                (record { sequent = p.sequent; spread = at.spread; diamond = d; next = go.next.sequent }) m
                (traces_of X.g p.history) x) (sym u_is) condition));
          })

      names_kept : TracesNames (entry_at X.r e) p.choice d (entry_at X.r f) m X.g
      names_kept =
          at_entries (entry_at X.r e).sequent (entry_at X.r f).sequent (entry_at X.r e).traces (entry_at X.r f).traces
          b.sequent next_is.sequent b.traces next_is.traces

  branches_kept : (e : ℕ) (d : Decision) (p : Position) → Below e p → IsDecisionAt X.g X.a X.s X.o.positions p d
      → ((arc : Arc) → IsMember arc (arcs_of (2 * X.r.names) e d) → FallsAlong (heights_of X.r) arc)
      → (b : Branch) → IsMember b (branches p.choice d) → KeepsAll (rules X.r e (Decided b)) X.g
  branches_kept e (Split n left right) p below at falling b (inl same) =
      subst (λ x. KeepsAll (rules X.r e (Decided x)) X.g) (sym same) (
        subst (λ c. OfSpread X.g c p.choice (λ sp. IsOpenOr X.g sp n)) (sym below.sequent)
            (record { spread = at.0.spread; is_spread = at.0.is_spread; holds = at.0.holds.1.is_open }),
        tt,
      )
  branches_kept e (Split n left right) p below at falling b (inr later) =
      by_side (member-append b (branches (with_side p.choice n Left) left) (branches (with_side p.choice n Right) right)
      later)
      (branches_kept e left (with_chosen X.g p n Left) (one_more e p n Left below) at.1
      (λ arc i. falling arc (member-append_left arc (arcs_of (2 * X.r.names) e left) (arcs_of (2 * X.r.names) e right)
      i)) b)
      (branches_kept e right (with_chosen X.g p n Right) (one_more e p n Right below) at.2
      (λ arc i. falling arc (member-append_right arc (arcs_of (2 * X.r.names) e left) (arcs_of (2 * X.r.names) e right)
      i)) b)
    where
      by_side : IsMember b (branches (with_side p.choice n Left) left)
          ⊎ IsMember b (branches (with_side p.choice n Right) right)
          → (IsMember b (branches (with_side p.choice n Left) left) → KeepsAll (rules X.r e (Decided b)) X.g)
          → (IsMember b (branches (with_side p.choice n Right) right) → KeepsAll (rules X.r e (Decided b)) X.g)
          → KeepsAll (rules X.r e (Decided b)) X.g
      by_side (inl l) at_left at_right = at_left l
      by_side (inr k) at_left at_right = at_right k
  branches_kept e (Clash x) p below at falling b (inl same) =
      subst (λ y. KeepsAll (rules X.r e (Decided y)) X.g) (sym same) (
        subst (λ c. OfSpread X.g c p.choice (λ sp. IsCause X.g sp x)) (sym below.sequent)
            (record { spread = at.spread; is_spread = at.is_spread; holds = at.holds.is_cause }),
        tt,
      )
  branches_kept e (Clash x) p below at falling b (inr none) = absurd none
  branches_kept e (Go d f m) p below at falling b (inl same) =
      subst (λ y. KeepsAll (rules X.r e (Decided y)) X.g) (sym same)
      (go_kept e p d f m below at (falling (record { from = e; priority = priority (2 * X.r.names) m; to = f })
      (inl refl)))
  branches_kept e (Go d f m) p below at falling b (inr none) = absurd none

  -- ---- the other parts of an entry

  module _ (e : ℕ) (low : e < length X.r.entries) (h : At X e) where
    facts : Facts X.g h.position
    facts = facts_at X e h.position h.placed

    starts_well : IsWellStarted X.r e X.g
    starts_well = record {
      in_graph = subst (All (λ n. n < size X.g)) (sym h.is_entry.sequent)
          (member-All (λ n. n < size X.g) h.position.sequent (low_at X e h.position h.placed));
      starts = λ first. h.is_entry.sequent ∙ ap (λ (p : Position). p.sequent)
          (start_is X h.position (subst (λ k. slice_get X.o.positions k ≡ Some h.position) first h.placed));
    }

    names_stand : EachNameStands (entry_at X.r e).traces
    names_stand = subst EachNameStands (sym h.is_entry.traces) each
      where
        each : EachNameStands (traces_of X.g h.position.history)
        each y used =
            let ends = facts.is_history.each_ends y used in (
              record { state = state_of (odd_priorities X.g) ends.0.state; stack = ends.0.stack },
              member-map (λ (b : traced.Item ℕ). record {
                state = state_of (odd_priorities X.g) b.state;
                stack =
                    b.stack;
              }) ends.0 h.position.history ends.1,
              ends-has y ends.0.stack ends.2,
            )

    item_stands : (x : traced.Item AutomatonState) → IsMember x (traces_of X.g h.position.history).items
        → StandsIn (entry_at X.r e).sequent x X.g
    item_stands x inside =
        from (member-map_from (λ (b : traced.Item ℕ). record {
          state = state_of (odd_priorities X.g) b.state;
          stack =
              b.stack;
        }) x h.position.history inside)
      where
        from : Image (λ (b : traced.Item ℕ). record { state = state_of (odd_priorities X.g) b.state; stack = b.stack })
            x h.position.history
            → StandsIn (entry_at X.r e).sequent x X.g
        from i = of_traced (facts.traced i.from i.member)
          where
            of_traced : IsTraced X.g h.position.sequent i.from → StandsIn (entry_at X.r e).sequent x X.g
            of_traced t =
                let state_is : x.state ≡ t.state =
                ap (λ (y : traced.Item AutomatonState). y.state) i.holds ∙ state_numbered X.g i.from.state t.state
                t.is_state t.numbered_so in
                record {
                  member = subst (λ c. IsMember x.state.node c) (sym h.is_entry.sequent)
                      (subst (λ (y : AutomatonState). IsMember y.node h.position.sequent) (sym state_is) t.member);
                  occurs = subst (IsState (odd_priorities X.g)) (sym state_is) t.is_state;
                }

    decided : (b : Branch) → IsMember b (branches [] (entry_at X.r e).decision) → KeepsAll (rules X.r e (Decided b)) X.g
    decided b inside =
        branches_kept e (entry_at X.r e).decision h.position
        (record { sequent = h.is_entry.sequent; traces = h.is_entry.traces; facts = facts })
        h.is_entry.decision (falls X longest e low) b
        (subst (λ c. IsMember b (branches c (entry_at X.r e).decision)) (sym h.is_entry.unchosen) inside)

    part_kept : (part : Part) → IsMember part (parts (entry_at X.r e)) → KeepsAll (rules X.r e part) X.g
    part_kept part (inl same) = subst (λ x. KeepsAll (rules X.r e x) X.g) (sym same) (starts_well, tt)
    part_kept part (inr (inl same)) = subst (λ x. KeepsAll (rules X.r e x) X.g) (sym same) (names_stand, tt)
    part_kept part (inr (inr later)) = by_kind (member-append part (map Item (entry_at X.r e).traces.items)
        (map Decided (branches [] (entry_at X.r e).decision)) later)
      where
        of_item : Image Item part (entry_at X.r e).traces.items → KeepsAll (rules X.r e part) X.g
        of_item i =
            subst (λ x. KeepsAll (rules X.r e x) X.g) (sym i.holds) (
              item_stands i.from (subst (λ (t : traced.Entry AutomatonState). IsMember i.from t.items) h.is_entry.traces
                  i.member),
              tt,
            )

        of_branch : Image Decided part (branches [] (entry_at X.r e).decision) → KeepsAll (rules X.r e part) X.g
        of_branch i = subst (λ x. KeepsAll (rules X.r e x) X.g) (sym i.holds) (decided i.from i.member)

        by_kind : IsMember part (map Item (entry_at X.r e).traces.items)
            ⊎ IsMember part (map Decided (branches [] (entry_at X.r e).decision))
            → KeepsAll (rules X.r e part) X.g
        by_kind (inl item) = of_item (member-map_from Item part (entry_at X.r e).traces.items item)
        by_kind (inr branch) = of_branch (member-map_from Decided part (branches [] (entry_at X.r e).decision) branch)

  pub extracted_accepted : IsAccepted X.g X.r
  extracted_accepted e part low inside = part_kept e low (position_at X e low) part inside
