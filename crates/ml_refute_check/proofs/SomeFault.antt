-- A refutation is accepted, or has a first bad part.
--
-- Where the nodes of an entry are nodes of the graph, each of its rules is decided; where they aren't, that is the
-- first rule of the entry that is broken. So parts are judged one by one, up to the first bad one.
--
--   judged_start, judged_part == the sequent of an entry is judged, and so is each part where the nodes are in the
--                                graph
--   Keeps, Breaks, AllKept, BadPart == part k keeps its rules or breaks one; all do, or there is a first bad one
--   judged_entry == of each entry, one of the two
--   some_fault   == the refutation is accepted, or has a first bad part
use Rattle.std.proofs.Common.{◌≡◌, ℕ, zero, suc, ◌*◌, ◌<◌, ◌⊎◌, List, [], ◌∷◌, Option, None, Some, All, length, get_or, inl, inr, subst, arith}
use Rattle.ml_lists.specs.Documents.{KeepsAll, IsFirstBroken}
use Rattle.ml_lists.specs.Readings.{IsJudged}
use Rattle.ml_lists.specs.Member.{IsMember}
use Rattle.ml_lists.proofs.Decided as is
use Rattle.ml_lists.proofs.Documents.{judged}
use Rattle.ml_lists.proofs.Member.{member-place}
use Rattle.ml_trace.specs.Automaton.{IsGuess}
use Rattle.ml_trace.specs.Marks.{priority}
use Rattle.ml_trace.specs.NamesCondition.{NamesCondition}
use Rattle.ml_graph.specs.Graph.{Graph, IsGraph, size, odd_priorities}
use Rattle.ml_sequent.specs.declared.choice.Side.{Side}
use Rattle.ml_sequent.specs.Spread.{SpreadList, IsOpenOr, IsCause}
use Rattle.ml_sequent.specs.Step.{IsDiamondOf, IsTarget}
use Rattle.ml_refutation.specs.Refutation.{Refutation, Decision, Split, Clash, Go}
use Rattle.ml_refutation.specs.GoStep.{GoStep, HasTransition}
use Rattle.ml_refutation.specs.Acceptance.{entry_at, Part, Sequent, Live, Item, Decided, parts, rules, heights_of, IsAccepted, IsFirstBad}
use Rattle.ml_refute_check.specs.Soundness.{AcceptedOrFault}
use Rattle.ml_lists.proofs.Deciding.{decided_if, decided_member, FirstWith, first_bad}
use Rattle.ml_refute_check.proofs.DecidedNames.{decided_names, decided_transition, decided_stands, decided_falls}
use Rattle.ml_refute_check.proofs.DecidedSpreads.{Within, decided_of_spread, decided_open_or, decided_cause, decided_diamond, decided_target}

decided_guess : (odds : List ℕ) (guess : Option ℕ) → is.Decided (IsGuess odds guess)
decided_guess odds None = inl tt
decided_guess odds (Some d) = decided_member is.decided_number d odds

-- ---- the parts of an entry

module _ (g : Graph) (ok : IsGraph g) (r : Refutation) (e : ℕ) where
  abbrev sequent : List ℕ
  sequent = (entry_at r e).sequent

  pub judged_start : IsJudged (rules r e Sequent) g
  judged_start =
      judged g (rules r e Sequent) (
        is.decided_same
            (λ (both : Within g sequent × (e ≡ 0 → sequent ≡ g.root ∷ [])).
            record { in_graph = both.0; starts = both.1 })
            (λ w. (w.in_graph, w.starts))
            (is.decided_both (is.decided_all (λ n. n < size g) (λ n. is.decided_less n (size g)) sequent)
            (decided_if (is.decided_number e 0) (λ start. is.decided_bytes sequent (g.root ∷ [])))),
        λ _. tt,
      )

  module _ (low : Within g sequent) where
    judged_branch : (c : List (ℕ × Side)) (decision : Decision)
        → IsJudged (rules r e (Decided (record { choice = c; decision = decision }))) g
    judged_branch c (Split n left right) =
        judged g (rules r e (Decided (record { choice = c; decision = Split n left right })))
        (decided_of_spread g ok sequent low c (λ sp. IsOpenOr g sp n) (λ sp spread. decided_open_or g sp n), λ _. tt)
    judged_branch c (Clash x) =
        judged g (rules r e (Decided (record { choice = c; decision = Clash x }))) (
          decided_of_spread g ok sequent low c (λ sp. IsCause g sp x)
              (λ sp spread. decided_cause g sp ok spread.low x),
          λ _. tt,
        )
    judged_branch c (Go d f m) =
        judged g (rules r e (Decided (record { choice = c; decision = Go d f m }))) (
          decided_of_spread g ok sequent low c (λ sp. IsDiamondOf g sp d) (λ sp spread. decided_diamond g sp d),
          λ _. (
            decided_of_spread g ok sequent low c (λ sp. All (IsTarget g sp d) (entry_at r f).sequent)
                (λ sp spread. is.decided_all (IsTarget g sp d) (decided_target g sp d) (entry_at r f).sequent),
            λ _. (
              decided_of_spread g ok sequent low c
                  (λ sp. NamesCondition (HasTransition g) (step sp) m (entry_at r e).traces (entry_at r f).traces)
                  (λ sp spread. decided_names (HasTransition g) (step sp) (decided_transition g ok (step sp) low)
                  (entry_at r e).traces (entry_at r f).traces m),
              λ _. (
                decided_falls (heights_of r) (record { from = e; priority = priority (2 * r.names) m; to = f }),
                λ _. tt,
              ),
            ),
          ),
        )
      where
        step : SpreadList → GoStep
        step sp = record { sequent = sequent; spread = sp; diamond = d; next = (entry_at r f).sequent }

    pub judged_part : (part : Part) → IsJudged (rules r e part) g
    judged_part Sequent = judged_start
    judged_part Live = judged g (rules r e Live) (decided_stands (entry_at r e).traces, λ _. tt)
    judged_part (Item a) =
        judged g (rules r e (Item a)) (
          is.decided_same
              (λ (both : IsMember a.state.node sequent × IsGuess (odd_priorities g) a.state.odd).
              record { member = both.0; occurs = both.1 })
              (λ s. (s.member, s.occurs))
              (is.decided_both (decided_member is.decided_number a.state.node sequent)
              (decided_guess (odd_priorities g) a.state.odd)),
          λ _. tt,
        )
    judged_part (Decided b) = judged_branch b.choice b.decision

  abbrev part_at : ℕ → Part
  part_at k = get_or (parts (entry_at r e)) k Sequent

  abbrev Keeps : ℕ → Type 0
  Keeps k = KeepsAll (rules r e (part_at k)) g

  abbrev Breaks : ℕ → Type 0
  Breaks k = (number : ℕ) × IsFirstBroken (rules r e (part_at k)) g number

  -- all parts of the entry keep their rules
  abbrev AllKept : Type 0
  AllKept = (part : Part) → IsMember part (parts (entry_at r e)) → KeepsAll (rules r e part) g

  -- the first bad part of the entry
  abbrev BadPart : Type 0
  BadPart = FirstWith Keeps Breaks (length (parts (entry_at r e)))

  -- the first part, and each further one where the first one keeps its rule
  judged_at : (k : ℕ) → ((j : ℕ) → j < k → Keeps j) → Keeps k ⊎ Breaks k
  judged_at zero before = judged_start
  judged_at (suc k) before = judged_part (before 0 (omega arith)).0.in_graph (part_at (suc k))

  -- all parts of the entry keep their rules, or there is a first bad one
  pub judged_entry : AllKept ⊎ BadPart
  judged_entry = go (first_bad Keeps Breaks (length (parts (entry_at r e))) (λ k low before. judged_at k before))
    where
      go : ((k : ℕ) → k < length (parts (entry_at r e)) → Keeps k) ⊎ BadPart → AllKept ⊎ BadPart
      go (inr bad) = inr bad
      go (inl all) = inl (λ part member.
          let place = member-place part (parts (entry_at r e)) member in
          subst (λ p. KeepsAll (rules r e p) g) (place.holds Sequent) (all place.place place.below))

-- ---- entries

module _ (g : Graph) (ok : IsGraph g) (r : Refutation) where
  abbrev AllOf : ℕ → Type 0
  AllOf e = AllKept g ok r e

  abbrev BadOf : ℕ → Type 0
  BadOf e = BadPart g ok r e

  of_entries : ((e : ℕ) → e < length r.entries → AllOf e) ⊎ FirstWith AllOf BadOf (length r.entries)
      → IsAccepted g r ⊎ ((e : ℕ) × (k : ℕ) × (number : ℕ) × IsFirstBad g r e k number)
  of_entries (inl all) = inl (λ e part low member. all e low part member)
  of_entries (inr f) = inr (
    f.place,
    f.bad.place,
    f.bad.bad.0,
    record {
      is_entry = f.below;
      is_part = f.bad.below;
      entries_before = λ d part less member. f.before d less part member;
      parts_before = f.bad.before;
      broken = f.bad.bad.1;
    },
  )

-- all entries keep their rules, or there is a first bad part
pub some_fault : AcceptedOrFault
some_fault g r ok =
    of_entries g ok r
    (first_bad (AllOf g ok r) (BadOf g ok r) (length r.entries) (λ e low before. judged_entry g ok r e))
