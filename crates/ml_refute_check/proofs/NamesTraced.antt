-- Names that are traced back, and the condition on names.
--
--   source_before   == where a name has a source, it has a predecessor; with progress, if progress was asked for
--   before_source   == and the other way round
--   condition_holds, condition_tells == names of all items are traced back exactly where the condition on names holds,
--                      of names that are in use
--
-- The traces at hand are those that begin at some nodes, at which all items before the step stand: a predecessor comes
-- along a trace that begins at its own node, so none is missed.
use Rattle.std.proofs.Common.{◌≡◌, ◌↔◌, ◌⊎◌, ℕ, ◌<◌, ◌≤◌, Bool, true, false, not, List, Option, Some, map, All, IsTrue, inl, inr, refl, sym, ap, ◌∙◌, subst}
use Rattle.std.proofs.lemmas.Bool.{cases_Bool, true≢false}
use Rattle.ml_lists.specs.Member.{IsMember}
use Rattle.ml_lists.proofs.Member.{Image, member-map, member-map_from, All-member, member-All}
use Rattle.ml_trace.specs.declared.letters.AutomatonState.{AutomatonState}
use Rattle.ml_trace.specs.declared.letters.Triple.{Triple}
use Rattle.ml_trace.specs.declared.marks.Mark.{Mark}
use Rattle.ml_trace.specs.declared.marks.Mark.TheVariants.{Red, Green, Neutral}
use Rattle.ml_trace.specs.Automaton.{Leads}
use Rattle.ml_trace.specs.NamesCondition.{NamesCondition, Predecessor, Progress, bound}
use Rattle.ml_trace.specs.Stack as traced
use Rattle.ml_trace.specs.Stack.{has, ends_in, IsAdvanced}
use Rattle.ml_graph.specs.Graph.{Graph, odd_priorities}
use Rattle.ml_sequent.specs.Step.{IsTrace}
use Rattle.ml_refutation.specs.declared.refutation.Item.{Item}
use Rattle.ml_refutation.specs.Views.{item_of}
use Rattle.ml_refutation.specs.GoStep.{GoStep, HasTransition}
use Rattle.ml_refute_check.specs.private.Sources.{stack_of, HasSource, IsNameTraced, IsItemTraced, AreInUse, LeadInto, StandAmong, green_of}
use Rattle.ml_trace.proofs.Stacks.{has-member, member-has}

green_is : (m : Mark) (x : ℕ) → green_of m ≡ Some x → m ≡ Green x
green_is (Red y) x e = absurd (cc)
green_is (Green y) x e = ap Green (let names : y ≡ x = cc in names)
green_is Neutral x e = absurd (cc)

module _ (stacks : List (List ℕ)) (g : Graph) (step : GoStep) (sources : List ℕ) (traces : List Triple)
    (given : (t : Triple)
    → IsMember t traces
    ↔ ((IsMember t.from sources × IsTrace g step.sequent step.spread step.diamond t) × IsMember t.to step.next))
    (live : ℕ) (items : List Item) (stand : StandAmong sources items) where
  abbrev before : traced.Entry AutomatonState
  before = record { live = live; items = map (item_of stacks) items }

  abbrev odds : List ℕ
  odds = odd_priorities g

  abbrev Comes : ℕ → Item → Type 0
  Comes y a = Predecessor (HasTransition g) step before y (item_of stacks a)

  abbrev Gains : ℕ → Item → Type 0
  Gains y a = Progress (HasTransition g) step before y (item_of stacks a)

  source_before : (y : ℕ) (p : Bool) (a : Item) → HasSource stacks odds traces y p items a → Comes y a
  source_before y p a s = record {
    item = item_of stacks s.among.item;
    accepting = s.among.is_source.accepting;
    member = member-map (item_of stacks) s.among.item items s.among.member;
    named = s.among.is_source.serves.0;
    transition = record {
      trace = s.trace;
      is_trace = ((given s.trace).0 s.member).0.1;
      stays = ((given s.trace).0 s.member).1;
      begins = s.among.is_source.begins;
      ends = s.among.is_source.ends;
      leads = s.among.is_source.leads;
    };
  }

  source_gains : (y : ℕ) (a : Item) → HasSource stacks odds traces y true items a → Gains y a
  unfolding source_before
  source_gains y a s = record { before = source_before y true a s; progress = s.among.is_source.serves.1 refl }

  before_source : (y : ℕ) (p : Bool) (a : Item) (h : Comes y a)
      → (p ≡ true → IsAdvanced y h.item.stack ⊎ (h.accepting ≡ true))
      → HasSource stacks odds traces y p items a
  before_source y p a h progress = of_image (member-map_from (item_of stacks) h.item items h.member)
    where
      -- it begins at the item's node
      begins_there : (i : Image (item_of stacks) h.item items) → i.from.node ≡ h.transition.trace.from
      begins_there i = sym (ap (λ (z : traced.Item AutomatonState). z.state.node) i.holds) ∙ h.transition.begins

      of_image : Image (item_of stacks) h.item items → HasSource stacks odds traces y p items a
      of_image i = record {
        trace = h.transition.trace;
        member =
            (given h.transition.trace).1 (
              (
                subst (λ n. IsMember n sources) (begins_there i)
                    (All-member (λ (b : Item). IsMember b.node sources) items stand i.from i.member),
                h.transition.is_trace,
              ),
              h.transition.stays,
            );
        among = record {
          item = i.from;
          member = i.member;
          is_source = record {
            begins = begins_there i;
            ends = h.transition.ends;
            accepting = h.accepting;
            leads =
                subst (λ (z : traced.Item AutomatonState). Leads odds h.transition.trace.lowest z.state.odd a.odd
                h.accepting) i.holds
                h.transition.leads;
            serves = (
              subst (λ (z : traced.Item AutomatonState). has y z.stack ≡ true) i.holds h.named,
              λ asked. subst (λ (z : traced.Item AutomatonState). IsAdvanced y z.stack ⊎ (h.accepting ≡ true)) i.holds
                  (progress asked),
            );
          };
        };
      }

  module _ (m : Mark) (live_behind : ℕ) (items_behind : List Item) where
    abbrev behind : traced.Entry AutomatonState
    behind = record { live = live_behind; items = map (item_of stacks) items_behind }

    abbrev Traced : Item → ℕ → Type 0
    Traced a y = IsNameTraced stacks odds traces (bound live m) (green_of m) items y a

    abbrev pub AllTraced : Type 0
    AllTraced = All (λ (a : Item). All (Traced a) (stack_of stacks a)) items_behind

    abbrev pub InUse : Type 0
    InUse =
        ((bound live m ≤ live) × (bound live m ≤ live_behind)) × ((x : ℕ) → m ≡ Green
        x → (x < live) × (x < live_behind))

    abbrev pub Condition : Type 0
    Condition = NamesCondition (HasTransition g) step m before behind

    -- what holds of the items behind the step holds of their plain items
    of_items : (P : traced.Item AutomatonState → Type 0)
        → ((i : Item) → IsMember i items_behind → P (item_of stacks i))
        → (a : traced.Item AutomatonState)
        → IsMember a (map (item_of stacks) items_behind)
        → P a
    of_items P each a member =
        let i = member-map_from (item_of stacks) a items_behind member in subst P (sym i.holds) (each i.from i.member)

    pub condition_holds : InUse → AllTraced → Condition
    condition_holds in_force all = record {
      in_use = in_force.0;
      green_in_use = in_force.1;
      traced = λ y low. of_items (λ a. has y a.stack ≡ true → Predecessor (HasTransition g) step before y a)
          (λ i member h. source_before y (not (ends_in y (stack_of stacks i))) i ((name i member y h).below low));
      advanced = λ y low. of_items (λ a. IsAdvanced y a.stack → Progress (HasTransition g) step before y a)
          (λ i member h. source_gains y i (subst (λ p. HasSource stacks odds traces y p items i) (ap not h.1) ((name i member y h.0).below low)));
      green_traced = λ x e. of_items (λ a. has x a.stack ≡ true → Progress (HasTransition g) step before x a)
          (λ i member h. source_gains x i ((name i member x h).if_green (ap green_of e)).1);
      green_reset = λ x e. of_items (λ a. IsAdvanced x a.stack → ⊥)
          (λ i member h. true≢false (sym ((name i member x h.0).if_green (ap green_of e)).0 ∙ h.1));
    }
      where
        name : (i : Item) → IsMember i items_behind → (y : ℕ) → has y (stack_of stacks i) ≡ true → Traced i y
        name i member y h =
            All-member (Traced i) (stack_of stacks i)
            (All-member (λ (a : Item). All (Traced a) (stack_of stacks a)) items_behind all i member) y
            (has-member y (stack_of stacks i) h)

    pub condition_tells : Condition → InUse × AllTraced
    condition_tells n = (
      (n.in_use, n.green_in_use),
      member-All (λ (a : Item). All (Traced a) (stack_of stacks a)) items_behind
          (λ i member. member-All (Traced i) (stack_of stacks i) (λ y h. name i member y (member-has y (stack_of stacks i) h))),
    )
      where
        gains : (i : Item) (y : ℕ) → Gains y i → HasSource stacks odds traces y true items i
        gains i y h = before_source y true i h.before (λ t. h.progress)

        by_end : (i : Item) (member : IsMember i items_behind) (y : ℕ) → has y (stack_of stacks i) ≡ true → y < bound live m
            → (ends_in y (stack_of stacks i) ≡ true) ⊎ (ends_in y (stack_of stacks i) ≡ false)
            → HasSource stacks odds traces y (not (ends_in y (stack_of stacks i))) items i
        by_end i member y h low (inl e) =
            before_source y (not (ends_in y (stack_of stacks i))) i
            (n.traced y low (item_of stacks i) (member-map (item_of stacks) i items_behind member) h)
            (λ t. absurd (true≢false (sym t ∙ ap not e)))
        by_end i member y h low (inr e) =
            subst (λ p. HasSource stacks odds traces y p items i) (sym (ap not e))
            (gains i y (n.advanced y low (item_of stacks i) (member-map (item_of stacks) i items_behind member) (h, e)))

        is_last : (i : Item) (member : IsMember i items_behind) (y : ℕ) → has y (stack_of stacks i) ≡ true → m ≡ Green y
            → (ends_in y (stack_of stacks i) ≡ true) ⊎ (ends_in y (stack_of stacks i) ≡ false)
            → ends_in y (stack_of stacks i) ≡ true
        is_last i member y h e (inl t) = t
        is_last i member y h e (inr f) =
            absurd (n.green_reset y e (item_of stacks i) (member-map (item_of stacks) i items_behind member) (h, f))

        name : (i : Item) → IsMember i items_behind → (y : ℕ) → has y (stack_of stacks i) ≡ true → Traced i y
        name i member y h = record {
          below = λ low. by_end i member y h low (cases_Bool (ends_in y (stack_of stacks i)));
          if_green = λ e. (
            is_last i member y h (green_is m y e) (cases_Bool (ends_in y (stack_of stacks i))),
            gains i y (n.green_traced y (green_is m y e) (item_of stacks i) (member-map (item_of stacks) i items_behind member) h),
          );
        }

    -- what a test of all items tells of the condition
    pub tested : (b : Bool) → InUse → (IsTrue b ↔ AllTraced) → IsTrue b ↔ Condition
    tested b in_force told = ((λ h. condition_holds in_force (told.0 h)), (λ n. told.1 (condition_tells n).1))

    pub not_in_use : ¬ InUse → IsTrue false ↔ Condition
    not_in_use none = ((λ h. absurd (true≢false (sym h))), (λ n. absurd (none (condition_tells n).0)))

    in_use_tells : AreInUse (bound live m) (green_of m) live live_behind → InUse
    in_use_tells h = (h.0, λ x e. h.1 x (ap green_of e))

    in_use_told : InUse → AreInUse (bound live m) (green_of m) live live_behind
    in_use_told h = (h.0, λ x e. h.1 x (green_is m x e))

    -- what the tests of a step tell
    pub step_kept : (used b : Bool)
        → (IsTrue used ↔ AreInUse (bound live m) (green_of m) live live_behind)
        → used ≡ true
        → (IsTrue b ↔ AllTraced)
        → IsTrue b ↔ Condition
    step_kept used b told is all = tested b (in_use_tells (told.0 is)) all

    pub step_refused : (used : Bool)
        → (IsTrue used ↔ AreInUse (bound live m) (green_of m) live live_behind)
        → used ≡ false
        → IsTrue false ↔ Condition
    step_refused used told not_used = not_in_use (λ h. true≢false (sym (told.1 (in_use_told h)) ∙ not_used))

-- what the tests of a step tell, of the values that a program has
pub kept_names : (stacks : List (List ℕ)) (g : Graph) (step : GoStep) (m : Mark) (odds next sources : List ℕ) (made traces ts : List Triple)
    (live live_behind low : ℕ) (green : Option ℕ) (items ins items_behind bs : List Item) (used b : Bool)
    → odds ≡ odd_priorities g
    → next ≡ step.next
    → StandAmong sources items
    → ((t : Triple) → IsMember t made ↔ (IsMember t.from sources × IsTrace g step.sequent step.spread step.diamond t))
    → LeadInto next made traces
    → ts ≡ traces
    → ins ≡ items
    → bs ≡ items_behind
    → low ≡ bound live m
    → green ≡ green_of m
    → (IsTrue used ↔ AreInUse low green live live_behind)
    → used ≡ true
    → (IsTrue b ↔ All (IsItemTraced stacks odds ts low green ins) bs)
    → IsTrue b
    ↔ NamesCondition (HasTransition g) step m (record { live = live; items = map (item_of stacks) items })
    (record { live = live_behind; items = map (item_of stacks) items_behind })
kept_names stacks g step m odds next sources made traces ts live live_behind low green items ins items_behind bs used b
    odds_are next_is stand told into ts_are ins_are bs_are low_is green_is used_told is traced_told =
    step_kept stacks g step sources traces given live items stand m live_behind items_behind used b u2 is t6
  where
    given : (t : Triple)
        → IsMember t traces
        ↔ ((IsMember t.from sources × IsTrace g step.sequent step.spread step.diamond t) × IsMember t.to step.next)
    given t = (
      λ h. let l = (into t).0 h in ((told t).0 l.0, subst (IsMember t.to) next_is l.1),
      λ h. (into t).1 ((told t).1 h.0, subst (IsMember t.to) (sym next_is) h.1),
    )

    u1 : IsTrue used ↔ AreInUse (bound live m) green live live_behind
    u1 = subst (λ z. IsTrue used ↔ AreInUse z green live live_behind) low_is used_told

    u2 : IsTrue used ↔ AreInUse (bound live m) (green_of m) live live_behind
    u2 = subst (λ z. IsTrue used ↔ AreInUse (bound live m) z live live_behind) green_is u1

    t3 : IsTrue b ↔ All (IsItemTraced stacks odds traces low green items) items_behind
    t3 =
        subst (λ z. IsTrue b ↔ All (IsItemTraced stacks odds z low green items) items_behind) ts_are
        (subst (λ z. IsTrue b ↔ All (IsItemTraced stacks odds ts low green z) items_behind) ins_are
        (subst (λ z. IsTrue b ↔ All (IsItemTraced stacks odds ts low green ins) z) bs_are traced_told))

    t6 : IsTrue b ↔ All (IsItemTraced stacks (odd_priorities g) traces (bound live m) (green_of m) items) items_behind
    t6 =
        subst (λ z. IsTrue b ↔ All (IsItemTraced stacks z traces (bound live m) (green_of m) items) items_behind) odds_are
        (subst (λ z. IsTrue b ↔ All (IsItemTraced stacks odds traces (bound live m) z items) items_behind) green_is
        (subst (λ z. IsTrue b ↔ All (IsItemTraced stacks odds traces z green items) items_behind) low_is t3))
