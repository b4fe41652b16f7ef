-- The condition on names is decided.
--
--   decided_names      == of a step whose transitions are decided, for any states and letters
--   decided_leads      == whether a local trace leads from one guess to another
--   decided_transition == the transitions of a step of a refutation are
--   decided_stands     == whether each name in use stands in some item is decided
--   decided_falls      == so is whether heights fall along an arc
use Rattle.std.proofs.Common.{◌≡◌, ℕ, ◌+◌, ◌%◌, ◌==◌, ◌<◌, ◌≤◌, ◌⊎◌, Bool, true, false, List, Option, None, Some, inl, inr, refl, sym, subst, arith}
use Rattle.ml_lists.specs.Member.{IsMember}
use Rattle.ml_lists.specs.Found.{Found}
use Rattle.ml_lists.proofs.Decided.{Decided, decided_same, decided_both, decided_either, decided_less, decided_number, decided_test}
use Rattle.ml_lists.proofs.Member.{All-member}
use Rattle.ml_parity.specs.Heights.{FallsAlong, height_of}
use Rattle.ml_parity.specs.declared.one_sided.graph.Arc.{Arc}
use Rattle.ml_trace.specs.declared.letters.AutomatonState.{AutomatonState}
use Rattle.ml_trace.specs.declared.letters.Triple.{Triple}
use Rattle.ml_trace.specs.declared.marks.Mark.{Mark}
use Rattle.ml_trace.specs.declared.marks.Mark.TheVariants.{Red, Green, Neutral}
use Rattle.ml_trace.specs.Automaton as automaton
use Rattle.ml_trace.specs.NamesCondition.{EachNameStands}
use Rattle.ml_trace.specs.NamesCondition.{NamesCondition, Predecessor, Progress, bound}
use Rattle.ml_trace.specs.Stack.{Item, Entry, has, ends_in, IsAdvanced}
use Rattle.ml_graph.specs.Graph.{Graph, IsGraph, size, priority_at, odd_priorities}
use Rattle.ml_sequent.specs.Step.{IsTrace}
use Rattle.ml_refutation.specs.GoStep.{GoStep, HasTransition}
use Rattle.ml_lists.proofs.Deciding.{decided_at_most, decided_below, decided_if, decided_member, decided_members, decided_not, decided_truth, some_below, some_member, some_truth, Having}
use Rattle.ml_refute_check.proofs.DecidedSpreads.{Within, decided_trace}
use Rattle.ml_refute_check.proofs.DecidedWalks.{lowest_occurs}

decided_advanced : (y : ℕ) (s : List ℕ) → Decided (IsAdvanced y s)
decided_advanced y s = decided_both (decided_test (has y s)) (decided_truth (ends_in y s) false)

-- what is asked where the mark is green
if_green : (P : ℕ → Type 0) → ((x : ℕ) → Decided (P x)) → (m : Mark) → Decided ((x : ℕ) → m ≡ Green x → P x)
if_green P decide (Red y) = inl (λ x e. absurd (cc))
if_green P decide Neutral = inl (λ x e. absurd (cc))
if_green P decide (Green y) =
    decided_same (λ p x e. subst P (let names : y ≡ x = cc in names) p) (λ all. all y refl) (decide y)

pub decided_stands : {S : Type 0} → (e : Entry S) → Decided (EachNameStands e)
decided_stands {S} e =
    decided_below (λ y. (a : Item S) × IsMember a e.items × (has y a.stack ≡ true)) e.live
    (λ y low. decided_same
    (λ (h : Having (λ (a : Item S). has y a.stack ≡ true) e.items). (h.item, h.member, h.holds))
    (λ h. record { item = h.0; member = h.1; holds = h.2 })
    (some_member (λ (a : Item S). has y a.stack ≡ true) e.items (λ a h. decided_test (has y a.stack))))

-- ---- the condition

module _ {S L : Type 0} (leads : L → S → S → Bool → Type 0) (l : L)
    (decide : (p q : S) (accepting : Bool) → Decided (leads l p q accepting)) (e f : Entry S) where
  -- an item with the name, and a transition to a
  abbrev Comes : ℕ → Item S → Item S → Type 0
  Comes y a item = (has y item.stack ≡ true) × ((b : Bool) × leads l item.state a.state b)

  decided_predecessor : (y : ℕ) (a : Item S) → Decided (Predecessor leads l e y a)
  decided_predecessor y a =
      decided_same
      (λ (h : Having (Comes y a) e.items). record {
        item = h.item;
        accepting = h.holds.1.0;
        member = h.member;
        named = h.holds.0;
        transition = h.holds.1.1;
      })
      (λ p. record { item = p.item; member = p.member; holds = (p.named, (p.accepting, p.transition)) })
      (some_member (Comes y a) e.items
      (λ item h. decided_both (decided_test (has y item.stack))
      (some_truth (λ b. leads l item.state a.state b) (λ b. decide item.state a.state b))))

  -- one that is advanced, or accepts
  abbrev Gains : ℕ → Item S → Item S → Type 0
  Gains y a item =
      (has y item.stack ≡ true) × ((b : Bool) × (leads l item.state a.state b × (IsAdvanced y item.stack ⊎ (b ≡ true))))

  decided_progress : (y : ℕ) (a : Item S) → Decided (Progress leads l e y a)
  decided_progress y a =
      decided_same
      (λ (h : Having (Gains y a) e.items). record {
        before = record {
          item = h.item;
          accepting = h.holds.1.0;
          member = h.member;
          named = h.holds.0;
          transition = h.holds.1.1.0;
        };
        progress = h.holds.1.1.1;
      })
      (λ p. record {
        item = p.before.item;
        member = p.before.member;
        holds = (p.before.named, (p.before.accepting, (p.before.transition, p.progress)));
      })
      (some_member (Gains y a) e.items
      (λ item h. decided_both (decided_test (has y item.stack))
      (some_truth (λ b. leads l item.state a.state b × (IsAdvanced y item.stack ⊎ (b ≡ true)))
      (λ b. decided_both (decide item.state a.state b)
      (decided_either (decided_advanced y item.stack) (decided_truth b true))))))

  -- ---- what is asked of the items behind the step, for one name

  abbrev Traced : ℕ → Type 0
  Traced y = (a : Item S) → IsMember a f.items → has y a.stack ≡ true → Predecessor leads l e y a

  abbrev Advanced : ℕ → Type 0
  Advanced y = (a : Item S) → IsMember a f.items → IsAdvanced y a.stack → Progress leads l e y a

  abbrev Gained : ℕ → Type 0
  Gained y = (a : Item S) → IsMember a f.items → has y a.stack ≡ true → Progress leads l e y a

  abbrev Reset : ℕ → Type 0
  Reset y = (a : Item S) → IsMember a f.items → IsAdvanced y a.stack → ⊥

  decided_traced : (y : ℕ) → Decided (Traced y)
  decided_traced y =
      decided_members (λ a. has y a.stack ≡ true → Predecessor leads l e y a) f.items
      (λ a h. decided_if (decided_test (has y a.stack)) (λ t. decided_predecessor y a))

  decided_gains : (y : ℕ) → Decided (Advanced y)
  decided_gains y =
      decided_members (λ a. IsAdvanced y a.stack → Progress leads l e y a) f.items
      (λ a h. decided_if (decided_advanced y a.stack) (λ t. decided_progress y a))

  decided_gained : (y : ℕ) → Decided (Gained y)
  decided_gained y =
      decided_members (λ a. has y a.stack ≡ true → Progress leads l e y a) f.items
      (λ a h. decided_if (decided_test (has y a.stack)) (λ t. decided_progress y a))

  decided_reset : (y : ℕ) → Decided (Reset y)
  decided_reset y =
      decided_members (λ a. IsAdvanced y a.stack → ⊥) f.items (λ a h. decided_not (decided_advanced y a.stack))

  -- ---- the condition, part by part

  abbrev InUse : Mark → Type 0
  InUse m = (bound e.live m ≤ e.live) × (bound e.live m ≤ f.live)

  abbrev Below : Mark → (ℕ → Type 0) → Type 0
  Below m P = (y : ℕ) → y < bound e.live m → P y

  abbrev OfGreen : Mark → (ℕ → Type 0) → Type 0
  OfGreen m P = (x : ℕ) → m ≡ Green x → P x

  abbrev GreenInUse : Mark → Type 0
  GreenInUse m = OfGreen m (λ x. (x < e.live) × (x < f.live))

  pub decided_names : (m : Mark) → Decided (NamesCondition leads l m e f)
  decided_names m =
      decided_same
      (λ (h : (InUse m × GreenInUse m) × ((Below m Traced × Below m Advanced) × (OfGreen m Gained × OfGreen m Reset))).
      record {
        in_use = h.0.0;
        green_in_use = h.0.1;
        traced = h.1.0.0;
        advanced = h.1.0.1;
        green_traced = h.1.1.0;
        green_reset = h.1.1.1;
      })
      (λ n. ((n.in_use, n.green_in_use), ((n.traced, n.advanced), (n.green_traced, n.green_reset))))
      (decided_both
      (decided_both
      (decided_both (decided_at_most (bound e.live m) e.live) (decided_at_most (bound e.live m) f.live))
      (if_green (λ x. (x < e.live) × (x < f.live))
      (λ x. decided_both (decided_less x e.live) (decided_less x f.live)) m))
      (decided_both
      (decided_both (decided_below Traced (bound e.live m) (λ y low. decided_traced y))
      (decided_below Advanced (bound e.live m) (λ y low. decided_gains y)))
      (decided_both (if_green Gained decided_gained m) (if_green Reset decided_reset m))))

-- ---- the transitions of a step

decided_leads : (odds : List ℕ) (k : ℕ) (p q : Option ℕ) (b : Bool) → Decided (automaton.Leads odds k p q b)
decided_leads odds k None None b = decided_truth b false
decided_leads odds k None (Some d) b = decided_both (decided_member decided_number d odds) (decided_truth b false)
decided_leads odds k (Some d) None b = inr (λ h. h)
decided_leads odds k (Some d) (Some e) b =
    decided_same (λ (h : ((e ≡ d) × IsMember d odds) × ((d ≤ k) × (b ≡ (d == k)))). (h.0.0, h.0.1, h.1.0, h.1.1))
    (λ h. ((h.0, h.1), (h.2, h.3)))
    (decided_both (decided_both (decided_number e d) (decided_member decided_number d odds))
    (decided_both (decided_at_most d k) (decided_truth b (d == k))))

module _ (g : Graph) (ok : IsGraph g) (step : GoStep) (low : Within g step.sequent) where
  -- a trace between the nodes of the states, of which the lowest priority is that of the node x
  abbrev between : AutomatonState → AutomatonState → ℕ → Triple
  between p q x = record { from = p.node; lowest = priority_at g x; to = q.node }

  abbrev Gives : AutomatonState → AutomatonState → Bool → ℕ → Type 0
  Gives p q b x =
      IsTrace g step.sequent step.spread step.diamond (between p q x)
      × (IsMember q.node step.next × automaton.Leads (odd_priorities g) (priority_at g x) p.odd q.odd b)

  pub decided_transition : (p q : AutomatonState) (b : Bool) → Decided (HasTransition g step p q b)
  decided_transition p q b =
      decided_same there back
      (some_below (Gives p q b) (size g)
      (λ x x_low. decided_both (decided_trace g step.spread ok step.sequent low step.diamond (between p q x))
      (decided_both (decided_member decided_number q.node step.next)
      (decided_leads (odd_priorities g) (priority_at g x) p.odd q.odd b))))
    where
      there : Found (Gives p q b) (size g) → HasTransition g step p q b
      there f = record {
        trace = between p q f.place;
        is_trace = f.holds.0;
        stays = f.holds.1.0;
        begins = refl;
        ends = refl;
        leads = f.holds.1.1;
      }

      from_place : (h : HasTransition g step p q b)
          → Found (λ x. priority_at g x ≡ h.trace.lowest) (size g)
          → Found (Gives p q b) (size g)
      from_place h f =
          let same : h.trace ≡ between p q f.place =
          λ i. record { from = sym h.begins i; lowest = sym f.holds i; to = sym h.ends i } in
          record {
            place = f.place;
            below = f.below;
            holds = (
              subst (IsTrace g step.sequent step.spread step.diamond) same h.is_trace,
              (
                subst (λ n. IsMember n step.next) (sym h.ends) h.stays,
                subst (λ k. automaton.Leads (odd_priorities g) k p.odd q.odd b) (sym f.holds) h.leads,
              ),
            );
          }

      back : HasTransition g step p q b → Found (Gives p q b) (size g)
      back h = from_place h
          (lowest_occurs g step.spread.choice ok h.trace.from h.trace.lowest h.is_trace.leaving
          (All-member (λ n. n < size g) step.sequent low h.trace.from h.is_trace.from) h.is_trace.walk)

-- ---- heights

module _ (rows : List (List ℕ)) (a : Arc) where
  abbrev Stays : ℕ → Type 0
  Stays p = (p % 2 ≡ 0) → height_of rows p a.to ≤ height_of rows p a.from

  abbrev Falls : Type 0
  Falls = (a.priority % 2 ≡ 0) → height_of rows a.priority a.to < height_of rows a.priority a.from

  pub decided_falls : Decided (FallsAlong rows a)
  decided_falls =
      decided_same
      (λ (h : ((p : ℕ) → p < a.priority + 1 → Stays p) × Falls).
      record { stays = λ p even fits. h.0 p (omega arith) even; falls = h.1 })
      (λ h. ((λ p fits even. h.stays p even (omega arith)), h.falls))
      (decided_both
      (decided_below Stays (a.priority + 1)
      (λ p fits. decided_if (decided_number (p % 2) 0)
      (λ even. decided_at_most (height_of rows p a.to) (height_of rows p a.from))))
      (decided_if (decided_number (a.priority % 2) 0)
      (λ even. decided_less (height_of rows a.priority a.to) (height_of rows a.priority a.from))))
