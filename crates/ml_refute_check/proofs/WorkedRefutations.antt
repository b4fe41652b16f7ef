-- Refutations that were worked out by hand: one that is accepted, and two false ones that are not.
--
-- The first is of `mu X. <>X`: node 0 is the binder with the priority 1, node 2 the diamond, node 4 the variable; odd
-- nodes are negations. The trace from the variable round to itself meets the priority 1, so the name 1 is green at each
-- step from the third entry on. The second claims the same of `nu X. <>X`, by a green name that stands in no item. The
-- third is of `ff | p`, with one bar, and takes the right side for a clash too.
--
--   least_loop, least_loop_refutation == the graph of the first, and its refutation
--   least_loop_accepted               == it is accepted
--   least_loop_holds_nowhere          == so its graph holds at no state of any structure
--   empty_name_refused                == the second one isn't
--   empty_name_first_bad              == its second entry's names in use break the rule on names, as the first bad part
--   no_clash_refused                  == the third one isn't
--   no_clash_first_bad                == its right side breaks the rule on clashes, as the first bad part
use Rattle.std.proofs.Common.{ℕ, zero, suc, ◌≡◌, ◌*◌, ◌<◌, ◌≤◌, ◌%◌, ◌/◌, ◌==◌, inl, inr, Bool, true, false, List, [], ◌∷◌, Option, Some, None, refl, sym, subst, arith, All, min, get_or}
use Rattle.std.specs.Prelude.{⊤}
use Rattle.std.proofs.lemmas.Bool.Decides.{nat_tests}
use Rattle.ml_lists.specs.Ascending.{IsAscending}
use Rattle.ml_lists.proofs.Ascending.{ascending-one, ascending-cons}
use Rattle.ml_base.specs.Structure.{Structure, IsStructure}
use Rattle.std.specs.List.{IsDistinct}
use Rattle.ml_lists.specs.Member.{IsMember}
use Rattle.ml_lists.specs.Documents.{KeepsAll}
use Rattle.ml_lists.proofs.Member.{member-All, Passing, list_any-member}
use Rattle.ml_parity.specs.Heights.{height_of}
use Rattle.ml_trace.specs.declared.letters.AutomatonState.{AutomatonState}
use Rattle.ml_trace.specs.declared.marks.Mark.{Mark}
use Rattle.ml_trace.specs.declared.marks.Mark.TheVariants.{Green, Neutral}
use Rattle.ml_trace.specs.Automaton.{Leads}
use Rattle.ml_trace.specs.NamesCondition.{NamesCondition, Predecessor, Progress}
use Rattle.ml_trace.specs.Stack as traced
use Rattle.ml_graph.specs.declared.node.Node.TheVariants as node
use Rattle.ml_graph.specs.Graph.{Graph, IsGraph, references, priority_at, odd_priorities, size}
use Rattle.ml_graph.specs.CheckingGame.{Holds}
use Rattle.ml_graph.proofs.References.{all_in_range}
use Rattle.ml_sequent.specs.declared.choice.Side.{Side}
use Rattle.ml_sequent.specs.declared.choice.Side.TheVariants.{Right, Left}
use Rattle.ml_sequent.specs.declared.clashes.ClashCause.TheVariants as cause
use Rattle.ml_sequent.specs.Choice.{with_side}
use Rattle.ml_sequent.specs.LocalWalk.{LocalWalk, stays, goes, InSpread, children}
use Rattle.ml_sequent.specs.Spread.{SpreadList, IsSpreadOf, IsCause}
use Rattle.ml_sequent.specs.Step.{LeadsOut, IsTarget, IsDiamondOf}
use Rattle.ml_sequent.proofs.LocalWalks.{stays_inside}
use Rattle.ml_refutation.specs.Refutation.{Refutation, Split, Clash, Go, Fits, IsStack, IsItem, IsTraced, IsMarkOf, IsEntry, IsRefutation}
use Rattle.ml_refutation.specs.GoStep.{GoStep, HasTransition}
use Rattle.ml_refutation.specs.Acceptance.{entry_at, Part, Sequent, Live, Decided, rules, IsAccepted, heights_of, HeightsFall, parts, OfSpread, IsFirstBad}
use Rattle.ml_trace.specs.NamesCondition.{EachNameStands}
use Rattle.ml_refute_check.proofs.EntryLoops.{accepted_holds_nowhere}

abbrev item : ℕ → Option ℕ → List ℕ → traced.Item AutomatonState
item n odd stack = record { state = record { node = n; odd = odd }; stack = stack }

-- ---- a property of each of a few things

abbrev Each : {X : Type 0} → (X → Type 0) → List X → Type 0
Each P [] = ⊤
Each P (x ∷ xs) = P x × Each P xs

each : {X : Type 0} → (P : X → Type 0) (xs : List X) → Each P xs → (x : X) → IsMember x xs → P x
each P [] all x none = absurd none
each P (y ∷ ys) all x (inl e) = subst P (sym e) all.0
each P (y ∷ ys) all x (inr later) = each P ys all.1 x later

-- a pair, for rows of several facts
infixr 2 ◌&◌
◌&◌ : {P Q : Type 0} → P → Q → P × Q
p & q = (p, q)

all_each : {X : Type 0} → (P : X → Type 0) (xs : List X) → Each P xs → All P xs
all_each P xs all = member-All P xs (each P xs all)

-- ---- spreads and steps

-- a closed list of nodes that has the first ones, and to each of which a walk leads, is their spread
spread_of : (g : Graph) (c : List (ℕ × Side)) (C ns : List ℕ)
    → IsAscending ns
    → Each (λ n. n < size g) ns
    → Each (InSpread g c C) ns
    → Each (λ n. Each (λ k. IsMember k ns) (children g c n)) ns
    → Each (λ k. IsMember k ns) C
    → IsSpreadOf g C c (record { nodes = ns; choice = c })
spread_of g c C ns ascends low there closed starts = record {
  choice = refl;
  ascends = ascends;
  low = each (λ n. n < size g) ns low;
  nodes = λ n. (each (InSpread g c C) ns there n, back n);
}
  where
    inside : (n next : ℕ) → IsMember n ns → IsMember next (children g c n) → IsMember next ns
    inside n next i child =
        let all : Each (λ k. IsMember k ns) (children g c n) =
        each (λ m. Each (λ k. IsMember k ns) (children g c m)) ns closed n i
        in
        each (λ k. IsMember k ns) (children g c n) all next child

    back : (n : ℕ) → InSpread g c C n → IsMember n ns
    back n s =
        stays_inside g c ns inside s.from s.lowest n s.walk (each (λ k. IsMember k ns) C starts s.from s.member)

not_green : (x : ℕ) → Neutral ≡ Green x → ⊥
not_green x e = cc

-- the names below a bound of an item behind a step lead back
abbrev IsTracedBack : ℕ → Graph → GoStep → traced.Entry AutomatonState → traced.Item AutomatonState → Type 0
IsTracedBack bound g step e a =
    (y : ℕ)
    → y < bound
    → (traced.has y a.stack ≡ true → Predecessor (HasTransition g) step e y a)
    × (traced.IsAdvanced y a.stack → Progress (HasTransition g) step e y a)

neutral_step : (g : Graph) (step : GoStep) (e f : traced.Entry AutomatonState)
    → e.live ≤ f.live
    → Each (IsTracedBack e.live g step e) f.items
    → NamesCondition (HasTransition g) step Neutral e f
neutral_step g step e f more back = record {
  in_use = (omega arith, omega arith);
  green_in_use = λ x is. absurd (not_green x is);
  traced = λ y low a i. (each (IsTracedBack e.live g step e) f.items back a i y low).0;
  advanced = λ y low a i. (each (IsTracedBack e.live g step e) f.items back a i y low).1;
  green_traced = λ x is a i named. absurd (not_green x is);
  green_reset = λ x is a i last. not_green x is;
}

-- the stack of the name 0 alone: it has no other name, and is not advanced in it
only_zero : (y : ℕ) → traced.has y (0 ∷ []) ≡ true → y ≡ 0
only_zero y h = from (list_any-member (λ x. x == y) (0 ∷ []) h)
  where
    by_member : (x : ℕ) → IsMember x (0 ∷ []) → (x == y) ≡ true → y ≡ 0
    by_member x (inl e) test = let same : x ≡ y = grind (arith, nat_tests) in omega arith
    by_member x (inr i) test = absurd i

    from : Passing (λ x. x == y) (0 ∷ []) → y ≡ 0
    from p = by_member p.item p.member p.passes

not_advanced : (y : ℕ) → traced.IsAdvanced y (0 ∷ []) → ⊥
not_advanced zero h = let wrong = h.1 in absurd (cc)
not_advanced (suc y) h = let wrong = h.0 in absurd (cc)

-- an item with this stack is traced back by the name 0, and so is one to which an accepting transition leads
by_zero : (g : Graph) (step : GoStep) (e : traced.Entry AutomatonState) (state : AutomatonState)
    → Predecessor (HasTransition g) step e 0 (record { state = state; stack = 0 ∷ [] })
    → IsTracedBack 1 g step e (record { state = state; stack = 0 ∷ [] })
by_zero g step e state p zero low = ((λ named. p), (λ last. absurd (not_advanced 0 last)))
by_zero g step e state p (suc y) low = absurd (omega arith)

by_accepting : (g : Graph) (step : GoStep) (e : traced.Entry AutomatonState) (a : traced.Item AutomatonState)
    → (p : Predecessor (HasTransition g) step e 0 a)
    → p.accepting ≡ true
    → IsTracedBack 1 g step e a
by_accepting g step e a p accepts zero low = ((λ named. p), (λ last. record { before = p; progress = inr accepts }))
by_accepting g step e a p accepts (suc y) low = absurd (omega arith)

-- where the name 0 alone is in use, one item shows that each name stands
zero_stands : (e : traced.Entry AutomatonState) (a : traced.Item AutomatonState)
    → e.live ≡ 1
    → IsMember a e.items
    → traced.has 0 a.stack ≡ true
    → EachNameStands e
zero_stands e a one i named zero low = (a, i, named)
zero_stands e a one i named (suc y) low = absurd (omega arith)

-- the heights of two entries, number by number
rows_fall : (r : Refutation) (e f top : ℕ)
    → top ≤ 4
    → height_of (heights_of r) 0 f ≤ height_of (heights_of r) 0 e
    → height_of (heights_of r) 2 f ≤ height_of (heights_of r) 2 e
    → height_of (heights_of r) 4 f ≤ height_of (heights_of r) 4 e
    → (p : ℕ)
    → p % 2 ≡ 0
    → p ≤ top
    → height_of (heights_of r) p f ≤ height_of (heights_of r) p e
rows_fall r e f top top_low at_zero at_two at_four p even low =
    let half : p ≡ 2 * (p / 2) = omega arith in
    subst (λ k. height_of (heights_of r) k f ≤ height_of (heights_of r) k e) (sym half) (falls (p / 2) (omega arith))
  where
    falls : (k : ℕ) → k ≤ 2 → height_of (heights_of r) (2 * k) f ≤ height_of (heights_of r) (2 * k) e
    falls zero low = at_zero
    falls (suc zero) low = at_two
    falls (suc (suc zero)) low = at_four
    falls (suc (suc (suc k))) low = absurd (omega arith)

abbrev goes_to : ℕ → Mark → Part
goes_to f m = Decided (record { choice = []; decision = Go 2 f m })

-- a `go` keeps its four rules, of one spread
goes_on : (r : Refutation) (g : Graph) (e f : ℕ) (m : Mark) (sp : SpreadList)
    → IsSpreadOf g (entry_at r e).sequent [] sp
    → IsDiamondOf g sp 2
    → All (IsTarget g sp 2) (entry_at r f).sequent
    → NamesCondition (HasTransition g)
    (record { sequent = (entry_at r e).sequent; spread = sp; diamond = 2; next = (entry_at r f).sequent }) m
    (entry_at r e).traces (entry_at r f).traces
    → HeightsFall r e f m
    → KeepsAll (rules r e (goes_to f m)) g
goes_on r g e f m sp is_spread diamond targets names falls = (
  record { spread = sp; is_spread = is_spread; holds = diamond },
  (
    record { spread = sp; is_spread = is_spread; holds = targets },
    (record { spread = sp; is_spread = is_spread; holds = names }, (falls, tt)),
  ),
)

-- an entry behind the first one, with nodes of the graph
later_sequent : (r : Refutation) (g : Graph) (e : ℕ)
    → 0 < e
    → All (λ n. n < size g) (entry_at r e).sequent
    → KeepsAll (rules r e Sequent) g
later_sequent r g e late low = (record { in_graph = low; starts = λ is. absurd (omega arith) }, tt)

-- ---- mu X. <>X

-- the nodes of `mu X. <>X` and of `nu X. <>X`, with these priorities
abbrev pub loop_graph : List ℕ → Graph
loop_graph ps = record {
  nodes = node.And 2 2 ∷ node.And 3 3 ∷ node.Diamond 0 4 ∷ node.Square 0 5 ∷ node.And 0 0 ∷ node.And 1 1 ∷ [];
  priorities = ps;
  root = 0;
  props = [];
  actions = (95 ∷ []) ∷ [];
}

abbrev pub least_loop : Graph
least_loop = loop_graph (1 ∷ 0 ∷ 2 ∷ 2 ∷ 2 ∷ 2 ∷ [])

abbrev pub greatest_loop : Graph
greatest_loop = loop_graph (0 ∷ 1 ∷ 2 ∷ 2 ∷ 2 ∷ 2 ∷ [])

abbrev traces_first : traced.Entry AutomatonState
traces_first = record { live = 1; items = item 0 None (0 ∷ []) ∷ [] }

abbrev traces_second : traced.Entry AutomatonState
traces_second = record { live = 1; items = item 4 None (0 ∷ []) ∷ item 4 (Some 1) (0 ∷ []) ∷ [] }

abbrev traces_third : traced.Entry AutomatonState
traces_third = record { live = 2; items = item 4 None (0 ∷ []) ∷ item 4 (Some 1) (0 ∷ 1 ∷ []) ∷ [] }

abbrev pub least_loop_refutation : Refutation
least_loop_refutation = record {
  names = 2;
  entries =
      record { sequent = 0 ∷ []; traces = traces_first; heights = 0 ∷ 0 ∷ 2 ∷ []; decision = Go 2 1 Neutral }
      ∷ record { sequent = 4 ∷ []; traces = traces_second; heights = 0 ∷ 0 ∷ 1 ∷ []; decision = Go 2 2 Neutral }
      ∷ record { sequent = 4 ∷ []; traces = traces_third; heights = 0 ∷ 0 ∷ 0 ∷ []; decision = Go 2 3 (Green 1) }
      ∷ record { sequent = 4 ∷ []; traces = traces_third; heights = 0 ∷ 0 ∷ 0 ∷ []; decision = Go 2 3 (Green 1) }
      ∷ [];
}

-- the spreads of the binder and of the variable
abbrev binder_spread : SpreadList
binder_spread = record { nodes = 0 ∷ 2 ∷ []; choice = [] }

abbrev variable_spread : SpreadList
variable_spread = record { nodes = 0 ∷ 2 ∷ 4 ∷ []; choice = [] }

binder_walk : LocalWalk least_loop [] 0 1 2
binder_walk = goes 0 2 (inl refl) (stays 2)

variable_walk : LocalWalk least_loop [] 4 1 2
variable_walk = goes 4 0 (inl refl) binder_walk

is_binder_spread : (ps : List ℕ) → IsSpreadOf (loop_graph ps) (0 ∷ []) [] binder_spread
is_binder_spread ps =
    spread_of (loop_graph ps) [] (0 ∷ []) (0 ∷ 2 ∷ []) (ascending-cons 0 2 [] (omega arith) (ascending-one 2))
    (omega arith, (omega arith, tt)) (
      record { from = 0; member = inl refl; lowest = priority_at (loop_graph ps) 0; walk = stays 0 },
      (
        record {
          from = 0;
          member = inl refl;
          lowest = min (priority_at (loop_graph ps) 0) (priority_at (loop_graph ps) 2);
          walk = goes 0 2 (inl refl) (stays 2);
        },
        tt,
      ),
    )
    ((inr (inl refl), (inr (inl refl), tt)), (tt, tt)) (inl refl, tt)

is_variable_spread : IsSpreadOf least_loop (4 ∷ []) [] variable_spread
is_variable_spread =
    spread_of least_loop [] (4 ∷ []) (0 ∷ 2 ∷ 4 ∷ [])
    (ascending-cons 0 2 (4 ∷ []) (omega arith) (ascending-cons 2 4 [] (omega arith) (ascending-one 4)))
    (omega arith, (omega arith, (omega arith, tt))) (
      record { from = 4; member = inl refl; lowest = 1; walk = goes 4 0 (inl refl) (stays 0) },
      (
        record { from = 4; member = inl refl; lowest = 1; walk = variable_walk },
        (record { from = 4; member = inl refl; lowest = 2; walk = stays 4 }, tt),
      ),
    )
    ((inr (inl refl), (inr (inl refl), tt)), (tt, ((inl refl, (inl refl, tt)), tt))) (inr (inr (inl refl)), tt)

-- the diamond leads to the variable
diamond_leads : (ps : List ℕ) (sp : SpreadList) → LeadsOut (loop_graph ps) sp 2 2 4
diamond_leads ps sp = record { action = 0; child = 4; is_diamond = refl; leaves = inl (refl, refl) }

-- along the diamond the variable is reached
targets : (ps : List ℕ) (sp : SpreadList) → All (IsTarget (loop_graph ps) sp 2) (4 ∷ [])
targets ps sp =
    all_each (IsTarget (loop_graph ps) sp 2) (4 ∷ []) (record { leaving = 2; leads = diamond_leads ps sp }, tt)

abbrev binder_step : GoStep
binder_step = record { sequent = 0 ∷ []; spread = binder_spread; diamond = 2; next = 4 ∷ [] }

abbrev variable_step : GoStep
variable_step = record { sequent = 4 ∷ []; spread = variable_spread; diamond = 2; next = 4 ∷ [] }

-- a transition along the diamond, for a walk to it
transition : (ps : List ℕ) (n lowest : ℕ) (sp : SpreadList) (before behind : Option ℕ) (accepting : Bool)
    → LocalWalk (loop_graph ps) sp.choice n lowest 2
    → Leads (odd_priorities (loop_graph ps)) lowest before behind accepting
    → HasTransition (loop_graph ps) (record { sequent = n ∷ []; spread = sp; diamond = 2; next = 4 ∷ [] })
    (record { node = n; odd = before }) (record { node = 4; odd = behind }) accepting
transition ps n lowest sp before behind accepting walk leads = record {
  trace = record { from = n; lowest = lowest; to = 4 };
  is_trace = record { from = inl refl; leaving = 2; walk = walk; leads = diamond_leads ps sp };
  stays = inl refl;
  begins = refl;
  ends = refl;
  leads = leads;
}

-- behind the first step no guess is made yet, or one is made
binder_back : (ps : List ℕ) (lowest : ℕ) (odd : Option ℕ)
    → LocalWalk (loop_graph ps) [] 0 lowest 2
    → Leads (odd_priorities (loop_graph ps)) lowest None odd false
    → IsTracedBack 1 (loop_graph ps) binder_step traces_first (item 4 odd (0 ∷ []))
binder_back ps lowest odd walk leads =
    by_zero (loop_graph ps) binder_step traces_first (record { node = 4; odd = odd })
    (record {
      item = item 0 None (0 ∷ []);
      accepting = false;
      member = inl refl;
      named = refl;
      transition = transition ps 0 lowest binder_spread None odd false walk leads;
    })

first_step : NamesCondition (HasTransition least_loop) binder_step Neutral traces_first traces_second
first_step =
    neutral_step least_loop binder_step traces_first traces_second (omega arith)
    (binder_back least_loop.priorities 1 None binder_walk refl
    & binder_back least_loop.priorities 1 (Some 1) binder_walk (inl refl, refl)
    & tt)

-- the item without a guess is traced back to itself, and the one with it to the one with it, accepting
without_guess : (e : traced.Entry AutomatonState)
    → IsMember (item 4 None (0 ∷ [])) e.items
    → IsTracedBack 1 least_loop variable_step e (item 4 None (0 ∷ []))
without_guess e i =
    by_zero least_loop variable_step e (record { node = 4; odd = None })
    (record {
      item = item 4 None (0 ∷ []);
      accepting = false;
      member = i;
      named = refl;
      transition = transition least_loop.priorities 4 1 variable_spread None None false variable_walk refl;
    })

abbrev with_guess : (e : traced.Entry AutomatonState) (stack : List ℕ) (y : ℕ)
    → IsMember (item 4 (Some 1) stack) e.items
    → traced.has y stack ≡ true
    → Predecessor (HasTransition least_loop) variable_step e y (item 4 (Some 1) (0 ∷ 1 ∷ []))
with_guess e stack y i named = record {
  item = item 4 (Some 1) stack;
  accepting = true;
  member = i;
  named = named;
  transition =
      transition least_loop.priorities 4 1 variable_spread (Some 1) (Some 1) true variable_walk
      (refl, inl refl, omega arith, refl);
}

with_guess_back : (e : traced.Entry AutomatonState) (stack : List ℕ)
    → IsMember (item 4 (Some 1) stack) e.items
    → traced.has 0 stack ≡ true
    → IsTracedBack 1 least_loop variable_step e (item 4 (Some 1) (0 ∷ 1 ∷ []))
with_guess_back e stack i named =
    by_accepting least_loop variable_step e (item 4 (Some 1) (0 ∷ 1 ∷ [])) (with_guess e stack 0 i named) refl

second_step : NamesCondition (HasTransition least_loop) variable_step Neutral traces_second traces_third
second_step =
    neutral_step least_loop variable_step traces_second traces_third (omega arith)
    (without_guess traces_second (inl refl), (with_guess_back traces_second (0 ∷ []) (inr (inl refl)) refl, tt))

green_step : NamesCondition (HasTransition least_loop) variable_step (Green 1) traces_third traces_third
green_step = record {
  in_use = (omega arith, omega arith);
  green_in_use = λ x e. let is : 1 ≡ x = green_name x e in (omega arith, omega arith);
  traced = λ y low a i. (back a i y low).0;
  advanced = λ y low a i. (back a i y low).1;
  green_traced = λ x e.
      subst
      (λ y. (a : traced.Item AutomatonState)
      → IsMember a traces_third.items
      → traced.has y a.stack ≡ true
      → Progress (HasTransition least_loop) variable_step traces_third y a)
      (green_name x e) green_back;
  green_reset = λ x e.
      subst
      (λ y. (a : traced.Item AutomatonState) → IsMember a traces_third.items → traced.IsAdvanced y a.stack → ⊥)
      (green_name x e) reset;
}
  where
    green_name : (x : ℕ) → Green 1 ≡ Green x → 1 ≡ x
    green_name x e = cc

    back : (a : traced.Item AutomatonState)
        → IsMember a traces_third.items
        → IsTracedBack 1 least_loop variable_step traces_third a
    back =
        each (IsTracedBack 1 least_loop variable_step traces_third) traces_third.items (
          without_guess traces_third (inl refl),
          (with_guess_back traces_third (0 ∷ 1 ∷ []) (inr (inl refl)) refl, tt),
        )

    green_back : (a : traced.Item AutomatonState)
        → IsMember a traces_third.items
        → traced.has 1 a.stack ≡ true
        → Progress (HasTransition least_loop) variable_step traces_third 1 a
    green_back =
        each
        (λ a. traced.has 1 a.stack ≡ true → Progress (HasTransition least_loop) variable_step traces_third 1 a)
        traces_third.items (
          (λ named. let wrong : 1 ≡ 0 = only_zero 1 named in absurd (omega (arith, wrong))),
          (
            (λ named. record {
              before = with_guess traces_third (0 ∷ 1 ∷ []) 1 (inr (inl refl)) refl;
              progress = inr refl;
            }),
            tt,
          ),
        )

    reset : (a : traced.Item AutomatonState) → IsMember a traces_third.items → traced.IsAdvanced 1 a.stack → ⊥
    reset =
        each (λ a. traced.IsAdvanced 1 a.stack → ⊥) traces_third.items
        (not_advanced 1, ((λ last. let wrong : true ≡ false = last.1 in absurd (cc)), tt))

falls_first : HeightsFall least_loop_refutation 0 1 Neutral
falls_first = record {
  stays = rows_fall least_loop_refutation 0 1 4 (omega arith) (omega arith) (omega arith) (omega arith);
  falls = λ even. omega arith;
}

falls_second : HeightsFall least_loop_refutation 1 2 Neutral
falls_second = record {
  stays = rows_fall least_loop_refutation 1 2 4 (omega arith) (omega arith) (omega arith) (omega arith);
  falls = λ even. omega arith;
}

falls_green : HeightsFall least_loop_refutation 2 3 (Green 1)
falls_green = record {
  stays = rows_fall least_loop_refutation 2 3 3 (omega arith) (omega arith) (omega arith) (omega arith);
  falls = λ even. absurd (omega arith);
}

falls_again : HeightsFall least_loop_refutation 3 3 (Green 1)
falls_again = record { stays = λ p even low. omega arith; falls = λ even. absurd (omega arith) }

-- each name stands
third_names : EachNameStands traces_third
third_names zero low = (item 4 None (0 ∷ []), inl refl, refl)
third_names (suc zero) low = (item 4 (Some 1) (0 ∷ 1 ∷ []), inr (inl refl), refl)
third_names (suc (suc y)) low = absurd (omega arith)

-- each part keeps its rules
abbrev AllKeep : ℕ → Type 0
AllKeep e =
    Each (λ part. KeepsAll (rules least_loop_refutation e part) least_loop) (parts (entry_at least_loop_refutation e))

four_fits : All (λ n. n < 6) (4 ∷ [])
four_fits = all_each (λ n. n < 6) (4 ∷ []) (omega arith, tt)

first_keep : AllKeep 0
first_keep =
    (record { in_graph = all_each (λ n. n < 6) (0 ∷ []) (omega arith, tt); starts = λ e. refl }, tt)
    & (zero_stands traces_first (item 0 None (0 ∷ [])) refl (inl refl) refl, tt)
    & (record { member = inl refl; occurs = tt }, tt)
    & goes_on least_loop_refutation least_loop 0 1 Neutral binder_spread (is_binder_spread least_loop.priorities)
    (record { member = inr (inl refl); holds = refl }) (targets least_loop.priorities binder_spread)
    first_step falls_first
    & tt

second_keep : AllKeep 1
second_keep =
    later_sequent least_loop_refutation least_loop 1 (omega arith) four_fits
    & (zero_stands traces_second (item 4 None (0 ∷ [])) refl (inl refl) refl, tt)
    & (record { member = inl refl; occurs = tt }, tt)
    & (record { member = inl refl; occurs = inl refl }, tt)
    & goes_on least_loop_refutation least_loop 1 2 Neutral variable_spread is_variable_spread
    (record { member = inr (inl refl); holds = refl }) (targets least_loop.priorities variable_spread)
    second_step falls_second
    & tt

third_keep : AllKeep 2
third_keep =
    later_sequent least_loop_refutation least_loop 2 (omega arith) four_fits
    & (third_names, tt)
    & (record { member = inl refl; occurs = tt }, tt)
    & (record { member = inl refl; occurs = inl refl }, tt)
    & goes_on least_loop_refutation least_loop 2 3 (Green 1) variable_spread is_variable_spread
    (record { member = inr (inl refl); holds = refl }) (targets least_loop.priorities variable_spread)
    green_step falls_green
    & tt

fourth_keep : AllKeep 3
fourth_keep =
    later_sequent least_loop_refutation least_loop 3 (omega arith) four_fits
    & (third_names, tt)
    & (record { member = inl refl; occurs = tt }, tt)
    & (record { member = inl refl; occurs = inl refl }, tt)
    & goes_on least_loop_refutation least_loop 3 3 (Green 1) variable_spread is_variable_spread
    (record { member = inr (inl refl); holds = refl }) (targets least_loop.priorities variable_spread)
    green_step falls_again
    & tt

pub least_loop_accepted : IsAccepted least_loop least_loop_refutation
least_loop_accepted e part low =
    each (λ x. KeepsAll (rules least_loop_refutation e x) least_loop) (parts (entry_at least_loop_refutation e))
    (all e low) part
  where
    all : (e : ℕ) → e < 4 → AllKeep e
    all zero low = first_keep
    all (suc zero) low = second_keep
    all (suc (suc zero)) low = third_keep
    all (suc (suc (suc zero))) low = fourth_keep
    all (suc (suc (suc (suc e)))) low = absurd (omega arith)

-- ---- the theorem, used

-- the graph is one
least_loop_is_graph : IsGraph least_loop
unfolding IsDistinct
least_loop_is_graph = record {
  priorities = refl;
  in_range = all_in_range (references least_loop) refl;
  props_differ = tt;
  actions_differ = (tt, tt);
}

-- and the refutation is one
stack_of_zero : (live : ℕ) → 0 < live → IsStack live (0 ∷ [])
stack_of_zero live low = record {
  some = omega arith;
  ascends = ascending-one 0;
  below = all_each (λ x. x < live) (0 ∷ []) (low, tt);
}

stack_of_two : IsStack 2 (0 ∷ 1 ∷ [])
stack_of_two = record {
  some = omega arith;
  ascends = ascending-cons 0 1 [] (omega arith) (ascending-one 1);
  below = all_each (λ x. x < 2) (0 ∷ 1 ∷ []) (omega arith, (omega arith, tt));
}

traced_first : IsTraced 2 traces_first
traced_first = record {
  within = omega arith;
  ascend = (tt, tt);
  are_items = all_each (IsItem 1) traces_first.items
      (record { node_fits = omega arith; guess_fits = tt; is_stack = stack_of_zero 1 (omega arith) }, tt);
}

traced_second : IsTraced 2 traces_second
traced_second = record {
  within = omega arith;
  ascend = (tt, (refl, tt));
  are_items = all_each (IsItem 1) traces_second.items (
      record { node_fits = omega arith; guess_fits = tt; is_stack = stack_of_zero 1 (omega arith) }
      & record { node_fits = omega arith; guess_fits = omega arith; is_stack = stack_of_zero 1 (omega arith) }
      & tt);
}

traced_third : IsTraced 2 traces_third
traced_third = record {
  within = omega arith;
  ascend = (tt, (refl, tt));
  are_items = all_each (IsItem 2) traces_third.items (
      record { node_fits = omega arith; guess_fits = tt; is_stack = stack_of_zero 2 (omega arith) }
      & record { node_fits = omega arith; guess_fits = omega arith; is_stack = stack_of_two }
      & tt);
}

is_entry : (n : ℕ) (traces : traced.Entry AutomatonState) (last f : ℕ) (k : Mark)
    → n < 6
    → IsTraced 2 traces
    → last < 6
    → f < 4
    → IsMarkOf 2 k
    → IsEntry 2 4 (record { sequent = n ∷ []; traces = traces; heights = 0 ∷ 0 ∷ last ∷ []; decision = Go 2 f k })
is_entry n traces last f k low is_traced small f_low in_use = record {
  nodes_fit = all_each Fits (n ∷ []) (omega arith, tt);
  ascends = ascending-one n;
  is_traced = is_traced;
  heights_fit = all_each Fits (0 ∷ 0 ∷ last ∷ []) (omega arith, (omega arith, (omega arith, tt)));
  a_height_each = refl;
  is_decided = (omega arith, f_low, in_use);
  nested = omega arith;
}

least_loop_is_refutation : IsRefutation least_loop_refutation
least_loop_is_refutation = record {
  names_fit = omega arith;
  has_start = omega arith;
  entries_fit = omega arith;
  are_entries = all_each (IsEntry 2 4) least_loop_refutation.entries (
      is_entry 0 traces_first 2 1 Neutral (omega arith) traced_first (omega arith) (omega arith) tt
      & is_entry 4 traces_second 1 2 Neutral (omega arith) traced_second (omega arith) (omega arith) tt
      & is_entry 4 traces_third 0 3 (Green 1) (omega arith) traced_third (omega arith) (omega arith) (omega arith)
      & is_entry 4 traces_third 0 3 (Green 1) (omega arith) traced_third (omega arith) (omega arith) (omega arith)
      & tt);
}

-- so the graph of `mu X. <>X` holds nowhere
pub least_loop_holds_nowhere : (m : Structure) → IsStructure m → (s : ℕ) → s < m.states → Holds least_loop m s → ⊥
least_loop_holds_nowhere =
    accepted_holds_nowhere least_loop least_loop_refutation least_loop_is_graph least_loop_is_refutation
    least_loop_accepted

-- ---- a green name that stands in no item

abbrev traces_empty : traced.Entry AutomatonState
traces_empty = record { live = 2; items = item 4 None (0 ∷ []) ∷ [] }

abbrev pub empty_name_refutation : Refutation
empty_name_refutation = record {
  names = 2;
  entries =
      record { sequent = 0 ∷ []; traces = traces_first; heights = 0 ∷ 0 ∷ 1 ∷ []; decision = Go 2 1 Neutral }
      ∷ record { sequent = 4 ∷ []; traces = traces_empty; heights = 0 ∷ 0 ∷ 0 ∷ []; decision = Go 2 1 (Green 1) }
      ∷ [];
}

-- the name 1 of the second entry stands in no item
no_item : (a : traced.Item AutomatonState) → IsMember a traces_empty.items → traced.has 1 a.stack ≡ true → ⊥
no_item a (inl e) named =
    let wrong : 1 ≡ 0 = only_zero 1 (subst (λ (b : traced.Item AutomatonState). traced.has 1 b.stack ≡ true) e named) in
    omega (arith, wrong)
no_item a (inr h) named = h

empty_name : EachNameStands traces_empty → ⊥
empty_name stands = let found = stands 1 (omega arith) in no_item found.0 found.1 found.2

pub empty_name_refused : IsAccepted greatest_loop empty_name_refutation → ⊥
empty_name_refused accepted = empty_name (accepted 1 Live (omega arith) (inr (inl refl))).0

-- and this is the first rule that is broken
unguessed_step : NamesCondition (HasTransition greatest_loop) binder_step Neutral traces_first traces_empty
unguessed_step =
    neutral_step greatest_loop binder_step traces_first traces_empty (omega arith)
    (binder_back greatest_loop.priorities 0 None (goes 0 2 (inl refl) (stays 2)) refl, tt)

falls_to_empty : HeightsFall empty_name_refutation 0 1 Neutral
falls_to_empty = record {
  stays = rows_fall empty_name_refutation 0 1 4 (omega arith) (omega arith) (omega arith) (omega arith);
  falls = λ even. omega arith;
}

pub empty_name_first_bad : IsFirstBad greatest_loop empty_name_refutation 1 1 3
empty_name_first_bad = record {
  is_entry = omega arith;
  is_part = omega arith;
  entries_before = earlier;
  parts_before = before;
  broken = inl (refl, empty_name);
}
  where
    earlier : (d : ℕ) (part : Part)
        → d < 1
        → IsMember part (parts (entry_at empty_name_refutation d))
        → KeepsAll (rules empty_name_refutation d part) greatest_loop
    earlier zero part low =
        each (λ x. KeepsAll (rules empty_name_refutation 0 x) greatest_loop) (parts (entry_at empty_name_refutation 0))
        (
        (record { in_graph = all_each (λ n. n < 6) (0 ∷ []) (omega arith, tt); starts = λ e. refl }, tt)
        & (zero_stands traces_first (item 0 None (0 ∷ [])) refl (inl refl) refl, tt)
        & (record { member = inl refl; occurs = tt }, tt)
        & goes_on empty_name_refutation greatest_loop 0 1 Neutral binder_spread (is_binder_spread greatest_loop.priorities)
        (record { member = inr (inl refl); holds = refl }) (targets greatest_loop.priorities binder_spread)
        unguessed_step falls_to_empty
        & tt)
        part
    earlier (suc d) part low = absurd (omega arith)

    before : (j : ℕ)
        → j < 1
        → KeepsAll (rules empty_name_refutation 1
        (get_or (parts (entry_at empty_name_refutation 1)) j Sequent)) greatest_loop
    before zero low = later_sequent empty_name_refutation greatest_loop 1 (omega arith) four_fits
    before (suc j) low = absurd (omega arith)

-- ---- a right side that is no clash

abbrev pub one_false_side : Graph
one_false_side = record {
  nodes = node.Or 2 4 ∷ node.And 3 5 ∷ node.False ∷ node.True ∷ node.Lit 0 true ∷ node.Lit 0 false ∷ [];
  priorities = 0 ∷ 0 ∷ 0 ∷ 0 ∷ 0 ∷ 0 ∷ [];
  root = 0;
  props = (112 ∷ []) ∷ [];
  actions = [];
}

abbrev pub no_clash_refutation : Refutation
no_clash_refutation = record {
  names = 1;
  entries =
      record {
        sequent = 0 ∷ [];
        traces = traces_first;
        heights = 0 ∷ 0 ∷ [];
        decision = Split 0 (Clash (cause.False 2)) (Clash (cause.False 4));
      }
      ∷ [];
}

pub no_clash_refused : IsAccepted one_false_side no_clash_refutation → ⊥
no_clash_refused accepted =
    let clash = (accepted 0 (Decided (record { choice = with_side [] 0 Right; decision = Clash (cause.False 4) }))
    (omega arith) (inr (inr (inr (inr (inr (inl refl))))))).0 in
    let wrong : node.Lit 0 true ≡ node.False = clash.holds.1 in
    absurd (cc)

-- and the right side is the first part that breaks a rule: the sixth part, which is no clash of its spread
or_spread : IsSpreadOf one_false_side (0 ∷ []) [] (record { nodes = 0 ∷ []; choice = [] })
or_spread =
    spread_of one_false_side [] (0 ∷ []) (0 ∷ []) (ascending-one 0) (omega arith, tt)
    (record { from = 0; member = inl refl; lowest = priority_at one_false_side 0; walk = stays 0 }, tt) (tt, tt)
    (inl refl, tt)

left_spread : IsSpreadOf one_false_side (0 ∷ []) ((0, Left) ∷ [])
    (record { nodes = 0 ∷ 2 ∷ []; choice = (0, Left) ∷ [] })
left_spread =
    spread_of one_false_side ((0, Left) ∷ []) (0 ∷ []) (0 ∷ 2 ∷ [])
    (ascending-cons 0 2 [] (omega arith) (ascending-one 2)) (omega arith, (omega arith, tt)) (
      record { from = 0; member = inl refl; lowest = priority_at one_false_side 0; walk = stays 0 },
      (record { from = 0; member = inl refl; lowest = 0; walk = goes 0 2 (inl refl) (stays 2) }, tt),
    )
    ((inr (inl refl), tt), (tt, tt)) (inl refl, tt)

pub no_clash_first_bad : IsFirstBad one_false_side no_clash_refutation 0 5 6
no_clash_first_bad = record {
  is_entry = omega arith;
  is_part = omega arith;
  entries_before = λ d part low h. absurd (omega arith);
  parts_before = before;
  broken = inl (
    refl,
    λ (clash : OfSpread one_false_side (0 ∷ []) (with_side [] 0 Right)
        (λ sp. IsCause one_false_side sp (cause.False 4))). no_false clash.holds.1,
  );
}
  where
    no_false : node.Lit 0 true ≡ node.False → ⊥
    no_false e = absurd (cc)

    before : (j : ℕ)
        → j < 5
        → KeepsAll (rules no_clash_refutation 0 (get_or
        (parts (entry_at no_clash_refutation 0)) j Sequent)) one_false_side
    before zero low = (record { in_graph = all_each (λ n. n < 6) (0 ∷ []) (omega arith, tt); starts = λ e. refl }, tt)
    before (suc zero) low = (zero_stands traces_first (item 0 None (0 ∷ [])) refl (inl refl) refl, tt)
    before (suc (suc zero)) low = (record { member = inl refl; occurs = tt }, tt)
    before (suc (suc (suc zero))) low = (
      record {
        spread = record { nodes = 0 ∷ []; choice = [] };
        is_spread = or_spread;
        holds = record { member = inl refl; is_open = record { left = 2; right = 4; is_or = refl; unchosen = refl } };
      },
      tt,
    )
    before (suc (suc (suc (suc zero)))) low = (
      record {
        spread = record { nodes = 0 ∷ 2 ∷ []; choice = (0, Left) ∷ [] };
        is_spread = left_spread;
        holds = (inr (inl refl), refl);
      },
      tt,
    )
    before (suc (suc (suc (suc (suc j))))) low = absurd (omega arith)
