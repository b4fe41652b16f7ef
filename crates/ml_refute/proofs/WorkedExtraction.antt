-- A refutation that is extracted, worked out by hand: that of `mu X. <>X`, as a graph of one node.
--
-- The node is a diamond of the priority 1 that leads back to itself. Odd's moves go round it for ever: at the second
-- position the guess 1 has a stack, at the third it has a name of its own, and from the fourth on this name is green at
-- each step. So there are four positions, an entry for each, and the heights count the steps before the first green one.
--
--   loop, arena, solution == the graph, its positions with Odd's choices
--   refutation            == the refutation
--   is_extracted          == it is the one that the solution makes
use Rattle.std.proofs.Common.{ℕ, zero, suc, ◌≡◌, ◌<◌, ◌≤◌, ◌%◌, ◌==◌, ◌⊎◌, inl, inr, Bool, true, false, List, [], ◌∷◌, Option}
use Rattle.std.proofs.Common.{Some, None, length, get_or, slice_get, Contains, refl, sym, ap, ◌∙◌, subst, arith}
use Rattle.ml_lists.specs.Member.{IsMember}
use Rattle.ml_lists.proofs.Ascending.{ascending-one}
use Rattle.ml_lists.proofs.Member.{member-All}
use Rattle.ml_lists.proofs.Members.{contains_of_member}
use Rattle.ml_graph.specs.declared.node.Node.TheVariants as node
use Rattle.ml_graph.specs.Graph.{Graph, node_at, priority_at, odd_priorities}
use Rattle.ml_history.specs.HistoryStep.{stepped, step_mark}
use Rattle.ml_parity.specs.declared.one_sided.graph.Arc.{Arc}
use Rattle.ml_parity.specs.declared.players.Player.TheVariants.{Even, Odd}
use Rattle.ml_parity.specs.Heights.{height_of}
use Rattle.ml_parity.specs.OneSided.{IsMost, Attained, AreLongest}
use Rattle.ml_parity.specs.Solution.{GameSolution}
use Rattle.ml_parity.specs.private.HeightSteps.{SettledAlong, Settled}
use Rattle.ml_parity.proofs.HeightWalks.{walk_keeps, counts-none}
use Rattle.ml_product.specs.Arena.{Arena}
use Rattle.ml_product.specs.DecisionGame.{IsResolved, AreDifferent}
use Rattle.ml_product.specs.Position.{Position, Follows}
use Rattle.ml_refutation.specs.Acceptance.{entry_at, heights_of}
use Rattle.ml_refutation.specs.Refutation.{Refutation, Entry, Go}
use Rattle.ml_sequent.specs.declared.choice.Side.{Side}
use Rattle.ml_sequent.specs.declared.clashes.ClashCause.{ClashCause}
use Rattle.ml_sequent.specs.declared.clashes.ClashCause.TheVariants as cause
use Rattle.ml_sequent.specs.LocalWalk.{LocalWalk, stays, goes, children}
use Rattle.ml_sequent.specs.Spread.{SpreadList, IsSpreadOf, IsCause, IsOpenOr}
use Rattle.ml_sequent.specs.Step.{LeadsOut, IsTarget, IsTrace, IsStep}
use Rattle.ml_trace.specs.declared.letters.AutomatonState.{AutomatonState}
use Rattle.ml_trace.specs.declared.letters.Transition.{Transition}
use Rattle.ml_trace.specs.declared.letters.Triple.{Triple}
use Rattle.ml_trace.specs.declared.marks.Mark.{Mark}
use Rattle.ml_trace.specs.declared.marks.Mark.TheVariants.{Green, Neutral}
use Rattle.ml_trace.specs.Automaton.{number, Leads, Gives, IsLetterOf}
use Rattle.ml_trace.specs.Marks.{priority}
use Rattle.ml_trace.specs.MarkOrder.{FitsBelow}
use Rattle.ml_trace.specs.Stack as traced
use Rattle.ml_refute.specs.Extracted.{IsDecisionAt, IsEntryAt, IsOutlineOf, go_graph, IsRefutationOf}

-- ---- the graph, its positions, the refutation

abbrev pub loop : Graph
loop = record { nodes = node.Diamond 0 0 ∷ []; priorities = 1 ∷ []; root = 0; props = []; actions = (95 ∷ []) ∷ [] }

abbrev numbered : ℕ → List ℕ → traced.Item ℕ
numbered q names = record { state = q; stack = names }

abbrev first_history : List (traced.Item ℕ)
first_history = numbered 0 (0 ∷ []) ∷ []

abbrev second_history : List (traced.Item ℕ)
second_history = numbered 0 (0 ∷ []) ∷ numbered 1 (0 ∷ []) ∷ []

abbrev third_history : List (traced.Item ℕ)
third_history = numbered 0 (0 ∷ []) ∷ numbered 1 (0 ∷ 1 ∷ []) ∷ []

abbrev position : List (traced.Item ℕ) → ℕ → Position
position h n = record { sequent = 0 ∷ []; history = h; priority = n; choice = [] }

abbrev all : List Position
all = position first_history 6 ∷ position second_history 6 ∷ position third_history 6 ∷ position third_history 3 ∷ []

abbrev pub arena : Arena
arena = record {
  positions = all;
  owners = Odd ∷ Odd ∷ Odd ∷ Odd ∷ [];
  moves = (1 ∷ []) ∷ (2 ∷ []) ∷ (3 ∷ []) ∷ (3 ∷ []) ∷ [];
}

abbrev pub solution : GameSolution
solution = record { winner = Odd ∷ Odd ∷ Odd ∷ Odd ∷ Odd ∷ Even ∷ []; choice = 1 ∷ 2 ∷ 3 ∷ 3 ∷ 4 ∷ 5 ∷ [] }

abbrev item : Option ℕ → List ℕ → traced.Item AutomatonState
item odd names = record { state = record { node = 0; odd = odd }; stack = names }

abbrev entry : ℕ → List (traced.Item AutomatonState) → ℕ → ℕ → Mark → Entry
entry live items height next mark =
    record {
      sequent = 0 ∷ [];
      traces = record { live = live; items = items };
      heights = 0 ∷ 0 ∷ height ∷ [];
      decision =
          Go 0 next mark;
    }

abbrev pub refutation : Refutation
refutation = record {
  names = 2;
  entries =
      entry 1 (item None (0 ∷ []) ∷ []) 2 1 Neutral
      ∷ entry 1 (item None (0 ∷ []) ∷ item (Some 1) (0 ∷ []) ∷ []) 1 2 Neutral
      ∷ entry 2 (item None (0 ∷ []) ∷ item (Some 1) (0 ∷ 1 ∷ []) ∷ []) 0 3 (Green 1)
      ∷ entry 2 (item None (0 ∷ []) ∷ item (Some 1) (0 ∷ 1 ∷ []) ∷ []) 0 3 (Green 1)
      ∷ [];
}

-- ---- the spread

abbrev spread : SpreadList
spread = record { nodes = 0 ∷ []; choice = [] }

-- from a node without children the only walk stays there
stays_there : (g : Graph) (c : List (ℕ × Side)) (n k m : ℕ)
    → children g c n ≡ []
    → LocalWalk g c n k m
    → (k ≡ priority_at g n) × (m ≡ n)
stays_there g c n k m alone (stays _) = (refl, refl)
stays_there g c n k m alone (goes _ next child walk) = absurd (subst (IsMember next) alone child)

only : (n : ℕ) → IsMember n (0 ∷ []) → n ≡ 0
only n (inl same) = same
only n (inr none) = absurd none

walk_is : (n k m : ℕ) → n ≡ 0 → LocalWalk loop [] n k m → (k ≡ 1) × (m ≡ 0)
walk_is n k m same walk =
    let ends = stays_there loop [] n k m (ap (children loop []) same) walk in
    (ends.0 ∙ ap (priority_at loop) same, ends.1 ∙ same)

is_spread : IsSpreadOf loop (0 ∷ []) [] spread
is_spread = record {
  choice = refl;
  ascends = ascending-one 0;
  low = λ m i. let same = only m i in omega arith;
  nodes = λ m. (
    (λ i. record {
      from = 0;
      member = inl refl;
      lowest = 1;
      walk = subst (LocalWalk loop [] 0 1) (sym (only m i))
          (stays 0);
    }),
    (λ s. inl (walk_is s.from s.lowest m (only s.from s.member) s.walk).1),
  );
}

resolved : IsResolved loop spread
resolved = record { no_clash = no_clash; none_open = none_open }
  where
    no_clash : (x : ClashCause) → IsCause loop spread x → ⊥
    no_clash (cause.False n) is = let wrong : node.Diamond 0 0 ≡ node.False = ap (node_at loop) (sym (only n is.0))
        ∙ is.1 in cc
    no_clash (cause.Pair p q) is =
        let wrong : node.Diamond 0 0 ≡ node.Lit is.2.prop true = ap (node_at loop) (sym (only p is.0))
        ∙ is.2.positive in cc
    no_clash (cause.Cycle n) is = absurd (subst (IsMember is.1.1.next) (ap (children loop []) (only n is.0))
        is.1.1.child)

    none_open : (n : ℕ) → IsOpenOr loop spread n → ⊥
    none_open n is =
        let wrong : node.Diamond 0 0 ≡ node.Or is.is_open.left is.is_open.right =
        ap (node_at loop) (sym (only n is.member)) ∙ is.is_open.is_or in
        cc

-- ---- the step

abbrev trace : Triple
trace = record { from = 0; lowest = 1; to = 0 }

abbrev letter : List Transition
letter =
    record { from = 0; to = 0; accepting = false }
    ∷ record { from = 0; to = 1; accepting = false }
    ∷ record { from = 1; to = 1; accepting = true }
    ∷ []

leads : LeadsOut loop spread 0 0 0
leads = record { action = 0; child = 0; is_diamond = refl; leaves = inl (refl, refl) }

leads_back : (e m : ℕ) → LeadsOut loop spread 0 e m → m ≡ 0
leads_back e m l = by_kind l.leaves
  where
    by_kind : ((e ≡ 0) × (m ≡ l.child)) ⊎ (IsMember e (0 ∷ []) × (node_at loop e ≡ node.Square l.action m)) → m ≡ 0
    by_kind (inl is) = let same = l.is_diamond in let child : 0 ≡ l.child = cc in is.1 ∙ sym child
    by_kind (inr is) =
        let wrong : node.Diamond 0 0 ≡ node.Square l.action m = ap (node_at loop) (sym (only e is.0)) ∙ is.1 in cc

is_step : IsStep loop (0 ∷ []) spread 0 (0 ∷ []) (trace ∷ [])
is_step = record {
  ascends = ascending-one 0;
  targets = λ m. (
    (λ i. subst (IsTarget loop spread 0) (sym (only m i)) (record { leaving = 0; leads = leads })),
    (λ t. inl (leads_back t.leaving m t.leads)),
  );
  traces = λ t. (there t, back t);
}
  where
    there : (t : Triple) → IsMember t (trace ∷ []) → IsTrace loop (0 ∷ []) spread 0 t
    there t (inl same) =
        subst (IsTrace loop (0 ∷ []) spread 0) (sym same)
        (record { from = inl refl; leaving = 0; walk = stays 0; leads = leads })
    there t (inr none) = absurd none

    back : (t : Triple) → IsTrace loop (0 ∷ []) spread 0 t → IsMember t (trace ∷ [])
    back t is =
        let from : t.from ≡ 0 = only t.from is.from in
        let walk = walk_is t.from t.lowest is.leaving from is.walk in
        let to : t.to ≡ 0 = leads_back is.leaving t.to is.leads in
        inl (λ i. record { from = from i; lowest = walk.0 i; to = to i })

is_letter : IsLetterOf (odd_priorities loop) (trace ∷ []) letter
is_letter m = (there, λ g. back (subst (λ (t : Triple). Gives (1 ∷ []) t m) (of_one g.0 g.1) g.2))
  where
    of_one : (t : Triple) → IsMember t (trace ∷ []) → t ≡ trace
    of_one t (inl same) = same
    of_one t (inr none) = absurd none

    gives : (from to : ℕ) (accepting : Bool) (before behind : Option ℕ) → Leads (1 ∷ []) 1 before behind accepting
        → from ≡ number (1 ∷ []) (record { node = 0; odd = before })
        → to ≡ number (1 ∷ []) (record { node = 0; odd = behind })
        → m ≡ record { from = from; to = to; accepting = accepting }
        → (t : Triple) × IsMember t (trace ∷ []) × Gives (1 ∷ []) t m
    gives from to accepting before behind leads from_is to_is same = (
      trace,
      inl refl,
      subst (Gives (1 ∷ []) trace) (sym same)
          (record { before = before; behind = behind; leads = leads; from_is = from_is; to_is = to_is }),
    )

    there : IsMember m letter → (t : Triple) × IsMember t (trace ∷ []) × Gives (1 ∷ []) t m
    there (inl same) = gives 0 0 false None None refl refl refl same
    there (inr (inl same)) = gives 0 1 false None (Some 1) (inl refl, refl) refl refl same
    there (inr (inr (inl same))) = gives 1 1 true (Some 1) (Some 1) (refl, inl refl, omega arith, refl) refl refl same
    there (inr (inr (inr none))) = absurd none

    one : (d : ℕ) → IsMember d (1 ∷ []) → d ≡ 1
    one d (inl same) = same
    one d (inr none) = absurd none

    joined : (from to : ℕ) (accepting : Bool) → m.from ≡ from → m.to ≡ to → m.accepting ≡ accepting
        → m ≡ record { from = from; to = to; accepting = accepting }
    joined from to accepting x y z = λ i. record { from = x i; to = y i; accepting = z i }

    at : (guess : Option ℕ) → ℕ
    at guess = number (1 ∷ []) (record { node = 0; odd = guess })

    by_guess : (before behind : Option ℕ) → Leads (1 ∷ []) 1 before behind m.accepting
        → m.from ≡ number (1 ∷ []) (record { node = 0; odd = before })
        → m.to ≡ number (1 ∷ []) (record { node = 0; odd = behind })
        → IsMember m letter
    by_guess None None l x y = inl (joined 0 0 false x y l)
    by_guess None (Some d) l x y =
        inr (inl (joined 0 1 false x (y ∙ ap (λ e. number (1 ∷ []) (record { node = 0; odd = Some e })) (one d l.0))
        l.1))
    by_guess (Some c) None l x y = absurd l
    by_guess (Some c) (Some e) l x y =
        let c_is : c ≡ 1 = one c l.1 in
        let e_is : e ≡ 1 = l.0 ∙ c_is in
        let accepts : m.accepting ≡ true = l.3 ∙ ap (λ k. k == 1) c_is in
        inr (inr (inl (joined 1 1 true
        (x ∙ ap (λ k. number (1 ∷ []) (record { node = 0; odd = Some k })) c_is)
        (y ∙ ap (λ k. number (1 ∷ []) (record { node = 0; odd = Some k })) e_is) accepts)))

    back : Gives (1 ∷ []) trace m → IsMember m letter
    back g = by_guess g.before g.behind g.leads g.from_is g.to_is

follows : (h k : List (traced.Item ℕ)) (x y : ℕ) → k ≡ stepped h letter → y ≡ priority 6 (step_mark h letter)
    → Follows loop (position h x) spread 0 (position k y)
follows h k x y history marked = record {
  traces = trace ∷ [];
  letter = letter;
  is_step = is_step;
  is_letter = is_letter;
  history = history;
  marked = marked;
  unchosen = refl;
}

-- ---- the entries

go : (v w : ℕ) (h k : List (traced.Item ℕ)) (x y : ℕ) (m : Mark)
    → slice_get all v ≡ Some (position h x)
    → slice_get all w ≡ Some (position k y)
    → slice_get all (get_or solution.choice v 0) ≡ Some (position k y)
    → k ≡ stepped h letter
    → y ≡ priority 6 (step_mark h letter)
    → y ≡ priority 6 m
    → FitsBelow 6 m
    → IsDecisionAt loop arena solution all (position h x) (Go 0 w m)
go v w h k x y m here there chosen history marked mark_is fits = record {
  spread = spread;
  is_spread = is_spread;
  holds = (
    resolved,
    record {
      next = position k y;
      is_choice = record { vertex = v; is_here = here; chosen = chosen };
      is_diamond = record {
        is_diamond = inl refl;
        leads = follows h k x y history marked;
        least = λ c low i f. absurd
            (omega arith);
      };
      is_entry = there;
      marked = mark_is;
      is_mark = fits;
    },
  );
}

first_is : IsEntryAt loop arena solution all (position first_history 6) (entry_at refutation 0)
first_is = record {
  unchosen = refl;
  sequent = refl;
  traces = refl;
  decision = go 0 1 first_history second_history 6 6
      Neutral refl refl refl refl refl refl tt;
}

second_is : IsEntryAt loop arena solution all (position second_history 6) (entry_at refutation 1)
second_is = record {
  unchosen = refl;
  sequent = refl;
  traces = refl;
  decision = go 1 2 second_history third_history 6 6
      Neutral refl refl refl refl refl refl tt;
}

third_is : IsEntryAt loop arena solution all (position third_history 6) (entry_at refutation 2)
third_is = record {
  unchosen = refl;
  sequent = refl;
  traces = refl;
  decision = go 2 3 third_history third_history 6 3
      (Green 1) refl refl refl refl refl refl (omega arith);
}

fourth_is : IsEntryAt loop arena solution all (position third_history 3) (entry_at refutation 3)
fourth_is = record {
  unchosen = refl;
  sequent = refl;
  traces = refl;
  decision = go 3 3 third_history third_history 3 3
      (Green 1) refl refl refl refl refl refl (omega arith);
}

are_entries : (e : ℕ) (p : Position)
    → slice_get all e ≡ Some p
    → IsEntryAt loop arena solution all p (entry_at refutation e)
are_entries zero p is = let same : position first_history 6 ≡ p = cc in
    subst (λ q. IsEntryAt loop arena solution all q (entry_at refutation 0)) same first_is
are_entries (suc zero) p is = let same : position second_history 6 ≡ p = cc in
    subst (λ q. IsEntryAt loop arena solution all q (entry_at refutation 1)) same second_is
are_entries (suc (suc zero)) p is = let same : position third_history 6 ≡ p = cc in
    subst (λ q. IsEntryAt loop arena solution all q (entry_at refutation 2)) same third_is
are_entries (suc (suc (suc zero))) p is = let same : position third_history 3 ≡ p = cc in
    subst (λ q. IsEntryAt loop arena solution all q (entry_at refutation 3)) same fourth_is
are_entries (suc (suc (suc (suc e)))) p is = cc

are_different : AreDifferent all
are_different = (first, (second, (third, ((λ none. absurd none), tt))))
  where
    short : (h : List (traced.Item ℕ)) → 2 ≡ length h → (n : ℕ) → position first_history 6 ≡ position h n → ⊥
    short h two n same = let e : 1 ≡ length h = ap (λ (p : Position). length p.history) same in absurd (omega arith)

    first : IsMember (position first_history 6) (position second_history 6 ∷ position third_history 6 ∷ position third_history 3 ∷ [])
        → ⊥
    first (inl same) = short second_history refl 6 same
    first (inr (inl same)) = short third_history refl 6 same
    first (inr (inr (inl same))) = short third_history refl 3 same
    first (inr (inr (inr none))) = absurd none

    apart : (m n : ℕ) → m < n → m ≡ n → ⊥
    apart m n low same = absurd (omega arith)

    stacks : (n : ℕ) → position second_history 6 ≡ position third_history n → ⊥
    stacks n same =
        apart 1 2 (omega arith) (ap (λ (p : Position). length (get_or p.history 1 (numbered 0 [])).stack) same)

    second : IsMember (position second_history 6) (position third_history 6 ∷ position third_history 3 ∷ []) → ⊥
    second (inl same) = stacks 6 same
    second (inr (inl same)) = stacks 3 same
    second (inr (inr none)) = absurd none

    third : IsMember (position third_history 6) (position third_history 3 ∷ []) → ⊥
    third (inl same) = apart 3 6 (omega arith) (sym (ap (λ (p : Position). p.priority) same))
    third (inr none) = absurd none

is_outline : IsOutlineOf loop arena solution refutation
is_outline = record {
  positions = all;
  a_position_each = refl;
  starts = refl;
  are_different = are_different;
  are_entries = are_entries;
  breadth_first = record { a_row_each = refl; in_order = refl; from_earlier = earlier };
  names = record {
    bounds = member-All (λ (e : Entry). e.traces.live ≤ 2) refutation.entries bounds;
    entry =
        entry_at refutation 2;
    member = inr (inr (inl refl));
    is = refl;
  };
}
  where
    earlier : (k : ℕ) → 0 < k → k < 4 → (j : ℕ) × (j < k) × IsMember {X = ℕ} (get_or (0 ∷ 1 ∷ 2 ∷ 3 ∷ []) k 0)
        (get_or ((1 ∷ []) ∷ (2 ∷ []) ∷ (3 ∷ []) ∷ (3 ∷ []) ∷ []) j [])
    earlier zero some low = absurd (omega arith)
    earlier (suc zero) some low = (0, omega arith, inl refl)
    earlier (suc (suc zero)) some low = (1, omega arith, inl refl)
    earlier (suc (suc (suc zero))) some low = (2, omega arith, inl refl)
    earlier (suc (suc (suc (suc k)))) some low = absurd (omega arith)

    live_low : (e d : Entry) → e ≡ d → d.traces.live ≤ 2 → e.traces.live ≤ 2
    live_low e d same low = subst (λ (x : Entry). x.traces.live ≤ 2) (sym same) low

    bounds : (e : Entry) → IsMember e refutation.entries → e.traces.live ≤ 2
    bounds e (inl same) = live_low e (entry_at refutation 0) same (omega arith)
    bounds e (inr (inl same)) = live_low e (entry_at refutation 1) same (omega arith)
    bounds e (inr (inr (inl same))) = live_low e (entry_at refutation 2) same (omega arith)
    bounds e (inr (inr (inr (inl same)))) = live_low e (entry_at refutation 3) same (omega arith)
    bounds e (inr (inr (inr (inr none)))) = absurd none

-- ---- heights

abbrev step_to : ℕ → ℕ → ℕ → Arc
step_to e n f = record { from = e; priority = n; to = f }

-- the number of steps before the first green one
abbrev left_over : ℕ → ℕ
left_over v = get_or (2 ∷ 1 ∷ 0 ∷ 0 ∷ []) v 0

arcs_settled : (p : ℕ) (f : ℕ → ℕ)
    → ((a : Arc) → IsMember a (step_to 0 4 1 ∷ step_to 1 4 2 ∷ step_to 2 3 3 ∷ step_to 3 3 3 ∷ []) → SettledAlong p f a)
    → Settled (go_graph refutation) p f
arcs_settled p f each = member-All (SettledAlong p f) (go_graph refutation).arcs each

-- no arc has the priority 0 or 2
none_counts : (p : ℕ) → p < 3 → Settled (go_graph refutation) p (λ v. 0)
none_counts p low = arcs_settled p (λ v. 0) each
  where
    along : (a : Arc) (e : Arc) → a ≡ e → (e.priority ≡ p → ⊥) → SettledAlong p (λ v. 0) a
    along a e same other high =
        let none = counts-none p a [] (λ is. other (ap (λ (b : Arc). b.priority) (sym same) ∙ is)) in
        omega (arith, none)

    each : (a : Arc)
        → IsMember a (step_to 0 4 1 ∷ step_to 1 4 2 ∷ step_to 2 3 3 ∷ step_to 3 3 3 ∷ [])
        → SettledAlong p (λ v. 0) a
    each a (inl same) = along a (step_to 0 4 1) same (λ is. omega arith)
    each a (inr (inl same)) = along a (step_to 1 4 2) same (λ is. omega arith)
    each a (inr (inr (inl same))) = along a (step_to 2 3 3) same (λ is. omega arith)
    each a (inr (inr (inr (inl same)))) = along a (step_to 3 3 3) same (λ is. omega arith)
    each a (inr (inr (inr (inr none)))) = absurd none

-- and the neutral ones come before the first green one
neutral_counts : Settled (go_graph refutation) 4 left_over
neutral_counts = arcs_settled 4 left_over each
  where
    each : (a : Arc)
        → IsMember a (step_to 0 4 1 ∷ step_to 1 4 2 ∷ step_to 2 3 3 ∷ step_to 3 3 3 ∷ [])
        → SettledAlong 4 left_over a
    each a (inl same) = subst (SettledAlong 4 left_over) (sym same) (λ high. omega arith)
    each a (inr (inl same)) = subst (SettledAlong 4 left_over) (sym same) (λ high. omega arith)
    each a (inr (inr (inl same))) = subst (SettledAlong 4 left_over) (sym same) (λ high. absurd (omega arith))
    each a (inr (inr (inr (inl same)))) = subst (SettledAlong 4 left_over) (sym same) (λ high. absurd (omega arith))
    each a (inr (inr (inr (inr none)))) = absurd none

stand_still : (p v : ℕ) → Attained (go_graph refutation) p v 0
stand_still p v = record { arcs = []; end = v; walk = refl; counts = refl }

no_count : (p v : ℕ) → p < 3 → IsMost (go_graph refutation) p v 0
no_count p v low = record {
  attained = stand_still p v;
  largest = λ xs w walk. let most = walk_keeps (go_graph refutation) p (λ u. 0) (none_counts p low) v w xs walk in
      omega (arith, most);
}

neutral_count : (v : ℕ)
    → Attained (go_graph refutation) 4 v (left_over v)
    → IsMost (go_graph refutation) 4 v (left_over v)
neutral_count v attained = record {
  attained = attained;
  largest = λ xs w walk. let most = walk_keeps (go_graph refutation) 4 left_over neutral_counts v w xs walk in
      omega (arith, most);
}

inside : (a : Arc) → IsMember a (go_graph refutation).arcs → Contains (go_graph refutation).arcs a
inside a m = contains_of_member a (go_graph refutation).arcs m

second_walk : Attained (go_graph refutation) 4 1 1
second_walk = record {
  arcs = step_to 1 4 2 ∷ [];
  end = 2;
  walk = (record { member = inside (step_to 1 4 2) (inr (inl refl)); leaves = refl; high = omega arith }, refl);
  counts = refl;
}

first_walk : Attained (go_graph refutation) 4 0 2
first_walk = record {
  arcs = step_to 0 4 1 ∷ step_to 1 4 2 ∷ [];
  end = 2;
  walk = (
    record { member = inside (step_to 0 4 1) (inl refl); leaves = refl; high = omega arith },
    (record { member = inside (step_to 1 4 2) (inr (inl refl)); leaves = refl; high = omega arith }, refl),
  );
  counts = refl;
}

are_longest : AreLongest (go_graph refutation) (heights_of refutation)
are_longest = record { shape = record { vertices = refl; numbers = numbers }; most = most }
  where
    numbers : (v : ℕ) → v < 4 → length (get_or (heights_of refutation) v []) ≡ 3
    numbers zero low = refl
    numbers (suc zero) low = refl
    numbers (suc (suc zero)) low = refl
    numbers (suc (suc (suc zero))) low = refl
    numbers (suc (suc (suc (suc v)))) low = absurd (omega arith)

    most : (p v : ℕ)
        → p % 2 ≡ 0
        → p ≤ 4
        → v < 4
        → IsMost (go_graph refutation) p v (height_of (heights_of refutation) p v)
    most zero zero even le low = no_count 0 0 (omega arith)
    most zero (suc zero) even le low = no_count 0 1 (omega arith)
    most zero (suc (suc zero)) even le low = no_count 0 2 (omega arith)
    most zero (suc (suc (suc zero))) even le low = no_count 0 3 (omega arith)
    most (suc zero) v even le low = absurd (omega arith)
    most (suc (suc zero)) zero even le low = no_count 2 0 (omega arith)
    most (suc (suc zero)) (suc zero) even le low = no_count 2 1 (omega arith)
    most (suc (suc zero)) (suc (suc zero)) even le low = no_count 2 2 (omega arith)
    most (suc (suc zero)) (suc (suc (suc zero))) even le low = no_count 2 3 (omega arith)
    most (suc (suc (suc zero))) v even le low = absurd (omega arith)
    most (suc (suc (suc (suc zero)))) zero even le low = neutral_count 0 first_walk
    most (suc (suc (suc (suc zero)))) (suc zero) even le low = neutral_count 1 second_walk
    most (suc (suc (suc (suc zero)))) (suc (suc zero)) even le low = neutral_count 2 (stand_still 4 2)
    most (suc (suc (suc (suc zero)))) (suc (suc (suc zero))) even le low = neutral_count 3 (stand_still 4 3)
    most p (suc (suc (suc (suc v)))) even le low = absurd (omega arith)
    most (suc (suc (suc (suc (suc p))))) v even le low = absurd (omega arith)

-- it is the one that the solution makes
pub is_extracted : IsRefutationOf loop arena solution refutation
is_extracted = record { outline = is_outline; heights = are_longest }
