-- The region below a binder: no move leaves it, and recurring is bad.
--
-- From a binder's node with a sign one comes, through operands, to nodes below it; through its variable back to that very
-- node, since the variable is positive; and through variables of outer binders, which are cut open, to literals and so
-- to sinks. A loop through the binder's node so stays below it, where every other priority is greater.
--
--   Inside v, Ended v      == the vertex v is a state with a node below; it is a literal of an outer binder, or a sink
--   stays, ends_stay       == moves from inside lead inside or to an end, and from ends to ends
--   recurs                 == the lowest priority on a loop through the binder's node is its own
use Rattle.std.proofs.Common.{◌≡◌, ℕ, ◌+◌, ◌-◌, ◌*◌, ◌<◌, ◌≤◌, ◌⊎◌, Bool, true, false, ◌||◌, List, [], ◌∷◌, length, get_or, map}
use Rattle.std.proofs.Common.{Contains, if◌then◌else◌, inl, inr, refl, sym, ap, subst, ◌∙◌, ⊎_elim, arith}
use Rattle.std.specs.List.{list_any}
use Rattle.std.specs.Str.{bytes_eq}
use Rattle.std.specs.Bool.{beq}
use Rattle.std.proofs.lemmas.Bool.{false≢true}
use Rattle.ml_lists.specs.Lasso.{Lasso, entry, round}
use Rattle.ml_lists.specs.Member.{IsMember}
use Rattle.ml_lists.proofs.Lasso.{on_loop, loop_length, loop_closed, lowest_on_loop_is, on_loop-entry}
use Rattle.ml_lists.proofs.Loops.{around}
use Rattle.ml_lists.proofs.Member.{Image, member-map_from}
use Rattle.ml_lists.proofs.Members.{member_of_contains}
use Rattle.ml_base.specs.Structure.{Structure, IsStructure, lists}
use Rattle.ml_parity.specs.Game.{HasMove, priority_of}
use Rattle.ml_parity.specs.Winner.{IsPlay, winner}
use Rattle.ml_parity.specs.Player.{side}
use Rattle.ml_graph.specs.Graph.{Graph, node_at, priority_at, prop_at, action_at}
use Rattle.ml_graph.specs.CheckingGame.{Vertex, Pair, Sink, vertex_number, successors, successors_of, pairs_or_sink, targets, checking_game}
use Rattle.ml_graph.specs.declared.node.Node.{Node}
use Rattle.ml_graph.specs.declared.node.Node.TheVariants as node
use Rattle.ml_graph.proofs.CheckingGame.{IsVertex, priority_is, moves_are, target_is_state, same_vertex}
use Rattle.ml_mu.specs.Formula.{Formula, Binder}
use Rattle.ml_mu.specs.declared.term.Fixpoint.{Fixpoint}
use Rattle.ml_mu.specs.declared.term.Fixpoint.TheVariants.{Least, Greatest}
use Rattle.ml_mu.specs.Meaning.{Given}
use Rattle.ml_nodes.specs.Nodes.{positive, negative}
use Rattle.ml_mu_graph.specs.MuGraph.{Around, binder_of, binder_priority, opposite}
use Rattle.ml_mu_graph.proofs.Told.{node_of, names, AreTold, AreOutside, Below, FreeAt}
use Rattle.ml_mu_graph.proofs.Regions.{IsChild, below_range, below_priority, below_moves}
use Rattle.ml_mu_graph.proofs.FreeVariables.{free_bound}
use Rattle.ml_mu_graph.proofs.Situations.{Situation}

-- the node is one of a binder around
abbrev pub IsOuter : Around → ℕ → Type 0
IsOuter [] n = ⊥
IsOuter (b ∷ bs) n = ((n ≡ positive b.1) ⊎ (n ≡ negative b.1)) ⊎ IsOuter bs n

outer_of : (bs : Around) (x : List ℕ) (c : Bool)
    → list_any (λ y. bytes_eq y x) (names bs) ≡ true
    → IsOuter bs (node_of c (binder_of bs x))
outer_of [] x c here = absurd (false≢true here)
outer_of (b ∷ bs) x c here = by_name (bytes_eq b.0 x) refl (λ h. outer_of bs x c h)
  where
    sign : (d : Bool) → (node_of d b.1 ≡ positive b.1) ⊎ (node_of d b.1 ≡ negative b.1)
    sign true = inl refl
    sign false = inr refl

    by_name : (d : Bool)
        → bytes_eq b.0 x ≡ d
        → (list_any (λ y. bytes_eq y x) (names bs) ≡ true → IsOuter bs (node_of c (binder_of bs x)))
        → IsOuter (b ∷ bs) (node_of c (if bytes_eq b.0 x then b.1 else binder_of bs x))
    by_name true e inner = subst (λ d. IsOuter (b ∷ bs) (node_of c (if d then b.1 else binder_of bs x))) (sym e) (inl (sign c))
    by_name false e inner =
        subst (λ d. IsOuter (b ∷ bs) (node_of c (if d then b.1 else binder_of bs x))) (sym e)
        (inr (inner (sym (ap (λ d. d || list_any (λ y. bytes_eq y x) (names bs)) e) ∙ here)))

pub outer_low : (i : ℕ) (bs : Around) (n : ℕ) → AreOutside i bs → IsOuter bs n → n < positive i
outer_low i [] n outside h = absurd h
outer_low i (b ∷ bs) n outside (inl (inl e)) = omega (arith, e, outside.0)
outer_low i (b ∷ bs) n outside (inl (inr e)) = omega (arith, e, outside.0)
outer_low i (b ∷ bs) n outside (inr later) = outer_low i bs n outside.1 later

-- and a literal
outer_literal : (g : Graph) (m : Structure) (bs : Around) (gs : Given) (n : ℕ) → AreTold g m bs gs → IsOuter bs n
    → (q : ℕ) × ((sign : Bool) × (node_at g n ≡ node.Lit q sign))
outer_literal g m [] gs n told h = absurd h
outer_literal g m (b ∷ bs) [] n told h = absurd told
outer_literal g m (b ∷ bs) (s ∷ ss) n told (inl (inl e)) = (told.1.prop, (true, ap (node_at g) e ∙ told.1.positive_is))
outer_literal g m (b ∷ bs) (s ∷ ss) n told (inl (inr e)) = (told.1.prop, (false, ap (node_at g) e ∙ told.1.negative_is))
outer_literal g m (b ∷ bs) (s ∷ ss) n told (inr later) = outer_literal g m bs ss n told.2 later

abbrev node_of_vertex : Vertex → ℕ
node_of_vertex (Pair s n) = n
node_of_vertex (Sink p) = 0

abbrev is_pair : Vertex → Bool
is_pair (Pair s n) = true
is_pair (Sink p) = false

-- a vertex to which a pair leads is a pair with a child, or a sink
pub record ToChild (m : Structure) (x : Node) (u : Vertex) : Type 0 where
  pub state : ℕ
  pub child : ℕ
  pub low : state < m.states
  pub is_child : IsChild x child
  pub is : u ≡ Pair state child

pub record ToSink (u : Vertex) : Type 0 where
  pub priority : ℕ
  pub low : priority < 2
  pub is : u ≡ Sink priority

one_sink : (p : ℕ) → p < 2 → (u : Vertex) → IsMember u (Sink p ∷ []) → ToSink u
one_sink p low u (inl e) = record { priority = p; low = low; is = e }
one_sink p low u (inr none) = absurd none

verdict_low : (c : Bool) → (if c then 0 else 1) < 2
verdict_low true = omega arith
verdict_low false = omega arith

of_pairs : (m : Structure) (x : Node) (to p : ℕ) (ts : List ℕ)
    → IsChild x to
    → p < 2
    → ((t : ℕ) → IsMember t ts → t < m.states)
    → (u : Vertex) → IsMember u (pairs_or_sink to p ts) → ToChild m x u ⊎ ToSink u
of_pairs m x to p [] child p_low low u h = inr (one_sink p p_low u h)
of_pairs m x to p (s ∷ ss) child p_low low u h =
    let image = member-map_from (λ t. Pair t to) u (s ∷ ss) h in
    inl (record { state = image.from; child = to; low = low image.from image.member; is_child = child; is = image.holds })

two_children : (m : Structure) (x : Node) (s l r : ℕ) → s < m.states → IsChild x l → IsChild x r → (u : Vertex)
    → IsMember u (Pair s l ∷ Pair s r ∷ []) → ToChild m x u ⊎ ToSink u
two_children m x s l r low a c u (inl e) = inl (record { state = s; child = l; low = low; is_child = a; is = e })
two_children m x s l r low a c u (inr (inl e)) = inl (record { state = s; child = r; low = low; is_child = c; is = e })
two_children m x s l r low a c u (inr (inr none)) = absurd none

pub leads_to : (g : Graph) (m : Structure) → IsStructure m → (s : ℕ) → s < m.states → (x : Node) (u : Vertex)
    → IsMember u (successors_of g m s x) → ToChild m x u ⊎ ToSink u
leads_to g m ok s low node.True u h = inr (one_sink 0 (omega arith) u h)
leads_to g m ok s low node.False u h = inr (one_sink 1 (omega arith) u h)
leads_to g m ok s low (node.Lit p sign) u h = inr (one_sink _ (verdict_low (beq (lists m s (prop_at g p)) sign)) u h)
leads_to g m ok s low (node.And l r) u h = two_children m (node.And l r) s l r low (inl refl) (inr refl) u h
leads_to g m ok s low (node.Or l r) u h = two_children m (node.Or l r) s l r low (inl refl) (inr refl) u h
leads_to g m ok s low (node.Diamond a to) u h =
    of_pairs m (node.Diamond a to) to 1 (targets m s (action_at g a)) refl (omega arith) (target_is_state m ok s (action_at g a)) u h
leads_to g m ok s low (node.Square a to) u h =
    of_pairs m (node.Square a to) to 0 (targets m s (action_at g a)) refl (omega arith) (target_is_state m ok s (action_at g a)) u h

module _ (m0 : Structure) (gs : Given) (q : Fixpoint) (x : List ℕ) (f : Formula) (g : Graph) (m : Structure) (k : ℕ) (bs : Around) (b : ℕ)
    (w : Situation m0 gs (Binder q x f) g m k bs b) (e : Bool) where
  abbrev pub number : Vertex → ℕ
  number = vertex_number g m

  pub data IsInside : Vertex → Type 0 where
    is_inside : (s n : ℕ) → s < m.states → Below (Binder q x f) b e n → IsInside (Pair s n)

  pub data IsEnded : Vertex → Type 0 where
    is_outer : (s n : ℕ) → s < m.states → IsOuter bs n → IsEnded (Pair s n)
    is_sink : (p : ℕ) → p < 2 → IsEnded (Sink p)

  -- by number
  abbrev pub Inside : ℕ → Type 0
  Inside v = (u : Vertex) × ((v ≡ number u) × IsInside u)

  abbrev pub Ended : ℕ → Type 0
  Ended v = (u : Vertex) × ((v ≡ number u) × IsEnded u)

  pub inside_vertex : (u : Vertex) → IsInside u → IsVertex g m u
  inside_vertex u (is_inside s n low h) = (low, omega (arith, (below_range (Binder q x f) b e n h).1, w.room))

  pub ended_vertex : (u : Vertex) → IsEnded u → IsVertex g m u
  ended_vertex u (is_outer s n low h) = (low, omega (arith, outer_low b bs n w.outside h, w.room))
  ended_vertex u (is_sink p low) = low

  pub game_moves : (u : Vertex)
      → IsVertex g m u
      → (v : ℕ)
      → HasMove (checking_game g m) (number u) v
      → Image number v (successors g m u)
  game_moves u is v move =
      member-map_from number v (successors g m u)
      (member_of_contains v (map number (successors g m u))
      (subst (λ (xs : List ℕ). Contains xs v) (moves_are g m u is) move))

  ended_at : (v : ℕ) (u : Vertex) → v ≡ number u → ToSink u → Ended v
  ended_at v u is sink = (u, (is, subst IsEnded (sym sink.is) (is_sink sink.priority sink.low)))

  -- a child of a node below is below, or one of a binder around
  child_below : (n t : ℕ)
      → Below (Binder q x f) b e n
      → IsChild (node_at g n) t
      → Below (Binder q x f) b e t ⊎ IsOuter bs t
  child_below n t h child =
      ⊎_elim
      (λ (inside : Below (Binder q x f) b e t). inl inside)
      (λ (exit : (y : List ℕ) × ((c : Bool) × (FreeAt (Binder q x f) e y c × (t ≡ node_of c (binder_of bs y))))).
      let y = exit.0 in
      let c = exit.1.0 in
      inr (subst (IsOuter bs) (sym exit.1.1.1) (outer_of bs y c (free_bound (Binder q x f) (names bs) e y c w.bound exit.1.1.0))))
      (below_moves g k bs (Binder q x f) b e n t w.stands w.positives h child)

  from_inside : (u : Vertex) → IsInside u → (v : ℕ) → HasMove (checking_game g m) (number u) v → Inside v ⊎ Ended v
  from_inside u (is_inside s n low h) v move =
      let image = game_moves (Pair s n) (inside_vertex (Pair s n) (is_inside s n low h)) v move in
      ⊎_elim
      (λ (to : ToChild m (node_at g n) image.from).
      ⊎_elim
      (λ (inside : Below (Binder q x f) b e to.child).
      inl (image.from, (image.holds, subst IsInside (sym to.is) (is_inside to.state to.child to.low inside))))
      (λ (outer : IsOuter bs to.child). inr (image.from, (image.holds, subst IsEnded (sym to.is) (is_outer to.state to.child to.low outer))))
      (child_below n to.child h to.is_child))
      (λ (to : ToSink image.from). inr (ended_at v image.from image.holds to))
      (leads_to g m w.is_structure s low (node_at g n) image.from image.member)

  from_ended : (u : Vertex) → IsEnded u → (v : ℕ) → HasMove (checking_game g m) (number u) v → Ended v
  from_ended u (is_outer s n low h) v move =
      let image = game_moves (Pair s n) (ended_vertex (Pair s n) (is_outer s n low h)) v move in
      let literal = outer_literal g m bs gs n w.told h in
      ⊎_elim
      (λ (to : ToChild m (node.Lit literal.0 literal.1.0) image.from). absurd to.is_child)
      (λ (to : ToSink image.from). ended_at v image.from image.holds to)
      (leads_to g m w.is_structure s low (node.Lit literal.0 literal.1.0) image.from
      (subst (λ y. IsMember image.from (successors_of g m s y)) literal.1.1 image.member))
  from_ended u (is_sink p low) v move =
      let image = game_moves (Sink p) low v move in
      ended_at v image.from image.holds (one_sink p low image.from image.member)

  pub stays : (v y : ℕ) → Inside v → HasMove (checking_game g m) v y → Inside y ⊎ Ended y
  stays v y i move = from_inside i.0 i.1.1 y (subst (λ n. HasMove (checking_game g m) n y) i.1.0 move)

  pub ends_stay : (v y : ℕ) → Ended v → HasMove (checking_game g m) v y → Ended y
  ends_stay v y i move = from_ended i.0 i.1.1 y (subst (λ n. HasMove (checking_game g m) n y) i.1.0 move)

  abbrev pub Region : ℕ → Type 0
  Region v = Inside v ⊎ Ended v

  pub region_stays : (v y : ℕ) → Region v → HasMove (checking_game g m) v y → Region y
  region_stays v y (inl i) move = stays v y i move
  region_stays v y (inr i) move = inr (ends_stay v y i move)

  abbrev pub own : ℕ
  own = node_of e b

  own_low : own < 2 * b + 2
  own_low = by_sign e
    where
      by_sign : (d : Bool) → node_of d b < 2 * b + 2
      by_sign true = omega arith
      by_sign false = omega arith

  own_high : positive b ≤ own
  own_high = by_sign e
    where
      by_sign : (d : Bool) → positive b ≤ node_of d b
      by_sign true = omega arith
      by_sign false = omega arith

  abbrev pub at : ℕ → ℕ
  at s = number (Pair s own)

  pub at_inside : (s : ℕ) → s < m.states → IsInside (Pair s own)
  at_inside s low = is_inside s own low (inl refl)

  -- the binder's vertices are no ends
  pub not_ended : (s : ℕ) → s < m.states → Ended (at s) → ⊥
  not_ended s low i = from i.0 i.1.0 i.1.1
    where
      from : (u : Vertex) → at s ≡ number u → IsEnded u → ⊥
      from u same (is_outer t n t_low h) =
          let one =
          same_vertex g m (Pair s own) (Pair t n) (inside_vertex (Pair s own) (at_inside s low))
          (ended_vertex (Pair t n) (is_outer t n t_low h)) same
          in
          let nodes = ap node_of_vertex one in
          omega (arith, nodes, own_high, outer_low b bs n w.outside h)
      from u same (is_sink p p_low) =
          let one = same_vertex g m (Pair s own) (Sink p) (inside_vertex (Pair s own) (at_inside s low)) p_low same in
          absurd (false≢true (sym (ap is_pair one)))

  -- the priority of the binder's node
  abbrev pub depth : ℕ
  depth = length bs

  own_priority : priority_at g own ≤ 2 * depth + 1
  own_priority = by_sign e
    where
      small : (r : Fixpoint) → binder_priority r depth ≤ 2 * depth + 1
      small Least = omega arith
      small Greatest = omega arith

      by_sign : (d : Bool) → priority_at g (node_of d b) ≤ 2 * depth + 1
      by_sign true = let is = w.stands.0.1 in let low = small q in omega (arith, is, low)
      by_sign false = let is = w.stands.1.1 in let low = small (opposite q) in omega (arith, is, low)

  inside_priority : (u : Vertex) → IsInside u → priority_at g own ≤ priority_of (checking_game g m) (number u)
  inside_priority u (is_inside s n low h) =
      let same = priority_is g m (Pair s n) (inside_vertex (Pair s n) (is_inside s n low h)) in
      let least = by_place n h in omega (arith, same, least)
    where
      by_place : (j : ℕ) → Below (Binder q x f) b e j → priority_at g own ≤ priority_at g j
      by_place j (inl same) = omega (arith, ap (priority_at g) same)
      by_place j (inr deeper) =
          let high = below_priority g k ((x, b) ∷ bs) (b + 1) f e j w.stands.2 (omega (arith, w.high)) deeper in
          omega (arith, high, own_priority)

  -- the lowest priority on a loop through the binder's node is its own
  pub recurs : (l : Lasso)
      → IsPlay (checking_game g m) l
      → (j : ℕ)
      → l.start ≤ j
      → j < length l.entries
      → (s : ℕ)
      → s < m.states
      → entry l j ≡ at s → winner (checking_game g m) l ≡ side (priority_at g own)
  recurs l play j late low s s_low here =
      ap side (lowest_on_loop_is (priority_of (checking_game g m)) l j late low least ∙ at_priority)
    where
      c : ℕ → ℕ
      c = on_loop l

      joined : (i : ℕ) → i < loop_length l → HasMove (checking_game g m) (on_loop l i) (on_loop l (i + 1))
      joined i i_low =
          let same : (l.start + i) + 1 ≡ l.start + (i + 1) = omega arith in
          subst (λ n. HasMove (checking_game g m) (on_loop l i) (get_or (round l) n 0)) same (play.joined (l.start + i) (omega arith))

      place : ℕ
      place = j - l.start

      everywhere : (i : ℕ) → i ≤ loop_length l → Region (on_loop l i)
      everywhere =
          around (on_loop l) Region (loop_length l) (loop_closed l play.starts)
          (λ i i_low r. region_stays (on_loop l i) (on_loop l (i + 1)) r (joined i i_low))
          (j - l.start) (omega (arith, late, low)) (subst Region (sym (on_loop-entry l j late low ∙ here)) (inl (Pair s own, (refl, at_inside s s_low))))

      never_ended : (i : ℕ) → i ≤ loop_length l → Ended (on_loop l i) → ⊥
      never_ended i i_low ended =
          not_ended s s_low (subst Ended (on_loop-entry l j late low ∙ here)
          (around (on_loop l) Ended (loop_length l) (loop_closed l play.starts)
          (λ n n_low r. ends_stay (on_loop l n) (on_loop l (n + 1)) r (joined n n_low)) i i_low ended (j - l.start)
          (omega (arith, late, low))))

      at_priority : priority_of (checking_game g m) (entry l j) ≡ priority_at g own
      at_priority = ap (priority_of (checking_game g m)) here ∙ priority_is g m (Pair s own) (inside_vertex (Pair s own) (at_inside s s_low))

      high_at : (v : ℕ) → Region v → (Ended v → ⊥) → priority_at g own ≤ priority_of (checking_game g m) v
      high_at v (inl i) never = let high = inside_priority i.0 i.1.1 in omega (arith, high, ap (priority_of (checking_game g m)) i.1.0)
      high_at v (inr i) never = absurd (never i)

      least : (i : ℕ)
          → l.start ≤ i
          → i < length l.entries
          → priority_of (checking_game g m) (entry l j) ≤ priority_of (checking_game g m) (entry l i)
      least i i_late i_low =
          let within : i - l.start ≤ loop_length l = omega (arith, i_late, i_low) in
          let high = high_at (on_loop l (i - l.start)) (everywhere (i - l.start) within) (never_ended (i - l.start) within) in
          let same = ap (priority_of (checking_game g m)) (on_loop-entry l i i_late i_low) in
          omega (arith, high, same, at_priority)
