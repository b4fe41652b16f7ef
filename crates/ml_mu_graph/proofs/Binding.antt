-- The induction on formulas, at binders.
--
-- A binder is won at a least set (`LeastSets`). For each set the graph with the binder cut open, in the structure that
-- tells it the set, is the game with the verdicts of that set; so what the set makes is what the body means with it. The
-- binder's meaning is the least or the greatest fixpoint of that, by the laws of fixpoints.
--
--   player_of e          == the player who shows that a formula holds, at the node with the sign e
--   loser q e            == the player for whom recurring is bad
--   turned q b           == for a least fixpoint b, for a greatest one not b
--   value_wins, wins_value == who wins a node is what the node says
--   agree_binder         == the nodes of a binder hold as its meaning says
use Rattle.std.proofs.Common.{◌≡◌, ◌≢◌, ◌↔◌, ℕ, ◌+◌, ◌*◌, ◌<◌, ◌≤◌, ◌⊎◌, Bool, true, false, not, List, [], ◌∷◌, length, map, if◌then◌else◌, inl, inr, refl, sym, ap, subst, ◌∙◌, ⊎_elim, arith}
use Rattle.std.specs.Bool.{beq}
use Rattle.std.proofs.lemmas.Bool.{cases_Bool, false≢true}
use Rattle.std.proofs.lemmas.List.{length-map}
use Rattle.std.proofs.lemmas.List.FromFn.{length-map-range_with_len}
use Rattle.ml_base.specs.Structure.{Structure, IsStructure, StateSet, lists, is_member, states_where}
use Rattle.ml_parity.specs.declared.players.Player.{Player}
use Rattle.ml_parity.specs.declared.players.Player.TheVariants.{Even, Odd}
use Rattle.ml_parity.specs.Player.{opponent, side}
use Rattle.ml_parity.specs.Game.{ParityGame, HasMove, owner_of, priority_of, moves_of}
use Rattle.ml_parity.specs.Winner.{Wins}
use Rattle.ml_parity.proofs.Opponents.{same_player, same_player-true, same_player-from_true}
use Rattle.ml_parity.proofs.Winners.{Winners, winners, won, won_by_either, clash}
use Rattle.ml_mu.proofs.Fixpoints.{meaning_fixpoint, least_within, greatest_around}
use Rattle.ml_base.proofs.StateSets.{member_below}
use Rattle.ml_mu.proofs.Inclusion.{Within}
use Rattle.ml_graph.specs.Graph.{Graph, IsGraph, size, node_at, priority_at, prop_at}
use Rattle.ml_graph.specs.CheckingGame.{Vertex, Pair, Sink, vertex_number, owner_at, mover, successors, successors_of, vertices, checking_game, HoldsAt}
use Rattle.ml_graph.specs.declared.node.Node.{Node}
use Rattle.ml_graph.specs.declared.node.Node.TheVariants as node
use Rattle.ml_graph.proofs.CheckingGame.{IsVertex, vertices-length, owner_is, priority_is, moves_are, is_game}
use Rattle.ml_graph.proofs.OneStep.{vertex_low}
use Rattle.ml_mu_graph.specs.Binders.{IsSinkOf, Binder, HasVerdicts, IsLeast}
use Rattle.ml_mu.specs.Formula as formula
use Rattle.ml_mu.specs.Formula.{Formula}
use Rattle.ml_mu.specs.declared.term.Fixpoint.{Fixpoint}
use Rattle.ml_mu.specs.declared.term.Fixpoint.TheVariants.{Least, Greatest}
use Rattle.ml_mu.specs.Meaning.{Given, HaveFlags, meaning}
use Rattle.ml_mu.specs.Variables.{is_positive}
use Rattle.ml_mu.proofs.MeaningFlags.{meaning_flags}
use Rattle.ml_nodes.specs.Nodes.{positive, negative}
use Rattle.ml_mu_graph.specs.MuGraph.{Around, binder_priority, opposite}
use Rattle.ml_mu_graph.proofs.Told.{node_of}
use Rattle.ml_lists.proofs.Says.{Says}
use Rattle.ml_base.proofs.StateSets.{member_where}
use Rattle.ml_mu_graph.proofs.Situations.{Situation, Agree}
use Rattle.ml_mu_graph.proofs.Recurring.{Region, IsInside, IsEnded, is_inside, is_outer, is_sink, inside_vertex, ended_vertex, at_inside, not_ended, game_moves, region_stays, recurs}
use Rattle.ml_mu_graph.proofs.LeastSets.{least_of}
use Rattle.ml_mu_graph.proofs.Recurring.{outer_low}
use Rattle.ml_mu_graph.proofs.Regions.{below_range}
use Rattle.ml_mu_graph.proofs.CutOpen.{cut, marked, cut_size, cut_positive, cut_negative, cut_others, cut_prop, marked_others}
use Rattle.ml_mu_graph.proofs.CutSituations.{fresh, prop_short, opened_graph, telling_structure, told_value}
use Rattle.ml_graph.proofs.References.{prop_in_range}
use Rattle.ml_graph.specs.CheckingGame.{priority_at_vertex}
use Rattle.std.proofs.Math.Path.{fun_ext}
use Rattle.ml_lists.specs.Member.{IsMember}
use Rattle.std.proofs.Common.{◌%◌, eqb}
use Rattle.std.proofs.lemmas.Bool.{cond-true, cond-false}
use Rattle.std.proofs.lemmas.Bool.Decides.{nat_tests}
use Rattle.ml_mu.proofs.SomeOccurrence.{some_occurrence}

abbrev pub player_of : Bool → Player
player_of true = Even
player_of false = Odd

abbrev pub loser : Fixpoint → Bool → Player
loser Least e = player_of e
loser Greatest e = opponent (player_of e)

abbrev pub turned : Fixpoint → Bool → Bool
turned Least b = b
turned Greatest b = not b

-- what the node with a sign says of a truth value
abbrev pub signed : Bool → Bool → Bool
signed true b = b
signed false b = not b

module _ (g : Graph) (m : Structure) (g_ok : IsGraph g) (m_ok : IsStructure m) (s n : ℕ) (s_low : s < m.states) (n_low : n < size g) where
  abbrev vertex : ℕ
  vertex = vertex_number g m (Pair s n)

  low : vertex < length (checking_game g m).owner
  low = vertex_low g m g_ok m_ok (Pair s n) (s_low, n_low)

  even_or_odd : Wins (checking_game g m) Even vertex ⊎ Wins (checking_game g m) Odd vertex
  even_or_odd = won_by_either (checking_game g m) (is_game g m g_ok m_ok) Even vertex low

  never_both : Wins (checking_game g m) Even vertex → Wins (checking_game g m) Odd vertex → ⊥
  never_both = clash (checking_game g m) (is_game g m g_ok m_ok) Even vertex low

  -- what Even's winning says, Odd's winning denies
  odd_says : (b : Bool) → Says (HoldsAt g m s n) b → Says (Wins (checking_game g m) Odd vertex) (not b)
  odd_says true says = (λ odd. absurd (never_both (says.1 refl) odd), λ e. absurd (false≢true e))
  odd_says false says = (
    λ odd. refl,
    λ e. ⊎_elim (λ (even : Wins (checking_game g m) Even vertex). absurd (false≢true (says.0 even))) (λ (odd : Wins (checking_game g m) Odd vertex). odd) even_or_odd,
  )

  even_says : (b : Bool) → Says (Wins (checking_game g m) Odd vertex) (not b) → Says (HoldsAt g m s n) b
  even_says true says = (
    λ even. refl,
    λ e. ⊎_elim (λ (even : Wins (checking_game g m) Even vertex). even) (λ (odd : Wins (checking_game g m) Odd vertex). absurd (false≢true (says.0 odd))) even_or_odd,
  )
  even_says false says = (λ even. absurd (never_both even (says.1 refl)), λ e. absurd (false≢true e))

  not_not : (b : Bool) → not (not b) ≡ b
  not_not true = refl
  not_not false = refl

  pub value_wins : (q : Fixpoint) (e : Bool) (b : Bool) → Says (HoldsAt g m s n) (signed e b) → Says (Wins (checking_game g m) (loser q e) vertex) (turned q b)
  value_wins Least true b says = says
  value_wins Least false b says = subst (Says (Wins (checking_game g m) Odd vertex)) (not_not b) (odd_says (not b) says)
  value_wins Greatest true b says = odd_says b says
  value_wins Greatest false b says = says

  pub wins_value : (q : Fixpoint) (e : Bool) (b : Bool) → Says (Wins (checking_game g m) (loser q e) vertex) (turned q b) → Says (HoldsAt g m s n) (signed e b)
  wins_value Least true b says = says
  wins_value Least false b says = even_says (not b) (subst (Says (Wins (checking_game g m) Odd vertex)) (sym (not_not b)) says)
  wins_value Greatest true b says = even_says b says
  wins_value Greatest false b says = says

-- the sink that a player wins
abbrev pub sink_of : Player → ℕ
sink_of Even = 0
sink_of Odd = 1

pub sink_low : (p : Player) → sink_of p < 2
sink_low Even = omega arith
sink_low Odd = omega arith

pub sink_side : (p : Player) → side (sink_of p) ≡ p
sink_side Even = refl
sink_side Odd = refl

-- the literal of a told set ends at the sink of the verdict
pub told_sink : (q : Fixpoint) (e u : Bool)
    → (if beq u e then 0 else 1) ≡ (if turned q u then sink_of (loser q e) else sink_of (opponent (loser q e)))
told_sink Least true true = refl
told_sink Least true false = refl
told_sink Least false true = refl
told_sink Least false false = refl
told_sink Greatest true true = refl
told_sink Greatest true false = refl
told_sink Greatest false true = refl
told_sink Greatest false false = refl

even_side : (n : ℕ) → n % 2 ≡ 0 → side n ≡ Even
even_side n even = let test : eqb (n % 2) 0 ≡ true = grind (arith, nat_tests) in cond-true (eqb (n % 2) 0) Even Odd test

odd_side : (n : ℕ) → n % 2 ≡ 1 → side n ≡ Odd
odd_side n odd = let test : eqb (n % 2) 0 ≡ false = grind (arith, nat_tests) in cond-false (eqb (n % 2) 0) Even Odd test

-- the priority of a binder's node is bad for that player
abbrev pub priority_of_sign : Fixpoint → Bool → ℕ → ℕ
priority_of_sign q true d = binder_priority q d
priority_of_sign q false d = binder_priority (opposite q) d

pub bad_priority : (q : Fixpoint) (e : Bool) (d : ℕ) → side (priority_of_sign q e d) ≡ opponent (loser q e)
bad_priority Least true d = odd_side (2 * d + 1) (omega arith)
bad_priority Least false d = even_side (2 * d) (omega arith)
bad_priority Greatest true d = even_side (2 * d) (omega arith)
bad_priority Greatest false d = odd_side (2 * d + 1) (omega arith)

no_true : (c : Bool) → not c ≡ true → c ≡ true → ⊥
no_true true e is = false≢true e
no_true false e is = false≢true is

-- a set that contains what it makes contains the meaning: of a least fixpoint itself, of a greatest one the complements
meaning_within : (q : Fixpoint) (m0 : Structure) (gs : Given) (x : List ℕ) (f : Formula) → is_positive (formula.Binder q x f) ≡ true
    → HaveFlags m0.states gs → (W : ℕ → Bool)
    → ((s : ℕ) → s < m0.states → turned q (is_member (meaning m0 ((x, states_where m0 (λ t. turned q (W t))) ∷ gs) f) s) ≡ true → W s ≡ true)
    → (s : ℕ) → s < m0.states → turned q (is_member (meaning m0 gs (formula.Binder q x f)) s) ≡ true → W s ≡ true
meaning_within Least m0 gs x f positives flags W contained s low is =
    sym (U_is s low) ∙ least_within m0 x f gs U positives flags U_long keeps s is
  where
    U : StateSet
    U = states_where m0 W

    U_is : (t : ℕ) → t < m0.states → is_member (states_where m0 W) t ≡ W t
    U_is t t_low = member_where m0 W t t_low

    U_long : length (states_where m0 W) ≡ m0.states
    U_long = length-map-range_with_len W 0 m0.states

    keeps : Within (meaning m0 ((x, states_where m0 W) ∷ gs) f) (states_where m0 W)
    keeps k inside =
        let below = member_below (meaning m0 ((x, states_where m0 W) ∷ gs) f) k inside in
        let k_low : k < m0.states = omega (arith, below, meaning_flags m0 ((x, states_where m0 W) ∷ gs) f (U_long, flags)) in
        U_is k k_low ∙ contained k k_low inside
meaning_within Greatest m0 gs x f positives flags W contained s low is =
    ⊎_elim
    (λ (yes_w : W s ≡ true). yes_w)
    (λ (no_w : W s ≡ false). absurd (no_true _ is (greatest_around m0 x f gs (states_where m0 (λ t. not (W t))) positives flags U_long keeps s (U_is s low ∙ ap not no_w))))
    (cases_Bool (W s))
  where
    U_is : (t : ℕ) → t < m0.states → is_member (states_where m0 (λ n. not (W n))) t ≡ not (W t)
    U_is t t_low = member_where m0 (λ n. not (W n)) t t_low

    U_long : length (states_where m0 (λ t. not (W t))) ≡ m0.states
    U_long = length-map-range_with_len (λ t. not (W t)) 0 m0.states

    keeps : Within (states_where m0 (λ t. not (W t))) (meaning m0 ((x, states_where m0 (λ t. not (W t))) ∷ gs) f)
    keeps k inside =
        let below = member_below (states_where m0 (λ t. not (W t))) k inside in
        let k_low : k < m0.states = omega (arith, below, U_long) in
        ⊎_elim
        (λ (in_it : is_member (meaning m0 ((x, states_where m0 (λ t. not (W t))) ∷ gs) f) k ≡ true). in_it)
        (λ (out : is_member (meaning m0 ((x, states_where m0 (λ t. not (W t))) ∷ gs) f) k ≡ false).
        absurd (no_true (W k) (sym (U_is k k_low) ∙ inside) (contained k k_low (ap not out))))
        (cases_Bool (is_member (meaning m0 ((x, states_where m0 (λ t. not (W t))) ∷ gs) f) k))

module _ (m0 : Structure) (gs : Given) (q : Fixpoint) (x : List ℕ) (f : Formula) (g : Graph) (m : Structure) (k : ℕ) (bs : Around) (b : ℕ)
    (w : Situation m0 gs (formula.Binder q x f) g m k bs b) (e : Bool) where
  abbrev own : ℕ
  own = node_of e b

  abbrev body_node : ℕ
  body_node = node_of e (b + 1)

  abbrev at : ℕ → ℕ
  at s = vertex_number g m (Pair s own)

  abbrev body : ℕ → ℕ
  body s = vertex_number g m (Pair s body_node)

  abbrev Here : ℕ → Type 0
  Here = Region m0 gs q x f g m k bs b w e

  abbrev G : ParityGame
  G = checking_game g m

  own_size : own < size g
  own_size = by_sign e
    where
      by_sign : (d : Bool) → node_of d b < size g
      by_sign true = omega (arith, w.room)
      by_sign false = omega (arith, w.room)

  body_size : body_node < size g
  body_size = by_sign e
    where
      more : 2 * (b + 1) + 2 ≤ size g
      more = let some = some_occurrence f in omega (arith, w.room, some)

      by_sign : (d : Bool) → node_of d (b + 1) < size g
      by_sign true = omega (arith, more)
      by_sign false = omega (arith, more)

  leads_by : (d : Bool) → node_at g (node_of d b) ≡ node.And (node_of d (b + 1)) (node_of d (b + 1))
  leads_by true = w.stands.0.0
  leads_by false = w.stands.1.0

  priority_by : (d : Bool) → priority_at g (node_of d b) ≡ priority_of_sign q d (length bs)
  priority_by true = w.stands.0.1
  priority_by false = w.stands.1.1

  region_low : (v : ℕ) → Here v → v < length G.owner
  region_low v (inl i) = subst (λ n. n < length G.owner) (sym i.1.0) (vertex_low g m w.is_graph w.is_structure i.0 (inside_vertex m0 gs q x f g m k bs b w e i.0 i.1.1))
  region_low v (inr i) = subst (λ n. n < length G.owner) (sym i.1.0) (vertex_low g m w.is_graph w.is_structure i.0 (ended_vertex m0 gs q x f g m k bs b w e i.0 i.1.1))

  in_m : (s : ℕ) → s < m0.states → s < m.states
  in_m s low = omega (arith, low, w.same_states)

  own_inside : (s : ℕ) → s < m0.states → Here (at s)
  own_inside s low = inl (Pair s own, (refl, at_inside m0 gs q x f g m k bs b w e s (in_m s low)))

  leads : (s : ℕ) → s < m0.states → (v : ℕ) → HasMove G (at s) v → v ≡ body s
  leads s low v move =
      let image = game_moves m0 gs q x f g m k bs b w e (Pair s own) (in_m s low, own_size) v move in
      image.holds ∙ from image.from (subst (λ y. IsMember image.from (successors_of g m s y)) (leads_by e) image.member)
    where
      from : (u : Vertex) → IsMember u (Pair s body_node ∷ Pair s body_node ∷ []) → vertex_number g m u ≡ body s
      from u (inl same) = ap (vertex_number g m) same
      from u (inr (inl same)) = ap (vertex_number g m) same
      from u (inr (inr none)) = absurd none

  sink_apart : (p : ℕ) → p < 2 → (s : ℕ) → s < m0.states → at s ≢ vertex_number g m (Sink p)
  sink_apart p p_low s low same =
      not_ended m0 gs q x f g m k bs b w e s (in_m s low) (Sink p, (same, is_sink p p_low))

  a_sink : (p : Player) → IsSinkOf G p Here m0.states at (vertex_number g m (Sink (sink_of p)))
  a_sink p = record {
    inside = inr (Sink (sink_of p), (refl, is_sink (sink_of p) (sink_low p)));
    stays = moves_are g m (Sink (sink_of p)) (sink_low p);
    good = ap side (priority_is g m (Sink (sink_of p)) (sink_low p)) ∙ sink_side p;
    apart = sink_apart (sink_of p) (sink_low p);
  }

  abbrev ours : ℕ
  ours = vertex_number g m (Sink (sink_of (loser q e)))

  abbrev theirs : ℕ
  theirs = vertex_number g m (Sink (sink_of (opponent (loser q e))))

  binder : Binder G (loser q e) Here m0.states at body ours theirs
  binder = record {
    is_game = is_game g m w.is_graph w.is_structure;
    below = region_low;
    closed = λ v y r move. region_stays m0 gs q x f g m k bs b w e v y r move;
    inside = own_inside;
    leads = leads;
    recurs = λ l play j late low s s_low here. recurs m0 gs q x f g m k bs b w e l play j late low s (in_m s s_low) here ∙ ap side (priority_by e) ∙ bad_priority q e (length bs);
    ours_is = a_sink (loser q e);
    theirs_is = a_sink (opponent (loser q e));
  }

  least : IsLeast G (loser q e) Here m0.states at body ours theirs
  least = least_of G (loser q e) Here m0.states at body ours theirs binder

  -- ---- the game with the verdicts of a set

  module _ (U : StateSet) (long : length U ≡ m0.states) where
    abbrev name : List ℕ
    name = fresh g m f

    abbrev gU : Graph
    gU = cut g b name

    abbrev mU : Structure
    mU = marked m name U

    abbrev H : ParityGame
    H = checking_game gU mU

    inside_b : negative b < size g
    inside_b = omega (arith, w.room)

    gU_ok : IsGraph gU
    gU_ok = opened_graph m0 gs q x f g m k bs b w U long

    mU_ok : IsStructure mU
    mU_ok = telling_structure m0 gs q x f g m k bs b w U long

    size_same : size gU ≡ size g
    size_same = cut_size g b name inside_b

    number_same : (u : Vertex) → vertex_number gU mU u ≡ vertex_number g m u
    number_same (Pair s n) = ap (λ z. s * z + n) size_same
    number_same (Sink p) = ap (λ z. m.states * z + p) size_same

    vertex_same : (u : Vertex) → IsVertex g m u → IsVertex gU mU u
    vertex_same (Pair s n) is = (is.0, omega (arith, is.1, size_same))
    vertex_same (Sink p) is = is

    -- nodes that aren't the binder's are as they were
    successors_same : (s : ℕ) → s < m.states → (n : ℕ) → n < size g → (y : Node) → node_at g n ≡ y → successors_of gU mU s y ≡ successors_of g m s y
    successors_same s low n n_low node.True is = refl
    successors_same s low n n_low node.False is = refl
    successors_same s low n n_low (node.Lit p sign) is =
        let p_low = prop_in_range g w.is_graph n n_low p sign is in
        let same : lists mU s (prop_at gU p) ≡ lists m s (prop_at g p) =
        ap (lists mU s) (cut_prop g b name inside_b p p_low) ∙ marked_others m name U s (prop_at g p) low (prop_short g m f p p_low) in
        ap (λ c. Sink (if beq c sign then 0 else 1) ∷ []) same
    successors_same s low n n_low (node.And l r) is = refl
    successors_same s low n n_low (node.Or l r) is = refl
    successors_same s low n n_low (node.Diamond a to) is = refl
    successors_same s low n n_low (node.Square a to) is = refl

    record IsFree (u : Vertex) : Type 0 where
      pub is_vertex : IsVertex g m u
      pub owner_same : owner_at gU u ≡ owner_at g u
      pub moves_same : successors gU mU u ≡ successors g m u

    free_pair : (s n : ℕ) → s < m.states → n < size g → n ≢ positive b → n ≢ negative b → IsFree (Pair s n)
    free_pair s n low n_low not_p not_n =
        let same = cut_others g b name inside_b n not_p not_n in
        record {
          is_vertex = (low, n_low);
          owner_same = ap mover same;
          moves_same = ap (successors_of gU mU s) same ∙ successors_same s low n n_low (node_at g n) refl;
        }

    free_inside : (u : Vertex) → IsInside m0 gs q x f g m k bs b w e u → ((s : ℕ) → s < m0.states → at s ≢ vertex_number g m u) → IsFree u
    free_inside u (is_inside s n low (inl own_is)) none =
        absurd (none s (omega (arith, low, w.same_states)) (ap (λ j. vertex_number g m (Pair s j)) (sym own_is)))
    free_inside u (is_inside s n low (inr deeper)) none =
        let range = below_range f (b + 1) e n deeper in
        free_pair s n low (omega (arith, range.1, w.room)) (λ same. omega (arith, same, range.0)) (λ same. omega (arith, same, range.0))

    free_ended : (u : Vertex) → IsEnded m0 gs q x f g m k bs b w e u → IsFree u
    free_ended u (is_outer s n low h) =
        let n_low = outer_low b bs n w.outside h in
        free_pair s n low (omega (arith, n_low, inside_b)) (λ same. omega (arith, same, n_low)) (λ same. omega (arith, same, n_low))
    free_ended u (is_sink p low) = record { is_vertex = low; owner_same = refl; moves_same = refl }

    free : (v : ℕ) → Here v → ((s : ℕ) → s < m0.states → at s ≢ v) → (u : Vertex) × ((v ≡ vertex_number g m u) × IsFree u)
    free v (inl i) none = (i.0, (i.1.0, free_inside i.0 i.1.1 (λ s low same. none s low (same ∙ sym i.1.0))))
    free v (inr i) none = (i.0, (i.1.0, free_ended i.0 i.1.1))

    here_vertex : (v : ℕ) → Here v → (u : Vertex) × ((v ≡ vertex_number g m u) × IsVertex g m u)
    here_vertex v (inl i) = (i.0, (i.1.0, inside_vertex m0 gs q x f g m k bs b w e i.0 i.1.1))
    here_vertex v (inr i) = (i.0, (i.1.0, ended_vertex m0 gs q x f g m k bs b w e i.0 i.1.1))

    at_number : (v : ℕ) (u : Vertex) → v ≡ vertex_number g m u → v ≡ vertex_number gU mU u
    at_number v u is = is ∙ sym (number_same u)

    priority_same : (u : Vertex) → priority_at_vertex gU u ≡ priority_at_vertex g u
    priority_same (Pair s n) = refl
    priority_same (Sink p) = refl

    own_literal : (d : Bool) → node_at gU (node_of d b) ≡ node.Lit (length g.props) d
    own_literal true = cut_positive g b name inside_b
    own_literal false = cut_negative g b name inside_b

    one_verdict : (c : Bool) (i j : ℕ) → vertex_number g m (Sink (if c then i else j)) ≡ (if c then vertex_number g m (Sink i) else vertex_number g m (Sink j))
    one_verdict true i j = refl
    one_verdict false i j = refl

    told_move : (s : ℕ) → s < m0.states
        → moves_of H (at s) ≡ (if turned q (is_member U s) then ours else theirs) ∷ []
    told_move s low =
        let is : IsVertex gU mU (Pair s own) = (in_m s low, omega (arith, own_size, size_same)) in
        let value = told_value m0 gs q x f g m k bs b w U long s (in_m s low) in
        let u : Bool = is_member U s in
        let sink : successors_of gU mU s (node_at gU own) ≡ Sink (if beq u e then 0 else 1) ∷ [] =
        ap (successors_of gU mU s) (own_literal e) ∙ ap (λ c. Sink (if beq c e then 0 else 1) ∷ []) value in
        let last : vertex_number gU mU (Sink (if beq u e then 0 else 1)) ≡ (if turned q u then ours else theirs) =
        number_same (Sink (if beq u e then 0 else 1)) ∙ ap (λ p. vertex_number g m (Sink p)) (told_sink q e u)
        ∙ one_verdict (turned q u) (sink_of (loser q e)) (sink_of (opponent (loser q e))) in
        let moves : moves_of H (at s) ≡ map (vertex_number gU mU) (Sink (if beq u e then 0 else 1) ∷ []) =
        ap (moves_of H) (at_number (at s) (Pair s own) refl) ∙ moves_are gU mU (Pair s own) is ∙ ap (map (vertex_number gU mU)) sink in
        moves ∙ ap (λ n. n ∷ []) last

    verdicts : (V : ℕ → Bool) → ((s : ℕ) → s < m0.states → V s ≡ turned q (is_member U s)) → HasVerdicts G H Here m0.states at ours theirs V
    verdicts V same = record {
      is_game = is_game gU mU gU_ok mU_ok;
      sizes = length-map (vertices gU mU) (owner_at gU) ∙ vertices-length gU mU ∙ ap (λ z. m.states * z + 2) size_same ∙ sym (length-map (vertices g m) (owner_at g) ∙ vertices-length g m);
      priorities = λ v r. let u = here_vertex v r in
          ap (priority_of H) (at_number v u.0 u.1.0) ∙ priority_is gU mU u.0 (vertex_same u.0 u.1.1) ∙ priority_same u.0 ∙ sym (ap (priority_of G) u.1.0 ∙ priority_is g m u.0 u.1.1);
      owners = λ v r none. let u = free v r none in
          ap (owner_of H) (at_number v u.0 u.1.0) ∙ owner_is gU mU u.0 (vertex_same u.0 u.1.1.is_vertex) ∙ u.1.1.owner_same ∙ sym (ap (owner_of G) u.1.0 ∙ owner_is g m u.0 u.1.1.is_vertex);
      others = λ v r none. let u = free v r none in
          ap (moves_of H) (at_number v u.0 u.1.0) ∙ moves_are gU mU u.0 (vertex_same u.0 u.1.1.is_vertex)
          ∙ ap (map (vertex_number gU mU)) u.1.1.moves_same ∙ ap (λ h. map h (successors g m u.0)) (fun_ext number_same) ∙ sym (ap (moves_of G) u.1.0 ∙ moves_are g m u.0 u.1.1.is_vertex);
      told = λ s low. told_move s low ∙ ap (λ c. (if c then ours else theirs) ∷ []) (sym (same s low));
    }

    -- what the set makes, by the body's meaning with it
    made : Agree m0 ((x, U) ∷ gs) f gU mU (b + 1) → (s : ℕ) → s < m0.states
        → Says (Wins H (loser q e) (body s)) (turned q (is_member (meaning m0 ((x, U) ∷ gs) f) s))
    made agree s low =
        subst (λ n. Says (Wins H (loser q e) n) (turned q (is_member (meaning m0 ((x, U) ∷ gs) f) s))) (number_same (Pair s body_node))
        (value_wins gU mU gU_ok mU_ok s body_node (in_m s low) (omega (arith, body_size, size_same)) q e (is_member (meaning m0 ((x, U) ∷ gs) f) s) (by_sign e))
      where
        by_sign : (d : Bool) → Says (HoldsAt gU mU s (node_of d (b + 1))) (signed d (is_member (meaning m0 ((x, U) ∷ gs) f) s))
        by_sign true = agree.holds s low
        by_sign false = agree.fails s low

  -- ---- the binder's set is its meaning

  abbrev L : Player
  L = loser q e

  abbrev M : StateSet
  M = meaning m0 gs (formula.Binder q x f)

  M_long : length M ≡ m0.states
  M_long = meaning_flags m0 gs (formula.Binder q x f) w.flags

  at_low : (s : ℕ) → s < m0.states → at s < length G.owner
  at_low s low = region_low (at s) (own_inside s low)

  -- at which states that player wins, as a test
  who : Winners G
  who = winners G (is_game g m w.is_graph w.is_structure)

  abbrev W : ℕ → Bool
  W s = same_player (who.win (at s)) L

  W_says : (s : ℕ) → s < m0.states → (W s ≡ true) ↔ Wins G L (at s)
  W_says s low = (
    λ is. won G who L (at s) (at_low s low) (same_player-from_true (who.win (at s)) L is),
    λ wins. same_player-true (who.win (at s)) L (who.only (at s) L (at_low s low) wins),
  )

  turn_back : (r : Fixpoint) (c : Bool) → turned r (turned r c) ≡ c
  turn_back Least c = refl
  turn_back Greatest true = refl
  turn_back Greatest false = refl

  abbrev U : StateSet
  U = states_where m0 (λ s. turned q (W s))

  U_long : length U ≡ m0.states
  U_long = length-map-range_with_len (λ s. turned q (W s)) 0 m0.states

  U_is : (s : ℕ) → s < m0.states → is_member U s ≡ turned q (W s)
  U_is s low = member_where m0 (λ t. turned q (W t)) s low

  module _ (ih : (V : StateSet) (long : length V ≡ m0.states)
      → Agree m0 ((x, V) ∷ gs) f (cut g b (fresh g m f)) (marked m (fresh g m f) V) (b + 1)) where
    -- the set at which that player wins contains what it makes
    contained : (s : ℕ) → s < m0.states → turned q (is_member (meaning m0 ((x, U) ∷ gs) f) s) ≡ true → W s ≡ true
    contained s low is =
        least.contains W (checking_game (cut g b (fresh g m f)) (marked m (fresh g m f) U)) W_says
        (verdicts U U_long W (λ t t_low. sym (ap (turned q) (U_is t t_low) ∙ turn_back q (W t)))) s low
        ((made U U_long (ih U U_long) s low).1 is)

    fixed : meaning m0 ((x, M) ∷ gs) f ≡ M
    fixed = meaning_fixpoint m0 q x f gs w.positives w.flags

    -- and lies within the set of the binder's meaning
    within : (s : ℕ) → s < m0.states → Wins G L (at s) → turned q (is_member M s) ≡ true
    within s low wins =
        least.within (λ t. turned q (is_member M t)) (checking_game (cut g b (fresh g m f)) (marked m (fresh g m f) M))
        (verdicts M M_long (λ t. turned q (is_member M t)) (λ t t_low. refl))
        (λ t t_low made_wins. sym (ap (λ S. turned q (is_member S t)) fixed) ∙ (made M M_long (ih M M_long) t t_low).0 made_wins)
        s low wins

    back : (s : ℕ) → s < m0.states → turned q (is_member M s) ≡ true → W s ≡ true
    back s low is = meaning_within q m0 gs x f w.positives w.flags W contained s low is

    says : (s : ℕ) → s < m0.states → Says (Wins G L (at s)) (turned q (is_member M s))
    says s low = (within s low, λ is. (W_says s low).0 (back s low is))

    pub signed_says : (s : ℕ) → s < m0.states → Says (HoldsAt g m s own) (signed e (is_member M s))
    signed_says s low = wins_value g m w.is_graph w.is_structure s own (in_m s low) own_size q e (is_member M s) (says s low)
