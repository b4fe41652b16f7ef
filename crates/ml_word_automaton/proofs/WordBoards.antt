-- The checking game of a block's graph on a word.
--
--   board g f negated w         == the graph, with its closure, and the word as a structure
--   letter_at w i               == the letter at the place i
--   Reads w u i j               == the letters u are read from the place i, and the place j comes behind them
--   reads_joined, reads_repeated, reads_stem, reads_turn == what is read round a word
--   turn_long                   == some letter is on the loop
--   true_won                    == a node that is true in the letter is won by Even
--   won_constant, won_literal   == and a constant or a literal that Even wins is true in it
use Rattle.std.proofs.Common.{ℕ, zero, suc, ◌≡◌, ◌+◌, ◌-◌, ◌<◌, arith, true, false, Bool, List, [], ◌∷◌, ◌++◌, length, get_or, slice_index_or, refl, sym, ap, subst, ◌∙◌, get_or-take, get_or-drop, length-take-le, length-drop}
use Rattle.ml_lists.specs.Repeated.{repeated}
use Rattle.ml_graph.specs.CheckingGame as game
use Rattle.ml_graph.specs.declared.node.Node.{Node}
use Rattle.ml_graph.specs.declared.node.Node.TheVariants as node
use Rattle.ml_graph.specs.Graph.{Graph, node_at, size}
use Rattle.ml_nodes.specs.Nodes.{constant}
use Rattle.ml_trace.specs.WordAutomata.{WordLasso, IsWordLasso, stem, turn}
use Rattle.ml_ctl.specs.Formula.{Formula}
use Rattle.ml_blocks.proofs.BlocksTold.{holds_as}
use Rattle.ml_blocks.proofs.PlaceVertices.{Board}
use Rattle.ml_word_automaton.specs.WordAutomaton.{IsBlockGraph, IsTrueIn, IsTrueNode, start_block}
use Rattle.ml_word_automaton.specs.Words.{Letter, next_letter, word_structure}
use Rattle.ml_word_automaton.proofs.WordPlaces.{next_inner, next_last, word_is_structure, word_is_total}

-- ---- what is read

abbrev pub letter_at : WordLasso Letter → ℕ → Letter
letter_at w i = slice_index_or w.word i []

abbrev pub Reads : WordLasso Letter → List Letter → ℕ → ℕ → Type 0
Reads w [] i j = i ≡ j
Reads w (l ∷ u) i j = (i < length w.word) × (l ≡ letter_at w i) × Reads w u (next_letter w i) j

module _ (w : WordLasso Letter) (ok : IsWordLasso w) where
  pub reads_joined : (u v : List Letter) (i j k : ℕ) → Reads w u i j → Reads w v j k → Reads w (u ++ v) i k
  reads_joined [] v i j k e more = subst (λ n. Reads w v n k) (sym e) more
  reads_joined (l ∷ u) v i j k (low, is, rest) more = (low, is, reads_joined u v (next_letter w i) j k rest more)

  -- the letters u stand in the list from the place i on
  abbrev StandsFrom : List Letter → ℕ → Type 0
  StandsFrom u i = (n : ℕ) → n < length u → get_or u n [] ≡ letter_at w (i + n)

  head_stands : (l : Letter) (u : List Letter) (i : ℕ) → StandsFrom (l ∷ u) i → l ≡ letter_at w i
  head_stands l u i at = let same : i + 0 ≡ i = omega arith in at 0 (omega arith) ∙ ap (letter_at w) same

  tail_stands : (l : Letter) (u : List Letter) (i : ℕ) → StandsFrom (l ∷ u) i → StandsFrom u (suc i)
  tail_stands l u i at n low =
      let same : i + suc n ≡ suc i + n = omega arith in at (suc n) (omega (arith, low)) ∙ ap (letter_at w) same

  reads_along : (u : List Letter) (i j : ℕ) → StandsFrom u i → i + length u ≡ j → j < length w.word → Reads w u i j
  reads_along [] i j at end low = omega (arith, end)
  reads_along (l ∷ u) i j at end low = (
    omega (arith, end, low),
    head_stands l u i at,
    subst (λ n. Reads w u n j) (sym (next_inner w ok i (omega (arith, end, low))))
        (reads_along u (suc i) j (tail_stands l u i at) (omega (arith, end)) low),
  )

  reads_round : (l : Letter) (u : List Letter) (i : ℕ)
      → StandsFrom (l ∷ u) i
      → i + length (l ∷ u) ≡ length w.word
      → Reads w (l ∷ u) i w.loop_start
  reads_round l [] i at end = (omega (arith, end), head_stands l [] i at, next_last w ok i (omega (arith, end)))
  reads_round l (k ∷ u) i at end = (
    omega (arith, end),
    head_stands l (k ∷ u) i at,
    subst (λ n. Reads w (k ∷ u) n w.loop_start) (sym (next_inner w ok i (omega (arith, end))))
        (reads_round k u (suc i) (tail_stands l (k ∷ u) i at) (omega (arith, end))),
  )

  stem_long : length (stem w) ≡ w.loop_start
  stem_long = length-take-le w.loop_start w.word (omega (arith, ok))

  pub reads_stem : Reads w (stem w) 0 w.loop_start
  reads_stem =
      let size = stem_long in
      reads_along (stem w) 0 w.loop_start
      (λ n low.
      let same : n ≡ 0 + n = omega arith in
      get_or-take w.loop_start w.word n [] (omega (arith, size, low)) ∙ ap (letter_at w) same)
      (omega (arith, size)) ok

  pub turn_long : 0 < length (turn w)
  turn_long = let size = length-drop w.loop_start w.word in omega (arith, size, ok)

  pub reads_turn : Reads w (turn w) w.loop_start w.loop_start
  reads_turn = by_turn (turn w) refl
    where
      size : length (turn w) ≡ length w.word - w.loop_start
      size = length-drop w.loop_start w.word

      by_turn : (u : List Letter) → turn w ≡ u → Reads w u w.loop_start w.loop_start
      by_turn [] e = refl
      by_turn (l ∷ u) e =
          let long = ap length (sym e) ∙ size in
          reads_round l u w.loop_start
          (λ n low. ap (λ v. get_or v n []) (sym e) ∙ get_or-drop w.loop_start w.word n [])
          (omega (arith, long, ok))

  pub reads_repeated : (n : ℕ) → Reads w (repeated n (turn w)) w.loop_start w.loop_start
  reads_repeated zero = refl
  reads_repeated (suc n) =
      reads_joined (turn w) (repeated n (turn w)) w.loop_start w.loop_start w.loop_start reads_turn (reads_repeated n)

-- ---- the board

abbrev pub board : (g : Graph) (f : Formula) (negated : Bool) (w : WordLasso Letter)
    → IsBlockGraph g f negated
    → IsWordLasso w
    → Board
board g f negated w is ok = record {
  g = g;
  m = word_structure w;
  root = start_block f negated;
  places = is.is_numbered.0;
  is_graph = is.is_graph;
  is_structure = word_is_structure w ok;
  is_total = word_is_total w ok;
  numbered = is.is_numbered.1;
}

module _ (g : Graph) (f : Formula) (negated : Bool) (w : WordLasso Letter) (is : IsBlockGraph g f negated)
    (ok : IsWordLasso w) (s n : ℕ) (low : s < length w.word) (n_low : n < size g) where
  abbrev B : Board
  B = board g f negated w is ok

  abbrev Won : Type 0
  Won = game.HoldsAt g (word_structure w) s n

  pub true_won : IsTrueIn g (letter_at w s) n → Won
  true_won t = by_node (node_at g n) refl t
    where
      by_node : (x : Node) → node_at g n ≡ x → IsTrueNode g (letter_at w s) x → Won
      by_node node.True e t = (holds_as B s n low n_low node.True e).1 tt
      by_node (node.Lit p positive) e t = (holds_as B s n low n_low (node.Lit p positive) e).1 t
      by_node node.False e none = absurd none
      by_node (node.And l r) e none = absurd none
      by_node (node.Or l r) e none = absurd none
      by_node (node.Diamond a q) e none = absurd none
      by_node (node.Square a q) e none = absurd none

  pub won_constant : (c : Bool) → node_at g n ≡ constant c → Won → IsTrueIn g (letter_at w s) n
  won_constant true e won = subst (IsTrueNode g (letter_at w s)) (sym e) tt
  won_constant false e won = absurd ((holds_as B s n low n_low node.False e).0 won)

  pub won_literal : (p : ℕ) (b : Bool) → node_at g n ≡ node.Lit p b → Won → IsTrueIn g (letter_at w s) n
  won_literal p b e won =
      subst (IsTrueNode g (letter_at w s)) (sym e) ((holds_as B s n low n_low (node.Lit p b) e).0 won)
