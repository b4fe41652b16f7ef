-- Of what form a node is, is decided.
--
--   IsDiamond v q     == the node v is a Diamond that leads to q
--   decided_diamond   == that is decided
--   decided_true      == so is whether a node is True
--   decided_goes      == and to which nodes a node of a block goes on
--   decided_holds     == and whether it is true in a letter
use Rattle.std.proofs.Common.{◌≡◌, ℕ, inl, inr, refl, ap}
use Rattle.ml_lists.proofs.Decided.{Decided, decided_either, decided_number, decided_same}
use Rattle.ml_lists.proofs.Deciding.{decided_truth}
use Rattle.ml_graph.specs.Graph.{Graph, prop_at}
use Rattle.ml_graph.specs.declared.node.Node.{Node}
use Rattle.ml_graph.specs.declared.node.Node.TheVariants as node
use Rattle.ml_word_automaton.specs.Letters.{GoesOn}
use Rattle.ml_word_automaton.specs.WordAutomaton.{IsTrueNode}
use Rattle.ml_word_automaton.specs.Words.{Letter, has}

abbrev pub IsDiamond : Node → ℕ → Type 0
IsDiamond v q = (a : ℕ) × (v ≡ node.Diamond a q)

-- to where a Diamond leads
abbrev target : ℕ → Node → ℕ
target q (node.Diamond a p) = p
target q v = q

pub decided_diamond : (v : Node) (q : ℕ) → Decided (IsDiamond v q)
decided_diamond (node.Diamond a p) q =
    decided_same (λ (same : p ≡ q). (a, (λ j. node.Diamond a (same j))))
    (λ (is : IsDiamond (node.Diamond a p) q). ap (target q) is.1)
    (decided_number p q)
decided_diamond node.True q = inr (λ is. let wrong = is.1 in cc)
decided_diamond node.False q = inr (λ is. let wrong = is.1 in cc)
decided_diamond (node.Lit p b) q = inr (λ is. let wrong = is.1 in cc)
decided_diamond (node.And l r) q = inr (λ is. let wrong = is.1 in cc)
decided_diamond (node.Or l r) q = inr (λ is. let wrong = is.1 in cc)
decided_diamond (node.Square a p) q = inr (λ is. let wrong = is.1 in cc)

pub decided_true : (v : Node) → Decided (v ≡ node.True)
decided_true node.True = inl refl
decided_true node.False = inr (λ is. cc)
decided_true (node.Lit p b) = inr (λ is. cc)
decided_true (node.And l r) = inr (λ is. cc)
decided_true (node.Or l r) = inr (λ is. cc)
decided_true (node.Diamond a p) = inr (λ is. cc)
decided_true (node.Square a p) = inr (λ is. cc)

pub decided_goes : (v : Node) (n : ℕ) → Decided (GoesOn v n)
decided_goes (node.And l r) n = decided_number n r
decided_goes (node.Or l r) n = decided_either (decided_number n l) (decided_number n r)
decided_goes node.True n = inr (λ none. none)
decided_goes node.False n = inr (λ none. none)
decided_goes (node.Lit p b) n = inr (λ none. none)
decided_goes (node.Diamond a p) n = inr (λ none. none)
decided_goes (node.Square a p) n = inr (λ none. none)

pub decided_holds : (g : Graph) (l : Letter) (v : Node) → Decided (IsTrueNode g l v)
decided_holds g l node.True = inl tt
decided_holds g l (node.Lit p b) = decided_truth (has l (prop_at g p)) b
decided_holds g l node.False = inr (λ none. none)
decided_holds g l (node.And c d) = inr (λ none. none)
decided_holds g l (node.Or c d) = inr (λ none. none)
decided_holds g l (node.Diamond a p) = inr (λ none. none)
decided_holds g l (node.Square a p) = inr (λ none. none)
