-- Lists of nodes make a graph where every number in them is in range.
--
--   IsInRange r      == the number of the reference r is in range
--   Fits n ps acts x == the numbers of the node x are in range, among n nodes and these names
--   AllFit n ps acts xs == so are those of each of these nodes
--   one, two         == one number that is in range, and two
--   led_fit          == two nodes that only lead on fit, and others behind them, where they lead to nodes
--   operator_fits    == the nodes of a connective fit, where those of its operands are nodes
--   none_twice       == no name stands twice among none
--   fitting_graph    == where all nodes fit, the lists make a graph
use Rattle.std.proofs.Common.{◌≡◌, ℕ, ◌+◌, ◌*◌, ◌<◌, ◌≤◌, Bool, true, false, if◌then◌else◌, List, [], ◌∷◌, ◌++◌, length, bytes_eq, All, sym, subst, arith, zero, suc, get_or}
use Rattle.std.specs.List.{flat_map, IsDistinct}
use Rattle.std.proofs.lemmas.List.Concat.{flat_map-cons}
use Rattle.std.proofs.lemmas.List.Elements.{All-append, All-cons, All-nil}
use Rattle.std.proofs.lemmas.Map.Keys.{IsDistinct-tail}
use Rattle.ml_graph.proofs.Places.{one_name}
use Rattle.ml_graph.specs.Graph.{Graph, IsGraph, Reference, references_of, size}
use Rattle.ml_graph.specs.declared.node.Node.{Node}
use Rattle.ml_graph.specs.declared.node.Node.TheVariants as node
use Rattle.ml_text.specs.Operators.{weight}
use Rattle.ml_text.specs.declared.token.Operator.{Operator}
use Rattle.ml_text.specs.declared.token.Operator.TheVariants as operator
use Rattle.ml_nodes.specs.Nodes.{constant, lead_to, negative, positive}
use Rattle.ml_nodes.specs.private.Connectives.{operator_nodes}

abbrev pub IsInRange : Reference → Type 0
IsInRange r = r.number < r.bound

pub one : (k bound : ℕ) → k < bound → All IsInRange (record { number = k; bound = bound } ∷ [])
one k bound low = All-cons IsInRange (record { number = k; bound = bound }) [] low (All-nil IsInRange)

pub two : (k bound j limit : ℕ)
    → k < bound
    → j < limit
    → All IsInRange (record { number = k; bound = bound } ∷ record { number = j; bound = limit } ∷ [])
two k bound j limit low under =
    All-cons IsInRange (record { number = k; bound = bound }) (record { number = j; bound = limit } ∷ []) low
    (one j limit under)

-- the references of all nodes are in range if those of each are
pub all_in_range : (refs : Node → List Reference) (xs : List Node)
    → ((n : ℕ) → n < length xs → All IsInRange (refs (get_or xs n node.True)))
    → All IsInRange (flat_map refs xs)
all_in_range refs [] each = All-nil IsInRange
all_in_range refs (x ∷ xs) each =
    subst (All IsInRange) (sym (flat_map-cons refs x xs))
    (All-append IsInRange (refs x) (flat_map refs xs) (each 0 (omega arith))
    (all_in_range refs xs (λ n low. each (suc n) (omega (arith, low)))))

module _ (n : ℕ) (ps acts : List (List ℕ)) where
  abbrev pub Fits : Node → Type 0
  Fits x = All IsInRange (references_of n (length ps) (length acts) x)

  abbrev pub AllFit : List Node → Type 0
  AllFit [] = Unit {0}
  AllFit (x ∷ xs) = Fits x × AllFit xs

  each_fits : (xs : List Node) → AllFit xs → (k : ℕ) → k < length xs → Fits (get_or xs k node.True)
  each_fits [] fit k low = absurd (omega arith)
  each_fits (x ∷ xs) (fits, others) zero low = fits
  each_fits (x ∷ xs) (fits, others) (suc k) low = each_fits xs others k (omega (arith, low))

  pub both_fit : (xs ys : List Node) → AllFit xs → AllFit ys → AllFit (xs ++ ys)
  both_fit [] ys left right = right
  both_fit (x ∷ xs) ys left right = (left.0, both_fit xs ys left.1 right)

  pub led_fit : (j k : ℕ) (xs : List Node) → j < n → k < n → AllFit xs → AllFit (lead_to j ∷ lead_to k ∷ xs)
  led_fit j k xs low under fit = (two j n j n low low, (two k n k n under under, fit))

  pub constant_fits : (b : Bool) → Fits (constant b)
  constant_fits true = All-nil IsInRange
  constant_fits false = All-nil IsInRange

  pub operator_fits : (op : Operator) (i l r : ℕ)
      → 2 * (i + weight op) ≤ n
      → 2 * l + 1 < n
      → 2 * r + 1 < n
      → AllFit (operator_nodes op i l r)
  operator_fits operator.And i l r here left right = (
    two (positive l) n (positive r) n (omega arith) (omega arith),
    (two (negative l) n (negative r) n (omega arith) (omega arith), tt),
  )
  operator_fits operator.Or i l r here left right = (
    two (positive l) n (positive r) n (omega arith) (omega arith),
    (two (negative l) n (negative r) n (omega arith) (omega arith), tt),
  )
  operator_fits operator.Implies i l r here left right = (
    two (negative l) n (positive r) n (omega arith) (omega arith),
    (two (positive l) n (negative r) n (omega arith) (omega arith), tt),
  )
  operator_fits operator.Iff i l r here left right = (
    two (positive (i + 1)) n (positive (i + 2)) n (omega arith) (omega arith),
    (
      two (negative (i + 1)) n (negative (i + 2)) n (omega arith) (omega arith),
      (
        two (positive l) n (positive r) n (omega arith) (omega arith),
        (
          two (positive l) n (negative r) n (omega arith) (omega arith),
          (
            two (negative l) n (negative r) n (omega arith) (omega arith),
            (two (negative l) n (positive r) n (omega arith) (omega arith), tt),
          ),
        ),
      ),
    ),
  )

pub none_twice : IsDistinct bytes_eq []
none_twice = IsDistinct-tail bytes_eq [] [] (one_name [])

root_low : (negated : Bool) (n : ℕ) → 2 ≤ n → (if negated then 1 else 0) < n
root_low true n two = omega arith
root_low false n two = omega arith

pub fitting_graph : (g : Graph) (negated : Bool)
    → 2 ≤ size g
    → length g.priorities ≡ size g
    → AllFit (size g) g.props g.actions g.nodes
    → g.root ≡ (if negated then 1 else 0)
    → IsDistinct bytes_eq g.props
    → IsDistinct bytes_eq g.actions
    → IsGraph g
fitting_graph g negated some priorities fit root props actions =
    let n = size g in
    let refs = references_of n (length g.props) (length g.actions) in
    let low : g.root < n = subst (λ r. r < n) (sym root) (root_low negated n some) in
    record {
      priorities = priorities;
      in_range =
          All-append IsInRange (flat_map refs g.nodes) (record { number = g.root; bound = n } ∷ [])
          (all_in_range refs g.nodes (each_fits n g.props g.actions g.nodes fit)) (one g.root n low);
      props_differ = props;
      actions_differ = actions;
    }
