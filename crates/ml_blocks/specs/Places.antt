-- The nodes of the graph of a formula of CTL* or LTL, as values.
--
-- Outside of quantifiers a formula says something of a state, and so do constants, propositions and quantifiers
-- everywhere: each such occurrence has a node for itself and one for its negation. A quantifier leads to a block. A
-- positive block says that some path satisfies all its items; a negative one that no path does, and is its dual, node by
-- node. A block decomposes its least item that is no X until only what is asked of the next place is left: then it goes
-- along an edge, with that.
--
-- Eventualities may be put off, but not for ever. The eventualities of a block's quantifier take turns in focus: at an
-- edge the focus moves on, unless the one in focus is put off. So one that is put off for ever stays in focus in the end,
-- and the priority of its edges is odd, as that of all other nodes of a positive block.
--
-- The root asks beside the problem that each state have an edge.
--
--   Block             == the item that its quantifier begins with, its sign, its items, which eventuality is in focus
--   Place             == the nodes: the root and its part on edges, constants, those of states, blocks
--   Form              == what a node is, and to which nodes it leads
--   path_of b xs k    == the node of the block b with the items xs and the focus k instead
--   form_of p         == what the node p is
--   priority_of p     == its priority
--   forms             == both
use Rattle.std.specs.Prelude.{ℕ, ◌+◌, ◌%◌, ◌==◌, ◌&&◌, Bool, true, false, not, if◌then◌else◌, List, [], ◌∷◌, find, length, get_or, Option, None, Some}
use Rattle.std.specs.Bool.{beq}
use Rattle.std.specs.List.{list_any}
use Rattle.ml_nodes.specs.ClosureGraph as closure
use Rattle.ml_nodes.specs.ClosureGraph.{Constant, Literal, And, Diamond, Square, all_of, one_of, form_of_connective}
use Rattle.ml_ctl.specs.Formula.{Formula, Const, Prop, Not, Binary, Quantified, occurrences}
use Rattle.ml_ctl.specs.declared.term.Quantifier.{Quantifier}
use Rattle.ml_ctl.specs.declared.term.Quantifier.TheVariants.{Exists, Forall}
use Rattle.ml_blocks.specs.Items.{Item, now, left_number, Row, row, OfState, Waits, Becomes, Either}
use Rattle.ml_blocks.specs.ItemSets.{due, put_all, without, key, next_items, eventualities}

pub record Block : Type 0 where
  pub first : Item
  pub positive : Bool
  pub items : List Item
  pub focus : ℕ

pub data Place : Type 0 where
  -- the root, before the node that the problem starts with
  Root : (start : Place) → Place
  -- each state has an edge, and so has each that is reached: the two parts of this
  Total HasEdge LeadsOn : Place
  -- the constants that blocks share
  True False : Place
  -- the formula at an occurrence, or its negation
  Holding : (number : ℕ) → Formula → (positive : Bool) → Place
  -- both operands of an iff, and neither; each or its negation
  Both Neither : (number : ℕ) → (left right : Formula) → (positive : Bool) → Place
  Path : Block → Place

-- what a node is, and to which nodes it leads
abbrev pub Form : Type 0
Form = closure.Form Place

abbrev pub leads_to : Place → Form
leads_to p = And p p

-- ---- blocks

-- no items are asked of a path: it is the shared constant
abbrev pub path_of : Block → List Item → ℕ → Place
path_of b [] k = if b.positive then True else False
path_of b (x ∷ xs) k = Path (record { first = b.first; positive = b.positive; items = x ∷ xs; focus = k })

abbrev pub is_wait : Row → Bool
is_wait Waits = true
is_wait _ = false

-- an item that is to be decomposed: neither put off nor an X
abbrev pub is_open : Item → Bool
is_open x = not x.later && not (is_wait (row x))

-- is the eventuality in focus put off?
abbrev pub is_put_off : List ℕ → ℕ → List Item → Bool
is_put_off members k xs = list_any (λ x. x.later && (key (due x) == get_or members k 0)) xs

-- the focus behind an edge, and the priority of the edge's node in a positive block
abbrev pub focus_behind : List ℕ → ℕ → List Item → ℕ
focus_behind [] k xs = 0
focus_behind (e ∷ es) k xs = if is_put_off (e ∷ es) k xs then k else (k + 1) % length (e ∷ es)

abbrev pub edge_priority : List ℕ → ℕ → List Item → ℕ
edge_priority [] k xs = 0
edge_priority (e ∷ es) k xs = if is_put_off (e ∷ es) k xs then 1 else 0

abbrev pub form_of_item : Block → Item → Row → Form
form_of_item b x OfState =
    all_of b.positive (Holding x.number x.formula (beq x.positive b.positive)) (path_of b (without x b.items) b.focus)
form_of_item b x Waits = leads_to (path_of b b.items b.focus)
form_of_item b x (Becomes ys) =
    all_of b.positive (path_of b (put_all ys (without x b.items)) b.focus) (path_of b (put_all ys (without x b.items)) b.focus)
form_of_item b x (Either ys zs) =
    one_of b.positive (path_of b (put_all ys (without x b.items)) b.focus) (path_of b (put_all zs (without x b.items)) b.focus)

abbrev pub form_of_edge : Block → Form
form_of_edge b =
    let behind = path_of b (next_items b.items) (focus_behind (eventualities b.first) b.focus b.items) in
    if b.positive then Diamond behind else Square behind

abbrev pub form_of_block : Block → Option Item → Form
form_of_block b (Some x) = form_of_item b x (row x)
form_of_block b None = form_of_edge b

abbrev pub priority_of_block : Block → Option Item → ℕ
priority_of_block b (Some x) = 1
priority_of_block b None = edge_priority (eventualities b.first) b.focus b.items

abbrev pub first_open : List Item → Option Item
first_open items = find is_open items

-- ---- states

abbrev pub block_of : Item → Bool → Place
block_of first positive = Path (record { first = first; positive = positive; items = first ∷ []; focus = 0 })

-- some path that satisfies f; and no path that satisfies the negation of f
abbrev pub form_of_quantifier : Quantifier → ℕ → Formula → Bool → Form
form_of_quantifier Exists i f positive = leads_to (block_of (now (i + 1) f true) positive)
form_of_quantifier Forall i f positive = leads_to (block_of (now (i + 1) f false) (not positive))

abbrev pub form_of_formula : ℕ → Formula → Bool → Form
form_of_formula i (Const b) sign = Constant (beq b sign)
form_of_formula i (Prop p) sign = Literal p sign
form_of_formula i (Not f) sign = leads_to (Holding (i + 1) f (not sign))
form_of_formula i (Binary op f g) sign =
    let l = left_number i (Binary op f g) in
    form_of_connective op sign (Holding l f) (Holding (l + occurrences f) g) (Both (i + 1) f g) (Neither (i + 2) f g)
form_of_formula i (Quantified q f) sign = form_of_quantifier q i f sign
-- no formula of a state
form_of_formula i _ sign = Constant false

-- ---- all nodes

abbrev pub form_of : Place → Form
form_of (Root start) = And start Total
form_of Total = And HasEdge LeadsOn
form_of HasEdge = Diamond True
form_of LeadsOn = Square Total
form_of True = Constant true
form_of False = Constant false
form_of (Holding i f sign) = form_of_formula i f sign
-- the operands of an iff at j - 1: f and g, or f and not g; and for `Neither`, at j - 2: not f and not g, or not f and g
form_of (Both j f g sign) = And (Holding (j + 2) f true) (Holding (j + 2 + occurrences f) g sign)
form_of (Neither j f g sign) = And (Holding (j + 1) f false) (Holding (j + 1 + occurrences f) g (not sign))
form_of (Path b) = form_of_block b (first_open b.items)

abbrev pub priority_of : Place → ℕ
priority_of Total = 0
priority_of (Path b) = priority_of_block b (first_open b.items) + (if b.positive then 0 else 1)
priority_of _ = 2

abbrev pub forms : closure.Forms Place
forms = record { form_of = form_of; priority_of = priority_of }
