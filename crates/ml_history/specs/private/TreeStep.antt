-- The history step on trees, in four passes. Only private contracts cite this: what a step makes of a history is said
-- in HistoryStep, of the list of its items.
--
-- One stack beats another exactly where its state lies before that of the other in the tree, in the order in which
-- states are listed: children first, older siblings before younger ones. So no stacks are compared: the first offer to
-- a state, in this order, is the best one.
--
--   targets l acc q        == the states to which transitions of the letter l lead from q, accepting ones or others
--   leads_from acc q t     == t is such a transition
--   moved r targets tail f == 1. the tree of all offers: a vertex keeps the targets of its states along other
--                             transitions, and the targets along accepting ones go to a new youngest child, with the
--                             name r + x at a vertex x. Behind the roots of f stand those of `tail`
--   nobody, with_one, with_all == tests: of no state, of one state more, of some states more
--   news seen qs           == the states qs without those that pass the test or stood before
--   fresh seen f           == 2. the tree f without the states that pass the test, and without repeats: a state stays
--                             where it lies first
--   lay, lay_full          == a vertex over children that are settled: without states in its subtree it goes, and where
--                             no state lies at it, it takes all of its subtree
--   settled f              == 3. all vertices so, from below: each stack is cut after its first full name
--   full_here age own qs   ==    the name of a vertex at which the states own lie, over the states qs, where it is full
--   fulls f                ==    the names of the full vertices of f, of those too that lie below others
--   renewed n f            == 4. the ages through the function n, and the states of each vertex in their order
--   walked f l             == the tree after the first two passes
--   beside f g             == the siblings f, and behind them the siblings g
--   seen_by set            == the test for the states of a set that a program holds
--   flagged flags          == the test for the numbers whose flags are set
--   Laid                   == what a walk over a forest makes: the settled tree of first offers, with the states that
--                             are seen then, and the full names
use Rattle.std.specs.Prelude.{◌≡◌, ℕ, ◌+◌, Bool, true, false, not, ◌&&◌, ◌||◌, if◌then◌else◌, ◌==◌, nat_eq, List, [], ◌∷◌, ◌++◌, map, filter, slice_index_or}
use Rattle.std.specs.HashSet.{HashSet, contains}
use Rattle.std.specs.List.{flat_map}
use Rattle.ml_lists.specs.Ascending.{ascending}
use Rattle.ml_trace.specs.declared.letters.Transition.{Transition}
use Rattle.ml_history.specs.private.Forest.{Forest, Empty, Tree, states, items}
use Rattle.ml_history.specs.HistoryStep.{live}

-- ---- 1. offers

-- the transition leads from q, and accepts or does not
abbrev pub leads_from : Bool → ℕ → Transition → Bool
leads_from accepting q t = (t.from == q) && (if accepting then t.accepting else not t.accepting)

-- the states to which transitions of the letter lead from q, accepting ones or others
abbrev pub targets : List Transition → Bool → ℕ → List ℕ
targets letter accepting q = map (λ (t : Transition). t.to) (filter (leads_from accepting q) letter)

-- the tree of all offers, where r names are in use, with the roots of `tail` behind those of the forest
abbrev pub moved : ℕ → (Bool → ℕ → List ℕ) → Forest → Forest → Forest
moved r to tail Empty = tail
moved r to tail (Tree age own children younger) =
    Tree age (flat_map (to false) own) (moved r to (Tree (r + age) (flat_map (to true) own) Empty Empty) children)
    (moved r to tail younger)

-- ---- 2. the first offer to each state

-- the test of no state
abbrev pub nobody : ℕ → Bool
nobody q = false

-- the test of p, and of those that pass
abbrev pub with_one : ℕ → (ℕ → Bool) → ℕ → Bool
with_one p seen q = (p == q) || seen q

-- the test of the states ps, and of those that pass
abbrev pub with_all : List ℕ → (ℕ → Bool) → ℕ → Bool
with_all [] seen = seen
with_all (p ∷ ps) seen = with_all ps (with_one p seen)

-- the states without those that pass the test or stood before
abbrev pub news : (ℕ → Bool) → List ℕ → List ℕ
news seen [] = []
news seen (q ∷ qs) = if seen q then news seen qs else q ∷ news (with_one q seen) qs

-- the tree without the states that pass the test, and without repeats: a state stays where it lies first
abbrev pub fresh : (ℕ → Bool) → Forest → Forest
fresh seen Empty = Empty
fresh seen (Tree age own children younger) =
    Tree age (news (with_all (states children) seen) own) (fresh seen children)
    (fresh (with_all own (with_all (states children) seen)) younger)

-- ---- 3. full vertices

-- a vertex at which no state lies, over these states: it takes them all, or goes where there are none
abbrev pub lay_full : ℕ → List ℕ → Forest → Forest
lay_full age [] younger = younger
lay_full age (q ∷ qs) younger = Tree age (q ∷ qs) Empty younger

-- a vertex over children that are settled
abbrev pub lay : ℕ → List ℕ → Forest → Forest → Forest
lay age [] children younger = lay_full age (states children) younger
lay age (q ∷ qs) children younger = Tree age (q ∷ qs) children younger

-- each vertex without states in its subtree goes, and each at which no state lies takes all of its subtree
abbrev pub settled : Forest → Forest
settled Empty = Empty
settled (Tree age own children younger) = lay age own (settled children) (settled younger)

-- the name, where no state lies at its vertex and some in its subtree
abbrev pub full_here : ℕ → List ℕ → List ℕ → List ℕ
full_here age [] [] = []
full_here age [] (q ∷ qs) = age ∷ []
full_here age (p ∷ ps) below = []

-- the names of the full vertices
abbrev pub fulls : Forest → List ℕ
fulls Empty = []
fulls (Tree age own children younger) = fulls children ++ (full_here age own (states children) ++ fulls younger)

-- ---- 4. new numbers

-- the ages through the function, and the states of each vertex in their order
abbrev pub renewed : (ℕ → ℕ) → Forest → Forest
renewed n Empty = Empty
renewed n (Tree age own children younger) = Tree (n age) (ascending own) (renewed n children) (renewed n younger)

-- ---- together

-- the tree of the first offers to each state
abbrev pub walked : Forest → List Transition → Forest
walked f letter = fresh nobody (moved (live (items f)) (targets letter) Empty f)

-- ---- in the program

-- the siblings f, and behind them the siblings g
abbrev pub beside : Forest → Forest → Forest
beside Empty g = g
beside (Tree age own children younger) g = Tree age own children (beside younger g)

-- the test for the states of a set that a program holds
abbrev pub seen_by : {S : Type 0} → HashSet ℕ S → ℕ → Bool
seen_by set q = contains nat_eq set q

-- the test for the numbers whose flags are set
abbrev pub flagged : List Bool → ℕ → Bool
flagged flags y = slice_index_or flags y false

-- what the walk over the forest f of all offers makes, where the states of the test `before` are seen and the names
-- `names` are known to be full: the settled tree `row`, with the states that are seen then and the full names
pub record Laid (before : ℕ → Bool) (names : List ℕ) (f : Forest) (row : Forest) (after : ℕ → Bool)
    (full : List ℕ) : Type 0 where
  pub row_is : row ≡ settled (fresh before f)
  pub seen_is : after ≡ with_all (states f) before
  pub full_is : full ≡ names ++ fulls (fresh before f)
