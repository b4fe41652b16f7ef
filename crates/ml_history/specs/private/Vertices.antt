-- What the vertices that a program holds are seen as.
--
-- A vertex is seen with its age, the states that lie at it, and the forest of its children; some siblings, as the list
-- of these, stand for one forest.
--
--   Rooted           == a vertex: its age, the states that lie at it, and its children
--   joined vs        == the siblings vs as a forest
--   vertices f       == how many vertices f has
--   IsKept f         == f is the tree of a history whose states have numbers below 2^30
--   rooted_code      == the code by which proofs tell vertices apart; it says nothing that a reader needs
use Rattle.std.specs.Prelude.{◌≡◌, ℕ, zero, suc, ◌+◌, ◌<◌, ◌≤◌, ◌^◌, List, [], ◌∷◌, ◌++◌, refl}
use Rattle.std.specs.Coded.{Coded, code_by, coded×, coded_ℕ, coded_list}
use Rattle.std.proofs.Common.{arith, sym, ◌∙◌, ap, append_assoc}
use Rattle.std.proofs.lemmas.List.{append-nil}
use denote.Param.Weighed.{most}
use Rattle.ml_lists.specs.Member.{IsMember}
use Rattle.ml_history.specs.private.Forest.{Forest, Empty, Tree, states, IsProper}

-- a vertex: its age, the states that lie at it, and its children
pub record Rooted : Type 0 where
  pub age : ℕ
  pub own : List ℕ
  pub children : Forest

-- the siblings as a forest
abbrev pub joined : List Rooted → Forest
joined [] = Empty
joined (v ∷ vs) = Tree v.age v.own v.children (joined vs)

-- how many vertices the forest has
abbrev pub vertices : Forest → ℕ
vertices Empty = 0
vertices (Tree age own children younger) = (vertices children + vertices younger) + 1

-- f is the tree of a history whose states have numbers below 2^30
pub record IsKept (f : Forest) : Type 0 where
  pub proper : IsProper f
  pub small : (q : ℕ) → IsMember q (states f) → q < 2 ^ 30

-- ---- the measure of a vertex

pub most-vertices : (vs : List Rooted) → most (λ v. vertices v.children + 1) vs ≤ vertices (joined vs)
most-vertices [] = omega arith
most-vertices (v ∷ vs) = omega (arith, most-vertices vs)

-- ---- the code of a forest

-- the forests read so far, the last one first, behind one symbol more: 0 for the empty forest, or the age of a vertex
-- and one more, with the states that lie at it
abbrev pub behind_vertex : ℕ → List ℕ → List Forest → List Forest
behind_vertex age own [] = []
behind_vertex age own (younger ∷ []) = []
behind_vertex age own (younger ∷ children ∷ fs) = Tree age own children younger ∷ fs

abbrev pub behind : ℕ × List ℕ → List Forest → List Forest
behind (zero, own) fs = Empty ∷ fs
behind (suc age, own) fs = behind_vertex age own fs

abbrev pub symbols_of : Forest → List (ℕ × List ℕ)
symbols_of Empty = (0, []) ∷ []
symbols_of (Tree age own children younger) = symbols_of children ++ (symbols_of younger ++ (suc age, own) ∷ [])

abbrev pub read_symbols : List (ℕ × List ℕ) → List Forest → List Forest
read_symbols [] fs = fs
read_symbols (s ∷ ss) fs = read_symbols ss (behind s fs)

abbrev pub first_forest : List Forest → Forest
first_forest [] = Empty
first_forest (f ∷ fs) = f

abbrev pub forest_from : List (ℕ × List ℕ) → Forest
forest_from ss = first_forest (read_symbols ss [])

pub read_symbols-symbols_of : (f : Forest) (ss : List (ℕ × List ℕ)) (fs : List Forest)
    → read_symbols (symbols_of f ++ ss) fs ≡ read_symbols ss (f ∷ fs)
read_symbols-symbols_of Empty ss fs = refl
read_symbols-symbols_of (Tree age own children younger) ss fs =
    ap (λ us. read_symbols us fs) (append_assoc (symbols_of children) (symbols_of younger ++ (suc age, own) ∷ []) ss)
    ∙ read_symbols-symbols_of children ((symbols_of younger ++ (suc age, own) ∷ []) ++ ss) fs
    ∙ ap (λ us. read_symbols us (children ∷ fs)) (append_assoc (symbols_of younger) ((suc age, own) ∷ []) ss)
    ∙ read_symbols-symbols_of younger ((suc age, own) ∷ ss) (children ∷ fs)

pub forest_from-symbols_of : (f : Forest) → forest_from (symbols_of f) ≡ f
forest_from-symbols_of f =
    ap (λ ss. first_forest (read_symbols ss [])) (sym (append-nil (symbols_of f)))
    ∙ ap first_forest (read_symbols-symbols_of f [] [])

abbrev pub forest_code : Coded Forest
forest_code = code_by (List (ℕ × List ℕ)) (coded_list (coded× coded_ℕ (coded_list coded_ℕ))) symbols_of forest_from
    forest_from-symbols_of

abbrev pub rooted_code : Coded Rooted
rooted_code =
    code_by (ℕ × (List ℕ × Forest)) (coded× coded_ℕ (coded× (coded_list coded_ℕ) forest_code))
    (λ v. (v.age, (v.own, v.children))) (λ p. record { age = p.0; own = p.1.0; children = p.1.1 }) (λ v. refl)
