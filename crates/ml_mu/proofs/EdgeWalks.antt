-- The states all of whose edges lead into a set.
--
--   every_by_some       == all edges lead into a set where none leads out of it
use Rattle.std.proofs.Common.{◌≡◌, ◌==◌, ℕ, zero, suc, ◌<◌, Bool, true, false, ◌&&◌, ◌||◌, not, List, [], ◌∷◌, length, map, All, refl, ap, ◌∙◌, arith}
use Rattle.std.specs.List.{list_any, list_all, range_with_len}
use Rattle.std.specs.Str.{bytes_eq}
use Rattle.std.proofs.lemmas.List.{get_or-map}
use Rattle.std.proofs.lemmas.Simd.{map-map}
use Rattle.ml_lists.proofs.Tables.{table_same}
use Rattle.ml_base.specs.declared.structure.Edge.{Edge}
use Rattle.ml_base.specs.Structure.{Structure, StateSet, is_member}
use Rattle.ml_mu.specs.Formula.{Diamond, Square}
use Rattle.ml_mu.specs.Meaning.{modal, some_edge, every_edge}

-- one more edge: x says that it begins at the state, y that it has the action, and b and c that it leads into the set
-- and out of it; o and r say of the others that one leads out, and that all lead in
one_out : (x y b c o r : Bool) → c ≡ not b → not o ≡ r → not ((x && y && c) || o) ≡ ((not (x && y) || b) && r)
one_out false y b c o r out others = others
one_out true false b c o r out others = others
one_out true true true c o r out others = ap (λ d. not (d || o)) out ∙ others
one_out true true false c o r out others = ap (λ d. not (d || o)) out

none_out : (a : List ℕ) (flags : StateSet) (s : ℕ) (es : List Edge)
    → All (λ e. e.target < length flags) es
    → not (list_any (λ e. (e.source == s) && bytes_eq e.action a && is_member (map not flags) e.target) es)
    ≡ list_all (λ e. not ((e.source == s) && bytes_eq e.action a) || is_member flags e.target) es
none_out a flags s [] within = refl
none_out a flags s (e ∷ es) within =
    one_out (e.source == s) (bytes_eq e.action a) (is_member flags e.target) (is_member (map not flags) e.target) _ _
    (get_or-map not flags e.target false false (within zero e (omega arith)))
    (none_out a flags s es (λ k d low. within (suc k) d (omega (arith, low))))

pub every_by_some : (m : Structure) (a : List ℕ) (flags : StateSet)
    → All (λ e. e.target < length flags) m.edges
    → map not (modal m Diamond a (map not flags)) ≡ modal m Square a flags
every_by_some m a flags within =
    map-map not (some_edge m a (map not flags)) (range_with_len 0 m.states)
    ∙ table_same (λ s. not (some_edge m a (map not flags) s)) (every_edge m a flags) 0 m.states
    (λ s. none_out a flags s m.edges within)
