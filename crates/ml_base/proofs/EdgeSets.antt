-- The states with an edge by an action into a set, edge by edge.
--
--   leads a set e           == the edge e leads by the action a into the set
--   some_of es a set s      == some edge of es by the action a leads from the state s into the set
--   some_states es a set n  == the states at which it is so, of n
--   no_edges                == without edges: no state
--   edge_more, edge_kept    == an edge that leads into the set, and one that doesn't
--   in_range                == the ends of an edge that stands in a list of edges between states
use Rattle.std.proofs.Common.{◌≡◌, ◌==◌, ℕ, ◌+◌, ◌<◌, Bool, true, false, ◌&&◌, ◌||◌, List, [], length, map, replicate, take, get_or, set, All, refl, sym, ap, ◌∙◌, subst, eq-eqb}
use Rattle.std.specs.List.{list_any, range_with_len}
use Rattle.std.specs.Str.{bytes_eq}
use Rattle.std.proofs.lemmas.Bool.{ne_eqb}
use Rattle.std.proofs.lemmas.List.Folds.{list_any_more}
use Rattle.ml_lists.proofs.Tables.{table_const, table_set, table_same}
use Rattle.ml_base.specs.declared.structure.Edge.{Edge}
use Rattle.ml_base.specs.Structure.{StateSet, is_member}

-- does the edge lead by the action into the set?
abbrev pub leads : List ℕ → StateSet → Edge → Bool
leads a flags e = bytes_eq e.action a && is_member flags e.target

abbrev pub some_of : List Edge → List ℕ → StateSet → ℕ → Bool
some_of es a flags s = list_any (λ e. (e.source == s) && bytes_eq e.action a && is_member flags e.target) es

abbrev pub some_states : List Edge → List ℕ → StateSet → ℕ → StateSet
some_states es a flags n = map (some_of es a flags) (range_with_len 0 n)

-- the truth tables of one more edge: o is the flag so far, x says that the edge begins at the state, b that it has
-- the action, and c that it leads into the set
decided : (o x b c : Bool) → (b && c) ≡ true → x ≡ true → (o || (x && b && c)) ≡ true
decided true x b c is here = refl
decided false true true true is here = refl
decided false true true false is here = is
decided false true false c is here = is
decided false false b c is here = cc

elsewhere : (o x b c : Bool) → x ≡ false → (o || (x && b && c)) ≡ o
elsewhere true x b c here = refl
elsewhere false false b c here = refl
elsewhere false true b c here = cc

undecided : (o x b c : Bool) → (b && c) ≡ false → (o || (x && b && c)) ≡ o
undecided true x b c is = refl
undecided false false b c is = refl
undecided false true false c is = refl
undecided false true true c is = is

edges_behind : (es : List Edge) (a : List ℕ) (flags : StateSet) (i : ℕ) (e : Edge) (s : ℕ)
    → i < length es
    → e ≡ get_or es i e
    → some_of (take (i + 1) es) a flags s ≡ (some_of (take i es) a flags s || ((e.source == s) && bytes_eq e.action a && is_member flags e.target))
edges_behind es a flags i e s below is =
    let test : Edge → Bool = λ d. (d.source == s) && bytes_eq d.action a && is_member flags d.target in
    list_any_more test es i e below ∙ ap (λ d. list_any test (take i es) || test d) (sym is)

pub no_edges : (a : List ℕ) (flags : StateSet) (n : ℕ) → replicate n false ≡ some_states [] a flags n
no_edges a flags n = table_const false 0 n

pub edge_more : (es : List Edge) (a : List ℕ) (flags : StateSet) (n i : ℕ) (e : Edge) (before : StateSet)
    → i < length es
    → e ≡ get_or es i e
    → e.source < n → leads a flags e ≡ true → before ≡ some_states (take i es) a flags n
    → set before e.source true ≡ some_states (take (i + 1) es) a flags n
edge_more es a flags n i e before below is within decides so_far =
    ap (λ states. set states e.source true) so_far
    ∙ table_set (some_of (take i es) a flags) (some_of (take (i + 1) es) a flags) n e.source true within
    (edges_behind es a flags i e e.source below is
    ∙ decided (some_of (take i es) a flags e.source) (e.source == e.source) (bytes_eq e.action a)
    (is_member flags e.target) decides (eq-eqb e.source e.source refl))
    (λ s ne. edges_behind es a flags i e s below is
    ∙ elsewhere (some_of (take i es) a flags s) (e.source == s) (bytes_eq e.action a) (is_member flags e.target) (ne_eqb e.source s (λ same. ne (sym same))))

pub edge_kept : (es : List Edge) (a : List ℕ) (flags : StateSet) (n i : ℕ) (e : Edge) (before : StateSet)
    → i < length es
    → e ≡ get_or es i e
    → leads a flags e ≡ false → before ≡ some_states (take i es) a flags n → before ≡ some_states (take (i + 1) es) a flags n
edge_kept es a flags n i e before below is out so_far =
    so_far
    ∙ table_same (some_of (take i es) a flags) (some_of (take (i + 1) es) a flags) 0 n
    (λ s. sym (edges_behind es a flags i e s below is
    ∙ undecided (some_of (take i es) a flags s) (e.source == s) (bytes_eq e.action a) (is_member flags e.target) out))

pub in_range : (es : List Edge) (n i : ℕ) (e : Edge)
    → All (λ d. (d.source < n) × (d.target < n)) es
    → i < length es
    → e ≡ get_or es i e
    → (e.source < n) × (e.target < n)
in_range es n i e all below is = subst (λ (d : Edge). (d.source < n) × (d.target < n)) (sym is) (all i e below)
