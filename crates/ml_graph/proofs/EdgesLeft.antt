-- The edges of a structure, which ascend, walked state by state.
--
--   counted       == the place of the first edge of another state, or the length, counts those before it
--   count_fits    == they are no more than there are
--   all_left      == at first all edges are left
--   edges_of      == those at the beginning that leave the state are the edges of the state
--   left_behind   == the edges behind these are left for the next state
use Rattle.std.proofs.Common.{ℕ, suc, ◌≡◌, ◌+◌, ◌<◌, ◌≤◌, ◌==◌, nat_lt, not, Bool, true, false, ◌&&◌, cond, List, [], ◌∷◌, ◌++◌}
use Rattle.std.proofs.Common.{length, map, filter, take, drop, Option, Some, None, refl, sym, ap, ◌∙◌, subst, arith}
use Rattle.std.specs.List.{AllByRecursion, position, position_or_len}
use Rattle.std.specs.Option.{unwrap_or}
use Rattle.std.specs.List.Sorted.{IsStrictlySortedBy}
use Rattle.std.specs.declared.cmp.Ordering.TheVariants.{Less}
use Rattle.std.specs.Str.{bytes_eq}
use Rattle.std.proofs.lemmas.Bool.{eqb-true}
use Rattle.std.proofs.lemmas.Bool.Decides.{nat_tests}
use Rattle.std.proofs.lemmas.List.{append-nil, map-append, take-append-drop}
use Rattle.std.proofs.lemmas.List.Elements.{filter-append}
use Rattle.std.proofs.lemmas.List.Sums.{prefix_len-le-length}
use Rattle.ml_base.specs.declared.structure.Edge.{Edge}
use Rattle.ml_base.specs.EdgeOrder.{edge_cmp}
use Rattle.ml_base.specs.Structure.{Structure}
use Rattle.ml_graph.specs.CheckingGame.{targets}
use Rattle.ml_graph.specs.private.Making.{targets_in, targets_by, AreEdgesOf, AreLeft}
use Rattle.ml_base.proofs.Edges.{source_rises}

-- ---- targets of some edges

targets_in-append : (xs ys : List Edge) (s : ℕ) (a : List ℕ)
    → targets_in (xs ++ ys) s a ≡ targets_in xs s a ++ targets_in ys s a
targets_in-append xs ys s a =
    let test : Edge → Bool = λ e. (e.source == s) && bytes_eq e.action a in
    ap (map (λ (e : Edge). e.target)) (filter-append test xs ys)
    ∙ map-append (λ (e : Edge). e.target) (filter test xs) (filter test ys)

-- edges of other states lead nowhere from this one
none_leave : (s : ℕ) (a : List ℕ) (es : List Edge)
    → AllByRecursion (λ e. (e.source == s) ≡ false) es
    → targets_in es s a ≡ []
none_leave s a [] others = refl
none_leave s a (e ∷ es) others =
    ap (λ b. map (λ (x : Edge). x.target) (cond (b && bytes_eq e.action a)
    (e ∷ filter (λ x. (x.source == s) && bytes_eq x.action a) es)
    (filter (λ x. (x.source == s) && bytes_eq x.action a) es))) others.0
    ∙ none_leave s a es others.1

-- of edges that all leave the state, the action alone is asked
all_leave : (s : ℕ) (a : List ℕ) (es : List Edge)
    → AllByRecursion (λ e. (e.source == s) ≡ true) es
    → targets_in es s a ≡ targets_by es a
all_leave s a [] here = refl
all_leave s a (e ∷ es) here =
    ap (λ b. map (λ (x : Edge). x.target) (cond (b && bytes_eq e.action a)
    (e ∷ filter (λ x. (x.source == s) && bytes_eq x.action a) es)
    (filter (λ x. (x.source == s) && bytes_eq x.action a) es))) here.0
    ∙ by_test (bytes_eq e.action a) (all_leave s a es here.1)
  where
    by_test : (b : Bool) → targets_in es s a ≡ targets_by es a
        → map (λ (x : Edge). x.target) (cond b (e ∷ filter (λ x. (x.source == s) && bytes_eq x.action a) es)
        (filter (λ x. (x.source == s) && bytes_eq x.action a) es))
        ≡ map (λ (x : Edge). x.target) (cond b (e ∷ filter (λ x. bytes_eq x.action a) es)
        (filter (λ x. bytes_eq x.action a) es))
    by_test true rest = ap (λ ts. e.target ∷ ts) rest
    by_test false rest = rest

-- ---- edges that ascend, cut behind those of one state

all_later : (s : ℕ) (e : Edge) → s < e.source → (es : List Edge) → AllByRecursion (λ f. edge_cmp e f ≡ Less) es
    → AllByRecursion (λ f. s + 1 ≤ f.source) es
all_later s e past [] above = tt
all_later s e past (f ∷ es) above =
    let rises = source_rises e f above.0 in (omega (arith, rises), all_later s e past es above.1)

-- the first so many edges leave the state, and those behind them later ones
record IsCut (s : ℕ) (es : List Edge) (k : ℕ) : Type 0 where
  here : AllByRecursion (λ e. (e.source == s) ≡ true) (take k es)
  later : AllByRecursion (λ e. s + 1 ≤ e.source) (drop k es)
  ascend : IsStrictlySortedBy edge_cmp (drop k es)

-- how many edges at the beginning leave the state
abbrev pub count_of : ℕ → List Edge → ℕ
count_of s es = position_or_len (λ e. not (e.source == s)) es

-- the place of the first edge of another state, or the length
pub counted : (s : ℕ) (es : List Edge) (place : Option ℕ) (n k : ℕ) → place ≡ position (λ e. not (e.source == s)) es
    → n ≡ length es
    → k ≡ unwrap_or place n
    → k ≡ count_of s es
counted s es place n k is size or =
    or
    ∙ ap (λ p. unwrap_or p n) is
    ∙ ap (unwrap_or (position (λ e. not (e.source == s)) es)) size
    ∙ by_test (nat_lt (count_of s es) (length es)) refl
  where
    by_test : (b : Bool) → nat_lt (count_of s es) (length es) ≡ b
        → unwrap_or (cond b (Some (count_of s es)) None) (length es) ≡ count_of s es
    by_test true below = refl
    by_test false above =
        let low = prefix_len-le-length (λ (e : Edge). not (not (e.source == s))) es in
        let high : length es ≤ count_of s es = grind (arith, nat_tests) in
        omega (arith, low, high)

is_cut : (s : ℕ) (es : List Edge) → IsStrictlySortedBy edge_cmp es → AllByRecursion (λ e. s ≤ e.source) es
    → IsCut s es (count_of s es)
unfolding IsStrictlySortedBy
is_cut s [] ascend from = record { here = tt; later = tt; ascend = tt }
is_cut s (e ∷ es) ascend from = go (e.source == s) refl (is_cut s es ascend.1 from.1)
  where
    go : (b : Bool) → (e.source == s) ≡ b → IsCut s es (count_of s es)
        → IsCut s (e ∷ es) (cond (not (not b)) (1 + count_of s es) 0)
    go true is cut =
        let one : suc (count_of s es) ≡ 1 + count_of s es = omega arith in
        subst (IsCut s (e ∷ es)) one (record { here = (is, cut.here); later = cut.later; ascend = cut.ascend })
    go false is cut =
        let first : s ≤ e.source = from.0 in
        let past : s < e.source = grind (arith, nat_tests) in
        record { here = tt; later = (omega arith, all_later s e past es ascend.0); ascend = ascend }

-- edges of later states are none of this one
past_others : (s t : ℕ) → s < t → (es : List Edge) → AllByRecursion (λ e. t ≤ e.source) es
    → AllByRecursion (λ e. (e.source == s) ≡ false) es
past_others s t low [] later = tt
past_others s t low (e ∷ es) later =
    let past : t ≤ e.source = later.0 in
    let other : (e.source == s) ≡ false = grind (arith, nat_tests) in
    (other, past_others s t low es later.1)

-- edges of this state are none of a later one
here_others : (s t : ℕ) → s < t → (es : List Edge) → AllByRecursion (λ e. (e.source == s) ≡ true) es
    → AllByRecursion (λ e. (e.source == t) ≡ false) es
here_others s t low [] here = tt
here_others s t low (e ∷ es) here =
    let at : e.source ≡ s = eqb-true e.source s here.0 in
    let other : (e.source == t) ≡ false = grind (arith, nat_tests) in
    (other, here_others s t low es here.1)

-- ---- the walk

at_least_none : (es : List Edge) → AllByRecursion (λ e. 0 ≤ e.source) es
at_least_none [] = tt
at_least_none (e ∷ es) = (omega arith, at_least_none es)

pub all_left : (m : Structure) → IsStrictlySortedBy edge_cmp m.edges → AreLeft m 0 m.edges
all_left m ascend = record { ascend = ascend; from_here = at_least_none m.edges; same = λ t a from. refl }

-- where the edges left lead, cut in two
in_two : (m : Structure) (s k : ℕ) (es : List Edge) → AreLeft m s es → (t : ℕ) (a : List ℕ) → s ≤ t
    → targets m t a ≡ targets_in (take k es) t a ++ targets_in (drop k es) t a
in_two m s k es left t a from =
    left.same t a from
    ∙ ap (λ xs. targets_in xs t a) (sym (take-append-drop k es))
    ∙ targets_in-append (take k es) (drop k es) t a

pub edges_of : (m : Structure) (s : ℕ) (es : List Edge) → AreLeft m s es → AreEdgesOf m s (take (count_of s es) es)
edges_of m s es left = λ a.
    let k = count_of s es in
    let cut = is_cut s es left.ascend left.from_here in
    in_two m s k es left s a (omega arith)
    ∙ ap (λ ts. targets_in (take k es) s a ++ ts)
    (none_leave s a (drop k es) (past_others s (s + 1) (omega arith) (drop k es) cut.later))
    ∙ append-nil (targets_in (take k es) s a)
    ∙ all_leave s a (take k es) cut.here

pub left_behind : (m : Structure) (s : ℕ) (es : List Edge) → AreLeft m s es
    → AreLeft m (s + 1) (drop (count_of s es) es)
left_behind m s es left =
    let k = count_of s es in
    let cut = is_cut s es left.ascend left.from_here in
    record {
      ascend = cut.ascend;
      from_here = cut.later;
      same = λ t a from.
          in_two m s k es left t a (omega (arith, from))
          ∙ ap (λ ts. ts ++ targets_in (drop k es) t a)
          (none_leave t a (take k es) (here_others s t (omega (arith, from)) (take k es) cut.here));
    }

-- they are no more than there are
pub count_fits : (s : ℕ) (es : List Edge) → count_of s es ≤ length es
count_fits s es = prefix_len-le-length (λ (e : Edge). not (not (e.source == s))) es
