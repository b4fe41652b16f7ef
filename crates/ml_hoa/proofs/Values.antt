-- What the reader holds behind the tokens of a draft is the draft's automaton, and its first fault.
--
--   clipped_is, guard_is    == where no number is out of range, none is clipped
--   edges_made, faults_made == the edges and the faults of the body
--   first_fault             == the fault that the reader holds is the first one
--   same_edges              == where there is none, its edges are those of the automaton
--   is_automaton            == and the automaton is one
use Rattle.std.proofs.Common.{◌≡◌, ℕ, suc, ◌+◌, ◌<◌, ◌≤◌, ◌||◌, Bool, true, false, nat_eq, nat_le, min, if◌then◌else◌, List, [], ◌∷◌, ◌++◌, length, map, Option, Some, None, refl, sym, ◌∙◌, ap, subst, arith, length-append}
use Rattle.std.specs.List.{flat_map, list_any}
use Rattle.std.proofs.lemmas.Bool.Decides.{nat_tests}
use Rattle.std.proofs.lemmas.List.{append_assoc, append-nil}
use Rattle.ml_hoa.specs.declared.reader.Acceptance.{Acceptance}
use Rattle.ml_hoa.specs.declared.reader.Acceptance.TheVariants as acceptance
use Rattle.ml_hoa.specs.Automaton as automaton
use Rattle.ml_hoa.specs.Automaton.{Guard, Edge, PropsBelow, operators, IsEdge, IsAutomaton, most_states}
use Rattle.ml_hoa.specs.Grammar.{Numeral, Label, Level, Literal, Conjunction, Disjunction, Const, Ap, Not, Inside, Last, And, Least, Or, EdgeText, StateText, Heads, Draft}
use Rattle.ml_hoa.specs.AutomatonText.{number_of, joined, guard_with, accepts, has_zero, edge_of, edges_in, automaton_of, operators_in, IsSmall, IsSmallLabel}
use Rattle.ml_hoa.specs.AutomatonText.{past, label_faults, sets_faults, edge_faults, id_faults, state_faults, body_faults, faults}
use Rattle.ml_hoa.proofs.LabelRuns.{noted_by, noted_both, clipped, clipped_guard}
use Rattle.ml_hoa.proofs.BodyRuns.{Body, Each, clipped_edge, behind_edge, behind_edges, is_out, numbered, in_sets, behind_state, behind_states, edge_texts, each_first, each_last}
use Rattle.ml_hoa.proofs.HeadRuns.{headed, first_fault}
use Rattle.ml_hoa.proofs.Sound.{each_all}
use Rattle.ml_hoa.proofs.Outcomes.{read_state, each_from}
use Rattle.ml_lists.proofs.Member.{All-member}

-- ---- nothing is clipped

none_both : {A : Type 0} (xs ys : List A) → xs ++ ys ≡ [] → (xs ≡ []) × (ys ≡ [])
none_both {A} [] ys is = (refl, is)
none_both {A} (x ∷ xs) ys is = absurd (cc)

below : (k : ℕ) (n : Numeral) → past k n ≡ [] → number_of n < k
below k n none = by (nat_le k (number_of n)) refl none
  where
    by : (b : Bool) → nat_le k (number_of n) ≡ b → (if b then n.at ∷ [] else []) ≡ [] → number_of n < k
    by true is none = absurd (cc)
    by false is none = grind (arith, nat_tests)

pub clipped_is : (k : ℕ) (n : Numeral) → past k n ≡ [] → clipped k n ≡ number_of n
clipped_is k n none = let low = below k n none in
    let e : nat_le k (number_of n) ≡ false = grind (arith, nat_tests) in
    ap (λ b. if b then 0 else number_of n) e

pub guard_is : (k : ℕ) {l : Level} (before : Option Guard) (x : Label l) → label_faults k x ≡ []
    → clipped_guard k before x ≡ guard_with number_of before x
guard_is k before (Const b) none = refl
guard_is k before (Ap n) none = ap automaton.Ap (clipped_is k n none)
guard_is k before (Not l) none = ap automaton.Not (guard_is k None l none)
guard_is k before (Inside l) none = guard_is k None l none
guard_is k before (Last l) none = ap (joined automaton.And before) (guard_is k None l none)
guard_is k before (And l c) none =
    let n = none_both (label_faults k l) (label_faults k c) none in
    guard_is k (Some (joined automaton.And before (clipped_guard k None l))) c n.1
    ∙ ap (λ g. guard_with number_of (Some (joined automaton.And before g)) c) (guard_is k None l n.0)
guard_is k before (Least c) none = ap (joined automaton.Or before) (guard_is k None c none)
guard_is k before (Or c d) none =
    let n = none_both (label_faults k c) (label_faults k d) none in
    guard_is k (Some (joined automaton.Or before (clipped_guard k None c))) d n.1
    ∙ ap (λ g. guard_with number_of (Some (joined automaton.Or before g)) d) (guard_is k None c n.0)

-- ---- edges and faults of the body

edges_made : (h : Heads) (b : Body) (es : List EdgeText)
    → (behind_edges h b es).edges ≡ b.edges ++ map (clipped_edge h b.from b.in_set) es
edges_made h b [] = sym (append-nil b.edges)
edges_made h b (e ∷ es) =
    edges_made h (behind_edge h b e) es
    ∙ append_assoc b.edges (clipped_edge h b.from b.in_set e ∷ []) (map (clipped_edge h b.from b.in_set) es)

edges_noted : (h : Heads) (b : Body) (es : List EdgeText)
    → (behind_edges h b es).fault ≡ noted_by b.fault (flat_map (edge_faults h) es)
edges_noted h b [] = refl
edges_noted h b (e ∷ es) =
    edges_noted h (behind_edge h b e) es ∙ sym (noted_both b.fault (edge_faults h e) (flat_map (edge_faults h) es))

edges_seen : (h : Heads) (b : Body) (es : List EdgeText) → (behind_edges h b es).seen ≡ b.seen
edges_seen h b [] = refl
edges_seen h b (e ∷ es) = edges_seen h (behind_edge h b e) es

-- the states that stood before, as far as they are in range
abbrev stood_before : List StateText → ℕ → Bool
stood_before before v = list_any (λ (s : StateText). nat_eq v (number_of s.id)) before

abbrev Seen : Heads → List StateText → List ℕ → Type 0
Seen h before seen = (v : ℕ) → v < number_of h.states → list_any (nat_eq v) seen ≡ stood_before before v

any_more : {A : Type 0} (p : A → Bool) (xs : List A) (x : A) → list_any p (xs ++ x ∷ []) ≡ (list_any p xs || p x)
any_more {A} p [] x = by (p x)
  where
    by : (b : Bool) → (b || false) ≡ (false || b)
    by true = refl
    by false = refl
any_more {A} p (y ∷ xs) x = ap (λ b. p y || b) (any_more p xs x) ∙ by (p y) (list_any p xs) (p x)
  where
    by : (a b c : Bool) → (a || (b || c)) ≡ ((a || b) || c)
    by true b c = refl
    by false b c = refl

out_is : (h : Heads) (before : List StateText) (b : Body) (n : Numeral) → Seen h before b.seen
    → is_out h b n ≡ (nat_le (number_of h.states) (number_of n) || stood_before before (number_of n))
out_is h before b n seen = by (nat_le (number_of h.states) (number_of n)) refl
  where
    by : (t : Bool) → nat_le (number_of h.states) (number_of n) ≡ t
        → (t || list_any (nat_eq (number_of n)) b.seen) ≡ (t || stood_before before (number_of n))
    by true is = refl
    by false is = seen (number_of n) (grind (arith, nat_tests))

seen_on : (h : Heads) (before : List StateText) (b : Body) (t : StateText) → Seen h before b.seen
    → Seen h (before ++ t ∷ []) (numbered h b t.id).seen
seen_on h before b t seen = λ v low. by v low (nat_le (number_of h.states) n) (list_any (nat_eq n) b.seen) refl refl
  where
    n : ℕ
    n = number_of t.id

    or_none : (a : Bool) → a ≡ (a || false)
    or_none true = refl
    or_none false = refl

    absorbed : (v : ℕ) → v < number_of h.states → (e : Bool) → nat_eq v n ≡ e → list_any (nat_eq n) b.seen ≡ true
        → stood_before before v ≡ (stood_before before v || e)
    absorbed v low true same there =
        let is : v ≡ n = grind (arith, nat_tests) in
        let found : stood_before before v ≡ true = sym (seen v low) ∙ ap (λ m. list_any (nat_eq m) b.seen) is ∙ there in
        found ∙ sym (ap (λ a. a || true) found)
    absorbed v low false other there = or_none (stood_before before v)

    by : (v : ℕ) → v < number_of h.states → (p q : Bool)
        → nat_le (number_of h.states) n ≡ p
        → list_any (nat_eq n) b.seen ≡ q
        → list_any (nat_eq v) (if p || q then b.seen else b.seen ++ n ∷ []) ≡ stood_before (before ++ t ∷ []) v
    by v low true q x y =
        let e : nat_eq v n ≡ false = grind (arith, nat_tests) in
        seen v low ∙ or_none (stood_before before v) ∙ ap (λ a. stood_before before v || a) (sym e)
        ∙ sym (any_more (λ (s : StateText). nat_eq v (number_of s.id)) before t)
    by v low false true x y =
        seen v low ∙ absorbed v low (nat_eq v n) refl y
        ∙ sym (any_more (λ (s : StateText). nat_eq v (number_of s.id)) before t)
    by v low false false x y =
        any_more (nat_eq v) b.seen n ∙ ap (λ a. a || nat_eq v n) (seen v low)
        ∙ sym (any_more (λ (s : StateText). nat_eq v (number_of s.id)) before t)

abbrev clipped_edges : Heads → StateText → List Edge
clipped_edges h t = map (clipped_edge h (clipped (number_of h.states) t.id) (has_zero t.sets)) t.edges

record Made (h : Heads) (before : List StateText) (b : Body) (ts : List StateText) (after : Body) : Type 0 where
  edges : after.edges ≡ b.edges ++ flat_map (clipped_edges h) ts
  fault : after.fault ≡ noted_by b.fault (body_faults h before ts)

state_noted : (h : Heads) (before : List StateText) (b : Body) (t : StateText) → Seen h before b.seen
    → (behind_state h b t).fault ≡ noted_by b.fault (state_faults h before t)
state_noted h before b t seen =
    let ids = if is_out h b t.id then t.id.at ∷ [] else [] in
    let sets = sets_faults h t.sets in
    let edges = flat_map (edge_faults h) t.edges in
    edges_noted h (in_sets h (numbered h b t.id) t.sets) t.edges
    ∙ sym (noted_both (noted_by b.fault ids) sets edges)
    ∙ sym (noted_both b.fault ids (sets ++ edges))
    ∙ ap (λ o. noted_by b.fault ((if o then t.id.at ∷ [] else []) ++ (sets ++ edges))) (out_is h before b t.id seen)

states_made : (h : Heads) (before : List StateText) (b : Body) (ts : List StateText) → Seen h before b.seen
    → Made h before b ts (behind_states h b ts)
states_made h before b [] seen = record { edges = sym (append-nil b.edges); fault = refl }
states_made h before b (t ∷ ts) seen =
    let next = behind_state h b t in
    let inner = in_sets h (numbered h b t.id) t.sets in
    let seen_next = subst (Seen h (before ++ t ∷ [])) (sym (edges_seen h inner t.edges)) (seen_on h before b t seen) in
    let rest = states_made h (before ++ t ∷ []) next ts seen_next in
    record {
      edges = rest.edges ∙ ap (λ es. es ++ flat_map (clipped_edges h) ts) (edges_made h inner t.edges)
          ∙ append_assoc b.edges (clipped_edges h t) (flat_map (clipped_edges h) ts);
      fault = rest.fault ∙ ap (λ f. noted_by f (body_faults h (before ++ t ∷ []) ts)) (state_noted h before b t seen)
          ∙ sym (noted_both b.fault (state_faults h before t) (body_faults h (before ++ t ∷ []) ts));
    }

-- ---- where no number is out of range

accepts_or : (a : Acceptance) (x y : Bool) → (accepts a x || y) ≡ accepts a (x || y)
accepts_or acceptance.Every x y = refl
accepts_or acceptance.Marked x y = refl

abbrev edge_with : ℕ → Guard → ℕ → Bool → Edge
edge_with from guard to accepting = record { from = from; guard = guard; to = to; accepting = accepting }

edge_is : (h : Heads) (t : StateText) (e : EdgeText) → past (number_of h.states) t.id ≡ [] → edge_faults h e ≡ []
    → clipped_edge h (clipped (number_of h.states) t.id) (has_zero t.sets) e ≡ edge_of h t e
edge_is h t e id none =
    let a = none_both (label_faults (length h.props) e.label) (past (number_of h.states) e.to ++ sets_faults h e.sets) none in
    let b = none_both (past (number_of h.states) e.to) (sets_faults h e.sets) a.1 in
    let x = clipped_is (number_of h.states) t.id id in
    let y = guard_is (length h.props) None e.label a.0 in
    let z = clipped_is (number_of h.states) e.to b.0 in
    let w = accepts_or h.acceptance (has_zero t.sets) (has_zero e.sets) in
    ap (λ n. edge_with n (clipped_guard (length h.props) None e.label) (clipped (number_of h.states) e.to) (accepts h.acceptance (has_zero t.sets) || has_zero e.sets)) x
    ∙ ap (λ g. edge_with (number_of t.id) g (clipped (number_of h.states) e.to) (accepts h.acceptance (has_zero t.sets) || has_zero e.sets)) y
    ∙ ap (λ n. edge_with (number_of t.id) (guard_with number_of None e.label) n (accepts h.acceptance (has_zero t.sets) || has_zero e.sets)) z
    ∙ ap (λ b. edge_with (number_of t.id) (guard_with number_of None e.label) (number_of e.to) b) w

edges_are : (h : Heads) (t : StateText) (es : List EdgeText) → past (number_of h.states) t.id ≡ [] → flat_map (edge_faults h) es ≡ []
    → map (clipped_edge h (clipped (number_of h.states) t.id) (has_zero t.sets)) es ≡ map (edge_of h t) es
edges_are h t [] id none = refl
edges_are h t (e ∷ es) id none =
    let a = none_both (edge_faults h e) (flat_map (edge_faults h) es) none in
    ap (λ x. x ∷ map (clipped_edge h (clipped (number_of h.states) t.id) (has_zero t.sets)) es) (edge_is h t e id a.0)
    ∙ ap (λ xs. edge_of h t e ∷ xs) (edges_are h t es id a.1)

id_past : (h : Heads) (before : List StateText) (n : Numeral) → id_faults h before n ≡ [] → past (number_of h.states) n ≡ []
id_past h before n none = by (nat_le (number_of h.states) (number_of n)) (stood_before before (number_of n)) refl none
  where
    by : (p q : Bool) → nat_le (number_of h.states) (number_of n) ≡ p → (if p || q then n.at ∷ [] else []) ≡ []
        → (if nat_le (number_of h.states) (number_of n) then n.at ∷ [] else []) ≡ []
    by true q is none = absurd (cc)
    by false q is none = ap (λ b. if b then n.at ∷ [] else []) is

record InRange (h : Heads) (t : StateText) : Type 0 where
  id : past (number_of h.states) t.id ≡ []
  edges : flat_map (edge_faults h) t.edges ≡ []

in_range : (h : Heads) (before : List StateText) (t : StateText) → state_faults h before t ≡ [] → InRange h t
in_range h before t none =
    let a = none_both (id_faults h before t.id) (sets_faults h t.sets ++ flat_map (edge_faults h) t.edges) none in
    let b = none_both (sets_faults h t.sets) (flat_map (edge_faults h) t.edges) a.1 in
    record { id = id_past h before t.id a.0; edges = b.1 }

same_edges : (h : Heads) (before ts : List StateText) → body_faults h before ts ≡ []
    → flat_map (clipped_edges h) ts ≡ flat_map (edges_in h) ts
same_edges h before [] none = refl
same_edges h before (t ∷ ts) none =
    let a = none_both (state_faults h before t) (body_faults h (before ++ t ∷ []) ts) none in
    let r = in_range h before t a.0 in
    ap (λ es. es ++ flat_map (clipped_edges h) ts) (edges_are h t t.edges r.id r.edges)
    ∙ ap (λ es. edges_in h t ++ es) (same_edges h (before ++ t ∷ []) ts a.1)

-- ---- the automaton is one

abbrev BelowIn : ℕ → Option Guard → Type 0
BelowIn k None = Unit {0}
BelowIn k (Some g) = PropsBelow k g

and_below : (k : ℕ) (before : Option Guard) (g : Guard) → BelowIn k before → PropsBelow k g → PropsBelow k (joined automaton.And before g)
and_below k None g a b = b
and_below k (Some f) g a b = (a, b)

or_below : (k : ℕ) (before : Option Guard) (g : Guard) → BelowIn k before → PropsBelow k g → PropsBelow k (joined automaton.Or before g)
or_below k None g a b = b
or_below k (Some f) g a b = (a, b)

props_below : (k : ℕ) {l : Level} (before : Option Guard) (x : Label l) → BelowIn k before → label_faults k x ≡ []
    → PropsBelow k (guard_with number_of before x)
props_below k before (Const b) a none = tt
props_below k before (Ap n) a none = below k n none
props_below k before (Not l) a none = props_below k None l tt none
props_below k before (Inside l) a none = props_below k None l tt none
props_below k before (Last l) a none = and_below k before (guard_with number_of None l) a (props_below k None l tt none)
props_below k before (And l c) a none =
    let n = none_both (label_faults k l) (label_faults k c) none in
    props_below k (Some (joined automaton.And before (guard_with number_of None l))) c
    (and_below k before (guard_with number_of None l) a (props_below k None l tt n.0)) n.1
props_below k before (Least c) a none = or_below k before (guard_with number_of None c) a (props_below k None c tt none)
props_below k before (Or c d) a none =
    let n = none_both (label_faults k c) (label_faults k d) none in
    props_below k (Some (joined automaton.Or before (guard_with number_of None c))) d
    (or_below k before (guard_with number_of None c) a (props_below k None c tt n.0)) n.1

abbrev extra : Level → Option Guard → ℕ
extra Literal before = 0
extra Conjunction None = 0
extra Conjunction (Some g) = operators g + 1
extra Disjunction None = 0
extra Disjunction (Some g) = operators g + 1

and_operators : (before : Option Guard) (g : Guard) → operators (joined automaton.And before g) ≡ extra Conjunction before + operators g
and_operators None g = omega arith
and_operators (Some f) g = omega arith

or_operators : (before : Option Guard) (g : Guard) → operators (joined automaton.Or before g) ≡ extra Disjunction before + operators g
or_operators None g = omega arith
or_operators (Some f) g = omega arith

guard_operators : {l : Level} (before : Option Guard) (x : Label l)
    → operators (guard_with number_of before x) ≡ extra l before + operators_in x
guard_operators before (Const b) = omega arith
guard_operators before (Ap n) = omega arith
guard_operators before (Not l) = omega (arith, guard_operators None l)
guard_operators before (Inside l) = omega (arith, guard_operators None l)
guard_operators before (Last l) = omega (arith, guard_operators None l, and_operators before (guard_with number_of None l))
guard_operators before (And l c) =
    let g = joined automaton.And before (guard_with number_of None l) in
    omega (arith, guard_operators (Some g) c, guard_operators None l, and_operators before (guard_with number_of None l))
guard_operators before (Least c) = omega (arith, guard_operators None c, or_operators before (guard_with number_of None c))
guard_operators before (Or c d) =
    let g = joined automaton.Or before (guard_with number_of None c) in
    omega (arith, guard_operators (Some g) d, guard_operators None c, or_operators before (guard_with number_of None c))

edge_fits : (h : Heads) (t : StateText) (e : EdgeText) → past (number_of h.states) t.id ≡ [] → edge_faults h e ≡ []
    → IsSmallLabel e
    → IsEdge (number_of h.states) (length h.props) (edge_of h t e)
edge_fits h t e id none small =
    let a = none_both (label_faults (length h.props) e.label) (past (number_of h.states) e.to ++ sets_faults h e.sets) none in
    let b = none_both (past (number_of h.states) e.to) (sets_faults h e.sets) a.1 in
    record {
      from_below = below (number_of h.states) t.id id;
      to_below = below (number_of h.states) e.to b.0;
      props_below = props_below (length h.props) None e.label tt a.0;
      small = let few = small.operators in omega (arith, guard_operators None e.label);
    }

edges_fit : (h : Heads) (t : StateText) (es : List EdgeText) → past (number_of h.states) t.id ≡ [] → flat_map (edge_faults h) es ≡ []
    → Each IsSmallLabel es
    → Each (IsEdge (number_of h.states) (length h.props)) (map (edge_of h t) es)
edges_fit h t [] id none small = tt
edges_fit h t (e ∷ es) id none small =
    let a = none_both (edge_faults h e) (flat_map (edge_faults h) es) none in
    (edge_fits h t e id a.0 small.0, edges_fit h t es id a.1 small.1)

each_both : {A : Type 0} (P : A → Type 0) (xs ys : List A) → Each P xs → Each P ys → Each P (xs ++ ys)
each_both {A} P [] ys a b = b
each_both {A} P (x ∷ xs) ys a b = (a.0, each_both P xs ys a.1 b)

states_fit : (h : Heads) (before ts : List StateText) → body_faults h before ts ≡ [] → Each IsSmallLabel (edge_texts ts)
    → Each (IsEdge (number_of h.states) (length h.props)) (flat_map (edges_in h) ts)
states_fit h before [] none small = tt
states_fit h before (t ∷ ts) none small =
    let a = none_both (state_faults h before t) (body_faults h (before ++ t ∷ []) ts) none in
    let r = in_range h before t a.0 in
    each_both (IsEdge (number_of h.states) (length h.props)) (edges_in h t) (flat_map (edges_in h) ts)
    (edges_fit h t t.edges r.id r.edges (each_first IsSmallLabel t.edges (edge_texts ts) small))
    (states_fit h (before ++ t ∷ []) ts a.1 (each_last IsSmallLabel t.edges (edge_texts ts) small))

as_many : (h : Heads) (t : StateText) (es : List EdgeText) → length (map (edge_of h t) es) ≡ length es
as_many h t [] = refl
as_many h t (e ∷ es) = ap (λ n. suc n) (as_many h t es)

all_many : (h : Heads) (ts : List StateText) → length (flat_map (edges_in h) ts) ≡ length (edge_texts ts)
all_many h [] = refl
all_many h (t ∷ ts) =
    length-append (edges_in h t) (flat_map (edges_in h) ts)
    ∙ omega (arith, as_many h t t.edges, all_many h ts, length-append t.edges (edge_texts ts))

pub is_automaton : (d : Draft) → IsSmall d → faults d ≡ [] → IsAutomaton (automaton_of d)
is_automaton d small none =
    let h = d.heads in
    let a = none_both (past (number_of h.states) h.start) (body_faults h [] d.states) none in
    record {
      few_states = small.few_states;
      few_props = small.few_props;
      few_edges = let few = small.few_edges in omega (arith, all_many h d.states);
      start_below = below (number_of h.states) h.start a.0;
      edges_fit = each_all (IsEdge (number_of h.states) (length h.props)) (flat_map (edges_in h) d.states)
          (states_fit h [] d.states a.1 (each_from IsSmallLabel (edge_texts d.states) (λ y m. All-member IsSmallLabel (edge_texts d.states) small.labels y m)));
    }

-- ---- what the reader holds

start_same : (h : Heads) → number_of h.states ≤ most_states
    → first_fault h ≡ noted_by None (past (number_of h.states) h.start)
start_same h few = by (nat_le (number_of h.states) (number_of h.start)) refl
  where
    by : (b : Bool) → nat_le (number_of h.states) (number_of h.start) ≡ b
        → (if nat_le (number_of h.states) (min (number_of h.start) most_states) then Some h.start.at else None)
        ≡ noted_by None (if nat_le (number_of h.states) (number_of h.start) then h.start.at ∷ [] else [])
    by true is =
        let e : nat_le (number_of h.states) (min (number_of h.start) most_states) ≡ true = grind (arith, nat_tests) in
        ap (λ b. if b then Some h.start.at else None) e ∙ sym (ap (λ b. noted_by None (if b then h.start.at ∷ [] else [])) is)
    by false is =
        let e : nat_le (number_of h.states) (min (number_of h.start) most_states) ≡ false = grind (arith, nat_tests) in
        ap (λ b. if b then Some h.start.at else None) e ∙ sym (ap (λ b. noted_by None (if b then h.start.at ∷ [] else [])) is)

pub held_fault : (d : Draft) → IsSmall d → (read_state d).fault ≡ noted_by None (faults d)
held_fault d small =
    let h = d.heads in
    let m = states_made h [] (headed h) d.states (λ v low. refl) in
    m.fault ∙ ap (λ f. noted_by f (body_faults h [] d.states)) (start_same h small.few_states)
    ∙ sym (noted_both None (past (number_of h.states) h.start) (body_faults h [] d.states))

pub held_edges : (d : Draft) → faults d ≡ [] → (read_state d).edges ≡ (automaton_of d).edges
held_edges d none =
    let h = d.heads in
    let a = none_both (past (number_of h.states) h.start) (body_faults h [] d.states) none in
    let m = states_made h [] (headed h) d.states (λ v low. refl) in
    m.edges ∙ same_edges h [] d.states a.1

pub held_start : (d : Draft) → IsSmall d → faults d ≡ [] → (read_state d).first ≡ number_of d.heads.start
held_start d small none =
    let h = d.heads in
    let a = none_both (past (number_of h.states) h.start) (body_faults h [] d.states) none in
    let low = below (number_of h.states) h.start a.0 in
    omega (arith, small.few_states)
