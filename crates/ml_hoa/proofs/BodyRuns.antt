-- The tokens of edges and states are read as these.
--
--   at_body h s q ..     == the reader in the body, behind headers that say h, at the stage q
--   clipped_edge         == an edge, with numbers that are not in range clipped
--   edge_read, edges_read, state_read, states_read == edges and states are read
use Rattle.std.proofs.Common.{◌≡◌, ℕ, ◌+◌, ◌||◌, Bool, true, false, nat_eq, nat_le, if◌then◌else◌, List, [], ◌∷◌, ◌++◌, length, map, Option, Some, None, refl, sym, ◌∙◌, ap, arith, length-append}
use Rattle.std.specs.List.{flat_map, list_any}
use Rattle.std.proofs.lemmas.List.{append_assoc}
use Rattle.std.proofs.Math.Bool.{or-false}
use Rattle.ml_hoa.specs.declared.token.Mark.TheVariants as mark
use Rattle.ml_hoa.specs.declared.reader.Stage.{Stage}
use Rattle.ml_hoa.specs.declared.reader.Stage.TheVariants as stage
use Rattle.ml_hoa.specs.Automaton.{Edge, most_edges}
use Rattle.ml_hoa.specs.Tokens.{Token, Plain}
use Rattle.ml_hoa.specs.Grammar.{Numeral, EdgeText, StateText, Heads, number_token, label_tokens, sets_tokens, name_tokens, edge_tokens, state_tokens}
use Rattle.ml_hoa.specs.AutomatonText.{number_of, is_zero, has_zero, accepts, operators_in, IsSmallLabel, sets_of, past, label_faults, sets_faults, edge_faults}
use Rattle.ml_hoa.specs.private.Machine.{no_level, State, first_of, last_accepting, with_id, turn, edge_begun}
use Rattle.ml_hoa.proofs.LastEdges.{last_snoc}
use Rattle.ml_hoa.proofs.Runs.{led, run, Fits, led_within}
use Rattle.ml_hoa.proofs.LabelRuns.{noted_by, noted_both, noted_if, clipped, clipped_guard, after_level, whole_guard, label_read}

abbrev pub Each : {A : Type 0} → (A → Type 0) → List A → Type 0
Each P [] = Unit {0}
Each P (x ∷ xs) = P x × Each P xs

-- the stages at which a further edge may begin
pub data Ready : Type 0 where
  Numbered Named Marked Targeted : Ready

abbrev pub stage_of : Ready → Stage
stage_of Numbered = stage.BehindNumber
stage_of Named = stage.BehindName
stage_of Marked = stage.Edges
stage_of Targeted = stage.BehindTarget

abbrev pub behind_sets : Ready → Option (List Numeral) → Ready
behind_sets q None = q
behind_sets q (Some ns) = Marked

-- what the reader holds of the body
pub record Body : Type 0 where
  pub seen : List ℕ
  pub from : ℕ
  pub in_set : Bool
  pub edges : List Edge
  pub fault : Option ℕ
  pub used : ℕ

abbrev pub at_body : Heads → State → Stage → Body → State
at_body h s q b = record s {
  stage = q;
  states = number_of h.states;
  prop_count = length h.props;
  acceptance = h.acceptance;
  level = no_level;
  outer = [];
  operators = b.used;
  seen = b.seen;
  from = b.from;
  in_set = b.in_set;
  edges = b.edges;
  fault = b.fault;
}

abbrev pub clipped_edge : Heads → ℕ → Bool → EdgeText → Edge
clipped_edge h from in_set e = record {
  from = from;
  guard = clipped_guard (length h.props) None e.label;
  to = clipped (number_of h.states) e.to;
  accepting = accepts h.acceptance in_set || has_zero e.sets;
}

-- ---- the sets of an edge

all_or : (a more : Bool) → true ≡ (a || true)
all_or true more = refl
all_or false more = refl

record Marks (z : Bool) (xs : List Edge) (e : Edge) (more : Bool) (es : List Edge) : Type 0 where
  a : Bool
  there : es ≡ xs ++ record e { accepting = a } ∷ []
  same : (a || more) ≡ (e.accepting || (z || more))

zero_more : (z : Bool) (xs : List Edge) (e : Edge) (more : Bool)
    → (es : List Edge)
    → es ≡ (if z then last_accepting (xs ++ e ∷ []) else (xs ++ e ∷ []))
    → Marks z xs e more es
zero_more true xs e more es is = record { a = true; there = is ∙ last_snoc xs e; same = all_or e.accepting more }
zero_more false xs e more es is = record { a = e.accepting; there = is; same = refl }

edge_sets : (strict : Bool) (h : Heads) (s : State) (b : Body) (xs : List Edge) (e : Edge) (ns : List Numeral) (rest : List Token)
    → b.edges ≡ xs ++ e ∷ []
    → run strict (at_body h s stage.EdgeSets b) (map number_token ns ++ Plain mark.RightBrace ∷ [] ++ rest)
    ≡ run strict (at_body h s stage.Edges (record b {
      edges = xs ++ record e { accepting = e.accepting || list_any is_zero ns } ∷ [];
      fault = noted_by b.fault (flat_map (past (sets_of h.acceptance)) ns);
    })) rest
edge_sets strict h s b xs e [] rest is =
    ap (λ es. run strict (at_body h s stage.Edges (record b { edges = es })) rest)
    (is ∙ ap (λ a. xs ++ record e { accepting = a } ∷ []) (sym (or-false e.accepting)))
edge_sets strict h s b xs e (n ∷ ns) rest is =
    let k = sets_of h.acceptance in
    let z = is_zero n in
    let step = zero_more z xs e (list_any is_zero ns) (if z then last_accepting b.edges else b.edges)
    (ap (λ es. if z then last_accepting es else es) is) in
    let next : Body = record b {
      edges = if z then last_accepting b.edges else b.edges;
      fault = if nat_le k (number_of n) then first_of b.fault n.at else b.fault;
    } in
    edge_sets strict h s next xs (record e { accepting = step.a }) ns rest step.there
    ∙ ap (λ a. run strict (at_body h s stage.Edges (record b {
      edges = xs ++ record e { accepting = a } ∷ [];
      fault = noted_by (if nat_le k (number_of n) then first_of b.fault n.at else b.fault) (flat_map (past k) ns);
    })) rest) step.same
    ∙ ap (λ f. run strict (at_body h s stage.Edges (record b {
      edges = xs ++ record e { accepting = e.accepting || list_any is_zero (n ∷ ns) } ∷ [];
      fault = f;
    })) rest)
    (ap (λ f. noted_by f (flat_map (past k) ns)) (noted_if (nat_le k (number_of n)) b.fault n.at)
    ∙ sym (noted_both b.fault (past k n) (flat_map (past k) ns)))

targets_sets : (strict : Bool) (h : Heads) (s : State) (b : Body) (xs : List Edge) (e : Edge) (sets : Option (List Numeral)) (rest : List Token)
    → b.edges ≡ xs ++ e ∷ []
    → run strict (at_body h s stage.BehindTarget b) (sets_tokens sets ++ rest)
    ≡ run strict (at_body h s (stage_of (behind_sets Targeted sets)) (record b {
      edges = xs ++ record e { accepting = e.accepting || has_zero sets } ∷ [];
      fault = noted_by b.fault (sets_faults h sets);
    })) rest
targets_sets strict h s b xs e None rest is =
    ap (λ es. run strict (at_body h s stage.BehindTarget (record b { edges = es })) rest)
    (is ∙ ap (λ a. xs ++ record e { accepting = a } ∷ []) (sym (or-false e.accepting)))
targets_sets strict h s b xs e (Some ns) rest is = edge_sets strict h s b xs e ns rest is

-- ---- edges

edge_turn : (q : Ready) (h : Heads) (s : State) (b : Body)
    → turn (at_body h s (stage_of q) b) (Plain mark.LeftBracket)
    ≡ edge_begun (at_body h s (stage_of q) b)
edge_turn Numbered h s b = refl
edge_turn Named h s b = refl
edge_turn Marked h s b = refl
edge_turn Targeted h s b = refl

abbrev pub behind_edge : Heads → Body → EdgeText → Body
behind_edge h b e = record b {
  edges = b.edges ++ clipped_edge h b.from b.in_set e ∷ [];
  fault = noted_by b.fault (edge_faults h e);
  used = operators_in e.label;
}

abbrev pub FitsLabel : Bool → EdgeText → Type 0
FitsLabel strict e = strict ≡ true → IsSmallLabel e

edge_read : (strict : Bool) (h : Heads) (s : State) (q : Ready) (b : Body) (e : EdgeText) (rest : List Token)
    → Fits strict (length b.edges + 1) most_edges
    → FitsLabel strict e
    → run strict (at_body h s (stage_of q) b) (edge_tokens e ++ rest)
    ≡ run strict (at_body h s (stage_of (behind_sets Targeted e.sets)) (behind_edge h b e)) rest
edge_read strict h s q b e rest few small =
    let k = length h.props in
    let total = operators_in e.label in
    let begun : State = at_body h s stage.Operand (record b { used = 0 }) in
    let tail = Plain mark.RightBracket ∷ (number_token e.to ∷ sets_tokens e.sets) in
    let read = after_level k None e.label in
    let f = noted_by b.fault (label_faults k e.label) in
    let g = if nat_le (number_of h.states) (number_of e.to) then first_of f e.to.at else f in
    let edge : Edge = record {
      from = b.from;
      guard = clipped_guard k None e.label;
      to = clipped (number_of h.states) e.to;
      accepting = accepts h.acceptance b.in_set;
    } in
    let behind : Body = record b { edges = b.edges ++ edge ∷ []; fault = g; used = total } in
    ap (λ t. led strict t (λ next. run strict next (label_tokens e.label ++ tail ++ rest))) (edge_turn q h s b)
    ∙ led_within strict most_edges (length b.edges) begun (λ next. run strict next (label_tokens e.label ++ tail ++ rest))
    (λ on. let low = few on in omega arith)
    ∙ ap (run strict begun) (append_assoc (label_tokens e.label) tail rest)
    ∙ label_read strict e.label begun None 0 total (tail ++ rest) (omega arith) (λ on. (small on).operators)
    (λ on. let low = (small on).open_at_once in omega arith)
    ∙ ap (λ guard. run strict (at_body h s stage.BehindTarget (record b {
      edges = b.edges ++ record edge { guard = guard } ∷ [];
      fault = g;
      used = total;
    })) (sets_tokens e.sets ++ rest)) (whole_guard k None e.label)
    ∙ targets_sets strict h s behind b.edges edge e.sets rest refl
    ∙ ap (λ f. run strict (at_body h s (stage_of (behind_sets Targeted e.sets)) (record (behind_edge h b e) { fault = f })) rest)
    (ap (λ x. noted_by x (sets_faults h e.sets)) (noted_if (nat_le (number_of h.states) (number_of e.to)) f e.to.at)
    ∙ sym (noted_both f (past (number_of h.states) e.to) (sets_faults h e.sets))
    ∙ sym (noted_both b.fault (label_faults k e.label) (past (number_of h.states) e.to ++ sets_faults h e.sets)))

abbrev pub behind_edges : Heads → Body → List EdgeText → Body
behind_edges h b [] = b
behind_edges h b (e ∷ es) = behind_edges h (behind_edge h b e) es

abbrev pub ready_behind : Ready → List EdgeText → Ready
ready_behind q [] = q
ready_behind q (e ∷ es) = ready_behind (behind_sets Targeted e.sets) es

one_longer : (h : Heads) (b : Body) (e : EdgeText) → length (behind_edge h b e).edges ≡ length b.edges + 1
one_longer h b e = length-append b.edges (clipped_edge h b.from b.in_set e ∷ [])

edges_read : (strict : Bool) (h : Heads) (s : State) (q : Ready) (b : Body) (es : List EdgeText) (rest : List Token)
    → Fits strict (length b.edges + length es) most_edges
    → Each (FitsLabel strict) es
    → run strict (at_body h s (stage_of q) b) (flat_map edge_tokens es ++ rest)
    ≡ run strict (at_body h s (stage_of (ready_behind q es)) (behind_edges h b es)) rest
edges_read strict h s q b [] rest few small = refl
edges_read strict h s q b (e ∷ es) rest few small =
    ap (run strict (at_body h s (stage_of q) b)) (append_assoc (edge_tokens e) (flat_map edge_tokens es) rest)
    ∙ edge_read strict h s q b e (flat_map edge_tokens es ++ rest) (λ on. let low = few on in omega arith) small.0
    ∙ edges_read strict h s (behind_sets Targeted e.sets) (behind_edge h b e) es rest
    (λ on. let low = few on in omega (arith, one_longer h b e)) small.1

-- ---- the number of a state

abbrev pub is_out : Heads → Body → Numeral → Bool
is_out h b n = nat_le (number_of h.states) (number_of n) || list_any (nat_eq (number_of n)) b.seen

abbrev pub numbered : Heads → Body → Numeral → Body
numbered h b n = record b {
  seen = if is_out h b n then b.seen else b.seen ++ number_of n ∷ [];
  from = clipped (number_of h.states) n;
  in_set = false;
  fault = noted_by b.fault (if is_out h b n then n.at ∷ [] else []);
}

number_read : (h : Heads) (s : State) (b : Body) (n : Numeral)
    → with_id (at_body h s stage.StateNumber b) (number_of n) n.at ≡ at_body h s stage.BehindNumber (numbered h b n)
number_read h s b n = by (nat_le (number_of h.states) (number_of n)) (list_any (nat_eq (number_of n)) b.seen)
  where
    v : ℕ
    v = number_of n

    by : (p q : Bool)
        → (if p then at_body h s stage.BehindNumber (record b { from = 0; in_set = false; fault = first_of b.fault n.at })
        else if q then at_body h s stage.BehindNumber (record b { from = v; in_set = false; fault = first_of b.fault n.at })
        else at_body h s stage.BehindNumber (record b { seen = b.seen ++ v ∷ []; from = v; in_set = false }))
        ≡ at_body h s stage.BehindNumber (record b {
          seen = if p || q then b.seen else b.seen ++ v ∷ [];
          from = if p then 0 else v;
          in_set = false;
          fault = noted_by b.fault (if p || q then n.at ∷ [] else []);
        })
    by true q = refl
    by false true = refl
    by false false = refl

-- ---- the sets of a state

zero_or : (z in_set more : Bool) → ((if z then true else in_set) || more) ≡ (in_set || (z || more))
zero_or true true more = refl
zero_or true false more = refl
zero_or false in_set more = refl

state_sets : (strict : Bool) (h : Heads) (s : State) (b : Body) (ns : List Numeral) (rest : List Token)
    → run strict (at_body h s stage.StateSets b) (map number_token ns ++ Plain mark.RightBrace ∷ [] ++ rest)
    ≡ run strict (at_body h s stage.Edges (record b {
      in_set = b.in_set || list_any is_zero ns;
      fault = noted_by b.fault (flat_map (past (sets_of h.acceptance)) ns);
    })) rest
state_sets strict h s b [] rest =
    ap (λ i. run strict (at_body h s stage.Edges (record b { in_set = i })) rest) (sym (or-false b.in_set))
state_sets strict h s b (n ∷ ns) rest =
    let k = sets_of h.acceptance in
    let z = is_zero n in
    let next : Body = record b {
      in_set = if z then true else b.in_set;
      fault = if nat_le k (number_of n) then first_of b.fault n.at else b.fault;
    } in
    state_sets strict h s next ns rest
    ∙ ap (λ i. run strict (at_body h s stage.Edges (record b {
      in_set = i;
      fault = noted_by (if nat_le k (number_of n) then first_of b.fault n.at else b.fault) (flat_map (past k) ns);
    })) rest) (zero_or z b.in_set (list_any is_zero ns))
    ∙ ap (λ f. run strict (at_body h s stage.Edges (record b {
      in_set = b.in_set || list_any is_zero (n ∷ ns);
      fault = f;
    })) rest)
    (ap (λ f. noted_by f (flat_map (past k) ns)) (noted_if (nat_le k (number_of n)) b.fault n.at)
    ∙ sym (noted_both b.fault (past k n) (flat_map (past k) ns)))

abbrev pub in_sets : Heads → Body → Option (List Numeral) → Body
in_sets h b sets = record b { in_set = b.in_set || has_zero sets; fault = noted_by b.fault (sets_faults h sets) }

numbers_sets : (strict : Bool) (h : Heads) (s : State) (q : Ready) (b : Body) (sets : Option (List Numeral)) (rest : List Token)
    → ((ts : List Token) → run strict (at_body h s (stage_of q) b) (Plain mark.LeftBrace ∷ ts) ≡ run strict (at_body h s stage.StateSets b) ts)
    → run strict (at_body h s (stage_of q) b) (sets_tokens sets ++ rest)
    ≡ run strict (at_body h s (stage_of (behind_sets q sets)) (in_sets h b sets)) rest
numbers_sets strict h s q b None rest begins =
    ap (λ i. run strict (at_body h s (stage_of q) (record b { in_set = i })) rest) (sym (or-false b.in_set))
numbers_sets strict h s q b (Some ns) rest begins =
    begins (map number_token ns ++ Plain mark.RightBrace ∷ [] ++ rest) ∙ state_sets strict h s b ns rest

-- ---- states

abbrev pub behind_name : Option (List ℕ) → Ready
behind_name None = Numbered
behind_name (Some name) = Named

name_read : (strict : Bool) (h : Heads) (s : State) (b : Body) (name : Option (List ℕ)) (sets : Option (List Numeral)) (rest : List Token)
    → run strict (at_body h s stage.BehindNumber b) (name_tokens name ++ (sets_tokens sets ++ rest))
    ≡ run strict (at_body h s (stage_of (behind_sets (behind_name name) sets)) (in_sets h b sets)) rest
name_read strict h s b None sets rest = numbers_sets strict h s Numbered b sets rest (λ ts. refl)
name_read strict h s b (Some name) sets rest = numbers_sets strict h s Named b sets rest (λ ts. refl)

-- before the first state, or behind one
abbrev pub stage_at : Option Ready → Stage
stage_at None = stage.Body
stage_at (Some q) = stage_of q

state_turn : (strict : Bool) (p : Option Ready) (h : Heads) (s : State) (b : Body) (ts : List Token)
    → run strict (at_body h s (stage_at p) b) (Plain mark.State ∷ ts) ≡ run strict (at_body h s stage.StateNumber b) ts
state_turn strict None h s b ts = refl
state_turn strict (Some Numbered) h s b ts = refl
state_turn strict (Some Named) h s b ts = refl
state_turn strict (Some Marked) h s b ts = refl
state_turn strict (Some Targeted) h s b ts = refl

end_turn : (strict : Bool) (p : Option Ready) (h : Heads) (s : State) (b : Body) (ts : List Token)
    → run strict (at_body h s (stage_at p) b) (Plain mark.End ∷ ts) ≡ run strict (at_body h s stage.Done b) ts
end_turn strict None h s b ts = refl
end_turn strict (Some Numbered) h s b ts = refl
end_turn strict (Some Named) h s b ts = refl
end_turn strict (Some Marked) h s b ts = refl
end_turn strict (Some Targeted) h s b ts = refl

abbrev pub behind_state : Heads → Body → StateText → Body
behind_state h b t = behind_edges h (in_sets h (numbered h b t.id) t.sets) t.edges

abbrev pub ready_at : StateText → Ready
ready_at t = ready_behind (behind_sets (behind_name t.name) t.sets) t.edges

state_parts : (t : StateText) (rest : List Token)
    → name_tokens t.name ++ (sets_tokens t.sets ++ flat_map edge_tokens t.edges) ++ rest
    ≡ name_tokens t.name ++ (sets_tokens t.sets ++ (flat_map edge_tokens t.edges ++ rest))
state_parts t rest =
    append_assoc (name_tokens t.name) (sets_tokens t.sets ++ flat_map edge_tokens t.edges) rest
    ∙ ap (λ ts. name_tokens t.name ++ ts) (append_assoc (sets_tokens t.sets) (flat_map edge_tokens t.edges) rest)

state_read : (strict : Bool) (h : Heads) (s : State) (p : Option Ready) (b : Body) (t : StateText) (rest : List Token)
    → Fits strict (length b.edges + length t.edges) most_edges
    → Each (FitsLabel strict) t.edges
    → run strict (at_body h s (stage_at p) b) (state_tokens t ++ rest)
    ≡ run strict (at_body h s (stage_of (ready_at t)) (behind_state h b t)) rest
state_read strict h s p b t rest few small =
    let edges = flat_map edge_tokens t.edges in
    let tail = name_tokens t.name ++ (sets_tokens t.sets ++ edges) in
    state_turn strict p h s b (number_token t.id ∷ (tail ++ rest))
    ∙ ap (λ next. run strict next (tail ++ rest)) (number_read h s b t.id)
    ∙ ap (run strict (at_body h s stage.BehindNumber (numbered h b t.id))) (state_parts t rest)
    ∙ name_read strict h s (numbered h b t.id) t.name t.sets (edges ++ rest)
    ∙ edges_read strict h s (behind_sets (behind_name t.name) t.sets) (in_sets h (numbered h b t.id) t.sets) t.edges rest few small

abbrev pub behind_states : Heads → Body → List StateText → Body
behind_states h b [] = b
behind_states h b (t ∷ ts) = behind_states h (behind_state h b t) ts

abbrev pub place_behind : Option Ready → List StateText → Option Ready
place_behind p [] = p
place_behind p (t ∷ ts) = place_behind (Some (ready_at t)) ts

abbrev pub edge_texts : List StateText → List EdgeText
edge_texts ts = flat_map (λ t. t.edges) ts

edges_longer : (h : Heads) (b : Body) (es : List EdgeText) → length (behind_edges h b es).edges ≡ length b.edges + length es
edges_longer h b [] = omega arith
edges_longer h b (e ∷ es) = omega (arith, edges_longer h (behind_edge h b e) es, one_longer h b e)

pub each_first : {A : Type 0} (P : A → Type 0) (xs ys : List A) → Each P (xs ++ ys) → Each P xs
each_first {A} P [] ys all = tt
each_first {A} P (x ∷ xs) ys all = (all.0, each_first P xs ys all.1)

pub each_last : {A : Type 0} (P : A → Type 0) (xs ys : List A) → Each P (xs ++ ys) → Each P ys
each_last {A} P [] ys all = all
each_last {A} P (x ∷ xs) ys all = each_last P xs ys all.1

pub states_read : (strict : Bool) (h : Heads) (s : State) (p : Option Ready) (b : Body) (ts : List StateText) (rest : List Token)
    → Fits strict (length b.edges + length (edge_texts ts)) most_edges
    → Each (FitsLabel strict) (edge_texts ts)
    → run strict (at_body h s (stage_at p) b) (flat_map state_tokens ts ++ rest)
    ≡ run strict (at_body h s (stage_at (place_behind p ts)) (behind_states h b ts)) rest
states_read strict h s p b [] rest few small = refl
states_read strict h s p b (t ∷ ts) rest few small =
    let long = length-append t.edges (edge_texts ts) in
    ap (run strict (at_body h s (stage_at p) b)) (append_assoc (state_tokens t) (flat_map state_tokens ts) rest)
    ∙ state_read strict h s p b t (flat_map state_tokens ts ++ rest) (λ on. let low = few on in omega arith)
    (each_first (FitsLabel strict) t.edges (edge_texts ts) small)
    ∙ states_read strict h s (Some (ready_at t)) (behind_state h b t) ts rest
    (λ on. let low = few on in omega (arith, edges_longer h (in_sets h (numbered h b t.id) t.sets) t.edges))
    (each_last (FitsLabel strict) t.edges (edge_texts ts) small)

-- the whole body
pub body_read : (strict : Bool) (h : Heads) (s : State) (b : Body) (ts : List StateText)
    → Fits strict (length b.edges + length (edge_texts ts)) most_edges
    → Each (FitsLabel strict) (edge_texts ts)
    → run strict (at_body h s stage.Body b) (flat_map state_tokens ts ++ Plain mark.End ∷ [])
    ≡ Some (at_body h s stage.Done (behind_states h b ts))
body_read strict h s b ts few small =
    states_read strict h s None b ts (Plain mark.End ∷ []) few small
    ∙ end_turn strict (place_behind None ts) h s (behind_states h b ts) []
