-- What is written of edges and states is edges and states of the grammar.
--
--   SetsRead, EdgeRead, EdgesRead, StatesRead == what stands in the text is such a part, and has these edges
--   sets_read, edge_read, edges_read, states_read == so it is
use Rattle.std.proofs.Common.{ℕ, suc, ◌≡◌, ◌+◌, ◌*◌, ◌<◌, ◌≤◌, ◌^◌, ◌||◌, ◌⊎◌, Bool, true, false, nat_eq, nat_le, List, [], ◌∷◌}
use Rattle.std.proofs.Common.{◌++◌, length, map, Option, Some, None, inl, inr, refl, sym, ap, ◌∙◌, subst, arith, append_assoc, length-append}
use Rattle.std.specs.List.{flat_map, enumerate_from, list_any}
use Rattle.std.proofs.lemmas.Bool.Decides.{nat_tests}
use Rattle.std.proofs.lemmas.Bool.{cond-false}
use Rattle.ml_lines.specs.Lines.{next, number}
use Rattle.ml_lines.proofs.Words.{line_text-words}
use Rattle.ml_lists.specs.Member.{IsMember}
use Rattle.ml_lists.proofs.Member.{member-append, member-append_left, member-append_right}
use Rattle.ml_text.specs.Bytes.{is_digit}
use Rattle.ml_hoa.specs.AutomatonText.{accepts, body_faults, edge_faults, edge_of, edges_in, has_zero, id_faults, most_inside, number_of, operators_in, past, sets_faults, sets_of}
use Rattle.ml_hoa.specs.Grammar.{EdgeText, Heads, Numeral, StateText, edge_tokens, label_tokens, number_token, sets_tokens, state_tokens}
use Rattle.ml_hoa.specs.Tokens.{Plain, tokens_at}
use Rattle.ml_hoa.specs.declared.reader.Acceptance.TheVariants as acceptance
use Rattle.ml_hoa.specs.declared.token.Mark.TheVariants as mark
use Rattle.ml_labelled.specs.declared.labelled.Literal.{Literal}
use Rattle.ml_labelled.specs.Labelled.{Edge}
use Rattle.ml_hoa.specs.WrittenLines.{bracketed}
use Rattle.ml_labelled.specs.LabelledText.{edge_text, guarded_edge, guarded_edges, label, set_words, state_text}
use Rattle.ml_labelled.proofs.ReadLabels.{in_range, label_read, numeral, numeral_is}
use Rattle.ml_labelled.proofs.WrittenTokens.{number_read, onward, signs_at}

-- ---- marks

bracket_read : (i : ℕ) (rest : List ℕ) → signs_at i (91 ∷ rest) ≡ Plain mark.LeftBracket ∷ signs_at (i + 1) rest
unfolding tokens_at
bracket_read i rest = refl

close_read : (i : ℕ) (rest : List ℕ) → signs_at i (93 ∷ 32 ∷ rest) ≡ Plain mark.RightBracket ∷ signs_at (onward 2 i) rest
unfolding tokens_at
close_read i rest = refl

end_read : (i : ℕ) (rest : List ℕ) → signs_at i (10 ∷ rest) ≡ signs_at (i + 1) rest
unfolding tokens_at
end_read i rest = refl

zero_at : ℕ → Numeral
zero_at i = record { digits = 48 ∷ []; at = onward 2 i }

set_read : (i : ℕ) (rest : List ℕ)
    → signs_at i (32 ∷ 123 ∷ 48 ∷ 125 ∷ 10 ∷ rest) ≡ sets_tokens (Some (zero_at i ∷ [])) ++ signs_at (onward 5 i) rest
unfolding tokens_at zero_at
set_read i rest = refl

zero_is : (i : ℕ) → number_of (zero_at i) ≡ 0
unfolding zero_at
zero_is i = refl

state_mark_read : (i : ℕ) (rest : List ℕ)
    → signs_at i (83 ∷ 116 ∷ 97 ∷ 116 ∷ 101 ∷ 58 ∷ 32 ∷ rest) ≡ Plain mark.State ∷ signs_at (onward 7 i) rest
unfolding tokens_at
state_mark_read i rest = refl

-- ---- edges

pub record IsWithin (states props : ℕ) (e : Edge) : Type 0 where
  pub to_state : e.to < states
  pub props_below : (l : Literal) → IsMember l e.cube → l.prop < props

abbrev pub AreWithin : ℕ → ℕ → List Edge → Type 0
AreWithin states props es = (e : Edge) → IsMember e es → IsWithin states props e

module _ (h : Heads) (states : ℕ) (few_states : states < 2 ^ 32) (few_props : length h.props < 2 ^ 32)
    (states_are : number_of h.states ≡ states) (marked : h.acceptance ≡ acceptance.Marked) where
  abbrev props : ℕ
  props = length h.props

  -- what stands behind the target, up to the end of the line
  record SetsRead (accepting : Bool) (i : ℕ) (rest : List ℕ) : Type 0 where
    sets : Option (List Numeral)
    behind : ℕ
    reads : signs_at i (flat_map next (set_words accepting) ++ 10 ∷ rest) ≡ sets_tokens sets ++ signs_at behind rest
    accepts_so : has_zero sets ≡ accepting
    no_fault : sets_faults h sets ≡ []

  sets_read : (accepting : Bool) (i : ℕ) (rest : List ℕ) → SetsRead accepting i rest
  sets_read true i rest = record {
    sets = Some (zero_at i ∷ []);
    behind = onward 5 i;
    reads = set_read i rest;
    accepts_so = ap (λ n. (nat_eq n 0) || false) (zero_is i);
    no_fault =
        ap (λ a. past (sets_of a) (zero_at i) ++ []) marked
        ∙ ap (λ fs. fs ++ []) (in_range 1 (zero_at i) (let is = zero_is i in omega arith));
  }
  sets_read false i rest = record {
    sets = None;
    behind = i + 1;
    reads = end_read i rest;
    accepts_so = refl;
    no_fault = refl;
  }

  pub record EdgeRead (p : ℕ) (e : Edge) (i : ℕ) (rest : List ℕ) : Type 0 where
    pub text : EdgeText
    pub behind : ℕ
    pub reads : signs_at i (edge_text e ++ rest) ≡ edge_tokens text ++ signs_at behind rest
    pub edge : (s : StateText) → number_of s.id ≡ p → s.sets ≡ None → edge_of h s text ≡ guarded_edge p e
    pub no_fault : edge_faults h text ≡ []
    pub few : operators_in text.label ≤ 2 * length e.cube
    pub flat : most_inside text.label ≡ 0

  edge_shape : (e : Edge) (rest : List ℕ)
      → edge_text e ++ rest
      ≡ 91 ∷ (label e.cube ++ 93 ∷ 32 ∷ (number e.to ++ (flat_map next (set_words e.accepting) ++ 10 ∷ rest)))
  edge_shape e rest =
      let sets = flat_map next (set_words e.accepting) in
      let behind = next (number e.to) ++ (sets ++ 10 ∷ rest) in
      ap (λ text. text ++ rest) (line_text-words (bracketed (label e.cube)) (number e.to ∷ set_words e.accepting))
      ∙ append_assoc (bracketed (label e.cube)) ((next (number e.to) ++ sets) ++ 10 ∷ []) rest
      ∙ ap (λ text. bracketed (label e.cube) ++ text)
      (append_assoc (next (number e.to) ++ sets) (10 ∷ []) rest ∙ append_assoc (next (number e.to)) sets (10 ∷ rest))
      ∙ ap (λ text. 91 ∷ text) (append_assoc (label e.cube) (93 ∷ []) behind)

  head_no_digit : (accepting : Bool) (rest : List ℕ)
      → (b : ℕ) × (r : List ℕ) × (flat_map next (set_words accepting) ++ 10 ∷ rest ≡ b ∷ r)
      × (is_digit b ≡ false)
  head_no_digit true rest = (32, 123 ∷ 48 ∷ 125 ∷ 10 ∷ rest, refl, refl)
  head_no_digit false rest = (10, rest, refl, refl)

  edge_read : (p : ℕ) (e : Edge) (i : ℕ) (rest : List ℕ) → IsWithin states props e → EdgeRead p e i rest
  edge_read p e i rest fits =
      let low = fits.to_state in
      let sets_text = flat_map next (set_words e.accepting) ++ 10 ∷ rest in
      let target = number e.to ++ sets_text in
      let l = label_read props few_props e.cube (i + 1) (32 ∷ target) fits.props_below in
      let at = onward 2 l.behind in
      let head = head_no_digit e.accepting rest in
      let to = number_read e.to at head.0 head.1 (omega arith) head.3 in
      let sets = sets_read e.accepting to.0 rest in
      let to_text : Numeral = numeral e.to at in
      let is = numeral_is e.to at (omega arith) in
      record {
        text = record { label = l.text; to = to_text; sets = sets.sets };
        behind = sets.behind;
        reads =
            ap (signs_at i) (edge_shape e rest)
            ∙ bracket_read i (label e.cube ++ 93 ∷ 32 ∷ target)
            ∙ ap (λ ts. Plain mark.LeftBracket ∷ ts)
            (l.reads
            ∙ ap (λ ts. label_tokens l.text ++ ts)
            (close_read l.behind target
            ∙ ap (λ ts. Plain mark.RightBracket ∷ ts)
            (ap (λ text. signs_at at (number e.to ++ text)) head.2
            ∙ to.1
            ∙ ap (λ text. number_token to_text ∷ signs_at to.0 text) (sym head.2)
            ∙ ap (λ ts. number_token to_text ∷ ts) sets.reads))
            ∙ sym (append_assoc (label_tokens l.text) (Plain mark.RightBracket ∷ number_token to_text ∷ sets_tokens sets.sets)
            (signs_at sets.behind rest)));
        edge = λ s id none.
            let in_set : (has_zero s.sets || has_zero sets.sets) ≡ e.accepting =
            ap (λ o. has_zero o || has_zero sets.sets) none ∙ sets.accepts_so in
            let accepting : accepts h.acceptance (has_zero s.sets || has_zero sets.sets) ≡ e.accepting =
            ap (λ a. accepts a (has_zero s.sets || has_zero sets.sets)) marked ∙ in_set in
            let guard = l.guard in
            λ j. record { from = id j; guard = guard j; to = is j; accepting = accepting j };
        no_fault =
            ap (λ fs. fs ++ (past (number_of h.states) to_text ++ sets_faults h sets.sets)) l.no_fault
            ∙ ap (λ fs. fs ++ sets_faults h sets.sets) (in_range (number_of h.states) to_text (omega arith))
            ∙ sets.no_fault;
        few = l.few;
        flat = l.flat;
      }

  pub record EdgesRead (p : ℕ) (es : List Edge) (i : ℕ) (rest : List ℕ) : Type 0 where
    pub texts : List EdgeText
    pub behind : ℕ
    pub reads : signs_at i (flat_map edge_text es ++ rest) ≡ flat_map edge_tokens texts ++ signs_at behind rest
    pub edges : (s : StateText) → number_of s.id ≡ p → s.sets ≡ None → map (edge_of h s) texts ≡ map (guarded_edge p) es
    pub no_fault : flat_map (edge_faults h) texts ≡ []
    pub as_many : length texts ≡ length es
    pub small : (most : ℕ)
        → ((e : Edge) → IsMember e es → length e.cube ≤ most)
        → (t : EdgeText) → IsMember t texts → (operators_in t.label ≤ 2 * most) × (most_inside t.label ≡ 0)

  edges_read : (p : ℕ) (es : List Edge) (i : ℕ) (rest : List ℕ) → AreWithin states props es → EdgesRead p es i rest
  edges_read p [] i rest fit = record {
    texts = [];
    behind = i;
    reads = refl;
    edges = λ s id none. refl;
    no_fault = refl;
    as_many = refl;
    small = λ most all t m. absurd m;
  }
  edges_read p (e ∷ es) i rest fit =
      let here = edge_read p e i (flat_map edge_text es ++ rest) (fit e (inl refl)) in
      let more = edges_read p es here.behind rest (λ f m. fit f (inr m)) in record {
        texts = here.text ∷ more.texts;
        behind = more.behind;
        reads =
            ap (signs_at i) (append_assoc (edge_text e) (flat_map edge_text es) rest)
            ∙ here.reads
            ∙ ap (λ ts. edge_tokens here.text ++ ts) more.reads
            ∙ sym (append_assoc (edge_tokens here.text) (flat_map edge_tokens more.texts) (signs_at more.behind rest));
        edges = λ s id none. let one = here.edge s id none in let others = more.edges s id none in λ j. one j ∷ others j;
        no_fault = ap (λ fs. fs ++ flat_map (edge_faults h) more.texts) here.no_fault ∙ more.no_fault;
        as_many = ap suc more.as_many;
        small = λ most all t m. by_place here.text more.texts most all t m here.few here.flat more.small;
      }
    where
      by_place : (here : EdgeText) (texts : List EdgeText) (most : ℕ)
          → ((f : Edge) → IsMember f (e ∷ es) → length f.cube ≤ most)
          → (t : EdgeText) → IsMember t (here ∷ texts)
          → operators_in here.label ≤ 2 * length e.cube
          → most_inside here.label ≡ 0
          → ((most : ℕ)
          → ((f : Edge) → IsMember f es → length f.cube ≤ most)
          → (t : EdgeText) → IsMember t texts → (operators_in t.label ≤ 2 * most) × (most_inside t.label ≡ 0))
          → (operators_in t.label ≤ 2 * most) × (most_inside t.label ≡ 0)
      by_place here texts most all t (inl is) few flat more =
          let low = all e (inl refl) in (
            subst (λ (x : EdgeText). operators_in x.label ≤ 2 * most) (sym is) (omega arith),
            subst (λ (x : EdgeText). most_inside x.label ≡ 0) (sym is) flat,
          )
      by_place here texts most all t (inr m) few flat more = more most (λ f k. all f (inr k)) t m

  -- ---- states

  -- those from p on
  pub record StatesRead (p : ℕ) (rows : List (List Edge)) (i : ℕ) (rest : List ℕ) : Type 0 where
    pub texts : List StateText
    pub behind : ℕ
    pub reads : signs_at i (flat_map state_text (enumerate_from p rows) ++ rest)
        ≡ flat_map state_tokens texts ++ signs_at behind rest
    pub edges : flat_map (edges_in h) texts ≡ flat_map guarded_edges (enumerate_from p rows)
    pub no_fault : (before : List StateText)
        → ((s : StateText) → IsMember s before → number_of s.id < p)
        → body_faults h before texts ≡ []
    pub as_many : length (flat_map (λ (s : StateText). s.edges) texts) ≡ length (flat_map (λ es. es) rows)
    pub small : (most : ℕ)
        → ((e : Edge) → IsMember e (flat_map (λ es. es) rows) → length e.cube ≤ most)
        → (t : EdgeText) → IsMember t (flat_map (λ (s : StateText). s.edges) texts)
        → (operators_in t.label ≤ 2 * most) × (most_inside t.label ≡ 0)

  none_before : (p : ℕ) (before : List StateText)
      → ((s : StateText) → IsMember s before → number_of s.id < p)
      → list_any (λ (s : StateText). nat_eq p (number_of s.id)) before ≡ false
  none_before p [] low = refl
  none_before p (s ∷ before) low =
      let less = low s (inl refl) in
      let other : nat_eq p (number_of s.id) ≡ false = grind (arith, nat_tests) in
      ap (λ b. b || list_any (λ (s : StateText). nat_eq p (number_of s.id)) before) other
      ∙ none_before p before (λ t m. low t (inr m))

  id_in_range : (p : ℕ) (before : List StateText) (id : Numeral)
      → number_of id ≡ p
      → p < states
      → ((s : StateText) → IsMember s before → number_of s.id < p)
      → id_faults h before id ≡ []
  id_in_range p before id is low earlier =
      let not_past : nat_le (number_of h.states) (number_of id) ≡ false = grind (arith, nat_tests) in
      let not_twice : list_any (λ (s : StateText). nat_eq (number_of id) (number_of s.id)) before ≡ false =
      none_before (number_of id) before (λ s m. let less = earlier s m in omega arith) in
      cond-false _ (id.at ∷ []) []
      (ap (λ b. b || list_any (λ (s : StateText). nat_eq (number_of id) (number_of s.id)) before) not_past ∙ not_twice)

  state_shape : (p : ℕ) (es : List Edge) (rest : List ℕ)
      → state_text (p, es) ++ rest
      ≡ 83 ∷ 116 ∷ 97 ∷ 116 ∷ 101 ∷ 58 ∷ 32 ∷ (number p ++ 10 ∷ (flat_map edge_text es ++ rest))
  state_shape p es rest =
      ap (λ text. 83 ∷ 116 ∷ 97 ∷ 116 ∷ 101 ∷ 58 ∷ 32 ∷ text)
      (append_assoc (number p ++ 10 ∷ []) (flat_map edge_text es) rest
      ∙ append_assoc (number p) (10 ∷ []) (flat_map edge_text es ++ rest))

  pub states_read : (p : ℕ) (rows : List (List Edge)) (i : ℕ) (rest : List ℕ)
      → p + length rows ≤ states
      → ((es : List Edge) → IsMember es rows → AreWithin states props es)
      → StatesRead p rows i rest
  states_read p [] i rest low fit = record {
    texts = [];
    behind = i;
    reads = refl;
    edges = refl;
    no_fault = λ before earlier. refl;
    as_many = refl;
    small = λ most all t m. absurd m;
  }
  states_read p (es ∷ rows) i rest low fit =
      let further = flat_map state_text (enumerate_from (p + 1) rows) ++ rest in
      let at = onward 7 i in
      let id = number_read p at 10 (flat_map edge_text es ++ further) (omega arith) refl in
      let is = numeral_is p at (omega arith) in
      let here = edges_read p es (id.0 + 1) further (fit es (inl refl)) in
      let more = states_read (p + 1) rows here.behind rest (omega arith) (λ fs m. fit fs (inr m)) in
      let text : StateText = record { id = numeral p at; name = None; sets = None; edges = here.texts } in
      record {
        texts = text ∷ more.texts;
        behind = more.behind;
        reads =
            ap (signs_at i)
            (append_assoc (state_text (p, es)) (flat_map state_text (enumerate_from (p + 1) rows)) rest ∙ state_shape p es further)
            ∙ state_mark_read i (number p ++ 10 ∷ (flat_map edge_text es ++ further))
            ∙ ap (λ ts. Plain mark.State ∷ ts)
            (id.1
            ∙ ap (λ ts. number_token (numeral p at) ∷ ts)
            (end_read id.0 (flat_map edge_text es ++ further)
            ∙ here.reads
            ∙ ap (λ ts. flat_map edge_tokens here.texts ++ ts) more.reads
            ∙ sym (append_assoc (flat_map edge_tokens here.texts) (flat_map state_tokens more.texts)
            (signs_at more.behind rest))));
        edges =
            ap (λ fs. fs ++ flat_map (edges_in h) more.texts) (here.edges text is refl)
            ∙ ap (λ fs. map (guarded_edge p) es ++ fs) more.edges;
        no_fault = λ before earlier.
            ap (λ fs. (fs ++ flat_map (edge_faults h) here.texts) ++ body_faults h (before ++ text ∷ []) more.texts)
            (id_in_range p before (numeral p at) is (omega arith) earlier)
            ∙ ap (λ fs. fs ++ body_faults h (before ++ text ∷ []) more.texts) here.no_fault
            ∙ more.no_fault (before ++ text ∷ []) (λ s m. still_earlier text before s is earlier m);
        as_many =
            length-append here.texts (flat_map (λ (s : StateText). s.edges) more.texts)
            ∙ ap (λ n. n + length (flat_map (λ (s : StateText). s.edges) more.texts)) here.as_many
            ∙ ap (λ n. length es + n) more.as_many
            ∙ sym (length-append es (flat_map (λ fs. fs) rows));
        small = λ most all t m.
            by_part here.texts (flat_map (λ (s : StateText). s.edges) more.texts) most all t
            (member-append t here.texts (flat_map (λ (s : StateText). s.edges) more.texts) m) here.small more.small;
      }
    where
      still_earlier : (text : StateText) (before : List StateText) (s : StateText)
          → number_of text.id ≡ p
          → ((s : StateText) → IsMember s before → number_of s.id < p)
          → IsMember s (before ++ text ∷ [])
          → number_of s.id < p + 1
      still_earlier text before s is earlier m = by (member-append s before (text ∷ []) m)
        where
          by : IsMember s before ⊎ IsMember s (text ∷ []) → number_of s.id < p + 1
          by (inl there) = let less = earlier s there in omega arith
          by (inr (inl last)) = subst (λ (x : StateText). number_of x.id < p + 1) (sym last) (omega arith)
          by (inr (inr none)) = absurd none

      by_part : (texts others : List EdgeText) (most : ℕ)
          → ((e : Edge) → IsMember e (es ++ flat_map (λ fs. fs) rows) → length e.cube ≤ most)
          → (t : EdgeText)
          → IsMember t texts ⊎ IsMember t others
          → ((most : ℕ)
          → ((e : Edge) → IsMember e es → length e.cube ≤ most)
          → (t : EdgeText) → IsMember t texts → (operators_in t.label ≤ 2 * most) × (most_inside t.label ≡ 0))
          → ((most : ℕ)
          → ((e : Edge) → IsMember e (flat_map (λ fs. fs) rows) → length e.cube ≤ most)
          → (t : EdgeText) → IsMember t others → (operators_in t.label ≤ 2 * most) × (most_inside t.label ≡ 0))
          → (operators_in t.label ≤ 2 * most) × (most_inside t.label ≡ 0)
      by_part texts others most all t (inl m) small more =
          small most (λ e k. all e (member-append_left e es (flat_map (λ fs. fs) rows) k)) t m
      by_part texts others most all t (inr m) small more =
          more most (λ e k. all e (member-append_right e es (flat_map (λ fs. fs) rows) k)) t m
