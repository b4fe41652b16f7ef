-- The text of an automaton stands for it.
--
--   text_shape   == the text, with its numbers and names between what is fixed
--   text_read    == its tokens are those of a draft
--   text_stands  == it stands for the automaton
--   text_is_read == and is read as it, within the limits
use Rattle.std.proofs.Common.{ℕ, ◌≡◌, ◌+◌, ◌*◌, ◌<◌, ◌≤◌, ◌^◌, List, [], ◌∷◌, ◌++◌, length}
use Rattle.std.proofs.Common.{map, inl, inr, refl, sym, ap, ◌∙◌, subst, arith, append_assoc, codes}
use Rattle.std.specs.List.{flat_map, enumerate_from, All}
use Rattle.std.proofs.lemmas.List.{length-map}
use Rattle.std.proofs.lemmas.List.Elements.{All-nil, All-cons}
use Rattle.ml_base.specs.Name.{IsName}
use Rattle.ml_lines.specs.Lines.{line_text, next, number}
use Rattle.ml_lines.proofs.Words.{line_text-words}
use Rattle.ml_lists.specs.Ascending.{IsAscending}
use Rattle.ml_lists.specs.Member.{IsMember}
use Rattle.ml_lists.proofs.Member.{All-member, member-All, member-flat_map_from, member-map_from, member-place}
use Rattle.ml_hoa.specs.Automaton.{most_props}
use Rattle.ml_hoa.specs.AutomatonText.{IsSmallLabel, automaton_of, body_faults, faults, most_inside, number_of, operators_in}
use Rattle.ml_hoa.specs.Grammar.{Draft, EdgeText, Header, Heads, IsDraft, IsHeader, Marked, Other, Props, Start, StateText, States, body_tokens, draft_tokens, header_tokens, number_token, state_tokens}
use Rattle.ml_hoa.specs.Tokens.{Number, Plain, Text, Token, signs_of, tokens, tokens_at}
use Rattle.ml_hoa.specs.WrittenLines.{quoted}
use Rattle.ml_hoa.specs.declared.reader.Acceptance.TheVariants as acceptance
use Rattle.ml_hoa.specs.declared.token.Mark.TheVariants as mark
use Rattle.ml_labelled.specs.declared.labelled.Literal.{Literal}
use Rattle.ml_labelled.specs.Labelled.{Automaton, Edge, IsCube, IsLabelled, edges_of}
use Rattle.ml_labelled.specs.LabelledText.{automaton_text, guarded, state_text}
use Rattle.ml_labelled.specs.Laws.{TextIsRead, TextStands}
use Rattle.ml_labelled.proofs.ReadLabels.{in_range, numeral, numeral_is}
use Rattle.ml_labelled.proofs.ReadStates.{AreWithin, states_read}
use Rattle.ml_labelled.proofs.WrittenTokens.{number_read, onward, quoted_read, signs_at}

-- ---- what is fixed

first_read : (rest : List ℕ)
    → signs_at 0 (codes "HOA: v1" ++ 10 ∷ (codes "States: " ++ rest))
    ≡ Plain mark.Hoa ∷ Plain mark.Version ∷ Plain mark.States ∷ signs_at 16 rest
unfolding tokens_at
first_read rest = refl

start_read : (i : ℕ) (rest : List ℕ) → signs_at i (10 ∷ (codes "Start: " ++ rest)) ≡ Plain mark.Start ∷ signs_at (onward 8 i) rest
unfolding tokens_at
start_read i rest = refl

props_read : (i : ℕ) (rest : List ℕ) → signs_at i (10 ∷ (codes "AP: " ++ rest)) ≡ Plain mark.Props ∷ signs_at (onward 5 i) rest
unfolding tokens_at
props_read i rest = refl

name_read : (i : ℕ) (rest : List ℕ)
    → signs_at i (10 ∷ (codes "acc-name: Buchi" ++ 10 ∷ rest)) ≡ Plain mark.Ignored ∷ Plain mark.Word ∷ signs_at (onward 17 i) rest
unfolding tokens_at
name_read i rest = refl

acceptance_read : (i : ℕ) (rest : List ℕ)
    → signs_at i (codes "Acceptance: 1 Inf(0)" ++ 10 ∷ rest)
    ≡ Plain mark.Acceptance ∷ Number (codes "1") (onward 12 i) ∷ Plain mark.Inf ∷ Plain mark.LeftParen
    ∷ Number (codes "0") (onward 18 i) ∷ Plain mark.RightParen ∷ signs_at (onward 21 i) rest
unfolding tokens_at
acceptance_read i rest = refl

properties_read : (i : ℕ) (rest : List ℕ)
    → signs_at i (codes "properties: trans-labels explicit-labels trans-acc" ++ 10 ∷ rest)
    ≡ Plain mark.Ignored ∷ Plain mark.Word ∷ Plain mark.Word ∷ Plain mark.Word ∷ signs_at (onward 51 i) rest
unfolding tokens_at
properties_read i rest = refl

body_read : (i : ℕ) (rest : List ℕ) → signs_at i (codes "--BODY--" ++ 10 ∷ rest) ≡ Plain mark.Body ∷ signs_at (onward 9 i) rest
unfolding tokens_at
body_read i rest = refl

last_read : (i : ℕ) → signs_at i (codes "--END--" ++ 10 ∷ []) ≡ Plain mark.End ∷ []
unfolding tokens_at
last_read i = refl

blank_read : (i : ℕ) (rest : List ℕ) → signs_at i (32 ∷ 34 ∷ rest) ≡ signs_at (i + 1) (34 ∷ rest)
unfolding tokens_at
blank_read i rest = refl

-- ---- names

names_read : (names : List (List ℕ)) (i : ℕ) (rest : List ℕ)
    → ((p : List ℕ) → IsMember p names → IsName p)
    → (j : ℕ) × (signs_at i (flat_map next (map quoted names) ++ rest) ≡ map Text names ++ signs_at j rest)
names_read [] i rest all = (i, refl)
names_read (p ∷ names) i rest all =
    let behind = flat_map next (map quoted names) ++ rest in
    let here = quoted_read (i + 1) p behind (all p (inl refl)) in
    let more = names_read names here.0 rest (λ q m. all q (inr m)) in (
      more.0,
      ap (signs_at i)
          (append_assoc (next (quoted p)) (flat_map next (map quoted names)) rest
          ∙ ap (λ text. 32 ∷ 34 ∷ text) (append_assoc p (34 ∷ []) behind))
          ∙ blank_read i (p ++ 34 ∷ behind)
          ∙ here.1
          ∙ ap (λ ts. Text p ∷ ts) more.1,
    )

-- behind the number of propositions a blank stands, or the end of the line
props_number_read : (n i : ℕ) (names : List (List ℕ)) (rest : List ℕ)
    → n < 2 ^ 64
    → (j : ℕ) × (signs_at i (number n ++ (flat_map next names ++ 10 ∷ rest))
    ≡ Number (number n) i ∷ signs_at j (flat_map next names ++ 10 ∷ rest))
props_number_read n i [] rest fits = number_read n i 10 rest fits refl
props_number_read n i (p ∷ names) rest fits = number_read n i 32 (p ++ flat_map next names ++ 10 ∷ rest) fits refl

-- ---- the whole

abbrev end_of_head : List ℕ
end_of_head =
    codes "acc-name: Buchi" ++ 10 ∷ (codes "Acceptance: 1 Inf(0)" ++ 10
    ∷ (codes "properties: trans-labels explicit-labels trans-acc" ++ 10 ∷ (codes "--BODY--" ++ 10 ∷ [])))

-- a line, and what stands behind it
line_on : (line rest body : List ℕ) → ((line ++ 10 ∷ []) ++ rest) ++ body ≡ line ++ 10 ∷ (rest ++ body)
line_on line rest body =
    append_assoc (line ++ 10 ∷ []) rest body ∙ append_assoc line (10 ∷ []) (rest ++ body)

names_on : (n : ℕ) (names : List (List ℕ)) (rest body : List ℕ)
    → (line_text (number n ∷ names) ++ rest) ++ body ≡ number n ++ (flat_map next names ++ 10 ∷ (rest ++ body))
names_on n names rest body =
    let line = flat_map next names ++ 10 ∷ [] in
    ap (λ t. (t ++ rest) ++ body) (line_text-words (number n) names)
    ∙ ap (λ t. t ++ body) (append_assoc (number n) line rest)
    ∙ append_assoc (number n) (line ++ rest) body
    ∙ ap (λ t. number n ++ t) (line_on (flat_map next names) rest body)

text_shape : (a : Automaton)
    → automaton_text a
    ≡ codes "HOA: v1" ++ 10 ∷ (codes "States: " ++ (number (length a.edges) ++ 10 ∷ (codes "Start: " ++ (number 0 ++ 10
    ∷ (codes "AP: " ++ (number (length a.props) ++ (flat_map next (map quoted a.props) ++ 10 ∷ (end_of_head ++
    (flat_map state_text (enumerate_from 0 a.edges) ++ (codes "--END--" ++ 10 ∷ []))))))))))
text_shape a =
    let names = map quoted a.props in
    let body = flat_map state_text (enumerate_from 0 a.edges) ++ (codes "--END--" ++ 10 ∷ []) in
    let props = line_text (number (length a.props) ∷ names) ++ end_of_head in
    let start = (number 0 ++ 10 ∷ []) ++ (codes "AP: " ++ props) in
    ap (λ t. codes "HOA: v1" ++ 10 ∷ (codes "States: " ++ t))
    (line_on (number (length a.edges)) (codes "Start: " ++ start) body
    ∙ ap (λ t. number (length a.edges) ++ 10 ∷ (codes "Start: " ++ t))
    (line_on (number 0) (codes "AP: " ++ props) body
    ∙ ap (λ t. number 0 ++ 10 ∷ (codes "AP: " ++ t)) (names_on (length a.props) names end_of_head body)))

-- the tokens between the propositions and the states
abbrev head_tokens : ℕ → List Token
head_tokens i =
    Plain mark.Ignored ∷ Plain mark.Word ∷ Plain mark.Acceptance ∷ Number (codes "1") (onward 12 (onward 17 i)) ∷ Plain mark.Inf
    ∷ Plain mark.LeftParen ∷ Number (codes "0") (onward 18 (onward 17 i)) ∷ Plain mark.RightParen ∷ Plain mark.Ignored
    ∷ Plain mark.Word ∷ Plain mark.Word ∷ Plain mark.Word ∷ Plain mark.Body ∷ []

abbrev behind_head : ℕ → ℕ
behind_head i = onward 9 (onward 51 (onward 21 (onward 17 i)))

head_read : (i : ℕ) (rest : List ℕ)
    → signs_at i (10 ∷ (end_of_head ++ rest)) ≡ head_tokens i ++ signs_at (behind_head i) rest
head_read i rest =
    let properties = codes "properties: trans-labels explicit-labels trans-acc" in
    let body = codes "--BODY--" ++ 10 ∷ rest in
    name_read i (codes "Acceptance: 1 Inf(0)" ++ 10 ∷ (properties ++ 10 ∷ body))
    ∙ ap (λ ts. Plain mark.Ignored ∷ Plain mark.Word ∷ ts)
    (acceptance_read (onward 17 i) (properties ++ 10 ∷ body)
    ∙ ap
    (λ ts. Plain mark.Acceptance ∷ Number (codes "1") (onward 12 (onward 17 i)) ∷ Plain mark.Inf ∷ Plain mark.LeftParen
    ∷ Number (codes "0") (onward 18 (onward 17 i)) ∷ Plain mark.RightParen ∷ ts)
    (properties_read (onward 21 (onward 17 i)) body
    ∙ ap (λ ts. Plain mark.Ignored ∷ Plain mark.Word ∷ Plain mark.Word ∷ Plain mark.Word ∷ ts)
    (body_read (onward 51 (onward 21 (onward 17 i))) rest)))

-- the headers behind the propositions
abbrev properties : List Header
properties = Other (Plain mark.Word ∷ Plain mark.Word ∷ Plain mark.Word ∷ []) ∷ []

abbrev condition : ℕ → Header
condition i = Marked (onward 12 (onward 17 i)) (onward 18 (onward 17 i))

abbrev later : ℕ → List Header
later i = Other (Plain mark.Word ∷ []) ∷ condition i ∷ properties

later_headers : (i : ℕ) → All IsHeader (later i)
later_headers i =
    All-cons IsHeader (Other (Plain mark.Word ∷ [])) (condition i ∷ properties) refl
    (All-cons IsHeader (condition i) properties tt
    (All-cons IsHeader (Other (Plain mark.Word ∷ Plain mark.Word ∷ Plain mark.Word ∷ [])) [] refl (All-nil IsHeader)))

tokens_are : (text : List ℕ) → signs_of (tokens text) ≡ signs_at 0 text
unfolding tokens
tokens_are text = refl

-- ---- what it stands for

module _ (a : Automaton) (is : IsLabelled a) where
  abbrev states : ℕ
  states = length a.edges

  rows_within : (es : List Edge) → IsMember es a.edges → AreWithin states (length a.props) es
  rows_within es m e k =
      let at = member-place es a.edges m in
      let row : es ≡ edges_of a at.place = sym (at.holds []) in
      let fits = is.edges at.place e (subst (IsMember e) row k) in
      record { to_state = fits.to_state; props_below = fits.is_cube.below }

  -- a numeral is below 2^64
  low_number : (n : ℕ) → n < 2 ^ 32 → n < 2 ^ 64
  low_number n low = omega arith

  record Read : Type 0 where
    draft : Draft
    reads : signs_of (tokens (automaton_text a)) ≡ draft_tokens draft
    whole : IsDraft draft
    in_range : faults draft ≡ []
    is_automaton : guarded a ≡ automaton_of draft
    states_are : number_of draft.heads.states ≡ states
    props_are : draft.heads.props ≡ a.props
    edges_are : length (flat_map (λ (s : StateText). s.edges) draft.states) ≡ length (flat_map (λ es. es) a.edges)
    small : (most : ℕ)
        → ((e : Edge) → IsMember e (flat_map (λ es. es) a.edges) → length e.cube ≤ most)
        → (t : EdgeText) → IsMember t (flat_map (λ (s : StateText). s.edges) draft.states)
        → (operators_in t.label ≤ 2 * most) × (most_inside t.label ≡ 0)

  text_read : Read
  text_read =
      let names = map quoted a.props in
      let last = codes "--END--" ++ 10 ∷ [] in
      let rows = flat_map state_text (enumerate_from 0 a.edges) in
      let body = rows ++ last in
      let head = 10 ∷ (end_of_head ++ body) in
      let props_text = number (length a.props) ++ (flat_map next names ++ head) in
      let start_text = number 0 ++ 10 ∷ (codes "AP: " ++ props_text) in
      let few_states = is.few_states in
      let few_props = is.few_props in
      let some_state = is.some_state in
      let n = number_read states 16 10 (codes "Start: " ++ start_text) (low_number states few_states) refl in
      let start_at = onward 8 n.0 in
      let z = number_read 0 start_at 10 (codes "AP: " ++ props_text) (omega arith) refl in
      let props_at = onward 5 z.0 in
      let k = props_number_read (length a.props) props_at names (end_of_head ++ body) (low_number (length a.props) few_props) in
      let p = names_read a.props k.0 head (All-member IsName a.props is.names) in
      let at = p.0 in
      let heads : Heads = record {
        states = numeral states 16;
        start = numeral 0 start_at;
        props = a.props;
        acceptance = acceptance.Marked;
      } in
      let states_is : number_of (numeral states 16) ≡ states = numeral_is states 16 few_states in
      let zero_is : number_of (numeral 0 start_at) ≡ 0 = numeral_is 0 start_at (omega arith) in
      let s = states_read heads states few_states few_props states_is refl 0 a.edges (behind_head at) last (omega arith) rows_within in
      let start_head = Start (numeral 0 start_at) in
      let props_head = Props (numeral (length a.props) props_at) a.props in
      let headers = States (numeral states 16) ∷ start_head ∷ props_head ∷ later at in
      let draft : Draft = record { headers = headers; heads = heads; states = s.texts } in
      record {
        draft = draft;
        reads =
            tokens_are (automaton_text a)
            ∙ ap (signs_at 0) (text_shape a)
            ∙ first_read (number states ++ 10 ∷ (codes "Start: " ++ start_text))
            ∙ ap (λ ts. Plain mark.Hoa ∷ Plain mark.Version ∷ Plain mark.States ∷ ts)
            (n.1
            ∙ ap (λ ts. number_token (numeral states 16) ∷ ts)
            (start_read n.0 start_text
            ∙ ap (λ ts. Plain mark.Start ∷ ts)
            (z.1
            ∙ ap (λ ts. number_token (numeral 0 start_at) ∷ ts)
            (props_read z.0 props_text
            ∙ ap (λ ts. Plain mark.Props ∷ ts)
            (k.1
            ∙ ap (λ ts. number_token (numeral (length a.props) props_at) ∷ ts)
            (p.1
            ∙ ap (λ ts. map Text a.props ++ ts)
            (head_read at body
            ∙ ap (λ ts. head_tokens at ++ ts)
            (s.reads ∙ ap (λ ts. flat_map state_tokens s.texts ++ ts) (last_read s.behind)))
            ∙ sym (append_assoc (map Text a.props) (flat_map header_tokens (later at)) (Plain mark.Body ∷ body_tokens s.texts))))))));
        whole = record {
          headers =
              All-cons IsHeader (States (numeral states 16)) (start_head ∷ props_head ∷ later at) tt
              (All-cons IsHeader start_head (props_head ∷ later at) tt
              (All-cons IsHeader props_head (later at)
              (numeral_is (length a.props) props_at few_props) (later_headers at)));
          states_once = refl;
          start_once = refl;
          props_once = refl;
          acceptance_once = refl;
        };
        in_range =
            ap (λ fs. fs ++ body_faults heads [] s.texts)
            (in_range (number_of (numeral states 16)) (numeral 0 start_at) (omega arith))
            ∙ s.no_fault [] (λ t m. absurd m);
        is_automaton =
            let edges = s.edges in
            λ j. record { states = sym states_is j; start = sym zero_is j; props = a.props; edges = sym edges j };
        states_are = states_is;
        props_are = refl;
        edges_are = s.as_many;
        small = s.small;
      }

-- ---- laws

pub text_stands : TextStands
text_stands a is =
    let r = text_read a is in record {
      draft = r.draft;
      is_text = record { spelled = r.reads; whole = r.whole };
      in_range = r.in_range;
      is_automaton = r.is_automaton;
    }

-- a cube has no more literals than there are propositions
short_from : (k j : ℕ) (xs : List ℕ)
    → IsAscending xs
    → ((x : ℕ) → IsMember x xs → (j ≤ x) × (x < k))
    → j ≤ k
    → j + length xs ≤ k
short_from k j [] ascend all low = omega arith
short_from k j (x ∷ xs) (above, ascend) all low =
    let here = all x (inl refl) in
    let more = short_from k (x + 1) xs ascend (λ y m. (omega (arith, above y m), (all y (inr m)).1)) (omega (arith, here.1)) in
    omega (arith, here.0, more)

short_cube : (k : ℕ) (c : List Literal) → IsCube k c → length c ≤ k
short_cube k c is =
    let props = map (λ (l : Literal). l.prop) c in
    let long : length props ≡ length c = length-map c (λ (l : Literal). l.prop) in
    omega (arith, long, short_from k 0 props is.ascends (λ x m. (omega arith, low x m)) (omega arith))
  where
    low : (x : ℕ) → IsMember x (map (λ (l : Literal). l.prop) c) → x < k
    low x m =
        let i = member-map_from (λ (l : Literal). l.prop) x c m in
        let below = is.below i.from i.member in
        subst (λ y. y < k) (sym i.holds) below

pub text_is_read : TextIsRead
text_is_read a is few =
    let r = text_read a is in
    let edges = flat_map (λ (s : StateText). s.edges) r.draft.states in
    record {
      draft = r.draft;
      stands = record {
        is_text = record { spelled = r.reads; whole = r.whole };
        is_small = record {
          few_states = let e = r.states_are in let low = few.few_states in omega arith;
          few_props = let e = ap length r.props_are in let low = few.few_props in omega arith;
          few_edges = let e = r.edges_are in let low = few.few_edges in omega arith;
          labels = member-All IsSmallLabel edges (λ t m. label t (r.small most_props short t m));
        };
      };
      in_range = r.in_range;
      is_automaton = r.is_automaton;
    }
  where
    label : (t : EdgeText) → (operators_in t.label ≤ 2 * most_props) × (most_inside t.label ≡ 0) → IsSmallLabel t
    label t (small, flat) = record { operators = omega (arith, small); open_at_once = omega (arith, flat) }

    short : (e : Edge) → IsMember e (flat_map (λ es. es) a.edges) → length e.cube ≤ most_props
    short e m =
        let i = member-flat_map_from (λ es. es) e a.edges m in
        let at = member-place i.from a.edges i.member in
        let row : i.from ≡ edges_of a at.place = sym (at.holds []) in
        let cube = (is.edges at.place e (subst (IsMember e) row i.inside)).is_cube in
        omega (arith, short_cube (length a.props) e.cube cube, few.few_props)
