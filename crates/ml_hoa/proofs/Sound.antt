-- What the reader reads to its end is an automaton text.
--
--   EdgesRest, .., Rest s ts   == what is left at each of the stages
--   back                       == a token more in front of what is left
--   rest_of                    == what is left of a text that is read to its end
--   read_text                  == such a text is an automaton text, within the limits where it is read strictly
use Rattle.std.proofs.Common.{◌≡◌, ℕ, suc, ◌+◌, ◌-◌, ◌<◌, ◌≤◌, ◌==◌, Bool, true, false, nat_eq, nat_le, if◌then◌else◌, List, [], ◌∷◌, ◌++◌, length, map}
use Rattle.std.proofs.Common.{Option, Some, None, refl, sym, ◌∙◌, ap, subst, arith, length-append, codes, All, inl, inr}
use Rattle.ml_lists.specs.Member.{IsMember}
use Rattle.ml_lists.proofs.Member.{member-All}
use Rattle.std.specs.List.{flat_map, list_all, list_any}
use Rattle.std.specs.Prelude.{bytes_eq}
use Rattle.std.proofs.lemmas.Slice.Eq.{bytes_eq-Decides}
use Rattle.std.proofs.lemmas.Bool.Decides.{nat_tests}
use Rattle.std.proofs.lemmas.List.{append_assoc}
use Rattle.ml_lines.specs.Reading.{value}
use Rattle.ml_hoa.specs.declared.token.Mark.TheVariants as mark
use Rattle.ml_hoa.specs.declared.reader.Acceptance.{Acceptance}
use Rattle.ml_hoa.specs.declared.reader.Acceptance.TheVariants as acceptance
use Rattle.ml_hoa.specs.declared.reader.Stage.{Stage}
use Rattle.ml_hoa.specs.declared.reader.Stage.TheVariants as stage
use Rattle.ml_hoa.specs.declared.reader.Stood.{Stood}
use Rattle.ml_hoa.specs.Automaton.{Edge, most_states, most_props, most_edges, most_operators}
use Rattle.ml_hoa.specs.Tokens.{Token, Number, Text, Plain}
use Rattle.ml_hoa.specs.Grammar as grammar
use Rattle.ml_hoa.specs.Grammar.{Numeral, EdgeText, StateText, Header, IsHeader, header_tokens, sets_tokens, name_tokens, edge_tokens, state_tokens}
use Rattle.ml_hoa.specs.Grammar.{body_tokens, label_tokens, number_token, is_passed, states_in, start_in, props_in, acceptance_in}
use Rattle.ml_hoa.specs.AutomatonText.{number_of, operators_in, most_open, IsSmallLabel, IsSmall}
use Rattle.ml_hoa.specs.private.Machine.{State, Turn, Next, Past, Stuck, turn, turn_at, wanted, strings, into_body, on_header, on_ignored, on_body, on_edges}
use Rattle.ml_hoa.specs.private.Machine.{behind_name, behind_number, behind_target, start, first_of, with_id, with_edge_set, with_state_set, with_target}
use Rattle.ml_hoa.specs.private.Machine.{edge_to, last_accepting, on_operand, behind_operand, closed, label_ended, LevelState}
use Rattle.ml_hoa.proofs.Runs.{led, run}
use Rattle.ml_hoa.proofs.BodyRuns.{Each, FitsLabel, edge_texts}
use Rattle.ml_hoa.proofs.LabelRests.{Goes, Left, kept, BehindRest, OperandRest, conjunction, disjunction, is_conjunction, is_disjunction, and_tokens, or_tokens, operand_back, behind_back}

-- ---- what is left in the body, where n edges were read

same_long : (es : List Edge) → length (last_accepting es) ≡ length es
same_long [] = refl
same_long (e ∷ []) = refl
same_long (e ∷ f ∷ es) = ap (λ n. suc n) (same_long (f ∷ es))

as_long : (b : Bool) (es : List Edge) → length (if b then last_accepting es else es) ≡ length es
as_long true es = same_long es
as_long false es = refl

module _ (strict : Bool) where
  pub record EdgesRest (n : ℕ) (ts : List Token) : Type 0 where
    pub edges : List EdgeText
    pub states : List StateText
    pub spelled : ts ≡ flat_map edge_tokens edges ++ body_tokens states
    pub few : Left strict (length edges + length (edge_texts states)) most_edges n
    pub small : Each (FitsLabel strict) edges
    pub small_behind : Each (FitsLabel strict) (edge_texts states)

  pub record BodyRest (n : ℕ) (ts : List Token) : Type 0 where
    pub states : List StateText
    pub spelled : ts ≡ body_tokens states
    pub few : Left strict (length (edge_texts states)) most_edges n
    pub small : Each (FitsLabel strict) (edge_texts states)

  pub record SetsRest (n : ℕ) (ts : List Token) : Type 0 where
    pub numbers : List Numeral
    pub after : List Token
    pub spelled : ts ≡ map number_token numbers ++ Plain mark.RightBrace ∷ after
    pub rest : EdgesRest n after

  pub record BehindSets (n : ℕ) (ts : List Token) : Type 0 where
    pub sets : Option (List Numeral)
    pub after : List Token
    pub spelled : ts ≡ sets_tokens sets ++ after
    pub rest : EdgesRest n after

  pub record BehindNumber (n : ℕ) (ts : List Token) : Type 0 where
    pub name : Option (List ℕ)
    pub after : List Token
    pub spelled : ts ≡ name_tokens name ++ after
    pub rest : BehindSets n after

  pub record StateRest (n : ℕ) (ts : List Token) : Type 0 where
    pub id : Numeral
    pub after : List Token
    pub spelled : ts ≡ number_token id ∷ after
    pub rest : BehindNumber n after

  -- the edge whose target is wanted counts with those that are left
  pub record TargetRest (n : ℕ) (ts : List Token) : Type 0 where
    pub to : Numeral
    pub after : List Token
    pub spelled : ts ≡ number_token to ∷ after
    pub rest : BehindSets (n + 1) after

  body_of : (n : ℕ) (ts : List Token) → StateRest n ts → BodyRest n (Plain mark.State ∷ ts)
  body_of n ts r =
      let number = r.rest in
      let sets = number.rest in
      let edges = sets.rest in
      let s : StateText = record { id = r.id; name = number.name; sets = sets.sets; edges = edges.edges } in
      let x = name_tokens number.name in
      let y = sets_tokens sets.sets in
      let z = flat_map edge_tokens edges.edges in
      let rest = body_tokens edges.states in
      let long = length-append edges.edges (edge_texts edges.states) in
      record {
        states = s ∷ edges.states;
        spelled = ap (λ us. Plain mark.State ∷ us) (r.spelled ∙ ap (λ us. number_token r.id ∷ us)
            (number.spelled ∙ ap (λ us. x ++ us) (sets.spelled ∙ ap (λ us. y ++ us) edges.spelled
            ∙ sym (append_assoc y z rest)) ∙ sym (append_assoc x (y ++ z) rest)))
            ∙ sym (append_assoc (state_tokens s) (flat_map state_tokens edges.states) (Plain mark.End ∷ []));
        few = λ on. let a = edges.few on in omega arith;
        small = both edges.edges (edge_texts edges.states) edges.small edges.small_behind;
      }
    where
      both : (xs ys : List EdgeText) → Each (FitsLabel strict) xs → Each (FitsLabel strict) ys → Each (FitsLabel strict) (xs ++ ys)
      both [] ys a b = b
      both (x ∷ xs) ys a b = (a.0, both xs ys a.1 b)

  end_body : (n : ℕ) (ts : List Token) → ts ≡ [] → BodyRest n (Plain mark.End ∷ ts)
  end_body n ts none = record { states = []; spelled = ap (λ us. Plain mark.End ∷ us) none; few = λ on. omega arith; small = tt }

  no_edges : (n : ℕ) (ts : List Token) → BodyRest n ts → EdgesRest n ts
  no_edges n ts r = record { edges = []; states = r.states; spelled = r.spelled; few = λ on. let a = r.few on in omega arith; small = tt; small_behind = r.small }

  no_sets : (n : ℕ) (ts : List Token) → EdgesRest n ts → BehindSets n ts
  no_sets n ts r = record { sets = None; after = ts; spelled = refl; rest = r }

  no_name : (n : ℕ) (ts : List Token) → BehindSets n ts → BehindNumber n ts
  no_name n ts r = record { name = None; after = ts; spelled = refl; rest = r }

  with_sets : (n : ℕ) (ts : List Token) → SetsRest n ts → BehindSets n (Plain mark.LeftBrace ∷ ts)
  with_sets n ts r = record {
    sets = Some r.numbers;
    after = r.after;
    spelled = ap (λ us. Plain mark.LeftBrace ∷ us)
        (r.spelled ∙ sym (append_assoc (map number_token r.numbers) (Plain mark.RightBrace ∷ []) r.after));
    rest = r.rest;
  }

  edge_of : (n : ℕ) (ts : List Token) → (strict ≡ true → n < most_edges) → OperandRest (TargetRest n) strict [] 0 ts
      → EdgesRest n (Plain mark.LeftBracket ∷ ts)
  edge_of n ts low r = by r.behind
    where
      by : BehindRest (TargetRest n) strict [] (0 + operators_in r.literal) r.after → EdgesRest n (Plain mark.LeftBracket ∷ ts)
      by (t, target) =
          let c = conjunction r.literal t.more in
          let d = disjunction c t.others in
          let a = is_conjunction r.literal t.more in
          let b = is_disjunction c t.others in
          let sets = target.rest in
          let edges = sets.rest in
          let e : EdgeText = record { label = d; to = target.to; sets = sets.sets } in
          let x = label_tokens r.literal in
          let y = and_tokens t.more in
          let z = or_tokens t.others in
          let spell : label_tokens d ≡ x ++ y ++ z = b.tokens ∙ ap (λ us. us ++ z) a.tokens in
          let rest = flat_map edge_tokens edges.edges ++ body_tokens edges.states in
          let tail = Plain mark.RightBracket ∷ (number_token target.to ∷ sets_tokens sets.sets) in
          let end : Plain mark.RightBracket ∷ t.after ≡ tail ++ rest =
          ap (λ us. Plain mark.RightBracket ∷ us) (target.spelled ∙ ap (λ us. number_token target.to ∷ us)
          (sets.spelled ∙ ap (λ us. sets_tokens sets.sets ++ us) edges.spelled)) in
          let whole : ts ≡ (label_tokens d ++ tail) ++ rest =
          r.spelled ∙ ap (λ us. x ++ us) t.spelled
          ∙ sym (append_assoc x y (z ++ Plain mark.RightBracket ∷ t.after))
          ∙ sym (append_assoc (x ++ y) z (Plain mark.RightBracket ∷ t.after))
          ∙ ap (λ us. us ++ Plain mark.RightBracket ∷ t.after) (sym spell)
          ∙ ap (λ us. label_tokens d ++ us) end
          ∙ sym (append_assoc (label_tokens d) tail rest) in
          record {
            edges = e ∷ edges.edges;
            states = edges.states;
            spelled = ap (λ us. Plain mark.LeftBracket ∷ us) whole
                ∙ sym (append_assoc (edge_tokens e) (flat_map edge_tokens edges.edges) (body_tokens edges.states));
            few = λ on. let f = edges.few on in let g = low on in omega arith;
            small = (
              λ on. record {
                operators = let f = r.few on in let g = t.few on in omega (arith, a.operators, b.operators);
                open_at_once = let f = r.open_few on in let g = t.open_few on in omega (arith, a.inside, b.inside);
              },
              edges.small,
            );
            small_behind = edges.small_behind;
          }

  number_more : (n : ℕ) (ts : List Token) (digits : List ℕ) (at : ℕ) → SetsRest n ts → SetsRest n (Number digits at ∷ ts)
  number_more n ts digits at r = record {
    numbers = record { digits = digits; at = at } ∷ r.numbers;
    after = r.after;
    spelled = ap (λ us. Number digits at ∷ us) r.spelled;
    rest = r.rest;
  }

  sets_done : (n : ℕ) (ts : List Token) → EdgesRest n ts → SetsRest n (Plain mark.RightBrace ∷ ts)
  sets_done n ts r = record { numbers = []; after = ts; spelled = refl; rest = r }

  -- ---- what is left of the headers

  abbrev pub FitsHeader : Header → Type 0
  FitsHeader (grammar.States n) = strict ≡ true → number_of n ≤ most_states
  FitsHeader (grammar.Props n texts) = strict ≡ true → number_of n ≤ most_props
  FitsHeader h = Unit {0}

  abbrev pub Wants : {A : Type 0} → Bool → List A → Type 0
  Wants true xs = xs ≡ []
  Wants {A} false xs = (x : A) × (xs ≡ x ∷ [])

  pub record HeadRest (stood : Stood) (n : ℕ) (ts : List Token) : Type 0 where
    pub headers : List Header
    pub after : List Token
    pub spelled : ts ≡ flat_map header_tokens headers ++ Plain mark.Body ∷ after
    pub good : Each IsHeader headers
    pub fits : Each FitsHeader headers
    pub wants_states : Wants stood.states (flat_map states_in headers)
    pub wants_start : Wants stood.start (flat_map start_in headers)
    pub wants_props : Wants stood.props (flat_map props_in headers)
    pub wants_acceptance : Wants stood.acceptance (flat_map acceptance_in headers)
    pub rest : BodyRest n after

  pub record IgnoredRest (stood : Stood) (n : ℕ) (ts : List Token) : Type 0 where
    pub passed : List Token
    pub after : List Token
    pub spelled : ts ≡ passed ++ after
    pub good : list_all is_passed passed ≡ true
    pub rest : HeadRest stood n after

  pub record StringsRest (stood : Stood) (k n : ℕ) (ts : List Token) : Type 0 where
    pub texts : List (List ℕ)
    pub after : List Token
    pub spelled : ts ≡ map Text texts ++ after
    pub long : k ≡ length texts
    pub rest : HeadRest stood n after

  -- so many tokens, and then what is left
  pub record Behind (Rest : List Token → Type 0) (first ts : List Token) : Type 0 where
    pub after : List Token
    pub spelled : ts ≡ first ++ after
    pub rest : Rest after

  abbrev pub accepted : Stood → Stood
  accepted stood = record stood { acceptance = true }

  pub record StatesRest (stood : Stood) (n : ℕ) (ts : List Token) : Type 0 where
    pub number : Numeral
    pub after : List Token
    pub spelled : ts ≡ number_token number ∷ after
    pub fits : strict ≡ true → number_of number ≤ most_states
    pub rest : HeadRest (record stood { states = true }) n after

  pub record StartRest (stood : Stood) (n : ℕ) (ts : List Token) : Type 0 where
    pub number : Numeral
    pub after : List Token
    pub spelled : ts ≡ number_token number ∷ after
    pub rest : HeadRest (record stood { start = true }) n after

  pub record PropsRest (stood : Stood) (n : ℕ) (ts : List Token) : Type 0 where
    pub number : Numeral
    pub after : List Token
    pub spelled : ts ≡ number_token number ∷ after
    pub fits : strict ≡ true → number_of number ≤ most_props
    pub rest : StringsRest (record stood { props = true }) (number_of number) n after

  -- what is said of acceptance is a header whose tokens are these
  pub record AcceptanceRest (stood : Stood) (n : ℕ) (ts : List Token) : Type 0 where
    pub header : Header
    pub after : List Token
    pub spelled : Plain mark.Acceptance ∷ ts ≡ header_tokens header ++ after
    pub kind : Acceptance
    pub says : acceptance_in header ≡ kind ∷ []
    pub no_states : states_in header ≡ []
    pub no_start : start_in header ≡ []
    pub no_props : props_in header ≡ []
    pub good : IsHeader header
    pub fits : FitsHeader header
    pub rest : HeadRest (accepted stood) n after

  abbrev pub Rest : Stage → State → List Token → Type 0
  Rest stage.Start s ts = Behind (HeadRest s.stood (length s.edges)) (Plain mark.Hoa ∷ Plain mark.Version ∷ []) ts
  Rest stage.Version s ts = Behind (HeadRest s.stood (length s.edges)) (Plain mark.Version ∷ []) ts
  Rest stage.Headers s ts = HeadRest s.stood (length s.edges) ts
  Rest stage.StatesNumber s ts = StatesRest s.stood (length s.edges) ts
  Rest stage.StartNumber s ts = StartRest s.stood (length s.edges) ts
  Rest stage.PropsNumber s ts = PropsRest s.stood (length s.edges) ts
  Rest (stage.Strings k) s ts = StringsRest s.stood (k + 1) (length s.edges) ts
  Rest stage.AcceptanceNumber s ts = AcceptanceRest s.stood (length s.edges) ts
  Rest stage.EveryTruth s ts = Behind (HeadRest (accepted s.stood) (length s.edges)) (Plain mark.Truth ∷ []) ts
  Rest stage.MarkedInf s ts =
      (inner : ℕ) × Behind (HeadRest (accepted s.stood) (length s.edges))
      (Plain mark.Inf ∷ Plain mark.LeftParen ∷ Number (codes "0") inner ∷ Plain mark.RightParen ∷ []) ts
  Rest stage.MarkedOpen s ts =
      (inner : ℕ) × Behind (HeadRest (accepted s.stood) (length s.edges))
      (Plain mark.LeftParen ∷ Number (codes "0") inner ∷ Plain mark.RightParen ∷ []) ts
  Rest stage.MarkedSet s ts =
      (inner : ℕ) × Behind (HeadRest (accepted s.stood) (length s.edges))
      (Number (codes "0") inner ∷ Plain mark.RightParen ∷ []) ts
  Rest stage.MarkedClose s ts = Behind (HeadRest (accepted s.stood) (length s.edges)) (Plain mark.RightParen ∷ []) ts
  Rest stage.Ignored s ts = IgnoredRest s.stood (length s.edges) ts
  Rest stage.Body s ts = BodyRest (length s.edges) ts
  Rest stage.StateNumber s ts = StateRest (length s.edges) ts
  Rest stage.BehindNumber s ts = BehindNumber (length s.edges) ts
  Rest stage.BehindName s ts = BehindSets (length s.edges) ts
  Rest stage.StateSets s ts = SetsRest (length s.edges) ts
  Rest stage.Edges s ts = EdgesRest (length s.edges) ts
  Rest stage.Operand s ts = OperandRest (TargetRest (length s.edges)) strict s.outer s.operators ts
  Rest stage.Behind s ts = BehindRest (TargetRest (length s.edges)) strict s.outer s.operators ts
  Rest stage.Target s ts = TargetRest (length s.edges) ts
  Rest stage.BehindTarget s ts = BehindSets (length s.edges) ts
  Rest stage.EdgeSets s ts = SetsRest (length s.edges) ts
  Rest stage.Done s ts = ts ≡ []

  abbrev pub RestOf : State → List Token → Type 0
  RestOf s ts = Rest s.stage s ts

  came : (s next : State) (ts : List Token) → s ≡ next → RestOf next ts → RestOf s ts
  came s next ts is rest = subst (λ x. RestOf x ts) (sym is) rest

  -- ---- headers

  record Free (b : Bool) (s next : State) (q : Stage) : Type 0 where
    free : b ≡ false
    is : record s { stage = q } ≡ next

  is_free : (b : Bool) (s next : State) (q : Stage) → Goes strict (wanted b s q) next → Free b s next q
  is_free true s next q goes = absurd goes
  is_free false s next q goes = record { free = refl; is = goes }

  wants_one : {A : Type 0} (b : Bool) (x : A) (xs : List A) → b ≡ false → xs ≡ [] → Wants b (x ∷ xs)
  wants_one {A} b x xs free none = subst (λ c. Wants c (x ∷ xs)) (sym free) (x, ap (λ ys. x ∷ ys) none)

  spelled_on : (h : Header) (hs : List Header) (ts after behind : List Token)
      → ts ≡ header_tokens h ++ after
      → after ≡ flat_map header_tokens hs ++ Plain mark.Body ∷ behind
      → ts ≡ flat_map header_tokens (h ∷ hs) ++ Plain mark.Body ∷ behind
  spelled_on h hs ts after behind is so =
      is ∙ ap (λ us. header_tokens h ++ us) so
      ∙ sym (append_assoc (header_tokens h) (flat_map header_tokens hs) (Plain mark.Body ∷ behind))

  states_back : (stood : Stood) (n : ℕ) (ts : List Token) → stood.states ≡ false → StatesRest stood n ts
      → HeadRest stood n (Plain mark.States ∷ ts)
  states_back stood n ts free r =
      let h = r.rest in
      let header = grammar.States r.number in
      record {
        headers = header ∷ h.headers;
        after = h.after;
        spelled = spelled_on header h.headers (Plain mark.States ∷ ts) r.after h.after (ap (λ us. Plain mark.States ∷ us) r.spelled) h.spelled;
        good = (tt, h.good);
        fits = (r.fits, h.fits);
        wants_states = wants_one stood.states r.number (flat_map states_in h.headers) free h.wants_states;
        wants_start = h.wants_start;
        wants_props = h.wants_props;
        wants_acceptance = h.wants_acceptance;
        rest = h.rest;
      }

  start_back : (stood : Stood) (n : ℕ) (ts : List Token) → stood.start ≡ false → StartRest stood n ts
      → HeadRest stood n (Plain mark.Start ∷ ts)
  start_back stood n ts free r =
      let h = r.rest in
      let header = grammar.Start r.number in
      record {
        headers = header ∷ h.headers;
        after = h.after;
        spelled = spelled_on header h.headers (Plain mark.Start ∷ ts) r.after h.after (ap (λ us. Plain mark.Start ∷ us) r.spelled) h.spelled;
        good = (tt, h.good);
        fits = (tt, h.fits);
        wants_states = h.wants_states;
        wants_start = wants_one stood.start r.number (flat_map start_in h.headers) free h.wants_start;
        wants_props = h.wants_props;
        wants_acceptance = h.wants_acceptance;
        rest = h.rest;
      }

  props_back : (stood : Stood) (n : ℕ) (ts : List Token) → stood.props ≡ false → PropsRest stood n ts
      → HeadRest stood n (Plain mark.Props ∷ ts)
  props_back stood n ts free r =
      let strings = r.rest in
      let h = strings.rest in
      let header = grammar.Props r.number strings.texts in
      record {
        headers = header ∷ h.headers;
        after = h.after;
        spelled = spelled_on header h.headers (Plain mark.Props ∷ ts) strings.after h.after
            (ap (λ us. Plain mark.Props ∷ us) (r.spelled ∙ ap (λ us. number_token r.number ∷ us) strings.spelled)) h.spelled;
        good = (strings.long, h.good);
        fits = (r.fits, h.fits);
        wants_states = h.wants_states;
        wants_start = h.wants_start;
        wants_props = wants_one stood.props strings.texts (flat_map props_in h.headers) free h.wants_props;
        wants_acceptance = h.wants_acceptance;
        rest = h.rest;
      }

  acceptance_back : (stood : Stood) (n : ℕ) (ts : List Token) → stood.acceptance ≡ false → AcceptanceRest stood n ts
      → HeadRest stood n (Plain mark.Acceptance ∷ ts)
  acceptance_back stood n ts free r =
      let h = r.rest in
      record {
        headers = r.header ∷ h.headers;
        after = h.after;
        spelled = spelled_on r.header h.headers (Plain mark.Acceptance ∷ ts) r.after h.after r.spelled h.spelled;
        good = (r.good, h.good);
        fits = (r.fits, h.fits);
        wants_states = subst (λ xs. Wants stood.states (xs ++ flat_map states_in h.headers)) (sym r.no_states) h.wants_states;
        wants_start = subst (λ xs. Wants stood.start (xs ++ flat_map start_in h.headers)) (sym r.no_start) h.wants_start;
        wants_props = subst (λ xs. Wants stood.props (xs ++ flat_map props_in h.headers)) (sym r.no_props) h.wants_props;
        wants_acceptance = subst (λ xs. Wants stood.acceptance (xs ++ flat_map acceptance_in h.headers)) (sym r.says)
            (wants_one stood.acceptance r.kind (flat_map acceptance_in h.headers) free h.wants_acceptance);
        rest = h.rest;
      }

  ignored_back : (stood : Stood) (n : ℕ) (ts : List Token) → IgnoredRest stood n ts → HeadRest stood n (Plain mark.Ignored ∷ ts)
  ignored_back stood n ts r =
      let h = r.rest in
      let header = grammar.Other r.passed in
      record {
        headers = header ∷ h.headers;
        after = h.after;
        spelled = spelled_on header h.headers (Plain mark.Ignored ∷ ts) r.after h.after (ap (λ us. Plain mark.Ignored ∷ us) r.spelled) h.spelled;
        good = (r.good, h.good);
        fits = (tt, h.fits);
        wants_states = h.wants_states;
        wants_start = h.wants_start;
        wants_props = h.wants_props;
        wants_acceptance = h.wants_acceptance;
        rest = h.rest;
      }

  wants_none : (A : Type 0) (b : Bool) → b ≡ true → Wants {A = A} b []
  wants_none A b is = subst (λ c. Wants {A = A} c []) (sym is) refl

  body_head : (s next : State) (ts : List Token) (a b c d : Bool)
      → s.stood.states ≡ a
      → s.stood.start ≡ b
      → s.stood.props ≡ c
      → s.stood.acceptance ≡ d
      → Goes strict (into_body s a b c d) next
      → RestOf next ts
      → HeadRest s.stood (length s.edges) (Plain mark.Body ∷ ts)
  body_head s next ts true true true true x y z w goes rest =
      record {
        headers = [];
        after = ts;
        spelled = refl;
        good = tt;
        fits = tt;
        wants_states = wants_none _ s.stood.states x;
        wants_start = wants_none _ s.stood.start y;
        wants_props = wants_none _ s.stood.props z;
        wants_acceptance = wants_none _ s.stood.acceptance w;
        rest = came _ next ts goes rest;
      }
  body_head s next ts false b c d x y z w goes rest = absurd goes
  body_head s next ts true false c d x y z w goes rest = absurd goes
  body_head s next ts true true false d x y z w goes rest = absurd goes
  body_head s next ts true true true false x y z w goes rest = absurd goes

  head_back : (s next : State) (t : Token) (ts : List Token) → Goes strict (on_header s t) next → RestOf next ts
      → HeadRest s.stood (length s.edges) (t ∷ ts)
  head_back s next (Plain mark.States) ts goes rest =
      let f = is_free s.stood.states s next stage.StatesNumber goes in
      states_back s.stood (length s.edges) ts f.free (came _ next ts f.is rest)
  head_back s next (Plain mark.Start) ts goes rest =
      let f = is_free s.stood.start s next stage.StartNumber goes in
      start_back s.stood (length s.edges) ts f.free (came _ next ts f.is rest)
  head_back s next (Plain mark.Props) ts goes rest =
      let f = is_free s.stood.props s next stage.PropsNumber goes in
      props_back s.stood (length s.edges) ts f.free (came _ next ts f.is rest)
  head_back s next (Plain mark.Acceptance) ts goes rest =
      let f = is_free s.stood.acceptance s next stage.AcceptanceNumber goes in
      acceptance_back s.stood (length s.edges) ts f.free (came _ next ts f.is rest)
  head_back s next (Plain mark.Ignored) ts goes rest = ignored_back s.stood (length s.edges) ts (came _ next ts goes rest)
  head_back s next (Plain mark.Body) ts goes rest =
      body_head s next ts s.stood.states s.stood.start s.stood.props s.stood.acceptance refl refl refl refl goes rest
  head_back s next t ts goes rest = absurd goes

  none_passed : (stood : Stood) (n : ℕ) (ts : List Token) → HeadRest stood n ts → IgnoredRest stood n ts
  none_passed stood n ts r = record { passed = []; after = ts; spelled = refl; good = refl; rest = r }

  pass : (stood : Stood) (n : ℕ) (t : Token) (ts : List Token) → is_passed t ≡ true → IgnoredRest stood n ts → IgnoredRest stood n (t ∷ ts)
  pass stood n t ts is r =
      let more = r.good in
      record { passed = t ∷ r.passed; after = r.after; spelled = ap (λ us. t ∷ us) r.spelled; good = cc; rest = r.rest }

  ignoring_back : (s next : State) (t : Token) (ts : List Token) → Goes strict (on_ignored s t) next → RestOf next ts
      → IgnoredRest s.stood (length s.edges) (t ∷ ts)
  ignoring_back s next (Plain mark.States) ts goes rest = none_passed _ _ _ (head_back s next (Plain mark.States) ts goes rest)
  ignoring_back s next (Plain mark.Start) ts goes rest = none_passed _ _ _ (head_back s next (Plain mark.Start) ts goes rest)
  ignoring_back s next (Plain mark.Props) ts goes rest = none_passed _ _ _ (head_back s next (Plain mark.Props) ts goes rest)
  ignoring_back s next (Plain mark.Acceptance) ts goes rest = none_passed _ _ _ (head_back s next (Plain mark.Acceptance) ts goes rest)
  ignoring_back s next (Plain mark.Body) ts goes rest = none_passed _ _ _ (head_back s next (Plain mark.Body) ts goes rest)
  ignoring_back s next (Plain mark.Ignored) ts goes rest = none_passed _ _ _ (ignored_back s.stood (length s.edges) ts (came _ next ts goes rest))
  ignoring_back s next (Plain mark.Hoa) ts goes rest = absurd goes
  ignoring_back s next (Plain mark.State) ts goes rest = absurd goes
  ignoring_back s next (Plain mark.Foreign) ts goes rest = absurd goes
  ignoring_back s next (Plain mark.Unclosed) ts goes rest = absurd goes
  ignoring_back s next (Plain m) ts goes rest = pass s.stood (length s.edges) (Plain m) ts refl (came _ next ts goes rest)
  ignoring_back s next (Number digits at) ts goes rest = pass s.stood (length s.edges) (Number digits at) ts refl (came _ next ts goes rest)
  ignoring_back s next (Text bytes) ts goes rest = pass s.stood (length s.edges) (Text bytes) ts refl (came _ next ts goes rest)

  -- ---- numbers and strings of headers

  strings_by : (b : Bool) (k : ℕ) (s : State) (ts : List Token) → (k == 0) ≡ b
      → Rest (if b then stage.Headers else stage.Strings (k - 1)) s ts
      → StringsRest s.stood k (length s.edges) ts
  strings_by true k s ts is rest =
      record { texts = []; after = ts; spelled = refl; long = grind (arith, nat_tests); rest = rest }
  strings_by false k s ts is rest =
      let e : k - 1 + 1 ≡ k = grind (arith, nat_tests) in
      subst (λ m. StringsRest s.stood m (length s.edges) ts) e rest

  strings_rest : (k : ℕ) (s : State) (ts : List Token) → Rest (strings k) s ts → StringsRest s.stood k (length s.edges) ts
  strings_rest k s ts rest = strings_by (k == 0) k s ts refl rest

  string_back : (stood : Stood) (k n : ℕ) (ts : List Token) (bytes : List ℕ) → StringsRest stood k n ts
      → StringsRest stood (k + 1) n (Text bytes ∷ ts)
  string_back stood k n ts bytes r = record {
    texts = bytes ∷ r.texts;
    after = r.after;
    spelled = ap (λ us. Text bytes ∷ us) r.spelled;
    long = let e = r.long in omega arith;
    rest = r.rest;
  }

  bytes_are : (xs ys : List ℕ) → bytes_eq xs ys ≡ true → xs ≡ ys
  bytes_are xs ys is = (bytes_eq-Decides xs ys).0 is

  every_back : (stood : Stood) (n at : ℕ) (ts : List Token)
      → Behind (HeadRest (accepted stood) n) (Plain mark.Truth ∷ []) ts
      → AcceptanceRest stood n (Number (codes "0") at ∷ ts)
  every_back stood n at ts r = record {
    header = grammar.Every at;
    after = r.after;
    spelled = ap (λ us. Plain mark.Acceptance ∷ Number (codes "0") at ∷ us) r.spelled;
    kind = acceptance.Every;
    says = refl;
    no_states = refl;
    no_start = refl;
    no_props = refl;
    good = tt;
    fits = tt;
    rest = r.rest;
  }

  marked_back : (stood : Stood) (n at inner : ℕ) (ts : List Token)
      → Behind (HeadRest (accepted stood) n)
      (Plain mark.Inf ∷ Plain mark.LeftParen ∷ Number (codes "0") inner ∷ Plain mark.RightParen ∷ []) ts
      → AcceptanceRest stood n (Number (codes "1") at ∷ ts)
  marked_back stood n at inner ts r = record {
    header = grammar.Marked at inner;
    after = r.after;
    spelled = ap (λ us. Plain mark.Acceptance ∷ Number (codes "1") at ∷ us) r.spelled;
    kind = acceptance.Marked;
    says = refl;
    no_states = refl;
    no_start = refl;
    no_props = refl;
    good = tt;
    fits = tt;
    rest = r.rest;
  }

  kind_back : (s next : State) (digits : List ℕ) (at : ℕ) (ts : List Token) (a b : Bool)
      → bytes_eq digits (codes "0") ≡ a
      → bytes_eq digits (codes "1") ≡ b
      → Goes strict (if a then Next (record s { stage = stage.EveryTruth }) else if b then Next (record s { stage = stage.MarkedInf }) else Stuck) next
      → RestOf next ts
      → AcceptanceRest s.stood (length s.edges) (Number digits at ∷ ts)
  kind_back s next digits at ts true b x y goes rest =
      subst (λ ds. AcceptanceRest s.stood (length s.edges) (Number ds at ∷ ts)) (sym (bytes_are digits (codes "0") x))
      (every_back s.stood (length s.edges) at ts (came _ next ts goes rest))
  kind_back s next digits at ts false true x y goes rest =
      let r = came _ next ts goes rest in
      subst (λ ds. AcceptanceRest s.stood (length s.edges) (Number ds at ∷ ts)) (sym (bytes_are digits (codes "1") y))
      (marked_back s.stood (length s.edges) at r.0 ts r.1)
  kind_back s next digits at ts false false x y goes rest = absurd goes

  one_more : (Rest : List Token → Type 0) (t : Token) (first ts : List Token) → Behind Rest first ts → Behind Rest (t ∷ first) (t ∷ ts)
  one_more Rest t first ts r = record { after = r.after; spelled = ap (λ us. t ∷ us) r.spelled; rest = r.rest }

  last_one : (Rest : List Token → Type 0) (t : Token) (ts : List Token) → Rest ts → Behind Rest (t ∷ []) (t ∷ ts)
  last_one Rest t ts r = record { after = ts; spelled = refl; rest = r }

  set_back : (s next : State) (digits : List ℕ) (at : ℕ) (ts : List Token) (a : Bool)
      → bytes_eq digits (codes "0") ≡ a
      → Goes strict (if a then Next (record s { stage = stage.MarkedClose }) else Stuck) next
      → RestOf next ts
      → Rest stage.MarkedSet s (Number digits at ∷ ts)
  set_back s next digits at ts true x goes rest =
      subst (λ ds. Rest stage.MarkedSet s (Number ds at ∷ ts)) (sym (bytes_are digits (codes "0") x))
      (at, one_more (HeadRest (accepted s.stood) (length s.edges)) (Number (codes "0") at) (Plain mark.RightParen ∷ []) ts (came _ next ts goes rest))
  set_back s next digits at ts false x goes rest = absurd goes

  -- ---- the body

  on_body_back : (s next : State) (t : Token) (ts : List Token) → Goes strict (on_body s t) next → RestOf next ts
      → BodyRest (length s.edges) (t ∷ ts)
  on_body_back s next (Plain mark.State) ts goes rest = body_of (length s.edges) ts (came _ next ts goes rest)
  on_body_back s next (Plain mark.End) ts goes rest = end_body (length s.edges) ts (came _ next ts goes rest)
  on_body_back s next t ts goes rest = absurd goes

  edges_back : (s next : State) (t : Token) (ts : List Token) → Goes strict (on_edges s t) next → RestOf next ts
      → EdgesRest (length s.edges) (t ∷ ts)
  edges_back s next (Plain mark.LeftBracket) ts goes rest =
      let k = kept strict most_edges (length s.edges) _ next goes in
      edge_of (length s.edges) ts k.low (came _ next ts k.is rest)
  edges_back s next t ts goes rest = no_edges (length s.edges) (t ∷ ts) (on_body_back s next t ts goes rest)

  name_back : (s next : State) (t : Token) (ts : List Token) → Goes strict (behind_name s t) next → RestOf next ts
      → BehindSets (length s.edges) (t ∷ ts)
  name_back s next (Plain mark.LeftBrace) ts goes rest = with_sets (length s.edges) ts (came _ next ts goes rest)
  name_back s next t ts goes rest = no_sets (length s.edges) (t ∷ ts) (edges_back s next t ts goes rest)

  number_back : (s next : State) (t : Token) (ts : List Token) → Goes strict (behind_number s t) next → RestOf next ts
      → BehindNumber (length s.edges) (t ∷ ts)
  number_back s next (Text bytes) ts goes rest =
      record { name = Some bytes; after = ts; spelled = refl; rest = came _ next ts goes rest }
  number_back s next t ts goes rest = no_name (length s.edges) (t ∷ ts) (name_back s next t ts goes rest)

  target_back : (s next : State) (t : Token) (ts : List Token) → Goes strict (behind_target s t) next → RestOf next ts
      → BehindSets (length s.edges) (t ∷ ts)
  target_back s next (Plain mark.LeftBrace) ts goes rest = with_sets (length s.edges) ts (came _ next ts goes rest)
  target_back s next t ts goes rest = no_sets (length s.edges) (t ∷ ts) (edges_back s next t ts goes rest)

  id_rest : (s : State) (v at : ℕ) (ts : List Token) (p q : Bool)
      → RestOf (if p then record s { stage = stage.BehindNumber; fault = first_of s.fault at; from = 0; in_set = false }
      else if q then record s { stage = stage.BehindNumber; fault = first_of s.fault at; from = v; in_set = false }
      else record s { stage = stage.BehindNumber; seen = s.seen ++ v ∷ []; from = v; in_set = false }) ts
      → BehindNumber (length s.edges) ts
  id_rest s v at ts true q rest = rest
  id_rest s v at ts false true rest = rest
  id_rest s v at ts false false rest = rest

  id_back : (s next : State) (digits : List ℕ) (at : ℕ) (ts : List Token)
      → with_id s (value digits) at ≡ next
      → RestOf next ts
      → StateRest (length s.edges) (Number digits at ∷ ts)
  id_back s next digits at ts is rest = record {
    id = record { digits = digits; at = at };
    after = ts;
    spelled = refl;
    rest = id_rest s (value digits) at ts (nat_le s.states (value digits)) (list_any (nat_eq (value digits)) s.seen) (came _ next ts is rest);
  }

  edge_set_back : (s next : State) (digits : List ℕ) (at : ℕ) (ts : List Token) → s.stage ≡ stage.EdgeSets
      → with_edge_set s (value digits) at ≡ next
      → RestOf next ts
      → SetsRest (length s.edges) (Number digits at ∷ ts)
  edge_set_back s next digits at ts staged is rest =
      let z = value digits == 0 in
      let r : Rest stage.EdgeSets (with_edge_set s (value digits) at) ts =
      subst (λ q. Rest q (with_edge_set s (value digits) at) ts) staged (came _ next ts is rest) in
      number_more (length s.edges) ts digits at (subst (λ n. SetsRest n ts) (as_long z s.edges) r)

  state_set_back : (s next : State) (digits : List ℕ) (at : ℕ) (ts : List Token) → s.stage ≡ stage.StateSets
      → with_state_set s (value digits) at ≡ next
      → RestOf next ts
      → SetsRest (length s.edges) (Number digits at ∷ ts)
  state_set_back s next digits at ts staged is rest =
      let r : Rest stage.StateSets (with_state_set s (value digits) at) ts =
      subst (λ q. Rest q (with_state_set s (value digits) at) ts) staged (came _ next ts is rest) in
      number_more (length s.edges) ts digits at r

  to_back : (s next : State) (digits : List ℕ) (at : ℕ) (ts : List Token)
      → with_target s (value digits) at ≡ next
      → RestOf next ts
      → TargetRest (length s.edges) (Number digits at ∷ ts)
  to_back s next digits at ts is rest = record {
    to = record { digits = digits; at = at };
    after = ts;
    spelled = refl;
    rest = subst (λ n. BehindSets n ts) (length-append s.edges (edge_to s (value digits) ∷ [])) (came _ next ts is rest);
  }

  -- ---- all stages

  next_behind : (s next : State) (ts : List Token) (b : State) → RestOf next ts → next ≡ b → b.stage ≡ stage.Behind
      → length b.edges ≡ length s.edges
      → BehindRest (TargetRest (length s.edges)) strict b.outer b.operators ts
  next_behind s next ts b rest is staged long =
      let r = subst (λ q. Rest q b ts) staged (subst (λ x. RestOf x ts) is rest) in
      subst (λ n. BehindRest (TargetRest n) strict b.outer b.operators ts) long r

  next_operand : (s next : State) (ts : List Token) (b : State) → RestOf next ts → next ≡ b → b.stage ≡ stage.Operand
      → length b.edges ≡ length s.edges
      → OperandRest (TargetRest (length s.edges)) strict b.outer b.operators ts
  next_operand s next ts b rest is staged long =
      let r = subst (λ q. Rest q b ts) staged (subst (λ x. RestOf x ts) is rest) in
      subst (λ n. OperandRest (TargetRest n) strict b.outer b.operators ts) long r

  edges_same : (s next : State) → s ≡ next → length next.edges ≡ length s.edges
  edges_same s next is = ap (λ (x : State). length x.edges) (sym is)

  operand_same : (s next : State) (t : Token) → Goes strict (on_operand s t) next → length next.edges ≡ length s.edges
  operand_same s next (Number digits at) goes = edges_same _ next goes
  operand_same s next (Plain mark.Truth) goes = edges_same _ next goes
  operand_same s next (Plain mark.Falsity) goes = edges_same _ next goes
  operand_same s next (Plain mark.Not) goes = let k = kept strict most_operators s.operators _ next goes in edges_same _ next k.is
  operand_same s next (Plain mark.LeftParen) goes = let k = kept strict most_open (length s.outer) _ next goes in edges_same _ next k.is
  operand_same s next t goes = absurd goes

  closed_same : (s next : State) (outer : List LevelState) → Goes strict (closed s outer) next → length next.edges ≡ length s.edges
  closed_same s next [] goes = absurd goes
  closed_same s next (l ∷ outer) goes = edges_same _ next goes

  ended_same : (s next : State) (outer : List LevelState) → Goes strict (label_ended s outer) next → length next.edges ≡ length s.edges
  ended_same s next [] goes = edges_same _ next goes
  ended_same s next (l ∷ outer) goes = absurd goes

  behind_same : (s next : State) (t : Token) (outer : List LevelState) → s.outer ≡ outer → Goes strict (behind_operand s t) next
      → length next.edges ≡ length s.edges
  behind_same s next (Plain mark.And) outer is goes = let k = kept strict most_operators s.operators _ next goes in edges_same _ next k.is
  behind_same s next (Plain mark.Or) outer is goes = let k = kept strict most_operators s.operators _ next goes in edges_same _ next k.is
  behind_same s next (Plain mark.RightParen) outer is goes = closed_same s next s.outer goes
  behind_same s next (Plain mark.RightBracket) outer is goes = ended_same s next s.outer goes
  behind_same s next t outer is goes = absurd goes

  abbrev props_begun : State → ℕ → State
  props_begun s n = record s { stage = strings n; stood = record s.stood { props = true }; prop_count = n; props = [] }

  abbrev string_read : State → ℕ → List ℕ → State
  string_read s n bytes = record s { stage = strings n; props = s.props ++ bytes ∷ [] }

  back : (q : Stage) (s next : State) (t : Token) (ts : List Token) → s.stage ≡ q → Goes strict (turn_at q s t) next → RestOf next ts
      → Rest q s (t ∷ ts)
  back stage.Start s next (Plain mark.Hoa) ts is goes rest = one_more _ (Plain mark.Hoa) (Plain mark.Version ∷ []) ts (came _ next ts goes rest)
  back stage.Version s next (Plain mark.Version) ts is goes rest = last_one _ (Plain mark.Version) ts (came _ next ts goes rest)
  back stage.Headers s next t ts is goes rest = head_back s next t ts goes rest
  back stage.StatesNumber s next (Number digits at) ts is goes rest =
      let k = kept strict (most_states + 1) (value digits) _ next goes in
      record {
        number = record { digits = digits; at = at };
        after = ts;
        spelled = refl;
        fits = λ on. let low = k.low on in omega arith;
        rest = came _ next ts k.is rest;
      }
  back stage.StartNumber s next (Number digits at) ts is goes rest =
      record { number = record { digits = digits; at = at }; after = ts; spelled = refl; rest = came _ next ts goes rest }
  back stage.PropsNumber s next (Number digits at) ts is goes rest =
      let k = kept strict (most_props + 1) (value digits) _ next goes in
      record {
        number = record { digits = digits; at = at };
        after = ts;
        spelled = refl;
        fits = λ on. let low = k.low on in omega arith;
        rest = strings_rest (value digits) (props_begun s (value digits)) ts (came (props_begun s (value digits)) next ts k.is rest);
      }
  back (stage.Strings n) s next (Text bytes) ts is goes rest =
      string_back s.stood n (length s.edges) ts bytes
      (strings_rest n (string_read s n bytes) ts (came (string_read s n bytes) next ts goes rest))
  back stage.AcceptanceNumber s next (Number digits at) ts is goes rest =
      kind_back s next digits at ts (bytes_eq digits (codes "0")) (bytes_eq digits (codes "1")) refl refl goes rest
  back stage.EveryTruth s next (Plain mark.Truth) ts is goes rest = last_one _ (Plain mark.Truth) ts (came _ next ts goes rest)
  back stage.MarkedInf s next (Plain mark.Inf) ts is goes rest =
      let r = came _ next ts goes rest in
      (r.0, one_more _ (Plain mark.Inf) (Plain mark.LeftParen ∷ Number (codes "0") r.0 ∷ Plain mark.RightParen ∷ []) ts r.1)
  back stage.MarkedOpen s next (Plain mark.LeftParen) ts is goes rest =
      let r = came _ next ts goes rest in
      (r.0, one_more _ (Plain mark.LeftParen) (Number (codes "0") r.0 ∷ Plain mark.RightParen ∷ []) ts r.1)
  back stage.MarkedSet s next (Number digits at) ts is goes rest =
      set_back s next digits at ts (bytes_eq digits (codes "0")) refl goes rest
  back stage.MarkedClose s next (Plain mark.RightParen) ts is goes rest = last_one _ (Plain mark.RightParen) ts (came _ next ts goes rest)
  back stage.Ignored s next t ts is goes rest = ignoring_back s next t ts goes rest
  back stage.Body s next t ts is goes rest = on_body_back s next t ts goes rest
  back stage.StateNumber s next (Number digits at) ts is goes rest = id_back s next digits at ts goes rest
  back stage.BehindNumber s next t ts is goes rest = number_back s next t ts goes rest
  back stage.BehindName s next t ts is goes rest = name_back s next t ts goes rest
  back stage.StateSets s next (Number digits at) ts is goes rest = state_set_back s next digits at ts is goes rest
  back stage.StateSets s next (Plain mark.RightBrace) ts is goes rest = sets_done (length s.edges) ts (came _ next ts goes rest)
  back stage.Edges s next t ts is goes rest = edges_back s next t ts goes rest
  back stage.Operand s next t ts is goes rest =
      let long = operand_same s next t goes in
      operand_back (TargetRest (length s.edges)) strict s next t ts goes
      (λ b same staged. next_behind s next ts b rest same staged (ap (λ (x : State). length x.edges) (sym same) ∙ long))
      (λ b same staged. next_operand s next ts b rest same staged (ap (λ (x : State). length x.edges) (sym same) ∙ long))
  back stage.Behind s next t ts is goes rest =
      let long = behind_same s next t s.outer refl goes in
      behind_back (TargetRest (length s.edges)) strict s next t ts goes
      (λ b same staged. next_behind s next ts b rest same staged (ap (λ (x : State). length x.edges) (sym same) ∙ long))
      (λ b same staged. next_operand s next ts b rest same staged (ap (λ (x : State). length x.edges) (sym same) ∙ long))
      (λ same. subst (λ x. RestOf x ts) same rest)
  back stage.Target s next (Number digits at) ts is goes rest = to_back s next digits at ts goes rest
  back stage.BehindTarget s next t ts is goes rest = target_back s next t ts goes rest
  back stage.EdgeSets s next (Number digits at) ts is goes rest = edge_set_back s next digits at ts is goes rest
  back stage.EdgeSets s next (Plain mark.RightBrace) ts is goes rest = sets_done (length s.edges) ts (came _ next ts goes rest)
  back q s next t ts is goes rest = absurd goes

  done_rest : (q : Stage) (s : State) → q ≡ stage.Done → Rest q s []
  done_rest stage.Done s is = refl
  done_rest q s is = absurd (cc)

leads : (strict : Bool) (u : Turn) (ts : List Token) (to : State)
    → led strict u (λ next. run strict next ts) ≡ Some to
    → (next : State) × Goes strict u next × (run strict next ts ≡ Some to)
leads strict (Next s) ts to is = (s, refl, is)
leads true (Past s) ts to is = absurd (cc)
leads false (Past s) ts to is = (s, refl, is)
leads strict Stuck ts to is = absurd (cc)

pub rest_of : (strict : Bool) (s to : State) (ts : List Token)
    → run strict s ts ≡ Some to
    → to.stage ≡ stage.Done
    → RestOf strict s ts
rest_of strict s to [] is done =
    let same : s ≡ to = cc in
    done_rest strict s.stage s (ap (λ (x : State). x.stage) same ∙ done)
rest_of strict s to (t ∷ ts) is done =
    let l = leads strict (turn s t) ts to is in
    back strict s.stage s l.0 t ts refl l.1 (rest_of strict l.0 to ts l.2 done)

-- ---- a whole text

pub record ReadText (strict : Bool) (ts : List Token) : Type 0 where
  pub draft : grammar.Draft
  pub is_text : grammar.IsText ts draft
  pub small : strict ≡ true → IsSmall draft

pub each_all : {A : Type 0} (P : A → Type 0) (xs : List A) → Each P xs → All P xs
each_all {A} P xs each = member-All P xs (λ y m. by xs y each m)
  where
    by : (xs : List A) (y : A) → Each P xs → IsMember y xs → P y
    by [] y each m = absurd m
    by (x ∷ xs) y each (inl e) = subst P (sym e) each.0
    by (x ∷ xs) y each (inr m) = by xs y each.1 m

fits_states : (strict : Bool) (hs : List Header) → Each (FitsHeader strict) hs
    → Each (λ n. strict ≡ true → number_of n ≤ most_states) (flat_map states_in hs)
fits_states strict [] each = tt
fits_states strict (grammar.States n ∷ hs) each = (each.0, fits_states strict hs each.1)
fits_states strict (grammar.Start n ∷ hs) each = fits_states strict hs each.1
fits_states strict (grammar.Props n texts ∷ hs) each = fits_states strict hs each.1
fits_states strict (grammar.Every at ∷ hs) each = fits_states strict hs each.1
fits_states strict (grammar.Marked at inner ∷ hs) each = fits_states strict hs each.1
fits_states strict (grammar.Other ts ∷ hs) each = fits_states strict hs each.1

fits_props : (strict : Bool) (hs : List Header) → Each IsHeader hs → Each (FitsHeader strict) hs
    → Each (λ texts. strict ≡ true → length texts ≤ most_props) (flat_map props_in hs)
fits_props strict [] good each = tt
fits_props strict (grammar.Props n texts ∷ hs) good each =
    (λ on. let a = each.0 on in let b = good.0 in omega arith, fits_props strict hs good.1 each.1)
fits_props strict (grammar.States n ∷ hs) good each = fits_props strict hs good.1 each.1
fits_props strict (grammar.Start n ∷ hs) good each = fits_props strict hs good.1 each.1
fits_props strict (grammar.Every at ∷ hs) good each = fits_props strict hs good.1 each.1
fits_props strict (grammar.Marked at inner ∷ hs) good each = fits_props strict hs good.1 each.1
fits_props strict (grammar.Other ts ∷ hs) good each = fits_props strict hs good.1 each.1

small_each : (strict : Bool) (es : List EdgeText) → strict ≡ true → Each (FitsLabel strict) es → Each IsSmallLabel es
small_each strict [] on each = tt
small_each strict (e ∷ es) on each = (each.0 on, small_each strict es on each.1)

text_of : (strict : Bool) (ts : List Token) → RestOf strict start ts → ReadText strict ts
text_of strict ts r =
    let h = r.rest in
    let states = h.wants_states in
    let first = h.wants_start in
    let props = h.wants_props in
    let kind = h.wants_acceptance in
    let body = h.rest in
    record {
      draft = record {
        headers = h.headers;
        heads = record { states = states.0; start = first.0; props = props.0; acceptance = kind.0 };
        states = body.states;
      };
      is_text = record {
        spelled = r.spelled ∙ ap (λ us. Plain mark.Hoa ∷ Plain mark.Version ∷ us)
            (h.spelled ∙ ap (λ us. flat_map header_tokens h.headers ++ Plain mark.Body ∷ us) body.spelled);
        whole = record {
          headers = each_all IsHeader h.headers h.good;
          states_once = states.1;
          start_once = first.1;
          props_once = props.1;
          acceptance_once = kind.1;
        };
      };
      small = λ on. record {
        few_states = (subst (Each (λ n. strict ≡ true → number_of n ≤ most_states)) states.1 (fits_states strict h.headers h.fits)).0 on;
        few_props = (subst (Each (λ xs. strict ≡ true → length xs ≤ most_props)) props.1 (fits_props strict h.headers h.good h.fits)).0 on;
        few_edges = let a = body.few on in omega arith;
        labels = each_all IsSmallLabel (edge_texts body.states) (small_each strict (edge_texts body.states) on body.small);
      };
    }

pub read_text : (strict : Bool) (ts : List Token) (to : State)
    → run strict start ts ≡ Some to
    → to.stage ≡ stage.Done
    → ReadText strict ts
read_text strict ts to is done = text_of strict ts (rest_of strict start to ts is done)
