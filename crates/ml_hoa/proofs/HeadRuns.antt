-- The tokens of headers are read as these.
--
--   Head, at_head          == what the reader holds of the headers
--   Tells b P xs x         == what a header says holds already, and it stands no more; or it is still to come, once
--   told h                 == what it holds behind all headers
--   headed h               == so it enters the body
--   headers_read           == headers are read
use Rattle.std.proofs.Common.{◌≡◌, ℕ, suc, ◌+◌, ◌-◌, ◌==◌, Bool, true, false, nat_le, min, if◌then◌else◌, List, [], ◌∷◌, ◌++◌, length, map, Option, Some, None, refl, sym, ◌∙◌, ap, arith, codes}
use Rattle.std.specs.List.{flat_map, list_all}
use Rattle.std.proofs.lemmas.Bool.{cond-false, and_parts}
use Rattle.std.proofs.lemmas.Bool.Decides.{nat_tests}
use Rattle.std.proofs.lemmas.List.{append_assoc, append-nil}
use Rattle.ml_hoa.specs.declared.token.Mark.TheVariants as mark
use Rattle.ml_hoa.specs.declared.reader.Acceptance.{Acceptance}
use Rattle.ml_hoa.specs.declared.reader.Acceptance.TheVariants as acceptance
use Rattle.ml_hoa.specs.declared.reader.Stage.{Stage}
use Rattle.ml_hoa.specs.declared.reader.Stage.TheVariants as stage
use Rattle.ml_hoa.specs.declared.reader.Stood.{Stood}
use Rattle.ml_hoa.specs.Automaton.{most_states, most_props}
use Rattle.ml_hoa.specs.Tokens.{Token, Number, Text, Plain}
use Rattle.ml_hoa.specs.Grammar.{Numeral, Heads, Header, States, Start, Props, Every, Marked, Other, IsHeader, header_tokens, is_passed, states_in, start_in, props_in, acceptance_in}
use Rattle.ml_hoa.specs.AutomatonText.{number_of}
use Rattle.ml_hoa.specs.private.Machine.{State, start, Next, wanted, strings, on_ignored}
use Rattle.ml_hoa.proofs.Runs.{led, run, Fits, led_within}
use Rattle.ml_hoa.proofs.BodyRuns.{Each, Body, at_body}

pub record Head : Type 0 where
  pub stood : Stood
  pub states : ℕ
  pub first : ℕ
  pub first_at : ℕ
  pub prop_count : ℕ
  pub props : List (List ℕ)
  pub acceptance : Acceptance

abbrev pub at_head : Stage → Head → State
at_head q b = record start {
  stage = q;
  stood = b.stood;
  states = b.states;
  first = b.first;
  first_at = b.first_at;
  prop_count = b.prop_count;
  props = b.props;
  acceptance = b.acceptance;
}

-- behind a header that is ignored, or not
abbrev pub head_stage : Bool → Stage
head_stage true = stage.Ignored
head_stage false = stage.Headers

abbrev pub Tells : {A : Type 0} → Bool → Type 0 → List A → A → Type 0
Tells true P xs x = P × (xs ≡ [])
Tells false P xs x = xs ≡ x ∷ []

pub record Telling (b : Head) (hs : List Header) (h : Heads) : Type 0 where
  pub states : Tells b.stood.states (b.states ≡ number_of h.states) (flat_map states_in hs) h.states
  pub first : Tells b.stood.start ((b.first ≡ min (number_of h.start) most_states) × (b.first_at ≡ h.start.at)) (flat_map start_in hs) h.start
  pub props : Tells b.stood.props ((b.prop_count ≡ length h.props) × (b.props ≡ h.props)) (flat_map props_in hs) h.props
  pub acceptance : Tells b.stood.acceptance (b.acceptance ≡ h.acceptance) (flat_map acceptance_in hs) h.acceptance

abbrev pub told : Heads → Head
told h = record {
  stood = record { states = true; start = true; props = true; acceptance = true };
  states = number_of h.states;
  first = min (number_of h.start) most_states;
  first_at = h.start.at;
  prop_count = length h.props;
  props = h.props;
  acceptance = h.acceptance;
}

abbrev pub first_fault : Heads → Option ℕ
first_fault h =
    if nat_le (number_of h.states) (min (number_of h.start) most_states) then Some h.start.at else None

abbrev pub headed : Heads → Body
headed h = record { seen = []; from = 0; in_set = false; edges = []; fault = first_fault h; used = 0 }

-- ---- a header that is still to come

record Comes {A : Type 0} (b : Bool) (xs : List A) (n x : A) : Type 0 where
  free : b ≡ false
  is : n ≡ x
  rest : xs ≡ []

comes : {A : Type 0} (b : Bool) (P : Type 0) (xs : List A) (n x : A) → Tells b P (n ∷ xs) x → Comes b xs n x
comes {A} true P xs n x tells = let e = tells.1 in absurd (cc)
comes {A} false P xs n x tells = record { free = refl; is = cc; rest = cc }

pub wanted_free : (b : Bool) (s : State) (q : Stage) → b ≡ false → wanted b s q ≡ Next (record s { stage = q })
wanted_free true s q free = absurd (cc)
wanted_free false s q free = refl

-- ---- strings

strings_none : (k : ℕ) → k ≡ 0 → strings k ≡ stage.Headers
strings_none k none = ap strings none

pub strings_some : (k m : ℕ) → k ≡ suc m → strings k ≡ stage.Strings (k - 1)
strings_some k m some = cond-false _ _ _ (let e : (k == 0) ≡ false = grind (arith, nat_tests) in e)

pub strings_read : (strict : Bool) (b : Head) (k : ℕ) (texts : List (List ℕ)) (rest : List Token)
    → k ≡ length texts
    → run strict (at_head (strings k) b) (map Text texts ++ rest)
    ≡ run strict (at_head stage.Headers (record b { props = b.props ++ texts })) rest
strings_read strict b k [] rest long =
    ap (λ q. run strict (at_head q b) rest) (strings_none k long)
    ∙ ap (λ ps. run strict (at_head stage.Headers (record b { props = ps })) rest) (sym (append-nil b.props))
strings_read strict b k (t ∷ texts) rest long =
    let next : Head = record b { props = b.props ++ t ∷ [] } in
    ap (λ q. run strict (at_head q b) (Text t ∷ (map Text texts ++ rest))) (strings_some k (length texts) long)
    ∙ strings_read strict next (k - 1) texts rest (omega arith)
    ∙ ap (λ ps. run strict (at_head stage.Headers (record b { props = ps })) rest) (append_assoc b.props (t ∷ []) texts)

-- ---- a header that is ignored

passed : (s : State) (t : Token) → is_passed t ≡ true → on_ignored s t ≡ Next (record s { stage = stage.Ignored })
passed s (Plain mark.Hoa) is = absurd (cc)
passed s (Plain mark.States) is = absurd (cc)
passed s (Plain mark.Start) is = absurd (cc)
passed s (Plain mark.Props) is = absurd (cc)
passed s (Plain mark.Acceptance) is = absurd (cc)
passed s (Plain mark.State) is = absurd (cc)
passed s (Plain mark.Ignored) is = absurd (cc)
passed s (Plain mark.Foreign) is = absurd (cc)
passed s (Plain mark.Body) is = absurd (cc)
passed s (Plain mark.Unclosed) is = absurd (cc)
passed s (Plain m) is = refl
passed s (Number digits at) is = refl
passed s (Text bytes) is = refl

passed_over : (strict : Bool) (b : Head) (ts rest : List Token)
    → list_all is_passed ts ≡ true
    → run strict (at_head stage.Ignored b) (ts ++ rest) ≡ run strict (at_head stage.Ignored b) rest
passed_over strict b [] rest all = refl
passed_over strict b (t ∷ ts) rest all =
    let both = and_parts (is_passed t) (list_all is_passed ts) all in
    ap (λ turn. led strict turn (λ next. run strict next (ts ++ rest))) (passed (at_head stage.Ignored b) t both.0)
    ∙ passed_over strict b ts rest both.1

-- ---- headers

-- where a name leads does not depend on the header before it
name_turn : (strict ignored : Bool) (b : Head) (ts : List Token)
    → run strict (at_head (head_stage ignored) b) (Plain mark.Ignored ∷ ts) ≡ run strict (at_head stage.Ignored b) ts
name_turn strict true b ts = refl
name_turn strict false b ts = refl

states_turn : (strict ignored : Bool) (b : Head) (ts : List Token) → b.stood.states ≡ false
    → run strict (at_head (head_stage ignored) b) (Plain mark.States ∷ ts) ≡ run strict (at_head stage.StatesNumber b) ts
states_turn strict true b ts free = ap (λ t. led strict t (λ next. run strict next ts)) (wanted_free _ (at_head stage.Ignored b) stage.StatesNumber free)
states_turn strict false b ts free = ap (λ t. led strict t (λ next. run strict next ts)) (wanted_free _ (at_head stage.Headers b) stage.StatesNumber free)

start_turn : (strict ignored : Bool) (b : Head) (ts : List Token) → b.stood.start ≡ false
    → run strict (at_head (head_stage ignored) b) (Plain mark.Start ∷ ts) ≡ run strict (at_head stage.StartNumber b) ts
start_turn strict true b ts free = ap (λ t. led strict t (λ next. run strict next ts)) (wanted_free _ (at_head stage.Ignored b) stage.StartNumber free)
start_turn strict false b ts free = ap (λ t. led strict t (λ next. run strict next ts)) (wanted_free _ (at_head stage.Headers b) stage.StartNumber free)

props_turn : (strict ignored : Bool) (b : Head) (ts : List Token) → b.stood.props ≡ false
    → run strict (at_head (head_stage ignored) b) (Plain mark.Props ∷ ts) ≡ run strict (at_head stage.PropsNumber b) ts
props_turn strict true b ts free = ap (λ t. led strict t (λ next. run strict next ts)) (wanted_free _ (at_head stage.Ignored b) stage.PropsNumber free)
props_turn strict false b ts free = ap (λ t. led strict t (λ next. run strict next ts)) (wanted_free _ (at_head stage.Headers b) stage.PropsNumber free)

acceptance_turn : (strict ignored : Bool) (b : Head) (ts : List Token) → b.stood.acceptance ≡ false
    → run strict (at_head (head_stage ignored) b) (Plain mark.Acceptance ∷ ts) ≡ run strict (at_head stage.AcceptanceNumber b) ts
acceptance_turn strict true b ts free = ap (λ t. led strict t (λ next. run strict next ts)) (wanted_free _ (at_head stage.Ignored b) stage.AcceptanceNumber free)
acceptance_turn strict false b ts free = ap (λ t. led strict t (λ next. run strict next ts)) (wanted_free _ (at_head stage.Headers b) stage.AcceptanceNumber free)

-- all stood
record AllStood (b : Head) (h : Heads) : Type 0 where
  states_stood : b.stood.states ≡ true
  start_stood : b.stood.start ≡ true
  props_stood : b.stood.props ≡ true
  acceptance_stood : b.stood.acceptance ≡ true
  states : b.states ≡ number_of h.states
  first : b.first ≡ min (number_of h.start) most_states
  first_at : b.first_at ≡ h.start.at
  prop_count : b.prop_count ≡ length h.props
  props : b.props ≡ h.props
  acceptance : b.acceptance ≡ h.acceptance

stands : {A : Type 0} (b : Bool) (P : Type 0) (x : A) → Tells b P [] x → (b ≡ true) × P
stands {A} true P x tells = (refl, tells.0)
stands {A} false P x tells = absurd (cc)

all_stood : (b : Head) (h : Heads) → Telling b [] h → AllStood b h
all_stood b h tells =
    let a = stands b.stood.states _ h.states tells.states in
    let c = stands b.stood.start _ h.start tells.first in
    let d = stands b.stood.props _ h.props tells.props in
    let e = stands b.stood.acceptance _ h.acceptance tells.acceptance in
    record {
      states_stood = a.0;
      start_stood = c.0;
      props_stood = d.0;
      acceptance_stood = e.0;
      states = a.1;
      first = c.1.0;
      first_at = c.1.1;
      prop_count = d.1.0;
      props = d.1.1;
      acceptance = e.1;
    }

abbrev head_of : Bool → Bool → Bool → Bool → ℕ → ℕ → ℕ → ℕ → List (List ℕ) → Acceptance → Head
head_of states start props acceptance n first at count names a = record {
  stood = record { states = states; start = start; props = props; acceptance = acceptance };
  states = n;
  first = first;
  first_at = at;
  prop_count = count;
  props = names;
  acceptance = a;
}

is_told : (b : Head) (h : Heads) → AllStood b h → b ≡ told h
is_told b h a =
    let n = number_of h.states in
    let first = min (number_of h.start) most_states in
    let k = length h.props in
    ap (λ v. head_of v b.stood.start b.stood.props b.stood.acceptance b.states b.first b.first_at b.prop_count b.props b.acceptance) a.states_stood
    ∙ ap (λ v. head_of true v b.stood.props b.stood.acceptance b.states b.first b.first_at b.prop_count b.props b.acceptance) a.start_stood
    ∙ ap (λ v. head_of true true v b.stood.acceptance b.states b.first b.first_at b.prop_count b.props b.acceptance) a.props_stood
    ∙ ap (λ v. head_of true true true v b.states b.first b.first_at b.prop_count b.props b.acceptance) a.acceptance_stood
    ∙ ap (λ v. head_of true true true true v b.first b.first_at b.prop_count b.props b.acceptance) a.states
    ∙ ap (λ v. head_of true true true true n v b.first_at b.prop_count b.props b.acceptance) a.first
    ∙ ap (λ v. head_of true true true true n first v b.prop_count b.props b.acceptance) a.first_at
    ∙ ap (λ v. head_of true true true true n first h.start.at v b.props b.acceptance) a.prop_count
    ∙ ap (λ v. head_of true true true true n first h.start.at k v b.acceptance) a.props
    ∙ ap (λ v. head_of true true true true n first h.start.at k h.props v) a.acceptance

body_turn : (strict ignored : Bool) (h : Heads) (ts : List Token)
    → run strict (at_head (head_stage ignored) (told h)) (Plain mark.Body ∷ ts)
    ≡ run strict (at_body h (at_head stage.Body (told h)) stage.Body (headed h)) ts
body_turn strict true h ts = refl
body_turn strict false h ts = refl

pub headers_read : (strict ignored : Bool) (b : Head) (hs : List Header) (h : Heads) (rest : List Token)
    → Each IsHeader hs
    → Telling b hs h
    → Fits strict (number_of h.states) most_states
    → Fits strict (length h.props) most_props
    → run strict (at_head (head_stage ignored) b) (flat_map header_tokens hs ++ Plain mark.Body ∷ rest)
    ≡ run strict (at_body h (at_head stage.Body (told h)) stage.Body (headed h)) rest
headers_read strict ignored b [] h rest good tells few_states few_props =
    ap (λ c. run strict (at_head (head_stage ignored) c) (Plain mark.Body ∷ rest)) (is_told b h (all_stood b h tells))
    ∙ body_turn strict ignored h rest
headers_read strict ignored b (States n ∷ hs) h rest good tells few_states few_props =
    let c = comes b.stood.states _ (flat_map states_in hs) n h.states tells.states in
    let next : Head = record b { stood = record b.stood { states = true }; states = number_of n } in
    let more = flat_map header_tokens hs ++ Plain mark.Body ∷ rest in
    let same = ap number_of c.is in
    states_turn strict ignored b (Number n.digits n.at ∷ more) c.free
    ∙ led_within strict (most_states + 1) (number_of n) (at_head stage.Headers next) (λ to. run strict to more)
    (λ on. let low = few_states on in omega arith)
    ∙ headers_read strict false next hs h rest good.1
    (record { states = (same, c.rest); first = tells.first; props = tells.props; acceptance = tells.acceptance })
    few_states few_props
headers_read strict ignored b (Start n ∷ hs) h rest good tells few_states few_props =
    let c = comes b.stood.start _ (flat_map start_in hs) n h.start tells.first in
    let next : Head = record b { stood = record b.stood { start = true }; first = min (number_of n) most_states; first_at = n.at } in
    let more = flat_map header_tokens hs ++ Plain mark.Body ∷ rest in
    let same = ap (λ (m : Numeral). min (number_of m) most_states) c.is in
    let place = ap (λ (m : Numeral). m.at) c.is in
    start_turn strict ignored b (Number n.digits n.at ∷ more) c.free
    ∙ headers_read strict false next hs h rest good.1
    (record { states = tells.states; first = ((same, place), c.rest); props = tells.props; acceptance = tells.acceptance })
    few_states few_props
headers_read strict ignored b (Props n texts ∷ hs) h rest good tells few_states few_props =
    let c = comes b.stood.props _ (flat_map props_in hs) texts h.props tells.props in
    let begun : Head = record b { stood = record b.stood { props = true }; prop_count = number_of n; props = [] } in
    let next : Head = record begun { props = texts } in
    let more = flat_map header_tokens hs ++ Plain mark.Body ∷ rest in
    let long : length texts ≡ length h.props = ap length c.is in
    let count : number_of n ≡ length h.props = good.0 ∙ long in
    props_turn strict ignored b (Number n.digits n.at ∷ (map Text texts ++ flat_map header_tokens hs ++ Plain mark.Body ∷ rest)) c.free
    ∙ led_within strict (most_props + 1) (number_of n) (at_head (strings (number_of n)) begun)
    (λ to. run strict to (map Text texts ++ flat_map header_tokens hs ++ Plain mark.Body ∷ rest))
    (λ on. let low = few_props on in omega arith)
    ∙ ap (run strict (at_head (strings (number_of n)) begun)) (append_assoc (map Text texts) (flat_map header_tokens hs) (Plain mark.Body ∷ rest))
    ∙ strings_read strict begun (number_of n) texts more good.0
    ∙ headers_read strict false next hs h rest good.1
    (record { states = tells.states; first = tells.first; props = ((count, c.is), c.rest); acceptance = tells.acceptance })
    few_states few_props
headers_read strict ignored b (Every at ∷ hs) h rest good tells few_states few_props =
    let c = comes b.stood.acceptance _ (flat_map acceptance_in hs) acceptance.Every h.acceptance tells.acceptance in
    let next : Head = record b { stood = record b.stood { acceptance = true }; acceptance = acceptance.Every } in
    let more = flat_map header_tokens hs ++ Plain mark.Body ∷ rest in
    acceptance_turn strict ignored b (Number (codes "0") at ∷ Plain mark.Truth ∷ more) c.free
    ∙ headers_read strict false next hs h rest good.1
    (record { states = tells.states; first = tells.first; props = tells.props; acceptance = (c.is, c.rest) })
    few_states few_props
headers_read strict ignored b (Marked at inner ∷ hs) h rest good tells few_states few_props =
    let c = comes b.stood.acceptance _ (flat_map acceptance_in hs) acceptance.Marked h.acceptance tells.acceptance in
    let next : Head = record b { stood = record b.stood { acceptance = true }; acceptance = acceptance.Marked } in
    let more = flat_map header_tokens hs ++ Plain mark.Body ∷ rest in
    acceptance_turn strict ignored b
    (Number (codes "1") at ∷ Plain mark.Inf ∷ Plain mark.LeftParen ∷ Number (codes "0") inner ∷ Plain mark.RightParen ∷ more) c.free
    ∙ headers_read strict false next hs h rest good.1
    (record { states = tells.states; first = tells.first; props = tells.props; acceptance = (c.is, c.rest) })
    few_states few_props
headers_read strict ignored b (Other ts ∷ hs) h rest good tells few_states few_props =
    let more = flat_map header_tokens hs ++ Plain mark.Body ∷ rest in
    name_turn strict ignored b (ts ++ flat_map header_tokens hs ++ Plain mark.Body ∷ rest)
    ∙ ap (run strict (at_head stage.Ignored b)) (append_assoc ts (flat_map header_tokens hs) (Plain mark.Body ∷ rest))
    ∙ passed_over strict b ts more good.0
    ∙ headers_read strict true b hs h rest good.1
    (record { states = tells.states; first = tells.first; props = tells.props; acceptance = tells.acceptance })
    few_states few_props
