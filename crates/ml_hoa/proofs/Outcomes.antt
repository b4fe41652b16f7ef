-- What comes of the tokens of a text is what the grammar tells of them.
--
--   read_state d       == what the reader knows behind the tokens of the draft d
--   complete           == the tokens of a draft are read so
--   begun              == what is read begins a text
--   Stopped            == the first token that is refused
--   stuck_there, past_there, ends_early, read_whole == what that says of the text
use Rattle.std.proofs.Common.{◌≡◌, ℕ, ◌⊎◌, Bool, true, false, List, [], ◌∷◌, ◌++◌, length, Option, Some, None, refl, sym, ◌∙◌, ap, arith, inl, inr}
use Rattle.ml_lists.specs.Member.{IsMember}
use Rattle.ml_lists.proofs.Member.{All-member}
use Rattle.ml_hoa.specs.declared.reader.Acceptance.TheVariants as acceptance
use Rattle.ml_hoa.specs.declared.reader.Stage.TheVariants as stage
use Rattle.ml_hoa.specs.declared.refusal.HoaRefusal.{HoaRefusal}
use Rattle.ml_hoa.specs.declared.refusal.HoaRefusal.TheVariants as refusal
use Rattle.ml_hoa.specs.Tokens.{Token, Placed, tokens, signs_of}
use Rattle.ml_hoa.specs.Grammar.{IsHeader, Draft, IsText, body_tokens}
use Rattle.ml_hoa.specs.AutomatonText.{IsSmall, IsSmallLabel}
use Rattle.ml_hoa.specs.Refusals.{Begins, BeginsSmall, IsAt, IsStuckAt, EndsEarly, IsTooManyAt}
use Rattle.ml_hoa.specs.private.Machine.{State, Turn, Next, Past, Stuck, turn, start, Read, Refused, went, outcome}
use Rattle.ml_hoa.proofs.Runs.{led, run, behind, run-append, loose}
use Rattle.ml_hoa.proofs.BodyRuns.{Each, FitsLabel, edge_texts, at_body, behind_states, body_read}
use Rattle.ml_hoa.proofs.HeadRuns.{Head, at_head, told, headed, headers_read}
use Rattle.ml_hoa.proofs.Sound.{ReadText, read_text}
use Rattle.ml_hoa.proofs.Endings.{ending}

-- ---- the tokens of a draft

abbrev pub read_state : Draft → State
read_state d = at_body d.heads (at_head stage.Body (told d.heads)) stage.Done (behind_states d.heads (headed d.heads) d.states)

abbrev no_head : Head
no_head = record {
  stood = record { states = false; start = false; props = false; acceptance = false };
  states = 0;
  first = 0;
  first_at = 0;
  prop_count = 0;
  props = [];
  acceptance = acceptance.Every;
}

pub each_from : {A : Type 0} (P : A → Type 0) (xs : List A) → ((y : A) → IsMember y xs → P y) → Each P xs
each_from {A} P [] all = tt
each_from {A} P (x ∷ xs) all = (all x (inl refl), each_from P xs (λ y m. all y (inr m)))

pub complete : (strict : Bool) (ts : List Token) (d : Draft) → IsText ts d → (strict ≡ true → IsSmall d)
    → run strict start ts ≡ Some (read_state d)
complete strict ts d is small =
    let w = is.whole in
    ap (run strict start) is.spelled
    ∙ headers_read strict false no_head d.headers d.heads (body_tokens d.states)
    (each_from IsHeader d.headers (λ y m. All-member IsHeader d.headers w.headers y m))
    (record { states = w.states_once; first = w.start_once; props = w.props_once; acceptance = w.acceptance_once })
    (λ on. (small on).few_states) (λ on. (small on).few_props)
    ∙ body_read strict d.heads (at_head stage.Body (told d.heads)) (headed d.heads) d.states
    (λ on. let few = (small on).few_edges in omega arith)
    (each_from (FitsLabel strict) (edge_texts d.states)
    (λ y m. λ on. All-member IsSmallLabel (edge_texts d.states) (small on).labels y m))

-- ---- what is read begins a text

record Goes (strict : Bool) (ts : List Token) : Type 0 where
  more : List Token
  read : ReadText strict (ts ++ more)

begun : (strict : Bool) (ts : List Token) (s : State) → run strict start ts ≡ Some s → Goes strict ts
begun strict ts s is =
    let e = ending strict s in
    record {
      more = e.tokens;
      read = read_text strict (ts ++ e.tokens) e.to
          (run-append strict start ts e.tokens ∙ ap (λ o. behind strict o e.tokens) is ∙ e.runs) e.done;
    }

pub begins_small : (ts : List Token) (s : State) → run true start ts ≡ Some s → BeginsSmall ts
begins_small ts s is = let g = begun true ts s is in (g.more, g.read.draft, g.read.is_text, g.read.small refl)

pub begins : (ts : List Token) (s : State) → run false start ts ≡ Some s → Begins ts
begins ts s is = let g = begun false ts s is in (g.more, g.read.draft, g.read.is_text)

-- what is read is read along each of its fronts
front_read : (strict : Bool) (o : Option State) (us : List Token) (to : State) → behind strict o us ≡ Some to
    → (s : State) × (o ≡ Some s)
front_read strict None us to is = absurd (cc)
front_read strict (Some s) us to is = (s, refl)

pub begun_read : (strict : Bool) (ts us : List Token) (d : Draft) → IsText (ts ++ us) d → (strict ≡ true → IsSmall d)
    → (s : State) × (run strict start ts ≡ Some s)
begun_read strict ts us d is small =
    front_read strict (run strict start ts) us (read_state d)
    (sym (run-append strict start ts us) ∙ complete strict (ts ++ us) d is small)

-- ---- the first token that is refused

pub record Stopped (s : State) (ps : List Placed) (e : HoaRefusal) : Type 0 where
  pub first : List Placed
  pub token : Placed
  pub last : List Placed
  pub all : ps ≡ first ++ token ∷ last
  pub mid : State
  pub read : run true s (signs_of first) ≡ Some mid
  pub why : ((turn mid token.token ≡ Stuck) × (e ≡ refusal.Syntax token.at))
      ⊎ ((next : State) × (turn mid token.token ≡ Past next) × (e ≡ refusal.TooMany token.at))

stopped_by : (s : State) (p : Placed) (ps : List Placed) (e : HoaRefusal) (t : Turn) → turn s p.token ≡ t
    → went t p.at (λ next. outcome next ps) ≡ Refused e
    → ((next : State) → outcome next ps ≡ Refused e → Stopped next ps e)
    → Stopped s (p ∷ ps) e
stopped_by s p ps e (Next next) is out more =
    let r = more next out in
    record {
      first = p ∷ r.first;
      token = r.token;
      last = r.last;
      all = ap (λ qs. p ∷ qs) r.all;
      mid = r.mid;
      read = ap (λ u. led true u (λ n. run true n (signs_of r.first))) is ∙ r.read;
      why = r.why;
    }
stopped_by s p ps e (Past next) is out more =
    record { first = []; token = p; last = ps; all = refl; mid = s; read = refl; why = inr (next, is, cc) }
stopped_by s p ps e Stuck is out more =
    record { first = []; token = p; last = ps; all = refl; mid = s; read = refl; why = inl (is, cc) }

pub stopped : (s : State) (ps : List Placed) (e : HoaRefusal) → outcome s ps ≡ Refused e → Stopped s ps e
unfolding outcome
stopped s [] e out = absurd (cc)
stopped s (p ∷ ps) e out = stopped_by s p ps e (turn s p.token) refl out (λ next is. stopped next ps e is)

went_read : (t : Turn) (at : ℕ) (ps : List Placed) (to : State)
    → went t at (λ next. outcome next ps) ≡ Read to
    → ((next : State) → outcome next ps ≡ Read to → run true next (signs_of ps) ≡ Some to)
    → led true t (λ next. run true next (signs_of ps)) ≡ Some to
went_read (Next next) at ps to out more = more next out
went_read (Past next) at ps to out more = absurd (cc)
went_read Stuck at ps to out more = absurd (cc)

pub outcome_read : (s : State) (ps : List Placed) (to : State) → outcome s ps ≡ Read to → run true s (signs_of ps) ≡ Some to
unfolding outcome
outcome_read s [] to out = cc
outcome_read s (p ∷ ps) to out = went_read (turn s p.token) p.at ps to out (λ next is. outcome_read next ps to is)

-- ---- what that says of the text

pub after_one : (strict : Bool) (ts : List Token) (t : Token) (mid : State) → run strict start ts ≡ Some mid
    → run strict start (ts ++ t ∷ []) ≡ led strict (turn mid t) (λ next. Some next)
after_one strict ts t mid is = run-append strict start ts (t ∷ []) ∙ ap (λ o. behind strict o (t ∷ [])) is

there : (text : List ℕ) (e : HoaRefusal) (x : Stopped start (tokens text) e)
    → IsAt text x.token.at (signs_of x.first) x.token.token
there text e x = record { first = x.first; last = x.last; all = x.all; before_is = refl }

pub stuck_there : (text : List ℕ) (e : HoaRefusal) (x : Stopped start (tokens text) e) → turn x.mid x.token.token ≡ Stuck
    → IsStuckAt text x.token.at
stuck_there text e x is = record {
  before = signs_of x.first;
  token = x.token.token;
  there = there text e x;
  begins = begins_small (signs_of x.first) x.mid x.read;
  none = λ more. by more;
}
  where
    by : Begins (signs_of x.first ++ x.token.token ∷ []) → ⊥
    by (us, d, text) =
        let read = begun_read false (signs_of x.first ++ x.token.token ∷ []) us d text (λ on. absurd (cc)) in
        let same = after_one false (signs_of x.first) x.token.token x.mid (loose start (signs_of x.first) x.mid x.read)
        ∙ ap (λ t. led false t (λ next. Some next)) is in
        let a = read.1 in
        cc

pub past_there : (text : List ℕ) (e : HoaRefusal) (x : Stopped start (tokens text) e) (next : State)
    → turn x.mid x.token.token ≡ Past next
    → IsTooManyAt text x.token.at
past_there text e x next is = record {
  before = signs_of x.first;
  token = x.token.token;
  there = there text e x;
  begins = begins_small (signs_of x.first) x.mid x.read;
  goes_on = begins (signs_of x.first ++ x.token.token ∷ []) next
      (after_one false (signs_of x.first) x.token.token x.mid (loose start (signs_of x.first) x.mid x.read)
      ∙ ap (λ t. led false t (λ n. Some n)) is);
  not_small = λ more. by more;
}
  where
    by : BeginsSmall (signs_of x.first ++ x.token.token ∷ []) → ⊥
    by (us, d, text, small) =
        let read = begun_read true (signs_of x.first ++ x.token.token ∷ []) us d text (λ on. small) in
        let same = after_one true (signs_of x.first) x.token.token x.mid x.read
        ∙ ap (λ t. led true t (λ n. Some n)) is in
        let a = read.1 in
        cc

pub ends_early : (text : List ℕ) (to : State) → outcome start (tokens text) ≡ Read to → (to.stage ≡ stage.Done → ⊥)
    → EndsEarly text (length text)
ends_early text to out other =
    let read = outcome_read start (tokens text) to out in
    record {
      begins = begins_small (signs_of (tokens text)) to read;
      no_text = λ d is. other (by d is read);
      end = refl;
    }
  where
    by : (d : Draft) → IsText (signs_of (tokens text)) d → run true start (signs_of (tokens text)) ≡ Some to → to.stage ≡ stage.Done
    by d is read =
        let a = loose start (signs_of (tokens text)) to read in
        let b = complete false (signs_of (tokens text)) d is (λ on. absurd (cc)) in
        let same : to ≡ read_state d = cc in
        ap (λ (x : State). x.stage) same

pub record ReadWhole (text : List ℕ) (to : State) : Type 0 where
  pub draft : Draft
  pub is_text : IsText (signs_of (tokens text)) draft
  pub is_small : IsSmall draft
  pub same : to ≡ read_state draft

pub read_whole : (text : List ℕ) (to : State) → outcome start (tokens text) ≡ Read to → to.stage ≡ stage.Done → ReadWhole text to
read_whole text to out done =
    let read = outcome_read start (tokens text) to out in
    let r = read_text true (signs_of (tokens text)) to read done in
    let small = r.small refl in
    let b = complete true (signs_of (tokens text)) r.draft r.is_text (λ on. small) in
    record { draft = r.draft; is_text = r.is_text; is_small = small; same = cc }
