-- What is left of a text within a label, where the reader reads it to its end: what is written there.
--
--   Goes strict t next        == the turn t leads to next
--   TargetRest                == what is left behind a label, where so many edges were read
--   Tail                      == what is left of a label, behind an operand, up to the parenthesis or bracket that closes it
--   BehindRest, OperandRest   == what is left behind an operand, and before one
--   operand_back, behind_back == a token more in front of what is left
use Rattle.std.proofs.Common.{◌≡◌, ℕ, ◌+◌, ◌-◌, ◌<◌, ◌≤◌, Bool, true, false, nat_le, max, List, [], ◌∷◌, ◌++◌, length, Option, Some, None, refl, sym, ◌∙◌, ap, subst, arith}
use Rattle.std.proofs.lemmas.Bool.Decides.{nat_tests}
use Rattle.std.proofs.lemmas.List.{append_assoc, append-nil}
use Rattle.ml_hoa.specs.declared.token.Mark.TheVariants as mark
use Rattle.ml_hoa.specs.declared.reader.Stage.TheVariants as stage
use Rattle.ml_hoa.specs.Automaton.{most_operators}
use Rattle.ml_hoa.specs.Tokens.{Token, Number, Plain}
use Rattle.ml_hoa.specs.Grammar.{Literal, Conjunction, Disjunction, Label, Const, Ap, Not, Inside, Last, And, Least, Or, label_tokens, const_token}
use Rattle.ml_hoa.specs.AutomatonText.{operators_in, most_inside, most_open}
use Rattle.ml_hoa.specs.private.Machine.{LevelState, State, Turn, Next, Past, Stuck, limited, on_operand, behind_operand, closed, label_ended}

abbrev pub Goes : Bool → Turn → State → Type 0
Goes strict (Next s) next = s ≡ next
Goes true (Past s) next = ⊥
Goes false (Past s) next = s ≡ next
Goes strict Stuck next = ⊥

-- n is what a limit leaves behind so many, where it is strict
abbrev pub Left : Bool → ℕ → ℕ → ℕ → Type 0
Left strict n most used = strict ≡ true → n ≤ most - used

pub record Kept (strict : Bool) (most n : ℕ) (s next : State) : Type 0 where
  pub low : strict ≡ true → n < most
  pub is : s ≡ next

kept_by : (strict : Bool) (most n : ℕ) (b : Bool) (s next : State) → nat_le most n ≡ b
    → Goes strict (limited b s) next
    → Kept strict most n s next
kept_by strict most n false s next is goes = record { low = λ on. let low : n < most = grind (arith, nat_tests) in low; is = goes }
kept_by true most n true s next is goes = absurd goes
kept_by false most n true s next is goes = record { low = λ on. absurd (cc); is = goes }

pub kept : (strict : Bool) (most n : ℕ) (s next : State)
    → Goes strict (limited (nat_le most n) s) next
    → Kept strict most n s next
kept strict most n s next goes = kept_by strict most n (nat_le most n) s next refl goes

-- ---- what is left of a label

abbrev pub and_tokens : Option (Label Conjunction) → List Token
and_tokens None = []
and_tokens (Some c) = Plain mark.And ∷ label_tokens c

abbrev pub or_tokens : Option (Label Disjunction) → List Token
or_tokens None = []
or_tokens (Some d) = Plain mark.Or ∷ label_tokens d

abbrev pub and_operators : Option (Label Conjunction) → ℕ
and_operators None = 0
and_operators (Some c) = operators_in c + 1

abbrev pub or_operators : Option (Label Disjunction) → ℕ
or_operators None = 0
or_operators (Some d) = operators_in d + 1

abbrev pub and_inside : Option (Label Conjunction) → ℕ
and_inside None = 0
and_inside (Some c) = most_inside c

abbrev pub or_inside : Option (Label Disjunction) → ℕ
or_inside None = 0
or_inside (Some d) = most_inside d

-- a literal with what follows it
abbrev pub conjunction : Label Literal → Option (Label Conjunction) → Label Conjunction
conjunction l None = Last l
conjunction l (Some c) = And l c

abbrev pub disjunction : Label Conjunction → Option (Label Disjunction) → Label Disjunction
disjunction c None = Least c
disjunction c (Some d) = Or c d

pub record IsConjunction (l : Label Literal) (more : Option (Label Conjunction)) : Type 0 where
  pub tokens : label_tokens (conjunction l more) ≡ label_tokens l ++ and_tokens more
  pub operators : operators_in (conjunction l more) ≡ operators_in l + and_operators more
  pub inside : most_inside (conjunction l more) ≡ max (most_inside l) (and_inside more)

pub is_conjunction : (l : Label Literal) (more : Option (Label Conjunction)) → IsConjunction l more
is_conjunction l None = record { tokens = sym (append-nil (label_tokens l)); operators = omega arith; inside = omega arith }
is_conjunction l (Some c) = record { tokens = refl; operators = omega arith; inside = refl }

pub record IsDisjunction (c : Label Conjunction) (others : Option (Label Disjunction)) : Type 0 where
  pub tokens : label_tokens (disjunction c others) ≡ label_tokens c ++ or_tokens others
  pub operators : operators_in (disjunction c others) ≡ operators_in c + or_operators others
  pub inside : most_inside (disjunction c others) ≡ max (most_inside c) (or_inside others)

pub is_disjunction : (c : Label Conjunction) (others : Option (Label Disjunction)) → IsDisjunction c others
is_disjunction c None = record { tokens = sym (append-nil (label_tokens c)); operators = omega arith; inside = omega arith }
is_disjunction c (Some d) = record { tokens = refl; operators = omega arith; inside = refl }

abbrev pub closing : List LevelState → Token
closing [] = Plain mark.RightBracket
closing (l ∷ outer) = Plain mark.RightParen

pub record Tail (strict : Bool) (outer : List LevelState) (used : ℕ) (ts : List Token) : Type 0 where
  pub more : Option (Label Conjunction)
  pub others : Option (Label Disjunction)
  pub after : List Token
  pub spelled : ts ≡ and_tokens more ++ (or_tokens others ++ closing outer ∷ after)
  pub few : Left strict (and_operators more + or_operators others) most_operators used
  pub open_few : Left strict (max (and_inside more) (or_inside others)) most_open (length outer)

abbrev pub tail_operators : {strict : Bool} {outer : List LevelState} {used : ℕ} {ts : List Token} → Tail strict outer used ts → ℕ
tail_operators t = and_operators t.more + or_operators t.others

-- what has to be left behind the label
module _ (Target : List Token → Type 0) (strict : Bool) where
  abbrev pub BehindRest : List LevelState → ℕ → List Token → Type 0
  BehindRest [] used ts = (t : Tail strict [] used ts) × Target t.after
  BehindRest (l ∷ outer) used ts = (t : Tail strict (l ∷ outer) used ts) × BehindRest outer (used + tail_operators t) t.after

  pub record OperandRest (outer : List LevelState) (used : ℕ) (ts : List Token) : Type 0 where
    pub literal : Label Literal
    pub after : List Token
    pub spelled : ts ≡ label_tokens literal ++ after
    pub few : Left strict (operators_in literal) most_operators used
    pub open_few : Left strict (most_inside literal) most_open (length outer)
    pub behind : BehindRest outer (used + operators_in literal) after

  -- ---- before an operand

  with_used : (outer : List LevelState) (n m : ℕ) (ts : List Token) → n ≡ m → BehindRest outer n ts → BehindRest outer m ts
  with_used outer n m ts is rest = subst (λ k. BehindRest outer k ts) is rest

  pub constant_back : (outer : List LevelState) (used : ℕ) (ts : List Token) (b : Bool)
      → BehindRest outer used ts
      → OperandRest outer used (const_token b ∷ ts)
  constant_back outer used ts true rest = record {
    literal = Const true;
    after = ts;
    spelled = refl;
    few = λ on. omega arith;
    open_few = λ on. omega arith;
    behind = with_used outer used (used + 0) ts (omega arith) rest;
  }
  constant_back outer used ts false rest = record {
    literal = Const false;
    after = ts;
    spelled = refl;
    few = λ on. omega arith;
    open_few = λ on. omega arith;
    behind = with_used outer used (used + 0) ts (omega arith) rest;
  }

  pub prop_back : (outer : List LevelState) (used : ℕ) (ts : List Token) (digits : List ℕ) (at : ℕ)
      → BehindRest outer used ts
      → OperandRest outer used (Number digits at ∷ ts)
  prop_back outer used ts digits at rest = record {
    literal = Ap (record { digits = digits; at = at });
    after = ts;
    spelled = refl;
    few = λ on. omega arith;
    open_few = λ on. omega arith;
    behind = with_used outer used (used + 0) ts (omega arith) rest;
  }

  pub not_back : (outer : List LevelState) (used : ℕ) (ts : List Token)
      → (strict ≡ true → used < most_operators)
      → OperandRest outer (used + 1) ts
      → OperandRest outer used (Plain mark.Not ∷ ts)
  not_back outer used ts low r = record {
    literal = Not r.literal;
    after = r.after;
    spelled = ap (λ us. Plain mark.Not ∷ us) r.spelled;
    few = λ on. let a = low on in let b = r.few on in omega arith;
    open_few = r.open_few;
    behind = with_used outer (used + 1 + operators_in r.literal) (used + (operators_in r.literal + 1)) r.after (omega arith) r.behind;
  }

  pub open_back : (l : LevelState) (outer : List LevelState) (used : ℕ) (ts : List Token)
      → (strict ≡ true → length outer < most_open)
      → OperandRest (l ∷ outer) used ts
      → OperandRest outer used (Plain mark.LeftParen ∷ ts)
  open_back l outer used ts low r = by r.behind
    where
      by : BehindRest (l ∷ outer) (used + operators_in r.literal) r.after → OperandRest outer used (Plain mark.LeftParen ∷ ts)
      by (t, rest) =
          let c = conjunction r.literal t.more in
          let d = disjunction c t.others in
          let a = is_conjunction r.literal t.more in
          let b = is_disjunction c t.others in
          let x = label_tokens r.literal in
          let y = and_tokens t.more in
          let z = or_tokens t.others in
          let spell : label_tokens d ≡ x ++ y ++ z = b.tokens ∙ ap (λ us. us ++ z) a.tokens in
          let end = Plain mark.RightParen ∷ t.after in
          record {
            literal = Inside d;
            after = t.after;
            spelled = ap (λ us. Plain mark.LeftParen ∷ us)
                (r.spelled ∙ ap (λ us. x ++ us) t.spelled
                ∙ sym (append_assoc x y (z ++ end)) ∙ sym (append_assoc (x ++ y) z end)
                ∙ ap (λ us. us ++ end) (sym spell)
                ∙ sym (append_assoc (label_tokens d) (Plain mark.RightParen ∷ []) t.after));
            few = λ on. let e = r.few on in let f = t.few on in omega (arith, a.operators, b.operators);
            open_few = λ on. let e = r.open_few on in let f = t.open_few on in let g = low on in
                omega (arith, a.inside, b.inside);
            behind = with_used outer (used + operators_in r.literal + tail_operators t) (used + operators_in d) t.after
                (omega (arith, a.operators, b.operators)) rest;
          }

  -- ---- behind an operand

  and_tail : (outer : List LevelState) (used : ℕ) (ts : List Token) (l : Label Literal) (after : List Token)
      → ts ≡ label_tokens l ++ after
      → (strict ≡ true → used < most_operators)
      → Left strict (operators_in l) most_operators (used + 1)
      → Left strict (most_inside l) most_open (length outer)
      → Tail strict outer (used + 1 + operators_in l) after
      → Tail strict outer used (Plain mark.And ∷ ts)
  and_tail outer used ts l after is low few open_few t =
      let a = is_conjunction l t.more in
      let tail = or_tokens t.others ++ closing outer ∷ t.after in
      record {
        more = Some (conjunction l t.more);
        others = t.others;
        after = t.after;
        spelled = ap (λ us. Plain mark.And ∷ us)
            (is ∙ ap (λ us. label_tokens l ++ us) t.spelled ∙ sym (append_assoc (label_tokens l) (and_tokens t.more) tail)
            ∙ ap (λ us. us ++ tail) (sym a.tokens));
        few = λ on. let e = low on in let f = few on in let g = t.few on in omega (arith, a.operators);
        open_few = λ on. let e = open_few on in let f = t.open_few on in omega (arith, a.inside);
      }

  or_tail : (outer : List LevelState) (used : ℕ) (ts : List Token) (l : Label Literal) (after : List Token)
      → ts ≡ label_tokens l ++ after
      → (strict ≡ true → used < most_operators)
      → Left strict (operators_in l) most_operators (used + 1)
      → Left strict (most_inside l) most_open (length outer)
      → Tail strict outer (used + 1 + operators_in l) after
      → Tail strict outer used (Plain mark.Or ∷ ts)
  or_tail outer used ts l after is low few open_few t =
      let c = conjunction l t.more in
      let d = disjunction c t.others in
      let a = is_conjunction l t.more in
      let b = is_disjunction c t.others in
      let x = label_tokens l in
      let y = and_tokens t.more in
      let z = or_tokens t.others in
      let spell : label_tokens d ≡ x ++ y ++ z = b.tokens ∙ ap (λ us. us ++ z) a.tokens in
      let end = closing outer ∷ t.after in
      record {
        more = None;
        others = Some d;
        after = t.after;
        spelled = ap (λ us. Plain mark.Or ∷ us)
            (is ∙ ap (λ us. x ++ us) t.spelled ∙ sym (append_assoc x y (z ++ end)) ∙ sym (append_assoc (x ++ y) z end)
            ∙ ap (λ us. us ++ end) (sym spell));
        few = λ on. let e = low on in let f = few on in let g = t.few on in omega (arith, a.operators, b.operators);
        open_few = λ on. let e = open_few on in let f = t.open_few on in omega (arith, a.inside, b.inside);
      }

  pub and_back : (outer : List LevelState) (used : ℕ) (ts : List Token)
      → (strict ≡ true → used < most_operators)
      → OperandRest outer (used + 1) ts
      → BehindRest outer used (Plain mark.And ∷ ts)
  unfolding and_tail
  and_back outer used ts low r = by outer r.spelled r.few r.open_few r.behind
    where
      by : (outer : List LevelState)
          → ts ≡ label_tokens r.literal ++ r.after
          → Left strict (operators_in r.literal) most_operators (used + 1)
          → Left strict (most_inside r.literal) most_open (length outer)
          → BehindRest outer (used + 1 + operators_in r.literal) r.after
          → BehindRest outer used (Plain mark.And ∷ ts)
      by [] is few open_few (t, rest) = (and_tail [] used ts r.literal r.after is low few open_few t, rest)
      by (l ∷ outer) is few open_few (t, rest) =
          let a = is_conjunction r.literal t.more in (
            and_tail (l ∷ outer) used ts r.literal r.after is low few open_few t,
            with_used outer (used + 1 + operators_in r.literal + tail_operators t)
                (used + (operators_in (conjunction r.literal t.more) + 1 + or_operators t.others)) t.after
                (omega (arith, a.operators)) rest,
          )

  pub or_back : (outer : List LevelState) (used : ℕ) (ts : List Token)
      → (strict ≡ true → used < most_operators)
      → OperandRest outer (used + 1) ts
      → BehindRest outer used (Plain mark.Or ∷ ts)
  unfolding or_tail
  or_back outer used ts low r = by outer r.spelled r.few r.open_few r.behind
    where
      by : (outer : List LevelState)
          → ts ≡ label_tokens r.literal ++ r.after
          → Left strict (operators_in r.literal) most_operators (used + 1)
          → Left strict (most_inside r.literal) most_open (length outer)
          → BehindRest outer (used + 1 + operators_in r.literal) r.after
          → BehindRest outer used (Plain mark.Or ∷ ts)
      by [] is few open_few (t, rest) = (or_tail [] used ts r.literal r.after is low few open_few t, rest)
      by (l ∷ outer) is few open_few (t, rest) =
          let c = conjunction r.literal t.more in
          let a = is_conjunction r.literal t.more in
          let b = is_disjunction c t.others in (
            or_tail (l ∷ outer) used ts r.literal r.after is low few open_few t,
            with_used outer (used + 1 + operators_in r.literal + tail_operators t)
                (used + (0 + (operators_in (disjunction c t.others) + 1))) t.after
                (omega (arith, a.operators, b.operators)) rest,
          )

  no_tail : (outer : List LevelState) (used : ℕ) (ts : List Token) → Tail strict outer used (closing outer ∷ ts)
  no_tail outer used ts = record {
    more = None;
    others = None;
    after = ts;
    spelled = refl;
    few = λ on. omega arith;
    open_few = λ on. omega arith;
  }

  pub close_back : (l : LevelState) (outer : List LevelState) (used : ℕ) (ts : List Token)
      → BehindRest outer used ts
      → BehindRest (l ∷ outer) used (Plain mark.RightParen ∷ ts)
  unfolding no_tail
  close_back l outer used ts rest =
      (no_tail (l ∷ outer) used ts, with_used outer used (used + (0 + 0)) ts (omega arith) rest)

  pub bracket_back : (used : ℕ) (ts : List Token) → Target ts → BehindRest [] used (Plain mark.RightBracket ∷ ts)
  unfolding no_tail
  bracket_back used ts rest = (no_tail [] used ts, rest)

  -- ---- the reader's steps

  pub operand_back : (s next : State) (t : Token) (ts : List Token)
      → Goes strict (on_operand s t) next
      → ((b : State) → next ≡ b → b.stage ≡ stage.Behind → BehindRest b.outer b.operators ts)
      → ((b : State) → next ≡ b → b.stage ≡ stage.Operand → OperandRest b.outer b.operators ts)
      → OperandRest s.outer s.operators (t ∷ ts)
  operand_back s next (Number digits at) ts goes behind before =
      prop_back s.outer s.operators ts digits at (behind _ (sym goes) refl)
  operand_back s next (Plain mark.Truth) ts goes behind before =
      constant_back s.outer s.operators ts true (behind _ (sym goes) refl)
  operand_back s next (Plain mark.Falsity) ts goes behind before =
      constant_back s.outer s.operators ts false (behind _ (sym goes) refl)
  operand_back s next (Plain mark.Not) ts goes behind before =
      let k = kept strict most_operators s.operators _ next goes in
      not_back s.outer s.operators ts k.low (before _ (sym k.is) refl)
  operand_back s next (Plain mark.LeftParen) ts goes behind before =
      let k = kept strict most_open (length s.outer) _ next goes in
      open_back s.level s.outer s.operators ts k.low (before _ (sym k.is) refl)
  operand_back s next t ts goes behind before = absurd goes

  closed_back : (s next : State) (outer : List LevelState) (ts : List Token)
      → Goes strict (closed s outer) next
      → ((b : State) → next ≡ b → b.stage ≡ stage.Behind → BehindRest b.outer b.operators ts)
      → BehindRest outer s.operators (Plain mark.RightParen ∷ ts)
  closed_back s next [] ts goes behind = absurd goes
  closed_back s next (l ∷ outer) ts goes behind = close_back l outer s.operators ts (behind _ (sym goes) refl)

  ended_back : (s next : State) (outer : List LevelState) (ts : List Token)
      → Goes strict (label_ended s outer) next
      → (next ≡ record s { stage = stage.Target } → Target ts)
      → BehindRest outer s.operators (Plain mark.RightBracket ∷ ts)
  ended_back s next [] ts goes target = bracket_back s.operators ts (target (sym goes))
  ended_back s next (l ∷ outer) ts goes target = absurd goes

  pub behind_back : (s next : State) (t : Token) (ts : List Token)
      → Goes strict (behind_operand s t) next
      → ((b : State) → next ≡ b → b.stage ≡ stage.Behind → BehindRest b.outer b.operators ts)
      → ((b : State) → next ≡ b → b.stage ≡ stage.Operand → OperandRest b.outer b.operators ts)
      → (next ≡ record s { stage = stage.Target } → Target ts)
      → BehindRest s.outer s.operators (t ∷ ts)
  behind_back s next (Plain mark.And) ts goes behind before target =
      let k = kept strict most_operators s.operators _ next goes in
      and_back s.outer s.operators ts k.low (before _ (sym k.is) refl)
  behind_back s next (Plain mark.Or) ts goes behind before target =
      let k = kept strict most_operators s.operators _ next goes in
      or_back s.outer s.operators ts k.low (before _ (sym k.is) refl)
  behind_back s next (Plain mark.RightParen) ts goes behind before target = closed_back s next s.outer ts goes behind
  behind_back s next (Plain mark.RightBracket) ts goes behind before target = ended_back s next s.outer ts goes target
  behind_back s next t ts goes behind before target = absurd goes
