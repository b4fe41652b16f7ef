-- Texts of LTL without bounded operators, read as texts that may have some.
--
--   over s          == a sign of LTL among those of LTL with bounds
--   IsPlain s       == it is one: no quantifier, and in some text
--   held f          == a formula of LTL as one that may have bounded operators
--   IsHeld ..       == what is read from signs of LTL is read from the same signs with bounds, and is written out to itself
--   sign_over       == a token is the same sign
--   items_over      == a text of LTL has the same items
--   ltl_accepted    == what is accepted in LTL is accepted with bounds
--   means_the_same  == a text that stands for a formula of a logic is written as one that means it
use Rattle.std.proofs.Common.{◌≡◌, ◌==◌, ℕ, Bool, true, false, List, [], ◌∷◌, map, drop, Option, Some, None, cond, refl, sym, ap, subst, ◌∙◌}
use Rattle.std.specs.List.{AllByRecursion}
use Rattle.ml_bounded.specs.Formula as bounded
use Rattle.ml_bounded.specs.Grammar as reads
use Rattle.ml_bounded.specs.Numbers.{begins_number, number_at}
use Rattle.ml_bounded.specs.Parsing as bounded_parsing
use Rattle.ml_bounded.specs.Signs as bounded_signs
use Rattle.ml_bounded.specs.Signs.{numbered}
use Rattle.ml_bounded.specs.Text as bounded_text
use Rattle.ml_bounded.specs.WrittenOut.{written_out}
use Rattle.ml_bounded.specs.declared.signs.Own.{Own}
use Rattle.ml_bounded.specs.declared.signs.Own.TheVariants as own
use Rattle.ml_ctl.specs.Formula as ctl
use Rattle.ml_ctl.specs.Grammar.{Reads, IsReadAs, alone, joined, pair_alone, pair, negation, temporal, quantified, group, constant, proposition}
use Rattle.ml_ctl.specs.Parsing as ctl_parsing
use Rattle.ml_ctl.specs.Signs as ctl_signs
use Rattle.ml_ctl.specs.Text as ctl_text
use Rattle.ml_ctl.specs.declared.language.Language.{Language}
use Rattle.ml_ctl.specs.declared.language.Language.TheVariants.{Ctl, Ltl}
use Rattle.ml_ctl.specs.declared.language.Sort.{Sort}
use Rattle.ml_ctl.specs.declared.signs.Own.TheVariants.{Tensed, Pairs, Quantifies}
use Rattle.ml_ctl.specs.declared.term.Pairing.TheVariants as pairing
use Rattle.ml_ctl.specs.declared.term.Quantifier.TheVariants as quantifier
use Rattle.ml_ctl.specs.declared.term.Tense.TheVariants as tense
use Rattle.ml_front.specs.Logics as front
use Rattle.ml_front.specs.declared.problem.AnyFormula.{AnyFormula}
use Rattle.ml_front.specs.declared.problem.AnyFormula.TheVariants as any
use Rattle.ml_text.specs.Items.{bytes_of, items_from, is_long_word}
use Rattle.ml_text.specs.Levels.{Level}
use Rattle.ml_text.specs.Refusals.{Item, IsAccepted, signs_of}
use Rattle.ml_text.specs.Signs.{bracket_of, is_proposition, is_upper_word, own_or, sign_of, word_sign_by}
use Rattle.ml_text.specs.Tokens.{tokens}
use Rattle.ml_text.specs.Words.{constant_of}
use Rattle.ml_text.specs.declared.named_signs.Sign.TheVariants.{Not, Connective, Const, Open, Close, Lower, Upper, Added, Unknown}
use Rattle.ml_text.specs.declared.token.Placed.{Placed}
use Rattle.ml_text.specs.declared.token.Token.{Token}
use Rattle.ml_text.specs.declared.token.Token.TheVariants as token
use Rattle.ml_text.specs.declared.token.WordStart.TheVariants.{LowerCase}
use Rattle.ml_written.specs.Written.{IsWrittenAs, meaning}
use Rattle.ml_written.specs.declared.written.Written.{Written}
use Rattle.ml_written.specs.declared.written.Written.TheVariants as written
use Rattle.ml_written.proofs.HeldItems.{accepted_with, with_sign}

abbrev pub over : ctl_signs.Sign → bounded_signs.Sign
over Not = Not
over (Connective o) = Connective o
over (Const b) = Const b
over Open = Open
over Close = Close
over (Lower p) = Lower p
over (Upper p) = Upper p
over (Added (Tensed t)) = Added (own.Tensed t)
over (Added (Pairs p)) = Added (own.Pairs p)
over (Added (Quantifies q)) = Unknown
over Unknown = Unknown

abbrev pub IsPlain : ctl_signs.Sign → Type 0
IsPlain (Added (Quantifies q)) = ⊥
IsPlain Unknown = ⊥
IsPlain _ = Unit {0}

abbrev pub ArePlain : List ctl_signs.Sign → Type 0
ArePlain ts = AllByRecursion IsPlain ts

abbrev pub held : ctl.Formula → bounded.Formula
held (ctl.Const b) = bounded.Const b
held (ctl.Prop p) = bounded.Prop p
held (ctl.Not f) = bounded.Not (held f)
held (ctl.Binary o f g) = bounded.Binary o (held f) (held g)
held (ctl.Temporal t f) = bounded.Temporal t (held f)
held (ctl.Paired p f g) = bounded.Paired p (held f) (held g)
held (ctl.Quantified q f) = held f

-- ---- what is read

pub record IsHeld (l : Level) (ts : List ctl_signs.Sign) (f : ctl.Formula) (rest : List ctl_signs.Sign) : Type 0 where
  pub read : reads.Reads l (map over ts) (held f) (map over rest)
  pub itself : written_out (held f) ≡ f
  pub plain : ArePlain rest → ArePlain ts

pub read_held : {w : Language} {s : Sort} {l : Level} {ts rest : List ctl_signs.Sign} {f : ctl.Formula}
    → w ≡ Ltl
    → Reads w s l ts f rest
    → IsHeld l ts f rest
read_held ltl (alone o r) =
    let x = read_held ltl r in record { read = reads.alone o x.read; itself = x.itself; plain = x.plain }
read_held ltl (joined o a b) =
    let x = read_held ltl a in
    let y = read_held ltl b in
    record {
      read = reads.joined o x.read y.read;
      itself = λ k. ctl.Binary o (x.itself k) (y.itself k);
      plain = λ p. x.plain (tt, y.plain p);
    }
read_held ltl (pair_alone r) =
    let x = read_held ltl r in record { read = reads.pair_alone x.read; itself = x.itself; plain = x.plain }
read_held ltl (pair p a b) =
    let x = read_held ltl a in
    let y = read_held ltl b in
    record {
      read = reads.pair p x.read y.read;
      itself = λ k. ctl.Paired p (x.itself k) (y.itself k);
      plain = λ q. x.plain (tt, y.plain q);
    }
read_held ltl (negation r) =
    let x = read_held ltl r in
    record { read = reads.negation x.read; itself = ap ctl.Not x.itself; plain = λ p. (tt, x.plain p) }
read_held ltl (temporal t r) =
    let x = read_held ltl r in
    record { read = reads.temporal t x.read; itself = ap (ctl.Temporal t) x.itself; plain = λ p. (tt, x.plain p) }
read_held ltl (quantified q is r) = let wrong : Ltl ≡ Ctl = sym ltl ∙ is in absurd (cc)
read_held ltl (group r) =
    let x = read_held ltl r in
    record { read = reads.group x.read; itself = x.itself; plain = λ p. (tt, x.plain (tt, p)) }
read_held ltl (constant b) = record { read = reads.constant b; itself = refl; plain = λ p. (tt, p) }
read_held ltl (proposition p) = record { read = reads.proposition p; itself = refl; plain = λ q. (tt, q) }

-- ---- signs

name_over : (a b : Bool) (w : List ℕ)
    → cond a (Lower w) (cond b (Upper w) Unknown) ≡ over (cond a (Lower w) (cond b (Upper w) Unknown))
name_over true b w = refl
name_over false true w = refl
name_over false false w = refl

word_over : (o : Option Bool) (w : List ℕ)
    → word_sign_by bounded_signs.own o w ≡ over (word_sign_by ctl_signs.own o w)
word_over (Some b) w = refl
word_over None w = name_over (is_proposition ctl_signs.own w) (is_upper_word w) w

-- the bytes of LTL, by the tests for each; `E` and `A` are quantifiers
abbrev byte_of : Bool → Bool → Bool → Bool → Bool → Bool → Bool → Bool → Bool → Bool → ctl_signs.Sign
byte_of opens closes x f g u r w e a =
    cond opens Open (cond closes Close (own_or
    (cond x (Some (Tensed tense.Next)) (cond f (Some (Tensed tense.Finally)) (cond g (Some (Tensed tense.Globally))
    (cond u (Some (Pairs pairing.Until)) (cond r (Some (Pairs pairing.Release)) (cond w (Some (Pairs pairing.Weak))
    (cond e (Some (Quantifies quantifier.Exists)) (cond a (Some (Quantifies quantifier.Forall)) None)))))))) Unknown))

-- and with bounds, where one has others behind them
abbrev bounded_byte : Bool → Bool → Bool → Bool → Bool → Bool → Bool → Bool → Option Own → bounded_signs.Sign
bounded_byte opens closes x f g u r w others =
    cond opens Open (cond closes Close (own_or
    (cond x (Some (own.Tensed tense.Next)) (cond f (Some (own.Tensed tense.Finally))
    (cond g (Some (own.Tensed tense.Globally)) (cond u (Some (own.Pairs pairing.Until))
    (cond r (Some (own.Pairs pairing.Release)) (cond w (Some (own.Pairs pairing.Weak)) others)))))) Unknown))

bytes_over : (opens closes x f g u r w e a : Bool) (others : Option Own)
    → IsPlain (byte_of opens closes x f g u r w e a)
    → bounded_byte opens closes x f g u r w others ≡ over (byte_of opens closes x f g u r w e a)
bytes_over true closes x f g u r w e a others is = refl
bytes_over false true x f g u r w e a others is = refl
bytes_over false false true f g u r w e a others is = refl
bytes_over false false false true g u r w e a others is = refl
bytes_over false false false false true u r w e a others is = refl
bytes_over false false false false false true r w e a others is = refl
bytes_over false false false false false false true w e a others is = refl
bytes_over false false false false false false false true e a others is = refl
bytes_over false false false false false false false false true a others is = absurd is
bytes_over false false false false false false false false false true others is = absurd is
bytes_over false false false false false false false false false false others is = absurd is

token_over : (t : Token) (w : List ℕ)
    → IsPlain (sign_of ctl_signs.own t w)
    → sign_of bounded_signs.own t w ≡ over (sign_of ctl_signs.own t w)
token_over token.Not w is = refl
token_over (token.Operator o) w is = refl
token_over token.Word w is = word_over (constant_of w) w
token_over (token.Byte b) w is =
    bytes_over (b == 40) (b == 41) (b == 88) (b == 70) (b == 71) (b == 85) (b == 82) (b == 87) (b == 69) (b == 65) _ is

numbered_over : (b : Bool) (n : ℕ) (s : ctl_signs.Sign) → numbered b n (over s) ≡ over s
numbered_over b n Not = refl
numbered_over b n (Connective o) = refl
numbered_over b n (Const c) = refl
numbered_over b n Open = refl
numbered_over b n Close = refl
numbered_over b n (Lower p) = refl
numbered_over b n (Upper p) = refl
numbered_over b n (Added (Tensed t)) = refl
numbered_over b n (Added (Pairs p)) = refl
numbered_over b n (Added (Quantifies q)) = refl
numbered_over b n Unknown = refl

pub sign_over : (text : List ℕ) (p : Placed)
    → IsPlain (ctl_text.sign_at text p)
    → bounded_text.sign_at text p ≡ over (ctl_text.sign_at text p)
sign_over text p is =
    let b = begins_number text p.start in
    let n = number_at (drop p.start text) in
    ap (numbered b n) (token_over p.token (bytes_of text p) is) ∙ numbered_over b n (ctl_text.sign_at text p)

-- ---- items

-- the item of a token with this sign
abbrev with_bounds : Placed → bounded_signs.Sign → Item bounded_signs.Sign
with_bounds p s = record {
  sign = s;
  at = p.start;
  weight = bounded_text.weight_of s;
  bracket = bracket_of bounded_signs.own s;
  is_long = is_long_word p;
}

abbrev without : Placed → ctl_signs.Sign → Item ctl_signs.Sign
without p s = record {
  sign = s;
  at = p.start;
  weight = ctl_text.weight_of s;
  bracket = bracket_of ctl_signs.own s;
  is_long = is_long_word p;
}

item_over : (p : Placed) (s : ctl_signs.Sign) → IsPlain s → with_bounds p (over s) ≡ with_sign over (without p s)
item_over p Not is = refl
item_over p (Connective o) is = refl
item_over p (Const c) is = refl
item_over p Open is = refl
item_over p Close is = refl
item_over p (Lower w) is = refl
item_over p (Upper w) is = refl
item_over p (Added (Tensed t)) is = refl
item_over p (Added (Pairs q)) is = refl
item_over p (Added (Quantifies q)) is = absurd is
item_over p Unknown is = absurd is

pub items_over : (text : List ℕ) (ps : List Placed)
    → ArePlain (signs_of (items_from ctl_text.ctl_signs text tt ps))
    → items_from bounded_text.bounded_signs text tt ps ≡ map (with_sign over) (items_from ctl_text.ctl_signs text tt ps)
items_over text [] plain = refl
items_over text (p ∷ ps) plain =
    let here =
    ap (with_bounds p) (sign_over text p plain.0) ∙ item_over p (ctl_text.sign_at text p) plain.0 in
    let later = items_over text ps plain.1 in
    (λ k. here k ∷ later k)

pub ltl_accepted : (text : List ℕ) (f : ctl.Formula)
    → ctl_parsing.IsParsedAs Ltl text f
    → bounded_parsing.IsParsedAs text (held f)
ltl_accepted text f is =
    let x = read_held refl is.stands in
    let same = items_over text (tokens LowerCase text) (x.plain tt) in
    subst (λ js. IsAccepted reads.IsReadAs js (held f)) (sym same)
    (accepted_with over (IsReadAs Ltl) reads.IsReadAs (ctl_text.items text) f (held f) is x.read)

-- ---- all logics

pub means_the_same : (text : List ℕ) (f : AnyFormula)
    → front.IsParsedAs text f
    → (w : Written) × IsWrittenAs text w × (meaning w ≡ f)
means_the_same text (any.Mu f) is = (written.Mu f, is, refl)
means_the_same text (any.Pdl f) is = (written.Pdl f, is, refl)
means_the_same text (any.Ctl f) is = (written.Ctl f, is, refl)
means_the_same text (any.Ltl f) is =
    (written.Ltl (held f), ltl_accepted text f is, ap any.Ltl (read_held refl is.stands).itself)
means_the_same text (any.Word f) is =
    (written.Word (held f), ltl_accepted text f is, ap any.Word (read_held refl is.stands).itself)
