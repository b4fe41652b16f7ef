-- The grammar of LTL texts with bounds:
--
--   piff = pimp [ IFF piff ]             pimp = por [ IMP pimp ]
--   por  = pand { OR pand }              pand = ptm { AND ptm }
--   ptm  = pun [ ( "U" | "R" | "W" ) ptm ]
--   pun  = NOT pun | ( "X" | "F" | "G" ) pun | bound pun | "(" piff ")" | TT | FF | PROP
--
--   bound = "X" "[" NUM "]" | ( "F" | "G" ) "[" NUM ( ":" | "," ) NUM "]"
--
-- Brackets without quotes mean optional parts, braces repetition. IFF, IMP, U, R and W group to the right; OR and AND group to
-- the left. In a bound the second number is no less than the first. A text is a piff.
--
-- The grammar is a relation with what is left over: Reads l ts f rest says that the signs ts begin with the formula f as the
-- level l, and that rest follows. So each rule reads as its line above. The lines of the connectives are two rules for all of
-- them, `alone` and `joined`, by the table of levels of ml_text; ptm is the level Operand, and pun is the level Tight.
--
--   ReadsNumber n ts rest == ts begins with the number n: the sign of its first digit, and its other digits
--   ReadsBound b ts rest  == ts begins with the bounded operator b
--   Reads l ts f rest     == ts begins with f at the level l, and rest follows it
--   IsReadAs ts f         == the signs ts, all of them, are a text of f
use Rattle.std.specs.Prelude.{ℕ, ◌≤◌, Bool, List, [], ◌∷◌}
use Rattle.ml_text.specs.declared.token.Operator.{Operator}
use Rattle.ml_text.specs.declared.token.Operator.TheVariants.{Iff}
use Rattle.ml_text.specs.Levels.{Level, Joined, Operand, Tight, tighter, left_level, right_level}
use Rattle.ml_text.specs.declared.named_signs.Sign.TheVariants.{Not, Connective, Const, Open, Close, Lower, Added}
use Rattle.ml_ctl.specs.declared.term.Tense.{Tense}
use Rattle.ml_ctl.specs.declared.term.Tense.TheVariants as tense
use Rattle.ml_ctl.specs.declared.term.Pairing.{Pairing}
use Rattle.ml_bounded.specs.Formula as plain
use Rattle.ml_bounded.specs.Formula.{Formula}
use Rattle.ml_bounded.specs.declared.term.Bound.{Bound}
use Rattle.ml_bounded.specs.declared.term.Bound.TheVariants.{Next, Within}
use Rattle.ml_bounded.specs.declared.term.Reach.{Reach}
use Rattle.ml_bounded.specs.declared.term.Reach.TheVariants.{Eventually, Always}
use Rattle.ml_bounded.specs.Signs.{Sign}
use Rattle.ml_bounded.specs.declared.signs.Own.TheVariants.{Tensed, Pairs, Opening, Closing, Between, Number, Digit}

-- the digits of a number behind its first one
pub data ReadsDigits : List Sign → List Sign → Type 0 where
  last : {ts : List Sign} → ReadsDigits ts ts
  digit : {ts rest : List Sign} → ReadsDigits ts rest → ReadsDigits (Added Digit ∷ ts) rest

pub data ReadsNumber : ℕ → List Sign → List Sign → Type 0 where
  number : {ts rest : List Sign} (n : ℕ) → ReadsDigits ts rest → ReadsNumber n (Added (Number n) ∷ ts) rest

abbrev pub tense_of : Reach → Tense
tense_of Eventually = tense.Finally
tense_of Always = tense.Globally

pub data ReadsBound : Bound → List Sign → List Sign → Type 0 where
  -- "X" "[" NUM "]"
  next : {ts rest : List Sign} (n : ℕ)
      → ReadsNumber n ts (Added Closing ∷ rest)
      → ReadsBound (Next n) (Added (Tensed tense.Next) ∷ Added Opening ∷ ts) rest
  -- ( "F" | "G" ) "[" NUM ( ":" | "," ) NUM "]"
  within : {ts us rest : List Sign} (r : Reach) (m n : ℕ)
      → m ≤ n
      → ReadsNumber m ts (Added Between ∷ us)
      → ReadsNumber n us (Added Closing ∷ rest)
      → ReadsBound (Within r m n) (Added (Tensed (tense_of r)) ∷ Added Opening ∷ ts) rest

pub data Reads : Level → List Sign → Formula → List Sign → Type 0 where
  -- piff = pimp [ IFF piff ], pimp = por [ IMP pimp ], por = pand { OR pand }, and pand = ptm { AND ptm }
  alone : {ts rest : List Sign} {f : Formula} (o : Operator) → Reads (tighter o) ts f rest → Reads (Joined o) ts f rest
  joined : {ts us rest : List Sign} {f g : Formula} (o : Operator)
      → Reads (left_level o) ts f (Connective o ∷ us)
      → Reads (right_level o) us g rest
      → Reads (Joined o) ts (plain.Binary o f g) rest
  -- ptm = pun [ ( "U" | "R" | "W" ) ptm ]
  pair_alone : {ts rest : List Sign} {f : Formula} → Reads Tight ts f rest → Reads Operand ts f rest
  pair : {ts us rest : List Sign} {f g : Formula} (p : Pairing)
      → Reads Tight ts f (Added (Pairs p) ∷ us)
      → Reads Operand us g rest
      → Reads Operand ts (plain.Paired p f g) rest
  -- NOT pun
  negation : {ts rest : List Sign} {f : Formula} → Reads Tight ts f rest → Reads Tight (Not ∷ ts) (plain.Not f) rest
  -- ( "X" | "F" | "G" ) pun
  temporal : {ts rest : List Sign} {f : Formula} (t : Tense)
      → Reads Tight ts f rest
      → Reads Tight (Added (Tensed t) ∷ ts) (plain.Temporal t f) rest
  -- bound pun
  bounded : {ts us rest : List Sign} {f : Formula} (b : Bound)
      → ReadsBound b ts us
      → Reads Tight us f rest
      → Reads Tight ts (plain.Bounded b f) rest
  -- "(" piff ")"
  group : {ts rest : List Sign} {f : Formula}
      → Reads (Joined Iff) ts f (Close ∷ rest)
      → Reads Tight (Open ∷ ts) f rest
  -- TT, FF, PROP
  constant : {rest : List Sign} (b : Bool) → Reads Tight (Const b ∷ rest) (plain.Const b) rest
  proposition : {rest : List Sign} (p : List ℕ) → Reads Tight (Lower p ∷ rest) (plain.Prop p) rest

abbrev pub IsReadAs : List Sign → Formula → Type 0
IsReadAs ts f = Reads (Joined Iff) ts f []
