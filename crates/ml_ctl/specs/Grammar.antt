-- The grammar of CTL* and LTL texts:
--
--   iff  = imp [ IFF iff ]               imp = or [ IMP imp ]
--   or   = and { OR and }                and = un { AND un }
--   un   = NOT un | "E" pun | "A" pun | "(" iff ")" | TT | FF | PROP
--
--   piff = pimp [ IFF piff ]             pimp = por [ IMP pimp ]
--   por  = pand { OR pand }              pand = ptm { AND ptm }
--   ptm  = pun [ ( "U" | "R" | "W" ) ptm ]
--   pun  = NOT pun | ( "X" | "F" | "G" ) pun | ( "E" | "A" ) pun | "(" piff ")" | TT | FF | PROP
--
-- Brackets mean optional parts, braces repetition. IFF, IMP, U, R and W group to the right; OR and AND group to the left.
-- The first lines are of state formulas, the others of path formulas. A text of CTL* is an iff; a text of LTL is a piff
-- without E and A.
--
-- Each line of state formulas has one of path formulas that is the same, so the two are one relation, with the sort as a
-- part; what stands in path formulas alone, and E and A, which stand in CTL* alone, are rules of their own. For state
-- formulas the level between pand and pun is un itself.
--
-- The grammar is a relation with what is left over: Reads w s l ts f rest says that the signs ts begin with the formula f
-- as the level l of the sort s, and that rest follows. So each rule reads as its line above. The lines of the connectives
-- are two rules for all of them, `alone` and `joined`, by the table of levels of ml_text; ptm is the level Operand, and
-- pun and un are the level Tight.
--
--   Sort                  == state formulas or path formulas
--   Reads w s l ts f rest == in the logic w, ts begins with f at the level l of the sort s, and rest follows it
--   sort_of w             == the sort of the formulas that texts of the logic w stand for
--   IsReadAs w ts f       == the signs ts, all of them, are a text of f in the logic w
use Rattle.std.specs.Prelude.{◌≡◌, ℕ, Bool, List, [], ◌∷◌}
use Rattle.ml_text.specs.declared.token.Operator.{Operator}
use Rattle.ml_text.specs.declared.token.Operator.TheVariants.{Iff}
use Rattle.ml_text.specs.Levels.{Level, Joined, Operand, Tight, tighter, left_level, right_level}
use Rattle.ml_ctl.specs.Formula as plain
use Rattle.ml_ctl.specs.Formula.{Formula}
use Rattle.ml_ctl.specs.declared.term.Tense.{Tense}
use Rattle.ml_ctl.specs.declared.term.Pairing.{Pairing}
use Rattle.ml_ctl.specs.declared.term.Quantifier.{Quantifier}
use Rattle.ml_ctl.specs.declared.language.Language.{Language}
use Rattle.ml_ctl.specs.declared.language.Language.TheVariants.{Ctl, Ltl}
use Rattle.ml_ctl.specs.declared.language.Sort.{Sort}
use Rattle.ml_ctl.specs.declared.language.Sort.TheVariants.{State, Path}
use Rattle.ml_text.specs.declared.named_signs.Sign.TheVariants.{Not, Connective, Const, Open, Close, Lower, Added}
use Rattle.ml_ctl.specs.Signs.{Sign}
use Rattle.ml_ctl.specs.declared.signs.Own.TheVariants.{Tensed, Pairs, Quantifies}

pub data Reads (w : Language) : Sort → Level → List Sign → Formula → List Sign → Type 0 where
  -- iff = imp [ IFF iff ], imp = or [ IMP imp ], or = and { OR and }, and = un { AND un }; and so for path formulas
  alone : {s : Sort} {ts rest : List Sign} {f : Formula} (o : Operator)
      → Reads w s (tighter o) ts f rest
      → Reads w s (Joined o) ts f rest
  joined : {s : Sort} {ts us rest : List Sign} {f g : Formula} (o : Operator)
      → Reads w s (left_level o) ts f (Connective o ∷ us)
      → Reads w s (right_level o) us g rest
      → Reads w s (Joined o) ts (plain.Binary o f g) rest
  -- ptm = pun [ ( "U" | "R" | "W" ) ptm ]
  pair_alone : {s : Sort} {ts rest : List Sign} {f : Formula} → Reads w s Tight ts f rest → Reads w s Operand ts f rest
  pair : {ts us rest : List Sign} {f g : Formula} (p : Pairing)
      → Reads w Path Tight ts f (Added (Pairs p) ∷ us)
      → Reads w Path Operand us g rest
      → Reads w Path Operand ts (plain.Paired p f g) rest
  -- NOT un
  negation : {s : Sort} {ts rest : List Sign} {f : Formula}
      → Reads w s Tight ts f rest
      → Reads w s Tight (Not ∷ ts) (plain.Not f) rest
  -- ( "X" | "F" | "G" ) pun
  temporal : {ts rest : List Sign} {f : Formula} (t : Tense)
      → Reads w Path Tight ts f rest
      → Reads w Path Tight (Added (Tensed t) ∷ ts) (plain.Temporal t f) rest
  -- ( "E" | "A" ) pun
  quantified : {s : Sort} {ts rest : List Sign} {f : Formula} (q : Quantifier)
      → w ≡ Ctl
      → Reads w Path Tight ts f rest
      → Reads w s Tight (Added (Quantifies q) ∷ ts) (plain.Quantified q f) rest
  -- "(" iff ")"
  group : {s : Sort} {ts rest : List Sign} {f : Formula}
      → Reads w s (Joined Iff) ts f (Close ∷ rest)
      → Reads w s Tight (Open ∷ ts) f rest
  -- TT, FF, PROP
  constant : {s : Sort} {rest : List Sign} (b : Bool) → Reads w s Tight (Const b ∷ rest) (plain.Const b) rest
  proposition : {s : Sort} {rest : List Sign} (p : List ℕ) → Reads w s Tight (Lower p ∷ rest) (plain.Prop p) rest

abbrev pub sort_of : Language → Sort
sort_of Ctl = State
sort_of Ltl = Path

abbrev pub IsReadAs : Language → List Sign → Formula → Type 0
IsReadAs w ts f = Reads w (sort_of w) (Joined Iff) ts f []
