-- The grammar of PDL texts:
--
--   iff  = imp [ IFF iff ]               imp = or [ IMP imp ]
--   or   = and { OR and }                and = un { AND un }
--   un   = NOT un | "<" [ prog ] ">" un | "[" [ prog ] "]" un
--        | "repeat" "(" prog ")" | "(" iff ")" | TT | FF | PROP
--   prog = seq { "+" seq }               seq = star { ";" star }
--   star = base { "*" }                  base = ACT | test | "(" prog ")"
--   test = { NOT } ( TT | FF | PROP | "(" iff ")" ) "?"
--
-- Brackets mean optional parts, braces repetition. IFF and IMP group to the right; OR, AND, + and ; group to the left.
-- A modality without a program has the action `_`. A name is a proposition where it stands in a formula, and also where
-- a program is to come and `?` is behind it; else it is an action there. Where a base is to come, a marked `(` opens a
-- test and an unmarked one a program; elsewhere the mark means nothing.
--
-- The grammar is a relation with what is left over: Reads l ts f rest says that the signs ts begin with the formula f
-- as the level l, and that rest follows. So each rule reads as its line above. The lines of the connectives are two rules
-- for all of them, `alone` and `joined`, by the table of levels of ml_text; un is the level Operand, and none is tighter.
--
--   Reads l ts f rest        == ts begins with the formula f at the level l, and rest follows it
--   ReadsProgram l ts p rest == the same of the program p
--   ReadsTested ts f rest    == ts begins with f as what stands in a test in front of its `?`
--   opens_program ts         == does ts begin with an unmarked `(`?
--   IsReadAs ts f            == the signs ts, all of them, are a text of f
use Rattle.std.specs.Prelude.{◌≡◌, ℕ, Bool, true, false, List, [], ◌∷◌, Some, codes}
use Rattle.ml_text.specs.declared.token.Operator.{Operator}
use Rattle.ml_text.specs.declared.token.Operator.TheVariants.{Iff}
use Rattle.ml_text.specs.Levels.{Level, Joined, Operand, tighter, left_level, right_level}
use Rattle.ml_pdl.specs.Formula as plain
use Rattle.ml_pdl.specs.Formula.{Formula, Program}
use Rattle.ml_pdl.specs.declared.term.Modality.{Modality}
use Rattle.ml_pdl.specs.declared.signs.Own.TheVariants as sign
use Rattle.ml_text.specs.declared.named_signs.Sign.TheVariants.{Not, Connective, Const, Close, Lower, Added}
use Rattle.ml_pdl.specs.Signs.{Sign, action_of}
use Rattle.ml_pdl.specs.declared.signs.Own.TheVariants.{Begins, Ends, Repeats, Plus, Semicolon, Question, Paren}
use Rattle.ml_pdl.specs.declared.signs.Mark.{Mark}
use Rattle.ml_pdl.specs.declared.signs.Mark.TheVariants.{Unmarked}

pub data ProgramLevel : Type 0 where
  Prog Seq Star Base : ProgramLevel

abbrev pub opens_program : List Sign → Bool
opens_program (Added (Paren Unmarked) ∷ ts) = true
opens_program _ = false

mutual
  pub data Reads : Level → List Sign → Formula → List Sign → Type 0 where
    -- iff = imp [ IFF iff ], imp = or [ IMP imp ], or = and { OR and }, and = un { AND un }
    alone : {ts rest : List Sign} {f : Formula} (o : Operator) → Reads (tighter o) ts f rest → Reads (Joined o) ts f rest
    joined : {ts us rest : List Sign} {f g : Formula} (o : Operator)
        → Reads (left_level o) ts f (Connective o ∷ us)
        → Reads (right_level o) us g rest
        → Reads (Joined o) ts (plain.Binary o f g) rest
    -- NOT un
    negation : {ts rest : List Sign} {f : Formula}
        → Reads Operand ts f rest
        → Reads Operand (Not ∷ ts) (plain.Not f) rest
    -- "<" prog ">" un, "[" prog "]" un, and both without the program
    modal : {ts us rest : List Sign} {p : Program} {f : Formula} (m : Modality)
        → ReadsProgram Prog ts p (Added (Ends m) ∷ us)
        → Reads Operand us f rest
        → Reads Operand (Added (Begins m) ∷ ts) (plain.Modal m p f) rest
    modal_blank : {ts rest : List Sign} {f : Formula} (m : Modality)
        → Reads Operand ts f rest
        → Reads Operand (Added (Begins m) ∷ Added (Ends m) ∷ ts) (plain.Modal m (plain.Act (codes "_")) f) rest
    -- "repeat" "(" prog ")"
    repetition : {ts rest : List Sign} {p : Program} (k : Mark)
        → ReadsProgram Prog ts p (Close ∷ rest)
        → Reads Operand (Added Repeats ∷ Added (Paren k) ∷ ts) (plain.Repeat p) rest
    -- "(" iff ")"
    group : {ts rest : List Sign} {f : Formula} (k : Mark)
        → Reads (Joined Iff) ts f (Close ∷ rest)
        → Reads Operand (Added (Paren k) ∷ ts) f rest
    -- TT, FF, PROP
    constant : {rest : List Sign} (b : Bool) → Reads Operand (Const b ∷ rest) (plain.Const b) rest
    proposition : {rest : List Sign} (p : List ℕ) → Reads Operand (Lower p ∷ rest) (plain.Prop p) rest

  pub data ReadsProgram : ProgramLevel → List Sign → Program → List Sign → Type 0 where
    -- prog = seq { "+" seq }
    alt_alone : {ts rest : List Sign} {p : Program}
        → ReadsProgram Seq ts p rest
        → ReadsProgram Prog ts p rest
    alt : {ts us rest : List Sign} {p q : Program}
        → ReadsProgram Prog ts p (Added Plus ∷ us)
        → ReadsProgram Seq us q rest
        → ReadsProgram Prog ts (plain.Alt p q) rest
    -- seq = star { ";" star }
    seq_alone : {ts rest : List Sign} {p : Program}
        → ReadsProgram Star ts p rest
        → ReadsProgram Seq ts p rest
    seq : {ts us rest : List Sign} {p q : Program}
        → ReadsProgram Seq ts p (Added Semicolon ∷ us)
        → ReadsProgram Star us q rest
        → ReadsProgram Seq ts (plain.Seq p q) rest
    -- star = base { "*" }
    star_alone : {ts rest : List Sign} {p : Program}
        → ReadsProgram Base ts p rest
        → ReadsProgram Star ts p rest
    star : {ts rest : List Sign} {p : Program}
        → ReadsProgram Star ts p (Added sign.Star ∷ rest)
        → ReadsProgram Star ts (plain.Star p) rest
    -- base = ACT
    action : {rest : List Sign} (a : List ℕ) (s : Sign)
        → action_of s ≡ Some a
        → ReadsProgram Base (s ∷ rest) (plain.Act a) rest
    -- base = test, which begins with no unmarked parenthesis
    test : {ts rest : List Sign} {f : Formula}
        → opens_program ts ≡ false
        → ReadsTested ts f (Added Question ∷ rest)
        → ReadsProgram Base ts (plain.Test f) rest
    -- base = "(" prog ")", whose parenthesis is unmarked
    program_group : {ts rest : List Sign} {p : Program}
        → ReadsProgram Prog ts p (Close ∷ rest)
        → ReadsProgram Base (Added (Paren Unmarked) ∷ ts) p rest

  pub data ReadsTested : List Sign → Formula → List Sign → Type 0 where
    -- { NOT }
    tested_negation : {ts rest : List Sign} {f : Formula}
        → ReadsTested ts f rest
        → ReadsTested (Not ∷ ts) (plain.Not f) rest
    -- TT, FF, PROP
    tested_constant : {rest : List Sign} (b : Bool)
        → ReadsTested (Const b ∷ rest) (plain.Const b) rest
    tested_proposition : {rest : List Sign} (p : List ℕ)
        → ReadsTested (Lower p ∷ rest) (plain.Prop p) rest
    -- "(" iff ")"
    tested_group : {ts rest : List Sign} {f : Formula} (k : Mark)
        → Reads (Joined Iff) ts f (Close ∷ rest)
        → ReadsTested (Added (Paren k) ∷ ts) f rest

abbrev pub IsReadAs : List Sign → Formula → Type 0
IsReadAs ts f = Reads (Joined Iff) ts f []
