-- The grammar of mu texts:
--
--   iff = imp [ IFF iff ]                imp = or [ IMP imp ]
--   or  = and { OR and }                 and = un { AND un }
--   un  = NOT un | "<" [ ACT ] ">" un | "[" [ ACT ] "]" un
--       | "mu" VAR "." iff | "nu" VAR "." iff
--       | "(" iff ")" | TT | FF | PROP | VAR
--
-- Brackets mean optional parts, braces repetition. IFF and IMP group to the right, OR and AND to the left. A modality
-- without an action has the action `_`. The body of a binder reaches as far right as it can: no operator stands
-- behind it that it could take.
--
-- The grammar is a relation with what is left over: Reads l ts f rest says that the signs ts begin with the formula f
-- as the level l, and that rest follows. So each rule reads as its line above, and "as far right as it can" is a
-- premise on what follows. The lines of the connectives are two rules for all of them, `alone` and `joined`, by the table
-- of levels of ml_text; un is the level Operand, and none is tighter.
--
--   Reads l ts f rest   == ts begins with f at the level l, and rest follows it
--   begins_operator ts  == does ts begin with a binary operator?
--   IsReadAs ts f       == the signs ts, all of them, are a text of f
use Rattle.std.specs.Prelude.{◌≡◌, ℕ, Bool, true, false, List, [], ◌∷◌, Some, codes}
use Rattle.ml_text.specs.declared.token.Operator.{Operator}
use Rattle.ml_text.specs.declared.token.Operator.TheVariants.{Iff}
use Rattle.ml_text.specs.Levels.{Level, Joined, Operand, tighter, left_level, right_level}
use Rattle.ml_mu.specs.Formula as plain
use Rattle.ml_mu.specs.Formula.{Formula, Modality, Fixpoint}
use Rattle.ml_text.specs.declared.named_signs.Sign.TheVariants.{Not, Connective, Const, Open, Close, Lower, Upper, Added}
use Rattle.ml_mu.specs.Signs.{Sign, action_of}
use Rattle.ml_mu.specs.declared.signs.Own.TheVariants.{Begins, Ends, Binds, Dot}

abbrev pub begins_operator : List Sign → Bool
begins_operator (Connective o ∷ ts) = true
begins_operator _ = false

pub data Reads : Level → List Sign → Formula → List Sign → Type 0 where
  -- iff = imp [ IFF iff ], imp = or [ IMP imp ], or = and { OR and }, and = un { AND un }
  alone : {ts rest : List Sign} {f : Formula} (o : Operator) → Reads (tighter o) ts f rest → Reads (Joined o) ts f rest
  joined : {ts us rest : List Sign} {f g : Formula} (o : Operator)
      → Reads (left_level o) ts f (Connective o ∷ us)
      → Reads (right_level o) us g rest
      → Reads (Joined o) ts (plain.Binary o f g) rest
  -- NOT un
  negation : {ts rest : List Sign} {f : Formula}
      → Reads Operand ts f rest
      → Reads Operand (Not ∷ ts) (plain.Not f) rest
  -- "<" ACT ">" un, "[" ACT "]" un, and both without the action
  modal : {ts rest : List Sign} {f : Formula} (m : Modality) (a : List ℕ) (s : Sign)
      → action_of s ≡ Some a
      → Reads Operand ts f rest
      → Reads Operand (Added (Begins m) ∷ s ∷ Added (Ends m) ∷ ts) (plain.Modal m a f) rest
  modal_blank : {ts rest : List Sign} {f : Formula} (m : Modality)
      → Reads Operand ts f rest
      → Reads Operand (Added (Begins m) ∷ Added (Ends m) ∷ ts) (plain.Modal m (codes "_") f) rest
  -- "mu" VAR "." iff, "nu" VAR "." iff
  binder : {ts rest : List Sign} {f : Formula} (q : Fixpoint) (x : List ℕ)
      → Reads (Joined Iff) ts f rest
      → begins_operator rest ≡ false
      → Reads Operand (Added (Binds q) ∷ Upper x ∷ Added Dot ∷ ts) (plain.Binder q x f) rest
  -- "(" iff ")"
  group : {ts rest : List Sign} {f : Formula}
      → Reads (Joined Iff) ts f (Close ∷ rest)
      → Reads Operand (Open ∷ ts) f rest
  -- TT, FF, PROP, VAR
  constant : {rest : List Sign} (b : Bool) → Reads Operand (Const b ∷ rest) (plain.Const b) rest
  proposition : {rest : List Sign} (p : List ℕ) → Reads Operand (Lower p ∷ rest) (plain.Prop p) rest
  variable : {rest : List Sign} (x : List ℕ) → Reads Operand (Upper x ∷ rest) (plain.Var x) rest

abbrev pub IsReadAs : List Sign → Formula → Type 0
IsReadAs ts f = Reads (Joined Iff) ts f []
