-- The tables of a logic, with how a program holds their parts.
--
--   Tables             == the grammar and the signs of a logic, and what the values of a program stand for
--   shape_of turn      == what a sign does to a form, without what it makes
--   IsLike g t u       == the signs t and u do the same, but for what they make
use Rattle.std.specs.Prelude.{ℕ, ◌≡◌, List, Option, Some, None, is_some}
use Rattle.ml_text.specs.Grammar.{Grammar, Turn, Read, Inner, Opens}
use Rattle.ml_text.specs.Items.{SignTable}

pub record Tables (Kind Context Sort Sign Tree Wait Hold : Type 0) : Type 1 where
  pub grammar : Grammar
  pub signs : SignTable grammar.Sign Context
  -- the sign of a kind, where its name, if it has one, has these bytes
  pub named : Kind → List ℕ → grammar.Sign
  -- may a program make a sign of the kind with this name?
  pub CanName : Kind → List ℕ → Type 0
  -- what the values of the program stand for
  pub sort : Sort → grammar.Sort
  pub sign : Sign → grammar.Sign
  pub tree : Tree → grammar.Tree
  pub wait : Wait → grammar.Wait
  pub hold : Hold → grammar.Hold

-- nothing, the form goes on or is held, or an operand of the sort begins
pub data Shape (Sort : Type 0) : Type 0 where
  Stuck Goes : Shape Sort
  Begins : Sort → Shape Sort

abbrev pub shape_of : (g : Grammar) → Option (Turn g.Tree g.Wait g.Hold) → Shape g.Sort
shape_of g None = Stuck
shape_of g (Some (Read m)) = Goes
shape_of g (Some (Inner k)) = Goes
shape_of g (Some (Opens k)) = Begins (g.sort k)

pub record IsLike (g : Grammar) (t u : g.Sign) : Type 0 where
  pub role : (s : g.Sort) → g.role s t ≡ g.role s u
  pub shift : (q : g.Wait) → shape_of g (g.shift q t) ≡ shape_of g (g.shift q u)
  pub post : (v : g.Tree) → is_some (g.post t v) ≡ is_some (g.post u v)
