-- Grammars of the kind that the logics have, over any signs and any trees, and what their texts stand for.
--
-- A grammar has operands, and operators between them. Operators have levels, their precedence: a greater level binds
-- tighter. All operators of one level group to the same side, their associativity. An operand is written in one of several
-- forms; a form is read from left to right, sign by sign, and may hold operands itself (the operand behind a negation, what
-- stands between parentheses). So a form is given as an automaton: what it does at a sign, and what it does behind an operand
-- that it holds. A grammar may have several sorts of operands, each with its own forms and operators (formulas and programs).
-- An operand that is held reaches as far right as its level lets it: what follows it is no operator that it could take.
-- Everything here is a relation; no order of reading is said. A logic's own grammar stands in its crate, in its own
-- productions, and is proved to be one of these.
--
-- To add a logic, say what its signs, trees and sorts are, what its forms do (`start`, `shift`, `resume`), what its
-- operators are (`role`, `groups_left`, `join`, `post`), and give one ending for each `Wait` (`IsCompletable`).
--
--   Role                 == what a sign is behind an operand: an operator of a level, a sign behind it, or neither
--   Mode                 == what is read of a form: the whole of it, as a tree, or signs of it are missing
--   Turn                 == what a sign does to a form: it is read; then an operand is held; the held operand begins with it
--   Grammar              == the tables of a grammar
--   takes g s l n        == could an operand of the sort s and the level l go on with n, the sign that follows, if any?
--   Reads g p ts f rest  == ts begins with the tree f as the part p, and rest follows it
--   StandsFor g ts f     == the signs ts, all of them, stand for the tree f
--   IsRegular g          == no form lets a held operand begin with the very sign that begins the form
--   IsCompletable g      == each form that is begun can be ended
use Rattle.std.specs.Prelude.{ℕ, ◌+◌, ◌≤◌, ◌≡◌, Bool, true, false, if◌then◌else◌, nat_le, List, [], ◌∷◌, ◌++◌, Option, Some, None}
use Rattle.ml_text.specs.declared.forms.Role.{Role}
use Rattle.ml_text.specs.declared.forms.Role.TheVariants.{Infix, Postfix, Outside}

pub data Mode (Tree Wait : Type 0) : Type 0 where
  Whole : Tree → Mode Tree Wait
  More : Wait → Mode Tree Wait

pub data Turn (Tree Wait Hold : Type 0) : Type 0 where
  Read : Mode Tree Wait → Turn Tree Wait Hold
  Inner : Hold → Turn Tree Wait Hold
  Opens : Hold → Turn Tree Wait Hold

pub record Grammar : Type 1 where
  -- the signs that texts are made of, what they stand for, and the sorts of operands
  pub Sign : Type 0
  pub Tree : Type 0
  pub Sort : Type 0
  -- a form of which a sign is to come, and a form of which an operand is to come
  pub Wait : Type 0
  pub Hold : Type 0
  -- the sort of a text
  pub whole : Sort
  -- the forms
  pub start : Sort → Wait
  pub shift : Wait → Sign → Option (Turn Tree Wait Hold)
  pub sort : Hold → Sort
  pub level : Hold → ℕ
  pub resume : Hold → Tree → Mode Tree Wait
  -- the operators
  pub role : Sort → Sign → Role
  pub groups_left : Sort → ℕ → Bool
  pub join : Sign → Tree → Tree → Tree
  pub post : Sign → Tree → Option Tree

-- the levels of the operands of an operator
abbrev pub left_level : (g : Grammar) → g.Sort → ℕ → ℕ
left_level g s m = if g.groups_left s m then m else m + 1

abbrev pub right_level : (g : Grammar) → g.Sort → ℕ → ℕ
right_level g s m = if g.groups_left s m then m + 1 else m

abbrev pub role_takes : ℕ → Role → Bool
role_takes l (Infix m) = nat_le l m
role_takes l Postfix = true
role_takes l Outside = false

abbrev pub takes : (g : Grammar) → g.Sort → ℕ → Option g.Sign → Bool
takes g s l None = false
takes g s l (Some t) = role_takes l (g.role s t)

abbrev pub front : {A : Type 0} → List A → Option A
front [] = None
front (t ∷ ts) = Some t

-- the parts of texts: operands with operators between them, of a level or tighter; one operand; what is missing of a
-- form; and the same behind a sign, by what the sign does
pub data Part (g : Grammar) : Type 0 where
  Level : g.Sort → ℕ → Part g
  Operand : g.Sort → Part g
  Rest : Mode g.Tree g.Wait → Part g
  Behind : g.Sign → Option (Turn g.Tree g.Wait g.Hold) → Part g

pub data Reads (g : Grammar) : Part g → List g.Sign → g.Tree → List g.Sign → Type 0 where
  -- an operand is of every level
  alone : {s : g.Sort} {l : ℕ} {ts rest : List g.Sign} {f : g.Tree}
      → Reads g (Operand s) ts f rest
      → Reads g (Level s l) ts f rest
  -- two operands with an operator between them
  joined : {s : g.Sort} {l : ℕ} {ts us rest : List g.Sign} {f h : g.Tree} (o : g.Sign) (m : ℕ)
      → g.role s o ≡ Infix m
      → l ≤ m
      → Reads g (Level s (left_level g s m)) ts f (o ∷ us)
      → Reads g (Level s (right_level g s m)) us h rest
      → Reads g (Level s l) ts (g.join o f h) rest
  -- an operand with a sign behind it
  postfixed : {s : g.Sort} {ts rest : List g.Sign} {f h : g.Tree} (o : g.Sign)
      → g.role s o ≡ Postfix
      → g.post o f ≡ Some h
      → Reads g (Operand s) ts f (o ∷ rest)
      → Reads g (Operand s) ts h rest
  -- an operand in one of the forms of its sort
  form : {s : g.Sort} {ts rest : List g.Sign} {f : g.Tree}
      → Reads g (Rest (More (g.start s))) ts f rest
      → Reads g (Operand s) ts f rest
  whole : {f : g.Tree} {ts : List g.Sign} → Reads g (Rest (Whole f)) ts f ts
  sign : {q : g.Wait} {t : g.Sign} {ts rest : List g.Sign} {f : g.Tree}
      → Reads g (Behind t (g.shift q t)) ts f rest
      → Reads g (Rest (More q)) (t ∷ ts) f rest
  read : {t : g.Sign} {m : Mode g.Tree g.Wait} {ts rest : List g.Sign} {f : g.Tree}
      → Reads g (Rest m) ts f rest
      → Reads g (Behind t (Some (Read m))) ts f rest
  -- an operand that the form holds, behind the sign or beginning with it
  inner : {t : g.Sign} {k : g.Hold} {ts us rest : List g.Sign} {v f : g.Tree}
      → Reads g (Level (g.sort k) (g.level k)) ts v us
      → takes g (g.sort k) (g.level k) (front us) ≡ false
      → Reads g (Rest (g.resume k v)) us f rest
      → Reads g (Behind t (Some (Inner k))) ts f rest
  opens : {t : g.Sign} {k : g.Hold} {ts us rest : List g.Sign} {v f : g.Tree}
      → Reads g (Level (g.sort k) (g.level k)) (t ∷ ts) v us
      → takes g (g.sort k) (g.level k) (front us) ≡ false
      → Reads g (Rest (g.resume k v)) us f rest
      → Reads g (Behind t (Some (Opens k))) ts f rest

abbrev pub StandsFor : (g : Grammar) → List g.Sign → g.Tree → Type 0
StandsFor g ts f = Reads g (Level g.whole 0) ts f []

abbrev pub IsRegular : Grammar → Type 0
IsRegular g = (s : g.Sort) (t : g.Sign) (k : g.Hold) → g.shift (g.start s) t ≡ Some (Opens k) → ⊥

-- no operand goes on here
abbrev pub IsStop : (g : Grammar) → Option g.Sign → Type 0
IsStop g n = (s : g.Sort) (l : ℕ) → takes g s l n ≡ false

-- signs that end a form, whatever stands behind them that no operand takes
pub record Ending (g : Grammar) (q : g.Wait) : Type 0 where
  pub signs : List g.Sign
  pub tree : g.Tree
  pub reads : (rest : List g.Sign) → IsStop g (front rest) → Reads g (Rest (More q)) (signs ++ rest) tree rest

pub record IsCompletable (g : Grammar) : Type 0 where
  pub ending : (q : g.Wait) → Ending g q
  -- what ends a held operand can be taken by none
  pub closes : (k : g.Hold) (v : g.Tree) (q : g.Wait)
      → g.resume k v ≡ More q
      → (rest : List g.Sign)
      → IsStop g (front ((ending q).signs ++ rest))
