-- The occurrences of a formula one by one, in preorder: what a program keeps of each.
--
-- Behind an iff two constants stand for the two numbers that it takes beside its own.
--
--   spread here i f o      == what `here` says of each occurrence of f, the first of which is i. An operand of a
--                             quantifier is told the sign of the item that the quantifier's block begins with
--   formula_here, occurrence_here, eventualities_here == its formula, what it is and where its operands are, and the
--                             eventualities of the block that begins with it
--   entry_at os n, eventualities_at lists n == what is kept of the occurrence n
--   wanted i f plus minus  == the keys of the eventualities that come of f at i, asked to be true, to be false, or both
use Rattle.std.specs.Prelude.{ℕ, ◌+◌, ◌*◌, ◌||◌, Bool, true, false, if◌then◌else◌, List, [], ◌∷◌, ◌++◌, Option, None, Some, map, get_or}
use Rattle.std.specs.Global.{Vec}
use Rattle.ml_text.specs.declared.token.Operator.{Operator}
use Rattle.ml_text.specs.declared.token.Operator.TheVariants as operator
use Rattle.ml_text.specs.Operators.{weight}
use Rattle.ml_text.specs.NameLists.{place_of}
use Rattle.ml_ctl.specs.Formula.{Formula, Const, Prop, Not, Binary, Temporal, Paired, Quantified, occurrences}
use Rattle.ml_ctl.specs.declared.term.Tense.{Tense}
use Rattle.ml_ctl.specs.declared.term.Tense.TheVariants as tense
use Rattle.ml_ctl.specs.declared.term.Pairing.{Pairing}
use Rattle.ml_ctl.specs.declared.term.Pairing.TheVariants as pairing
use Rattle.ml_ctl.specs.declared.term.Quantifier.{Quantifier}
use Rattle.ml_ctl.specs.declared.term.Quantifier.TheVariants as quantifier
use Rattle.ml_blocks.specs.declared.table.Occurrence.{Occurrence}
use Rattle.ml_blocks.specs.declared.table.Symbol.{Symbol}
use Rattle.ml_blocks.specs.declared.table.Symbol.TheVariants as symbol

-- the sign of the item that a quantifier's block begins with
abbrev pub sign_of : Quantifier → Bool
sign_of quantifier.Exists = true
sign_of quantifier.Forall = false

module _ {X : Type 0} (here : ℕ → Formula → Option Bool → X) where
  -- behind the first number of a connective
  abbrev pub fill : Operator → ℕ → List X
  fill operator.Iff i = here (i + 1) (Const true) None ∷ here (i + 2) (Const true) None ∷ []
  fill operator.Implies i = []
  fill operator.Or i = []
  fill operator.And i = []

  abbrev pub spread : ℕ → Formula → Option Bool → List X
  spread i (Const b) o = here i (Const b) o ∷ []
  spread i (Prop p) o = here i (Prop p) o ∷ []
  spread i (Not f) o = here i (Not f) o ∷ spread (i + 1) f None
  spread i (Binary op f g) o =
      here i (Binary op f g) o
      ∷ (fill op i ++ (spread (i + weight op) f None ++ spread (i + weight op + occurrences f) g None))
  spread i (Temporal t f) o = here i (Temporal t f) o ∷ spread (i + 1) f None
  spread i (Paired p f g) o =
      here i (Paired p f g) o ∷ (spread (i + 1) f None ++ spread (i + 1 + occurrences f) g None)
  spread i (Quantified q f) o = here i (Quantified q f) o ∷ spread (i + 1) f (Some (sign_of q))

-- ---- what is kept

abbrev pub formula_here : ℕ → Formula → Option Bool → Formula
formula_here i f o = f

abbrev pub entry : Symbol → (left right : ℕ) → Occurrence
entry s l r = record { symbol = s; left = l; right = r }

abbrev pub occurrence_here : List (List ℕ) → ℕ → Formula → Option Bool → Occurrence
occurrence_here names i (Const b) o = entry (symbol.Const b) 0 0
occurrence_here names i (Prop p) o = entry (symbol.Prop (place_of names p)) 0 0
occurrence_here names i (Not f) o = entry symbol.Not (i + 1) 0
occurrence_here names i (Binary op f g) o = entry (symbol.Binary op) (i + weight op) (i + weight op + occurrences f)
occurrence_here names i (Temporal t f) o = entry (symbol.Temporal t) (i + 1) 0
occurrence_here names i (Paired p f g) o = entry (symbol.Paired p) (i + 1) (i + 1 + occurrences f)
occurrence_here names i (Quantified q f) o = entry (symbol.Quantified q) (i + 1) 0

-- past the last one a constant
abbrev pub entry_at : List Occurrence → ℕ → Occurrence
entry_at os n = get_or os n (entry (symbol.Const true) 0 0)

-- ---- eventualities

abbrev pub key_if : Bool → ℕ → List ℕ
key_if b k = if b then k ∷ [] else []

-- asked to be true its key is 4 i, and asked to be false 4 i + 2
abbrev pub own_tense : Tense → ℕ → (plus minus : Bool) → List ℕ
own_tense tense.Next i plus minus = []
own_tense tense.Finally i plus minus = key_if plus (4 * i)
own_tense tense.Globally i plus minus = key_if minus (4 * i + 2)

abbrev pub own_pairing : Pairing → ℕ → (plus minus : Bool) → List ℕ
own_pairing pairing.Until i plus minus = key_if plus (4 * i)
own_pairing pairing.Release i plus minus = key_if minus (4 * i + 2)
own_pairing pairing.Weak i plus minus = key_if minus (4 * i + 2)

abbrev pub wanted : ℕ → Formula → (plus minus : Bool) → List ℕ
wanted i (Const b) plus minus = []
wanted i (Prop p) plus minus = []
wanted i (Quantified q f) plus minus = []
wanted i (Not f) plus minus = wanted (i + 1) f minus plus
wanted i (Binary operator.And f g) plus minus =
    wanted (i + 1) f plus minus ++ wanted (i + 1 + occurrences f) g plus minus
wanted i (Binary operator.Or f g) plus minus =
    wanted (i + 1) f plus minus ++ wanted (i + 1 + occurrences f) g plus minus
wanted i (Binary operator.Implies f g) plus minus =
    wanted (i + 1) f minus plus ++ wanted (i + 1 + occurrences f) g plus minus
wanted i (Binary operator.Iff f g) plus minus =
    wanted (i + 3) f (plus || minus) (plus || minus)
    ++ wanted (i + 3 + occurrences f) g (plus || minus) (plus || minus)
wanted i (Temporal t f) plus minus = own_tense t i plus minus ++ wanted (i + 1) f plus minus
wanted i (Paired p f g) plus minus =
    own_pairing p i plus minus ++ (wanted (i + 1) f plus minus ++ wanted (i + 1 + occurrences f) g plus minus)

abbrev pub eventualities_here : ℕ → Formula → Option Bool → List ℕ
eventualities_here i f None = []
eventualities_here i f (Some true) = wanted i f true false
eventualities_here i f (Some false) = wanted i f false true

abbrev pub lists_of : List (Vec ℕ) → List (List ℕ)
lists_of = map (λ (v : Vec ℕ). v.items)

abbrev pub eventualities_at : List (List ℕ) → ℕ → List ℕ
eventualities_at lists n = get_or lists n []
