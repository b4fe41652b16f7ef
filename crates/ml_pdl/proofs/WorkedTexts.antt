-- Texts worked out by hand, as signs: what comes of each, once its parentheses are marked.
--
-- All tokens of these texts but `tt` are one byte long, so up to a `tt` the number of a sign is its byte.
--
--   is_refused ts k       == the signs ts are refused as syntax at the sign with the number k, or at their end
--   stands_for ts f       == the signs ts are accepted as the formula f
--   groups_in_programs    == where a program is to come, a marked parenthesis opens a test, an unmarked one a program
--   tests_without_groups  == words and negations in front of `?`
--   groups_elsewhere      == where a formula is to come, the mark means nothing
--   ends                  == texts that end too early
--   accepted              == texts that stand for formulas
use Rattle.std.proofs.Common.{◌≡◌, ℕ, true, false, ◌+◌, List, [], ◌∷◌, length, refl, codes}
use Rattle.ml_text.specs.declared.token.Operator.TheVariants.{And}
use Rattle.ml_text.specs.Refusals.{Item, Syntax}
use Rattle.ml_text.specs.declared.limits.Bracket.TheVariants.{Neither}
use Rattle.ml_text.specs.private.Reading.{Outcome, Found, Refused, text_outcome}
use Rattle.ml_pdl.specs.Formula as plain
use Rattle.ml_pdl.specs.Formula.{Formula}
use Rattle.ml_pdl.specs.declared.term.Modality.TheVariants.{Diamond, Square}
use Rattle.ml_text.specs.declared.named_signs.Sign.TheVariants.{Open, Not, Connective, Const, Close, Lower, Upper, Added}
use Rattle.ml_pdl.specs.Signs.{Sign}
use Rattle.ml_pdl.specs.declared.signs.Own.TheVariants.{Begins, Ends, Plus, Semicolon, Star, Question, Blank}
use Rattle.ml_pdl.specs.MarkLaws.{marked}
use Rattle.ml_pdl.specs.Tables.{Phrase, OfFormula, pdl_grammar}

abbrev items_from : ℕ → List Sign → List (Item Sign)
items_from k [] = []
items_from k (t ∷ ts) = record { sign = t; at = k; weight = 0; bracket = Neither; is_long = false } ∷ items_from (k + 1) ts

abbrev comes_of : List Sign → Outcome Phrase
comes_of ts = text_outcome pdl_grammar (length ts) (items_from 0 (marked ts))

abbrev is_refused : List Sign → ℕ → Type 0
is_refused ts k = comes_of ts ≡ Refused Syntax k

abbrev stands_for : List Sign → Formula → Type 0
stands_for ts f = comes_of ts ≡ Found (OfFormula f)

-- the name p, as a sign, a proposition and an action, and the other signs in short
abbrev name : Sign
name = Lower (codes "p")

abbrev prop : Formula
prop = plain.Prop (codes "p")

abbrev act : plain.Program
act = plain.Act (codes "p")

abbrev open_ : Sign
open_ = Open

abbrev lt : Sign
lt = Added (Begins Diamond)

abbrev gt : Sign
gt = Added (Ends Diamond)

-- refused at these signs: <(tt)>p at 3,  <(!p)>p at 4,  <(p;p)?>p at 3,  <(p&p)>p at 3,  <!(p)>p at 5
groups_in_programs : (is_refused (lt ∷ open_ ∷ Const true ∷ Close ∷ gt ∷ name ∷ []) 3)
    × (is_refused (lt ∷ open_ ∷ Not ∷ name ∷ Close ∷ gt ∷ name ∷ []) 4)
    × (is_refused (lt ∷ open_ ∷ name ∷ Added Semicolon ∷ name ∷ Close ∷ Added Question ∷ gt ∷ name ∷ []) 3)
    × (is_refused (lt ∷ open_ ∷ name ∷ Connective And ∷ name ∷ Close ∷ gt ∷ name ∷ []) 3)
    × (is_refused (lt ∷ Not ∷ open_ ∷ name ∷ Close ∷ gt ∷ name ∷ []) 5)
groups_in_programs = (refl, refl, refl, refl, refl)

-- refused: <p?p>p at 3,  <A?>p at 2,  <tt>p at 2,  <!p;p>p at 3,  <!_?>p at 2,  p? at 1,  <p*?>p at 3
tests_without_groups : (is_refused (lt ∷ name ∷ Added Question ∷ name ∷ gt ∷ name ∷ []) 3)
    × (is_refused (lt ∷ Upper (codes "A") ∷ Added Question ∷ gt ∷ name ∷ []) 2)
    × (is_refused (lt ∷ Const true ∷ gt ∷ name ∷ []) 2)
    × (is_refused (lt ∷ Not ∷ name ∷ Added Semicolon ∷ name ∷ gt ∷ name ∷ []) 3)
    × (is_refused (lt ∷ Not ∷ Added Blank ∷ Added Question ∷ gt ∷ name ∷ []) 2)
    × (is_refused (name ∷ Added Question ∷ []) 1)
    × (is_refused (lt ∷ name ∷ Added Star ∷ Added Question ∷ gt ∷ name ∷ []) 3)
tests_without_groups = (refl, refl, refl, refl, refl, refl, refl)

-- refused: (p)? at 3,  <((p)?)?>p at 5
groups_elsewhere : (is_refused (open_ ∷ name ∷ Close ∷ Added Question ∷ []) 3)
    × (is_refused (lt ∷ open_ ∷ open_ ∷ name ∷ Close ∷ Added Question ∷ Close ∷ Added Question ∷ gt ∷ name ∷ []) 5)
groups_elsewhere = (refl, refl)

-- refused: <(p at 3,  <(p)? at 5,  <> at 2,  [ at 1,  the empty text at 0,  <p]p at 2
ends : (is_refused (lt ∷ open_ ∷ name ∷ []) 3)
    × (is_refused (lt ∷ open_ ∷ name ∷ Close ∷ Added Question ∷ []) 5)
    × (is_refused (lt ∷ gt ∷ []) 2)
    × (is_refused (Added (Begins Square) ∷ []) 1)
    × (is_refused [] 0)
    × (is_refused (lt ∷ name ∷ Added (Ends Square) ∷ name ∷ []) 2)
ends = (refl, refl, refl, refl, refl, refl)

-- <(p&p)?>p,  <((p)?)*>p,  <(p)>p,  []p,  <p?*;p+_>p,  <!!tt?>p
accepted : (stands_for (lt ∷ open_ ∷ name ∷ Connective And ∷ name ∷ Close ∷ Added Question ∷ gt ∷ name ∷ [])
    (plain.Modal Diamond (plain.Test (plain.Binary And prop prop)) prop))
    × (stands_for (lt ∷ open_ ∷ open_ ∷ name ∷ Close ∷ Added Question ∷ Close ∷ Added Star ∷ gt ∷ name ∷ [])
    (plain.Modal Diamond (plain.Star (plain.Test prop)) prop))
    × (stands_for (lt ∷ open_ ∷ name ∷ Close ∷ gt ∷ name ∷ []) (plain.Modal Diamond act prop))
    × (stands_for (Added (Begins Square) ∷ Added (Ends Square) ∷ name ∷ []) (plain.Modal Square (plain.Act (codes "_")) prop))
    × (stands_for (lt ∷ name ∷ Added Question ∷ Added Star ∷ Added Semicolon ∷ name ∷ Added Plus ∷ Added Blank ∷ gt ∷ name ∷ [])
    (plain.Modal Diamond (plain.Alt (plain.Seq (plain.Star (plain.Test prop)) act) (plain.Act (codes "_"))) prop))
    × (stands_for (lt ∷ Not ∷ Not ∷ Const true ∷ Added Question ∷ gt ∷ name ∷ [])
    (plain.Modal Diamond (plain.Test (plain.Not (plain.Not (plain.Const true)))) prop))
accepted = (refl, refl, refl, refl, refl, refl)
