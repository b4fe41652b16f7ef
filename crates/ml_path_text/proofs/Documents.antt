-- What a text asks for, and its first bad line.
--
--   one_asked        == a text asks for one path problem of one structure and start at most
--   asked_readable   == a text that asks for one has no bad line
--   one_fault        == a text has one first bad line at most
--   asked_or_fault   == a text asks for a path, or has a first bad line
--   asked_formula    == the formula that it asks for has no quantifier, and is one that the program holds
use Rattle.std.proofs.Common.{ℕ, ◌≡◌, ◌⊎◌, ◌∙◌, Bool, List, inl, inr, refl, sym, subst}
use Rattle.ml_base.specs.Structure.{Structure}
use Rattle.ml_base.specs.declared.doc_fault.DocFault.{DocFault}
use Rattle.ml_base.specs.declared.version.Version.{Version}
use Rattle.ml_ctl.specs.Formula.{Formula}
use Rattle.ml_ctl.specs.WellFormed as ctl
use Rattle.ml_ctl.specs.declared.language.Language.TheVariants as language
use Rattle.ml_kripke.specs.BodyRules.{IsFaultOf}
use Rattle.ml_kripke.specs.Laws.{IsModelText}
use Rattle.ml_kripke.specs.ModelText.{model_text}
use Rattle.ml_kripke.proofs.OneFault as body
use Rattle.ml_front.specs.Documents.{Shows, first_body_line}
use Rattle.ml_front.specs.HeadRules.{IsHead, IsHeadFault}
use Rattle.ml_front.specs.declared.answer.Answer.TheVariants.{Satisfiable}
use Rattle.ml_front.specs.declared.problem.Problem.{Problem}
use Rattle.ml_front.proofs.Documents.{together}
use Rattle.ml_front.proofs.Logics.{parsed_well}
use Rattle.ml_front.proofs.OneFault as head
use Rattle.ml_model_check.proofs.OneCheck.{one_document}
use Rattle.ml_path_text.specs.Found.{Asks, IsBadBehind, IsUnreadable, asks_no_path}
use Rattle.ml_path_text.specs.PathProblems.{AsksFor, AsksForNone, AsksForSome}
use Rattle.ml_path_text.proofs.PathProblems.{asked_well, one_problem, some_or_none}

-- ---- one at most

pub record AreSame (p q : Problem) (m n : Structure) (s t : ℕ) (f g : Formula) (b c : Bool) : Type 0 where
  pub problem : p ≡ q
  pub structure : m ≡ n
  pub start : s ≡ t
  pub formula : f ≡ g
  pub sense : b ≡ c

pub one_asked : (text : List ℕ) (p q : Problem) (m n : Structure) (s t : ℕ) (f g : Formula) (b c : Bool)
    → Asks text p m s f b
    → Asks text q n t g c
    → AreSame p q m n s t f g b c
one_asked text p q m n s t f g b c x y =
    let same = one_document text p q m n s t x.is_document y.is_document in
    let asked = one_problem q f g b c (subst (λ r. AsksFor r f b) same.0 x.asks_for) y.asks_for in
    record { problem = same.0; structure = same.1.0; start = same.1.1; formula = asked.0; sense = asked.1 }

-- ---- bad lines

-- a body that is good behind a head that is
abbrev IsGoodBehind : Problem → List ℕ → Type 0
IsGoodBehind p text = AsksForSome p × IsModelText text

never_behind : (p : Problem) (text : List ℕ) (fault : DocFault) → IsGoodBehind p text → IsBadBehind p text fault → ⊥
never_behind p text fault good (inl bad) = let asks = good.0 in bad.0 asks.0 asks.1 asks.2
never_behind p text fault good (inr bad) = body.fault_or_model text first_body_line fault good.1 bad.1

one_behind : (p : Problem) (text : List ℕ) (e f : DocFault) → IsBadBehind p text e → IsBadBehind p text f → e ≡ f
one_behind p text e f (inl x) (inl y) = x.1 ∙ sym y.1
one_behind p text e f (inl x) (inr y) = let asks = y.0 in absurd (x.0 asks.0 asks.1 asks.2)
one_behind p text e f (inr x) (inl y) = let asks = x.0 in absurd (y.0 asks.0 asks.1 asks.2)
one_behind p text e f (inr x) (inr y) = body.one_fault text first_body_line e f x.1 y.1

abbrev ShowsGood : List ℕ → Type 0
ShowsGood text = Shows Satisfiable text (λ v p rest. IsGoodBehind p rest)

shown_good : (text : List ℕ) (p : Problem) (m : Structure) (s : ℕ) (f : Formula) (b : Bool)
    → Asks text p m s f b
    → ShowsGood text
shown_good text p m s f b x =
    let is = x.is_document in record {
      version = is.0;
      problem = p;
      body = model_text m s;
      has_head = is.1;
      holds = ((f, b, x.asks_for), (m, s, is.2, is.3, refl));
    }

pub asked_readable : (text : List ℕ) (p : Problem) (m : Structure) (s : ℕ) (f : Formula) (b : Bool) (fault : DocFault)
    → Asks text p m s f b
    → IsUnreadable text fault
    → ⊥
asked_readable text p m s f b fault x (inl bad) =
    let good = shown_good text p m s f b x in
    head.head_or_fault Satisfiable text good.version good.problem good.body fault good.has_head bad
asked_readable text p m s f b fault x (inr bad) =
    let both = together Satisfiable text (λ v q rest. IsGoodBehind q rest) (λ v q rest. IsBadBehind q rest fault)
    (shown_good text p m s f b x) bad in
    never_behind both.problem both.body fault both.holds.0 both.holds.1

pub one_fault : (text : List ℕ) (e f : DocFault) → IsUnreadable text e → IsUnreadable text f → e ≡ f
one_fault text e f (inl x) (inl y) = head.one_fault Satisfiable text e f x y
one_fault text e f (inl x) (inr y) =
    absurd (head.head_or_fault Satisfiable text y.version y.problem y.body e y.has_head x)
one_fault text e f (inr x) (inl y) =
    absurd (head.head_or_fault Satisfiable text x.version x.problem x.body f x.has_head y)
one_fault text e f (inr x) (inr y) =
    let both = together Satisfiable text (λ v q rest. IsBadBehind q rest e) (λ v q rest. IsBadBehind q rest f) x y in
    one_behind both.problem both.body e f both.holds.0 both.holds.1

-- ---- one of the two

abbrev pub SomeAsked : List ℕ → Type 0
SomeAsked text =
    (p : Problem) × (m : Structure) × (s : ℕ) × (f : Formula) × (b : Bool) × Asks text p m s f b

abbrev pub SomeFault : List ℕ → Type 0
SomeFault text = (fault : DocFault) × IsUnreadable text fault

module _ (text : List ℕ) (v : Version) (p : Problem) (rest : List ℕ) (is_head : IsHead Satisfiable text v p rest) where
  bad_behind : (fault : DocFault) → IsBadBehind p rest fault → SomeFault text
  bad_behind fault bad =
      (fault, inr (record { version = v; problem = p; body = rest; has_head = is_head; holds = bad }))

  by_body : AsksForSome p → IsModelText rest ⊎ ((fault : DocFault) × IsFaultOf rest first_body_line fault)
      → SomeAsked text ⊎ SomeFault text
  by_body asks (inl (m, s, written, ordered, is)) =
      inl (
        p,
        m,
        s,
        asks.0,
        asks.1,
        record {
          is_document = (v, subst (IsHead Satisfiable text v p) is is_head, written, ordered);
          asks_for = asks.2;
        },
      )
  by_body asks (inr (fault, bad)) = inr (bad_behind fault (inr (asks, bad)))

  by_problem : AsksForSome p ⊎ AsksForNone p → SomeAsked text ⊎ SomeFault text
  by_problem (inl asks) = by_body asks (body.model_or_fault rest first_body_line)
  by_problem (inr none) = inr (bad_behind asks_no_path (inl (none, refl)))

pub asked_or_fault : (text : List ℕ) → SomeAsked text ⊎ SomeFault text
asked_or_fault text = by_head (head.some_head Satisfiable text)
  where
    by_head : ((v : Version) × (p : Problem) × (rest : List ℕ) × IsHead Satisfiable text v p rest)
        ⊎ ((fault : DocFault) × IsHeadFault Satisfiable text fault)
        → SomeAsked text ⊎ SomeFault text
    by_head (inl (v, p, rest, is_head)) = by_problem text v p rest is_head (some_or_none p)
    by_head (inr (fault, bad)) = inr (fault, inl bad)

-- ---- the formula

pub asked_formula : (text : List ℕ) (p : Problem) (m : Structure) (s : ℕ) (f : Formula) (b : Bool)
    → Asks text p m s f b
    → ctl.IsWellFormed language.Ltl f
asked_formula text p m s f b x =
    let h = x.is_document.1 in asked_well p f b x.asks_for (parsed_well h.formula_text p.formula h.is_parsed)
