-- What is known of a list of words while it is read. Private contracts and proofs cite this.
--
--   AreListed good taken least ws == the words ws are good and free, and at least so many
--   IsListFault good taken least ws end at r == the list of the words ws, which ends there, breaks the rule r at this place
--   IsFirstInList good taken least ws end r at == of all faults of the list this is the first
--   IsListedTo good taken all rest == of the words `all` those before `rest` are good and free
--   IsWordFree good taken w, BreaksWord good taken w r == the word w is good and isn't taken; or it breaks this rule, where `taken`
--                                        tells whether it is
--   IsSomeProposition p          == p may be a proposition of some logic
--   IsMadeBehind ds seen p, IsValueBehind ds m seen v == of declared propositions ds, what is taken among signals, and values of m
--   TellsInList good taken least ws end e == e tells the first fault of the list, if it isn't want of memory
use Rattle.std.specs.Prelude.{ℕ, ◌≡◌, ◌<◌, ◌≤◌, ◌⊎◌, ⊤, Bool, true, false, List, [], ◌++◌, length, Some, bytes_eq}
use Rattle.std.specs.Map.{lookup}
use Rattle.ml_front.specs.declared.logic.Logic.{Logic}
use Rattle.ml_written.specs.Propositions.{is_proposition}
use Rattle.ml_spec.specs.Known.{with_all, IsDeclared}
use Rattle.ml_spec.specs.RuleNumbers.{rule_number}
use Rattle.ml_spec.specs.Statements.{value_name, value_names}
use Rattle.ml_spec.specs.Words.{words_of, AreFree, AreGood, IsBadAt, IsTakenAt}
use Rattle.ml_spec.specs.declared.context.Declared.{Declared}
use Rattle.ml_spec.specs.declared.context.Declared.TheVariants.{Made, Signal}
use Rattle.ml_spec.specs.declared.fault.Fault.{Fault}
use Rattle.ml_spec.specs.declared.fault.Fault.TheVariants.{Breaks, NoMemory}
use Rattle.ml_spec.specs.declared.rule.SpecRule.{SpecRule}
use Rattle.ml_spec.specs.declared.rule.SpecRule.TheVariants.{NameTaken, NoName}

abbrev pub IsMadeBehind : List (List ℕ × Declared) → List (List ℕ) → List ℕ → Type 0
IsMadeBehind ds seen p = lookup (bytes_eq p) (with_all ds Signal seen) ≡ Some Made

abbrev pub IsValueBehind : List (List ℕ × Declared) → List ℕ → List (List ℕ) → List ℕ → Type 0
IsValueBehind ds m seen v = IsDeclared (with_all ds Made (value_names m seen)) (value_name m v)

abbrev pub IsSomeProposition : List ℕ → Type 0
IsSomeProposition p = (l : Logic) × (is_proposition l p ≡ true)

pub record IsWordFree (good : List ℕ → Bool) (taken : Type 0) (w : List ℕ) : Type 0 where
  pub is_good : good w ≡ true
  pub is_free : ¬ taken

abbrev pub BreaksWord : (List ℕ → Bool) → Type 0 → List ℕ → SpecRule → Type 0
BreaksWord good taken w NoName = good w ≡ false
BreaksWord good taken w NameTaken = (good w ≡ true) × taken
BreaksWord good taken w _ = ⊥

module _ (good : List ℕ → Bool) (taken : List (List ℕ) → List ℕ → Type 0) where
  pub record AreListed (least : ℕ) (ws : List (ℕ × List ℕ)) : Type 0 where
    pub are_good : AreGood good (words_of ws)
    pub are_free : AreFree taken [] (words_of ws)
    pub are_enough : least ≤ length ws

  pub data IsListFault (least : ℕ) (ws : List (ℕ × List ℕ)) (end at : ℕ) : SpecRule → Type 0 where
    is_bad : IsBadAt good ws at → IsListFault least ws end at NoName
    too_few : length ws < least → at ≡ end → IsListFault least ws end at NoName
    is_taken : IsTakenAt taken [] ws at → IsListFault least ws end at NameTaken

  pub record IsFirstInList (least : ℕ) (ws : List (ℕ × List ℕ)) (end : ℕ) (r : SpecRule) (at : ℕ) : Type 0 where
    pub comes : IsListFault least ws end at r
    pub first : (s : SpecRule) (k : ℕ)
        → IsListFault least ws end k s
        → (at < k) ⊎ ((at ≡ k) × (rule_number r ≤ rule_number s))

  pub record IsListedTo (all rest : List (ℕ × List ℕ)) : Type 0 where
    pub done : List (ℕ × List ℕ)
    pub whole : all ≡ done ++ rest
    pub are_good : AreGood good (words_of done)
    pub are_free : AreFree taken [] (words_of done)

  abbrev pub TellsInList : ℕ → List (ℕ × List ℕ) → ℕ → Fault → Type 0
  TellsInList least ws end (Breaks r at) = IsFirstInList least ws end r at
  TellsInList least ws end NoMemory = ⊤
