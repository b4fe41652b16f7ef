-- What is true of texts and answers.
--
--   IsUnambiguous == a text is read as one automaton at most
--   OneAnswer     == a text is read, or is refused in one way, and never both
use Rattle.std.specs.Prelude.{ℕ, ◌≡◌, ◌≢◌, ◌⊎◌, List}
use Rattle.ml_hoa.specs.Automaton.{Automaton}
use Rattle.ml_hoa.specs.Refusals.{IsReadAs, IsRefusedBy}
use Rattle.ml_hoa.specs.declared.refusal.HoaRefusal.{HoaRefusal}
use Rattle.ml_hoa.specs.declared.refusal.HoaRefusal.TheVariants as refusal

abbrev pub IsUnambiguous : Type 0
IsUnambiguous = (text : List ℕ) (a b : Automaton) → IsReadAs text a → IsReadAs text b → a ≡ b

-- want of memory is the one answer that says nothing of the text
pub record OneAnswer : Type 0 where
  -- each text is read as some automaton, or is refused for a reason of its own
  pub some : (text : List ℕ)
      → ((a : Automaton) × IsReadAs text a) ⊎ ((e : HoaRefusal) × (e ≢ refusal.NoMemory) × IsRefusedBy text e)
  -- but for want of memory, it is refused in one way at most
  pub refused : (text : List ℕ) (e d : HoaRefusal) → e ≢ refusal.NoMemory → d ≢ refusal.NoMemory
      → IsRefusedBy text e → IsRefusedBy text d → e ≡ d
  -- what is read is refused by nothing but want of memory
  pub exclusive : (text : List ℕ) (a : Automaton) (e : HoaRefusal)
      → IsReadAs text a → IsRefusedBy text e → e ≡ refusal.NoMemory
