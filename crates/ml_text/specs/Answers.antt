-- What is true of the texts of any logic, where relations say what a text stands for, as what it is parsed and by what it
-- is refused.
--
--   IsUnambiguous R                       == a text has one tree at most
--   HaveOneAnswer IsParsedAs IsRefusedBy  == a text is parsed as one tree, or is refused in one way, and never both
use Rattle.std.specs.Prelude.{ℕ, ◌≡◌, ◌≢◌, ◌⊎◌, List}
use Rattle.ml_base.specs.declared.parse_refusal.ParseRefusal.{ParseRefusal}
use Rattle.ml_base.specs.declared.parse_refusal.ParseRefusal.TheVariants as refusal

abbrev pub IsUnambiguous : {Tree : Type 0} → (List ℕ → Tree → Type 0) → Type 0
IsUnambiguous {Tree} R = (text : List ℕ) (f g : Tree) → R text f → R text g → f ≡ g

-- want of memory is the one answer that says nothing of the text
pub record HaveOneAnswer {Tree : Type 0} (IsParsedAs : List ℕ → Tree → Type 0) (IsRefusedBy : List ℕ → ParseRefusal → Type 0) : Type 0 where
  -- each text is parsed as some tree, or is refused for a reason of its own
  pub some : (text : List ℕ)
      → ((f : Tree) × IsParsedAs text f) ⊎ ((e : ParseRefusal) × (e ≢ refusal.NoMemory) × IsRefusedBy text e)
  -- it is parsed as one tree at most
  pub parsed : IsUnambiguous IsParsedAs
  -- but for want of memory, it is refused in one way at most
  pub refused : (text : List ℕ) (e d : ParseRefusal) → (e ≢ refusal.NoMemory) → (d ≢ refusal.NoMemory)
      → IsRefusedBy text e
      → IsRefusedBy text d
      → e ≡ d
  -- what is parsed is refused by nothing but want of memory
  pub exclusive : (text : List ℕ) (f : Tree) (e : ParseRefusal)
      → IsParsedAs text f
      → IsRefusedBy text e
      → e ≡ refusal.NoMemory
