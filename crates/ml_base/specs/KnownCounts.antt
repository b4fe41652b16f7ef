-- What known counts of bytes and faults tell.
--
--   IsGivenCount e max n          == n bytes may have been given where reading up to `max` bytes is refused by e
--   AreFaultsAt e before after    == what that refusal says of the source's count of faults
use Rattle.std.specs.Prelude.{◌≡◌, ℕ, ◌+◌, ◌≤◌}
use Rattle.ml_base.specs.declared.whole.ReadRefusal.{ReadRefusal}
use Rattle.ml_base.specs.declared.whole.ReadRefusal.TheVariants.{ReadFault, TooLong, NoMemory}
use Rattle.ml_base.specs.Faults.{Rose}

-- reading stops at the first byte past `max`, and is refused as too long nowhere else
abbrev pub IsGivenCount : ReadRefusal → ℕ → ℕ → Type 0
IsGivenCount ReadFault max n = n ≤ max
IsGivenCount TooLong max n = n ≡ max + 1
IsGivenCount NoMemory max n = n ≤ max

-- a fault only where the count rose, and any other refusal only where the count is as it was
abbrev pub AreFaultsAt : ReadRefusal → ℕ → ℕ → Type 0
AreFaultsAt ReadFault before after = Rose before after
AreFaultsAt TooLong before after = after ≡ before
AreFaultsAt NoMemory before after = after ≡ before
