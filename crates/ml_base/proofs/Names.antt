-- Names, taken apart as a reader does: the first byte, and the bytes behind it.
--
--   is_name_parts  == a list of at least one byte is a name by its first byte, by those behind it, and by its length
use Rattle.std.proofs.Common.{◌≡◌, ℕ, ◌≤◌, List, [], ◌∷◌, ◌&&◌, nat_le, length, drop, slice_index, refl, arith}
use Rattle.std.specs.List.{list_all}
use Rattle.std.specs.Char.{is_ascii_alphabetic}
use Rattle.ml_base.specs.Name.{is_name, is_name_byte, longest_name}

pub is_name_parts : (t : List ℕ) → 1 ≤ length t
    → is_name t ≡ (is_ascii_alphabetic (slice_index t 0) && list_all is_name_byte (drop 1 t) && nat_le (length t) longest_name)
is_name_parts [] h = absurd (omega arith)
is_name_parts (b ∷ bs) h = refl
