-- Names of items, and places that are noted.
--
--   name_bytes text p     == the bytes of a token, but of such a word no more than a name may have
--   noted t text          == the offsets of the items whose places the logic wants, in the order of the text
use Rattle.std.specs.Prelude.{ℕ, ◌-◌, if◌then◌else◌, List, take, drop}
use Rattle.ml_base.specs.Name.{longest_name}
use Rattle.ml_text.specs.declared.token.Placed.{Placed}
use Rattle.ml_text.specs.Items.{SignTable, is_long_word, items, noted_from}

abbrev pub name_size : Placed → ℕ
name_size p = if is_long_word p then longest_name else p.end - p.start

abbrev pub name_bytes : List ℕ → Placed → List ℕ
name_bytes text p = take (name_size p) (drop p.start text)

abbrev pub noted : {Sign Context : Type 0} → SignTable Sign Context → List ℕ → List ℕ
noted t text = noted_from t t.first (items t text)
