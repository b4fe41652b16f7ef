-- Items as a reader comes to them.
--
--   items_at text from == the items of the text from this place on, where one may begin
--   item_text i        == the item that the program holds
use Rattle.std.specs.Prelude.{ℕ, true, List, drop}
use Rattle.ml_spec.specs.Items as spec
use Rattle.ml_spec.specs.Items.{items_from}
use Rattle.ml_spec.specs.declared.items.ItemText.{ItemText}

abbrev pub items_at : List ℕ → ℕ → List spec.ItemText
items_at text from = items_from true from (drop from text)

abbrev pub item_text : ItemText → spec.ItemText
item_text i = record { at = i.at; bytes = i.bytes.now }
