-- How long the parts of an item are: each part that stands behind another is shorter.
--
--   one_kind       == the first word of an item is that of one kind at most
--   kind_shortens  == what stands behind the kind is shorter than the item
--   name_shortens  == what stands behind a name is shorter than what stands behind the kind
--   colon_shortens == what stands behind a colon is shorter still
--   kind_fits, name_fits, text_fits == none is longer than the item
use Rattle.std.proofs.Common.{◌≡◌, ℕ, ◌-◌, ◌<◌, ◌≤◌, ◌==◌, if◌then◌else◌, true, List, [], ◌∷◌, length, drop, get_or, refl, sym, ◌∙◌, ap, arith, length-drop, length-take}
use Rattle.std.specs.List.{position_or_len, prefix_len}
use Rattle.ml_text.specs.Bytes.{is_blank}
use Rattle.ml_front.specs.declared.logic.Logic.{Logic}
use Rattle.ml_spec.specs.Items.{ItemText, begins_with_colon, behind_run, behind_word, is_name_byte, without_blanks}
use Rattle.ml_spec.specs.ItemParts.{behind_kind, behind_name, is_good, name_of, text_of, HasKind}
use Rattle.ml_spec.specs.Kinds.{item_word}
use Rattle.ml_spec.specs.declared.kind.ItemKind.{ItemKind}
use Rattle.ml_spec.specs.declared.kind.ItemKind.TheVariants.{Logics, Signals, Enumeration, Definition, Stated}
use Rattle.ml_spec.specs.declared.kind.Kind.TheVariants as kind

blanks_le : (bs : List ℕ) → length (without_blanks bs) ≤ length bs
blanks_le bs = omega (arith, length-drop (prefix_len is_blank bs) bs)

word_le : (bs : List ℕ) → length (behind_word bs) ≤ length bs - position_or_len is_blank bs
word_le bs =
    let n = position_or_len is_blank bs in omega (arith, blanks_le (drop n bs), length-drop n bs)

run_le : (bs : List ℕ) → length (behind_run bs) ≤ length bs - prefix_len is_name_byte bs
run_le bs =
    let n = prefix_len is_name_byte bs in omega (arith, blanks_le (drop n bs), length-drop n bs)

-- the kind whose word begins with this byte
abbrev kind_at : ℕ → ItemKind
kind_at b =
    if b == 108 then Logics else
    if b == 115 then Signals else
    if b == 101 then Enumeration else
    if b == 100 then Definition else
    if b == 114 then Stated kind.Require else
    if b == 112 then Stated kind.Possible else
    Stated kind.Follows

kind_read : (k : ItemKind) → kind_at (get_or (item_word k) 0 0) ≡ k
kind_read Logics = refl
kind_read Signals = refl
kind_read Enumeration = refl
kind_read Definition = refl
kind_read (Stated kind.Require) = refl
kind_read (Stated kind.Possible) = refl
kind_read (Stated kind.Follows) = refl

pub one_kind : (i : ItemText) (k q : ItemKind) → HasKind i k → HasKind i q → k ≡ q
one_kind i k q one other =
    sym (kind_read k) ∙ ap (λ w. kind_at (get_or w 0 0)) (sym one ∙ other) ∙ kind_read q

some_word : (k : ItemKind) → 0 < length (item_word k)
some_word Logics = omega arith
some_word Signals = omega arith
some_word Enumeration = omega arith
some_word Definition = omega arith
some_word (Stated kind.Require) = omega arith
some_word (Stated kind.Possible) = omega arith
some_word (Stated kind.Follows) = omega arith

pub kind_shortens : (i : ItemText) (k : ItemKind) → HasKind i k → length (behind_kind i) < length i.bytes
kind_shortens i k has =
    omega (
      arith,
      some_word k,
      ap length has,
      length-take (position_or_len is_blank i.bytes) i.bytes,
      word_le i.bytes,
    )

some_good : (l : Logic) (k : ItemKind) (w : List ℕ) → is_good l k w ≡ true → 0 < length w
some_good l k (b ∷ bs) is = omega arith
some_good l Logics [] is = cc
some_good l Signals [] is = cc
some_good l Enumeration [] is = cc
some_good l Definition [] is = cc
some_good l (Stated k) [] is = cc

pub name_shortens : (l : Logic) (i : ItemText) (k : ItemKind)
    → is_good l k (name_of i) ≡ true
    → length (behind_name i) < length (behind_kind i)
name_shortens l i k is =
    omega (
      arith,
      some_good l k (name_of i) is,
      length-take (prefix_len is_name_byte (behind_kind i)) (behind_kind i),
      run_le (behind_kind i),
    )

pub colon_shortens : (bs : List ℕ) → begins_with_colon bs ≡ true → length (drop 1 bs) < length bs
colon_shortens [] is = cc
colon_shortens (b ∷ bs) is = omega arith

pub kind_fits : (i : ItemText) → length (behind_kind i) ≤ length i.bytes
kind_fits i = omega (arith, word_le i.bytes)

pub name_fits : (i : ItemText) → length (behind_name i) ≤ length i.bytes
name_fits i = omega (arith, kind_fits i, run_le (behind_kind i))

pub text_fits : (i : ItemText) → length (text_of i) ≤ length i.bytes
text_fits i = omega (arith, name_fits i, length-drop 1 (behind_name i))
