-- A meaning has one flag for each state.
--
--   HasFlags n g    == each set that g gives has n flags
--   given_flags     == so the set that a variable means has n flags
--   meaning_flags   == and so has the meaning of each formula
use Rattle.std.proofs.Common.{◌≡◌, ℕ, Bool, true, false, not, List, [], ◌∷◌, length, cond, ◌∙◌}
use Rattle.std.specs.Str.{bytes_eq}
use Rattle.std.proofs.lemmas.List.{length-map, length-replicate}
use Rattle.std.proofs.lemmas.List.FromFn.{length-map-range_with_len}
use Rattle.ml_lists.proofs.Iterates.{iterate_keeps}
use Rattle.ml_base.specs.Structure.{Structure, lists, is_member}
use Rattle.ml_mu.specs.Meaning.{HaveFlags}
use Rattle.ml_mu.specs.Formula.{Formula, Const, Prop, Var, Not, Binary, Modal, Binder, Diamond, Square, Least, Greatest}
use Rattle.ml_text.specs.Operators.{truth_of}
use Rattle.ml_mu.specs.Meaning.{Given, given_set, some_edge, every_edge, first_iterate, meaning}

pub given_flags : (m : Structure) (g : Given) (x : List ℕ) → HaveFlags m.states g → length (given_set m g x) ≡ m.states
given_flags m [] x flags = length-replicate m.states false
given_flags m (g ∷ gs) x flags = by_name (bytes_eq g.0 x) (given_flags m gs x flags.1)
  where
    by_name : (b : Bool) → length (given_set m gs x) ≡ m.states → length (cond b g.1 (given_set m gs x)) ≡ m.states
    by_name true rest = flags.0
    by_name false rest = rest

pub meaning_flags : (m : Structure) (g : Given) (f : Formula) → HaveFlags m.states g → length (meaning m g f) ≡ m.states
meaning_flags m g (Const b) flags = length-map-range_with_len (λ s. b) 0 m.states
meaning_flags m g (Prop p) flags = length-map-range_with_len (λ s. lists m s p) 0 m.states
meaning_flags m g (Var x) flags = given_flags m g x flags
meaning_flags m g (Not f) flags = length-map (meaning m g f) not ∙ meaning_flags m g f flags
meaning_flags m g (Binary op f h) flags =
    length-map-range_with_len (λ s. truth_of op (is_member (meaning m g f) s) (is_member (meaning m g h) s)) 0 m.states
meaning_flags m g (Modal Diamond a f) flags = length-map-range_with_len (some_edge m a (meaning m g f)) 0 m.states
meaning_flags m g (Modal Square a f) flags = length-map-range_with_len (every_edge m a (meaning m g f)) 0 m.states
meaning_flags m g (Binder Least x f) flags =
    iterate_keeps (λ set. length set ≡ m.states) (λ set. meaning m ((x, set) ∷ g) f) (first_iterate m Least) m.states
    (length-replicate m.states false) (λ set long. meaning_flags m ((x, set) ∷ g) f (long, flags))
meaning_flags m g (Binder Greatest x f) flags =
    iterate_keeps (λ set. length set ≡ m.states) (λ set. meaning m ((x, set) ∷ g) f) (first_iterate m Greatest) m.states
    (length-replicate m.states true) (λ set long. meaning_flags m ((x, set) ∷ g) f (long, flags))
