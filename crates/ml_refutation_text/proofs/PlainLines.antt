-- Lines that are good have neither a blank nor an LF in their words.
--
--   kinds_plain, place_plain == a line of a kind whose fixed words are plain is plain
--   run_plain          == so are good lines one behind the other, where nothing may stand behind the last one
use Rattle.std.proofs.Common.{◌≡◌, ℕ, ◌<◌, Bool, false, List, [], ◌∷◌, length, All, codes, refl, ap, ◌∙◌, inl, inr, arith}
use Rattle.std.proofs.lemmas.List.Elements.{All-head, All-tail}
use Rattle.ml_base.specs.declared.version.Version.{Version}
use Rattle.ml_lines.specs.Lines.{Word, Line}
use Rattle.ml_lines.specs.Reading.{IsNumber}
use Rattle.ml_lines.proofs.PlainWords.{digits_without}
use Rattle.ml_lines.proofs.PlainWords as plain_words
use Rattle.ml_lines.proofs.Unique.{has, avoids, IsPlain, ArePlain}
use Rattle.ml_lists.specs.Documents.{IsGood}
use Rattle.ml_refutation_text.specs.BodyRules.{Form, InFull, ByTables}
use Rattle.ml_refutation_text.specs.LineKinds.{Slot, Fixed, ANumber, AGuess, AnySize, Kind, InSlot, FitsSlot, InSlots, FitSlots, IsOfKind, HasNumbers, IsOfKinds, HaveNumbers}
use Rattle.ml_refutation_text.specs.BodyRules.{Place, AtNames, AtSequents, AtTableSequent, AtStacks, AtTableStack, AtEntries, AtEntry, AtSequent}
use Rattle.ml_refutation_text.specs.BodyRules.{AtLive, AtItem, AtDecision, AtEnd, AtNothing, entry_kind, item_kind, after, body, kinds}
use Rattle.ml_lists.specs.Readings.{Runs}

-- ---- words

module _ (c : ℕ) (small : c < 48) (no_dash : has c (codes "-") ≡ false) where
  number_without : (w : Word) → IsNumber w → has c w ≡ false
  number_without w (n, fits, is) =
      ap (has c) is ∙ plain_words.number_without c small n (omega (arith, fits))

  -- the fixed word of a slot hasn't the byte
  abbrev pub SlotWithout : Slot → Type 0
  SlotWithout (Fixed word) = has c word ≡ false
  SlotWithout ANumber = Unit {0}
  SlotWithout AGuess = Unit {0}
  SlotWithout AnySize = Unit {0}

  abbrev pub SlotsWithout : List Slot → Type 0
  SlotsWithout [] = Unit {0}
  SlotsWithout (slot ∷ slots) = SlotWithout slot × SlotsWithout slots

  slot_without : (slot : Slot) (w : Word) → SlotWithout slot → InSlot slot w → FitsSlot slot w → has c w ≡ false
  slot_without (Fixed word) w none is fits = ap (has c) is ∙ none
  slot_without ANumber w none is fits = number_without w fits
  slot_without AGuess w none is (inl dash) = ap (has c) dash ∙ no_dash
  slot_without AGuess w none is (inr fits) = number_without w fits
  slot_without AnySize w none is (n, spells) = digits_without c small w spells.digits

  numbers_without : (line : Line) → All IsNumber line → avoids c line
  numbers_without [] all = tt
  numbers_without (w ∷ line) all =
      (number_without w (All-head IsNumber w line all), numbers_without line (All-tail IsNumber w line all))

  slots_without : (further : Bool) (slots : List Slot) (line : Line) → SlotsWithout slots → InSlots further slots line
      → FitSlots slots line → avoids c line
  slots_without further [] line none is fits = numbers_without line fits
  slots_without further (slot ∷ slots) [] none is fits = absurd is
  slots_without further (slot ∷ slots) (w ∷ line) none is fits =
      (slot_without slot w none.0 is.0 fits.0, slots_without further slots line none.1 is.1 fits.1)

-- ---- kinds

-- a kind has a slot, and its fixed words have neither a blank nor an LF
pub record IsPlainKind (k : Kind) : Type 0 where
  pub some : 0 < length k.slots
  pub no_blank : SlotsWithout 32 (omega arith) refl k.slots
  pub no_end : SlotsWithout 10 (omega arith) refl k.slots

kind_plain : (k : Kind) (line : Line) → IsPlainKind k → IsOfKind k line → HasNumbers k line → IsPlain line
kind_plain k [] plain is fits = go k.slots plain.some is.1
  where
    go : (slots : List Slot) → 0 < length slots → InSlots k.further slots [] → IsPlain []
    go [] some in_slots = absurd (omega (arith, some))
    go (slot ∷ slots) some in_slots = absurd in_slots
kind_plain k (w ∷ line) plain is fits = (
  slots_without 32 (omega arith) refl k.further k.slots (w ∷ line) plain.no_blank is.1 fits,
  slots_without 10 (omega arith) refl k.further k.slots (w ∷ line) plain.no_end is.1 fits,
)

abbrev pub ArePlainKinds : List Kind → Type 0
ArePlainKinds [] = Unit {0}
ArePlainKinds (k ∷ ks) = IsPlainKind k × ArePlainKinds ks

pub kinds_plain : (ks : List Kind) (line : Line)
    → ArePlainKinds ks
    → IsOfKinds ks line
    → HaveNumbers ks line
    → IsPlain line
kinds_plain [] line plain is fits = absurd is
kinds_plain (k ∷ ks) line plain (inl here) fits = kind_plain k line plain.0 here (fits.0 here)
kinds_plain (k ∷ ks) line plain (inr later) fits = kinds_plain ks line plain.1 later fits.1

-- ---- places

entry_plain : (form : Form) → IsPlainKind (entry_kind form)
entry_plain InFull = record { some = omega arith; no_blank = (refl, (tt, tt)); no_end = (refl, (tt, tt)) }
entry_plain (ByTables qs ks) =
    record { some = omega arith; no_blank = (refl, (tt, (tt, tt))); no_end = (refl, (tt, (tt, tt))) }

item_plain : (form : Form) → IsPlainKind (item_kind form)
item_plain InFull =
    record { some = omega arith; no_blank = (refl, (tt, (tt, (tt, tt)))); no_end = (refl, (tt, (tt, (tt, tt)))) }
item_plain (ByTables qs ks) =
    record { some = omega arith; no_blank = (refl, (tt, (tt, (tt, tt)))); no_end = (refl, (tt, (tt, (tt, tt)))) }

pub place_plain : (p : Place) → ArePlainKinds (kinds p)
place_plain AtNames = (record { some = omega arith; no_blank = (refl, (tt, tt)); no_end = (refl, (tt, tt)) }, tt)
place_plain (AtSequents n) = (record { some = omega arith; no_blank = (refl, (tt, tt)); no_end = (refl, (tt, tt)) }, tt)
place_plain (AtTableSequent n size rows) =
    (record { some = omega arith; no_blank = (refl, tt); no_end = (refl, tt) }, tt)
place_plain (AtStacks n qs) =
    (record { some = omega arith; no_blank = (refl, (tt, tt)); no_end = (refl, (tt, tt)) }, tt)
place_plain (AtTableStack n qs size rows) =
    (record { some = omega arith; no_blank = (refl, (tt, tt)); no_end = (refl, (tt, tt)) }, tt)
place_plain (AtEntries n form) =
    (record { some = omega arith; no_blank = (refl, (tt, tt)); no_end = (refl, (tt, tt)) }, tt)
place_plain (AtEntry k es) = (entry_plain k.form, tt)
place_plain (AtSequent k es) = (record { some = omega arith; no_blank = (refl, tt); no_end = (refl, tt) }, tt)
place_plain (AtLive k es q) =
    (record { some = omega arith; no_blank = (refl, (tt, tt)); no_end = (refl, (tt, tt)) }, tt)
place_plain (AtItem k es q traces) =
    (item_plain k.form, (record { some = omega arith; no_blank = (refl, tt); no_end = (refl, tt) }, tt))
place_plain (AtDecision k es b around) = (
  record { some = omega arith; no_blank = (refl, (tt, tt)); no_end = (refl, (tt, tt)) },
  (
    record { some = omega arith; no_blank = (refl, (refl, (tt, tt))); no_end = (refl, (refl, (tt, tt))) },
    (
      record { some = omega arith; no_blank = (refl, (refl, (tt, (tt, tt)))); no_end = (refl, (refl, (tt, (tt, tt)))) },
      (
        record { some = omega arith; no_blank = (refl, (refl, (tt, tt))); no_end = (refl, (refl, (tt, tt))) },
        (
          record {
            some = omega arith;
            no_blank = (refl, (tt, (tt, (refl, (tt, tt)))));
            no_end = (refl, (tt, (tt, (refl, (tt, tt)))));
          },
          (
            record {
              some = omega arith;
              no_blank = (refl, (tt, (tt, (refl, (tt, tt)))));
              no_end = (refl, (tt, (tt, (refl, (tt, tt)))));
            },
            (
              record {
                some = omega arith;
                no_blank = (refl, (tt, (tt, (refl, tt))));
                no_end = (refl, (tt, (tt, (refl, tt))));
              },
              tt,
            ),
          ),
        ),
      ),
    ),
  ),
)
place_plain (AtEnd r) = (record { some = omega arith; no_blank = (refl, tt); no_end = (refl, tt) }, tt)
place_plain (AtNothing r) = tt

module _ (v : Version) (b : ℕ) (bs : List ℕ) where
  -- where something is left behind the last LF, nothing is good at the end
  good_plain : (p : Place) (line : Line) → IsGood (body v (b ∷ bs)) p line → IsPlain line
  good_plain AtNames line good = kinds_plain (kinds AtNames) line (place_plain AtNames) good.0 good.1.0
  good_plain (AtSequents n) line good =
      kinds_plain (kinds (AtSequents n)) line (place_plain (AtSequents n)) good.0 good.1.0
  good_plain (AtTableSequent n size rows) line good =
      kinds_plain (kinds (AtTableSequent n size rows)) line (place_plain (AtTableSequent n size rows)) good.0 good.1.0
  good_plain (AtStacks n qs) line good =
      kinds_plain (kinds (AtStacks n qs)) line (place_plain (AtStacks n qs)) good.0 good.1.0
  good_plain (AtTableStack n qs size rows) line good =
      kinds_plain (kinds (AtTableStack n qs size rows)) line (place_plain (AtTableStack n qs size rows)) good.0 good.1.0
  good_plain (AtEntries n form) line good =
      kinds_plain (kinds (AtEntries n form)) line (place_plain (AtEntries n form)) good.0 good.1.0
  good_plain (AtEntry k es) line good =
      kinds_plain (kinds (AtEntry k es)) line (place_plain (AtEntry k es)) good.0 good.1.0
  good_plain (AtSequent k es) line good =
      kinds_plain (kinds (AtSequent k es)) line (place_plain (AtSequent k es)) good.0 good.1.0
  good_plain (AtLive k es q) line good =
      kinds_plain (kinds (AtLive k es q)) line (place_plain (AtLive k es q)) good.0 good.1.0
  good_plain (AtItem k es q traces) line good =
      kinds_plain (kinds (AtItem k es q traces)) line (place_plain (AtItem k es q traces)) good.0 good.1.0
  good_plain (AtDecision k es e around) line good =
      kinds_plain (kinds (AtDecision k es e around)) line (place_plain (AtDecision k es e around)) good.0 good.1.0
  good_plain (AtEnd r) line good = kinds_plain (kinds (AtEnd r)) line (place_plain (AtEnd r)) good.0 good.1.0
  good_plain (AtNothing r) line good = let apart = good.0.1 in absurd (cc)

  pub run_plain : (p q : Place) (lines : List Line) → Runs (body v (b ∷ bs)) p lines q → ArePlain lines
  run_plain p q [] run = tt
  run_plain p q (line ∷ lines) run = (good_plain p line run.0, run_plain (after v p line) q lines run.1)
