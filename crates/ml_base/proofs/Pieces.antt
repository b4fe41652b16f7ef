-- Bytes that are given or taken piece after piece, where the source or the sink tells them.
--
--   prepend_known-append  == two pieces before the known bytes are one
--   append_known-append   == two pieces behind the known bytes are one
--   taken_more            == the first bytes of a list, and then some of those behind them, were taken
--   given_more            == the bytes that a buffer is filled with, and then some behind them, were given
use Rattle.std.proofs.Common.{◌≡◌, ℕ, ◌+◌, List, ◌++◌, take, drop, None, Some, Option, refl, sym, ap, ◌∙◌, append_assoc}
use Rattle.std.specs.Io.KnownBytes.{append_known, prepend_known}
use Rattle.std.proofs.Math.Seq.{take-add}

pub prepend_known-append : (xs ys : List ℕ) (known : Option (List ℕ)) → prepend_known xs (prepend_known ys known) ≡ prepend_known (xs ++ ys) known
prepend_known-append xs ys None = refl
prepend_known-append xs ys (Some zs) = ap Some (sym (append_assoc xs ys zs))

pub append_known-append : (known : Option (List ℕ)) (xs ys : List ℕ) → append_known (append_known known xs) ys ≡ append_known known (xs ++ ys)
append_known-append None xs ys = refl
append_known-append (Some zs) xs ys = ap Some (append_assoc zs xs ys)

pub taken_more : (start now next : Option (List ℕ)) (bytes rest : List ℕ) (done count : ℕ)
    → now ≡ append_known start (take done bytes) → rest ≡ drop done bytes → next ≡ append_known now (take count rest)
    → next ≡ append_known start (take (done + count) bytes)
taken_more start now next bytes rest done count before behind more =
    more ∙ ap (λ known. append_known known (take count rest)) before ∙ append_known-append start (take done bytes) (take count rest)
    ∙ ap (λ xs. append_known start (take done bytes ++ take count xs)) behind ∙ ap (append_known start) (sym (take-add done count bytes))

pub given_more : (start now next : Option (List ℕ)) (old new : List ℕ) (filled count : ℕ)
    → start ≡ prepend_known (take filled old) now → take filled new ≡ take filled old → now ≡ prepend_known (take count (drop filled new)) next
    → start ≡ prepend_known (take (filled + count) new) next
given_more start now next old new filled count before same more =
    before ∙ ap (λ xs. prepend_known xs now) (sym same) ∙ ap (prepend_known (take filled new)) more
    ∙ prepend_known-append (take filled new) (take count (drop filled new)) next
    ∙ ap (λ xs. prepend_known xs next) (sym (take-add filled count new))
