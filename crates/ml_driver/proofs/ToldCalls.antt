-- What a call gives back beside its status.
--
--   Begins c x s out == what x says is due for c with s, and out begins with its line
--   begins_of        == so it is of what is told of a command's answer
--   told_with        == a call whose words are a command gives back what that command does
--   read_of          == what was read is given back
--   told_written     == what is said once an output is written is what a call gives back
use Rattle.std.proofs.Common.{◌≡◌, ◌≢◌, ◌++◌, ℕ, true, List, [], Option, Some, None, IfSome, refl, sym, ◌∙◌, ap, subst, inl, inr}
use Rattle.std.proofs.lemmas.List.{append-nil}
use Rattle.std.specs.Io.KnownBytes.{append_known}
use Rattle.ml_driver.specs.Calls.{IsSilent, IsToldIn}
use Rattle.ml_driver.specs.Run.{WasGiven, World, input_limit}
use Rattle.ml_driver.specs.Said.{IsTold, as_line, as_text, is_text, said_text, status_said, with_more}
use Rattle.ml_driver.specs.private.Written.{IsSaidIf}
use Rattle.ml_driver.specs.declared.command.Command.{Command}
use Rattle.ml_driver.specs.declared.said.Said.{Said}
use Rattle.ml_driver.specs.declared.said.Said.TheVariants.{TooLong}
use Rattle.ml_driver.specs.declared.status.Status.{Status}
use Rattle.ml_driver.specs.declared.status.Status.TheVariants.{Yes, No, Undecided, Words, Text, ReadFault, WriteFault, NoMemory}

abbrev pub Begins : Option Command → Option Said → Status → List ℕ → Type 0
Begins c None due output = IsSilent c due
Begins c (Some x) due output = (due ≡ status_said x) × ((rest : List ℕ) × (output ≡ said_text x ++ rest))

silent : (c : Command) (s : Status) → is_text c s ≡ true → IsSilent (Some c) s
silent c Yes is = is
silent c No is = is
silent c Undecided is = is
silent c Words is = is
silent c Text is = is
silent c ReadFault is = tt
silent c WriteFault is = tt
silent c NoMemory is = tt

pub begins_of : (c : Command) (s : Status) (out : List ℕ) (said : Option Said) → IsTold (is_text c) s out said
    → Begins (Some c) said s out
begins_of c s out said (as_text none is) = subst (λ y. Begins (Some c) y s out) (sym none) (silent c s is)
begins_of c s out None (as_line is) = absurd is
begins_of c s out (Some x) (as_line is) = (is.0, ([], is.1 ∙ sym (append-nil (said_text x))))
begins_of c s out None (with_more line rest is more) = absurd is
begins_of c s out (Some x) (with_more line rest is more) = (is.0, (rest, more ∙ ap (λ t. t ++ rest) is.1))

-- a call whose words are a command gives back what that command does
pub told_with : (c e : Option Command) (w : World) (s : Status) (d : Option Command) (input : List ℕ) (said : Option Said)
    → e ≡ c
    → IsToldIn c w s d input said
    → IsToldIn e w s d input said
told_with c e w s d input said same told = subst (λ k. IsToldIn k w s d input said) (sym same) told

-- what was read is given back, whatever is said
pub read_of : (o : Option ℕ) (before after : Option (List ℕ)) (input : List ℕ) (said : Option Said) → WasGiven o before after input
    → IfSome said (λ x. x ≢ TooLong → WasGiven o before after input)
read_of o before after input None given = tt
read_of o before after input (Some x) given = λ short. given

module _ (c : Option Command) (w : World) (d : Option Command) (input output : List ℕ) (due : Status) where
  abbrev pub WasRead : Option Said → Type 0
  WasRead said = IfSome said (λ x. x ≢ TooLong → WasGiven (input_limit c) w.left_before w.left_after input)

  whole : (said : Option Said) → Begins c said due output → d ≡ c → WasRead said
      → w.taken_after ≡ append_known w.taken_before output
      → IsToldIn c w due d input said
  whole None begins same read after = begins
  whole (Some x) begins same read after = record {
    status_is = begins.0;
    of_command = same;
    was_read = read;
    rest = begins.1.0;
    was_taken = after ∙ ap (append_known w.taken_before) begins.1.1;
  }

  pub told_written : (said told : Option Said) (status : Status) → Begins c said due output → d ≡ c → WasRead said
      → IsSaidIf w.taken_before w.taken_after output said due told status
      → IsToldIn c w status d input told
  told_written said told status begins same read (inl x) =
      subst (λ y. IsToldIn c w status d input y) (sym x.1)
      (subst (λ s. IsToldIn c w s d input said) (sym x.0) (whole said begins same read x.2))
  told_written said told status begins same read (inr x) =
      subst (λ y. IsToldIn c w status d input y) (sym x.1)
      (subst (λ s. IsSilent c s) (sym x.0) tt)
