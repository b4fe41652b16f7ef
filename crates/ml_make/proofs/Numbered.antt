-- States that are numbered breadth first, as rows of next states are read one behind the other.
--
--   run_more        == a run with one number more
--   step_more       == and with the next state of one step more
--   AreMet rows n m == the rows below the place n were read, and the numbers below m were met: in turn, each but 0 in the row
--                      of an earlier one
--   met_none        == before the first row, 0 was met
--   met_more        == with one row more
--   met_all         == where all rows were read, and as many numbers were met, the states are numbered breadth first
--   machine_met     == so with the rows of a machine, as they are read
--   environment_met == and of an environment
--   machine_all, environment_all == and where all of them were read
use Rattle.std.proofs.Common.{ℕ, ◌≡◌, nat_eq, IsTrue, ◌+◌, ◌<◌, ◌≤◌, List, [], ◌∷◌, length, get_or, take, map, refl, ap, subst, sym, ◌∙◌, inr, arith}
use Rattle.std.specs.Global.{Vec}
use Rattle.std.specs.List.{flat_map}
use Rattle.std.proofs.lemmas.Bool.Decides.{nat_tests}
use Rattle.std.proofs.lemmas.List.{get_or-map, length-map, length-take-le, take_all, take_more}
use Rattle.ml_lists.specs.InTurn.{RunsOn}
use Rattle.ml_lists.proofs.InTurn.{runs_append}
use Rattle.ml_lists.proofs.RowsInTurn.{AreFromEarlier, earlier_more, turns_in_order, turns_more}
use Rattle.ml_machine_check.proofs.ReadRows.{row_at}
use Rattle.ml_synthesis.specs.Machines.{MachineTable}
use Rattle.ml_synthesis.specs.Synthesis.{AreInOrder, nexts}
use Rattle.ml_synthesis.specs.declared.machines.MachineStep.{MachineStep}

pub run_more : (start met more : ℕ) (xs : List ℕ) (n : ℕ)
    → n < length xs
    → RunsOn start (take n xs) met
    → RunsOn met (get_or xs n 0 ∷ []) more
    → RunsOn start (take (n + 1) xs) more
run_more start met more xs n low so_far one =
    subst (λ (ys : List ℕ). RunsOn start ys more) (sym (take_more xs n 0 low))
    (runs_append start met more (take n xs) (get_or xs n 0 ∷ []) so_far one)

pub step_more : (start met more : ℕ) (steps : List MachineStep) (n : ℕ) (d : MachineStep)
    → n < length steps
    → RunsOn start (take n (nexts steps)) met
    → RunsOn met ((get_or steps n d).next ∷ []) more
    → RunsOn start (take (n + 1) (nexts steps)) more
step_more start met more steps n d low so_far one =
    let long = length-map steps (λ (x : MachineStep). x.next) in
    run_more start met more (nexts steps) n (omega (arith, long, low)) so_far
    (subst (λ k. RunsOn met (k ∷ []) more) (sym (get_or-map (λ (x : MachineStep). x.next) steps n d 0 low)) one)

pub record AreMet (rows : List (List ℕ)) (n m : ℕ) : Type 0 where
  pub runs : RunsOn 0 (0 ∷ flat_map (λ (r : List ℕ). r) (take n rows)) m
  pub earlier : AreFromEarlier (take n rows) m

pub met_none : (rows : List (List ℕ)) → AreMet rows 0 1
met_none rows = record {
  runs = inr (refl, refl);
  earlier = λ k some low. absurd (omega (arith, some, low));
}

pub met_more : (rows : List (List ℕ)) (n met more : ℕ)
    → n < length rows
    → n < met
    → AreMet rows n met
    → RunsOn met (get_or rows n []) more
    → AreMet rows (n + 1) more
met_more rows n met more low here so_far row =
    let long : length (take n rows) < met = omega (arith, here, length-take-le n rows (omega (arith, low))) in
    record {
      runs =
          subst (λ (rs : List (List ℕ)). RunsOn 0 (0 ∷ flat_map (λ (r : List ℕ). r) rs) more) (sym (take_more rows n [] low))
          (turns_more (take n rows) (get_or rows n []) met more row so_far.runs);
      earlier =
          subst (λ (rs : List (List ℕ)). AreFromEarlier rs more) (sym (take_more rows n [] low))
          (earlier_more (take n rows) (get_or rows n []) met more row long so_far.earlier);
    }

pub met_all : (rows : List (List ℕ)) (n m : ℕ) → length rows ≤ n → m ≡ length rows → AreMet rows n m → AreInOrder rows
met_all rows n m all as_many so_far =
    let is = take_all n rows all in
    turns_in_order rows (length rows) refl
    (subst (λ (rs : List (List ℕ)). RunsOn 0 (0 ∷ flat_map (λ (r : List ℕ). r) rs) (length rows)) is
    (subst (RunsOn 0 (0 ∷ flat_map (λ (r : List ℕ). r) (take n rows))) as_many so_far.runs))
    (subst (λ (rs : List (List ℕ)). AreFromEarlier rs (length rows)) is
    (subst (AreFromEarlier (take n rows)) as_many so_far.earlier))

pub environment_met : (all : List (Vec ℕ)) (rows : List (List ℕ)) (n met more : ℕ) (v : Vec ℕ) (row : List ℕ)
    → map (λ (w : Vec ℕ). w.items) all ≡ rows
    → n < length all
    → v ≡ get_or all n v
    → row ≡ v.items
    → n < met
    → AreMet rows n met
    → RunsOn met row more
    → AreMet rows (n + 1) more
environment_met all rows n met more v row are low is read here so_far runs =
    let long = sym (length-map all (λ (w : Vec ℕ). w.items)) ∙ ap length are in
    met_more rows n met more (omega (arith, long, low)) here so_far
    (subst (λ (r : List ℕ). RunsOn met r more) (read ∙ sym (row_at all rows n v are low is)) runs)

pub machine_met : (all : List (Vec MachineStep)) (m : MachineTable) (n met more : ℕ) (v : Vec MachineStep)
    (row : List MachineStep)
    → map (λ (w : Vec MachineStep). w.items) all ≡ m
    → n < length all
    → v ≡ get_or all n v
    → row ≡ v.items
    → n < met
    → AreMet (map nexts m) n met
    → RunsOn met (nexts row) more
    → AreMet (map nexts m) (n + 1) more
machine_met all m n met more v row are low is read here so_far runs =
    let long = sym (length-map all (λ (w : Vec MachineStep). w.items)) ∙ ap length are in
    let within : n < length m = omega (arith, long, low) in
    let mapped = length-map m nexts in
    met_more (map nexts m) n met more (omega (arith, mapped, within)) here so_far
    (subst (λ (r : List ℕ). RunsOn met r more)
    (ap nexts (read ∙ sym (row_at all m n v are low is)) ∙ sym (get_or-map nexts m n [] [] within)) runs)

same_number : (n m : ℕ) → IsTrue (nat_eq n m) → n ≡ m
same_number n m is = grind (arith, nat_tests)

pub environment_all : (all : List (Vec ℕ)) (rows : List (List ℕ)) (n met : ℕ)
    → map (λ (w : Vec ℕ). w.items) all ≡ rows
    → length all ≤ n
    → AreMet rows n met
    → IsTrue (nat_eq met (length all))
    → AreInOrder rows
environment_all all rows n met are past so_far is =
    let long = sym (length-map all (λ (w : Vec ℕ). w.items)) ∙ ap length are in
    let same = same_number met (length all) is in
    met_all rows n met (omega (arith, long, past)) (same ∙ long) so_far

pub machine_all : (all : List (Vec MachineStep)) (m : MachineTable) (n met : ℕ)
    → map (λ (w : Vec MachineStep). w.items) all ≡ m
    → length all ≤ n
    → AreMet (map nexts m) n met
    → IsTrue (nat_eq met (length all))
    → AreInOrder (map nexts m)
machine_all all m n met are past so_far is =
    let long = sym (length-map all (λ (w : Vec MachineStep). w.items)) ∙ ap length are in
    let mapped = length-map m nexts in
    let same = same_number met (length all) is in
    met_all (map nexts m) n met (omega (arith, mapped, long, past)) (same ∙ long ∙ sym mapped) so_far
