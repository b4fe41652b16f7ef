use Rattle.std.proofs.Common.{ℕ, ◌≡◌, ◌<◌, ◌∙◌, List, ◌++◌, Result, Ok, Err, IfOk, OnOk, ap, get_or, length, refl, sym, subst, take, arith}
use Rattle.std.proofs.Math.Seq.{take-append_seam}
use Rattle.std.specs.Global.{Vec}
use Rattle.ml_base.specs.Structure.{Structure}
use Rattle.ml_bisim.specs.declared.partition.Partition.{Partition}
use Rattle.ml_bisim.specs.private.Rounds.{AreKept, AreNames, AreRenamed, AreSet, HasMembers, IsCut, rows}
use Rattle.ml_bisim.specs.private.Signatures.{AreParts}
use Rattle.ml_bisim.proofs.Splits.{one_class, one_part}
use Rattle.ml_bisim.proofs.Turns.{all_low}
use Rattle.ml_bisim.proofs.rounds.name_parts.Goals as goal

pub keep-requires-clause-numbers : goal.keep-requires-clause-numbers
keep-requires-clause-numbers c = all_low c.args.parts.now.count c.args.parts.now.numbers.items c.requires.parts.in_turn

pub names-requires-clause-one_class : goal.names-requires-clause-one_class
names-requires-clause-one_class c =
    let m = c.args._structure.now in
    let ns = c.args.parts.now.numbers.items in
    let n = c.args.parts.now.count in
    one_class m c.deref-2.result.now c.args.states.now ns n
    (subst (λ cl. AreParts m cl c.args.states.now ns n) (sym c.deref-2.ensures.value) c.requires.parts)

pub rename-requires-clause-one_part : goal.rename-requires-clause-one_part
rename-requires-clause-one_part c =
    let states = c.args.states.now in
    subst (λ xs. (i j : ℕ) → i < length states → j < length states → get_or states i 0 ≡ get_or states j 0
    → get_or xs i 0 ≡ get_or xs j 0) (sym c.deref-3.ensures.value)
    (one_part c.args._structure.now c.args.partition.now.class.items states c.args.parts.now.numbers.items
    c.args.parts.now.count c.requires.parts)

cut_where_ok : {E : Type 0} (m : Structure) (p q : Partition) (states ns keeper names : List ℕ) (count new first : ℕ)
    → AreParts m p.class.items states ns count
    → AreKept p.class.items states ns keeper first
    → AreNames p.class.items states ns keeper names (length p.members.items) new
    → (r : Result (Vec ℕ) E)
    → IfOk r (λ renamed. AreRenamed p.class.items states ns names first (length p.class.items) q.class.items renamed.items)
    → OnOk r (AreSet p.is_settled.items states first q.is_settled.items)
    → OnOk r (HasMembers q.class.items (length p.class.items) (rows q.members.items))
    → OnOk r (length q.keeper.items ≡ length q.members.items)
    → IfOk r (λ renamed. IsCut m p states first q renamed.items)
cut_where_ok m p q states ns keeper names count new first parts kept named (Err x) are set has keepers = tt
cut_where_ok m p q states ns keeper names count new first parts kept named (Ok renamed) are set has keepers = record {
  ns = ns;
  count = count;
  keeper = keeper;
  names = names;
  new = new;
  parts = parts;
  kept = kept;
  named = named;
  are_renamed = are;
  set = set;
  members = has;
  keepers = keepers;
}

keepers_where_ok : {E : Type 0} (p q : Partition) (r : Result (Vec ℕ) E) (keeper : List ℕ) (members : List (Vec ℕ))
    → OnOk r (q.keeper.items ≡ keeper)
    → OnOk r (length q.members.items ≡ length members)
    → length keeper ≡ length members
    → OnOk r (length q.keeper.items ≡ length q.members.items)
keepers_where_ok p q (Err x) keeper members a b same = tt
keepers_where_ok p q (Ok x) keeper members same_keepers same_members same = ap length same_keepers ∙ same ∙ sym same_members

-- what was written through a slice of a vector
as_written : (class states ns names : List ℕ) (old new k : ℕ) (keeper ys : List ℕ)
    → k ≡ length keeper
    → AreNames class states ns (take k (keeper ++ ys)) names old new
    → AreNames class states ns keeper names old new
as_written class states ns names old new k keeper ys all_keepers named =
    subst (λ ks. AreNames class states ns ks names old new)
    (ap (λ n. take n (keeper ++ ys)) all_keepers ∙ take-append_seam keeper ys) named

pub returns : goal.returns
returns c =
    let p = c.args.partition.now in
    let class = p.class.items in
    let states = c.args.states.now in
    let ns = c.args.parts.now.numbers.items in
    let first = c.args.first in
    let names = c.in_ok-names.names.items in
    let keeper = c.keep.new.keeper in
    let old = length p.members.items in
    let new = length c.names.new.members.items in
    let q = c.rename.new.partition in
    let kept = subst (λ cl. AreKept cl states ns keeper first) c.deref.ensures.value c.in_ok-keep.ensures.kept in
    let named =
    subst (λ cl. AreNames cl states ns keeper names old new) c.deref-2.ensures.value
    (as_written c.deref-2.result.now states ns names old new p.keeper.len keeper _
    (omega (arith, c.in_ok-keep.ensures.each_class, c.deref_mut.ensures.len)) c.in_ok-names.ensures.names) in
    let renamed =
    subst (λ xs. IfOk c.rename.result (λ renamed. AreRenamed class states xs names first (length class) q.class.items
    renamed.items)) c.deref-3.ensures.value
    (subst (λ xs. IfOk c.rename.result (λ renamed. AreRenamed class states c.deref-3.result.now xs first (length class)
    q.class.items renamed.items)) c.deref-4.ensures.value c.rename.ensures.renamed) in
    cut_where_ok c.args._structure.now p q states ns keeper names c.args.parts.now.count new first c.requires.parts kept named
    c.rename.result renamed c.rename.ensures.flags c.rename.ensures.members
    (keepers_where_ok p q c.rename.result c.names.new.keeper.items c.names.new.members.items c.rename.ensures.keepers
    c.rename.ensures.each_class c.in_ok-names.ensures.keepers)
