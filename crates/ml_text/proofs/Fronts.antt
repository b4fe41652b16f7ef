-- What is read begins with a sign that its first form takes.
--
--   BeginsWith g q ts == ts begins with a sign that the form q takes
--   begins_with       == what is read of an operand begins with a sign that the first form of its sort takes
use Rattle.std.proofs.Common.{◌≡◌, ℕ, List, [], ◌∷◌, None}
use Rattle.ml_text.specs.Grammar.{Grammar, Whole, More, Part, Level, Operand, Rest, Behind, Reads, alone, joined, postfixed, form, whole, sign, read, inner, opens}

abbrev pub BeginsWith : (g : Grammar) → g.Wait → List g.Sign → Type 0
BeginsWith g q [] = ⊥
BeginsWith g q (t ∷ ts) = g.shift q t ≡ None → ⊥

abbrev pub Begins : (g : Grammar) → Part g → List g.Sign → Type 0
Begins g (Level s l) ts = BeginsWith g (g.start s) ts
Begins g (Operand s) ts = BeginsWith g (g.start s) ts
Begins g (Rest (Whole f)) ts = Unit {0}
Begins g (Rest (More q)) ts = BeginsWith g q ts
Begins g (Behind t turn) ts = turn ≡ None → ⊥

begins : (g : Grammar)
    → {p : Part g} {ts : List g.Sign} {f : g.Tree} {rest : List g.Sign}
    → Reads g p ts f rest
    → Begins g p ts
begins g (alone r) = begins g r
begins g (joined o m is le a b) = begins g a
begins g (postfixed o is makes r) = begins g r
begins g (form r) = begins g r
begins g whole = tt
begins g (sign r) = begins g r
begins g (read r) = λ e. cc
begins g (inner a un b) = λ e. cc
begins g (opens a un b) = λ e. cc

pub begins_with : (g : Grammar)
    → {s : g.Sort} {l : ℕ} {ts rest : List g.Sign} {f : g.Tree}
    → Reads g (Level s l) ts f rest
    → BeginsWith g (g.start s) ts
begins_with g r = begins g r
