-- What a reader of the code says of the reading of a grammar.
use Rattle.std.specs.Prelude.{◌≡◌, List, Result, Ok, Err, ⊤}
use Rattle.grammar_model.specs.declared.Stop.{Stop}
use Rattle.grammar_model.specs.declared.Stop.TheVariants.{Memory, At}
use Rattle.grammar_model.specs.Syntax.{Syntax}
use Rattle.grammar_model.specs.Expected.{IsExpected}

-- the grammar stops where the code does; want of memory says nothing
abbrev pub StopsAt : {W Y : Type 0} → Stop W → Result Y (List W) → Type 0
StopsAt Memory read = ⊤
StopsAt (At rest) read = read ≡ Err rest.now

-- the answer, seen by `view`, is what the grammar reads
abbrev pub Gives : {W X Y : Type 0} → (X → Y) → Result X (Stop W) → Result Y (List W) → Type 0
Gives view (Ok x) read = read ≡ Ok (view x)
Gives view (Err stop) read = StopsAt stop read

-- a refusal is at the first token that does not fit
abbrev pub StopsExpected : {W K X Y : Type 0} {kind : W → K} → Syntax kind X → List W → Result Y (Stop W) → Type 0
StopsExpected s ts (Ok x) = ⊤
StopsExpected s ts (Err Memory) = ⊤
StopsExpected s ts (Err (At rest)) = IsExpected s ts rest.now
