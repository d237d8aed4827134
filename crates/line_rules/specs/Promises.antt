-- What the laws on lines promise.
use Rattle.std.specs.Prelude.{◌≡◌, ℕ, true, List, ⊤}
use Rattle.plain_tree.specs.Ops.{Kind, Op, op, Regions, Values}
use Rattle.plain_tree.specs.Values.{types_of}
use Rattle.rule_model.specs.Facts.{Functions}
use Rattle.rule_model.specs.Chains.{Chain}
use Rattle.rule_model.specs.Formed.{is_formed_function}
use Rattle.rule_model.specs.Scopes.{DefinedFunction}
use Rattle.conversion_model.specs.Targets.{operands_of}
use Rattle.conversion_model.specs.Conversion.{Supply}
use Rattle.conversion_model.specs.Counts.{DefinesOnce}
use Rattle.conversion_model.specs.Fresh.{Fresh, IsOld}
use Rattle.line_rules.specs.Fits.{LineFits}
use Rattle.line_rules.specs.Kept.{KeptFunction}
use Rattle.line_rules.specs.Lines.{Line, LinedRegions, LineKeeps, LineRanks, operands_regions, Turn, TurnKeeps, TurnRanks}

-- any operation may stay
abbrev pub AnyStays : ℕ → Op → Type 0
AnyStays n o = ⊤

-- what may stand for an operation, by what numbers it uses and defines
abbrev pub OldLine : Supply → ℕ → Op → List Op → Type 0
OldLine new n o l = Line (IsOld new) o l

abbrev pub OldTurn : Supply → ℕ → Op → List Op → Op → Type 0
OldTurn new n o l t = Turn (IsOld new) o l t

-- A function in whose regions operations are replaced by lines keeps rule `Defined`.
abbrev pub LinesKeepDefined : Type 0
LinesKeepDefined = (new : Supply) (k : Kind) (rs : Values) (os ls : List ℕ) (r s : Regions) → LinedRegions AnyStays (OldLine new) (OldTurn new) 1 r s → Fresh new (op k rs os r ls) → DefinedFunction (op k rs os r ls) → DefinedFunction (op k rs os s ls)

-- by the values that it keeps, too
abbrev pub KeepingLine : Supply → ℕ → Op → List Op → Type 0
KeepingLine new n o l = OldLine new n o l × LineKeeps o l

abbrev pub KeepingTurn : Supply → ℕ → Op → List Op → Op → Type 0
KeepingTurn new n o l t = OldTurn new n o l t × TurnKeeps o l t

-- It stays formed, where it defines each number once.
abbrev pub LinesKeepFormed : Type 0
LinesKeepFormed = (new : Supply) (k : Kind) (rs : Values) (os ls : List ℕ) (r s : Regions) → LinedRegions AnyStays (KeepingLine new) (KeepingTurn new) 1 r s → DefinesOnce (op k rs os s ls)
    → is_formed_function (op k rs os r ls) ≡ true → is_formed_function (op k rs os s ls) ≡ true

-- by the order of its new values, in a function with these regions
abbrev pub RankedLine : Supply → Regions → ℕ → Op → List Op → Type 0
RankedLine new r n o l = LineRanks (new.value n 0) o l × (operands_regions 1 r n ≡ operands_of o)

abbrev pub RankedTurn : Supply → Regions → ℕ → Op → List Op → Op → Type 0
RankedTurn new r n o l t = TurnRanks (new.value n 0) o l t × (operands_regions 1 r n ≡ operands_of o)

-- No value uses itself.
abbrev pub LinesKeepOwn : Type 0
LinesKeepOwn = (new : Supply) (k : Kind) (rs : Values) (os ls : List ℕ) (r s : Regions) → LinedRegions AnyStays (RankedLine new r) (RankedTurn new r) 1 r s → Fresh new (op k rs os r ls)
    → ((v : ℕ) → Chain (op k rs os r ls) v v → ⊥) → (v : ℕ) → Chain (op k rs os s ls) v v → ⊥

-- by its operations, which fit
abbrev pub FittingLine : Supply → Op → ℕ → Op → List Op → Type 0
FittingLine new f n o l = OldLine new n o l × LineKeeps o l × LineFits (types_of f) o l

abbrev pub NoTurn : ℕ → Op → List Op → Op → Type 0
NoTurn n o l t = ⊥

-- It keeps the rules that are tests, where terminators stay.
abbrev pub LinesKeepTests : Type 0
LinesKeepTests = (new : Supply) (c : Functions) (k : Kind) (rs : Values) (os ls : List ℕ) (r s : Regions) → LinedRegions AnyStays (FittingLine new (op k rs os r ls)) NoTurn 1 r s → DefinesOnce (op k rs os s ls)
    → is_formed_function (op k rs os r ls) ≡ true → KeptFunction c (op k rs os r ls) → KeptFunction c (op k rs os s ls)
