-- The rules at an operation, and the first one broken.
use Rattle.std.specs.Prelude.{◌≡◌, ℕ, zero, suc, ◌<◌, Bool, true, false, List, [], ◌∷◌, ◌++◌, Option, Some, None, ⊤}
use Rattle.plain_tree.specs.Ops.{Op, PlainModule}
use Rattle.rule_model.specs.declared.rules.Rule.{Rule}
use Rattle.rule_model.specs.declared.rules.Rule.TheVariants as rule
use Rattle.rule_model.specs.declared.shapes.Shape.{Shape}
use Rattle.rule_model.specs.Words.{AllOf, AnyOf}
use Rattle.rule_model.specs.Rows.{shape_of}
use Rattle.rule_model.specs.Facts.{Facts, functions, Functions}
use Rattle.rule_model.specs.Types.{operands_fit, results_fit}
use Rattle.rule_model.specs.Parts.{regions_fit, attributes_fit}
use Rattle.rule_model.specs.Control.{successors_fit, terminators_fit}
use Rattle.rule_model.specs.Symbols.{signatures_fit, symbols_fit, names_fit, values_fit}
use Rattle.rule_model.specs.Paths.{Undefined}
use Rattle.rule_model.specs.Chains.{Chain}
use Rattle.rule_model.specs.Sites.{Site, sites}
use Rattle.rule_model.specs.Formed.{Formed}

-- an unregistered operation may have anything here
abbrev pub if_registered : (Shape → Bool) → Option Shape → Bool
if_registered test None = true
if_registered test (Some s) = test s

-- whether an operation keeps a rule that is a test; the two others are no tests
abbrev pub keeps : Functions → Facts → Rule → Bool
keeps c f rule.Operands = if_registered (operands_fit f) (shape_of f.name)
keeps c f rule.Results = if_registered (results_fit f) (shape_of f.name)
keeps c f rule.Regions = if_registered (regions_fit f) (shape_of f.name)
keeps c f rule.Attribute = if_registered (attributes_fit f) (shape_of f.name)
keeps c f rule.Successors = successors_fit f (shape_of f.name)
keeps c f rule.Terminator = terminators_fit f (shape_of f.name)
keeps c f rule.Signature = if_registered (signatures_fit f) (shape_of f.name)
keeps c f rule.Symbol = if_registered (symbols_fit c f) (shape_of f.name)
keeps c f rule.Reserved = if_registered (names_fit f) (shape_of f.name)
keeps c f rule.ValueType = values_fit f
keeps c f rule.Defined = true
keeps c f rule.OwnUse = true

-- an operation of the function f breaks a rule: `Defined` where a use isn't defined there, `OwnUse` where a result uses
-- itself, each other one where its test fails
abbrev pub Breaks : Functions → Op → Site → Rule → Type 0
Breaks c f s rule.Defined = AnyOf (Undefined s.frames) s.operands
Breaks c f s rule.OwnUse = AnyOf (λ v. Chain f v v) s.results
Breaks c f s r = keeps c s.facts r ≡ false

-- the place of a rule in their order
abbrev pub place : Rule → ℕ
place rule.Operands = 0
place rule.Results = 1
place rule.Regions = 2
place rule.Attribute = 3
place rule.Successors = 4
place rule.Terminator = 5
place rule.Signature = 6
place rule.Symbol = 7
place rule.Reserved = 8
place rule.ValueType = 9
place rule.Defined = 10
place rule.OwnUse = 11

-- no rule is broken
unfoldable pub Sound : Functions → Op → Site → Type 0
Sound c f s = (r : Rule) → Breaks c f s r → ⊥

-- a rule is broken, and none before it
unfoldable pub BreaksFirst : Functions → Op → Site → Rule → Type 0
BreaksFirst c f s r = Breaks c f s r × ((q : Rule) → place q < place r → Breaks c f s q → ⊥)

-- no rule is broken in a function
abbrev pub SoundFunction : Functions → Op → Type 0
SoundFunction c f = AllOf (Sound c f) (sites f)

-- the first of these operations that breaks a rule is the n-th, and the first rule that it breaks is r
abbrev pub BrokenAt : Functions → Op → List Site → ℕ → Rule → Type 0
BrokenAt c f [] n r = ⊥
BrokenAt c f (s ∷ ss) zero r = BreaksFirst c f s r
BrokenAt c f (s ∷ ss) (suc n) r = Sound c f s × BrokenAt c f ss n r

-- in a function: the number of the operation, and the rule
abbrev pub BrokenIn : Functions → Op → ℕ → Rule → Type 0
BrokenIn c f n r = BrokenAt c f (sites f) n r

-- the first of these functions of a module in which a rule is broken is the g-th; some stand in front of them
abbrev pub BrokenFrom : (all earlier funcs : List Op) → ℕ → ℕ → Rule → Type 0
BrokenFrom all earlier [] g n r = ⊥
BrokenFrom all earlier (f ∷ fs) zero n r = BrokenIn (functions all earlier) f n r
BrokenFrom all earlier (f ∷ fs) (suc g) n r =
    SoundFunction (functions all earlier) f × BrokenFrom all (earlier ++ f ∷ []) fs g n r

-- the first function in which a rule is broken, the first operation of it, and the first rule
abbrev pub Broken : PlainModule → ℕ → ℕ → Rule → Type 0
Broken m g n r = BrokenFrom m.funcs [] m.funcs g n r

-- no rule is broken in these functions
abbrev pub SoundFrom : (all earlier funcs : List Op) → Type 0
SoundFrom all earlier [] = ⊤
SoundFrom all earlier (f ∷ fs) = SoundFunction (functions all earlier) f × SoundFrom all (earlier ++ f ∷ []) fs

-- a module that is formed, and in which no rule is broken
abbrev pub Verified : PlainModule → Type 0
Verified m = Formed m × SoundFrom m.funcs [] m.funcs
