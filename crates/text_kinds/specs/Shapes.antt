-- Modules and functions at the wrong place, and modules of a wrong form.
use Rattle.std.specs.Prelude.{ℕ, zero, suc, ◌+◌, ◌-◌, ◌==◌, Bool, true, false, not, ◌||◌, ◌&&◌, List, [], ◌∷◌, Option, Some, None, if◌then◌else◌}
use Rattle.line_grammar.specs.Language.{first_at}
use Rattle.text_grammar.specs.declared.places.Place.{Place}
use Rattle.text_grammar.specs.declared.places.Place.TheVariants as places
use Rattle.text_events.specs.declared.event.Event.{Event}
use Rattle.text_scopes.specs.declared.bodies.Class.{Class}
use Rattle.text_scopes.specs.declared.bodies.Class.TheVariants as classes
use Rattle.text_scopes.specs.Bodies.{behind, is_module, outside}
use Rattle.text_kinds.specs.declared.misplaced.Spot.{Spot}
use Rattle.text_kinds.specs.declared.shape.Phase.TheVariants as phases
use Rattle.text_kinds.specs.declared.shape.Shape.{Shape}

-- Operations at the wrong place

-- Functions stand in the body of the module, and nothing else does; a module is the first operation of the file.
abbrev pub may_stand : Spot → Class → Bool
may_stand spot classes.Function = spot.body.within == 0
may_stand spot classes.Module = if spot.body.within == 0 then not spot.begun else false
may_stand spot _ = not (spot.body.within == 0)

abbrev pub misplaces : (ℕ → Class) → Spot → Event → Bool
misplaces class spot e = elim e.place [ places.OpName ↦ not (may_stand spot (class e.name)) | _ ↦ false ]

abbrev pub begins : Bool → Place → Bool
begins begun places.OpName = true
begins begun _ = begun

abbrev pub spot_behind : (ℕ → Class) → Spot → Event → Spot
spot_behind class spot e = record { body = behind class spot.body e; begun = begins spot.begun e.place }

-- the first operation at the wrong place
abbrev pub first_misplaced : (ℕ → Class) → List Event → Option ℕ
first_misplaced class es = first_at (spot_behind class) (misplaces class) (record { body = outside; begun = false }) es

-- The module that is the file's first operation

abbrev pub first_shape : Shape
first_shape = record { phase = phases.Before; place = 0; depth = 0; region = false; block = false; wrong = false; brackets = 0; ended = false }

-- before any operation: one with results is no module of the right form
abbrev pub before_behind : (ℕ → Class) → Shape → Event → Shape
before_behind class s e = elim e.place [
  | places.OpName ↦ if is_module (class e.name) then record s { phase = phases.Named } else record s { phase = phases.Other }
  | places.ResultName ↦ record s { place = s.place + 1; wrong = true }
  | _ ↦ record s { place = s.place + 1 }
]

-- of the module itself: it has no operands, no successors, and one region
abbrev pub header_behind : Shape → Place → Shape
header_behind s places.UseName = record s { wrong = true }
header_behind s places.SuccessorName = record s { wrong = true }
header_behind s places.RegionOpen = record s { depth = 1; region = true; wrong = s.wrong || s.region }
header_behind s places.SignatureColon = record s { wrong = s.wrong || not s.region }
header_behind s places.SignatureArrow = record s { phase = phases.Typed }
header_behind s _ = s

-- of its region: it has one block, without arguments
abbrev pub region_behind : Shape → Place → Shape
region_behind s places.RegionOpen = record s { depth = 2 }
region_behind s places.RegionClose = record s { depth = 0 }
region_behind s places.BlockLabel = record s { block = true; wrong = s.wrong || s.block }
region_behind s places.ArgName = record s { wrong = true }
region_behind s places.OpName = record s { block = true }
region_behind s places.ResultName = record s { block = true }
region_behind s _ = s

-- of what its operations hold
abbrev pub inside_behind : Shape → Place → Shape
inside_behind s places.RegionOpen = record s { depth = s.depth + 1 }
inside_behind s places.RegionClose = record s { depth = s.depth - 1 }
inside_behind s _ = s

abbrev pub named_behind : Shape → Place → Shape
named_behind s place = elim s.depth [ zero ↦ header_behind s place | suc n ↦ elim n [ zero ↦ region_behind s place | suc m ↦ inside_behind s place ] ]

-- the signs of types that stand in pairs
abbrev pub brackets_behind : ℕ → Place → ℕ
brackets_behind n places.ResultsOpen = n + 1
brackets_behind n places.FunctionOpen = n + 1
brackets_behind n places.StructOpen = n + 1
brackets_behind n places.ParametersOpen = n + 1
brackets_behind n places.StructLess = n + 1
brackets_behind n places.ArrayLess = n + 1
brackets_behind n places.LlvmFunctionLess = n + 1
brackets_behind n places.MemrefLess = n + 1
brackets_behind n places.ResultsClose = n - 1
brackets_behind n places.FunctionClose = n - 1
brackets_behind n places.StructClose = n - 1
brackets_behind n places.ParametersClose = n - 1
brackets_behind n places.StructGreater = n - 1
brackets_behind n places.ArrayGreater = n - 1
brackets_behind n places.LlvmFunctionGreater = n - 1
brackets_behind n places.MemrefGreater = n - 1
brackets_behind n _ = n

-- a type may end here, where no sign is open
abbrev pub ends_type : Place → Bool
ends_type places.IntegerWord = true
ends_type places.TypeAlias = true
ends_type places.LlvmPlain = true
ends_type places.StructGreater = true
ends_type places.ArrayGreater = true
ends_type places.LlvmFunctionGreater = true
ends_type places.MemrefGreater = true
ends_type places.ResultsClose = true
ends_type _ = false

-- `()` is no result
abbrev pub is_result : Place → Bool
is_result places.ResultsOpen = false
is_result places.ResultsClose = false
is_result _ = true

-- of its result types, and what comes behind them
abbrev pub typed_behind : Shape → Place → Shape
typed_behind s places.LocWord = record s { phase = phases.Located }
typed_behind s places.TypeAliasName = record s { phase = phases.Behind }
typed_behind s places.AttrAliasName = record s { phase = phases.Behind }
typed_behind s place = record s { wrong = s.wrong || is_result place; brackets = brackets_behind s.brackets place; ended = ends_type place }

abbrev pub located_behind : Shape → Place → Shape
located_behind s places.LocClose = record s { phase = phases.Behind }
located_behind s _ = s

abbrev pub shape_behind : (ℕ → Class) → Shape → Event → Shape
shape_behind class s e = elim s.phase [
  | phases.Before ↦ before_behind class s e
  | phases.Named ↦ named_behind s e.place
  | phases.Typed ↦ typed_behind s e.place
  | phases.Located ↦ located_behind s e.place
  | phases.Behind ↦ s
  | phases.Other ↦ s
]

-- another operation begins, or the module ends and has a wrong form
abbrev pub decides : Shape → Place → Bool
decides s place = elim s.phase [
  | phases.Typed ↦ elim place [ places.OpName ↦ true | places.ResultName ↦ true | places.TypeAliasName ↦ s.wrong | places.AttrAliasName ↦ s.wrong | _ ↦ false ]
  | phases.Located ↦ elim place [ places.LocClose ↦ s.wrong | _ ↦ false ]
  | phases.Behind ↦ elim place [ places.OpName ↦ true | places.ResultName ↦ true | _ ↦ false ]
  | _ ↦ false
]

-- at the end of the events: its types are whole, and it has a wrong form
abbrev pub ends_wrong : Shape → Bool
ends_wrong s = elim s.phase [ phases.Typed ↦ s.wrong && s.ended && (s.brackets == 0) | _ ↦ false ]

-- the name of the module, if it has a wrong form or is not alone
abbrev pub refused_from : (ℕ → Class) → Shape → List Event → Option ℕ
refused_from class s [] = if ends_wrong s then Some s.place else None
refused_from class s (e ∷ es) = if decides s e.place then Some s.place else refused_from class (shape_behind class s e) es

abbrev pub refused_module : (ℕ → Class) → List Event → Option ℕ
refused_module class es = refused_from class first_shape es
