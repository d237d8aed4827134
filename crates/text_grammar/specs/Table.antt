-- The grammar of the generic text: the lines of each part. A line is the place of its first token and what stands behind it; in the comments a place for a sign or a word is that
-- sign or word, a part has a capital letter, and 'or nothing' says that the part may be left out.
use Rattle.std.specs.Prelude.{Bool, true, false, List, [], ◌∷◌, ◌++◌, map}
use Rattle.line_grammar.specs.declared.Symbol.{Symbol}
use Rattle.line_grammar.specs.declared.Symbol.TheVariants as symbols
use Rattle.line_grammar.specs.Grammar.{Line, Grammar}
use Rattle.text_grammar.specs.declared.kinds.Kind.{Kind}
use Rattle.text_grammar.specs.declared.places.Place.{Place}
use Rattle.text_grammar.specs.declared.places.Place.TheVariants as places
use Rattle.text_grammar.specs.declared.parts.Part.{Part}
use Rattle.text_grammar.specs.declared.parts.Part.TheVariants as parts
use Rattle.text_grammar.specs.declared.parts.Row.{Row}
use Rattle.text_grammar.specs.Places.{fits_at}

abbrev pub Wanted : Type 0
Wanted = Symbol Place Part

abbrev pub TextLine : Type 0
TextLine = Line Place Part

abbrev pub at : Place → Wanted
at place = symbols.At place

abbrev pub some : Part → Wanted
some part = symbols.Part part

-- a line of one token
abbrev pub alone : Place → List TextLine
alone place = (place, []) ∷ []

-- the same lines, with this behind each
abbrev pub before : List Wanted → List TextLine → List TextLine
before more lines = map (λ line. (line.0, line.1 ++ more)) lines

-- an operation, and then the part
abbrev pub operation_then : Part → List TextLine
operation_then part =
    -- name OpBody
    (places.OpName, some parts.OpBody ∷ some part ∷ [])
    -- result ResultCount MoreResults name OpBody
    ∷ (places.ResultName, some parts.ResultCount ∷ some parts.MoreResults ∷ at places.OpName ∷ some parts.OpBody ∷ some part ∷ [])
    ∷ []

-- '<' '(' InnerTypes ')' '>'
abbrev pub struct_rest : List Wanted
struct_rest = at places.StructLess ∷ at places.StructOpen ∷ some parts.InnerTypes ∷ at places.StructClose ∷ at places.StructGreater ∷ []

-- '<' number 'x' InnerType '>'
abbrev pub array_rest : List Wanted
array_rest = at places.ArrayLess ∷ at places.ArrayNumber ∷ at places.ArrayX ∷ some parts.InnerType ∷ at places.ArrayGreater ∷ []

-- '<' InnerType '(' InnerTypes ')' '>'
abbrev pub llvm_function_rest : List Wanted
llvm_function_rest =
    at places.LlvmFunctionLess ∷ some parts.InnerType ∷ at places.ParametersOpen ∷ some parts.InnerTypes ∷ at places.ParametersClose ∷ at places.LlvmFunctionGreater ∷ []

-- types that begin with a word or with `!`, where the part says what the element of a memref may be
abbrev pub plain_types : Part → List TextLine
plain_types element =
    -- iN or index
    (places.IntegerWord, [])
    -- an alias
    ∷ (places.TypeAlias, [])
    -- refused: another name with a dot
    ∷ (places.DottedType, [])
    -- '!llvm.ptr' or '!llvm.void'
    ∷ (places.LlvmPlain, [])
    ∷ (places.LlvmStruct, struct_rest)
    ∷ (places.LlvmArray, array_rest)
    ∷ (places.LlvmFunction, llvm_function_rest)
    -- 'memref' '<' Dimensions element MemrefEnd
    ∷ (places.MemrefWord, at places.MemrefLess ∷ some parts.Dimensions ∷ some element ∷ some parts.MemrefEnd ∷ [])
    ∷ []

-- the llvm types without '!llvm.'
abbrev pub short_types : List TextLine
short_types = (places.InnerPlain, []) ∷ (places.InnerStruct, struct_rest) ∷ (places.InnerArray, array_rest) ∷ (places.InnerFunction, llvm_function_rest) ∷ []

-- '(' Types ')' '->' Results
abbrev pub function_type : List TextLine
function_type = (places.FunctionOpen, some parts.Types ∷ at places.FunctionClose ∷ at places.FunctionArrow ∷ some parts.Results ∷ []) ∷ []

-- '(' InnerTypes ')' '->' InnerResults
abbrev pub inner_function_type : List TextLine
inner_function_type = (places.FunctionOpen, some parts.InnerTypes ∷ at places.FunctionClose ∷ at places.FunctionArrow ∷ some parts.InnerResults ∷ []) ∷ []

-- types outside of llvm types, but for function types; refused: a bare identifier that is no type
abbrev pub outer_types : List TextLine
outer_types = plain_types parts.IntegerType ++ alone places.UnsupportedTypeWord

-- the same within llvm types
abbrev pub inner_types : List TextLine
inner_types = plain_types parts.InnerIntegerType ++ short_types ++ alone places.UnsupportedInnerWord

-- 'loc' '(' LocBody ')'
abbrev pub location : List TextLine
location = (places.LocWord, at places.LocOpen ∷ some parts.LocBody ∷ at places.LocClose ∷ []) ∷ []

-- attributes that are no types
abbrev pub own_attributes : List TextLine
own_attributes =
    (places.TextAttr, [])
    -- number NumberType
    ∷ (places.IntegerNumber, some parts.NumberType ∷ [])
    -- '-' number NumberType
    ∷ (places.IntegerMinus, at places.IntegerNumber ∷ some parts.NumberType ∷ [])
    -- 'true' or 'false'
    ∷ (places.BoolWord, [])
    -- '[' Items ']'
    ∷ (places.ItemsOpen, some parts.Items ∷ at places.ItemsClose ∷ [])
    -- '{' Entries '}'
    ∷ (places.AttrDictOpen, some parts.Entries ∷ at places.AttrDictClose ∷ [])
    -- symbol SymbolEnd
    ∷ (places.Symbol, some parts.SymbolEnd ∷ [])
    -- '#' with a dot, DialectWords
    ∷ (places.DialectName, some parts.DialectWords ∷ [])
    -- an alias
    ∷ (places.AttrAlias, [])
    -- 'array' '<' width Numbers '>'
    ∷ (places.NumbersWord, at places.NumbersLess ∷ at places.NumbersWidth ∷ some parts.Numbers ∷ at places.NumbersGreater ∷ [])
    ∷ []

-- attributes; refused: a bare identifier that is none
abbrev pub attributes : List TextLine
attributes = own_attributes ++ plain_types parts.IntegerType ++ function_type ++ alone places.UnsupportedAttrWord

-- use UseIndex MoreUses
abbrev pub uses : List Wanted
uses = some parts.UseIndex ∷ some parts.MoreUses ∷ []

-- ':' Type Loc MoreArgs
abbrev pub argument_rest : List Wanted
argument_rest = at places.ArgColon ∷ some parts.OneType ∷ some parts.Loc ∷ some parts.MoreArgs ∷ []

-- EntryValue MoreEntries
abbrev pub entry_rest : List Wanted
entry_rest = some parts.EntryValue ∷ some parts.MoreEntries ∷ []

-- the lines of each part
abbrev pub lines_of : Part → List TextLine
-- operations and aliases: '!' name '=' Type · '#' name '=' AliasValue
lines_of parts.File =
    operation_then parts.File
    ++ (places.TypeAliasName, at places.TypeAliasEquals ∷ some parts.OneType ∷ some parts.File ∷ [])
    ∷ (places.AttrAliasName, at places.AttrAliasEquals ∷ some parts.AliasValue ∷ some parts.File ∷ []) ∷ []
-- ':' number
lines_of parts.ResultCount = (places.ResultColon, at places.ResultNumber ∷ []) ∷ []
-- '=' · ',' result ResultCount MoreResults
lines_of parts.MoreResults =
    (places.ResultsEquals, [])
    ∷ (places.ResultComma, at places.ResultName ∷ some parts.ResultCount ∷ some parts.MoreResults ∷ []) ∷ []
-- '(' Uses ')' Successors Props Regions Dict ':' '(' Types ')' '->' Results Loc
lines_of parts.OpBody = (
  places.OperandsOpen,
  some parts.Uses ∷ at places.OperandsClose ∷ some parts.Successors ∷ some parts.Props ∷ some parts.Regions ∷ some parts.Dict
      ∷ at places.SignatureColon ∷ at places.SignatureOpen ∷ some parts.Types ∷ at places.SignatureClose ∷ at places.SignatureArrow ∷ some parts.Results ∷ some parts.Loc ∷ [],
) ∷ []
-- use UseIndex MoreUses, or nothing
lines_of parts.Uses = (places.UseName, uses) ∷ []
-- ',' use UseIndex MoreUses, or nothing
lines_of parts.MoreUses = (places.UseComma, at places.UseName ∷ uses) ∷ []
-- '#' number, or nothing
lines_of parts.UseIndex = alone places.UseNumber
-- '[' label MoreSuccessors ']', or nothing
lines_of parts.Successors = (places.SuccessorsOpen, at places.SuccessorName ∷ some parts.MoreSuccessors ∷ at places.SuccessorsClose ∷ []) ∷ []
-- ',' label MoreSuccessors, or nothing
lines_of parts.MoreSuccessors = (places.SuccessorComma, at places.SuccessorName ∷ some parts.MoreSuccessors ∷ []) ∷ []
-- '<' '{' Entries '}' '>', or nothing
lines_of parts.Props = (places.PropsLess, at places.PropsOpen ∷ some parts.Entries ∷ at places.PropsClose ∷ at places.PropsGreater ∷ []) ∷ []
-- '{' Entries '}', or nothing
lines_of parts.Dict = (places.DictOpen, some parts.Entries ∷ at places.DictClose ∷ []) ∷ []
-- '(' Region MoreRegions ')', or nothing
lines_of parts.Regions = (places.RegionsOpen, some parts.Region ∷ some parts.MoreRegions ∷ at places.RegionsClose ∷ []) ∷ []
-- ',' Region MoreRegions, or nothing
lines_of parts.MoreRegions = (places.RegionComma, some parts.Region ∷ some parts.MoreRegions ∷ []) ∷ []
-- '{' Ops Blocks '}'
lines_of parts.Region = (places.RegionOpen, some parts.Ops ∷ some parts.Blocks ∷ at places.RegionClose ∷ []) ∷ []
-- operations, or nothing
lines_of parts.Ops = operation_then parts.Ops
-- label BlockArgs ':' Ops Blocks, or nothing
lines_of parts.Blocks = (places.BlockLabel, some parts.BlockArgs ∷ at places.BlockColon ∷ some parts.Ops ∷ some parts.Blocks ∷ []) ∷ []
-- '(' argument ':' Type Loc MoreArgs ')', or nothing
lines_of parts.BlockArgs = (places.ArgsOpen, at places.ArgName ∷ argument_rest ++ at places.ArgsClose ∷ []) ∷ []
-- ',' argument ':' Type Loc MoreArgs, or nothing
lines_of parts.MoreArgs = (places.ArgComma, at places.ArgName ∷ argument_rest) ∷ []
-- key EntryValue MoreEntries, or nothing
lines_of parts.Entries = (places.EntryName, entry_rest) ∷ []
-- ',' key EntryValue MoreEntries, or nothing
lines_of parts.MoreEntries = (places.EntryComma, at places.EntryName ∷ entry_rest) ∷ []
-- '=' Attr, or nothing
lines_of parts.EntryValue = (places.EntryEquals, some parts.Attr ∷ []) ∷ []
-- 'loc' '(' LocBody ')', or nothing
lines_of parts.Loc = location
-- 'unknown' · string ':' number ':' number · '#' name
lines_of parts.LocBody =
    alone places.LocUnknown
    ++ (places.LocFile, at places.LocLineColon ∷ at places.LocLine ∷ at places.LocColumnColon ∷ at places.LocColumn ∷ [])
    ∷ (places.LocAlias, []) ∷ []
lines_of parts.OneType = outer_types ++ function_type
-- the same with MoreTypes behind, or nothing
lines_of parts.Types = before (some parts.MoreTypes ∷ []) (outer_types ++ function_type)
-- ',' Type MoreTypes, or nothing
lines_of parts.MoreTypes = (places.TypeComma, some parts.OneType ∷ some parts.MoreTypes ∷ []) ∷ []
-- types · '(' Types ')' AfterResults
lines_of parts.Results = outer_types ++ (places.ResultsOpen, some parts.Types ∷ at places.ResultsClose ∷ some parts.AfterResults ∷ []) ∷ []
-- '->' Results, or nothing
lines_of parts.AfterResults = (places.FunctionArrow, some parts.Results ∷ []) ∷ []
-- the same five within llvm types
lines_of parts.InnerType = inner_types ++ inner_function_type
lines_of parts.InnerTypes = before (some parts.MoreInnerTypes ∷ []) (inner_types ++ inner_function_type)
lines_of parts.MoreInnerTypes = (places.TypeComma, some parts.InnerType ∷ some parts.MoreInnerTypes ∷ []) ∷ []
lines_of parts.InnerResults = inner_types ++ (places.ResultsOpen, some parts.InnerTypes ∷ at places.ResultsClose ∷ some parts.AfterInnerResults ∷ []) ∷ []
lines_of parts.AfterInnerResults = (places.FunctionArrow, some parts.InnerResults ∷ []) ∷ []
-- dimension 'x' Dimensions, or nothing
lines_of parts.Dimensions = (places.DimensionSize, at places.DimensionBy ∷ some parts.Dimensions ∷ []) ∷ []
-- '>'; refused: ','
lines_of parts.MemrefEnd = alone places.MemrefGreater ++ alone places.RefusedLayout
-- iN or index · an alias; refused: another name with a dot, and a bare identifier that is no type
lines_of parts.IntegerType = (places.ElementWord, []) ∷ (places.ElementAlias, []) ∷ (places.DottedType, []) ∷ (places.UnsupportedTypeWord, []) ∷ []
lines_of parts.InnerIntegerType = (places.ElementWord, []) ∷ (places.ElementAlias, []) ∷ (places.DottedType, []) ∷ (places.UnsupportedInnerWord, []) ∷ []
lines_of parts.Attr = attributes
-- the same with MoreItems behind, or nothing
lines_of parts.Items = before (some parts.MoreItems ∷ []) attributes
-- ',' Attr MoreItems, or nothing
lines_of parts.MoreItems = (places.ItemComma, some parts.Attr ∷ some parts.MoreItems ∷ []) ∷ []
-- an attribute or a location; refused: a bare identifier that is neither
lines_of parts.AliasValue = own_attributes ++ plain_types parts.IntegerType ++ function_type ++ alone places.UnsupportedAliasWord ++ location
-- ':' IntegerType, or nothing
lines_of parts.NumberType = (places.NumberColon, some parts.IntegerType ∷ []) ∷ []
-- refused: '::', or nothing
lines_of parts.SymbolEnd = alone places.RefusedColons
-- '<' word MoreWords '>', or nothing
lines_of parts.DialectWords = (places.DialectLess, at places.DialectWord ∷ some parts.MoreWords ∷ at places.DialectGreater ∷ []) ∷ []
-- ',' word MoreWords, or nothing
lines_of parts.MoreWords = (places.DialectComma, at places.DialectWord ∷ some parts.MoreWords ∷ []) ∷ []
-- ':' ListNumber MoreNumbers, or nothing
lines_of parts.Numbers = (places.NumbersColon, some parts.ListNumber ∷ some parts.MoreNumbers ∷ []) ∷ []
-- ',' ListNumber MoreNumbers, or nothing
lines_of parts.MoreNumbers = (places.NumbersComma, some parts.ListNumber ∷ some parts.MoreNumbers ∷ []) ∷ []
-- number · '-' number
lines_of parts.ListNumber = alone places.ListedNumber ++ (places.ListedMinus, at places.ListedNumber ∷ []) ∷ []

-- the parts that may be left out: all but these
abbrev pub empty_at : Part → Bool
empty_at parts.MoreResults = false
empty_at parts.OpBody = false
empty_at parts.Region = false
empty_at parts.LocBody = false
empty_at parts.OneType = false
empty_at parts.Results = false
empty_at parts.InnerType = false
empty_at parts.InnerResults = false
empty_at parts.MemrefEnd = false
empty_at parts.IntegerType = false
empty_at parts.InnerIntegerType = false
empty_at parts.Attr = false
empty_at parts.AliasValue = false
empty_at parts.ListNumber = false
empty_at _ = true

abbrev pub generic : Grammar Place Part Kind
generic = record { fits = fits_at; lines = lines_of; empty = empty_at }

-- a row of the table as a line
abbrev pub seen : Row → TextLine
seen row = (row.place, row.rest.now)
