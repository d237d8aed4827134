-- The operations that there are, in the order of their table, each with its shape.
use Rattle.std.specs.Prelude.{ℕ, ◌+◌, Bool, true, false, List, [], ◌∷◌, ◌++◌, get_or, map, Option, Some, None, codes, if◌then◌else◌}
use Rattle.std.specs.Str.{bytes_eq}
use Rattle.std.specs.Option.{option_map}
use Rattle.rule_model.specs.declared.shapes.Shape.{Shape}
use Rattle.rule_model.specs.declared.shapes.Shape.TheVariants.{Module, Recast, FuncFunction, FuncCall, FuncReturn, NumberConstant, FlaggedNumbers, TwoNumbers, CompareNumbers, SelectValues, Widen, NarrowNumber, IndexCast, Branch, BranchOn, If, For, While, Switch, Execute, Yield, Condition, Allocate, Deallocate, LoadElement, StoreElement, TakeSize, TakeRank, MemrefCast, LlvmFunction, LlvmCall, LlvmReturn, IntegerConstant, Unset, FlaggedIntegers, TwoIntegers, CompareIntegers, SelectOwn, NarrowInteger, TakePart, PutPart, MovePointer, LoadInteger, StoreInteger}

-- a name with its shape
abbrev pub Row : Type 0
Row = List ℕ × Shape

-- builtin and func
abbrev pub builtin_rows : List Row
builtin_rows =
    (codes "builtin.module", Module)
    ∷ (codes "builtin.unrealized_conversion_cast", Recast)
    ∷ (codes "func.func", FuncFunction)
    ∷ (codes "func.call", FuncCall)
    ∷ (codes "func.return", FuncReturn)
    ∷ []

abbrev pub arith_rows : List Row
arith_rows =
    (codes "arith.constant", NumberConstant)
    ∷ (codes "arith.addi", FlaggedNumbers)
    ∷ (codes "arith.subi", FlaggedNumbers)
    ∷ (codes "arith.muli", FlaggedNumbers)
    ∷ (codes "arith.shli", FlaggedNumbers)
    ∷ (codes "arith.divsi", TwoNumbers)
    ∷ (codes "arith.divui", TwoNumbers)
    ∷ (codes "arith.remsi", TwoNumbers)
    ∷ (codes "arith.remui", TwoNumbers)
    ∷ (codes "arith.ceildivsi", TwoNumbers)
    ∷ (codes "arith.floordivsi", TwoNumbers)
    ∷ (codes "arith.ceildivui", TwoNumbers)
    ∷ (codes "arith.andi", TwoNumbers)
    ∷ (codes "arith.ori", TwoNumbers)
    ∷ (codes "arith.xori", TwoNumbers)
    ∷ (codes "arith.shrsi", TwoNumbers)
    ∷ (codes "arith.shrui", TwoNumbers)
    ∷ (codes "arith.maxsi", TwoNumbers)
    ∷ (codes "arith.maxui", TwoNumbers)
    ∷ (codes "arith.minsi", TwoNumbers)
    ∷ (codes "arith.minui", TwoNumbers)
    ∷ (codes "arith.cmpi", CompareNumbers)
    ∷ (codes "arith.select", SelectValues)
    ∷ (codes "arith.extsi", Widen)
    ∷ (codes "arith.extui", Widen)
    ∷ (codes "arith.trunci", NarrowNumber)
    ∷ (codes "arith.index_cast", IndexCast)
    ∷ (codes "arith.index_castui", IndexCast)
    ∷ []

abbrev pub control_rows : List Row
control_rows =
    (codes "cf.br", Branch)
    ∷ (codes "cf.cond_br", BranchOn)
    ∷ (codes "scf.if", If)
    ∷ (codes "scf.for", For)
    ∷ (codes "scf.while", While)
    ∷ (codes "scf.index_switch", Switch)
    ∷ (codes "scf.execute_region", Execute)
    ∷ (codes "scf.yield", Yield)
    ∷ (codes "scf.condition", Condition)
    ∷ []

abbrev pub memref_rows : List Row
memref_rows =
    (codes "memref.alloc", Allocate)
    ∷ (codes "memref.dealloc", Deallocate)
    ∷ (codes "memref.load", LoadElement)
    ∷ (codes "memref.store", StoreElement)
    ∷ (codes "memref.dim", TakeSize)
    ∷ (codes "memref.rank", TakeRank)
    ∷ (codes "memref.cast", MemrefCast)
    ∷ []

abbrev pub llvm_rows : List Row
llvm_rows =
    (codes "llvm.func", LlvmFunction)
    ∷ (codes "llvm.call", LlvmCall)
    ∷ (codes "llvm.return", LlvmReturn)
    ∷ (codes "llvm.br", Branch)
    ∷ (codes "llvm.cond_br", BranchOn)
    ∷ (codes "llvm.mlir.constant", IntegerConstant)
    ∷ (codes "llvm.mlir.undef", Unset)
    ∷ (codes "llvm.add", FlaggedIntegers)
    ∷ (codes "llvm.sub", FlaggedIntegers)
    ∷ (codes "llvm.mul", FlaggedIntegers)
    ∷ (codes "llvm.shl", FlaggedIntegers)
    ∷ (codes "llvm.sdiv", TwoIntegers)
    ∷ (codes "llvm.udiv", TwoIntegers)
    ∷ (codes "llvm.srem", TwoIntegers)
    ∷ (codes "llvm.urem", TwoIntegers)
    ∷ (codes "llvm.and", TwoIntegers)
    ∷ (codes "llvm.or", TwoIntegers)
    ∷ (codes "llvm.xor", TwoIntegers)
    ∷ (codes "llvm.ashr", TwoIntegers)
    ∷ (codes "llvm.lshr", TwoIntegers)
    ∷ (codes "llvm.icmp", CompareIntegers)
    ∷ (codes "llvm.select", SelectOwn)
    ∷ (codes "llvm.sext", Widen)
    ∷ (codes "llvm.zext", Widen)
    ∷ (codes "llvm.trunc", NarrowInteger)
    ∷ (codes "llvm.extractvalue", TakePart)
    ∷ (codes "llvm.insertvalue", PutPart)
    ∷ (codes "llvm.getelementptr", MovePointer)
    ∷ (codes "llvm.load", LoadInteger)
    ∷ (codes "llvm.store", StoreInteger)
    ∷ []

abbrev pub rows : List Row
rows = builtin_rows ++ arith_rows ++ control_rows ++ memref_rows ++ llvm_rows

-- the shape of the operation of this name, none where it is unregistered
abbrev pub shape_in : List ℕ → List Row → Option Shape
shape_in name [] = None
shape_in name (r ∷ rs) = if bytes_eq r.0 name then Some r.1 else shape_in name rs

abbrev pub shape_of : List ℕ → Option Shape
shape_of name = shape_in name rows

-- the place of the name in the table
abbrev pub place_in : List ℕ → List Row → Option ℕ
place_in name [] = None
place_in name (r ∷ rs) = if bytes_eq r.0 name then Some 0 else option_map (λ n. n + 1) (place_in name rs)

abbrev pub place_of : List ℕ → Option ℕ
place_of name = place_in name rows

-- the shapes that end a block
abbrev pub ends_block : Shape → Bool
ends_block FuncReturn = true
ends_block LlvmReturn = true
ends_block Branch = true
ends_block BranchOn = true
ends_block Yield = true
ends_block Condition = true
ends_block _ = false

abbrev pub ends_block_as : Option Shape → Bool
ends_block_as None = false
ends_block_as (Some s) = ends_block s

-- whether an operation of this name is a terminator: an unregistered one is none
abbrev pub is_terminator : List ℕ → Bool
is_terminator name = ends_block_as (shape_of name)

-- the shape at a place of the table
abbrev pub shapes : List Shape
shapes = map (λ r. r.1) rows

abbrev pub shape_at : ℕ → Shape
shape_at n = get_or shapes n Module
