-- The form of each operation, by its name, its properties and its types.
use Rattle.std.specs.Prelude.{ℕ, zero, suc, nat_lt, List, [], ◌∷◌, ◌++◌, map, length, Option, Some, None, codes, if◌then◌else◌}
use Rattle.std.specs.Option.{option_map, unwrap_or}
use Rattle.std.specs.Str.{bytes_eq}
use Rattle.tree_model.specs.declared.type_tree.TypeTree.{TypeTree}
use Rattle.number_model.specs.Numbers.{unsigned, wrapped}
use Rattle.number_model.specs.Arithmetic.{Flags, no_flags, Binary, Add, Subtract, Multiply, ShiftLeft, Divide, DivideUnsigned, Remainder, RemainderUnsigned, DivideUp, DivideDown, DivideUpUnsigned, And, Or, Xor, ShiftRight, ShiftRightUnsigned, Greater, GreaterUnsigned, Less, LessUnsigned, Resize, ExtendSigned, Extend, Truncate, Keep}
use Rattle.operation_model.specs.Values.{Integer}
use Rattle.operation_model.specs.Pures.{Pure, Known, TwoNumbers, Compares, Resizes, Selects, Moves, TakesPart, PutsPart, MovesPointer, HasSizes, TakesSize}
use Rattle.operation_model.specs.Calling.{Bare, packing_of}
use Rattle.operation_model.specs.Straight.{byte_size}
use Rattle.form_model.specs.Types.{width_of, Memref, memref_of, shape_of, unset_of, become_same}
use Rattle.form_model.specs.Properties.{Entries, if_some, integer_of, numbers_of, symbol_of, type_of, flags_of, position_of, counts_of, comparison_of, alignment_of}
use Rattle.operation_model.specs.Forms.{Form, Computes, Branch, BranchOn, Call, Return, Load, Store, Allocate, AllocateAligned, Free, NewMemref, EndMemref, LoadElement, StoreElement, If, For, While, Switch, Execute, Yield, Condition, Unknown}

-- what a form is told by: the width of `index`, the properties, and the types of operands and results
pub record Seen : Type 0 where
  pub bits : ℕ
  pub props : Entries
  pub operands : List TypeTree
  pub results : List TypeTree

-- how a form is told
abbrev pub Class : Type 0
Class = Seen → Option Form

abbrev pub type_at : ℕ → List TypeTree → Option TypeTree
type_at n [] = None
type_at zero (t ∷ ts) = Some t
type_at (suc n) (t ∷ ts) = type_at n ts

-- the width of an operand, and that of the result
abbrev pub operand_width : ℕ → Seen → Option ℕ
operand_width n s = if_some (type_at n s.operands) (width_of s.bits)

abbrev pub result_width : Seen → Option ℕ
result_width s = if_some (type_at 0 s.results) (width_of s.bits)

-- always the same form
abbrev pub always : Form → Class
always form s = Some form

abbrev pub computes : Pure → Class
computes p s = Some (Computes p)

-- an integer: the one of the property, modulo 2 to the width of the result
abbrev pub constant : Class
constant s = if_some (integer_of (codes "value") s.props) (λ z. option_map (λ w. Computes (Known (Integer (wrapped w z)))) (result_width s))

abbrev pub unset : Class
unset s = option_map (λ t. Computes (Known (unset_of t))) (type_at 0 s.results)

abbrev pub two : Binary → Class
two o s = option_map (λ w. Computes (TwoNumbers o w)) (operand_width 0 s)

abbrev pub flagged : (Flags → Binary) → Class
flagged o s = if_some (flags_of s.props) (λ flags. two (o flags) s)

abbrev pub comparison : Class
comparison s = if_some (comparison_of s.props) (λ c. option_map (λ w. Computes (Compares c w)) (operand_width 0 s))

-- from the width of the operand to that of the result
abbrev pub resized : (ℕ → ℕ → Resize) → Class
resized r s = if_some (operand_width 0 s) (λ w. option_map (λ m. Computes (Resizes (r w m) w)) (result_width s))

abbrev pub truncation : Class
truncation s = if_some (flags_of s.props) (λ flags. resized (λ w m. Truncate flags m) s)

-- extended where the result is wider, cut where it is narrower, else as it stands
abbrev pub cast_by : (ℕ → Resize) → ℕ → ℕ → Resize
cast_by extend w m = if nat_lt w m then extend m else (if nat_lt m w then Truncate no_flags m else Keep)

-- the same thing in another shape
abbrev pub recast_of : ℕ → List TypeTree → List TypeTree → Option Form
recast_of bits (t ∷ []) (u ∷ []) = if become_same bits t u then Some (Computes Moves) else None
recast_of bits _ _ = None

abbrev pub recast : Class
recast s = recast_of s.bits s.operands s.results

abbrev pub branch_on : Class
branch_on s = option_map (λ counts. BranchOn counts.0 counts.1) (counts_of s.props)

-- a call: each argument by its type, several results together
abbrev pub call : Class
call s = option_map (λ name. Call name (map shape_of s.operands) (packing_of (length s.results))) (symbol_of (codes "callee") s.props)

-- the calls that make and end buffers, by the names of the functions
abbrev pub llvm_call_of : List ℕ → Seen → Form
llvm_call_of name s =
    if bytes_eq name (codes "malloc") then Allocate else
    (if bytes_eq name (codes "aligned_alloc") then AllocateAligned else
    (if bytes_eq name (codes "free") then Free else Call name (map shape_of s.operands) Bare))

abbrev pub llvm_call : Class
llvm_call s = option_map (λ name. llvm_call_of name s) (symbol_of (codes "callee") s.props)

abbrev pub returns : Class
returns s = Some (Return (packing_of (length s.operands)))

abbrev pub load : Class
load s = option_map Load (result_width s)

abbrev pub store : Class
store s = option_map Store (operand_width 0 s)

abbrev pub takes_part : Class
takes_part s = option_map (λ path. Computes (TakesPart path)) (position_of s.props)

abbrev pub puts_part : Class
puts_part s = option_map (λ path. Computes (PutsPart path)) (position_of s.props)

abbrev pub moves_pointer : Class
moves_pointer s = if_some (type_of (codes "elem_type") s.props) (λ t. option_map (λ w. Computes (MovesPointer (byte_size w))) (width_of s.bits t))

abbrev pub for_loop : Class
for_loop s = option_map For (operand_width 0 s)

abbrev pub switch : Class
switch s = option_map (Switch s.bits) (numbers_of (codes "cases") s.props)

-- a memref among types
abbrev pub memref_in : ℕ → List TypeTree → Option Memref
memref_in n ts = if_some (type_at n ts) memref_of

abbrev pub new_memref : Class
new_memref s =
    if_some (memref_in 0 s.results) (λ m. if_some (alignment_of s.props) (λ alignment.
    option_map (λ w. NewMemref (record { bits = s.bits; sizes = m.sizes; element = w; alignment = alignment })) (width_of s.bits m.element)))

abbrev pub load_element : Class
load_element s = if_some (memref_in 0 s.operands) (λ m. option_map (LoadElement s.bits) (width_of s.bits m.element))

abbrev pub store_element : Class
store_element s = if_some (memref_in 1 s.operands) (λ m. option_map (StoreElement s.bits) (width_of s.bits m.element))

abbrev pub takes_size : Class
takes_size s = option_map (λ m. Computes (TakesSize s.bits (length m.sizes))) (memref_in 0 s.operands)

-- the rank is known
abbrev pub rank : Class
rank s = option_map (λ m. Computes (Known (Integer (unsigned s.bits (length m.sizes))))) (memref_in 0 s.operands)

-- a size that is fixed in either type
abbrev pub either_size : Option ℕ → Option ℕ → Option ℕ
either_size (Some n) other = Some n
either_size None other = other

abbrev pub either_sizes : List (Option ℕ) → List (Option ℕ) → List (Option ℕ)
either_sizes (m ∷ ms) (n ∷ ns) = either_size m n ∷ either_sizes ms ns
either_sizes _ _ = []

abbrev pub memref_cast : Class
memref_cast s =
    if_some (memref_in 0 s.operands) (λ m. option_map (λ r. Computes (HasSizes s.bits (either_sizes m.sizes r.sizes))) (memref_in 0 s.results))

-- names with what tells their forms
abbrev pub Classes : Type 0
Classes = List (List ℕ × Class)

abbrev pub arith_classes : Classes
arith_classes =
    (codes "arith.constant", constant) ∷
    (codes "arith.addi", flagged Add) ∷
    (codes "arith.subi", flagged Subtract) ∷
    (codes "arith.muli", flagged Multiply) ∷
    (codes "arith.shli", flagged ShiftLeft) ∷
    (codes "arith.divsi", two Divide) ∷
    (codes "arith.divui", two DivideUnsigned) ∷
    (codes "arith.remsi", two Remainder) ∷
    (codes "arith.remui", two RemainderUnsigned) ∷
    (codes "arith.ceildivsi", two DivideUp) ∷
    (codes "arith.floordivsi", two DivideDown) ∷
    (codes "arith.ceildivui", two DivideUpUnsigned) ∷
    (codes "arith.andi", two And) ∷
    (codes "arith.ori", two Or) ∷
    (codes "arith.xori", two Xor) ∷
    (codes "arith.shrsi", two ShiftRight) ∷
    (codes "arith.shrui", two ShiftRightUnsigned) ∷
    (codes "arith.maxsi", two Greater) ∷
    (codes "arith.maxui", two GreaterUnsigned) ∷
    (codes "arith.minsi", two Less) ∷
    (codes "arith.minui", two LessUnsigned) ∷
    (codes "arith.cmpi", comparison) ∷
    (codes "arith.select", computes Selects) ∷
    (codes "arith.extsi", resized (λ w m. ExtendSigned m)) ∷
    (codes "arith.extui", resized (λ w m. Extend m)) ∷
    (codes "arith.trunci", truncation) ∷
    (codes "arith.index_cast", resized (cast_by ExtendSigned)) ∷
    (codes "arith.index_castui", resized (cast_by Extend)) ∷ []

abbrev pub control_classes : Classes
control_classes =
    (codes "builtin.unrealized_conversion_cast", recast) ∷
    (codes "func.call", call) ∷
    (codes "func.return", returns) ∷
    (codes "cf.br", always Branch) ∷
    (codes "cf.cond_br", branch_on) ∷
    (codes "scf.if", always If) ∷
    (codes "scf.for", for_loop) ∷
    (codes "scf.while", always While) ∷
    (codes "scf.index_switch", switch) ∷
    (codes "scf.execute_region", always Execute) ∷
    (codes "scf.yield", always Yield) ∷
    (codes "scf.condition", always Condition) ∷ []

abbrev pub memref_classes : Classes
memref_classes =
    (codes "memref.alloc", new_memref) ∷
    (codes "memref.dealloc", always EndMemref) ∷
    (codes "memref.load", load_element) ∷
    (codes "memref.store", store_element) ∷
    (codes "memref.dim", takes_size) ∷
    (codes "memref.rank", rank) ∷
    (codes "memref.cast", memref_cast) ∷ []

abbrev pub llvm_classes : Classes
llvm_classes =
    (codes "llvm.call", llvm_call) ∷
    (codes "llvm.return", always (Return Bare)) ∷
    (codes "llvm.br", always Branch) ∷
    (codes "llvm.cond_br", branch_on) ∷
    (codes "llvm.mlir.constant", constant) ∷
    (codes "llvm.mlir.undef", unset) ∷
    (codes "llvm.add", flagged Add) ∷
    (codes "llvm.sub", flagged Subtract) ∷
    (codes "llvm.mul", flagged Multiply) ∷
    (codes "llvm.shl", flagged ShiftLeft) ∷
    (codes "llvm.sdiv", two Divide) ∷
    (codes "llvm.udiv", two DivideUnsigned) ∷
    (codes "llvm.srem", two Remainder) ∷
    (codes "llvm.urem", two RemainderUnsigned) ∷
    (codes "llvm.and", two And) ∷
    (codes "llvm.or", two Or) ∷
    (codes "llvm.xor", two Xor) ∷
    (codes "llvm.ashr", two ShiftRight) ∷
    (codes "llvm.lshr", two ShiftRightUnsigned) ∷
    (codes "llvm.icmp", comparison) ∷
    (codes "llvm.select", computes Selects) ∷
    (codes "llvm.sext", resized (λ w m. ExtendSigned m)) ∷
    (codes "llvm.zext", resized (λ w m. Extend m)) ∷
    (codes "llvm.trunc", truncation) ∷
    (codes "llvm.extractvalue", takes_part) ∷
    (codes "llvm.insertvalue", puts_part) ∷
    (codes "llvm.getelementptr", moves_pointer) ∷
    (codes "llvm.load", load) ∷
    (codes "llvm.store", store) ∷ []

-- all operations that have a meaning
abbrev pub classes : Classes
classes = arith_classes ++ control_classes ++ memref_classes ++ llvm_classes

abbrev pub class_of : List ℕ → Classes → Option Class
class_of name [] = None
class_of name (c ∷ cs) = if bytes_eq c.0 name then Some c.1 else class_of name cs

-- the form of the operation of this name
unfoldable pub form_of : List ℕ → Seen → Form
form_of name s = unwrap_or (if_some (class_of name classes) (λ class. class s)) Unknown
