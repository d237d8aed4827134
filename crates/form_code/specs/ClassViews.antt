-- What the classes of the code stand for.
use Rattle.std.specs.Prelude.{ℕ, Option, Some, None}
use Rattle.number_code.specs.Models.{binary_of, flags_of}
use Rattle.number_model.specs.Arithmetic as arithmetic
use Rattle.operation_model.specs.Calling as calling
use Rattle.operation_model.specs.Forms as forms
use Rattle.operation_model.specs.Pures as pures
use Rattle.form_model.specs.Classes as model
use Rattle.form_code.specs.declared.classes.Plain.{Plain}
use Rattle.form_code.specs.declared.classes.Plain.TheVariants as plain
use Rattle.form_code.specs.declared.classes.Wrapping.{Wrapping}
use Rattle.form_code.specs.declared.classes.Wrapping.TheVariants as wrapping
use Rattle.form_code.specs.declared.classes.Resizing.{Resizing}
use Rattle.form_code.specs.declared.classes.Resizing.TheVariants as resizing
use Rattle.form_code.specs.declared.classes.Numeric.{Numeric}
use Rattle.form_code.specs.declared.classes.Numeric.TheVariants as numeric
use Rattle.form_code.specs.declared.classes.Flow.{Flow}
use Rattle.form_code.specs.declared.classes.Flow.TheVariants as flow
use Rattle.form_code.specs.declared.classes.Memory.{Memory}
use Rattle.form_code.specs.declared.classes.Memory.TheVariants as memory
use Rattle.form_code.specs.declared.classes.Class.{Class}
use Rattle.form_code.specs.declared.classes.Class.TheVariants as class

abbrev pub plain_form : Plain → forms.Form
plain_form plain.Select = forms.Computes pures.Selects
plain_form plain.Branch = forms.Branch
plain_form plain.ReturnBare = forms.Return calling.Bare
plain_form plain.EndMemref = forms.EndMemref
plain_form plain.If = forms.If
plain_form plain.While = forms.While
plain_form plain.Execute = forms.Execute
plain_form plain.Yield = forms.Yield
plain_form plain.Condition = forms.Condition

abbrev pub wrapping_of : Wrapping → arithmetic.Flags → arithmetic.Binary
wrapping_of wrapping.Add = arithmetic.Add
wrapping_of wrapping.Subtract = arithmetic.Subtract
wrapping_of wrapping.Multiply = arithmetic.Multiply
wrapping_of wrapping.ShiftLeft = arithmetic.ShiftLeft

abbrev pub resizing_of : Resizing → ℕ → ℕ → arithmetic.Resize
resizing_of resizing.ExtendSigned w m = arithmetic.ExtendSigned m
resizing_of resizing.Extend w m = arithmetic.Extend m
resizing_of (resizing.Truncate flags) w m = arithmetic.Truncate (flags_of flags) m
resizing_of resizing.Cast w m = model.cast_by arithmetic.ExtendSigned w m
resizing_of resizing.CastUnsigned w m = model.cast_by arithmetic.Extend w m

abbrev pub numeric_class : Numeric → model.Class
numeric_class numeric.Constant = model.constant
numeric_class (numeric.Flagged o) = model.flagged (wrapping_of o)
numeric_class (numeric.Two o) = model.two (binary_of o)
numeric_class numeric.Comparison = model.comparison
numeric_class (numeric.Resized r) = model.resized (resizing_of r)
numeric_class numeric.Truncation = model.truncation

abbrev pub flow_class : Flow → model.Class
flow_class flow.Recast = model.recast
flow_class flow.Call = model.call
flow_class flow.LlvmCall = model.llvm_call
flow_class flow.Returns = model.returns
flow_class flow.BranchOn = model.branch_on
flow_class flow.For = model.for_loop
flow_class flow.Switch = model.switch

abbrev pub memory_class : Memory → model.Class
memory_class memory.NewMemref = model.new_memref
memory_class memory.LoadElement = model.load_element
memory_class memory.StoreElement = model.store_element
memory_class memory.TakesSize = model.takes_size
memory_class memory.Rank = model.rank
memory_class memory.MemrefCast = model.memref_cast
memory_class memory.Unset = model.unset
memory_class memory.TakesPart = model.takes_part
memory_class memory.PutsPart = model.puts_part
memory_class memory.MovesPointer = model.moves_pointer
memory_class memory.Load = model.load
memory_class memory.Store = model.store

-- what tells the form, where something does
abbrev pub class_view : Class → Option model.Class
class_view class.Nothing = None
class_view (class.Always p) = Some (model.always (plain_form p))
class_view (class.Numbers n) = Some (numeric_class n)
class_view (class.Flow f) = Some (flow_class f)
class_view (class.Memory m) = Some (memory_class m)
