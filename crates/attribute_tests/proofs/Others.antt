-- What is listed for each shape, and what code asks of it.
use Rattle.std.proofs.Common.{◌≡◌, Bool, true, false, List, [], ◌∷◌, refl, sym, ap, ap₂, ◌∙◌}
use Rattle.std.specs.Prelude.{◌&&◌, not, codes, Option, Some, None}
use Rattle.plain_tree.specs.Attrs.{PlainAttr, entry}
use Rattle.rule_model.specs.declared.shapes.Shape.{Shape}
use Rattle.rule_model.specs.declared.shapes.Shape.TheVariants.{Module, FuncFunction, FuncCall, NumberConstant, FlaggedNumbers, CompareNumbers, NarrowNumber, BranchOn, For, Switch, Execute, Allocate, LoadElement, StoreElement, LlvmFunction, LlvmCall, IntegerConstant, FlaggedIntegers, CompareIntegers, NarrowInteger, TakePart, PutPart, MovePointer}
use Rattle.rule_model.specs.Facts.{Facts}
use Rattle.rule_model.specs.Forms.{is_alignment, is_dict_list, is_func_type, is_integer_type, is_linkage, is_llvm_func_type, is_one_index, is_some_of, is_symbol, is_text, is_truth, is_unit, two_counts}
use Rattle.rule_model.specs.Parts.{Listed, arith_flags, attributes_fit, counts_sizes, has_form, is_value_of, is_value_or_index_of, llvm_flags, may_have, needs, path, predicate, sizes_in}
use Rattle.attribute_tests.specs.Tests.{needed, of_others, optional}

must : (f : Facts) (l : Listed) (o : Option PlainAttr) → l.needed ≡ true → needed (l.form f) o ≡ has_form f l o
must f l None e = sym (ap not e)
must f l (Some a) e = refl

may : (f : Facts) (l : Listed) (o : Option PlainAttr) → l.needed ≡ false → optional (l.form f) o ≡ has_form f l o
may f l None e = sym (ap not e)
may f l (Some a) e = refl

last : (a b : Bool) → a ≡ b → a ≡ (b && true)
last a true e = e
last a false e = e

ended : (a b : Bool) → a ≡ b → a ≡ (b && true)
ended = last

both : (a b c d : Bool) → a ≡ c → b ≡ d → (a && b) ≡ (c && d)
both a b c d e f = ap₂ (λ x y. x && y) e f

abbrev value_listed : Listed
value_listed = record { name = codes "value"; needed = true; form = λ f a. is_value_of f.results a }

abbrev integer_listed : Listed
integer_listed = record { name = codes "value"; needed = true; form = λ f a. is_value_or_index_of f.results a }

abbrev sizes_listed : Listed
sizes_listed = record { name = codes "operandSegmentSizes"; needed = true; form = λ f a. counts_sizes (sizes_in f.results) a }

-- of each shape but a switch
pub others_are : (f : Facts) (s : Shape) → (s ≡ Switch → ⊥) → of_others f s ≡ attributes_fit f s
others_are f Switch other = absurd (other refl)
others_are f Module other = ended _ _ (both _ _ _ _ (may f (may_have (codes "sym_name") is_text) (entry (codes "sym_name") f.props) refl) (last _ _ (may f (may_have (codes "sym_visibility") is_text) (entry (codes "sym_visibility") f.props) refl)))
others_are f FuncFunction other = ended _ _ (both _ _ _ _ (must f (needs (codes "function_type") is_func_type) (entry (codes "function_type") f.props) refl) (both _ _ _ _ (must f (needs (codes "sym_name") is_text) (entry (codes "sym_name") f.props) refl) (both _ _ _ _ (may f (may_have (codes "sym_visibility") is_text) (entry (codes "sym_visibility") f.props) refl) (both _ _ _ _ (may f (may_have (codes "arg_attrs") is_dict_list) (entry (codes "arg_attrs") f.props) refl) (last _ _ (may f (may_have (codes "res_attrs") is_dict_list) (entry (codes "res_attrs") f.props) refl))))))
others_are f LlvmFunction other = ended _ _ (both _ _ _ _ (must f (needs (codes "function_type") is_llvm_func_type) (entry (codes "function_type") f.props) refl) (both _ _ _ _ (must f (needs (codes "sym_name") is_text) (entry (codes "sym_name") f.props) refl) (both _ _ _ _ (may f (may_have (codes "linkage") is_linkage) (entry (codes "linkage") f.props) refl) (last _ _ (may f (may_have (codes "sym_visibility") is_text) (entry (codes "sym_visibility") f.props) refl)))))
others_are f FuncCall other = ended _ _ (last _ _ (must f (needs (codes "callee") is_symbol) (entry (codes "callee") f.props) refl))
others_are f LlvmCall other = ended _ _ (last _ _ (must f (needs (codes "callee") is_symbol) (entry (codes "callee") f.props) refl))
others_are f NumberConstant other = ended _ _ (last _ _ (must f (value_listed) (entry (codes "value") f.props) refl))
others_are f IntegerConstant other = ended _ _ (last _ _ (must f (integer_listed) (entry (codes "value") f.props) refl))
others_are f FlaggedNumbers other = ended _ _ (last _ _ (may f (arith_flags) (entry (codes "overflowFlags") f.props) refl))
others_are f NarrowNumber other = ended _ _ (last _ _ (may f (arith_flags) (entry (codes "overflowFlags") f.props) refl))
others_are f FlaggedIntegers other = ended _ _ (last _ _ (may f (llvm_flags) (entry (codes "overflowFlags") f.props) refl))
others_are f NarrowInteger other = ended _ _ (last _ _ (may f (llvm_flags) (entry (codes "overflowFlags") f.props) refl))
others_are f CompareNumbers other = ended _ _ (last _ _ (must f (predicate) (entry (codes "predicate") f.props) refl))
others_are f CompareIntegers other = ended _ _ (last _ _ (must f (predicate) (entry (codes "predicate") f.props) refl))
others_are f BranchOn other = ended _ _ (last _ _ (must f (needs (codes "operandSegmentSizes") (λ a. is_some_of (two_counts a))) (entry (codes "operandSegmentSizes") f.props) refl))
others_are f Execute other = ended _ _ (last _ _ (may f (may_have (codes "no_inline") is_unit) (entry (codes "no_inline") f.props) refl))
others_are f Allocate other = ended _ _ (both _ _ _ _ (must f (sizes_listed) (entry (codes "operandSegmentSizes") f.props) refl) (last _ _ (may f (may_have (codes "alignment") is_alignment) (entry (codes "alignment") f.props) refl)))
others_are f LoadElement other = ended _ _ (last _ _ (may f (may_have (codes "nontemporal") is_truth) (entry (codes "nontemporal") f.props) refl))
others_are f StoreElement other = ended _ _ (last _ _ (may f (may_have (codes "nontemporal") is_truth) (entry (codes "nontemporal") f.props) refl))
others_are f TakePart other = ended _ _ (last _ _ (must f (path) (entry (codes "position") f.props) refl))
others_are f PutPart other = ended _ _ (last _ _ (must f (path) (entry (codes "position") f.props) refl))
others_are f MovePointer other = ended _ _ (both _ _ _ _ (must f (needs (codes "elem_type") is_integer_type) (entry (codes "elem_type") f.props) refl) (last _ _ (must f (needs (codes "rawConstantIndices") is_one_index) (entry (codes "rawConstantIndices") f.props) refl)))
others_are f For other = refl
others_are f _ other = refl
