-- The text of a type's words is the type's text.
use Rattle.std.proofs.Common.{◌≡◌, ℕ, Bool, true, false, List, [], ◌∷◌, ◌++◌, map, refl, sym, ap, ◌∙◌, append_assoc}
use Rattle.std.proofs.lemmas.List.{append-nil}
use Rattle.std.specs.Prelude.{codes, decimal, flat_map, if◌then◌else◌}
use Rattle.tree_model.specs.declared.type_tree.Dim.{Dim}
use Rattle.tree_model.specs.declared.type_tree.Dim.TheVariants.{Fixed, Dynamic}
use Rattle.tree_model.specs.declared.type_tree.TypeTree.{TypeTree, out-TypeTree, map-TypeTree, fold_out-TypeTree}
use Rattle.tree_model.specs.declared.type_tree.TypeTree as type
use Rattle.tree_model.specs.declared.type_tree.TypeTree.TheVariants as type_parts
use Rattle.tree_model.specs.declared.type_tree.TypeTree.TheOpen.{TypeTree-F}
use Rattle.plain_tree.specs.Types.{PlainType, PlainTypes, Int, Index, Memref, Func, Ptr, Void, Struct, Array, LlvmFunc, end_of_types, more_types, type_tree, type_trees}
use Rattle.tree_text.specs.Joined.{joined, led_by}
use Rattle.tree_text.specs.TypeText.{Printed, printed, print_step, text_at, dim_text, listed, llvm_lead, results_at}
use Rattle.text_grammar.specs.declared.places.Place.{Place}
use Rattle.text_grammar.specs.declared.places.Place.TheVariants as places
use Rattle.text_grammar.specs.declared.kinds.Kind.{Kind}
use Rattle.text_grammar.specs.declared.kinds.Kind.TheVariants as kinds
use Rattle.printed_words.specs.Words.{PrintedWord, word, sign, text_of}
use Rattle.printed_types.specs.TypeWords.{type_words, types_words, more_words, results_words, dim_words, llvm_word, is_function}

-- One level of a printed type

of_type : (t : TypeTree) (y : TypeTree-F TypeTree) → out-TypeTree t ≡ y → printed t ≡ print_step (map-TypeTree TypeTree Printed printed y)
of_type t y e = fold_out-TypeTree Printed print_step t ∙ ap (λ z. print_step (map-TypeTree TypeTree Printed printed z)) e

of_int : (n : ℕ) → printed (type.Int n) ≡ print_step (TypeTree-F.Int n)
of_int n = of_type (type.Int n) (TypeTree-F.Int n) (type_parts.outs-Int n)

of_index : printed type.Index ≡ print_step TypeTree-F.Index
of_index = of_type type.Index TypeTree-F.Index type_parts.outs-Index

of_ptr : printed type.Ptr ≡ print_step TypeTree-F.Ptr
of_ptr = of_type type.Ptr TypeTree-F.Ptr type_parts.outs-Ptr

of_void : printed type.Void ≡ print_step TypeTree-F.Void
of_void = of_type type.Void TypeTree-F.Void type_parts.outs-Void

of_memref : (ds : List Dim) (e : TypeTree) → printed (type.Memref ds e) ≡ print_step (TypeTree-F.Memref ds (printed e))
of_memref ds e = of_type (type.Memref ds e) (TypeTree-F.Memref ds e) (type_parts.outs-Memref ds e)

of_func : (is rs : List TypeTree) → printed (type.Func is rs) ≡ print_step (TypeTree-F.Func (map printed is) (map printed rs))
of_func is rs = of_type (type.Func is rs) (TypeTree-F.Func is rs) (type_parts.outs-Func is rs)

of_struct : (ts : List TypeTree) → printed (type.Struct ts) ≡ print_step (TypeTree-F.Struct (map printed ts))
of_struct ts = of_type (type.Struct ts) (TypeTree-F.Struct ts) (type_parts.outs-Struct ts)

of_array : (n : ℕ) (e : TypeTree) → printed (type.Array n e) ≡ print_step (TypeTree-F.Array n (printed e))
of_array n e = of_type (type.Array n e) (TypeTree-F.Array n e) (type_parts.outs-Array n e)

of_llvm_func : (o : TypeTree) (is : List TypeTree) → printed (type.LlvmFunc o is) ≡ print_step (TypeTree-F.LlvmFunc (printed o) (map printed is))
of_llvm_func o is = of_type (type.LlvmFunc o is) (TypeTree-F.LlvmFunc o is) (type_parts.outs-LlvmFunc o is)

-- the text of a type behind white space and before a text
abbrev Shows : Bool → List ℕ → TypeTree → List ℕ → List ℕ → Type 0
Shows inside gap t rest text = text ≡ gap ++ (text_at inside (printed t) ++ rest)

-- by one level
by_level : (inside : Bool) (gap rest text : List ℕ) (t : TypeTree) (p : Printed) → printed t ≡ p → text ≡ gap ++ (text_at inside p ++ rest) → Shows inside gap t rest text
by_level inside gap rest text t p e h = h ∙ ap (λ q. gap ++ (text_at inside q ++ rest)) (sym e)

-- Words one after another

-- the text of a name of the llvm dialect
lead_text : (inside : Bool) (gap : List ℕ) (outer inner : Place) (outer_kind inner_kind : Kind) (name : List ℕ) (ws : List PrintedWord) (end : List ℕ)
    → text_of (llvm_word inside gap outer inner outer_kind inner_kind name ∷ ws) end ≡ gap ++ ((llvm_lead inside ++ name) ++ text_of ws end)
lead_text true gap outer inner outer_kind inner_kind name ws end = refl
lead_text false gap outer inner outer_kind inner_kind name ws end = refl

-- sums of texts

three : (a b c t : List ℕ) → a ++ (b ++ (c ++ t)) ≡ (a ++ b ++ c) ++ t
three a b c t = simp append_assoc

five : (a b c d e t : List ℕ) → a ++ (b ++ (c ++ (d ++ (e ++ t)))) ≡ ((a ++ b ++ c) ++ d ++ e) ++ t
five a b c d e t = simp append_assoc

struct_form : (l n o j c g t : List ℕ) → (l ++ n) ++ (o ++ (j ++ (c ++ (g ++ t)))) ≡ (l ++ (n ++ (o ++ j ++ c) ++ g)) ++ t
struct_form l n o j c g t = simp append_assoc

array_form : (l n o d x e g t : List ℕ) → (l ++ n) ++ (o ++ (d ++ (x ++ (e ++ (g ++ t))))) ≡ (l ++ (n ++ o ++ d ++ x ++ e ++ g)) ++ t
array_form l n o d x e g t = simp append_assoc

function_form : (l n o out s p j c g t : List ℕ) → (l ++ n) ++ (o ++ (out ++ (s ++ (p ++ (j ++ (c ++ (g ++ t))))))) ≡ (l ++ (n ++ o ++ out ++ s ++ (p ++ j ++ c) ++ g)) ++ t
function_form l n o out s p j c g t = simp append_assoc

one_form : (x c t : List ℕ) → x ++ (c ++ t) ≡ ((x ++ []) ++ c) ++ t
one_form x c t = simp (append_assoc, append-nil)

two_form : (x s y l c t : List ℕ) → x ++ (s ++ (y ++ (l ++ (c ++ t)))) ≡ ((x ++ ((s ++ y) ++ l)) ++ c) ++ t
two_form x s y l c t = simp append_assoc

dims_text : (ds : List Dim) (ws : List PrintedWord) (end : List ℕ) → text_of (dim_words ds ws) end ≡ flat_map dim_text ds ++ text_of ws end
dims_text [] ws end = refl
dims_text (Fixed n ∷ ds) ws end =
    ap (λ r. decimal n ++ (codes "x" ++ r)) (dims_text ds ws end) ∙ three (decimal n) (codes "x") (flat_map dim_text ds) (text_of ws end)
dims_text (Dynamic ∷ ds) ws end = ap (λ r. codes "?x" ++ r) (dims_text ds ws end)

abbrev texts : Bool → PlainTypes → List (List ℕ)
texts inside ts = map (text_at inside) (map printed (type_trees ts))

function_told : (t : PlainType) → (printed (type_tree t)).is_function ≡ is_function t
function_told (Int w) = ap (λ (p : Printed). p.is_function) (of_int w)
function_told Index = ap (λ (p : Printed). p.is_function) of_index
function_told (Memref ds e) = ap (λ (p : Printed). p.is_function) (of_memref ds (type_tree e))
function_told (Func is rs) = ap (λ (p : Printed). p.is_function) (of_func (type_trees is) (type_trees rs))
function_told Ptr = ap (λ (p : Printed). p.is_function) of_ptr
function_told Void = ap (λ (p : Printed). p.is_function) of_void
function_told (Struct ts) = ap (λ (p : Printed). p.is_function) (of_struct (type_trees ts))
function_told (Array n e) = ap (λ (p : Printed). p.is_function) (of_array n (type_tree e))
function_told (LlvmFunc o is) = ap (λ (p : Printed). p.is_function) (of_llvm_func (type_tree o) (type_trees is))

-- one result, by whether it is a function type
one_result : (b c : Bool) (alone several rest text other : List ℕ) → c ≡ b → text ≡ (codes " " ++ alone) ++ rest → other ≡ (codes " " ++ several) ++ rest
    → (if b then other else text) ≡ (codes " " ++ (if c then several else alone)) ++ rest
one_result true c alone several rest text other e h k = rw e k
one_result false c alone several rest text other e h k = rw e h

if-text : (b : Bool) (xs ys : List PrintedWord) (end : List ℕ) → text_of (if b then xs else ys) end ≡ (if b then text_of xs end else text_of ys end)
if-text true xs ys end = refl
if-text false xs ys end = refl

mutual
  pub type_text : (inside : Bool) (at : Place) (gap : List ℕ) (t : PlainType) (rest : List PrintedWord) (end : List ℕ) → text_of (type_words inside at gap t rest) end ≡ gap ++ (text_at inside (printed (type_tree t)) ++ text_of rest end)
  type_text inside at gap (Int width) rest end = by_level inside gap (text_of rest end) _ (type.Int width) (print_step (TypeTree-F.Int width)) (of_int width) refl
  type_text inside at gap Index rest end = by_level inside gap (text_of rest end) _ type.Index (print_step TypeTree-F.Index) of_index refl
  type_text inside at gap (Memref dims element) rest end =
      let close = sign places.MemrefGreater kinds.Greater (codes ">") ∷ rest in
      by_level inside gap (text_of rest end) _ (type.Memref dims (type_tree element)) (print_step (TypeTree-F.Memref dims (printed (type_tree element)))) (of_memref dims (type_tree element))
      (ap (λ r. gap ++ (codes "memref<" ++ r)) (dims_text dims (type_words inside places.ElementWord [] element close) end ∙ ap (λ r. flat_map dim_text dims ++ r) (type_text inside places.ElementWord [] element close end))
      ∙ ap (λ r. gap ++ (codes "memref<" ++ r)) (three (flat_map dim_text dims) (text_at inside (printed (type_tree element))) (codes ">") (text_of rest end)))
  type_text inside at gap (Func inputs results) rest end =
      let ins = joined (codes ", ") (texts inside inputs) in
      let outs = results_at inside (map printed (type_trees results)) in
      let t = text_of rest end in
      by_level inside gap t _ (type.Func (type_trees inputs) (type_trees results)) (print_step (TypeTree-F.Func (map printed (type_trees inputs)) (map printed (type_trees results)))) (of_func (type_trees inputs) (type_trees results))
      (ap (λ r. gap ++ (codes "(" ++ r)) (types_text inside inputs (sign places.FunctionClose kinds.CloseParen (codes ")") ∷ word (codes " ") places.FunctionArrow kinds.Arrow (codes "->") ∷ results_words inside results rest) end)
      ∙ ap (λ r. gap ++ (codes "(" ++ (ins ++ (codes ") ->" ++ r)))) (results_text inside results rest end)
      ∙ ap (λ r. gap ++ r) (five (codes "(") ins (codes ")") (codes " -> ") outs t))
  type_text inside at gap Ptr rest end = by_level inside gap (text_of rest end) _ type.Ptr (print_step TypeTree-F.Ptr) of_ptr (lead_text inside gap places.LlvmPlain places.InnerPlain kinds.TypePlain kinds.WordPlain (codes "ptr") rest end)
  type_text inside at gap Void rest end = by_level inside gap (text_of rest end) _ type.Void (print_step TypeTree-F.Void) of_void (lead_text inside gap places.LlvmPlain places.InnerPlain kinds.TypePlain kinds.WordPlain (codes "void") rest end)
  type_text inside at gap (Struct fields) rest end =
      let close = sign places.StructClose kinds.CloseParen (codes ")") ∷ sign places.StructGreater kinds.Greater (codes ">") ∷ rest in
      let t = text_of rest end in
      let head = llvm_lead inside ++ codes "struct" in
      by_level inside gap t _ (type.Struct (type_trees fields)) (print_step (TypeTree-F.Struct (map printed (type_trees fields)))) (of_struct (type_trees fields))
      (lead_text inside gap places.LlvmStruct places.InnerStruct kinds.TypeStruct kinds.WordStruct (codes "struct") (sign places.StructLess kinds.Less (codes "<") ∷ sign places.StructOpen kinds.OpenParen (codes "(") ∷ types_words true fields close) end
      ∙ ap (λ r. gap ++ (head ++ (codes "<(" ++ r))) (types_text true fields close end)
      ∙ ap (λ r. gap ++ r) (struct_form (llvm_lead inside) (codes "struct") (codes "<(") (joined (codes ", ") (texts true fields)) (codes ")") (codes ">") t))
  type_text inside at gap (Array n element) rest end =
      let close = sign places.ArrayGreater kinds.Greater (codes ">") ∷ rest in
      let t = text_of rest end in
      let head = llvm_lead inside ++ codes "array" in
      by_level inside gap t _ (type.Array n (type_tree element)) (print_step (TypeTree-F.Array n (printed (type_tree element)))) (of_array n (type_tree element))
      (lead_text inside gap places.LlvmArray places.InnerArray kinds.TypeArray kinds.WordArray (codes "array")
      (sign places.ArrayLess kinds.Less (codes "<") ∷ sign places.ArrayNumber kinds.Number (decimal n) ∷ word (codes " ") places.ArrayX kinds.WordX (codes "x") ∷ type_words true places.IntegerWord (codes " ") element close) end
      ∙ ap (λ r. gap ++ (head ++ (codes "<" ++ (decimal n ++ (codes " x" ++ r))))) (type_text true places.IntegerWord (codes " ") element close end)
      ∙ ap (λ r. gap ++ r) (array_form (llvm_lead inside) (codes "array") (codes "<") (decimal n) (codes " x ") (text_at true (printed (type_tree element))) (codes ">") t))
  type_text inside at gap (LlvmFunc output inputs) rest end =
      let close = sign places.ParametersClose kinds.CloseParen (codes ")") ∷ sign places.LlvmFunctionGreater kinds.Greater (codes ">") ∷ rest in
      let inner = word (codes " ") places.ParametersOpen kinds.OpenParen (codes "(") ∷ types_words true inputs close in
      let t = text_of rest end in
      let head = llvm_lead inside ++ codes "func" in
      let out = text_at true (printed (type_tree output)) in
      by_level inside gap t _ (type.LlvmFunc (type_tree output) (type_trees inputs)) (print_step (TypeTree-F.LlvmFunc (printed (type_tree output)) (map printed (type_trees inputs)))) (of_llvm_func (type_tree output) (type_trees inputs))
      (lead_text inside gap places.LlvmFunction places.InnerFunction kinds.TypeFunction kinds.WordFunction (codes "func") (sign places.LlvmFunctionLess kinds.Less (codes "<") ∷ type_words true places.IntegerWord [] output inner) end
      ∙ ap (λ r. gap ++ (head ++ (codes "<" ++ r))) (type_text true places.IntegerWord [] output inner end)
      ∙ ap (λ r. gap ++ (head ++ (codes "<" ++ (out ++ (codes " (" ++ r))))) (types_text true inputs close end)
      ∙ ap (λ r. gap ++ r) (function_form (llvm_lead inside) (codes "func") (codes "<") out (codes " ") (codes "(") (joined (codes ", ") (texts true inputs)) (codes ")") (codes ">") t))

  pub types_text : (inside : Bool) (ts : PlainTypes) (rest : List PrintedWord) (end : List ℕ) → text_of (types_words inside ts rest) end ≡ joined (codes ", ") (texts inside ts) ++ text_of rest end
  types_text inside end_of_types rest end = refl
  types_text inside (more_types t ts) rest end =
      type_text inside places.IntegerWord [] t (more_words inside ts rest) end ∙ ap (λ r. text_at inside (printed (type_tree t)) ++ r) (more_text inside ts rest end)
      ∙ sym (append_assoc (text_at inside (printed (type_tree t))) (led_by (codes ", ") (texts inside ts)) (text_of rest end))

  pub more_text : (inside : Bool) (ts : PlainTypes) (rest : List PrintedWord) (end : List ℕ) → text_of (more_words inside ts rest) end ≡ led_by (codes ", ") (texts inside ts) ++ text_of rest end
  more_text inside end_of_types rest end = refl
  more_text inside (more_types t ts) rest end =
      ap (λ r. codes "," ++ r) (type_text inside places.IntegerWord (codes " ") t (more_words inside ts rest) end)
      ∙ ap (λ r. codes ", " ++ (text_at inside (printed (type_tree t)) ++ r)) (more_text inside ts rest end)
      ∙ ap (λ r. codes ", " ++ r) (sym (append_assoc (text_at inside (printed (type_tree t))) (led_by (codes ", ") (texts inside ts)) (text_of rest end)))

  pub results_text : (inside : Bool) (ts : PlainTypes) (rest : List PrintedWord) (end : List ℕ) → text_of (results_words inside ts rest) end ≡ (codes " " ++ results_at inside (map printed (type_trees ts))) ++ text_of rest end
  results_text inside end_of_types rest end = refl
  results_text inside (more_types t end_of_types) rest end =
      let p = printed (type_tree t) in
      let x = text_at inside p in
      let close = sign places.ResultsClose kinds.CloseParen (codes ")") ∷ rest in
      let alone : text_of (type_words inside places.IntegerWord (codes " ") t rest) end ≡ (codes " " ++ x) ++ text_of rest end = type_text inside places.IntegerWord (codes " ") t rest end in
      let several : text_of (word (codes " ") places.ResultsOpen kinds.OpenParen (codes "(") ∷ type_words inside places.IntegerWord [] t close) end ≡ (codes " " ++ listed inside (p ∷ [])) ++ text_of rest end =
      ap (λ r. codes " (" ++ r) (type_text inside places.IntegerWord [] t close end) ∙ ap (λ r. codes " (" ++ r) (one_form x (codes ")") (text_of rest end)) in
      if-text (is_function t) (word (codes " ") places.ResultsOpen kinds.OpenParen (codes "(") ∷ type_words inside places.IntegerWord [] t close) (type_words inside places.IntegerWord (codes " ") t rest) end
      ∙ one_result (is_function t) p.is_function x (listed inside (p ∷ [])) (text_of rest end) _ _ (function_told t) alone several
  results_text inside (more_types t (more_types u us)) rest end =
      let x = text_at inside (printed (type_tree t)) in
      let y = text_at inside (printed (type_tree u)) in
      let l = led_by (codes ", ") (texts inside us) in
      let close = sign places.ResultsClose kinds.CloseParen (codes ")") ∷ rest in
      let more = more_words inside us close in
      ap (λ r. codes " (" ++ r) (type_text inside places.IntegerWord [] t (sign places.TypeComma kinds.Comma (codes ",") ∷ type_words inside places.IntegerWord (codes " ") u more) end)
      ∙ ap (λ r. codes " (" ++ (x ++ (codes "," ++ r))) (type_text inside places.IntegerWord (codes " ") u more end)
      ∙ ap (λ r. codes " (" ++ (x ++ (codes ", " ++ (y ++ r)))) (more_text inside us close end)
      ∙ ap (λ r. codes " (" ++ r) (two_form x (codes ", ") y l (codes ")") (text_of rest end))
