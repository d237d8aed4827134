-- The forms of operations on parts of values, on memory and of calls.
use Rattle.std.proofs.Common.{◌≡◌, ℕ, List, [], Some, refl, ap, ap₂, ◌∙◌}
use Rattle.std.specs.Prelude.{codes, ℤ}
use Rattle.std.specs.Option.{option_map, unwrap_or}
use Rattle.tree_model.specs.declared.attr_tree.AttrTree.{out-AttrTree}
use Rattle.tree_model.specs.declared.attr_tree.AttrTree.TheVariants as parts
use Rattle.number_model.specs.Arithmetic.{Resize}
use Rattle.operation_model.specs.Pures.{TakesPart, PutsPart, MovesPointer, Resizes}
use Rattle.operation_model.specs.Forms.{Computes, Free, Load, Store, Unknown}
use Rattle.operation_model.specs.Straight.{byte_size}
use Rattle.plain_tree.specs.Types.{PlainType, type_tree}
use Rattle.plain_tree.specs.Attrs.{Entries, attr_tree, entries_tree, entry, Symbol, OfType}
use Rattle.form_model.specs.Properties.{if_some, level, naturals, numbers_in, symbol_in, type_in}
use Rattle.form_model.specs.Types.{width_of}
use Rattle.form_model.specs.Classes.{class_of, classes, takes_part, puts_part, llvm_call, llvm_call_of, moves_pointer, load, store, resized}
use Rattle.pattern_model.specs.MemrefRows.{position, callee}
use Rattle.sound_model.specs.Runs.{form_at}
use Rattle.row_laws.proofs.Forms.{form_by, level_of, width_in}
use Rattle.row_laws.proofs.Lowered.{seen}

-- the path of a part
path_is : (zs : List ℤ) → if_some (level (codes "position") (entries_tree (position zs))) numbers_in ≡ Some zs
path_is zs = ap (λ l. if_some l numbers_in) (level_of (codes "position") (position zs)) ∙ ap numbers_in (parts.outs-Ints 64 zs)

pub extract_form : (bits : ℕ) (zs : List ℤ) (path : List ℕ) → naturals zs ≡ Some path → (ts us : List PlainType) → form_at bits (codes "llvm.extractvalue") (position zs) ts us ≡ Computes (TakesPart path)
extract_form bits zs path is ts us =
    form_by (codes "llvm.extractvalue") takes_part refl _
    ∙ ap (λ x. unwrap_or (option_map (λ path. Computes (TakesPart path)) (if_some x naturals)) Unknown) (path_is zs)
    ∙ ap (λ x. unwrap_or (option_map (λ path. Computes (TakesPart path)) x) Unknown) is

pub insert_form : (bits : ℕ) (zs : List ℤ) (path : List ℕ) → naturals zs ≡ Some path → (ts us : List PlainType) → form_at bits (codes "llvm.insertvalue") (position zs) ts us ≡ Computes (PutsPart path)
insert_form bits zs path is ts us =
    form_by (codes "llvm.insertvalue") puts_part refl _
    ∙ ap (λ x. unwrap_or (option_map (λ path. Computes (PutsPart path)) (if_some x naturals)) Unknown) (path_is zs)
    ∙ ap (λ x. unwrap_or (option_map (λ path. Computes (PutsPart path)) x) Unknown) is

-- a call by the name of the function
pub call_form : (bits : ℕ) (es : Entries) (name : List ℕ) → entry (codes "callee") es ≡ Some (Symbol name) → (ts us : List PlainType) → form_at bits (codes "llvm.call") es ts us ≡ llvm_call_of name (seen bits es ts us)
call_form bits es name is ts us =
    form_by (codes "llvm.call") llvm_call refl _
    ∙ ap (λ l. unwrap_or (option_map (λ name. llvm_call_of name (seen bits es ts us)) (if_some l symbol_in)) Unknown)
    (level_of (codes "callee") es ∙ ap (option_map (λ a. out-AttrTree (attr_tree a))) is)
    ∙ ap (λ a. unwrap_or (option_map (λ name. llvm_call_of name (seen bits es ts us)) (symbol_in a)) Unknown) (parts.outs-Symbol name)

pub free_form : (bits : ℕ) (ts us : List PlainType) → form_at bits (codes "llvm.call") (callee (codes "free")) ts us ≡ Free
free_form bits ts us = call_form bits (callee (codes "free")) (codes "free") refl ts us

-- a load and a store of an integer
pub load_form : (bits w : ℕ) (es : Entries) (ts us : List PlainType) → width_in bits 0 us ≡ Some w → form_at bits (codes "llvm.load") es ts us ≡ Load w
load_form bits w es ts us has = form_by (codes "llvm.load") load refl _ ∙ ap (λ x. unwrap_or (option_map Load x) Unknown) has

pub store_form : (bits w : ℕ) (es : Entries) (ts us : List PlainType) → width_in bits 0 ts ≡ Some w → form_at bits (codes "llvm.store") es ts us ≡ Store w
store_form bits w es ts us has = form_by (codes "llvm.store") store refl _ ∙ ap (λ x. unwrap_or (option_map Store x) Unknown) has

-- a pointer that moves on by elements of a type
pub moves_form : (bits w : ℕ) (es : Entries) (t : PlainType) → entry (codes "elem_type") es ≡ Some (OfType t) → width_of bits (type_tree t) ≡ Some w → (ts us : List PlainType)
    → form_at bits (codes "llvm.getelementptr") es ts us ≡ Computes (MovesPointer (byte_size w))
moves_form bits w es t is has ts us =
    form_by (codes "llvm.getelementptr") moves_pointer refl _
    ∙ ap (λ l. unwrap_or (if_some (if_some l type_in) (λ t. option_map (λ w. Computes (MovesPointer (byte_size w))) (width_of bits t))) Unknown)
    (level_of (codes "elem_type") es ∙ ap (option_map (λ a. out-AttrTree (attr_tree a))) is)
    ∙ ap (λ a. unwrap_or (if_some (type_in a) (λ t. option_map (λ w. Computes (MovesPointer (byte_size w))) (width_of bits t))) Unknown) (parts.outs-OfType (type_tree t))
    ∙ ap (λ x. unwrap_or (option_map (λ w. Computes (MovesPointer (byte_size w))) x) Unknown) has

-- an extension
pub extension_form : (bits w m : ℕ) (name : List ℕ) (extend : ℕ → Resize) → class_of name classes ≡ Some (resized (λ w m. extend m)) → (ts us : List PlainType) → width_in bits 0 ts ≡ Some w → width_in bits 0 us ≡ Some m
    → form_at bits name [] ts us ≡ Computes (Resizes (extend m) w)
extension_form bits w m name extend is ts us has gets =
    form_by name (resized (λ w m. extend m)) is _ ∙ ap₂ (λ x y. unwrap_or (if_some x (λ w. option_map (λ m. Computes (Resizes (extend m) w)) y)) Unknown) has gets
