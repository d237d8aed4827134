-- Constants.
use Rattle.std.proofs.Common.{◌≡◌, ℕ, suc, ◌-◌, ◌%◌, ◌^◌, ◌<◌, List, [], ◌∷◌, length, Option, Some, None, Bool, true, false, refl, sym, ap, ap₂, subst, ◌∙◌, true≢false, arith}
use Rattle.std.specs.Prelude.{◌&&◌, ℤ, pos, negsuc, neg_ℤ, nat_le, codes, map, if◌then◌else◌}
use Rattle.std.specs.Option.{option_map, unwrap_or}
use Rattle.std.proofs.lemmas.Int.{ints}
use Rattle.std.proofs.Math.Nat.{mod-lt, mod-mod, mod-eq_of_lt}
use Rattle.std.proofs.Math.Pow.{pow_pos}
use Rattle.tree_model.specs.declared.type_tree.TypeTree.TheVariants.{outs-Int}
use Rattle.tree_model.specs.declared.attr_tree.AttrTree.{out-AttrTree}
use Rattle.tree_model.specs.declared.attr_tree.AttrTree.TheVariants as parts
use Rattle.number_model.specs.Numbers.{wrapped, signed, signed_below}
use Rattle.operation_model.specs.Values.{Integer}
use Rattle.operation_model.specs.Pures.{Known}
use Rattle.operation_model.specs.Forms.{Form, Computes, Unknown}
use Rattle.plain_tree.specs.Types.{PlainType, Int, Index, type_tree}
use Rattle.plain_tree.specs.Attrs.{Entries, Number, attr_tree, entries_tree, entry}
use Rattle.conversion_model.specs.declared.templates.Source.TheVariants.{Operand}
use Rattle.conversion_model.specs.Types.{new_type, becomes}
use Rattle.conversion_model.specs.Templates.{Template}
use Rattle.conversion_model.specs.Targets.{Shape}
use Rattle.conversion_model.specs.Rows.{Pattern, Straight}
use Rattle.conversion_model.specs.Chosen.{places}
use Rattle.form_model.specs.Types.{width, width_at}
use Rattle.form_model.specs.Properties.{if_some, integer_of, integer_in}
use Rattle.form_model.specs.Classes.{class_of, classes, constant}
use Rattle.pattern_model.specs.Drafts.{is_plain, constant_value, read_signed}
use Rattle.pattern_model.specs.Drafts.{wrapped as kept}
use Rattle.pattern_model.specs.ArithRows.{one_value, all_types, constant_row, constant_props}
use Rattle.rule_model.specs.Forms.{is_number}
use Rattle.sound_model.specs.Runs.{form_at, root_form}
use Rattle.sound_model.specs.Soundness.{IsReplaceable, is_root, RowHolds, RowSound}
use Rattle.row_numbers.proofs.Readings.{keeps_constants}
use Rattle.row_laws.proofs.Sources.{no_items}
use Rattle.row_laws.proofs.Values.{of_some, when_is, IsPlain, plain_is, value_holds, first_holds}
use Rattle.row_laws.proofs.Forms.{level_of, form_by, width_in, width_in_becomes}
use Rattle.row_laws.proofs.Fits.{IsConstant, is_constant}
use Rattle.row_laws.proofs.Lowered.{if_computes, root_is}

-- the integer that is kept for a constant is the signed number of its bits
below_kept : (w m : ℕ) → m < 2 ^ w → (b : Bool) → (if b then pos m else neg_ℤ (pos (2 ^ w - m))) ≡ (if b then pos m else negsuc (2 ^ w - suc m))
below_kept w m lt true = refl
below_kept w m lt false = omega (arith, ints)

kept_signed : (w : ℕ) (z : ℤ) → kept w z ≡ signed w (wrapped w z)
kept_signed w (pos n) = below_kept w (n % 2 ^ w) (mod-lt n (pow_pos w)) _ ∙ sym (ap (signed_below w) (mod-mod n (2 ^ w)))
kept_signed w (negsuc n) =
    let m : n % 2 ^ w < 2 ^ w = mod-lt n (pow_pos w) in
    let r : 2 ^ w - suc (n % 2 ^ w) < 2 ^ w = omega arith in
    ap (read_signed w) (omega arith) ∙ below_kept w (2 ^ w - suc (n % 2 ^ w)) r _ ∙ sym (ap (signed_below w) (mod-eq_of_lt r))

kept_same : (w : ℕ) (z : ℤ) → 0 < w → wrapped w (kept w z) ≡ wrapped w z
kept_same w z h = ap (wrapped w) (kept_signed w z) ∙ keeps_constants w z h

-- the form of a constant: its integer, at a width
abbrev pub known : Option ℤ → Option ℕ → Form
known z p = unwrap_or (if_some z (λ z. option_map (λ w. Computes (Known (Integer (wrapped w z)))) p)) Unknown

if_known : (z : Option ℤ) (p : Option ℕ) (rs : List PlainType) → IsReplaceable (known z p) rs
if_known None p rs = tt
if_known (Some z) p rs = if_computes p (λ w. Known (Integer (wrapped w z))) rs

-- the integer of a property
pub integer_is : (name : List ℕ) (es : Entries) (z : ℤ) (t : PlainType) → entry name es ≡ Some (Number z t) → integer_of name (entries_tree es) ≡ Some z
integer_is name es z t e =
    ap (λ l. if_some l integer_in) (level_of name es ∙ ap (option_map (λ a. out-AttrTree (attr_tree a))) e)
    ∙ ap integer_in (parts.outs-Int z (type_tree t))

-- at a width that there is, what is kept is the same
above_none : (w : ℕ) → (nat_le 1 w && nat_le w 64) ≡ true → 0 < w
above_none w e = let first : nat_le 1 w ≡ true = first_holds _ _ e in grind arith

known_same : (w : ℕ) (z : ℤ) → known (Some (kept w z)) (width w) ≡ known (Some z) (width w)
known_same w z = go (nat_le 1 w && nat_le w 64) refl
  where
    go : (b : Bool) → (nat_le 1 w && nat_le w 64) ≡ b → known (Some (kept w z)) (if b then Some w else None) ≡ known (Some z) (if b then Some w else None)
    go true e = ap (λ n. Computes (Known (Integer n))) (kept_same w z (above_none w e))
    go false e = refl

-- the form of a constant as rows write it
pub constant_form : (bits : ℕ) (name : List ℕ) → class_of name classes ≡ Some constant → (t : PlainType) → is_number t ≡ true → (z : ℤ) (ts : List PlainType)
    → form_at bits name (constant_value t z) ts (t ∷ []) ≡ known (Some z) (width_in bits 0 (t ∷ []))
constant_form bits name of_name (Int w) h z ts =
    form_by name constant of_name _
    ∙ ap₂ known (integer_is (codes "value") (constant_value (Int w) z) (kept w z) (Int w) refl) (ap (width_at bits) (outs-Int w))
    ∙ known_same w z ∙ ap (known (Some z)) (sym (ap (width_at bits) (outs-Int w)))
constant_form bits name of_name Index h z ts =
    form_by name constant of_name _ ∙ ap (λ z. known z (width_in bits 0 (Index ∷ []))) (integer_is (codes "value") (constant_value Index z) z Index refl)
constant_form bits name of_name _ h z ts = absurd (true≢false (sym h))

number_becomes : (bits : ℕ) (t : PlainType) → is_number t ≡ true → is_number (becomes bits t) ≡ true
number_becomes bits (Int w) h = refl
number_becomes bits Index h = refl
number_becomes bits _ h = absurd (true≢false (sym h))

none_are : (ts : List PlainType) → length ts ≡ 0 → [] ≡ map Operand (places 0 ts)
none_are = no_items (λ ts. [] ≡ map Operand (places 0 ts)) refl

module _ (bits : ℕ) (h : width bits ≡ Some bits) (table : List Pattern) (no_root : is_root table (codes "llvm.mlir.constant") ≡ false) where
  constant_holds : (o : Shape) (t : Template) → o.name ≡ codes "arith.constant" → IsConstant o → IsPlain 0 1 o
      → one_value (codes "llvm.mlir.constant") [] (constant_props bits (entry (codes "value") o.props)) (all_types bits o.results) ≡ Some t → RowHolds bits table (new_type bits) o t
  constant_holds o t named c p defined =
      let root_form_is : root_form bits o ≡ known (integer_of (codes "value") (entries_tree o.props)) (width_in bits 0 o.results) = root_is bits o (codes "arith.constant") constant named refl in
      value_holds bits table (new_type bits) o (codes "llvm.mlir.constant") [] (constant_props bits (entry (codes "value") o.props)) t defined p.results p.successors (none_are o.operands p.operands) no_root
      (subst (λ f. IsReplaceable f o.results) (sym root_form_is) (if_known (integer_of (codes "value") (entries_tree o.props)) (width_in bits 0 o.results) o.results))
      (λ es e.
      ap₂ (λ es us. form_at bits (codes "llvm.mlir.constant") es (all_types bits o.operands) us) (of_some (sym e ∙ ap (constant_props bits) c.property)) (ap (all_types bits) c.results)
      ∙ constant_form bits (codes "llvm.mlir.constant") refl (becomes bits c.type) (number_becomes bits c.type c.is_number) c.value (all_types bits o.operands)
      ∙ ap₂ known (sym (integer_is (codes "value") o.props c.value c.type c.property)) (sym (ap (λ ts. width_in bits 0 (all_types bits ts)) c.results) ∙ width_in_becomes bits h 0 o.results)
      ∙ sym root_form_is)

  pub constant_sound : RowSound bits table (codes "arith.constant") (new_type bits) (Straight (constant_row bits))
  constant_sound o t named fit defined =
      let d : (is_plain 0 1 o ≡ true) × (one_value (codes "llvm.mlir.constant") [] (constant_props bits (entry (codes "value") o.props)) (all_types bits o.results) ≡ Some t) = when_is _ _ t defined in
      constant_holds o t named (is_constant o named fit) (plain_is 0 1 o d.0) d.1
