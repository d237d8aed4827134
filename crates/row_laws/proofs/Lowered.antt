-- Rows of arith_lowering that are one operation of the same form.
use Rattle.std.proofs.Common.{◌≡◌, ℕ, List, [], ◌∷◌, length, Option, Some, None, true, false, refl, sym, ap, ap₂, subst, ◌∙◌}
use Rattle.std.specs.Prelude.{codes, map}
use Rattle.std.specs.Option.{option_map, unwrap_or}
use Rattle.number_model.specs.Arithmetic.{Flags, Binary, Resize, Truncate, Comparison}
use Rattle.operation_model.specs.Pures.{Pure, TwoNumbers, Compares, Resizes, Selects}
use Rattle.operation_model.specs.Forms.{Computes, Unknown}
use Rattle.plain_tree.specs.Types.{PlainType, type_tree}
use Rattle.plain_tree.specs.Attrs.{Entries, entries_tree, entry}
use Rattle.conversion_model.specs.declared.templates.Source.{Source}
use Rattle.conversion_model.specs.declared.templates.Source.TheVariants.{Operand}
use Rattle.conversion_model.specs.Types.{new_type, becomes}
use Rattle.conversion_model.specs.Templates.{Template}
use Rattle.conversion_model.specs.Targets.{Shape}
use Rattle.conversion_model.specs.Rows.{Pattern, Straight}
use Rattle.conversion_model.specs.Chosen.{places}
use Rattle.form_model.specs.Types.{width}
use Rattle.form_model.specs.Properties.{if_some, flags_of, integer_in, natural, comparison_at, comparison_of, comparisons}
use Rattle.form_model.specs.Classes.{Class, Seen, class_of, classes, two, flagged, comparison, computes, resized, truncation}
use Rattle.pattern_model.specs.Drafts.{is_plain, when}
use Rattle.pattern_model.specs.ArithRows.{pair, one_value, all_types, binary_row, flagged_row, cmpi_row, select_row, extended_row, trunci_row, flag_props, kept_props}
use Rattle.sound_model.specs.Runs.{form_at, root_form}
use Rattle.sound_model.specs.Soundness.{IsReplaceable, is_root, RowHolds, RowSound}
use Rattle.row_laws.proofs.Sources.{one_item, two_items, three_items}
use Rattle.row_laws.proofs.Values.{when_is, IsPlain, plain_is, value_holds}
use Rattle.row_laws.proofs.Forms.{form_by, width_in, width_in_becomes, kept_flags, kept_level}

-- what replaces an operation that only computes
pub if_computes : (p : Option ℕ) (f : ℕ → Pure) (rs : List PlainType) → IsReplaceable (unwrap_or (option_map (λ w. Computes (f w)) p) Unknown) rs
if_computes None f rs = tt
if_computes (Some w) f rs = tt

-- the sources of rows are all operands, in order
pub one_is : (ts : List PlainType) → length ts ≡ 1 → Operand 0 ∷ [] ≡ map Operand (places 0 ts)
one_is = one_item (λ ts. Operand 0 ∷ [] ≡ map Operand (places 0 ts)) (λ x. refl)

pub two_are : (ts : List PlainType) → length ts ≡ 2 → pair ≡ map Operand (places 0 ts)
two_are = two_items (λ ts. pair ≡ map Operand (places 0 ts)) (λ x y. refl)

three_are : (ts : List PlainType) → length ts ≡ 3 → Operand 0 ∷ Operand 1 ∷ Operand 2 ∷ [] ≡ map Operand (places 0 ts)
three_are = three_items (λ ts. Operand 0 ∷ Operand 1 ∷ Operand 2 ∷ [] ≡ map Operand (places 0 ts)) (λ x y z. refl)

-- what tells the form of an operation with these properties and types
abbrev pub seen : ℕ → Entries → List PlainType → List PlainType → Seen
seen bits props operands results = record { bits = bits; props = entries_tree props; operands = map type_tree operands; results = map type_tree results }

-- the form of the root, of a known class
pub root_is : (bits : ℕ) (o : Shape) (root : List ℕ) (c : Class) → o.name ≡ root → class_of root classes ≡ Some c
    → root_form bits o ≡ unwrap_or (c (seen bits o.props o.operands o.results)) Unknown
root_is bits o root c named known = ap (λ name. form_at bits name o.props o.operands o.results) named ∙ form_by root c known _

if_flags : (f : Option Flags) (p : Option ℕ) (g : Flags → ℕ → Pure) (rs : List PlainType) → IsReplaceable (unwrap_or (if_some f (λ flags. option_map (λ w. Computes (g flags w)) p)) Unknown) rs
if_flags None p g rs = tt
if_flags (Some f) p g rs = if_computes p (g f) rs

if_compares : (c : Option Comparison) (p : Option ℕ) (rs : List PlainType) → IsReplaceable (unwrap_or (if_some c (λ c. option_map (λ w. Computes (Compares c w)) p)) Unknown) rs
if_compares None p rs = tt
if_compares (Some c) p rs = if_computes p (Compares c) rs

pub if_resizes : (p q : Option ℕ) (r : ℕ → ℕ → Resize) (rs : List PlainType) → IsReplaceable (unwrap_or (if_some p (λ w. option_map (λ m. Computes (Resizes (r w m) w)) q)) Unknown) rs
if_resizes None q r rs = tt
if_resizes (Some w) q r rs = if_computes q (λ m. Resizes (r w m) w) rs

if_truncates : (f : Option Flags) (p q : Option ℕ) (rs : List PlainType)
    → IsReplaceable (unwrap_or (if_some f (λ flags. if_some p (λ w. option_map (λ m. Computes (Resizes (Truncate flags m) w)) q))) Unknown) rs
if_truncates None p q rs = tt
if_truncates (Some f) p q rs = if_resizes p q (λ w m. Truncate f m) rs

-- what a comparison is, by its property
abbrev compared_by : Entries → Option Comparison
compared_by es = comparison_of (entries_tree es)

kept_comparison : (props es : Entries) → kept_props (codes "predicate") (entry (codes "predicate") props) ≡ Some es → compared_by es ≡ compared_by props
kept_comparison props es kept =
    ap (λ l. if_some (if_some l integer_in) (λ z. if_some (natural z) (λ n. comparison_at n comparisons))) (kept_level (codes "predicate") props es refl kept)

-- rows whose one operation has that name, in converted types
module _ (bits : ℕ) (h : width bits ≡ Some bits) (table : List Pattern) (root name : List ℕ) (no_root : is_root table name ≡ false) where
  -- by a class that looks at what is the same of both
  by_class : (c : Class) → class_of root classes ≡ Some c → class_of name classes ≡ Some c → (n : ℕ) (sources : List Source) (o : Shape) (props : Option Entries) (t : Template)
      → o.name ≡ root → when (is_plain n 1 o) (one_value name sources props (all_types bits o.results)) ≡ Some t
      → (length o.operands ≡ n → sources ≡ map Operand (places 0 o.operands))
      → IsReplaceable (unwrap_or (c (seen bits o.props o.operands o.results)) Unknown) o.results
      → ((es : Entries) → props ≡ Some es → c (seen bits es (map (becomes bits) o.operands) (map (becomes bits) o.results)) ≡ c (seen bits o.props o.operands o.results))
      → RowHolds bits table (new_type bits) o t
  by_class c of_root of_name n sources o props t named defined in_order replaceable same =
      let d : (is_plain n 1 o ≡ true) × (one_value name sources props (all_types bits o.results) ≡ Some t) = when_is _ _ t defined in
      let p : IsPlain n 1 o = plain_is n 1 o d.0 in
      let form_is : root_form bits o ≡ unwrap_or (c (seen bits o.props o.operands o.results)) Unknown = root_is bits o root c named of_root in
      value_holds bits table (new_type bits) o name sources props t d.1 p.results p.successors (in_order p.operands) no_root
      (subst (λ f. IsReplaceable f o.results) (sym form_is) replaceable)
      (λ es e. form_by name c of_name _ ∙ ap (λ f. unwrap_or f Unknown) (same es e) ∙ sym form_is)

  pub binary_sound : (op : Binary) → class_of root classes ≡ Some (two op) → class_of name classes ≡ Some (two op) → RowSound bits table root (new_type bits) (Straight (binary_row name bits))
  binary_sound op of_root of_name o t named fit defined =
      by_class (two op) of_root of_name 2 pair o (Some []) t named defined (two_are o.operands)
      (if_computes (width_in bits 0 o.operands) (TwoNumbers op) o.results)
      (λ es e. ap (option_map (λ w. Computes (TwoNumbers op w))) (width_in_becomes bits h 0 o.operands))

  pub flagged_sound : (op : Flags → Binary) → class_of root classes ≡ Some (flagged op) → class_of name classes ≡ Some (flagged op) → RowSound bits table root (new_type bits) (Straight (flagged_row name bits))
  flagged_sound op of_root of_name o t named fit defined =
      by_class (flagged op) of_root of_name 2 pair o (flag_props (entry (codes "overflowFlags") o.props)) t named defined (two_are o.operands)
      (if_flags (flags_of (entries_tree o.props)) (width_in bits 0 o.operands) (λ flags. TwoNumbers (op flags)) o.results)
      (λ es e. ap₂ (λ f w. if_some f (λ flags. option_map (λ w. Computes (TwoNumbers (op flags) w)) w)) (kept_flags o.props es e) (width_in_becomes bits h 0 o.operands))

  pub extended_sound : (r : ℕ → ℕ → Resize) → class_of root classes ≡ Some (resized r) → class_of name classes ≡ Some (resized r) → RowSound bits table root (new_type bits) (Straight (extended_row name bits))
  extended_sound r of_root of_name o t named fit defined =
      by_class (resized r) of_root of_name 1 (Operand 0 ∷ []) o (Some []) t named defined (one_is o.operands)
      (if_resizes (width_in bits 0 o.operands) (width_in bits 0 o.results) r o.results)
      (λ es e. ap₂ (λ w m. if_some w (λ w. option_map (λ m. Computes (Resizes (r w m) w)) m)) (width_in_becomes bits h 0 o.operands) (width_in_becomes bits h 0 o.results))

module _ (bits : ℕ) (h : width bits ≡ Some bits) (table : List Pattern) where
  pub cmpi_sound : is_root table (codes "llvm.icmp") ≡ false → RowSound bits table (codes "arith.cmpi") (new_type bits) (Straight (cmpi_row bits))
  cmpi_sound no_root o t named fit defined =
      by_class bits h table (codes "arith.cmpi") (codes "llvm.icmp") no_root comparison refl refl 2 pair o (kept_props (codes "predicate") (entry (codes "predicate") o.props)) t named defined (two_are o.operands)
      (if_compares (compared_by o.props) (width_in bits 0 o.operands) o.results)
      (λ es e. ap₂ (λ c w. if_some c (λ c. option_map (λ w. Computes (Compares c w)) w)) (kept_comparison o.props es e) (width_in_becomes bits h 0 o.operands))

  pub select_sound : is_root table (codes "llvm.select") ≡ false → RowSound bits table (codes "arith.select") (new_type bits) (Straight (select_row bits))
  select_sound no_root o t named fit defined =
      by_class bits h table (codes "arith.select") (codes "llvm.select") no_root (computes Selects) refl refl 3 (Operand 0 ∷ Operand 1 ∷ Operand 2 ∷ []) o (Some []) t named defined (three_are o.operands) tt (λ es e. refl)

  pub trunci_sound : is_root table (codes "llvm.trunc") ≡ false → RowSound bits table (codes "arith.trunci") (new_type bits) (Straight (trunci_row bits))
  trunci_sound no_root o t named fit defined =
      by_class bits h table (codes "arith.trunci") (codes "llvm.trunc") no_root truncation refl refl 1 (Operand 0 ∷ []) o (flag_props (entry (codes "overflowFlags") o.props)) t named defined (one_is o.operands)
      (if_truncates (flags_of (entries_tree o.props)) (width_in bits 0 o.operands) (width_in bits 0 o.results) o.results)
      (λ es e.
      ap (λ f. if_some f (λ flags. if_some (width_in bits 0 (map (becomes bits) o.operands)) (λ w. option_map (λ m. Computes (Resizes (Truncate flags m) w)) (width_in bits 0 (map (becomes bits) o.results))))) (kept_flags o.props es e)
      ∙ ap₂ (λ w m. if_some (flags_of (entries_tree o.props)) (λ flags. if_some w (λ w. option_map (λ m. Computes (Resizes (Truncate flags m) w)) m))) (width_in_becomes bits h 0 o.operands) (width_in_becomes bits h 0 o.results))
