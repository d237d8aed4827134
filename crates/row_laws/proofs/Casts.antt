-- Rows of casts of indices, and of constants.
use Rattle.std.proofs.Common.{◌≡◌, ◌⊎◌, inl, inr, ℕ, List, [], ◌∷◌, Option, Some, None, Bool, true, false, refl, sym, ap, ap₂, subst, ◌∙◌, arith}
use Rattle.std.specs.Prelude.{◌==◌, ◌&&◌, nat_lt, nat_le, codes, if◌then◌else◌}
use Rattle.std.specs.Option.{option_map, unwrap_or}
use Rattle.tree_model.specs.declared.type_tree.TypeTree.TheVariants.{outs-Int}
use Rattle.number_model.specs.Answers.{Gives}
use Rattle.number_model.specs.Arithmetic.{no_flags, Resize, Truncate, Keep}
use Rattle.operation_model.specs.Values.{Value, Integer, Pointer, Unset, Aggregate}
use Rattle.operation_model.specs.Pures.{Resizes, gives}
use Rattle.operation_model.specs.Doings.{Doing}
use Rattle.operation_model.specs.Forms.{Form, Computes, Unknown}
use Rattle.plain_tree.specs.Types.{PlainType, Int}
use Rattle.conversion_model.specs.declared.templates.Source.TheVariants.{Operand}
use Rattle.conversion_model.specs.Types.{new_type}
use Rattle.conversion_model.specs.Templates.{Template}
use Rattle.conversion_model.specs.Targets.{Shape}
use Rattle.conversion_model.specs.Rows.{Pattern, Straight}
use Rattle.form_model.specs.Types.{width, width_at}
use Rattle.form_model.specs.Properties.{if_some}
use Rattle.form_model.specs.Classes.{Class, class_of, classes, resized, truncation, cast_by}
use Rattle.pattern_model.specs.Drafts.{is_plain, draft, value}
use Rattle.pattern_model.specs.Drafts.{gives as gives_back}
use Rattle.pattern_model.specs.ArithRows.{one_value, all_types, index_cast_row, resized_types}
use Rattle.pattern_model.specs.ArithRows.{resized as by_widths}
use Rattle.sound_model.specs.Refinement.{Refines}
use Rattle.sound_model.specs.Runs.{items_of, form_at, root_form, root_runs, template_runs, counted}
use Rattle.sound_model.specs.Soundness.{IsReplaceable, is_root, RowHolds, RowSound}
use Rattle.sound_model.proofs.Refining.{refines_refl}
use Rattle.row_laws.proofs.Sources.{one_item}
use Rattle.row_laws.proofs.Values.{none_is, of_some, equal_numbers, when_is, IsPlain, plain_is, value_holds}
use Rattle.row_laws.proofs.Forms.{form_by, width_in, width_in_becomes}
use Rattle.row_laws.proofs.Steps.{of_gives, undefined_gives, outside_gives, root_computes, root_unknown}
use Rattle.row_laws.proofs.Extremes.{counts_one}
use Rattle.row_laws.proofs.Lowered.{root_is, if_resizes, one_is, seen}

-- the two integer types of a row that is defined
record Widths (name : List ℕ) (ts us : List PlainType) (t : Template) : Type 0 where
  m : ℕ
  n : ℕ
  from : ts ≡ Int m ∷ []
  to : us ≡ Int n ∷ []
  is : by_widths name m n ≡ Some t

widths_are : (name : List ℕ) (ts us : List PlainType) (t : Template) → resized_types name ts us ≡ Some t → Widths name ts us t
widths_are name (Int m ∷ []) (Int n ∷ []) t e = record { m = m; n = n; from = refl; to = refl; is = e }
widths_are name _ _ t e = absurd (none_is e)

-- the form of a cast between two widths
abbrev cast_form : (ℕ → Resize) → Option ℕ → Option ℕ → Form
cast_form extend p q = unwrap_or (if_some p (λ w. option_map (λ k. Computes (Resizes (cast_by extend w k) w)) q)) Unknown

-- to another width: by an extension or a cut
differs : (extend : ℕ → Resize) (g : ℕ → ℕ → Resize) (m n : ℕ) (b c : Bool) → g m n ≡ cast_by extend m n
    → unwrap_or (if_some (if b then Some m else None) (λ w. option_map (λ k. Computes (Resizes (g w k) w)) (if c then Some n else None))) Unknown
    ≡ cast_form extend (if b then Some m else None) (if c then Some n else None)
differs extend g m n true true e = ap (λ r. Computes (Resizes r m)) e
differs extend g m n true false e = refl
differs extend g m n false c e = refl

-- to the same width
not_less : (n : ℕ) → nat_lt n n ≡ false
not_less n = grind arith

stays : (extend : ℕ → Resize) (m : ℕ) (b : Bool)
    → (cast_form extend (if b then Some m else None) (if b then Some m else None) ≡ Unknown) ⊎ (cast_form extend (if b then Some m else None) (if b then Some m else None) ≡ Computes (Resizes Keep m))
stays extend m true = inr (ap (λ l. Computes (Resizes (if l then extend m else (if l then Truncate no_flags m else Keep)) m)) (not_less m))
stays extend m false = inl refl

less_is : (m n : ℕ) → (m == n) ≡ false → nat_lt m n ≡ false → nat_lt n m ≡ true
less_is m n e l = grind arith

kept : (w : ℕ) (x : Value) (ys : List Value) → gives (Resizes Keep w) (x ∷ []) ≡ Gives ys → x ∷ [] ≡ ys
kept w (Integer a) ys e = of_gives e
kept w (Pointer b o) ys e = absurd (outside_gives e)
kept w Unset ys e = absurd (undefined_gives e)
kept w (Aggregate ps) ys e = absurd (outside_gives e)

module _ (bits : ℕ) (h : width bits ≡ Some bits) (table : List Pattern) (root name : List ℕ) (extend : ℕ → Resize)
    (of_root : class_of root classes ≡ Some (resized (cast_by extend))) (of_name : class_of name classes ≡ Some (resized (λ w m. extend m)))
    (no_root : is_root table name ≡ false) (no_cut : is_root table (codes "llvm.trunc") ≡ false) where
  width_is : (ts : List PlainType) (m : ℕ) → all_types bits ts ≡ Int m ∷ [] → width_in bits 0 ts ≡ width m
  width_is ts m e = sym (width_in_becomes bits h 0 ts) ∙ ap (width_in bits 0) e ∙ ap (width_at bits) (outs-Int m)

  module _ (o : Shape) (named : o.name ≡ root) (p : IsPlain 1 1 o) (t : Template) (m n : ℕ) (from : all_types bits o.operands ≡ Int m ∷ []) (to : all_types bits o.results ≡ Int n ∷ []) where
    form_is : root_form bits o ≡ cast_form extend (width m) (width n)
    form_is = root_is bits o root (resized (cast_by extend)) named of_root ∙ ap₂ (cast_form extend) (width_is o.operands m from) (width_is o.results n to)

    replaceable : IsReplaceable (root_form bits o) o.results
    replaceable = subst (λ f. IsReplaceable f o.results) (sym form_is) (if_resizes (width m) (width n) (cast_by extend) o.results)

    same_runs : m ≡ n → (x : Value) (labels : List ℕ) (next : List Value → Doing) → Refines (root_runs bits o (x ∷ []) labels next) (next (x ∷ []))
    same_runs e x labels next = go (stays extend m (nat_le 1 m && nat_le m 64))
      where
        go : (cast_form extend (width m) (width m) ≡ Unknown) ⊎ (cast_form extend (width m) (width m) ≡ Computes (Resizes Keep m)) → Refines (root_runs bits o (x ∷ []) labels next) (next (x ∷ []))
        go (inl none) = root_unknown bits o (x ∷ []) labels next _ (form_is ∙ ap (λ k. cast_form extend (width m) (width k)) (sym e) ∙ none)
        go (inr same) =
            root_computes bits o (Resizes Keep m) (x ∷ []) labels next _ (form_is ∙ ap (λ k. cast_form extend (width m) (width k)) (sym e) ∙ same) λ ys given.
            subst (λ ys. Refines (counted o.results ys (next ys)) (next (x ∷ []))) (kept m x ys given)
            (subst (λ d. Refines d (next (x ∷ []))) (sym (counts_one o.results x (next (x ∷ [])) p.results)) (refines_refl (next (x ∷ []))))

    stays_holds : m ≡ n → RowHolds bits table (new_type bits) o (record { steps = []; results = Operand 0 ∷ [] })
    stays_holds e = record {
      replaceable = replaceable;
      steps = tt;
      does = record {
        types = ap (λ ts. items_of ts [] (Operand 0 ∷ [])) from ∙ ap (λ k. Some (Int k ∷ [])) e ∙ sym (ap Some to);
        same = λ args labels next count same places.
            one_item (λ args. Refines (root_runs bits o args labels next) (template_runs bits (all_types bits o.operands) args labels (record { steps = []; results = Operand 0 ∷ [] }) next))
            (λ x. same_runs e x labels next) args (count ∙ p.operands);
      };
    }

    by_name : (made : List ℕ) (c : Class) (g : ℕ → ℕ → Resize) → is_root table made ≡ false → one_value made (Operand 0 ∷ []) (Some []) (Int n ∷ []) ≡ Some t
        → class_of made classes ≡ Some c → ((ts us : List PlainType) → c (seen bits [] ts us) ≡ if_some (width_in bits 0 ts) (λ w. option_map (λ k. Computes (Resizes (g w k) w)) (width_in bits 0 us)))
        → g m n ≡ cast_by extend m n → RowHolds bits table (new_type bits) o t
    by_name made c g made_no_root defined of_made is same =
        value_holds bits table (new_type bits) o made (Operand 0 ∷ []) (Some []) t (ap (one_value made (Operand 0 ∷ []) (Some [])) to ∙ defined) p.results p.successors (one_is o.operands p.operands) made_no_root replaceable λ es e.
        ap (λ es. form_at bits made es (all_types bits o.operands) (all_types bits o.results)) (sym (of_some e))
        ∙ form_by made c of_made _ ∙ ap (λ f. unwrap_or f Unknown) (is _ _)
        ∙ ap₂ (λ p q. unwrap_or (if_some p (λ w. option_map (λ k. Computes (Resizes (g w k) w)) q)) Unknown) (ap (width_in bits 0) from ∙ ap (width_at bits) (outs-Int m)) (ap (width_in bits 0) to ∙ ap (width_at bits) (outs-Int n))
        ∙ differs extend g m n (nat_le 1 m && nat_le m 64) (nat_le 1 n && nat_le n 64) same ∙ sym form_is

    cast_holds : (same less : Bool) → (m == n) ≡ same → nat_lt m n ≡ less
        → (if same then draft (gives_back (Operand 0 ∷ [])) else draft (value (if less then name else codes "llvm.trunc") (Operand 0 ∷ []) [] (Int n) λ r. gives_back (r ∷ []))) ≡ Some t → RowHolds bits table (new_type bits) o t
    cast_holds true less e l defined = subst (λ t. RowHolds bits table (new_type bits) o t) (of_some defined) (stays_holds (equal_numbers m n e))
    cast_holds false true e l defined = by_name name (resized (λ w m. extend m)) (λ w m. extend m) no_root defined of_name (λ ts us. refl) (sym (ap (λ b. if b then extend n else (if nat_lt n m then Truncate no_flags n else Keep)) l))
    cast_holds false false e l defined =
        by_name (codes "llvm.trunc") truncation (λ w m. Truncate no_flags m) no_cut defined refl (λ ts us. refl)
        (sym (ap₂ (λ b c. if b then extend n else (if c then Truncate no_flags n else Keep)) l (less_is m n e l)))

  pub index_cast_sound : RowSound bits table root (new_type bits) (Straight (index_cast_row name bits))
  index_cast_sound o t named fit defined =
      let d : (is_plain 1 1 o ≡ true) × (resized_types name (all_types bits o.operands) (all_types bits o.results) ≡ Some t) = when_is _ _ t defined in
      let v : Widths name (all_types bits o.operands) (all_types bits o.results) t = widths_are name _ _ t d.1 in
      cast_holds o named (plain_is 1 1 o d.0) t v.m v.n v.from v.to (v.m == v.n) (nat_lt v.m v.n) refl refl v.is
