-- The rows of expand, arith and cf have one result at most, no regions, and no result that is a copy.
use Rattle.std.proofs.Common.{◌≡◌, ◌⊎◌, inl, inr, ℕ, ◌==◌, ◌≤◌, Bool, true, false, List, [], ◌∷◌, Option, Some, None, length, refl, sym, ap, ◌∙◌, subst, arith, true≢false}
use Rattle.std.specs.Prelude.{codes, nat_lt, if◌then◌else◌}
use Rattle.std.proofs.lemmas.Bool.{eqb-true}
use Rattle.plain_tree.specs.Types.{PlainType, Int, Index}
use Rattle.plain_tree.specs.Attrs.{Entries, entry}
use Rattle.conversion_model.specs.declared.templates.Source.{Source}
use Rattle.conversion_model.specs.declared.templates.Source.TheVariants.{Operand, Made}
use Rattle.conversion_model.specs.Templates.{Template}
use Rattle.conversion_model.specs.Targets.{Shape}
use Rattle.conversion_model.specs.Chosen.{change_of}
use Rattle.pattern_model.specs.Drafts.{Draft, draft, gives, is_plain, value, when}
use Rattle.pattern_model.specs.ExpandRows.{ceildivui_draft, expand_set, extreme_draft, of_type, rounded}
use Rattle.pattern_model.specs.ArithRows.{all_types, arith_set, constant_props, extreme_types, flag_props, index_cast_row, kept_props, one_value, pair, resized, resized_types}
use Rattle.pattern_model.specs.CfRows.{br_row, cf_set, cond_br_row, conditional, has_other_type, is_branch}
use Rattle.rule_model.specs.Rows.{shape_of}
use Rattle.rule_model.specs.Rules.{if_registered}
use Rattle.rule_model.specs.Types.{index_and_integer, results_fit}
use Rattle.sound_model.specs.Soundness.{IsFit, facts_with}
use Rattle.chosen_laws.proofs.Lists.{none_some, some_same}
use Rattle.pass_laws.proofs.Counted.{and_left, and_right}
use Rattle.conversion_laws.specs.PlainRows.{AllOf, PatternPlain, RowPlain, Uncopied, is_cast, is_made}

-- where a test holds and what follows it gives a template
record Holds (b : Bool) (x : Option Template) (t : Template) : Type 0 where
  test : b ≡ true
  gives_it : x ≡ Some t

holds : (b : Bool) (x : Option Template) (t : Template) → when b x ≡ Some t → Holds b x t
holds true x t e = record { test = refl; gives_it = e }
holds false x t e = absurd (none_some e)

nothing_left : (change : PlainType → Option PlainType) (types rts : List PlainType) → Uncopied change types rts []
nothing_left change types [] = tt
nothing_left change types (r ∷ rs) = tt

one_made : (change : PlainType → Option PlainType) (types rts : List PlainType) (k : ℕ) → Uncopied change types rts (Made k ∷ [])
one_made change types [] k = tt
one_made change types (r ∷ rs) k = (inl is_made, nothing_left change types rs)

at_most_one : (n : ℕ) → n ≡ 1 → n ≤ 1
at_most_one n is = omega (arith, is)

at_most_none : (n : ℕ) → n ≡ 0 → n ≤ 1
at_most_none n is = omega (arith, is)

-- a row of a plain shape with one result that is made
plain_made : (change : PlainType → Option PlainType) (operands k : ℕ) (o : Shape) (x : Option Template) (t : Template) → ((u : Template) → x ≡ Some u → u.results ≡ Made k ∷ []) → when (is_plain operands 1 o) x ≡ Some t → RowPlain change o t
plain_made change operands k o x t made e =
    let h = holds (is_plain operands 1 o) x t e in
    let rest = and_right (length o.operands == operands) _ h.test in
    let behind = and_right (length o.results == 1) _ rest in
    record {
      few = at_most_one (length o.results) (eqb-true (length o.results) 1 (and_left (length o.results == 1) _ rest));
      no_regions = eqb-true o.regions 0 (and_right (o.successors == 0) _ behind);
      uncopied = subst (Uncopied change o.operands o.results) (sym (made t h.gives_it)) (one_made change o.operands o.results k);
    }

-- Expand

typed_made : (d : PlainType → Draft) (k : ℕ) → ((t : PlainType) → (d t 0).results ≡ Made k ∷ []) → (rs : List PlainType) (u : Template) → of_type d rs ≡ Some u → u.results ≡ Made k ∷ []
typed_made d k made [] u e = absurd (none_some e)
typed_made d k made (t ∷ []) u e = ap (λ (x : Template). x.results) (sym (some_same e)) ∙ made t
typed_made d k made (t ∷ s ∷ rs) u e = absurd (none_some e)

pub expand_plain : (bits : ℕ) → AllOf (PatternPlain bits) expand_set
expand_plain bits = (
  λ o t name fit e. plain_made (change_of bits false) 2 10 o (of_type (rounded 0 (codes "arith.addi")) o.results) t (typed_made (rounded 0 (codes "arith.addi")) 10 (λ u. refl) o.results) e,
  (
    λ o t name fit e. plain_made (change_of bits false) 2 6 o (of_type ceildivui_draft o.results) t (typed_made ceildivui_draft 6 (λ u. refl) o.results) e,
    (
      λ o t name fit e. plain_made (change_of bits false) 2 10 o (of_type (rounded 1 (codes "arith.subi")) o.results) t (typed_made (rounded 1 (codes "arith.subi")) 10 (λ u. refl) o.results) e,
      (
        λ o t name fit e. plain_made (change_of bits false) 2 1 o (of_type (extreme_draft 4) o.results) t (typed_made (extreme_draft 4) 1 (λ u. refl) o.results) e,
        (λ o t name fit e. plain_made (change_of bits false) 2 1 o (of_type (extreme_draft 2) o.results) t (typed_made (extreme_draft 2) 1 (λ u. refl) o.results) e, tt),
      ),
    ),
  ),
)

-- Arith

value_made : (name : List ℕ) (sources : List Source) (props : Option Entries) (ts : List PlainType) (u : Template) → one_value name sources props ts ≡ Some u → u.results ≡ Made 0 ∷ []
value_made name sources None ts u e = absurd (none_some e)
value_made name sources (Some props) [] u e = absurd (none_some e)
value_made name sources (Some props) (t ∷ []) u e = ap (λ (x : Template). x.results) (sym (some_same e))
value_made name sources (Some props) (t ∷ s ∷ ts) u e = absurd (none_some e)

extreme_made : (n : ℕ) (ts : List PlainType) (u : Template) → extreme_types n ts ≡ Some u → u.results ≡ Made 1 ∷ []
extreme_made n [] u e = absurd (none_some e)
extreme_made n (t ∷ []) u e = ap (λ (x : Template). x.results) (sym (some_same e))
extreme_made n (t ∷ s ∷ ts) u e = absurd (none_some e)

-- a cast between integers gives the operand or a value
resized_results : (name : List ℕ) (m n : ℕ) (u : Template) → resized name m n ≡ Some u → (u.results ≡ Operand 0 ∷ []) ⊎ (u.results ≡ Made 0 ∷ [])
resized_results name m n u e = go (m == n) e
  where
    go : (b : Bool) → (if b then draft (gives (Operand 0 ∷ [])) else draft (value (if nat_lt m n then name else codes "llvm.trunc") (Operand 0 ∷ []) [] (Int n) (λ r. gives (r ∷ [])))) ≡ Some u
        → (u.results ≡ Operand 0 ∷ []) ⊎ (u.results ≡ Made 0 ∷ [])
    go true e = inl (ap (λ (x : Template). x.results) (sym (some_same e)))
    go false e = inr (ap (λ (x : Template). x.results) (sym (some_same e)))

cast_results : (name : List ℕ) (ts us : List PlainType) (u : Template) → resized_types name ts us ≡ Some u → (u.results ≡ Operand 0 ∷ []) ⊎ (u.results ≡ Made 0 ∷ [])
cast_results name (Int m ∷ []) (Int n ∷ []) u e = resized_results name m n u e
cast_results name ts us u e = absurd (none_some e)

cast_of_operand : (bits : ℕ) (ts us : List PlainType) → index_and_integer ts us ≡ true → Uncopied (change_of bits true) ts us (Operand 0 ∷ [])
cast_of_operand bits (Index ∷ []) (Int m ∷ []) is = (inl (is_cast refl refl), tt)
cast_of_operand bits (Int n ∷ []) (Index ∷ []) is = (inr (Int bits, refl), tt)
cast_of_operand bits ts us is = absurd (true≢false (sym is))

cast_plain : (bits : ℕ) (root name : List ℕ) (o : Shape) (t : Template) → index_and_integer o.operands o.results ≡ true → index_cast_row name bits o ≡ Some t → RowPlain (change_of bits true) o t
cast_plain bits root name o t fits e =
    let h = holds (is_plain 1 1 o) (resized_types name (all_types bits o.operands) (all_types bits o.results)) t e in
    let rest = and_right (length o.operands == 1) _ h.test in
    let behind = and_right (length o.results == 1) _ rest in
    record {
      few = at_most_one (length o.results) (eqb-true (length o.results) 1 (and_left (length o.results == 1) _ rest));
      no_regions = eqb-true o.regions 0 (and_right (o.successors == 0) _ behind);
      uncopied = by_results (cast_results name (all_types bits o.operands) (all_types bits o.results) t h.gives_it);
    }
  where
    by_results : (t.results ≡ Operand 0 ∷ []) ⊎ (t.results ≡ Made 0 ∷ []) → Uncopied (change_of bits true) o.operands o.results t.results
    by_results (inl is) = subst (Uncopied (change_of bits true) o.operands o.results) (sym is) (cast_of_operand bits o.operands o.results fits)
    by_results (inr is) = subst (Uncopied (change_of bits true) o.operands o.results) (sym is) (one_made (change_of bits true) o.operands o.results 0)

-- what the rules ask of a cast of an index
cast_fits : (root : List ℕ) (o : Shape) → o.name ≡ root → (fit : IsFit o) → if_registered (results_fit (facts_with o fit.successors fit.regions fit.holder fit.last)) (shape_of root) ≡ true
cast_fits root o name fit = subst (λ n. if_registered (results_fit (facts_with o fit.successors fit.regions fit.holder fit.last)) (shape_of n) ≡ true) name fit.results_are

module _ (bits : ℕ) where
  one_value_plain : (operands : ℕ) (name : List ℕ) (sources : List Source) (o : Shape) (props : Option Entries) (t : Template) → when (is_plain operands 1 o) (one_value name sources props (all_types bits o.results)) ≡ Some t → RowPlain (change_of bits true) o t
  one_value_plain operands name sources o props t e =
      plain_made (change_of bits true) operands 0 o (one_value name sources props (all_types bits o.results)) t (value_made name sources props (all_types bits o.results)) e

  two_plain : (name : List ℕ) (o : Shape) (t : Template) → when (is_plain 2 1 o) (one_value name pair (Some []) (all_types bits o.results)) ≡ Some t → RowPlain (change_of bits true) o t
  two_plain name o t e = one_value_plain 2 name pair o (Some []) t e

  flagged_plain : (name : List ℕ) (o : Shape) (t : Template) → when (is_plain 2 1 o) (one_value name pair (flag_props (entry (codes "overflowFlags") o.props)) (all_types bits o.results)) ≡ Some t → RowPlain (change_of bits true) o t
  flagged_plain name o t e = one_value_plain 2 name pair o (flag_props (entry (codes "overflowFlags") o.props)) t e

  extended_plain : (name : List ℕ) (o : Shape) (t : Template) → when (is_plain 1 1 o) (one_value name (Operand 0 ∷ []) (Some []) (all_types bits o.results)) ≡ Some t → RowPlain (change_of bits true) o t
  extended_plain name o t e = one_value_plain 1 name (Operand 0 ∷ []) o (Some []) t e

  extreme_plain : (n : ℕ) (o : Shape) (t : Template) → when (is_plain 2 1 o) (extreme_types n (all_types bits o.results)) ≡ Some t → RowPlain (change_of bits true) o t
  extreme_plain n o t e = plain_made (change_of bits true) 2 1 o (extreme_types n (all_types bits o.results)) t (extreme_made n (all_types bits o.results)) e

  pub arith_plain : AllOf (PatternPlain bits) arith_set
  arith_plain = (
    λ o t name fit e. one_value_plain 0 (codes "llvm.mlir.constant") [] o (constant_props bits (entry (codes "value") o.props)) t e,
    (
      λ o t name fit e. flagged_plain (codes "llvm.add") o t e,
      (
        λ o t name fit e. flagged_plain (codes "llvm.sub") o t e,
        (
          λ o t name fit e. flagged_plain (codes "llvm.mul") o t e,
          (
            λ o t name fit e. two_plain (codes "llvm.sdiv") o t e,
            (
              λ o t name fit e. two_plain (codes "llvm.udiv") o t e,
              (
                λ o t name fit e. two_plain (codes "llvm.srem") o t e,
                (
                  λ o t name fit e. two_plain (codes "llvm.urem") o t e,
                  (
                    λ o t name fit e. two_plain (codes "llvm.and") o t e,
                    (
                      λ o t name fit e. two_plain (codes "llvm.or") o t e,
                      (
                        λ o t name fit e. two_plain (codes "llvm.xor") o t e,
                        (
                          λ o t name fit e. flagged_plain (codes "llvm.shl") o t e,
                          (
                            λ o t name fit e. two_plain (codes "llvm.ashr") o t e,
                            (
                              λ o t name fit e. two_plain (codes "llvm.lshr") o t e,
                              (
                                λ o t name fit e. one_value_plain 2 (codes "llvm.icmp") pair o (kept_props (codes "predicate") (entry (codes "predicate") o.props)) t e,
                                (
                                  λ o t name fit e. one_value_plain 3 (codes "llvm.select") (Operand 0 ∷ Operand 1 ∷ Operand 2 ∷ []) o (Some []) t e,
                                  (
                                    λ o t name fit e. extended_plain (codes "llvm.sext") o t e,
                                    (
                                      λ o t name fit e. extended_plain (codes "llvm.zext") o t e,
                                      (
                                        λ o t name fit e. one_value_plain 1 (codes "llvm.trunc") (Operand 0 ∷ []) o (flag_props (entry (codes "overflowFlags") o.props)) t e,
                                        (
                                          λ o t name fit e. cast_plain bits (codes "arith.index_cast") (codes "llvm.sext") o t (cast_fits (codes "arith.index_cast") o name fit) e,
                                          (
                                            λ o t name fit e. cast_plain bits (codes "arith.index_castui") (codes "llvm.zext") o t (cast_fits (codes "arith.index_castui") o name fit) e,
                                            (
                                              λ o t name fit e. extreme_plain 4 o t e,
                                              (
                                                λ o t name fit e. extreme_plain 8 o t e,
                                                (
                                                  λ o t name fit e. extreme_plain 2 o t e,
                                                  (λ o t name fit e. extreme_plain 6 o t e, tt),
                                                ),
                                              ),
                                            ),
                                          ),
                                        ),
                                      ),
                                    ),
                                  ),
                                ),
                              ),
                            ),
                          ),
                        ),
                      ),
                    ),
                  ),
                ),
              ),
            ),
          ),
        ),
      ),
    ),
  )

  -- Branches

  branch_plain : (n : ℕ) (o : Shape) (x : Option Template) (t : Template) → ((u : Template) → x ≡ Some u → u.results ≡ []) → when (is_branch n o) x ≡ Some t → RowPlain (change_of bits true) o t
  branch_plain n o x t none e =
      let h = holds (is_branch n o) x t e in
      let rest = and_right (length o.results == 0) _ h.test in
      record {
        few = at_most_none (length o.results) (eqb-true (length o.results) 0 (and_left (length o.results == 0) _ h.test));
        no_regions = eqb-true o.regions 0 (and_right (o.successors == n) _ rest);
        uncopied = subst (Uncopied (change_of bits true) o.operands o.results) (sym (none t h.gives_it)) (nothing_left (change_of bits true) o.operands o.results);
      }

  br_plain : (o : Shape) (t : Template) → br_row bits o ≡ Some t → RowPlain (change_of bits true) o t
  br_plain o t e = branch_plain 1 o _ t (λ u is. ap (λ (x : Template). x.results) (sym (some_same is))) e

  conditional_results : (o : Shape) (props : Option Entries) (u : Template) → conditional o props ≡ Some u → u.results ≡ []
  conditional_results o None u e = absurd (none_some e)
  conditional_results o (Some props) u e = ap (λ (x : Template). x.results) (sym (some_same e))

  cond_br_plain : (o : Shape) (t : Template) → cond_br_row bits o ≡ Some t → RowPlain (change_of bits true) o t
  cond_br_plain o t e = branch_plain 2 o _ t (conditional_results o (kept_props (codes "operandSegmentSizes") (entry (codes "operandSegmentSizes") o.props))) e

  pub cf_plain : AllOf (PatternPlain bits) cf_set
  cf_plain = (
    λ o t name fit e. br_plain o t e,
    (
      λ o t name fit e. cond_br_plain o t e,
      (
        λ o t name fit e. br_plain o t (holds (has_other_type o) (br_row bits o) t e).gives_it,
        (λ o t name fit e. cond_br_plain o t (holds (has_other_type o) (cond_br_row bits o) t e).gives_it, tt),
      ),
    ),
  )
